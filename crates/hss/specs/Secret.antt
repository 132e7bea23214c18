-- What a level of a signature is made with.
use Rattle.std.specs.Prelude.{ℕ, List}
use Rattle.lms.specs.declared.key.LmsPublic.{LmsPublic}
use Rattle.typecodes.specs.declared.secret.LmsSecret.{LmsSecret}
use Rattle.lms.specs.Signature.{Signature as LmsSignature}
use Rattle.lms.specs.SigningTree.{key_of as key_of_tree, path_of_tree}
use Rattle.lms.specs.Writing.{made_signature as lms_made_signature}
use Rattle.hss.specs.declared.secret.Level.{Level}

-- a tree's secret, a leaf, the randomizer C, and the digest Q of what the level signs
pub record Signing : Type 0 where
  pub secret : LmsSecret
  pub leaf : ℕ
  pub randomizer : List ℕ
  pub digest : List ℕ

-- what a level signs with
abbrev pub signing_of : Level → Signing
signing_of level = record {
  secret = level.tree.secret;
  leaf = level.tree.leaf;
  randomizer = level.randomizer;
  digest = level.digest;
}

-- a level's public key, and its signature
abbrev pub key_of : Level → LmsPublic
key_of level = key_of_tree level.tree

abbrev pub signature_of_level : Level → LmsSignature
signature_of_level level =
    lms_made_signature level.tree.secret level.tree.leaf level.randomizer level.digest (path_of_tree level.tree)
