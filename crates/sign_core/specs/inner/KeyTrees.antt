-- The chains of LMS trees that a signer makes in memory, and what they sign.
use Rattle.std.specs.Prelude.{◌≡◌, ℕ, zero, suc, List, map, slice_get, Some}
use Rattle.typecodes.specs.declared.secret.LmsSecret.{LmsSecret}
use Rattle.lms.specs.Secret.{leaf_path, root_of_secret}
use Rattle.lms.specs.declared.signing_tree.SigningTree.{SigningTree}
use Rattle.lms.specs.SigningTree.{path_of_tree}
use Rattle.hss.specs.declared.secret.Level.{Level}
use Rattle.hss.specs.Secret.{Signing, signing_of}
use Rattle.state_file.specs.declared.record.Bound.{Bound}
use Rattle.state_file.specs.declared.record.Extend.{Extend}
use Rattle.state_file.specs.declared.record.Key.{Key}
use Rattle.state_file.specs.declared.record.Record.{Record}
use Rattle.state_file.specs.declared.record.Record.TheVariants.{Extend as ExtendRecord}
use Rattle.state_file.specs.declared.record.Secret.{Secret}
use Rattle.state_file.specs.declared.record.Secret.TheVariants.{Xmss}
use Rattle.sign_core.specs.declared.key_trees.KeyTrees.{KeyTrees}
use Rattle.sign_core.specs.declared.secret_trees.SecretTrees.{SecretTrees}
use Rattle.sign_core.specs.declared.secret_trees.SecretTrees.TheVariants.{Chain, Xmss as XmssTree}
use Rattle.sign_core.specs.Textbook.{Trees, secret_at, leaf_signing, trees_of}

abbrev pub chain_trees : KeyTrees → Trees
chain_trees trees = record { top = trees.top; pairs = trees.levels }

-- These are the trees of a key of LMS or HSS.
abbrev pub AreTreesOf : KeyTrees → Key → Type 0
AreTreesOf trees key = trees_of key.secret ≡ Some (chain_trees trees)

-- The trees of a key's secret, in any scheme.
abbrev pub MakesTrees : Secret → SecretTrees → Type 0
MakesTrees secret (Chain trees) = trees_of secret ≡ Some (chain_trees trees)
MakesTrees secret (XmssTree own) = secret ≡ Xmss own

-- A tree of a level stands at a place: the Key's at level 0, else the tree of an Extend of the level.
abbrev pub IsTreeAt : List Record → (level place : ℕ) → Type 0
IsTreeAt records zero place = place ≡ 0
IsTreeAt records (suc level) place =
    (extend : Extend) × (slice_get records place ≡ Some (ExtendRecord extend)) × (extend.level ≡ suc level)

-- what the binding of a tree's leaf signs
abbrev pub signing_of_bound : Trees → List Record → (tree : ℕ) → Bound → Signing
signing_of_bound trees records tree bound =
    leaf_signing (secret_at trees records tree) bound.leaf bound.randomizer bound.digest

abbrev pub signings_of : List Level → List Signing
signings_of levels = map signing_of levels

-- The root of a tree is its secret's, and the path its leaf's.
pub record IsMade (tree : SigningTree) : Type 0 where
  pub root : tree.root ≡ root_of_secret tree.secret
  pub path : path_of_tree tree ≡ leaf_path tree.secret tree.leaf

-- The same of the trees of all levels.
abbrev pub AreMade : List Level → Type 0
AreMade levels = (i : ℕ) (level : Level) → slice_get levels i ≡ Some level → IsMade level.tree

-- A tree is made from a secret, and this leaf of it is to sign.
pub record IsTreeBy (secret : LmsSecret) (leaf : ℕ) (tree : SigningTree) : Type 0 where
  pub secret_is : tree.secret ≡ secret
  pub leaf_is : tree.leaf ≡ leaf
  pub made : IsMade tree
