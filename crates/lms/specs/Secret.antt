-- What a secret makes: leaves, nodes, public key, authentication paths and digests (RFC 8554 4.3, 4.5, 5.2, 5.3 and
-- Appendix A); and what callers see of its tree.
use Rattle.std.specs.Prelude.{ℕ, List}
use Rattle.typecodes.specs.Types.{height_of}
use Rattle.merkle.specs.Tree.{Joins, Leaves, path_at, root_of}
use Rattle.lmots.specs.Key.{ends_of_seed, message_digest_of, public_hash}
use Rattle.lms.specs.declared.key.LmsPublic.{LmsPublic}
use Rattle.typecodes.specs.declared.secret.LmsSecret.{LmsSecret}
use Rattle.lms.specs.declared.secret.LmsTree.{LmsTree}
use Rattle.lms.specs.Nodes.{join_of, leaf_of}

-- the leaves of a secret's tree, each from the ends of all its chains
abbrev pub leaves_of : LmsSecret → Leaves
leaves_of secret q = leaf_of secret.identifier (height_of secret.pair.tree) q
    (public_hash secret.identifier q (ends_of_seed secret.identifier q secret.pair.ots secret.seed))

-- the nodes above them
abbrev pub joins_of : LmsSecret → Joins
joins_of secret = join_of secret.identifier (height_of secret.pair.tree)

abbrev pub root_of_secret : LmsSecret → List ℕ
root_of_secret secret = root_of (leaves_of secret) (joins_of secret) (height_of secret.pair.tree)

-- the public key of a secret's tree with this root, whether or not the root is the tree's
abbrev pub rooted_public : LmsSecret → (root : List ℕ) → LmsPublic
rooted_public secret root = record { pair = secret.pair; identifier = secret.identifier; root = root }

abbrev pub public_of : LmsSecret → LmsPublic
public_of secret = rooted_public secret (root_of_secret secret)

abbrev pub leaf_path : LmsSecret → ℕ → List (List ℕ)
leaf_path secret q = path_at (leaves_of secret) (joins_of secret) (height_of secret.pair.tree) q

-- the digest Q of a message that leaf q signs with the randomizer C
abbrev pub digest_at : LmsSecret → ℕ → List ℕ → List ℕ → List ℕ
digest_at secret q randomizer message = message_digest_of secret.identifier q randomizer message

-- the secret that a tree's leaves are made from
abbrev pub secret_of : LmsTree → LmsSecret
secret_of tree = tree.secret

-- how many leaves of a tree were made
abbrev pub leaves_made : LmsTree → ℕ
leaves_made tree = tree.made
