-- What a secret makes: leaves, nodes, the public key, authentication paths, randomizers and digests (RFC 8391 3.1.3,
-- 3.1.4, 4.1.6, 4.1.7 and 4.1.9). Also what callers see of its tree.
use Rattle.std.specs.Prelude.{ℕ, List}
use Rattle.typecodes.specs.Types.{xmss_height_of}
use Rattle.merkle.specs.Tree.{Joins, Leaves, path_at, root_of}
use Rattle.wots_plus.specs.Hashes.{prf}
use Rattle.wots_plus.specs.Key.{ends_of_secret, public_hash}
use Rattle.xmss.specs.declared.key.XmssPublic.{XmssPublic}
use Rattle.typecodes.specs.declared.secret.XmssSecret.{XmssSecret}
use Rattle.xmss.specs.declared.secret.XmssTree.{XmssTree}
use Rattle.xmss.specs.Digest.{index_bytes, message_digest_of}
use Rattle.xmss.specs.Nodes.{join_of}

-- the leaves: each the root of the L-tree over the ends of its chains, with its index as OTS address and L-tree address
-- (4.1.6)
abbrev pub leaves_of : XmssSecret → Leaves
leaves_of secret index =
    public_hash secret.public_seed index (ends_of_secret secret.public_seed index secret.secret_seed)

-- the join of two nodes
abbrev pub joins_of : XmssSecret → Joins
joins_of secret = join_of secret.public_seed

abbrev pub root_of_secret : XmssSecret → List ℕ
root_of_secret secret = root_of (leaves_of secret) (joins_of secret) (xmss_height_of secret.tree)

-- the public key of a secret's tree with this root, whether or not the root is the tree's
abbrev pub rooted_public : XmssSecret → (root : List ℕ) → XmssPublic
rooted_public secret root = record { tree = secret.tree; root = root; seed = secret.public_seed }

abbrev pub public_of : XmssSecret → XmssPublic
public_of secret = rooted_public secret (root_of_secret secret)

abbrev pub leaf_path : XmssSecret → ℕ → List (List ℕ)
leaf_path secret index = path_at (leaves_of secret) (joins_of secret) (xmss_height_of secret.tree) index

-- r = PRF(SK_PRF, toByte(idx, 32)) (4.1.9)
abbrev pub randomizer_at : List ℕ → ℕ → List ℕ
randomizer_at prf_key index = prf prf_key (index_bytes index)

-- M', the digest of a message that a leaf signs
abbrev pub digest_at : XmssSecret → List ℕ → ℕ → List ℕ → List ℕ
digest_at secret root index message = message_digest_of (randomizer_at secret.prf_key index) root index message

abbrev pub secret_of : XmssTree → XmssSecret
secret_of tree = tree.secret

abbrev pub leaves_made : XmssTree → ℕ
leaves_made tree = tree.made
