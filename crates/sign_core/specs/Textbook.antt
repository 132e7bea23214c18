-- The textbook signature of a binding, and what is sound: functions of the records alone.
use Rattle.std.specs.Prelude.{◌≡◌, ℕ, zero, suc, ◌-◌, Bool, true, false, not, List, [], ◌∷◌, ◌++◌, ◌&&◌}
use Rattle.std.specs.Prelude.{length, take, find, slice_get, slice_index_or, unwrap_or}
use Rattle.std.specs.Prelude.{Option, Some, None, option_and_then, option_map}
use Rattle.typecodes.specs.declared.types.LmsPair.{LmsPair}
use Rattle.typecodes.specs.Levels.{AreLevels}
use Rattle.lmots.specs.Key.{message_digest_of}
use Rattle.typecodes.specs.declared.secret.LmsSecret.{LmsSecret}
use Rattle.lms.specs.Secret.{public_of as lms_public_of, rooted_public, root_of_secret as lms_root_of}
use Rattle.lms.specs.Writing.{public_bytes as lms_public_bytes, signature_bytes as lms_signature_bytes}
use Rattle.lms.specs.Writing.{textbook as lms_textbook}
use Rattle.xmss.specs.Secret.{digest_at as xmss_digest_at, root_of_secret as xmss_root_of}
use Rattle.xmss.specs.Writing.{signature_bytes as xmss_signature_bytes, textbook as xmss_textbook}
use Rattle.hss.specs.Secret.{Signing}
use Rattle.hss.specs.Writing.{signature_bytes as hss_signature_bytes, textbook as hss_textbook}
use Rattle.state_file.specs.Laws.{IsCurrent, IsLegal}
use Rattle.state_file.specs.declared.record.Bound.{Bound}
use Rattle.state_file.specs.declared.record.Extend.{Extend}
use Rattle.state_file.specs.declared.record.Key.{Key}
use Rattle.state_file.specs.declared.record.Record.{Record}
use Rattle.state_file.specs.declared.record.Record.TheVariants.{Key as KeyRecord, Extend as ExtendRecord}
use Rattle.state_file.specs.declared.record.Record.TheVariants.{Bound as BoundRecord}
use Rattle.state_file.specs.declared.record.Secret.{Secret}
use Rattle.state_file.specs.declared.record.Secret.TheVariants.{Lms, Hss, Xmss}
use Rattle.sign_core.specs.declared.key.AnyPublic.{AnyPublic}
use Rattle.sign_core.specs.declared.key.AnyPublic.TheVariants.{Lms as AnyLms, Hss as AnyHss, Xmss as AnyXmss}
use Rattle.sign_core.specs.Records.{are_same, current, the_key}

-- ---- secrets

abbrev pub lms_secret : LmsPair → (identifier seed : List ℕ) → LmsSecret
lms_secret pair identifier seed = record { pair = pair; identifier = identifier; seed = seed }

-- The LMS trees of a key, one or more levels of them: the top tree's secret, and the types of each level's trees.
pub record Trees : Type 0 where
  pub top : LmsSecret
  pub pairs : List LmsPair

-- the secret of the tree that a record makes; the top tree's for a Key, and for a record that makes none
abbrev pub made_secret : Trees → Option Record → LmsSecret
made_secret trees (Some (ExtendRecord extend)) =
    lms_secret (slice_index_or trees.pairs extend.level trees.top.pair) extend.identifier extend.seed
made_secret trees _ = trees.top

-- Requirement: RFC 8554 6, parameters
abbrev pub secret_at : Trees → List Record → (tree : ℕ) → LmsSecret
secret_at trees records tree = made_secret trees (slice_get records tree)

-- ---- chains of trees

-- the tree of a level that is current before place k; where there is none, the Key's
abbrev pub current_at : (level : ℕ) → List Record → (k : ℕ) → ℕ
current_at level records k = unwrap_or (current level (take k records)) 0

-- the trees from the Key's down to a level's tree, each under the one that was current above it when it was made
abbrev pub tree_chain : (level : ℕ) → List Record → (tree : ℕ) → List ℕ
tree_chain zero records tree = tree ∷ []
tree_chain (suc level) records tree = tree_chain level records (current_at level records tree) ++ tree ∷ []

-- The chain leads from the Key's tree down to a level's tree: each of its trees is under the one before it, which was
-- current when the tree was made.
pub record IsTreeChain (records : List Record) (level tree : ℕ) (chain : List ℕ) : Type 0 where
  pub count : length chain ≡ suc level
  pub last : slice_get chain level ≡ Some tree
  pub each : (i above below : ℕ) → slice_get chain i ≡ Some above → slice_get chain (suc i) ≡ Some below
      → IsCurrent records below i above

abbrev pub leaf_signing : LmsSecret → (leaf : ℕ) → (randomizer digest : List ℕ) → Signing
leaf_signing secret leaf randomizer digest =
    record { secret = secret; leaf = leaf; randomizer = randomizer; digest = digest }

-- the signing of the tree that a record makes, by a leaf of its parent tree
abbrev pub parent_signing : Trees → List Record → (parent : ℕ) → Option Record → List Signing
parent_signing trees records parent (Some (ExtendRecord extend)) =
    leaf_signing (secret_at trees records parent) extend.parent_leaf extend.randomizer extend.digest ∷ []
parent_signing trees records parent _ = []

-- the signings of a chain's trees below the Key's, from the top down
abbrev pub chain_signings : Trees → (level : ℕ) → List Record → (tree : ℕ) → List Signing
chain_signings trees zero records tree = []
chain_signings trees (suc level) records tree =
    let parent = current_at level records tree in
    chain_signings trees level records parent ++ parent_signing trees records parent (slice_get records tree)

-- ---- by scheme

-- The LMS trees of a key; XMSS has none.
abbrev pub trees_of : Secret → Option Trees
trees_of (Lms secret) = Some (record { top = secret; pairs = secret.pair ∷ [] })
trees_of (Hss (pair ∷ rest) identifier seed) =
    Some (record { top = lms_secret pair identifier seed; pairs = pair ∷ rest })
trees_of _ = None

abbrev pub any_public : Secret → (root : List ℕ) → Option AnyPublic
any_public (Lms secret) root = Some (AnyLms (rooted_public secret root))
any_public (Hss [] identifier seed) root = None
any_public (Hss (pair ∷ rest) identifier seed) root =
    Some (AnyHss (record { levels = length (pair ∷ rest); top = rooted_public (lms_secret pair identifier seed) root }))
any_public (Xmss secret) root = Some (AnyXmss (record { tree = secret.tree; root = root; seed = secret.public_seed }))

abbrev pub any_public_of : Key → Option AnyPublic
any_public_of key = any_public key.secret key.root

-- where there is a key
abbrev pub public_of_key : Option Key → Option AnyPublic
public_of_key found = option_and_then any_public_of found

-- bytes of a key's LMS trees
abbrev pub by_trees : Secret → (Trees → List ℕ) → List ℕ
by_trees secret bytes = unwrap_or (option_map bytes (trees_of secret)) []

-- The digest that a leaf of the bottom tree before place k signs for a message: Q by C, or M' by SK_PRF and the
-- recorded root.
abbrev pub any_digest : Secret → (root : List ℕ) → List Record → (k leaf : ℕ) → (randomizer message : List ℕ) → List ℕ
any_digest (Lms secret) root records k leaf randomizer message =
    message_digest_of secret.identifier leaf randomizer message
any_digest (Hss levels identifier seed) root records k leaf randomizer message =
    let tree = current_at (length levels - 1) records k in
    by_trees (Hss levels identifier seed)
    (λ trees. message_digest_of (secret_at trees records tree).identifier leaf randomizer message)
any_digest (Xmss secret) root records k leaf randomizer message = xmss_digest_at secret root leaf message

abbrev pub digest_at : Key → List Record → (k leaf : ℕ) → (randomizer message : List ℕ) → List ℕ
digest_at key records k leaf randomizer message = any_digest key.secret key.root records k leaf randomizer message

-- ---- signatures

-- The textbook signature of a binding whose record stands at place k.
abbrev pub any_signature : Secret → List Record → (k : ℕ) → Bound → List ℕ
any_signature (Lms secret) records k bound =
    lms_signature_bytes (lms_textbook secret bound.leaf bound.randomizer bound.digest)
any_signature (Hss levels identifier seed) records k bound =
    let bottom = length levels - 1 in
    let tree = current_at bottom records k in
    by_trees (Hss levels identifier seed) (λ trees. hss_signature_bytes (hss_textbook
    (chain_signings trees bottom records tree)
    (leaf_signing (secret_at trees records tree) bound.leaf bound.randomizer bound.digest)))
any_signature (Xmss secret) records k bound = xmss_signature_bytes (xmss_textbook secret bound.leaf bound.digest)

abbrev pub textbook_signature : Key → List Record → (k : ℕ) → Bound → List ℕ
textbook_signature key records k bound = any_signature key.secret records k bound

-- ---- what is sound

-- the root of a key's top tree
abbrev pub key_root : Secret → List ℕ
key_root (Xmss secret) = xmss_root_of secret
key_root secret = by_trees secret (λ trees. lms_root_of trees.top)

-- whether the Extend at place k has the root of the tree's secret, and the digest of the tree's public key under the
-- parent's I and leaf
abbrev pub is_sound_extend : Option Trees → List Record → (k : ℕ) → Extend → Bool
is_sound_extend None records k extend = false
is_sound_extend (Some trees) records k extend =
    let made = lms_public_of (made_secret trees (Some (ExtendRecord extend))) in
    let parent = secret_at trees records (current_at (extend.level - 1) records k) in
    are_same extend.root made.root
    && are_same extend.digest
    (message_digest_of parent.identifier extend.parent_leaf extend.randomizer (lms_public_bytes made))

-- whether the record at place k has its tree's root, and the digest of the tree's public key
abbrev pub is_sound_record : Key → List Record → (k : ℕ) → Option Record → Bool
is_sound_record key records k (Some (KeyRecord own)) = are_same own.root (key_root own.secret)
is_sound_record key records k (Some (ExtendRecord extend)) = is_sound_extend (trees_of key.secret) records k extend
is_sound_record key records k _ = true

abbrev pub is_sound_at : Key → List Record → (k : ℕ) → Bool
is_sound_at key records k = is_sound_record key records k (slice_get records k)

-- the first record of a chain of trees, from the top down, that isn't sound
abbrev pub damaged_at : Key → (level : ℕ) → List Record → (tree : ℕ) → Option ℕ
damaged_at key level records tree = find (λ k. not (is_sound_at key records k)) (tree_chain level records tree)

pub record AreSound (records : List Record) : Type 0 where
  pub legal : IsLegal records
  pub key : Key
  pub keyed : the_key records ≡ Some key
  pub sound : (k : ℕ) → is_sound_at key records k ≡ true

-- ---- sizes

-- the parts of a secret have their sizes in bytes, and it has 1 to 8 levels
abbrev pub SecretHasSizes : Secret → Type 0
SecretHasSizes (Lms secret) = (length secret.identifier ≡ 16) × (length secret.seed ≡ 32)
SecretHasSizes (Hss levels identifier seed) = (length identifier ≡ 16) × (length seed ≡ 32) × AreLevels levels
SecretHasSizes (Xmss secret) =
    (length secret.secret_seed ≡ 32) × (length secret.prf_key ≡ 32) × (length secret.public_seed ≡ 32)

abbrev pub HasSizes : Record → Type 0
HasSizes (KeyRecord key) = SecretHasSizes key.secret × (length key.root ≡ 32)
HasSizes (ExtendRecord extend) = (length extend.identifier ≡ 16) × (length extend.seed ≡ 32)
    × (length extend.randomizer ≡ 32) × (length extend.digest ≡ 32) × (length extend.root ≡ 32)
HasSizes (BoundRecord bound) = (length bound.randomizer ≡ 32) × (length bound.digest ≡ 32)
HasSizes _ = Unit {0}

abbrev pub AllHaveSizes : List Record → Type 0
AllHaveSizes records = (k : ℕ) (entry : Record) → slice_get records k ≡ Some entry → HasSizes entry
