-- Which signatures are valid (RFC 8554 5.4.2 and 4.6), and what verification answers, with the first refusal.
use Rattle.std.specs.Prelude.{◌≡◌, ◌≢◌, ◌↔◌, ℕ, ◌<◌, ◌^◌, List, length, Result, Ok, Err}
use Rattle.typecodes.specs.declared.refusal.Refusal.{Refusal}
use Rattle.typecodes.specs.declared.refusal.Refusal.TheVariants.{Unreadable, TypeMismatch, LevelMismatch}
use Rattle.typecodes.specs.declared.refusal.Refusal.TheVariants.{RootMismatch, MessageRead}
use Rattle.typecodes.specs.Layout.{Spells, HasFault}
pub use Rattle.typecodes.specs.Verdict.{LeavesMessage}
use Rattle.typecodes.specs.Types.{chains_of, height_of}
use Rattle.merkle.specs.Ascent.{PathLeadsTo}
use Rattle.lmots.specs.Key.{ClimbTo, message_digest_of, message_prefix_of, public_hash}
use Rattle.lms.specs.declared.key.LmsPublic.{LmsPublic}
use Rattle.lms.specs.Nodes.{join_of, leaf_of}
use Rattle.lms.specs.Signature.{Signature, signature}

-- The node to which a signature of the digest Q leads under a key. The values climb from their digits of Q to the ends
-- of their chains. The ends make a leaf, and the path leads from it to the node.
pub record LeadsTo (key : LmsPublic) (digest : List ℕ) (s : Signature) (node : List ℕ) : Type 0 where
  pub ends : List (List ℕ)
  pub climbed : ClimbTo key.identifier s.q s.pair.ots digest s.chains ends
  pub path : PathLeadsTo (join_of key.identifier (height_of s.pair.tree)) s.q
      (leaf_of key.identifier (height_of s.pair.tree) s.q (public_hash key.identifier s.q ends)) s.path node

-- The signature is valid for a digest: it leads to the key's root. Its types are the key's, it has a value for each
-- chain, q is a leaf, and the path is as long as the tree is high.
pub record IsValidFor (key : LmsPublic) (digest : List ℕ) (s : Signature) : Type 0 where
  pub types : s.pair ≡ key.pair
  pub chains : length s.chains ≡ chains_of key.pair.ots
  pub leaf : s.q < 2 ^ height_of key.pair.tree
  pub height : length s.path ≡ height_of key.pair.tree
  pub leads : LeadsTo key digest s key.root

-- Q, the digest of the message that the signature signs
abbrev pub digest_of : LmsPublic → List ℕ → Signature → List ℕ
digest_of key message s = message_digest_of key.identifier s.q s.randomizer message

-- I, q, D_MESG and C, which are hashed before the message (4.5)
abbrev pub prefix_of : LmsPublic → Signature → List ℕ
prefix_of key s = message_prefix_of key.identifier s.q s.randomizer

-- If the bytes spell a signature, this is the message's digest under it.
abbrev pub IsDigest : LmsPublic → List ℕ → List ℕ → List ℕ → Type 0
IsDigest key message bytes digest = (s : Signature) → Spells signature s bytes → digest ≡ digest_of key message s

-- The bytes spell a signature, and this is what is hashed before its message.
abbrev pub HasPrefix : LmsPublic → List ℕ → List ℕ → Type 0
HasPrefix key bytes prefix = (s : Signature) × Spells signature s bytes × (prefix ≡ prefix_of key s)

-- The signature is valid for the message's digest.
abbrev pub IsValid : LmsPublic → List ℕ → Signature → Type 0
IsValid key message s = IsValidFor key (digest_of key message s) s

-- What verification answers of a signature's bytes.
--
-- - Ok: they spell a valid signature.
-- - `Unreadable`: they spell none, and have this fault.
-- - `TypeMismatch`: they spell one of other types than the key's.
-- - `MessageRead`: they spell one of the key's types, and the message can't be read.
-- - `RootMismatch`: they spell one of the key's types that isn't valid.
-- Requirement: RFC 8554 9, types
abbrev pub Verdict : {A : Type 0} → LmsPublic → List ℕ → List ℕ → Result A Refusal → Type 0
Verdict key message bytes (Ok _) = (s : Signature) × Spells signature s bytes × IsValid key message s
Verdict key message bytes (Err (Unreadable fault)) = HasFault signature bytes 0 fault
Verdict key message bytes (Err (TypeMismatch level)) =
    (level ≡ 0) × ((s : Signature) × Spells signature s bytes × (s.pair ≢ key.pair))
Verdict key message bytes (Err LevelMismatch) = ⊥
Verdict key message bytes (Err MessageRead) = (s : Signature) × Spells signature s bytes × (s.pair ≡ key.pair)
Verdict key message bytes (Err (RootMismatch level)) =
    (level ≡ 0) × ((s : Signature) × Spells signature s bytes × (s.pair ≡ key.pair) × (IsValid key message s → ⊥))

-- What verification answers of a decoded signature, as level i of an HSS signature: as `Verdict`, without faults.
abbrev pub LevelVerdict : {A : Type 0} → LmsPublic → List ℕ → Signature → ℕ → Result A Refusal → Type 0
LevelVerdict key message s i (Ok _) = IsValid key message s
LevelVerdict key message s i (Err (Unreadable fault)) = ⊥
LevelVerdict key message s i (Err (TypeMismatch level)) = (level ≡ i) × (s.pair ≢ key.pair)
LevelVerdict key message s i (Err LevelMismatch) = ⊥
LevelVerdict key message s i (Err MessageRead) = s.pair ≡ key.pair
LevelVerdict key message s i (Err (RootMismatch level)) =
    (level ≡ i) × (s.pair ≡ key.pair) × (IsValid key message s → ⊥)

-- The bytes spell a signature that is valid for the message.
abbrev pub IsSignature : LmsPublic → List ℕ → List ℕ → Type 0
IsSignature key message bytes = (s : Signature) × Spells signature s bytes × IsValid key message s

-- The root to which a signature's bytes lead is the key's exactly where they spell a valid signature. Where they lead
-- to none, they spell no valid one.
abbrev pub GivesRoot : LmsPublic → List ℕ → List ℕ → Result (List ℕ) Refusal → Type 0
GivesRoot key message bytes (Ok root) = (root ≡ key.root) ↔ IsSignature key message bytes
GivesRoot key message bytes (Err refusal) = IsSignature key message bytes → ⊥

-- The same of a decoded signature, as level i of an HSS signature.
abbrev pub LevelGivesRoot : LmsPublic → List ℕ → Signature → ℕ → Result (List ℕ) Refusal → Type 0
LevelGivesRoot key message s i (Ok root) = (root ≡ key.root) ↔ IsValid key message s
LevelGivesRoot key message s i (Err refusal) = (refusal ≡ TypeMismatch i) × (IsValid key message s → ⊥)
