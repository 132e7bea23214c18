-- Which signatures are valid (RFC 8391 4.1.10, 3.1.6 and 4.1.5), and verification's answers, with the first refusal.
use Rattle.std.specs.Prelude.{◌≡◌, ◌↔◌, ℕ, ◌<◌, ◌^◌, List, Option, length, Result, Ok, Err}
use Rattle.typecodes.specs.declared.refusal.Refusal.{Refusal}
use Rattle.typecodes.specs.declared.refusal.Refusal.TheVariants.{Unreadable, TypeMismatch, LevelMismatch}
use Rattle.typecodes.specs.declared.refusal.Refusal.TheVariants.{RootMismatch, MessageRead}
use Rattle.typecodes.specs.Layout.{Spells, HasFault}
use Rattle.typecodes.specs.Message.{Transition}
use Rattle.typecodes.specs.Verdict.{LeavesMessage as TreeLeavesMessage}
use Rattle.typecodes.specs.Types.{wots_chains, xmss_height_of}
use Rattle.merkle.specs.Ascent.{PathLeadsTo}
use Rattle.wots_plus.specs.Key.{ClimbTo, public_hash}
use Rattle.xmss.specs.declared.key.XmssPublic.{XmssPublic}
use Rattle.xmss.specs.Digest.{message_digest_of, message_prefix_of}
use Rattle.xmss.specs.Nodes.{join_of}
use Rattle.xmss.specs.Signature.{Signature, signature}

-- The signature of a digest M' leads to this node. Its values climb from the digits of M' to the chains' ends, whose
-- L-tree gives the leaf. The path leads from the leaf to the node.
pub record LeadsTo (key : XmssPublic) (digest : List ℕ) (s : Signature) (node : List ℕ) : Type 0 where
  pub ends : List (List ℕ)
  pub climbed : ClimbTo key.seed s.index digest s.chains ends
  pub path : PathLeadsTo (join_of key.seed) s.index (public_hash key.seed s.index ends) s.path node

-- The signature has a value for each chain (3.1.1), a leaf's index, and a path of the tree's height. With this digest
-- it leads to the key's root.
pub record IsValidFor (key : XmssPublic) (digest : List ℕ) (s : Signature) : Type 0 where
  pub chains : length s.chains ≡ wots_chains
  pub leaf : s.index < 2 ^ xmss_height_of key.tree
  pub height : length s.path ≡ xmss_height_of key.tree
  pub leads : LeadsTo key digest s key.root

-- M', the digest of a signature's message
abbrev pub digest_of : XmssPublic → List ℕ → Signature → List ℕ
digest_of key message s = message_digest_of s.randomizer key.root s.index message

-- what is hashed before the message: toByte(2, 32), r, the root and toByte(idx, 32) (4.1.9)
abbrev pub prefix_of : XmssPublic → Signature → List ℕ
prefix_of key s = message_prefix_of s.randomizer key.root s.index

-- If the bytes spell a signature, this is the message's digest under it.
abbrev pub IsDigest : XmssPublic → List ℕ → List ℕ → List ℕ → Type 0
IsDigest key message bytes digest =
    (s : Signature) → Spells (signature key.tree) s bytes → digest ≡ digest_of key message s

-- The bytes spell a signature, and this is its message's prefix.
abbrev pub HasPrefix : XmssPublic → List ℕ → List ℕ → Type 0
HasPrefix key bytes prefix = (s : Signature) × Spells (signature key.tree) s bytes × (prefix ≡ prefix_of key s)

-- It is valid for the message's digest.
abbrev pub IsValid : XmssPublic → List ℕ → Signature → Type 0
IsValid key message s = IsValidFor key (digest_of key message s) s

-- Ok: the bytes spell a valid signature of the key's type. Else one of these: the bytes have this fault; or they spell
-- a signature, and the message can't be read; or they spell one that isn't valid.
-- Requirement: RFC 8391 3.1.6, rejected
-- Requirement: RFC 8391 4.1.10, fails
abbrev pub Verdict : {A : Type 0} → XmssPublic → List ℕ → List ℕ → Result A Refusal → Type 0
Verdict key message bytes (Ok _) = (s : Signature) × Spells (signature key.tree) s bytes × IsValid key message s
Verdict key message bytes (Err (Unreadable fault)) = HasFault (signature key.tree) bytes 0 fault
Verdict key message bytes (Err (TypeMismatch level)) = ⊥
Verdict key message bytes (Err LevelMismatch) = ⊥
Verdict key message bytes (Err MessageRead) = (s : Signature) × Spells (signature key.tree) s bytes
Verdict key message bytes (Err (RootMismatch level)) =
    (level ≡ 0) × ((s : Signature) × Spells (signature key.tree) s bytes × (IsValid key message s → ⊥))

-- What happens to the message: as with any tree, except that types never differ.
abbrev pub LeavesMessage : {M A : Type 0} → Transition M → (M → Option (List ℕ)) → List ℕ → M → M → Result A Refusal
    → Type 0
LeavesMessage transition remaining text old new (Err (TypeMismatch level)) = ⊥
LeavesMessage transition remaining text old new result = TreeLeavesMessage transition remaining text old new result

-- The bytes spell a signature that is valid for the message.
abbrev pub IsSignature : XmssPublic → List ℕ → List ℕ → Type 0
IsSignature key message bytes = (s : Signature) × Spells (signature key.tree) s bytes × IsValid key message s

-- The root to which a signature's bytes lead is the key's exactly where they spell a valid signature. Where they lead
-- to none, they spell no valid one.
abbrev pub GivesRoot : XmssPublic → List ℕ → List ℕ → Result (List ℕ) Refusal → Type 0
GivesRoot key message bytes (Ok root) = (root ≡ key.root) ↔ IsSignature key message bytes
GivesRoot key message bytes (Err refusal) = IsSignature key message bytes → ⊥
