-- The key, the message and the bytes alone decide the answers of verification.
use Rattle.std.proofs.Common.{◌≡◌, ℕ, List, Option, Result, Ok, Err, sym, subst}
use Rattle.std.specs.Prelude.{◌≢◌, ◌↔◌, ◌<◌, ◌^◌, IsOk, length}
use Rattle.typecodes.specs.Message.{ReadWhole, Transition}
use Rattle.typecodes.specs.Layout.{Spells}
use Rattle.typecodes.specs.Verdict.{VerdictLaws}
use Rattle.typecodes.specs.inner.Verdict.{DigestVerdict}
use Rattle.typecodes.proofs.Spelling.{one_value}
use Rattle.typecodes.proofs.Verdicts.{Refused, of_digest, tree_laws}
use Rattle.typecodes.specs.Types.{chains_of, height_of}
use Rattle.lms.specs.declared.key.LmsPublic.{LmsPublic}
use Rattle.typecodes.specs.declared.refusal.Refusal.{Refusal}
use Rattle.typecodes.specs.declared.refusal.Refusal.TheVariants.{Unreadable, TypeMismatch, LevelMismatch, RootMismatch, MessageRead}
use Rattle.lms.specs.Signature.{Signature, signature}
use Rattle.lms.specs.Verification.{GivesRoot, IsValid, IsValidFor, LeadsTo, LeavesMessage, LevelGivesRoot, LevelVerdict, IsSignature, Verdict, digest_of}

-- the answer for a message's digest is the answer for the message
pub level_of_digest : {A : Type 0} (key : LmsPublic) (message digest : List ℕ) (s : Signature) (i : ℕ) (result : Result A Refusal)
    → digest ≡ digest_of key message s → s.pair ≡ key.pair → DigestVerdict (IsValidFor key digest s) i result → LevelVerdict key message s i result
level_of_digest key message digest s i result same types verdict =
    of_digest (LevelVerdict key message s i) (IsValidFor key digest s) i result verdict
    (λ x valid. subst (λ d. IsValidFor key d s) same valid)
    (λ level at invalid. (at, types, λ valid. invalid (subst (λ d. IsValidFor key d s) (sym same) valid)))

-- with a digest the message was read
pub digest_was_read : {A : Type 0} (key : LmsPublic) (digest : List ℕ) (s : Signature) (i : ℕ) (result : Result A Refusal)
    → DigestVerdict (IsValidFor key digest s) i result → result ≡ Err MessageRead → ⊥
digest_was_read key digest s i result verdict same = elim (subst (DigestVerdict (IsValidFor key digest s) i) same verdict) [ ]

pub leaves_of_digest : {M A : Type 0} (transition : Transition M) (remaining : M → Option (List ℕ)) (text : List ℕ) (old new : M) (key : LmsPublic)
    (digest : List ℕ) (s : Signature) (i : ℕ) (result : Result A Refusal) → DigestVerdict (IsValidFor key digest s) i result
    → ReadWhole transition remaining text old new → LeavesMessage transition remaining text old new result
leaves_of_digest transition remaining text old new key digest s i result verdict read =
    of_digest (LeavesMessage transition remaining text old new) (IsValidFor key digest s) i result verdict
    (λ x valid. read) (λ level at invalid. read)

-- the answer for a signature that bytes spell is the answer for the bytes
pub whole_verdict : {A : Type 0} (key : LmsPublic) (message bytes : List ℕ) (s : Signature) (result : Result A Refusal) → Spells signature s bytes → LevelVerdict key message s 0 result
    → Verdict key message bytes result
whole_verdict key message bytes s (Ok x) spelled valid = (s, spelled, valid)
whole_verdict key message bytes s (Err (Unreadable fault)) spelled never = elim never [ ]
whole_verdict key message bytes s (Err (TypeMismatch level)) spelled (top, differs) = (top, (s, spelled, differs))
whole_verdict key message bytes s (Err LevelMismatch) spelled never = elim never [ ]
whole_verdict key message bytes s (Err MessageRead) spelled types = (s, spelled, types)
whole_verdict key message bytes s (Err (RootMismatch level)) spelled (top, types, invalid) = (top, (s, spelled, types, invalid))

-- what a refusal says, in the words that all trees share
refused : (key : LmsPublic) (message bytes : List ℕ) (refusal : Refusal) → Verdict {A = Unit {0}} key message bytes (Err refusal)
    → Refused signature (λ s. s.pair ≡ key.pair) (IsValid key message) bytes refusal
refused key message bytes (Unreadable fault) faulty = faulty
refused key message bytes (TypeMismatch level) differs = differs
refused key message bytes LevelMismatch never = absurd never
refused key message bytes MessageRead unread = unread
refused key message bytes (RootMismatch level) invalid = invalid

pub laws : VerdictLaws Verdict (λ key. signature) IsValid (λ key refusal. refusal ≡ RootMismatch 0)
laws = tree_laws Verdict (λ key. signature) (λ key s. s.pair ≡ key.pair) IsValid refused (λ key message s valid. valid.types)

-- a valid signature is refused only where the message can't be read
pub accepted : (key : LmsPublic) (message bytes : List ℕ) (result : Result (Unit {0}) Refusal) → Verdict key message bytes result
    → result ≢ Err MessageRead → (s : Signature) → Spells signature s bytes → IsValid key message s → IsOk result
accepted = laws.accepted

-- ---- roots

-- the one root to which a signature of the key's types leads is the key's exactly where the signature is valid
pub root_of_level : (key : LmsPublic) (message digest root : List ℕ) (s : Signature) → digest ≡ digest_of key message s → s.pair ≡ key.pair
    → length s.chains ≡ chains_of s.pair.ots → s.q < 2 ^ height_of s.pair.tree → length s.path ≡ height_of s.pair.tree
    → LeadsTo key digest s root → ((other : List ℕ) → LeadsTo key digest s other → other ≡ root) → (root ≡ key.root) ↔ IsValid key message s
root_of_level key message digest root s same types chains leaf height leads only = (
  λ is. record {
    types = types;
    chains = subst (λ pair. length s.chains ≡ chains_of pair.ots) types chains;
    leaf = subst (λ pair. s.q < 2 ^ height_of pair.tree) types leaf;
    height = subst (λ pair. length s.path ≡ height_of pair.tree) types height;
    leads = subst (LeadsTo key (digest_of key message s) s) is (subst (λ d. LeadsTo key d s root) same leads);
  },
  λ valid. sym (only key.root (subst (λ d. LeadsTo key d s key.root) (sym same) valid.leads)),
)

-- a valid signature that the bytes spell is the one that was decoded
signs_decoded : (key : LmsPublic) (message bytes : List ℕ) (s : Signature) → Spells signature s bytes → IsSignature key message bytes → IsValid key message s
signs_decoded key message bytes s spelled (t, spelled_too, valid) =
    subst (λ s. IsValid key message s) (one_value signature t s bytes spelled_too spelled) valid

-- the root of a decoded signature is the root of its bytes
pub whole_root : (key : LmsPublic) (message bytes : List ℕ) (s : Signature) (result : Result (List ℕ) Refusal) → Spells signature s bytes
    → LevelGivesRoot key message s 0 result → GivesRoot key message bytes result
whole_root key message bytes s (Ok root) spelled exact =
    (λ is. (s, spelled, exact.0 is), λ signs. exact.1 (signs_decoded key message bytes s spelled signs))
whole_root key message bytes s (Err refusal) spelled (is, invalid) =
    λ signs. invalid (signs_decoded key message bytes s spelled signs)
