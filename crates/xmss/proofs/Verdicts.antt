-- Key, message and bytes alone decide verification's answers.
use Rattle.std.proofs.Common.{◌≡◌, ℕ, List, Option, Result, Err, sym, subst}
use Rattle.std.specs.Prelude.{◌≢◌, ◌↔◌, ◌<◌, ◌^◌, IsOk, length}
use Rattle.typecodes.specs.Message.{ReadWhole, Transition}
use Rattle.typecodes.specs.Layout.{Spells}
use Rattle.typecodes.specs.Verdict.{VerdictLaws}
use Rattle.typecodes.specs.inner.Verdict.{DigestVerdict}
use Rattle.typecodes.specs.declared.refusal.Refusal.{Refusal}
use Rattle.typecodes.specs.declared.refusal.Refusal.TheVariants.{Unreadable, TypeMismatch, LevelMismatch, RootMismatch, MessageRead}
use Rattle.typecodes.proofs.Spelling.{one_value}
use Rattle.typecodes.proofs.Verdicts.{Refused, of_digest, tree_laws}
use Rattle.typecodes.specs.Types.{wots_chains, xmss_height_of}
use Rattle.xmss.specs.declared.key.XmssPublic.{XmssPublic}
use Rattle.xmss.specs.Signature.{Signature, signature}
use Rattle.xmss.specs.Verification.{IsValid, IsValidFor, LeadsTo, LeavesMessage, IsSignature, Verdict, digest_of}

pub verdict_of_digest : {A : Type 0} (key : XmssPublic) (message digest bytes : List ℕ) (s : Signature) (result : Result A Refusal)
    → digest ≡ digest_of key message s → Spells (signature key.tree) s bytes → DigestVerdict (IsValidFor key digest s) 0 result
    → Verdict key message bytes result
verdict_of_digest key message digest bytes s result same spelled verdict =
    of_digest (Verdict key message bytes) (IsValidFor key digest s) 0 result verdict
    (λ x valid. (s, spelled, subst (λ d. IsValidFor key d s) same valid))
    (λ level at invalid. (at, (s, spelled, λ valid. invalid (subst (λ d. IsValidFor key d s) (sym same) valid))))

pub digest_was_read : {A : Type 0} (key : XmssPublic) (digest : List ℕ) (s : Signature) (result : Result A Refusal)
    → DigestVerdict (IsValidFor key digest s) 0 result → result ≡ Err MessageRead → ⊥
digest_was_read key digest s result verdict same = elim (subst (DigestVerdict (IsValidFor key digest s) 0) same verdict) [ ]

pub leaves_of_digest : {M A : Type 0} (transition : Transition M) (remaining : M → Option (List ℕ)) (text : List ℕ) (old new : M) (key : XmssPublic)
    (digest : List ℕ) (s : Signature) (result : Result A Refusal) → DigestVerdict (IsValidFor key digest s) 0 result
    → ReadWhole transition remaining text old new → LeavesMessage transition remaining text old new result
leaves_of_digest transition remaining text old new key digest s result verdict read =
    of_digest (LeavesMessage transition remaining text old new) (IsValidFor key digest s) 0 result verdict
    (λ x valid. read) (λ level at invalid. read)

-- a refusal is one of any tree, where the signature names no type of its own
refused : (key : XmssPublic) (message bytes : List ℕ) (refusal : Refusal) → Verdict {A = Unit {0}} key message bytes (Err refusal)
    → Refused (signature key.tree) (λ s. Unit {0}) (IsValid key message) bytes refusal
refused key message bytes (Unreadable fault) faulty = faulty
refused key message bytes (TypeMismatch level) never = absurd never
refused key message bytes LevelMismatch never = absurd never
refused key message bytes MessageRead (s, spelled) = (s, spelled, tt)
refused key message bytes (RootMismatch level) (top, (s, spelled, invalid)) = (top, (s, spelled, tt, invalid))

pub laws : VerdictLaws Verdict (λ key. signature key.tree) IsValid (λ key refusal. refusal ≡ RootMismatch 0)
laws = tree_laws Verdict (λ key. signature key.tree) (λ key s. Unit {0}) IsValid refused (λ key message s valid. tt)

pub accepted : (key : XmssPublic) (message bytes : List ℕ) (result : Result (Unit {0}) Refusal) → Verdict key message bytes result
    → result ≢ Err MessageRead → (s : Signature) → Spells (signature key.tree) s bytes → IsValid key message s → IsOk result
accepted = laws.accepted

-- the one root to which a signature that the bytes spell leads is the key's exactly where the signature is valid
pub root_of_bytes : (key : XmssPublic) (message digest bytes root : List ℕ) (s : Signature) → digest ≡ digest_of key message s
    → Spells (signature key.tree) s bytes → length s.chains ≡ wots_chains → s.index < 2 ^ xmss_height_of key.tree
    → length s.path ≡ xmss_height_of key.tree → LeadsTo key digest s root → ((other : List ℕ) → LeadsTo key digest s other → other ≡ root)
    → (root ≡ key.root) ↔ IsSignature key message bytes
root_of_bytes key message digest bytes root s same spelled chains leaf height leads only = (
  λ is. (
    s,
    spelled,
    record {
      chains = chains;
      leaf = leaf;
      height = height;
      leads = subst (LeadsTo key (digest_of key message s) s) is (subst (λ d. LeadsTo key d s root) same leads);
    },
  ),
  λ (t, spelled_too, valid).
      let valid_too = subst (IsValid key message) (one_value (signature key.tree) t s bytes spelled_too spelled) valid in
      sym (only key.root (subst (λ d. LeadsTo key d s key.root) (sym same) valid_too.leads)),
)
