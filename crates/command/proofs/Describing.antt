-- What bytes are: what a reader refuses, what the next one finds, and what first bytes say of the whole.
use Rattle.std.proofs.Common.{◌≡◌, ◌∙◌, ◌<◌, ◌≤◌, ℕ, zero, suc, List, Option, Some, None, Result, Ok, Err, IsErrAnd, length, length-take-le, take, take_all, refl, sym, ap, subst, inl, inr, arith}
use Rattle.std.proofs.lemmas.Bool.{cases_lt}
use Rattle.key_audit.specs.declared.listing.Listing.{Listing}
use Rattle.typecodes.specs.Layout.{HasFault, Layout}
use Rattle.typecodes.specs.declared.fault.ReadFault.{ReadFault}
use Rattle.typecodes.specs.declared.types.XmssType.TheVariants as xmss
use Rattle.typecodes.proofs.Spelling.{no_value}
use Rattle.hss.specs.Signature.{Signature as HssFields}
use Rattle.xmss.specs.Signature.{signature as xmss_signature}
use Rattle.command.specs.declared.answer.Done.{Done}
use Rattle.command.specs.declared.described.Described.{Described}
use Rattle.command.specs.declared.refusal.Refusal.{Refusal}
use Rattle.command.specs.declared.trace.Role.TheVariants as role
use Rattle.command.specs.Described.{DescribesFile, DescribesWhole, IsDescription, SpellNoXmss, SpellNone, SpellNothing, carried_identifier, carried_key}
use Rattle.command.specs.Files.{FailsToReadOrKeep, decisive}
use Rattle.command.specs.ListState.{AnswersListed}
use Rattle.command.specs.Trace.{Happening}
use Rattle.command.proofs.PairsReading.{same_start}

-- ---- readers

pub none_spelled : {V : Type 0} (layout : Layout V) (bytes : List ℕ) (fault : ReadFault) → HasFault layout bytes 0 fault → SpellNone layout bytes
none_spelled layout bytes fault has v spelled = no_value layout v bytes 0 fault spelled has

-- what the first reader refuses, and what the others say
pub then_found : (First Rest : Type 0) (bytes : List ℕ) (found : Option Described) → First → IsDescription Rest bytes found
    → IsDescription (First × Rest) bytes found
then_found First Rest bytes (Some described) first given = given
then_found First Rest bytes None first given = (first, given)

no_xmss : (bytes : List ℕ) → SpellNone (xmss_signature xmss.H10) bytes → SpellNone (xmss_signature xmss.H16) bytes
    → SpellNone (xmss_signature xmss.H20) bytes → SpellNoXmss bytes
no_xmss bytes no10 no16 no20 xmss.H10 = no10
no_xmss bytes no10 no16 no20 xmss.H16 = no16
no_xmss bytes no10 no16 no20 xmss.H20 = no20

pub last_found : (bytes : List ℕ) (found : Option Described) → SpellNone (xmss_signature xmss.H10) bytes → SpellNone (xmss_signature xmss.H16) bytes
    → IsDescription (SpellNone (xmss_signature xmss.H20) bytes) bytes found → IsDescription (SpellNoXmss bytes) bytes found
last_found bytes (Some described) no10 no16 given = given
last_found bytes None no10 no16 no20 = no_xmss bytes no10 no16 no20

-- ---- levels

pub top_identifier : (s : HssFields) (i : ℕ) → i < 1 → None ≡ carried_identifier s i
top_identifier s zero top = refl
top_identifier s (suc i) top = absurd (omega (arith, top))

pub lower_identifier : (s : HssFields) (i : ℕ) → 1 ≤ i → Some (carried_key s i).identifier ≡ carried_identifier s i
lower_identifier s zero lower = absurd (omega (arith, lower))
lower_identifier s (suc i) lower = refl

-- ---- first bytes

same_whole : (first whole : List ℕ) → first ≡ take decisive whole → (length first ≡ decisive → ⊥) → first ≡ whole
same_whole first whole is short = elim (cases_lt decisive (length whole)) [
  | inl longer ↦ absurd (short (ap length is ∙ length-take-le decisive whole (omega (arith, longer))))
  | inr shorter ↦ is ∙ take_all decisive whole shorter
]

in_whole : (whole : List ℕ) (found : Option Described) → IsDescription (SpellNothing whole) whole found → DescribesWhole whole found
in_whole whole (Some described) given = given
in_whole whole None given = inr given

pub short_described : (first whole : List ℕ) (found : Option Described) → (length first ≡ decisive → ⊥) → IsDescription (SpellNothing first) first found
    → first ≡ take decisive whole → DescribesWhole whole found
short_described first whole found short given is =
    in_whole whole found (subst (λ l. IsDescription (SpellNothing l) l found) (same_whole first whole is short) given)

pub long_described : (first whole : List ℕ) → length first ≡ decisive → first ≡ take decisive whole → DescribesWhole whole None
long_described first whole long is = elim (cases_lt (length whole) decisive) [
  | inl shorter ↦ absurd (omega (arith, shorter, long, ap length (is ∙ take_all decisive whole (omega (arith, shorter)))))
  | inr longer ↦ inl longer
]

-- ---- files

pub file_fails : (content : List ℕ → Option (List ℕ)) (path : List ℕ) (refusal : Refusal) (answer : Result Done Refusal) (old new : List Happening)
    → IsErrAnd answer (λ e. e ≡ refusal) → FailsToReadOrKeep role.Signature path refusal old new → DescribesFile content path answer old new
file_fails content path refusal (Ok done) old new is fails = absurd is
file_fails content path refusal (Err e) old new is fails =
    inl (e, refl, subst (λ r. FailsToReadOrKeep role.Signature path r old new) (sym is) fails)

same_description : (content other : List ℕ → Option (List ℕ)) (path : List ℕ) (answer : Result Done Refusal) (old new : List Happening)
    → other path ≡ content path → DescribesFile other path answer old new → DescribesFile content path answer old new
same_description content other path answer old new same (inl fails) = inl fails
same_description content other path answer old new same (inr (first, reads, describes)) =
    inr (first, same_start content other role.Signature path first old new same reads, describes)

-- The answer was found after the file was opened, and before it was closed.
pub listed_between : (content other : List ℕ → Option (List ℕ)) (path : List ℕ) (listed : Result Listing Refusal) (answer : Result Done Refusal)
    (old opened found new : List Happening) → other path ≡ content path → opened ≡ old → new ≡ found
    → AnswersListed other path listed answer opened found → AnswersListed content path listed answer old new
listed_between content other path listed answer old opened found new same first last (inl (has, is, stays)) =
    inl (has, is, last ∙ stays ∙ first)
listed_between content other path listed answer old opened found new same first last (inr (lacks, describes)) =
    inr (
      lacks,
      subst (λ t. DescribesFile content path answer t new) first
          (subst (λ t. DescribesFile content path answer opened t) (sym last)
          (same_description content other path answer opened found same describes)),
    )
