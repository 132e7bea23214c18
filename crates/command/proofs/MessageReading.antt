-- What verification does with a message, and with the file that it reads.
use Rattle.std.proofs.Common.{◌≡◌, ◌∙◌, ℕ, List, [], ◌∷◌, ◌++◌, Option, Result, Ok, Err, MatchResult, IsErrAnd, ◌⊎◌, inl, inr, refl, sym, ap, subst}
use Rattle.std.specs.Prelude.{⊤}
use Rattle.typecodes.specs.Message.{CantBeRead, ReadOutcome, ReadWhole, Transition}
use Rattle.typecodes.specs.declared.refusal.Refusal.{Refusal as SignatureRefusal}
use Rattle.typecodes.specs.declared.refusal.Refusal.TheVariants.{Unreadable, TypeMismatch, LevelMismatch, RootMismatch, MessageRead}
use Rattle.sign_core.specs.declared.key.AnyPublic.{AnyPublic}
use Rattle.sign_core.specs.declared.key.AnyPublic.TheVariants.{Lms, Hss, Xmss}
use Rattle.sign_core.specs.declared.key.KeyFault.{KeyFault}
use Rattle.sign_core.specs.Key.{KeyLeavesMessage}
use Rattle.command.specs.Trace.{Happening, ReadsOnce, nothing_known}
use Rattle.command.proofs.Reading.{Notes, noted, stays}
use Rattle.command.specs.Verify.{AnswerLeaves}
use Rattle.command.specs.declared.refusal.Refusal.{Refusal}
use Rattle.command.specs.declared.refusal.Refusal.TheVariants.{Key, Signature, OutOfMemory, FileFailed}
use Rattle.command.specs.declared.refusal.Refusal.TheVariants.{Signer, Opening, Preparing, Audit, Given, Migration, Serving, Locked, BadName, BadSpec}
use Rattle.command.specs.declared.trace.Role.{Role}

pub no-key-leaves : {M A : Type 0} (step : Transition M) (remaining : M → Option (List ℕ)) (public text : List ℕ) (old : M) (read : Result AnyPublic KeyFault)
    (r : Result AnyPublic Refusal) (e : Refusal) (answer : Result A Refusal)
    → MatchResult read (λ k. r ≡ Ok k) (λ fault. IsErrAnd r (λ e. e ≡ Key fault)) → r ≡ Err e → IsErrAnd answer (λ x. x ≡ e)
    → AnswerLeaves step remaining public text old old answer
no-key-leaves step remaining public text old read r e (Ok a) mapped was is = absurd is
no-key-leaves step remaining public text old (Ok k) r e (Err x) mapped was is =
    let never : ◌≡◌ {A = Result AnyPublic Refusal} (Ok k) (Err e) = sym mapped ∙ was in cc
no-key-leaves {A = A} step remaining public text old (Err fault) r e (Err x) mapped was is =
    let of_fault : e ≡ Key fault = subst (λ r. IsErrAnd r (λ e. e ≡ Key fault)) was mapped in
    subst (λ y. AnswerLeaves {A = A} step remaining public text old old (Err y)) (sym (is ∙ of_fault)) refl

-- What verification may do with a message: nothing, read it whole, or fail to read it.
unfoldable Ends : {M : Type 0} → Transition M → (M → Option (List ℕ)) → List ℕ → M → M → Type 0
Ends step remaining text old new = (new ≡ old) ⊎ ReadWhole step remaining text old new ⊎ CantBeRead step old new

-- Each of the three carries over from one message to another.
pub record Carries {M N : Type 0} (step : Transition M) (remaining : M → Option (List ℕ)) (other : Transition N) (left : N → Option (List ℕ)) (text : List ℕ)
    (old new : M) (before after : N) : Type 0 where
  pub same : new ≡ old → after ≡ before
  pub whole : ReadWhole step remaining text old new → ReadWhole other left text before after
  pub cant : CantBeRead step old new → CantBeRead other before after

key-carried : {M N A : Type 0} (step : Transition M) (remaining : M → Option (List ℕ)) (other : Transition N) (left : N → Option (List ℕ)) (key : AnyPublic) (text : List ℕ)
    (old new : M) (before after : N) (verdict : Result A SignatureRefusal) → Carries step remaining other left text old new before after
    → KeyLeavesMessage step remaining key text old new verdict → KeyLeavesMessage other left key text before after verdict
key-carried step remaining other left (Lms key) text old new before after (Ok a) to leaves = to.whole leaves
key-carried step remaining other left (Lms key) text old new before after (Err (Unreadable fault)) to leaves = to.same leaves
key-carried step remaining other left (Lms key) text old new before after (Err (TypeMismatch level)) to leaves = to.same leaves
key-carried step remaining other left (Lms key) text old new before after (Err LevelMismatch) to never = absurd never
key-carried step remaining other left (Lms key) text old new before after (Err (RootMismatch level)) to leaves = to.whole leaves
key-carried step remaining other left (Lms key) text old new before after (Err MessageRead) to leaves = to.cant leaves
key-carried step remaining other left (Hss key) text old new before after (Ok a) to leaves = to.whole leaves
key-carried step remaining other left (Hss key) text old new before after (Err (Unreadable fault)) to leaves = to.same leaves
key-carried step remaining other left (Hss key) text old new before after (Err (TypeMismatch level)) to leaves = to.same leaves
key-carried step remaining other left (Hss key) text old new before after (Err LevelMismatch) to leaves = to.same leaves
key-carried step remaining other left (Hss key) text old new before after (Err (RootMismatch level)) to (inl (bottom, leaves)) = inl (bottom, to.whole leaves)
key-carried step remaining other left (Hss key) text old new before after (Err (RootMismatch level)) to (inr (above, leaves)) = inr (above, to.same leaves)
key-carried step remaining other left (Hss key) text old new before after (Err MessageRead) to leaves = to.cant leaves
key-carried step remaining other left (Xmss key) text old new before after (Ok a) to leaves = to.whole leaves
key-carried step remaining other left (Xmss key) text old new before after (Err (Unreadable fault)) to leaves = to.same leaves
key-carried step remaining other left (Xmss key) text old new before after (Err (TypeMismatch level)) to never = absurd never
key-carried step remaining other left (Xmss key) text old new before after (Err LevelMismatch) to never = absurd never
key-carried step remaining other left (Xmss key) text old new before after (Err (RootMismatch level)) to leaves = to.whole leaves
key-carried step remaining other left (Xmss key) text old new before after (Err MessageRead) to leaves = to.cant leaves

answer-carried : {M N A : Type 0} (step : Transition M) (remaining : M → Option (List ℕ)) (other : Transition N) (left : N → Option (List ℕ)) (public text : List ℕ)
    (old new : M) (before after : N) (answer : Result A Refusal) → Carries step remaining other left text old new before after
    → AnswerLeaves step remaining public text old new answer → AnswerLeaves other left public text before after answer
answer-carried step remaining other left public text old new before after (Ok a) to (key, spelled, leaves) =
    (key, spelled, key-carried {A = ⊤} step remaining other left key text old new before after (Ok tt) to leaves)
answer-carried step remaining other left public text old new before after (Err (Key fault)) to same = to.same same
answer-carried step remaining other left public text old new before after (Err (Signature refusal)) to (key, spelled, leaves) =
    (key, spelled, key-carried {A = ⊤} step remaining other left key text old new before after (Err refusal) to leaves)
answer-carried step remaining other left public text old new before after (Err OutOfMemory) to never = absurd never
answer-carried step remaining other left public text old new before after (Err FileFailed) to never = absurd never
answer-carried step remaining other left public text old new before after (Err (Signer fault)) to never = absurd never
answer-carried step remaining other left public text old new before after (Err (Opening fault)) to never = absurd never
answer-carried step remaining other left public text old new before after (Err (Preparing fault)) to never = absurd never
answer-carried step remaining other left public text old new before after (Err (Audit fault)) to never = absurd never
answer-carried step remaining other left public text old new before after (Err (Given fault)) to never = absurd never
answer-carried step remaining other left public text old new before after (Err (Serving fault)) to never = absurd never
answer-carried step remaining other left public text old new before after (Err (Migration fault)) to never = absurd never
answer-carried step remaining other left public text old new before after (Err Locked) to never = absurd never
answer-carried step remaining other left public text old new before after (Err BadName) to never = absurd never
answer-carried step remaining other left public text old new before after (Err BadSpec) to never = absurd never

-- ---- from the message to its file

noted-whole : {M : Type 0} (step : Transition M) (remaining : M → Option (List ℕ)) (role_of : M → Role) (trace_of : M → List Happening) → Notes step role_of trace_of
    → (text : List ℕ) (old new : M) → ReadWhole step remaining text old new
    → ReadWhole (ReadsOnce (role_of old)) nothing_known text (trace_of old) (trace_of new)
noted-whole step remaining role_of trace_of notes text old new whole =
    let (outcomes, reads, gave) = whole.gave in
    record {
      gave = (outcomes, noted step role_of trace_of (role_of old) notes (outcomes ++ Ok [] ∷ []) old new refl reads, gave);
      bytes = tt;
      end = tt;
      short = whole.short;
    }

noted-failure : {M : Type 0} (step : Transition M) (role_of : M → Role) (trace_of : M → List Happening) → Notes step role_of trace_of
    → (old new : M) → CantBeRead step old new → CantBeRead (ReadsOnce (role_of old)) (trace_of old) (trace_of new)
noted-failure step role_of trace_of notes old new (inl (kind, text, (outcomes, reads, gave))) =
    inl (kind, text, (outcomes, noted step role_of trace_of (role_of old) notes (outcomes ++ Err kind ∷ []) old new refl reads, gave))
noted-failure step role_of trace_of notes old new (inr (text, (outcomes, reads, gave), endless)) =
    inr (text, (outcomes, noted step role_of trace_of (role_of old) notes outcomes old new refl reads, gave), endless)

pub noted-message : {M A : Type 0} (step : Transition M) (remaining : M → Option (List ℕ)) (role_of : M → Role) (trace_of : M → List Happening)
    → Notes step role_of trace_of → (public text : List ℕ) (old new : M) (answer : Result A Refusal)
    → AnswerLeaves step remaining public text old new answer
    → AnswerLeaves (ReadsOnce (role_of old)) nothing_known public text (trace_of old) (trace_of new) answer
noted-message step remaining role_of trace_of notes public text old new answer =
    answer-carried step remaining (ReadsOnce (role_of old)) nothing_known public text old new (trace_of old) (trace_of new) answer (record {
      same = ap trace_of;
      whole = noted-whole step remaining role_of trace_of notes text old new;
      cant = noted-failure step role_of trace_of notes old new;
    })

-- ---- what no read changes

key-ends : {M A : Type 0} (step : Transition M) (remaining : M → Option (List ℕ)) (key : AnyPublic) (text : List ℕ) (old new : M) (verdict : Result A SignatureRefusal)
    → KeyLeavesMessage step remaining key text old new verdict → Ends step remaining text old new
unfolding Ends
key-ends step remaining (Lms key) text old new (Ok a) leaves = inr (inl leaves)
key-ends step remaining (Lms key) text old new (Err (Unreadable fault)) leaves = inl leaves
key-ends step remaining (Lms key) text old new (Err (TypeMismatch level)) leaves = inl leaves
key-ends step remaining (Lms key) text old new (Err LevelMismatch) never = absurd never
key-ends step remaining (Lms key) text old new (Err (RootMismatch level)) leaves = inr (inl leaves)
key-ends step remaining (Lms key) text old new (Err MessageRead) leaves = inr (inr leaves)
key-ends step remaining (Hss key) text old new (Ok a) leaves = inr (inl leaves)
key-ends step remaining (Hss key) text old new (Err (Unreadable fault)) leaves = inl leaves
key-ends step remaining (Hss key) text old new (Err (TypeMismatch level)) leaves = inl leaves
key-ends step remaining (Hss key) text old new (Err LevelMismatch) leaves = inl leaves
key-ends step remaining (Hss key) text old new (Err (RootMismatch level)) (inl (bottom, leaves)) = inr (inl leaves)
key-ends step remaining (Hss key) text old new (Err (RootMismatch level)) (inr (above, leaves)) = inl leaves
key-ends step remaining (Hss key) text old new (Err MessageRead) leaves = inr (inr leaves)
key-ends step remaining (Xmss key) text old new (Ok a) leaves = inr (inl leaves)
key-ends step remaining (Xmss key) text old new (Err (Unreadable fault)) leaves = inl leaves
key-ends step remaining (Xmss key) text old new (Err (TypeMismatch level)) never = absurd never
key-ends step remaining (Xmss key) text old new (Err LevelMismatch) never = absurd never
key-ends step remaining (Xmss key) text old new (Err (RootMismatch level)) leaves = inr (inl leaves)
key-ends step remaining (Xmss key) text old new (Err MessageRead) leaves = inr (inr leaves)

answer-ends : {M A : Type 0} (step : Transition M) (remaining : M → Option (List ℕ)) (public text : List ℕ) (old new : M) (answer : Result A Refusal)
    → AnswerLeaves step remaining public text old new answer → Ends step remaining text old new
unfolding Ends
answer-ends step remaining public text old new (Ok a) (key, spelled, leaves) = key-ends {A = ⊤} step remaining key text old new (Ok tt) leaves
answer-ends step remaining public text old new (Err (Key fault)) same = inl same
answer-ends step remaining public text old new (Err (Signature refusal)) (key, spelled, leaves) =
    key-ends {A = ⊤} step remaining key text old new (Err refusal) leaves
answer-ends step remaining public text old new (Err OutOfMemory) never = absurd never
answer-ends step remaining public text old new (Err FileFailed) never = absurd never
answer-ends step remaining public text old new (Err (Signer fault)) never = absurd never
answer-ends step remaining public text old new (Err (Opening fault)) never = absurd never
answer-ends step remaining public text old new (Err (Preparing fault)) never = absurd never
answer-ends step remaining public text old new (Err (Audit fault)) never = absurd never
answer-ends step remaining public text old new (Err (Given fault)) never = absurd never
answer-ends step remaining public text old new (Err (Serving fault)) never = absurd never
answer-ends step remaining public text old new (Err (Migration fault)) never = absurd never
answer-ends step remaining public text old new (Err Locked) never = absurd never
answer-ends step remaining public text old new (Err BadName) never = absurd never
answer-ends step remaining public text old new (Err BadSpec) never = absurd never

ends-stays : {M X : Type 0} (step : Transition M) (remaining : M → Option (List ℕ)) (part : M → X)
    → ((old : M) (outcome : ReadOutcome) (new : M) → step old outcome new → part new ≡ part old)
    → (text : List ℕ) (old new : M) → Ends step remaining text old new → part new ≡ part old
unfolding Ends
ends-stays step remaining part kept text old new (inl same) = ap part same
ends-stays step remaining part kept text old new (inr (inl whole)) =
    let (outcomes, reads, gave) = whole.gave in stays step part kept (outcomes ++ Ok [] ∷ []) old new reads
ends-stays step remaining part kept text old new (inr (inr (inl (kind, given, (outcomes, reads, gave))))) =
    stays step part kept (outcomes ++ Err kind ∷ []) old new reads
ends-stays step remaining part kept text old new (inr (inr (inr (given, (outcomes, reads, gave), long)))) = stays step part kept outcomes old new reads

pub message-stays : {M X A : Type 0} (step : Transition M) (remaining : M → Option (List ℕ)) (part : M → X)
    → ((old : M) (outcome : ReadOutcome) (new : M) → step old outcome new → part new ≡ part old)
    → (public text : List ℕ) (old new : M) (answer : Result A Refusal) → AnswerLeaves step remaining public text old new answer
    → part new ≡ part old
message-stays step remaining part kept public text old new answer leaves =
    ends-stays step remaining part kept text old new (answer-ends step remaining public text old new answer leaves)
