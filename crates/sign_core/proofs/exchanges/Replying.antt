-- What is written of a reply, part by part.
use Rattle.std.proofs.Common.{◌≡◌, ◌∙◌, refl, sym, ap, subst, ℕ, List, [], ◌∷◌, ◌++◌, take, drop, append_assoc, append-nil, Option, Result, Ok, Err, MatchResult, IsErrAnd}
use Rattle.std.proofs.Common.{take-append-drop}
use Rattle.std.specs.declared.io.Error.{Error}
use Rattle.typecodes.specs.Sink.{Write, WritesAll}
use Rattle.std.specs.Io.KnownBytes.{Appends, Keeps}
use Rattle.std.proofs.KnownBytes.{Appends-nil, Appends-trans, Appends-kept}
use Rattle.sign_core.specs.declared.fault.ServeFault.{ServeFault}
use Rattle.sign_core.specs.declared.fault.ServeFault.TheVariants.{FrameCut, MessageRead, WriteFailed}
use Rattle.sign_core.specs.inner.Serving.{WritesReply}

-- ---- one part

-- it was written up to some of its bytes
pub part_written : (done : ℕ) (bytes : List ℕ) (old new : Option (List ℕ)) → Appends old new (take done bytes) → WritesReply bytes old new (Err WriteFailed)
part_written done bytes old new written = (take done bytes, drop done bytes, sym (take-append-drop done bytes), written)

-- any error is answered by 36
pub part_lost : {S : Type 0} (write : Write S) (contents : S → Option (List ℕ)) (result : Result (Unit {0}) Error) (answer : Result (Unit {0}) ServeFault)
    (bytes : List ℕ) (old new : S) → MatchResult result (λ x. answer ≡ Ok x) (λ e. IsErrAnd answer (λ f. f ≡ WriteFailed))
    → WritesAll write contents result bytes old new → WritesReply bytes (contents old) (contents new) answer
part_lost write contents (Ok x) answer bytes old new same (given, whole) = subst (WritesReply bytes (contents old) (contents new)) (sym same) whole
part_lost write contents (Err e) (Ok x) bytes old new same part = absurd same
part_lost write contents (Err e) (Err f) bytes old new same (done, within_limit, written, why) =
    subst (λ f. WritesReply bytes (contents old) (contents new) (Err f)) (sym same) (part_written done bytes (contents old) (contents new) written)

-- ---- one part after the other

-- what was written whole, and a part of what follows
pub then_part : (a b all : List ℕ) (old middle new : Option (List ℕ)) (e : ServeFault) (result : Result (Unit {0}) ServeFault) → result ≡ Err e
    → all ≡ a ++ b → Appends old middle a → WritesReply b middle new (Err e) → WritesReply all old new result
then_part a b all old middle new e result answer whole first later =
    subst (λ (r : Result (Unit {0}) ServeFault). WritesReply all old new r) (sym answer) (part_so e later)
  where
    part_so : (e : ServeFault) → WritesReply b middle new (Err e) → WritesReply all old new (Err e)
    part_so WriteFailed (part, lost, is, more) =
        (a ++ part, lost, whole ∙ ap (λ l. a ++ l) is ∙ sym (append_assoc a part lost), Appends-trans old middle new a part first more)
    part_so FrameCut never = absurd never
    part_so MessageRead never = absurd never

-- a part of the first, and nothing of what follows
pub first_part : (a b all : List ℕ) (old new : Option (List ℕ)) (e : ServeFault) (result : Result (Unit {0}) ServeFault) → result ≡ Err e
    → all ≡ a ++ b → WritesReply a old new (Err e) → WritesReply all old new result
first_part a b all old new e result answer whole first =
    subst (λ (r : Result (Unit {0}) ServeFault). WritesReply all old new r) (sym answer) (part_so e first)
  where
    part_so : (e : ServeFault) → WritesReply a old new (Err e) → WritesReply all old new (Err e)
    part_so WriteFailed (part, lost, is, more) = (part, lost ++ b, whole ∙ ap (λ l. l ++ b) is ∙ append_assoc part lost b, more)
    part_so FrameCut never = absurd never
    part_so MessageRead never = absurd never

-- all of it was written, and the flush fails
pub whole_part : (bytes : List ℕ) (old middle new : Option (List ℕ)) → Appends old middle bytes → Keeps middle new → WritesReply bytes old new (Err WriteFailed)
whole_part bytes old middle new written kept = (bytes, [], sym (append-nil bytes), Appends-kept old middle new bytes written kept)

-- a flush writes no more
pub flushed : {E : Type 0} (result : Result (Unit {0}) E) (answer : Result (Unit {0}) ServeFault) (bytes : List ℕ) (old middle new : Option (List ℕ))
    → MatchResult result (λ x. answer ≡ Ok x) (λ e. IsErrAnd answer (λ f. f ≡ WriteFailed)) → Appends old middle bytes → Keeps middle new
    → WritesReply bytes old new answer
flushed (Ok x) answer bytes old middle new same written kept =
    subst (WritesReply bytes old new) (sym same) (Appends-kept old middle new bytes written kept)
flushed (Err e) (Ok x) bytes old middle new same written kept = absurd same
flushed (Err e) (Err f) bytes old middle new same written kept =
    subst (λ f. WritesReply bytes old new (Err f)) (sym same) (whole_part bytes old middle new written kept)

pub none_part : (bytes : List ℕ) (old : Option (List ℕ)) → WritesReply bytes old old (Err WriteFailed)
none_part bytes old = ([], bytes, refl, Appends-nil old)

pub frame_written : (number : ℕ) (four body : List ℕ) (a b c d : Option (List ℕ)) → Appends a b (number ∷ []) → Appends b c four → Appends c d body
    → Appends a d ((number ∷ []) ++ four ++ body)
frame_written number four body a b c d first second third =
    Appends-trans a c d ((number ∷ []) ++ four) body (Appends-trans a b c (number ∷ []) four first second) third
