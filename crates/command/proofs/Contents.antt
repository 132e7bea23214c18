-- What is known of the contents of files, and which answers are right for that.
use Rattle.std.proofs.Common.{◌≡◌, ◌∙◌, ℕ, ◌≤◌, ◌<◌, ◌⊎◌, List, ◌++◌, length, take, Option, Some, None, Result, Ok, Err, IfOk, IfErr, IsErrAnd, inl, inr, refl, sym, subst, ap, append-nil, append_assoc, arith, length-take-le, take_all, take_at}
use Rattle.std.proofs.lemmas.Bool.{cases_lt}
use Rattle.std.specs.Io.KnownBytes.{Consumes, IsAtEnd}
use Rattle.std.specs.declared.io.ErrorKind.{ErrorKind}
use Rattle.std.specs.declared.io.ErrorKind.TheVariants as kind
use Rattle.sign_core.specs.declared.key.AnyPublic.{AnyPublic}
use Rattle.sign_core.specs.declared.key.KeyFault.{KeyFault}
use Rattle.sign_core.specs.Key.{KeyHasFault, SpellsKey}
use Rattle.command.specs.Verify.{AnswersFiles, AnswersOf}
use Rattle.typecodes.specs.Message.{IsContent}
use Rattle.typecodes.proofs.Messages.{some_content}
use Rattle.command.specs.Files.{ReadsKey, ShowsContent}
use Rattle.command.specs.Refusal.{refusal_of}
use Rattle.command.specs.declared.refusal.Refusal.{Refusal}
use Rattle.command.specs.declared.refusal.Refusal.TheVariants.{OutOfMemory, FileFailed}

abbrev pub IsFailure : Refusal → Type 0
IsFailure refusal = (refusal ≡ OutOfMemory) ⊎ (refusal ≡ FileFailed)

failure_of : (k : ErrorKind) → IsFailure (refusal_of k)
failure_of kind.OutOfMemory = inl refl
failure_of _ = inr refl

failed : (A : Type 0) (p m s : List ℕ) (refusal : Refusal) → IsFailure refusal → AnswersFiles {A = A} p m s (Err refusal)
failed A p m s refusal (inl is) = subst (λ r. AnswersFiles {A = A} p m s (Err r)) (sym is) tt
failed A p m s refusal (inr is) = subst (λ r. AnswersFiles {A = A} p m s (Err r)) (sym is) tt

-- A failure is a right answer, whatever the files hold.
pub failed_answer : (A : Type 0) (public message signature : Option (List ℕ)) (refusal : Refusal) → IsFailure refusal
    → AnswersOf {A = A} public message signature (Err refusal)
failed_answer A public message signature refusal failure =
    let (p, p_is) = some_content public in
    let (m, m_is) = some_content message in
    let (s, s_is) = some_content signature in
    (p, m, s, p_is, m_is, s_is, failed A p m s refusal failure)

pub failed_read : {A : Type 0} (public message signature : Option (List ℕ)) (k : ErrorKind) (answer : Result A Refusal)
    → IsErrAnd answer (λ refusal. refusal ≡ refusal_of k) → AnswersOf public message signature answer
failed_read public message signature k (Ok a) is = absurd is
failed_read {A = A} public message signature k (Err refusal) is =
    failed_answer A public message signature refusal (subst IsFailure (sym is) (failure_of k))

pub same_content : (content left : Option (List ℕ)) (bytes : List ℕ) → ShowsContent content left → IsContent left bytes → IsContent content bytes
same_content None left bytes shows fits = tt
same_content (Some content) left bytes shows fits = subst (λ l. IsContent l bytes) shows fits

-- An answer that is right for what readers have left is right for what is known of the files.
pub answers_of_files : {A : Type 0} (p m s p_left m_left s_left : Option (List ℕ)) (answer : Result A Refusal)
    → ShowsContent p p_left → ShowsContent m m_left → ShowsContent s s_left → AnswersOf p_left m_left s_left answer → AnswersOf p m s answer
answers_of_files p m s p_left m_left s_left answer p_shows m_shows s_shows (a, b, d, a_fits, b_fits, d_fits, right) =
    (a, b, d, same_content p p_left a p_shows a_fits, same_content m m_left b m_shows b_fits, same_content s s_left d s_shows d_fits, right)

pub reads_key : (bytes : List ℕ) (key : Result AnyPublic KeyFault) → IfOk key (λ k. SpellsKey k bytes) → IfErr key (KeyHasFault bytes) → ReadsKey bytes key
reads_key bytes (Ok key) spelled fault = spelled
reads_key bytes (Err fault) spelled is = is

-- the bytes that were read are the first of the content
pub first_bytes : (count : ℕ) (old new : Option (List ℕ)) (bytes : List ℕ) → length bytes ≤ count → Consumes old new bytes
    → (length bytes < count → IsAtEnd new) → (whole : List ℕ) × IsContent old whole × (bytes ≡ take count whole)
first_bytes count None new bytes within read end = (bytes, tt, sym (take_all count bytes within))
first_bytes count (Some xs) None bytes within read end = absurd read
first_bytes count (Some xs) (Some ys) bytes within read end = elim (cases_lt (length bytes) count) [
  | inl less ↦
      let whole : bytes ≡ xs = sym (read ∙ ap (λ l. bytes ++ l) (end less) ∙ append-nil bytes) in
      (xs, refl, sym (take_all count bytes within) ∙ ap (take count) whole)
  | inr full ↦
      let long : length bytes ≡ count = omega (arith, full, within) in
      (xs, refl, sym (take_at bytes ys count long) ∙ ap (take count) (sym read))
]

-- .. in a buffer
pub first_of : (count n : ℕ) (old new : Option (List ℕ)) (buffer : List ℕ) → length buffer ≡ count → n ≤ length buffer
    → Consumes old new (take n buffer) → (n < length buffer → IsAtEnd new)
    → (whole : List ℕ) × IsContent old whole × (take n buffer ≡ take count whole)
first_of count n old new buffer size within read end =
    let long : length (take n buffer) ≡ n = length-take-le n buffer within in
    first_bytes count old new (take n buffer) (omega (arith, size, long, within)) read (λ less. end (omega (arith, size, long, less)))

pub consumes_both : (old mid new : Option (List ℕ)) (a b : List ℕ) → Consumes old mid a → Consumes mid new b → Consumes old new (a ++ b)
consumes_both None mid new a b one more = tt
consumes_both (Some xs) None new a b one more = absurd one
consumes_both (Some xs) (Some ys) None a b one more = absurd more
consumes_both (Some xs) (Some ys) (Some zs) a b one more = one ∙ ap (λ l. a ++ l) more ∙ sym (append_assoc a b zs)
