-- From what reading a key and verifying say to the judgement.
use Rattle.std.proofs.Common.{◌≡◌, ◌∙◌, ℕ, List, Result, Ok, Err, MatchResult, IfErr, IsErrAnd, sym, subst}
use Rattle.sign_core.specs.declared.key.AnyPublic.{AnyPublic}
use Rattle.sign_core.specs.declared.key.KeyFault.{KeyFault}
use Rattle.sign_core.specs.Key.{SpellsKey}
use Rattle.command.specs.Verify.{AnswersFiles, Judgement}
use Rattle.command.specs.Files.{ReadsKey}
use Rattle.command.specs.declared.refusal.Refusal.{Refusal}
use Rattle.command.specs.declared.refusal.Refusal.TheVariants.{Key, Signature, OutOfMemory, FileFailed}
use Rattle.command.specs.declared.refusal.Refusal.TheVariants.{Signer, Opening, Preparing, Audit, Given, Migration, Serving, Locked, BadName, BadSpec}

pub read_key : (bytes : List ℕ) (key : AnyPublic) (read : Result AnyPublic KeyFault) (r : Result AnyPublic Refusal)
    → ReadsKey bytes read → MatchResult read (λ k. r ≡ Ok k) (λ fault. IsErrAnd r (λ e. e ≡ Key fault)) → r ≡ Ok key
    → SpellsKey key bytes
read_key bytes key (Ok k) r spelled mapped was = let same : k ≡ key = cc (mapped, was) in subst (λ k. SpellsKey k bytes) same spelled
read_key bytes key (Err fault) r _ mapped was = absurd (subst (λ r. IsErrAnd r (λ e. e ≡ Key fault)) was mapped)

pub has_key : (key : AnyPublic) (read : Result AnyPublic KeyFault) (r : Result AnyPublic Refusal) (Q : KeyFault → Type 0)
    → MatchResult read (λ k. r ≡ Ok k) (λ fault. IsErrAnd r (λ e. e ≡ Key fault)) → r ≡ Ok key → IfErr read Q
has_key key (Ok k) r Q mapped was = tt
has_key key (Err fault) r Q mapped was = absurd (subst (λ r. IsErrAnd r (λ e. e ≡ Key fault)) was mapped)

pub no_key : {A : Type 0} (bytes message signature : List ℕ) (read : Result AnyPublic KeyFault) (r : Result AnyPublic Refusal) (e : Refusal) (answer : Result A Refusal)
    → ReadsKey bytes read → MatchResult read (λ k. r ≡ Ok k) (λ fault. IsErrAnd r (λ e. e ≡ Key fault)) → r ≡ Err e → IsErrAnd answer (λ x. x ≡ e)
    → Judgement bytes message signature answer
no_key bytes message signature read r e (Ok a) reads mapped was is = absurd is
no_key bytes message signature (Ok k) r e (Err x) reads mapped was is = cc
no_key {A = A} bytes message signature (Err fault) r e (Err x) reads mapped was is =
    let of_fault : e ≡ Key fault = subst (λ r. IsErrAnd r (λ e. e ≡ Key fault)) was mapped in
    let same : x ≡ Key fault = is ∙ of_fault in
    subst (λ y. Judgement {A = A} bytes message signature (Err y)) (sym same) reads

pub judgement_answers : {A : Type 0} (p m s : List ℕ) (answer : Result A Refusal) → Judgement p m s answer → AnswersFiles p m s answer
judgement_answers p m s (Ok a) judged = judged
judgement_answers p m s (Err (Key fault)) judged = judged
judgement_answers p m s (Err (Signature refusal)) judged = judged
judgement_answers p m s (Err OutOfMemory) never = absurd never
judgement_answers p m s (Err FileFailed) never = absurd never
judgement_answers p m s (Err (Signer fault)) never = absurd never
judgement_answers p m s (Err (Opening fault)) never = absurd never
judgement_answers p m s (Err (Preparing fault)) never = absurd never
judgement_answers p m s (Err (Audit fault)) never = absurd never
judgement_answers p m s (Err (Given fault)) never = absurd never
judgement_answers p m s (Err (Serving fault)) never = absurd never
judgement_answers p m s (Err (Migration fault)) never = absurd never
judgement_answers p m s (Err Locked) never = absurd never
judgement_answers p m s (Err BadName) never = absurd never
judgement_answers p m s (Err BadSpec) never = absurd never
