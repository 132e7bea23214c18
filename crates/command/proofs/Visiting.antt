-- Files that are opened and read in turn.
use Rattle.std.proofs.Common.{◌≡◌, ◌∙◌, ℕ, List, [], ◌∷◌, ◌++◌, Option, Result, Ok, Err, IsErrAnd, inl, inr, ap, subst, append_assoc}
use Rattle.sign_core.specs.declared.source.Source as source
use Rattle.state_file.specs.declared.disk.Disk as disk
use Rattle.state_file.specs.declared.store.Store as store
use Rattle.state_file.specs.declared.store.file_store.FileStore.{FileStore}
use Rattle.command.specs.declared.answer.Done.{Done}
use Rattle.command.specs.Verify.{AnswersOf, FailsToOpen, OpensInTurn, ReadsInTurn, VerifiesIn, all_opened}
use Rattle.command.specs.Files.{FilesSeen, ShowsContent}
use Rattle.command.specs.Line.{ServesTask, Task}
use Rattle.command.specs.Trace.{Happening}
use Rattle.command.specs.declared.refusal.Refusal.{Refusal}
use Rattle.command.specs.declared.refusal.Refusal.TheVariants.{FileFailed}
use Rattle.command.specs.declared.trace.Role.{Role}
use Rattle.command.specs.declared.trace.Role.TheVariants as role
use Rattle.command.proofs.Contents.{answers_of_files, failed_answer}

pub two : {X : Type 0} (a b d : List X) (x y : X) → b ≡ a ++ x ∷ [] → d ≡ b ++ y ∷ [] → d ≡ a ++ x ∷ y ∷ []
two a b d x y first second = second ∙ ap (λ l. l ++ y ∷ []) first ∙ append_assoc a (x ∷ []) (y ∷ [])

pub three : {X : Type 0} (a b d e : List X) (x y z : X) → b ≡ a ++ x ∷ [] → d ≡ b ++ y ∷ [] → e ≡ d ++ z ∷ [] → e ≡ a ++ x ∷ y ∷ z ∷ []
three a b d e x y z first second third = third ∙ ap (λ l. l ++ z ∷ []) (two a b d x y first second) ∙ append_assoc a (x ∷ y ∷ []) (z ∷ [])

pub opens_err : {A : Type 0} (p m s : List ℕ) (refusal : Refusal) (result : Result A Refusal) (old new : List Happening)
    → IsErrAnd result (λ e. e ≡ refusal) → FailsToOpen p m s old new → OpensInTurn p m s result old new
opens_err p m s refusal (Ok files) old new same fails = absurd same
opens_err p m s refusal (Err error) old new same fails = fails

pub verifies_failed : {A : Type 0} (content : List ℕ → Option (List ℕ)) (p m s : List ℕ) (refusal : Refusal) (answer : Result A Refusal) (old new : List Happening)
    → refusal ≡ FileFailed → IsErrAnd answer (λ e. e ≡ refusal) → FailsToOpen p m s old new → VerifiesIn content p m s answer old new
verifies_failed content p m s refusal (Ok a) old new is same fails = absurd same
verifies_failed {A = A} content p m s refusal (Err error) old new is same fails =
    (failed_answer A (content p) (content m) (content s) error (inr (same ∙ is)), inl (same ∙ is, fails))

pub verifies_opened : {A : Type 0} (content : List ℕ → Option (List ℕ)) (p m s : List ℕ) (p_left m_left s_left : Option (List ℕ))
    (p_role s_role m_role : Role) (answer : Result A Refusal) (old opened new : List Happening)
    → (p_role ≡ role.Public) × ShowsContent (content p) p_left → (m_role ≡ role.Message) × ShowsContent (content m) m_left
    → (s_role ≡ role.Signature) × ShowsContent (content s) s_left → opened ≡ old ++ all_opened p m s
    → AnswersOf p_left m_left s_left answer → ReadsInTurn p_role s_role m_role answer opened new → VerifiesIn content p m s answer old new
verifies_opened content p m s p_left m_left s_left p_role s_role m_role answer old opened new (p_is, p_shows) (m_is, m_shows) (s_is, s_shows) opened_is answers reads = (
  answers_of_files (content p) (content m) (content s) p_left m_left s_left answer p_shows m_shows s_shows answers,
  inr (subst (λ t. ReadsInTurn role.Public role.Signature role.Message answer t new) opened_is
      (subst (λ r. ReadsInTurn role.Public role.Signature r answer opened new) m_is
      (subst (λ r. ReadsInTurn role.Public r m_role answer opened new) s_is
      (subst (λ r. ReadsInTurn r s_role m_role answer opened new) p_is reads)))),
)

pub serves_same : {K R : Type 0} {bound : _} (d : disk.Ghosts K) (g : store.Ghosts (FileStore K bound)) (r : source.Ghosts R) (files : FilesSeen K)
    (answer : Result Done Refusal) (old new : List Happening) (task other : Task) → task ≡ other → ServesTask d g r files task answer old new
    → ServesTask d g r files other answer old new
serves_same d g r files answer old new task other same serves = subst (λ t. ServesTask d g r files t answer old new) same serves
