-- Files that are opened, and then read.
use Rattle.std.proofs.Common.{◌≡◌, List, [], ◌∷◌, ◌++◌, ℕ, Option, Result, Ok, Err, IsErrAnd, inr, subst}
use Rattle.std.specs.Prelude.{MatchResult}
use Rattle.std.specs.declared.io.ErrorKind.{ErrorKind}
use Rattle.typecodes.specs.Message.{IsContent}
use Rattle.sign_core.specs.declared.key.AnyPublic.{AnyPublic}
use Rattle.sign_core.specs.declared.key.KeyFault.{KeyFault}
use Rattle.command.specs.Files.{BeginsContent, CantKeep, FailsFile, FailsToReadOrKeep, FailsToRead, FillsRoom, ReadsFile, ReadsKey, ReadsStart, ShowsContent, decisive}
use Rattle.command.specs.Refusal.{refusal_of}
use Rattle.command.specs.Trace.{Happening, ReadsToEnd, opened}
use Rattle.command.specs.declared.refusal.Refusal.{Refusal}
use Rattle.command.specs.declared.trace.Role.{Role}
use Rattle.command.proofs.Contents.{same_content}

begins_file : (content left : Option (List ℕ)) (first : List ℕ) → ShowsContent content left → BeginsContent left first → BeginsContent content first
begins_file content left first shows (whole, fits, is) = (whole, same_content content left whole shows fits, is)

pub file_read : {A : Type 0} (items : A → List ℕ) (content : List ℕ → Option (List ℕ)) (left : Option (List ℕ)) (role of : Role) (path : List ℕ)
    (result : Result A Refusal) (old mid new : List Happening) → ShowsContent (content path) left → of ≡ role → mid ≡ old ++ opened role path ∷ []
    → MatchResult result (λ x. IsContent left (items x) × ReadsToEnd of (items x) mid new) (λ r. CantKeep of r mid new)
    → MatchResult result (λ x. ReadsFile content role path (items x) old new) (λ r. FailsToReadOrKeep role path r old new)
file_read items content left role of path (Ok x) old mid new shows same begins (fits, reads) =
    (same_content (content path) left (items x) shows fits, subst (λ t. ReadsToEnd role (items x) t new) begins (subst (λ r. ReadsToEnd r (items x) mid new) same reads))
file_read items content left role of path (Err refusal) old mid new shows same begins fails =
    inr (subst (λ t. CantKeep role refusal t new) begins (subst (λ r. CantKeep r refusal mid new) same fails))

pub start_read : {A : Type 0} (items : A → List ℕ) (content : List ℕ → Option (List ℕ)) (left : Option (List ℕ)) (role of : Role) (path : List ℕ)
    (result : Result A Refusal) (old mid new : List Happening) → ShowsContent (content path) left → of ≡ role → mid ≡ old ++ opened role path ∷ []
    → MatchResult result (λ x. BeginsContent left (items x) × FillsRoom of decisive (items x) mid new) (λ r. CantKeep of r mid new)
    → MatchResult result (λ x. ReadsStart content role path (items x) old new) (λ r. FailsToReadOrKeep role path r old new)
start_read items content left role of path (Ok x) old mid new shows same begins (fits, reads) =
    (begins_file (content path) left (items x) shows fits, subst (λ t. FillsRoom role decisive (items x) t new) begins (subst (λ r. FillsRoom r decisive (items x) mid new) same reads))
start_read items content left role of path (Err refusal) old mid new shows same begins fails =
    inr (subst (λ t. CantKeep role refusal t new) begins (subst (λ r. CantKeep r refusal mid new) same fails))

pub key_read : (content : List ℕ → Option (List ℕ)) (left : Option (List ℕ)) (role of : Role) (path : List ℕ) (key : Result AnyPublic KeyFault)
    (old mid new : List Happening) → ShowsContent (content path) left → of ≡ role → mid ≡ old ++ opened role path ∷ []
    → ((bytes : List ℕ) × IsContent left bytes × ReadsKey bytes key × ReadsToEnd of bytes mid new)
    → (bytes : List ℕ) × ReadsFile content role path bytes old new × ReadsKey bytes key
key_read content left role of path key old mid new shows same begins (bytes, fits, reads, ends) = (
  bytes,
  (same_content (content path) left bytes shows fits, subst (λ t. ReadsToEnd role bytes t new) begins (subst (λ r. ReadsToEnd r bytes mid new) same ends)),
  reads,
)

pub key_not_read : {A : Type 0} (Good : A → Type 0) (role of : Role) (path : List ℕ) (kind : ErrorKind) (result : Result A Refusal)
    (old mid new : List Happening) → of ≡ role → mid ≡ old ++ opened role path ∷ [] → IsErrAnd result (λ refusal. refusal ≡ refusal_of kind)
    → FailsToRead of kind mid new → MatchResult result Good (λ r. FailsFile role path r old new)
key_not_read Good role of path kind (Ok x) old mid new same begins is fails = absurd is
key_not_read Good role of path kind (Err refusal) old mid new same begins is fails =
    inr (kind, is, subst (λ t. FailsToRead role kind t new) begins (subst (λ r. FailsToRead r kind mid new) same fails))
