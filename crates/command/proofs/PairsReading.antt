-- Pairs of files, read one after the other.
use Rattle.std.proofs.Common.{◌≡◌, ◌∙◌, ◌<◌, ◌+◌, ℕ, List, [], ◌∷◌, ◌++◌, Option, Some, Result, Ok, Err, IsErrAnd, length, take, map, get_or, inl, inr, ap, refl, sym, subst, option_map}
use Rattle.std.specs.Prelude.{MatchResult, slice_get}
use Rattle.std.proofs.lemmas.List.{map-append, take-map, take_more}
use Rattle.std.proofs.lemmas.Option.{slice_get-get_or, slice_get-map}
use Rattle.key_audit.specs.declared.given.Given.{Given}
use Rattle.typecodes.specs.Message.{IsContent}
use Rattle.sign_core.specs.declared.key.AnyPublic.{AnyPublic}
use Rattle.sign_core.specs.declared.key.KeyFault.{KeyFault}
use Rattle.command.specs.declared.answer.Done.{Done}
use Rattle.command.specs.AuditGiven.{ChecksIn, FailsPair, FailsPairs, JudgesPairs, Pair, ReadsPair, ReadsPairs}
use Rattle.command.specs.Files.{BeginsContent, FailsFile, ReadsFile, ReadsStart}
use Rattle.command.specs.Trace.{Happening}
use Rattle.command.specs.declared.refusal.Refusal.{Refusal}
use Rattle.command.specs.declared.refusal.Refusal.TheVariants as refused
use Rattle.command.specs.declared.trace.Role.{Role}
use Rattle.command.specs.declared.trace.Role.TheVariants as role

-- ---- the same contents

pub same_file : (content other : List ℕ → Option (List ℕ)) (role : Role) (path bytes : List ℕ) (old new : List Happening) → other path ≡ content path
    → ReadsFile other role path bytes old new → ReadsFile content role path bytes old new
same_file content other role path bytes old new same (fits, reads) = (subst (λ c. IsContent c bytes) same fits, reads)

pub same_start : (content other : List ℕ → Option (List ℕ)) (role : Role) (path first : List ℕ) (old new : List Happening)
    → other path ≡ content path → ReadsStart other role path first old new → ReadsStart content role path first old new
same_start content other role path first old new same (begins, reads) = (subst (λ c. BeginsContent c first) same begins, reads)

pub same_pair : (content other : List ℕ → Option (List ℕ)) (pair : Pair) (given : Given) (old new : List Happening)
    → ((path : List ℕ) → other path ≡ content path) → ReadsPair other pair given old new → ReadsPair content pair given old new
same_pair content other pair given old new same (mid, file, start) = (
  mid,
  same_file content other _ pair.0 _ old mid (same pair.0) file,
  same_start content other _ pair.1 _ mid new (same pair.1) start,
)

pub same_failure : (content other : List ℕ → Option (List ℕ)) (pair : Pair) (refusal : Refusal) (old new : List Happening)
    → ((path : List ℕ) → other path ≡ content path) → FailsPair other pair refusal old new → FailsPair content pair refusal old new
same_failure content other pair refusal old new same (inl fails) = inl fails
same_failure content other pair refusal old new same (inr (bytes, mid, file, fails)) =
    inr (bytes, mid, same_file content other _ pair.0 bytes old mid (same pair.0) file, fails)

-- ---- one pair more

pub reads_one_more : (content : List ℕ → Option (List ℕ)) (pairs : List Pair) (given : List Given) (pair : Pair) (one : Given)
    (old mid new : List Happening) → ReadsPairs content pairs given old mid → ReadsPair content pair one mid new
    → ReadsPairs content (pairs ++ pair ∷ []) (given ++ one ∷ []) old new
unfolding ReadsPairs
reads_one_more content [] given pair one old mid new (none, same) reads =
    (one, [], new, ap (λ l. l ++ one ∷ []) none, subst (λ t. ReadsPair content pair one t new) same reads, (refl, refl))
reads_one_more content (next ∷ pairs) given pair one old mid new (first, later, at, is, read, rest) reads =
    (first, later ++ one ∷ [], at, ap (λ l. l ++ one ∷ []) is, read, reads_one_more content pairs later pair one at mid new rest reads)

pub reads_none : (content : List ℕ → Option (List ℕ)) (given : List Given) (old : List Happening) → given ≡ [] → ReadsPairs content [] given old old
unfolding ReadsPairs
reads_none content given old none = (none, refl)

next_of : {X Y : Type 0} (view : X → Y) (items : List X) (k : ℕ) (d : X) → k < length items
    → map view (take (k + 1) items) ≡ map view (take k items) ++ view (get_or items k d) ∷ []
next_of view items k d within = ap (map view) (take_more items k d within) ∙ map-append view (take k items) (get_or items k d ∷ [])

pub one_more_of : {X : Type 0} (content : List ℕ → Option (List ℕ)) (view : X → Pair) (items : List X) (k : ℕ) (d : X) (given all : List Given)
    (old new : List Happening) → k < length items → all ≡ given
    → ReadsPairs content (map view (take k items) ++ view (get_or items k d) ∷ []) given old new
    → ReadsPairs content (map view (take (k + 1) items)) all old new
one_more_of content view items k d given all old new within same reads =
    subst (λ l. ReadsPairs content l all old new) (sym (next_of view items k d within))
    (subst (λ l. ReadsPairs content (map view (take k items) ++ view (get_or items k d) ∷ []) l old new) (sym same) reads)

pub stands_at : {X Y : Type 0} (view : X → Y) (items : List X) (k : ℕ) (d : X) → k < length items
    → slice_get (map view items) k ≡ Some (view (get_or items k d))
stands_at view items k d within = slice_get-map view items k ∙ ap (option_map view) (slice_get-get_or items k d within)

-- ---- what fails

pub next_fails : {X : Type 0} (content : List ℕ → Option (List ℕ)) (view : X → Pair) (items : List X) (k : ℕ) (given : List Given) (pair : Pair)
    (refusal : Refusal) (old mid new : List Happening) → ReadsPairs content (map view (take k items)) given old mid
    → slice_get (map view items) k ≡ Some pair → FailsPair content pair refusal mid new → FailsPairs content (map view items) refusal old new
next_fails content view items k given pair refusal old mid new reads stands fails =
    (k, given, mid, subst (λ l. ReadsPairs content l given old mid) (sym (take-map view k items)) reads, inr (pair, stands, fails))

pub no_room : {X : Type 0} (content : List ℕ → Option (List ℕ)) (view : X → Pair) (items : List X) (k : ℕ) (given : List Given)
    (refusal : Refusal) (old new : List Happening) → ReadsPairs content (map view (take k items)) given old new
    → 0 < k → refusal ≡ refused.OutOfMemory → FailsPairs content (map view items) refusal old new
no_room content view items k given refusal old new reads some memory =
    (k, given, new, subst (λ l. ReadsPairs content l given old new) (sym (take-map view k items)) reads, inl (some, memory, refl))

pub handed_on : {A : Type 0} (Good : A → Type 0) (Bad : Refusal → Type 0) (result : Result A Refusal) (refusal : Refusal)
    → IsErrAnd result (λ r. r ≡ refusal) → Bad refusal → MatchResult result Good Bad
handed_on Good Bad (Ok x) refusal is bad = absurd is
handed_on Good Bad (Err r) refusal is bad = subst Bad (sym is) bad

-- ---- the whole judgement

same_pairs : (content other : List ℕ → Option (List ℕ)) (pairs : List Pair) (given : List Given) (old new : List Happening)
    → ((path : List ℕ) → other path ≡ content path) → ReadsPairs other pairs given old new → ReadsPairs content pairs given old new
unfolding ReadsPairs
same_pairs content other [] given old new same reads = reads
same_pairs content other (pair ∷ pairs) given old new same (first, later, mid, is, read, rest) =
    (first, later, mid, is, same_pair content other pair first old mid same read, same_pairs content other pairs later mid new same rest)

same_failures : (content other : List ℕ → Option (List ℕ)) (pairs : List Pair) (refusal : Refusal) (old new : List Happening)
    → ((path : List ℕ) → other path ≡ content path) → FailsPairs other pairs refusal old new → FailsPairs content pairs refusal old new
same_failures content other pairs refusal old new same (k, given, mid, reads, inl memory) =
    (k, given, mid, same_pairs content other (take k pairs) given old mid same reads, inl memory)
same_failures content other pairs refusal old new same (k, given, mid, reads, inr (pair, stands, fails)) =
    (k, given, mid, same_pairs content other (take k pairs) given old mid same reads, inr (pair, stands, same_failure content other pair refusal mid new same fails))

pub same_judgement : {X : Type 0} (content other : List ℕ → Option (List ℕ)) (view : X → Pair) (key : Result AnyPublic KeyFault) (items all : List X)
    (answer : Result Done Refusal) (old new : List Happening) → items ≡ all → ((path : List ℕ) → other path ≡ content path)
    → JudgesPairs other key (map view items) answer old new → JudgesPairs content key (map view all) answer old new
same_judgement content other view key items all answer old new is same judges =
    elim (subst (λ l. JudgesPairs other key (map view l) answer old new) is judges) [
      | inl (refusal, answers, fails) ↦ inl (refusal, answers, same_failures content other (map view all) refusal old new same fails)
      | inr (given, reads, answers, whole) ↦ inr (given, same_pairs content other (map view all) given old new same reads, answers, whole)
    ]

pub key_fails : (content : List ℕ → Option (List ℕ)) (public : List ℕ) (pairs : List Pair) (refusal : Refusal) (answer : Result Done Refusal)
    (old new : List Happening) → IsErrAnd answer (λ r. r ≡ refusal) → FailsFile role.Public public refusal old new
    → ChecksIn content public pairs answer old new
key_fails content public pairs refusal (Ok done) old new is fails = absurd is
key_fails content public pairs refusal (Err r) old new is fails = inl (refusal, ap Err is, fails)
