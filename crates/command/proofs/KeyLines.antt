-- From a step on the disk of a state file to the whole command.
use Rattle.std.proofs.Common.{◌≡◌, ℕ, List, [], ◌∷◌, ◌++◌, Option, Result, Ok, Err, inr, refl, subst, sym}
use Rattle.typecodes.specs.declared.message.Message as message
use Rattle.typecodes.specs.declared.spec.Spec.{Spec}
use Rattle.typecodes.specs.Name.{IsName}
use Rattle.typecodes.specs.Spec.{IsSpec, spec_text}
use Rattle.sign_core.specs.declared.source.Source as source
use Rattle.state_file.specs.declared.disk.Disk as disk
use Rattle.state_file.specs.declared.record.Version.{Version}
use Rattle.state_file.specs.declared.store.Store as store
use Rattle.state_file.specs.declared.store.file_store.FileStore.{FileStore}
use Rattle.command.specs.declared.answer.Done.{Done}
use Rattle.command.specs.declared.refusal.Refusal.{Refusal}
use Rattle.command.specs.declared.trace.Role.TheVariants as role
use Rattle.command.specs.Files.{FilesSeen, KeepsContents, KeepsOtherContents, ShowsContent}
use Rattle.command.specs.Make.{MakesAndPublishes, MakesIn, MakesOpened, make_answer}
use Rattle.command.specs.Serve.{ServesIn, ServesOpened}
use Rattle.command.specs.Sign.{DeliversSigned, SignsAndDelivers, SignsFile, SignsIn, SignsOpened, ready_to_sign, sign_answer}
use Rattle.command.specs.Signing.{Delivers, PublicBytes}
use Rattle.command.specs.Trace.{Happening, made, opened}

pub makes_opened : {K R : Type 0} {bound : _} (d : disk.Ghosts K) (g : store.Ghosts (FileStore K bound)) (r : source.Ghosts R)
    (content : List ℕ → Option (List ℕ)) (before after : K) (version : Version) (spec : Spec) (public random : List ℕ) (source : R)
    (answer : Result PublicBytes Refusal) (old ready new : List Happening) → ShowsContent (content random) (r.upcoming source)
    → ready ≡ old ++ opened role.Random random ∷ []
    → MakesAndPublishes {bound = bound} d g r before after version spec source public answer ready new
    → MakesOpened {bound = bound} d g r content before after version spec public random answer old new
makes_opened {bound = bound} d g r content before after version spec public random source answer old ready new drawn begins makes =
    inr (source, drawn, subst (λ t. MakesAndPublishes {bound = bound} d g r before after version spec source public answer t new) begins makes)

pub makes_in : {K R : Type 0} {bound : _} (d : disk.Ghosts K) (g : store.Ghosts (FileStore K bound)) (r : source.Ghosts R) (files : FilesSeen K)
    (version : Version) (spec : Spec) (state public text random : List ℕ) (before after : K) (content : List ℕ → Option (List ℕ)) (published : Result PublicBytes Refusal)
    (answer : Result Done Refusal) (old first last new : List Happening) → IsSpec spec → text ≡ spec_text spec
    → KeepsOtherContents state files.content content → files.IsOpenedDisk state before
    → MakesOpened {bound = bound} d g r content before after version spec public random published first last → first ≡ old ++ made state ∷ []
    → new ≡ last → files.IsClosedDisk after → answer ≡ make_answer published → MakesIn {bound = bound} d g r files state public text version random answer old new
makes_in {bound = bound} d g r files version spec state public text random before after content published answer old first last new is spelled known was makes begins ends closed answers =
    let from = subst (λ t. MakesOpened {bound = bound} d g r content before after version spec public random published t last) begins makes in
    let to = subst (λ t. MakesOpened {bound = bound} d g r content before after version spec public random published (old ++ made state ∷ []) t) (sym ends) from in
    inr (spec, is, spelled, inr (before, after, content, published, known, was, to, closed, answers))

-- ---- signing

pub delivered_ok : (signed : Result Unit Refusal) (value : Unit) (signature slice path : List ℕ) (old new : List Happening) (answer : Result ℕ Refusal)
    → signed ≡ Ok value → slice ≡ signature → Delivers (Ok slice) path old new answer → DeliversSigned signed signature path old new answer
delivered_ok signed value signature slice path old new answer is same delivers =
    subst (λ s. DeliversSigned s signature path old new answer) (sym is) (subst (λ l. Delivers (Ok l) path old new answer) same delivers)

pub delivered_err : (signed : Result Unit Refusal) (refusal : Refusal) (signature path : List ℕ) (old : List Happening) → signed ≡ Err refusal
    → DeliversSigned signed signature path old old (Err refusal)
delivered_err signed refusal signature path old is = subst (λ s. DeliversSigned s signature path old old (Err refusal)) (sym is) (refl, refl)

-- into an output without memory yet
pub signs_and_delivers : {K R : Type 0} {bound : _} (d : disk.Ghosts K) (g : store.Ghosts (FileStore K bound)) (r : source.Ghosts R) (before after : K)
    (random : R) (name : List ℕ) (left : Option (List ℕ)) (out : List ℕ) (answer : Result ℕ Refusal) (old new : List Happening) (capacity : ℕ)
    (signature : List ℕ) (signed : Result Unit Refusal) (read : List Happening) → capacity ≡ 0
    → SignsFile {bound = bound} d g r before after random name left capacity signature signed old read
    → DeliversSigned signed signature out read new answer
    → SignsAndDelivers {bound = bound} d g r before after random name left out answer old new
signs_and_delivers {bound = bound} d g r before after random name left out answer old new capacity signature signed read none signs delivers =
    (signature, signed, read, subst (λ n. SignsFile {bound = bound} d g r before after random name left n signature signed old read) none signs, delivers)

pub signs_opened : {K R : Type 0} {bound : _} (d : disk.Ghosts K) (g : store.Ghosts (FileStore K bound)) (r : source.Ghosts R)
    (content : List ℕ → Option (List ℕ)) (before after : K) (name message out random : List ℕ) (source : R) (left : Option (List ℕ))
    (answer : Result ℕ Refusal) (old ready new : List Happening) → ShowsContent (content random) (r.upcoming source) → ShowsContent (content message) left
    → ready ≡ old ++ ready_to_sign message random
    → SignsAndDelivers {bound = bound} d g r before after source name left out answer ready new
    → SignsOpened {bound = bound} d g r content before after name message out random answer old new
signs_opened {bound = bound} d g r content before after name message out random source left answer old ready new drawn shown begins signs =
    inr (source, left, drawn, shown, subst (λ t. SignsAndDelivers {bound = bound} d g r before after source name left out answer t new) begins signs)

pub signs_in : {K R : Type 0} {bound : _} (d : disk.Ghosts K) (g : store.Ghosts (FileStore K bound)) (r : source.Ghosts R) (files : FilesSeen K)
    (state given name message out random : List ℕ) (before after : K) (content : List ℕ → Option (List ℕ)) (signed : Result ℕ Refusal)
    (answer : Result Done Refusal) (old first last new : List Happening) → given ≡ name → IsName name
    → KeepsContents files.content content → files.IsOpenedDisk state before
    → SignsOpened {bound = bound} d g r content before after given message out random signed first last → first ≡ old ++ opened role.State state ∷ []
    → new ≡ last → files.IsClosedDisk after → answer ≡ sign_answer name signed
    → SignsIn {bound = bound} d g r files state name message out random answer old new
signs_in {bound = bound} d g r files state given name message out random before after content signed answer old first last new same is known was signs begins ends closed answers =
    let named = subst (λ n. SignsOpened {bound = bound} d g r content before after n message out random signed first last) same signs in
    let from = subst (λ t. SignsOpened {bound = bound} d g r content before after name message out random signed t last) begins named in
    let to = subst (λ t. SignsOpened {bound = bound} d g r content before after name message out random signed (old ++ opened role.State state ∷ []) t) (sym ends) from in
    inr (is, inr (before, after, content, signed, known, was, to, closed, answers))

-- ---- serving

pub serves_in : {K R I W : Type 0} {bound : _} (d : disk.Ghosts K) (g : store.Ghosts (FileStore K bound)) (r : source.Ghosts R) (m : message.Ghosts I)
    (contents : W → Option (List ℕ)) (files : FilesSeen K) (state random : List ℕ) (before after : K) (content : List ℕ → Option (List ℕ))
    (from to : I × W) (served : Result ℕ Refusal) (old first last new : List Happening)
    → KeepsContents files.content content → files.IsOpenedDisk state before
    → ServesOpened {bound = bound} d g r m contents content before after random from to served first last → first ≡ old ++ opened role.State state ∷ []
    → new ≡ last → files.IsClosedDisk after → ServesIn {bound = bound} d g r m contents files state random from to served old new
serves_in {bound = bound} d g r m contents files state random before after content from to served old first last new known was serves begins ends closed =
    let start = subst (λ t. ServesOpened {bound = bound} d g r m contents content before after random from to served t last) begins serves in
    let end = subst (λ t. ServesOpened {bound = bound} d g r m contents content before after random from to served (old ++ opened role.State state ∷ []) t) (sym ends) start in
    inr (before, after, content, known, was, end, closed)
