-- A message that signing reads, as the file that it is.
use Rattle.std.proofs.Common.{◌≡◌, ◌∙◌, ℕ, Bool, List, [], ◌∷◌, ◌++◌, Option, Some, None, Result, Ok, Err, true, false, inl, inr, ap, ap₂, subst, sym}
use Rattle.typecodes.specs.declared.message.Message as message
use Rattle.typecodes.specs.Message.{ReadOutcome, Transitions}
use Rattle.sign_core.specs.declared.fault.SignFault.{SignFault}
use Rattle.sign_core.specs.declared.source.Source as source
use Rattle.sign_core.specs.Signer.{IsRead, Signs, View}
use Rattle.state_file.specs.declared.disk.Disk as disk
use Rattle.state_file.specs.declared.store.Store as store
use Rattle.state_file.specs.declared.store.file_store.FileStore.{FileStore}
use Rattle.command.specs.declared.refusal.Refusal.{Refusal}
use Rattle.command.specs.declared.trace.Role.{Role}
use Rattle.command.specs.declared.trace.Role.TheVariants as role
use Rattle.command.specs.KeyFile.{SignsOn}
use Rattle.command.specs.Sign.{MessageFile, message_file}
use Rattle.command.specs.Trace.{Happening, ReadsOnce}
use Rattle.command.proofs.Reading.{Notes, stays}

abbrev pub as_file : {M : Type 0} → message.Ghosts M → (M → List Happening) → M → MessageFile
as_file m trace_of reader = (m.remaining reader, trace_of reader)

-- Each read of the message is a read of the file.
followed : {M : Type 0} (m : message.Ghosts M) (role_of : M → Role) (trace_of : M → List Happening) → Notes m.transition role_of trace_of
    → (outcomes : List ReadOutcome) (old new : M) → role_of old ≡ role.Message → Transitions m.transition outcomes old new
    → Transitions message_file.transition outcomes (as_file m trace_of old) (as_file m trace_of new)
followed m role_of trace_of notes [] old new is same = ap (as_file m trace_of) same
followed m role_of trace_of notes (outcome ∷ later) old new is (next, first, reads) = (
  as_file m trace_of next,
  subst (λ r. ReadsOnce r (trace_of old) outcome (trace_of next)) is (notes.trace old outcome next first),
  followed m role_of trace_of notes later next new (notes.role old outcome next first ∙ is) reads,
)

read_followed : {M : Type 0} (m : message.Ghosts M) (role_of : M → Role) (trace_of : M → List Happening) → Notes m.transition role_of trace_of
    → (is_read : Bool) (given : Option (List ℕ)) (old new : M) → role_of old ≡ role.Message → IsRead m is_read given old new
    → IsRead message_file is_read given (as_file m trace_of old) (as_file m trace_of new)
read_followed m role_of trace_of notes true (Some text) old new is whole =
    let (outcomes, reads, gave) = whole.gave in
    record {
      gave = (outcomes, followed m role_of trace_of notes (outcomes ++ Ok [] ∷ []) old new is reads, gave);
      bytes = whole.bytes;
      end = whole.end;
      short = whole.short;
    }
read_followed m role_of trace_of notes true None old new is (inl (kind, text, (outcomes, reads, gave))) =
    inl (kind, text, (outcomes, followed m role_of trace_of notes (outcomes ++ Err kind ∷ []) old new is reads, gave))
read_followed m role_of trace_of notes true None old new is (inr (text, (outcomes, reads, gave), endless)) =
    inr (text, (outcomes, followed m role_of trace_of notes outcomes old new is reads, gave), endless)
read_followed m role_of trace_of notes false given old new is same = ap (as_file m trace_of) same

-- Signing the message is signing the file.
signs_followed : {S R M : Type 0} (g : store.Ghosts S) (r : source.Ghosts R) (m : message.Ghosts M) (role_of : M → Role)
    (trace_of : M → List Happening) → Notes m.transition role_of trace_of → (old new : View S R) (name : List ℕ) (before after : M)
    (capacity : ℕ) (answer : Result (List ℕ) SignFault) → role_of before ≡ role.Message
    → Signs g r m old new name before after capacity answer
    → Signs g r message_file old new name (as_file m trace_of before) (as_file m trace_of after) capacity answer
signs_followed g r m role_of trace_of notes old new name before after capacity answer is signs = record {
  answers = signs.answers;
  message = read_followed m role_of trace_of notes signs.answers.outcome.is_read signs.answers.chance.given before after
      is signs.message;
}

pub signs_on_followed : {K R M : Type 0} {bound : _} (d : disk.Ghosts K) (g : store.Ghosts (FileStore K bound)) (r : source.Ghosts R)
    (m : message.Ghosts M) (role_of : M → Role) (trace_of : M → List Happening) → Notes m.transition role_of trace_of
    → (old new : K) (random : R) (name : List ℕ) (before after : M) (left : Option (List ℕ)) (trace : List Happening) (capacity : ℕ)
    (output : List ℕ) (answer : Result Unit Refusal) → role_of before ≡ role.Message
    → m.remaining after ≡ left → trace_of after ≡ trace
    → SignsOn {bound = bound} d g r m old new random name before after capacity output answer
    → SignsOn {bound = bound} d g r message_file old new random name (as_file m trace_of before) (left, trace) capacity output answer
signs_on_followed d g r m role_of trace_of notes old new random name before after left trace capacity output answer is leaves traces (inl (refusal, refused, same, opens)) =
    inl (refusal, refused, ap₂ (λ (l : Option (List ℕ)) (t : List Happening). (l, t)) (sym leaves ∙ ap m.remaining same) (sym traces ∙ ap trace_of same), opens)
signs_on_followed d g r m role_of trace_of notes old new random name before after left trace capacity output answer is leaves traces (inr (opened, last, opens, (signed, signs, gives), disk)) =
    let followed = signs_followed g r m role_of trace_of notes opened last name before after capacity signed is signs in
    let there : as_file m trace_of after ≡ (left, trace) = ap₂ (λ (l : Option (List ℕ)) (t : List Happening). (l, t)) leaves traces in
    inr (
      opened,
      last,
      opens,
      (signed, subst (λ file. Signs g r message_file opened last name (as_file m trace_of before) file capacity signed) there followed, gives),
      disk,
    )

-- ---- what no read changes, signing doesn't

read_stays : {M X : Type 0} (m : message.Ghosts M) (part : M → X)
    → ((old : M) (outcome : ReadOutcome) (new : M) → m.transition old outcome new → part new ≡ part old)
    → (is_read : Bool) (given : Option (List ℕ)) (old new : M) → IsRead m is_read given old new → part new ≡ part old
read_stays m part kept true (Some text) old new whole =
    let (outcomes, reads, gave) = whole.gave in stays m.transition part kept (outcomes ++ Ok [] ∷ []) old new reads
read_stays m part kept true None old new (inl (kind, text, (outcomes, reads, gave))) =
    stays m.transition part kept (outcomes ++ Err kind ∷ []) old new reads
read_stays m part kept true None old new (inr (text, (outcomes, reads, gave), endless)) = stays m.transition part kept outcomes old new reads
read_stays m part kept false given old new same = ap part same

pub signs_on_stays : {K R M X : Type 0} {bound : _} (d : disk.Ghosts K) (g : store.Ghosts (FileStore K bound)) (r : source.Ghosts R)
    (m : message.Ghosts M) (part : M → X) → ((old : M) (outcome : ReadOutcome) (new : M) → m.transition old outcome new → part new ≡ part old)
    → (old new : K) (random : R) (name : List ℕ) (before after : M) (capacity : ℕ) (output : List ℕ) (answer : Result Unit Refusal)
    → SignsOn {bound = bound} d g r m old new random name before after capacity output answer → part after ≡ part before
signs_on_stays d g r m part kept old new random name before after capacity output answer (inl (refusal, refused, same, opens)) = ap part same
signs_on_stays d g r m part kept old new random name before after capacity output answer (inr (opened, left, opens, (signed, signs, gives), disk)) =
    read_stays m part kept signs.answers.outcome.is_read signs.answers.chance.given before after signs.message
