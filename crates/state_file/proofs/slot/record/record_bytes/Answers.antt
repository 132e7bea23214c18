use Rattle.std.proofs.Common.{◌≡◌, ◌∙◌, ◌++◌, ℕ, subst, sym, ap}
use Rattle.typecodes.specs.Layout.{Spells}
use Rattle.state_file.specs.Slot.{byte, fields_of, slot_record}
use Rattle.state_file.specs.inner.Slot.{kind_of}
use Rattle.state_file.specs.inner.Fields.{AppendsSpelling}
use Rattle.state_file.proofs.Written.{writes-bind}
use Rattle.state_file.proofs.slot.record.record_bytes.Goals as goal

pub returns : goal.returns
unfolding slot_record
returns c =
    let entry = c.args.entry.now in
    let Coded : ℕ → Type 0 = λ n. AppendsSpelling byte n c.new-out.result.items c.put_byte.new.out.items in
    let kind = subst Coded c.kind.ensures c.put_byte.ensures.writes in
    let written = writes-bind byte (fields_of c.args.version) (kind_of entry) entry _ _ _ kind c.put_fields.ensures.writes in
    let bytes : c.in-Ok.bytes ≡ written.part = c.in-Ok.ensures.ok ∙ written.after ∙ ap (λ l. l ++ written.part) c.new-out.ensures in
    subst (Spells (slot_record c.args.version) entry) (sym bytes) written.spelled
