use Rattle.std.proofs.Common.{Option, subst, sym}
use Rattle.std.specs.Prelude.{MatchOption}
use Rattle.typecodes.specs.Layout.{Spells}
use Rattle.state_file.specs.declared.record.Record.{Record}
use Rattle.state_file.specs.Slot.{slot_record}
use Rattle.state_file.proofs.Blocks.{spelled_or_not}
use Rattle.state_file.proofs.slot.record.read_record.Goals as goal

pub returns : goal.returns
returns c =
    let bytes = c.args.bytes.now in
    let layout = slot_record c.args.version in
    let Reports : Option Record → Type 0 = λ found. MatchOption found ((entry : Record) → Spells layout entry bytes → ⊥) (λ entry. Spells layout entry bytes) in
    subst Reports (sym c.ok.ensures.value) (spelled_or_not layout bytes c.read_all.result c.read_all.ensures)
