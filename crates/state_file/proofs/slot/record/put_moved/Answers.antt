use Rattle.std.proofs.Common.{[], ◌∷◌, arith}
use Rattle.state_file.specs.declared.record.Record.{Record}
use Rattle.state_file.specs.declared.record.Record.TheVariants.{Moved}
use Rattle.state_file.specs.Slot.{exactly, moved_fields, zeros}
use Rattle.state_file.proofs.Written.{writes-bind, writes-done}
use Rattle.state_file.proofs.slot.record.put_moved.Goals as goal

pub returns : goal.returns
unfolding moved_fields
returns c =
    let entry : Record = Moved in record {
      writes =
          writes-bind (exactly 2 (0 ∷ 2 ∷ [])) _ tt entry _ _ _ c.put_exactly.ensures.writes
          (writes-bind (zeros 220) _ tt entry _ _ _ c.put_zeros.ensures.writes
          (writes-done entry _));
      len = omega arith;
    }
