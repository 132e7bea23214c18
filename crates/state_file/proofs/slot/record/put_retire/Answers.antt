use Rattle.std.proofs.Common.{arith}
use Rattle.typecodes.specs.Layout.{done, ◌>>=◌}
use Rattle.typecodes.specs.Fields.{number}
use Rattle.state_file.specs.declared.record.Record.{Record}
use Rattle.state_file.specs.declared.record.Record.TheVariants.{Retire}
use Rattle.state_file.specs.Slot.{retire_fields, zeros}
use Rattle.state_file.proofs.Written.{writes-bind, writes-done}
use Rattle.state_file.proofs.slot.record.put_retire.Goals as goal

pub returns : goal.returns
unfolding retire_fields
returns c =
    let entry : Record = Retire c.args.upto in record {
      writes =
          writes-bind number (λ upto. zeros 218 >>= λ rest. done (Retire upto)) c.args.upto entry _ _ _ c.put_number.ensures.writes
          (writes-bind (zeros 218) _ tt entry _ _ _ c.put_zeros.ensures.writes
          (writes-done entry _));
      len = omega arith;
    }
