use Rattle.std.proofs.Common.{◌-◌, ◌*◌, List, length, subst, arith}
use Rattle.typecodes.specs.declared.types.LmsPair.{LmsPair}
use Rattle.state_file.specs.Slot.{bounded_byte, levels_field, pairs, zeros}
use Rattle.state_file.specs.inner.Fields.{AppendsSpelling}
use Rattle.state_file.proofs.Written.{writes-bind, writes-done}
use Rattle.state_file.proofs.slot.secret.put_levels.Goals as goal

pub returns : goal.returns
unfolding levels_field
returns c =
    let all = c.as_slice-all.result.now in
    let Writes_levels : List LmsPair → Type 0 = λ levels. AppendsSpelling levels_field levels c.args.out.now.items c.put_zeros.new.out.items in record {
      writes =
          subst Writes_levels c.as_slice-all.ensures.value
          (writes-bind (bounded_byte 1 8) _ (length all) all _ _ _ c.put_byte_within.ensures.writes
          (writes-bind (pairs (length all)) _ all all _ _ _ c.put_pairs.ensures.writes
          (writes-bind (zeros (64 - 8 * length all)) _ tt all _ _ _ c.put_zeros.ensures.writes
          (writes-done all _))));
      len = omega arith;
    }
