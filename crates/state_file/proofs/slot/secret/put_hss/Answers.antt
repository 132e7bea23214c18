use Rattle.std.proofs.Common.{arith}
use Rattle.typecodes.specs.Fields.{block}
use Rattle.state_file.specs.declared.record.Secret.{Secret}
use Rattle.state_file.specs.declared.record.Secret.TheVariants.{Hss}
use Rattle.state_file.specs.Slot.{hss_fields, levels_field, zeros}
use Rattle.state_file.proofs.Written.{writes-bind, writes-done}
use Rattle.state_file.proofs.slot.secret.put_hss.Goals as goal

pub returns : goal.returns
unfolding hss_fields
returns c =
    let secret : Secret = Hss c.args.levels.now c.args.identifier.now c.args.seed.now in record {
      writes =
          writes-bind levels_field _ c.args.levels.now secret _ _ _ c.put_levels.ensures.writes
          (writes-bind (block 16) _ c.args.identifier.now secret _ _ _ c.put_array.ensures.writes
          (writes-bind (block 32) _ c.args.seed.now secret _ _ _ c.put_array-2.ensures.writes
          (writes-bind (zeros 64) _ tt secret _ _ _ c.put_zeros.ensures.writes
          (writes-done secret _))));
      len = omega arith;
    }
