use Rattle.std.proofs.Common.{[], ◌∷◌, arith}
use Rattle.typecodes.specs.Fields.{block}
use Rattle.state_file.specs.declared.record.Secret.{Secret}
use Rattle.state_file.specs.declared.record.Secret.TheVariants.{Lms}
use Rattle.state_file.specs.Slot.{exactly, lms_fields, pair_field, zeros}
use Rattle.state_file.proofs.Written.{writes-bind, writes-done}
use Rattle.state_file.proofs.slot.secret.put_lms.Goals as goal

pub returns : goal.returns
unfolding lms_fields
returns c =
    let secret : Secret = Lms c.args.secret.now in record {
      writes =
          writes-bind (exactly 1 (1 ∷ [])) _ tt secret _ _ _ c.put_exactly.ensures.writes
          (writes-bind pair_field _ c.args.secret.now.pair secret _ _ _ c.put_pair.ensures.writes
          (writes-bind (zeros 56) _ tt secret _ _ _ c.put_zeros.ensures.writes
          (writes-bind (block 16) _ c.args.secret.now.identifier secret _ _ _ c.put_array.ensures.writes
          (writes-bind (block 32) _ c.args.secret.now.seed secret _ _ _ c.put_array-2.ensures.writes
          (writes-bind (zeros 64) _ tt secret _ _ _ c.put_zeros-2.ensures.writes
          (writes-done secret _))))));
      len = omega arith;
    }
