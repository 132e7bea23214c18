use Rattle.std.proofs.Common.{arith}
use Rattle.typecodes.specs.Fields.{block, number}
use Rattle.state_file.specs.declared.record.Record.{Record}
use Rattle.state_file.specs.declared.record.Record.TheVariants.{Extend}
use Rattle.state_file.specs.Slot.{after_parent_leaf, byte, extend_fields, zeros}
use Rattle.state_file.proofs.Written.{writes-bind, writes-done}
use Rattle.state_file.proofs.slot.extend.put_extend.Goals as goal

pub returns : goal.returns
unfolding extend_fields
returns c =
    let entry : Record = Extend c.args.extend.now in record {
      writes =
          writes-bind byte _ c.args.extend.now.level entry _ _ _ c.put_byte.ensures.writes
          (writes-bind number (after_parent_leaf c.args.extend.now.level) c.args.extend.now.parent_leaf entry _ _ _ c.put_number.ensures.writes
          (writes-bind (block 16) _ c.args.extend.now.identifier entry _ _ _ c.put_array.ensures.writes
          (writes-bind (block 32) _ c.args.extend.now.seed entry _ _ _ c.put_array-2.ensures.writes
          (writes-bind (block 32) _ c.args.extend.now.randomizer entry _ _ _ c.put_array-3.ensures.writes
          (writes-bind (block 32) _ c.args.extend.now.digest entry _ _ _ c.put_array-4.ensures.writes
          (writes-bind (block 32) _ c.args.extend.now.root entry _ _ _ c.put_array-5.ensures.writes
          (writes-bind (zeros 73) _ tt entry _ _ _ c.put_zeros.ensures.writes
          (writes-done entry _))))))));
      len = omega arith;
    }
