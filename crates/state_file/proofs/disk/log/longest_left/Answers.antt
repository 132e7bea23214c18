use Rattle.std.proofs.Common.{◌≡◌, ◌≤◌, length, reverse, arith, rules}
use Rattle.state_file.specs.Disk.{greatest_end}
use Rattle.state_file.specs.Log.{ranges_of}
use Rattle.state_file.proofs.Ranges.{no_shorter}
use Rattle.state_file.proofs.disk.log.longest_left.Goals as goal

pub returns : goal.returns
returns c =
    let ranges = ranges_of (reverse c.args.log.now) in
    let end : c.in_ok-longest.longest ≡ greatest_end (length c.args.base.now) ranges = search rules in
    let all : c.loop-offset.offset ≡ greatest_end (length c.args.base.now) ranges = omega arith in
    let long : length c.args.base.now ≤ greatest_end (length c.args.base.now) ranges = no_shorter _ ranges in
    record {
      longest = omega arith;
      kept = λ k inside outside. c.loop-offset.invariant.kept k (omega arith) inside outside;
      inside = λ k within not_outside. c.loop-offset.invariant.inside k (omega arith) not_outside;
      after = λ k within past. c.loop-offset.invariant.after k (omega arith) past;
    }
