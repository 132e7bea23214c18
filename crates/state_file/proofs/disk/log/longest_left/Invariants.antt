use Rattle.std.proofs.Common.{◌≡◌, ◌<◌, ◌≤◌, length, reverse, slice_index, ℕ}
use Rattle.state_file.specs.Disk.{IsOutside}
use Rattle.state_file.specs.Log.{ranges_of}
use Rattle.state_file.proofs.disk.log.longest_left.Given as goal

abbrev pub invariant-loop-offset : goal.invariant-loop-offset
invariant-loop-offset l = record {
  len : length l.left.items ≡ l.offset;
  kept : (k : ℕ) → k < l.offset → k < length l.base → IsOutside k (ranges_of (reverse l.log)) → slice_index l.left.items k ≡ slice_index l.base k;
  inside : (k : ℕ) → k < l.offset → (IsOutside k (ranges_of (reverse l.log)) → ⊥) → slice_index l.left.items k ≡ l.byte;
  after : (k : ℕ) → k < l.offset → length l.base ≤ k → slice_index l.left.items k ≡ l.byte;
}
