-- The words so far.
use Rattle.std.proofs.Common.{◌≡◌, ℕ, ◌*◌, ◌<◌, ◌^◌, length, slice_index}
use Rattle.std.specs.Int.{w32, to_be_bytes}
use Rattle.winternitz.specs.inner.Lanes.{four_bytes}
use Rattle.winternitz.proofs.lanes.words_of.Given as goal

abbrev pub invariant-loop-k : goal.invariant-loop-k
invariant-loop-k g l = record {
  long : length l.words ≡ g.row.N;
  each : (i : ℕ) → i < l.k → (to_be_bytes w32 (slice_index l.words i) ≡ four_bytes l.bytes (4 * i)) × (slice_index l.words i < 2 ^ 32);
}
