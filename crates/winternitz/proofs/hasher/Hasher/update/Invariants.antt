-- What the bytes so far leave.
use Rattle.std.proofs.Common.{◌≡◌, ℕ, List, ◌++◌, ◌+◌, ◌*◌, ◌%◌, ◌^◌, ◌≤◌, length, take}
use Rattle.winternitz.specs.Hasher.{HoldsBytes, IsAbsorbed}
use Rattle.winternitz.proofs.hasher.Hasher.update.Given as goal

abbrev pub invariant-groups : goal.invariant-groups
invariant-groups l =
    (l.self.total ≡ (l.fn.self.total + length l.input) % 2 ^ 64) × (l.start + 512 * l.i ≤ length l.input)
    × ((m : List ℕ) → HoldsBytes l.fn.self m → IsAbsorbed l.self.state l.self.buffer (m ++ take (l.start + 512 * l.i) l.input) × ((length m + l.start) % 512 ≡ 0))
