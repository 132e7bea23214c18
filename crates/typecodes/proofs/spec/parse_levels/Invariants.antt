-- The pairs so far have the texts of the parts so far.
use Rattle.std.proofs.Common.{◌≡◌, ◌≤◌, length, map, take}
use Rattle.typecodes.specs.Spec.{pair_text}
use Rattle.typecodes.proofs.SpecTexts.{parts_of}
use Rattle.typecodes.proofs.spec.parse_levels.Given as goal

abbrev pub invariant-loop-pair : goal.invariant-loop-pair
invariant-loop-pair l =
    (length l.pairs ≡ 8) × (l.count ≡ length l.yielded) × (l.count ≤ 8)
    × (map pair_text (take l.count l.pairs) ≡ take l.count (parts_of l.text))
