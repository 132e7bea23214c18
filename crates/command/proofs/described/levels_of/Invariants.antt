use Rattle.std.proofs.Common.{◌≡◌}
use Rattle.std.specs.Prelude.{map}
use Rattle.std.specs.List.{range_with_len}
use Rattle.hss.specs.View.{signature_of}
use Rattle.command.specs.Described.{signed_level}
use Rattle.command.proofs.described.levels_of.Given as goal

-- the levels so far
abbrev pub invariant-loop-i : goal.invariant-loop-i
invariant-loop-i l = l.levels.items ≡ map (signed_level (signature_of l.view)) (range_with_len 0 l.i)
