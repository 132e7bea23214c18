use Rattle.std.proofs.Common.{◌≡◌}
use Rattle.std.specs.Prelude.{map}
use Rattle.std.specs.List.{range_with_len}
use Rattle.sign_core.specs.Records.{free_at}
use Rattle.sign_core.proofs.ledger.Ledger.left.Given as goal

abbrev pub invariant-loop-level : goal.invariant-loop-level
invariant-loop-level l =
    l.counts.items ≡ map (free_at l.self.key.secret l.self.records) (range_with_len 0 l.level)
