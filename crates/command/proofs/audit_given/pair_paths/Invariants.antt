use Rattle.std.proofs.Common.{◌≡◌, ◌*◌, Some, map, take}
use Rattle.command.specs.AuditGiven.{pair_of, path_pairs}
use Rattle.command.proofs.audit_given.pair_paths.Given as goal

abbrev pub invariant-loop-i : goal.invariant-loop-i
invariant-loop-i l = path_pairs (map (λ path. path.now) (take (2 * l.i) l.paths)) ≡ Some (map pair_of l.files.items)
