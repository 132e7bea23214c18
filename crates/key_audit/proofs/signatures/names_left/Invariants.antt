use Rattle.std.proofs.Common.{◌≡◌, ◌^◌, ◌<◌, drop}
use Rattle.key_audit.specs.Signatures.{names_left}
use Rattle.key_audit.proofs.signatures.names_left.Given as goal

-- the names so far, and the levels to come
abbrev pub invariant-loop-level : goal.invariant-loop-level
invariant-loop-level l =
    (names_left l.spec 0 0 l.left ≡ names_left l.spec l.level l.names (drop l.level l.left)) × (l.names < 2 ^ 64)
