use Rattle.std.proofs.Common.{◌≡◌, length}
use Rattle.sign_core.proofs.writing.push_zeros.Given as goal

abbrev pub invariant-loop : goal.invariant-loop
invariant-loop l = (length l.out.items ≡ l.counter) × (l.out.cap ≡ l.initial.out.cap)
