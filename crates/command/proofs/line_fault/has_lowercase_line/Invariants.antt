use Rattle.std.proofs.Common.{◌≡◌, drop}
use Rattle.command.specs.LineFault.{has_lowercase_line}
use Rattle.command.proofs.line_fault.has_lowercase_line.Given as goal

abbrev pub invariant-loop-byte : goal.invariant-loop-byte
invariant-loop-byte l = has_lowercase_line 10 l.text ≡ has_lowercase_line l.before (drop l.byte-index l.text)
