use Rattle.std.proofs.Common.{◌≡◌, ◌≤◌, drop}
use Rattle.command.specs.Number.{continued_number}
use Rattle.command.proofs.number.read_number.Given as goal

-- the rest of the text continues the number so far
abbrev pub invariant-loop-byte : goal.invariant-loop-byte
invariant-loop-byte l =
    (continued_number l.most 0 l.text ≡ continued_number l.most l.number (drop l.byte-index l.text)) × (l.number ≤ l.most)
