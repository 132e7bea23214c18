use Rattle.std.proofs.Common.{◌≡◌, ◌+◌, ◌-◌, ◌*◌, ◌≤◌, length, take}
use Rattle.std.specs.Prelude.{sum_by}
use Rattle.typecodes.specs.Types.{lms_signature_len_of}
use Rattle.hss.proofs.writing.signature_len.Given as goal

-- the signatures so far
abbrev pub invariant-loop-pair : goal.invariant-loop-pair
invariant-loop-pair l = record {
  sum : l.len ≡ 4 + 56 * (length l.pairs - 1) + sum_by lms_signature_len_of (take l.pair-index l.pairs);
  most : sum_by lms_signature_len_of (take l.pair-index l.pairs) ≤ 9324 * l.pair-index;
}
