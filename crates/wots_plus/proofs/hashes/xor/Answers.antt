use Rattle.std.proofs.Common.{get_or, arith, rules}
use Rattle.std.specs.Prelude.{bit_xor}
use Rattle.std.proofs.lemmas.List.Edits.{fill_by_more}
use Rattle.wots_plus.proofs.Bytes.{xor_of_each}
use Rattle.wots_plus.proofs.hashes.xor.Goals as goal

pub loop-i-preserved : goal.loop-i-preserved
loop-i-preserved c = record {
  long = search rules;
  each = fill_by_more (λ i. bit_xor (get_or c.args.bytes.now i 0) (get_or c.args.mask.now i 0)) c.loop-i.out c.loop-i.i 0 (omega arith) c.loop-i.invariant.each;
}

pub returns : goal.returns
returns c =
    xor_of_each 32 _ _ _ c.told-bytes c.told-mask (omega arith) (λ i within. c.loop-i.invariant.each i (omega arith))
