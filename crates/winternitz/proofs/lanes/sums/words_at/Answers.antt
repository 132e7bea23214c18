use Rattle.std.proofs.Common.{ℕ, ◌∙◌, arith, rules}
use Rattle.sha2.specs.Sha256.{word_at}
use Rattle.winternitz.specs.inner.Sums.{block_of}
use Rattle.winternitz.proofs.Sums.{lane_more, word_of_block}
use Rattle.winternitz.proofs.lanes.sums.words_at.Goals as goal

pub loop-lane-preserved : goal.loop-lane-preserved
loop-lane-preserved c =
    let lane = c.loop-lane.lane in
    let words = c.loop-lane.words in
    let at : ℕ → ℕ = λ j. word_at (block_of c.args.bytes.now j) c.args.i in
    record {
      long = search rules;
      each = lane_more at words lane _ (omega arith) c.loop-lane.invariant.each
          (c.word.ensures.word ∙ word_of_block c.args.bytes.now lane c.args.i c.requires.within);
    }
