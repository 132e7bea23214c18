use Rattle.std.proofs.Common.{rules, ◌≡◌, ◌*◌, ◌<◌, [], arith, slice_index_or}
use Rattle.sha2.specs.Sha256.{word_at}
use Rattle.winternitz.specs.Lanes.{lanes}
use Rattle.winternitz.proofs.Vectors.{words_more}
use Rattle.winternitz.proofs.lanes.block_words.Goals as goal

pub loop-k-preserved : goal.loop-k-preserved
loop-k-preserved c = record {
  long = search rules;
  each = words_more (λ j i v. j < lanes → v ≡ word_at (slice_index_or c.args.blocks.now j []) (4 * i)) c.loop-k.words c.loop-k.k _ (omega arith)
      c.loop-k.invariant.each c.load.ensures;
}
