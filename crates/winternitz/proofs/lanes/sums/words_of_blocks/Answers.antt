use Rattle.std.proofs.Common.{rules, ◌≡◌, ◌*◌, ◌<◌, ℕ, arith}
use Rattle.sha2.specs.Sha256.{word_at}
use Rattle.winternitz.specs.Lanes.{lanes}
use Rattle.winternitz.specs.inner.Sums.{block_of}
use Rattle.winternitz.proofs.Vectors.{words_more}
use Rattle.winternitz.proofs.lanes.sums.words_of_blocks.Goals as goal

pub loop-k-preserved : goal.loop-k-preserved
loop-k-preserved c =
    let Is : ℕ → ℕ → ℕ → Type 0 = λ j i v. j < lanes → v ≡ word_at (block_of c.args.bytes.now j) (4 * i) in
    record {
      long = search rules;
      each = words_more Is c.loop-k.words c.loop-k.k _ (omega arith) c.loop-k.invariant.each c.words_at.ensures;
    }
