use Rattle.std.proofs.Common.{rules, ◌≡◌, ◌∙◌, ◌<◌, ap, arith, slice_index, sym}
use Rattle.sha2.specs.Sha256.{add32, round_constants}
use Rattle.winternitz.specs.Lanes.{lane, lane_at, lanes}
use Rattle.winternitz.proofs.Sums.{first_word_at}
use Rattle.winternitz.proofs.Vectors.{slice_index-lane, words_more}
use Rattle.winternitz.proofs.lanes.sums.first_sums.Goals as goal

pub loop-t-preserved : goal.loop-t-preserved
loop-t-preserved c = record {
  long = search rules;
  each = words_more (λ j i v. j < lanes → v ≡ add32 (lane_at c.args.window.now i j) (slice_index round_constants i)) c.loop-t.sums c.loop-t.t _
      (omega arith) c.loop-t.invariant.each c.sum_of.ensures;
}

pub returns : goal.returns
returns c = λ j low b window t within.
    c.loop-t.invariant.each j t (omega arith) low
    ∙ ap (λ w. add32 w (slice_index round_constants t))
    (sym (slice_index-lane c.args.window.now j t) ∙ first_word_at b (lane j c.args.window.now) t within window)
