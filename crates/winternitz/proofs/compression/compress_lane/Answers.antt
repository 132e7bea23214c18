use Rattle.std.proofs.Common.{◌≡◌, ◌∙◌, ◌*◌, ap, arith, refl}
use Rattle.sha2.specs.Sha256.{add_state, compress, rounds, schedule}
use Rattle.winternitz.proofs.compression.compress_lane.Goals as goal

pub loop-turn-init : goal.loop-turn-init
unfolding rounds
loop-turn-init c = λ b sums. refl

pub loop-turn-preserved : goal.loop-turn-preserved
loop-turn-preserved c = λ b sums.
    c.eight_rounds-working.ensures b c.args.state.now sums (c.loop-turn.invariant b sums)
    ∙ ap (rounds c.args.state.now (schedule b 48)) (omega arith)

pub returns : goal.returns
unfolding compress
returns c = λ b sums.
    let done : 8 * c.loop-turn.turn ≡ 64 = omega arith in
    ap (add_state c.args.state.now) (c.loop-turn.invariant b sums ∙ ap (rounds c.args.state.now (schedule b 48)) done)
