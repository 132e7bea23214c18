use Rattle.std.proofs.Common.{ap, ◌∙◌}
use Rattle.sha2.specs.Sha256.{add_state, compress}
use Rattle.winternitz.specs.Lanes.{lane_state}
use Rattle.winternitz.proofs.Vectors.{lanes_window}
use Rattle.winternitz.proofs.lanes.rounds.last_48_rounds.Goals as goal

pub returns : goal.returns
unfolding compress
returns c j low b words sixteen =
    let start = lane_state c.args.states.now j in
    let window = lanes_window b c.args.words.now j c.told-words words in
    let second = c.sixteen_steps-working.ensures j low b start (window, sixteen) in
    let third = c.sixteen_steps-working-2.ensures j low b start second in
    let last = c.sixteen_steps-working-3.ensures j low b start third in
    c.add_state.ensures j low ∙ ap (add_state start) last.1
