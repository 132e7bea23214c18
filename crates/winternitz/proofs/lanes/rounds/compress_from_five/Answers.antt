use Rattle.winternitz.proofs.Vectors.{lanes_window}
use Rattle.winternitz.specs.Lanes.{lane_state}
use Rattle.winternitz.proofs.lanes.rounds.compress_from_five.Goals as goal

pub returns : goal.returns
returns c j low b words begun = c.last_48_rounds.ensures j low b words
    (c.steps_from_five.ensures j low b (lane_state c.args.states.now j) (lanes_window b c.args.words.now j c.told-words words) begun)
