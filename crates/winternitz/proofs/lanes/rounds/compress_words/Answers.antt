use Rattle.winternitz.proofs.Vectors.{lanes_window}
use Rattle.winternitz.proofs.lanes.rounds.compress_words.Goals as goal

pub returns : goal.returns
returns c j low b words = c.last_48_rounds.ensures j low b words (c.first_steps.ensures j low b (lanes_window b c.args.words.now j c.told-words words))
