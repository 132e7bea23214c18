use Rattle.std.proofs.Common.{◌∙◌, arith}
use Rattle.winternitz.proofs.Words.{bytes_of_words}
use Rattle.winternitz.proofs.lanes.words_of.Goals as goal

pub returns-clause-bytes : goal.returns-clause-bytes
returns-clause-bytes g c =
    bytes_of_words _ _ _ (c.told-bytes ∙ c.requires) (λ k within. (c.loop-k.invariant.each k (omega arith)).0)

pub returns-clause-fit : goal.returns-clause-fit
returns-clause-fit g c = λ k within. (c.loop-k.invariant.each k (omega arith)).1
