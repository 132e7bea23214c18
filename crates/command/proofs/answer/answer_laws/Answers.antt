use Rattle.command.proofs.AnswerLaws.{laws}
use Rattle.command.proofs.answer.answer_laws.Goals as goal

pub returns : goal.returns
returns c = laws c.listing_law.ensures
