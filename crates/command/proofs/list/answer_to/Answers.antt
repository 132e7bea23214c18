use Rattle.std.proofs.Common.{◌∙◌, inl, inr, refl, sym}
use Rattle.command.proofs.list.answer_to.Goals as goal

pub returns-then-lacks_key : goal.returns-then-lacks_key
returns-then-lacks_key g c = inr (sym c.lacks_key.ensures ∙ c.if-lacks_key.true, c.describe_file.ensures)

pub returns : goal.returns
returns g c = inl (sym c.lacks_key.ensures ∙ c.if-lacks_key.false, c.list_answer.ensures, refl)
