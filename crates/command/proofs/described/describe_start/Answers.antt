use Rattle.std.proofs.Common.{◌∙◌, None, sym}
use Rattle.command.proofs.Deciding.{decisive_is}
use Rattle.command.proofs.Describing.{long_described, short_described}
use Rattle.command.proofs.described.describe_start.Goals as goal

pub returns-then-first-eq-DECISIVE : goal.returns-then-first-eq-DECISIVE
returns-then-first-eq-DECISIVE c = (
  None,
  c.described_answer.ensures,
  λ whole is. long_described c.args.first.now whole (c.if-first-eq-DECISIVE.true ∙ decisive_is) is,
)

pub returns : goal.returns
returns c = (
  c.describe.result,
  c.described_answer-2.ensures,
  λ whole is. short_described c.args.first.now whole c.describe.result (λ long. c.if-first-eq-DECISIVE.false (long ∙ sym decisive_is)) c.describe.ensures is,
)
