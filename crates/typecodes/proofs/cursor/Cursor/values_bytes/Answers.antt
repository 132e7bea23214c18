use Rattle.std.proofs.Common.{arith}
use Rattle.typecodes.proofs.Values.{values-cut, values-give}
use Rattle.typecodes.proofs.cursor.Cursor.values_bytes.Goals as goal

pub returns-then-whole-count-clause-read : goal.returns-then-whole-count-clause-read
returns-then-whole-count-clause-read c = let self = c.args.self.now in values-cut c.args.count self.bytes.now self.place (omega arith) (omega arith)

pub returns-clause-read : goal.returns-clause-read
returns-clause-read c = let self = c.args.self.now in values-give (λ taken. taken.now) c.args.count self.bytes.now self.place _ _ (omega arith) c.block.ensures.read
