use Rattle.std.proofs.Common.{◌∙◌, arith, refl}
use Rattle.winternitz.proofs.Long.{padding_by_parts}
use Rattle.winternitz.proofs.lanes.long.padding_of.Goals as goal

pub returns-clause-bytes : goal.returns-clause-bytes
returns-clause-bytes c =
    c.put-count.ensures.bytes ∙ padding_by_parts c.args.end _ 71 _ (omega arith) refl (omega arith) c.to_be_bytes.ensures
