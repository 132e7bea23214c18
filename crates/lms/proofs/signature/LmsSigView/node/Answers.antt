use Rattle.std.proofs.Common.{◌+◌}
use Rattle.typecodes.specs.Types.{height_of, signature_len_of}
use Rattle.typecodes.proofs.Parts.{values_at}
use Rattle.lms.proofs.signature.LmsSigView.node.Goals as goal

pub returns-clause-range : goal.returns-clause-range
returns-clause-range c =
    let pair = c.args.self.now.pair in
    values_at (height_of pair.tree) (8 + signature_len_of pair.ots) _ _ _ c.args.k c.args.self.now.path_at c.requires c.from.ensures
