use Rattle.std.proofs.Common.{◌∙◌, ◌++◌, ap, arith}
use Rattle.sha2.specs.Sha256.{padding}
use Rattle.winternitz.proofs.Vectors.{padded_tail}
use Rattle.winternitz.proofs.lanes.padded_96.Goals as goal

pub returns : goal.returns
returns c = padded_tail c.copy_from_slice.new.self _ (omega arith) ∙ ap (λ last. last ++ padding 96) c.copy_from_slice.ensures.after
