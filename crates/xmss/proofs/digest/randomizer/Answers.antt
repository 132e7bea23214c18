use Rattle.std.proofs.Common.{◌∙◌, ap₂}
use Rattle.wots_plus.specs.Hashes.{prf}
use Rattle.xmss.proofs.digest.randomizer.Goals as goal

pub returns : goal.returns
returns c = c.hash.ensures ∙ ap₂ prf c.new.ensures c.index_bytes.ensures
