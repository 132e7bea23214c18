use Rattle.std.proofs.Common.{◌-◌}
use Rattle.sign_core.proofs.signer.Signer.+bind_below.Given as goal

abbrev pub decreases-bind_below : goal.decreases-bind_below
decreases-bind_below g l = 8 - l.level
