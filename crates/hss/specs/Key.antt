-- How HSS public keys are spelled (RFC 8554 6.1).
use Rattle.std.specs.Prelude.{ℕ, nat_le, ◌&&◌, if◌then◌else◌}
use Rattle.typecodes.specs.declared.fault.Cause.TheVariants.{LevelCount}
use Rattle.typecodes.specs.Layout.{Layout, done, refuse, ◌>>=◌}
use Rattle.typecodes.specs.Fields.{number}
use Rattle.lms.specs.Key.{public_key as lms_public_key}
use Rattle.hss.specs.declared.key.HssPublic.{HssPublic}

-- a number of levels, from low to high
unfoldable pub level_number : ℕ → ℕ → Layout ℕ
level_number low high = do
  n ← number
  if nat_le low n && nat_le n high then done n else refuse 4 LevelCount

-- a public key, 60 bytes: L, and the public key of the top tree
unfoldable pub public_key : Layout HssPublic
public_key = do
  levels ← level_number 1 8
  top ← lms_public_key
  done (record { levels = levels; top = top })
