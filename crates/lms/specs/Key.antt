-- How LMS public keys are spelled (RFC 8554 5.3).
use Rattle.typecodes.specs.Layout.{Layout, done, ◌>>=◌}
use Rattle.typecodes.specs.Fields.{block, ots_type, lms_type}
use Rattle.lms.specs.declared.key.LmsPublic.{LmsPublic}

-- a public key, 56 bytes (5.3): the two types, I and the root T[1]
unfoldable pub public_key : Layout LmsPublic
public_key = do
  tree ← lms_type
  ots ← ots_type
  identifier ← block 16
  root ← block 32
  done (record { pair = record { tree = tree; ots = ots }; identifier = identifier; root = root })
