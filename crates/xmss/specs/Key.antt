-- How XMSS public keys are spelled (RFC 8391 4.1.7).
use Rattle.typecodes.specs.Layout.{Layout, done, ◌>>=◌}
use Rattle.typecodes.specs.Fields.{block, xmss_type}
use Rattle.xmss.specs.declared.key.XmssPublic.{XmssPublic}

-- a public key, 68 bytes (4.1.7): the type, the root and SEED
unfoldable pub public_key : Layout XmssPublic
public_key = do
  tree ← xmss_type
  root ← block 32
  seed ← block 32
  done (record { tree = tree; root = root; seed = seed })
