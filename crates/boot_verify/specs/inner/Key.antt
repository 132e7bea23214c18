-- The root of a public key of any scheme, and what each scheme says of a computed one.
use Rattle.std.specs.Prelude.{ℕ, List, Result}
use Rattle.typecodes.specs.declared.refusal.Refusal.{Refusal}
use Rattle.lms.specs.Verification as lms
use Rattle.hss.specs.Verification as hss
use Rattle.xmss.specs.Verification as xmss
use Rattle.boot_verify.specs.declared.key.Key.{Key}
use Rattle.boot_verify.specs.declared.key.Key.TheVariants.{Lms, Hss, Xmss}

-- the root of the key's tree, or of its top level's
abbrev pub key_root : Key → List ℕ
key_root (Lms key) = key.root
key_root (Hss key) = key.top.root
key_root (Xmss key) = key.root

-- The root to which a signature's bytes lead, by the key's scheme: the key's exactly where the bytes spell a valid
-- signature. Where they lead to none, they spell no valid one.
abbrev pub KeyGivesRoot : Key → List ℕ → List ℕ → Result (List ℕ) Refusal → Type 0
KeyGivesRoot (Lms key) message bytes result = lms.GivesRoot key message bytes result
KeyGivesRoot (Hss key) message bytes result = hss.GivesRoot key message bytes result
KeyGivesRoot (Xmss key) message bytes result = xmss.GivesRoot key message bytes result
