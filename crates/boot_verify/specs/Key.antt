-- Public keys of every scheme, and what each scheme says of a signature: definitions of lms, hss and xmss, picked by
-- the key.
use Rattle.std.specs.Prelude.{◌≡◌, ◌⊎◌, ℕ, List, length, Result}
use Rattle.typecodes.specs.declared.fault.ReadFault.{ReadFault}
use Rattle.typecodes.specs.declared.refusal.Refusal.{Refusal}
use Rattle.typecodes.specs.Layout.{Spells, HasFault}
use Rattle.lms.specs.Key.{public_key as lms_public_key}
use Rattle.lms.specs.Verification as lms
use Rattle.hss.specs.Key.{public_key as hss_public_key}
use Rattle.hss.specs.Verification as hss
use Rattle.xmss.specs.Key.{public_key as xmss_public_key}
use Rattle.xmss.specs.Verification as xmss
use Rattle.boot_verify.specs.declared.key.Key.{Key}
use Rattle.boot_verify.specs.declared.key.Key.TheVariants.{Lms, Hss, Xmss}

-- The bytes spell the key in its scheme's layout (RFC 8554 5.3 and 6.1, RFC 8391 4.1.7).
abbrev pub SpellsKey : Key → List ℕ → Type 0
SpellsKey (Lms key) bytes = Spells lms_public_key key bytes
SpellsKey (Hss key) bytes = Spells hss_public_key key bytes
SpellsKey (Xmss key) bytes = Spells xmss_public_key key bytes

-- The bytes have a scheme's length, and this fault in its layout.
abbrev pub KeyHasFault : List ℕ → ReadFault → Type 0
KeyHasFault bytes fault = ((length bytes ≡ 56) × HasFault lms_public_key bytes 0 fault)
    ⊎ ((length bytes ≡ 60) × HasFault hss_public_key bytes 0 fault)
    ⊎ ((length bytes ≡ 68) × HasFault xmss_public_key bytes 0 fault)

-- The bytes spell a signature that is valid for the message under the key (RFC 8554 5.4.2 and 6.3, RFC 8391 4.1.10).
abbrev pub IsSignature : Key → List ℕ → List ℕ → Type 0
IsSignature (Lms key) message bytes = lms.IsSignature key message bytes
IsSignature (Hss key) message bytes = hss.IsSignature key message bytes
IsSignature (Xmss key) message bytes = xmss.IsSignature key message bytes

-- Verification answers what the key's scheme says.
abbrev pub KeyVerdict : {A : Type 0} → Key → List ℕ → List ℕ → Result A Refusal → Type 0
KeyVerdict (Lms key) message bytes result = lms.Verdict key message bytes result
KeyVerdict (Hss key) message bytes result = hss.Verdict key message bytes result
KeyVerdict (Xmss key) message bytes result = xmss.Verdict key message bytes result

-- The digest of the message, after the scheme's prefix (RFC 8554 4.5, RFC 8391 4.1.9).
abbrev pub KeyIsDigest : Key → List ℕ → List ℕ → List ℕ → Type 0
KeyIsDigest (Lms key) message bytes digest = lms.IsDigest key message bytes digest
KeyIsDigest (Hss key) message bytes digest = hss.IsDigest key message bytes digest
KeyIsDigest (Xmss key) message bytes digest = xmss.IsDigest key message bytes digest

-- bytes that a scheme hashes before a message (RFC 8554 4.5, RFC 8391 4.1.9)
abbrev pub prefix_length : Key → ℕ
prefix_length (Lms key) = 54
prefix_length (Hss key) = 54
prefix_length (Xmss key) = 128

-- The bytes spell a signature, and this is its message's prefix.
abbrev pub KeyHasPrefix : Key → List ℕ → List ℕ → Type 0
KeyHasPrefix (Lms key) bytes prefix = lms.HasPrefix key bytes prefix
KeyHasPrefix (Hss key) bytes prefix = hss.HasPrefix key bytes prefix
KeyHasPrefix (Xmss key) bytes prefix = xmss.HasPrefix key bytes prefix
