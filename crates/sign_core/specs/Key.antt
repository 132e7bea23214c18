-- Public keys of every scheme: their bytes, and what verification under them answers.
use Rattle.std.specs.Prelude.{◌≡◌, ◌≢◌, ◌⊎◌, ℕ, List, Option, codes, length, Result}
use Rattle.typecodes.specs.Fault.{cause_name, cause_number}
use Rattle.typecodes.specs.declared.refusal.Refusal.{Refusal}
use Rattle.typecodes.specs.Layout.{Spells, HasFault}
use Rattle.typecodes.specs.Message.{Transition}
use Rattle.lms.specs.Key.{public_key as lms_public_key}
use Rattle.lms.specs.Verification.{Verdict as LmsVerdict, LeavesMessage as LmsLeavesMessage}
use Rattle.hss.specs.Key.{public_key as hss_public_key}
use Rattle.hss.specs.Verification.{Verdict as HssVerdict, LeavesMessage as HssLeavesMessage}
use Rattle.xmss.specs.Key.{public_key as xmss_public_key}
use Rattle.xmss.specs.Verification.{Verdict as XmssVerdict, LeavesMessage as XmssLeavesMessage}
use Rattle.sign_core.specs.declared.key.AnyPublic.{AnyPublic}
use Rattle.sign_core.specs.declared.key.AnyPublic.TheVariants.{Lms, Hss, Xmss}
use Rattle.sign_core.specs.declared.key.KeyFault.{KeyFault}
use Rattle.sign_core.specs.declared.key.KeyFault.TheVariants.{Length, Unreadable}

-- The bytes of a key, by its scheme (RFC 8554 5.3 and 6.1, RFC 8391 4.1.7).
abbrev pub SpellsKey : AnyPublic → List ℕ → Type 0
SpellsKey (Lms key) bytes = Spells lms_public_key key bytes
SpellsKey (Hss key) bytes = Spells hss_public_key key bytes
SpellsKey (Xmss key) bytes = Spells xmss_public_key key bytes

-- What is wrong with bytes that are no key. Their length isn't 56, 60 or 68 bytes; or they have this fault as a key of
-- the scheme with their length.
abbrev pub KeyHasFault : List ℕ → KeyFault → Type 0
KeyHasFault bytes (Length n) = (n ≡ length bytes) × (n ≢ 56) × (n ≢ 60) × (n ≢ 68)
KeyHasFault bytes (Unreadable fault) =
    ((length bytes ≡ 56) × HasFault lms_public_key bytes 0 fault)
    ⊎ ((length bytes ≡ 60) × HasFault hss_public_key bytes 0 fault)
    ⊎ ((length bytes ≡ 68) × HasFault xmss_public_key bytes 0 fault)

-- the number that reports the fault, and its name
abbrev pub key_fault_number : KeyFault → ℕ
key_fault_number (Length n) = 6
key_fault_number (Unreadable fault) = cause_number fault.cause

abbrev pub key_fault_name : KeyFault → List ℕ
key_fault_name (Length n) = codes "KeyLength"
key_fault_name (Unreadable fault) = cause_name fault.cause

abbrev pub KeyVerdict : {A : Type 0} → AnyPublic → List ℕ → List ℕ → Result A Refusal → Type 0
KeyVerdict (Lms key) message bytes result = LmsVerdict key message bytes result
KeyVerdict (Hss key) message bytes result = HssVerdict key message bytes result
KeyVerdict (Xmss key) message bytes result = XmssVerdict key message bytes result

-- What verification leaves of the message, by the key's scheme.
abbrev pub KeyLeavesMessage : {M A : Type 0} → Transition M → (M → Option (List ℕ)) → AnyPublic → List ℕ → M → M
    → Result A Refusal → Type 0
KeyLeavesMessage transition remaining (Lms key) text old new result =
    LmsLeavesMessage transition remaining text old new result
KeyLeavesMessage transition remaining (Hss key) text old new result =
    HssLeavesMessage transition remaining key text old new result
KeyLeavesMessage transition remaining (Xmss key) text old new result =
    XmssLeavesMessage transition remaining text old new result
