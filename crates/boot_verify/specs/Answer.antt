-- The library's answers: 0, or a refusal's number with its detail.
use Rattle.std.specs.Prelude.{◌≡◌, ◌≢◌, ◌↔◌, ◌≤◌, ◌<◌, ◌⊎◌, ℕ, ◌+◌, ◌-◌, ◌*◌, ◌^◌, nat_eq, nat_lt, if◌then◌else◌, List}
use Rattle.std.specs.Prelude.{◌++◌, drop, length, replicate, take, Result, Ok, Err}
use Rattle.sha2.specs.Sha256.{sha256}
use Rattle.typecodes.specs.declared.fault.ReadFault.{ReadFault}
use Rattle.typecodes.specs.declared.refusal.Refusal.{Refusal}
use Rattle.typecodes.specs.declared.refusal.Refusal.TheVariants.{Unreadable, TypeMismatch, LevelMismatch}
use Rattle.typecodes.specs.declared.refusal.Refusal.TheVariants.{RootMismatch, MessageRead}
use Rattle.typecodes.specs.Fault.{cause_number}
use Rattle.typecodes.specs.Refusal.{refusal_number}
use Rattle.boot_verify.specs.declared.key.Key.{Key}
use Rattle.boot_verify.specs.Key.{IsSignature, KeyHasFault, KeyHasPrefix, KeyIsDigest, KeyVerdict, SpellsKey}
use Rattle.boot_verify.specs.Key.{prefix_length}

-- a number in the lower 32 bits, its detail in the upper ones
abbrev pub packed : ℕ → ℕ → ℕ
packed number detail = number + 2 ^ 32 * detail

abbrev pub fault_answer : ReadFault → ℕ
fault_answer fault = packed (cause_number fault.cause) fault.place

abbrev pub refusal_detail : Refusal → ℕ
refusal_detail (Unreadable fault) = fault.place
refusal_detail (TypeMismatch level) = level
refusal_detail LevelMismatch = 0
refusal_detail (RootMismatch level) = level
refusal_detail MessageRead = 0

-- 0 for a valid signature, else the refusal
abbrev pub verdict_answer : Result (Unit {0}) Refusal → ℕ
verdict_answer (Ok _) = 0
verdict_answer (Err refusal) = packed (refusal_number refusal) (refusal_detail refusal)

-- KeyLength with the length, which is at most 2^32 - 1 in an answer
abbrev pub length_answer : ℕ → ℕ
length_answer n = packed 6 (if nat_lt n (2 ^ 32) then n else 2 ^ 32 - 1)

-- The bytes spell no key: no scheme has their length, or its layout finds a fault.
abbrev pub RefusesKey : List ℕ → ℕ → Type 0
RefusesKey public answer =
    ((length public ≢ 56) × (length public ≢ 60) × (length public ≢ 68) × (answer ≡ length_answer (length public)))
    ⊎ ((fault : ReadFault) × KeyHasFault public fault × (answer ≡ fault_answer fault))

-- What verification answers: a refusal of the key, or the scheme's verdict on a message that was read.
abbrev pub Answers : List ℕ → List ℕ → List ℕ → ℕ → Type 0
Answers public message bytes answer = RefusesKey public answer
    ⊎ ((key : Key) × (verdict : Result (Unit {0}) Refusal) × SpellsKey key public × KeyVerdict key message bytes verdict
    × (verdict ≢ Err MessageRead) × (answer ≡ verdict_answer verdict))

-- The bytes spell a key, and a signature that is valid for the message under it.
abbrev pub IsSigned : List ℕ → List ℕ → List ℕ → Type 0
IsSigned public message bytes = (key : Key) × SpellsKey key public × IsSignature key message bytes

-- The digest of the message, after the prefix of the key that these bytes spell.
abbrev pub IsDigest : List ℕ → List ℕ → List ℕ → List ℕ → Type 0
IsDigest public message bytes digest =
    (key : Key) → SpellsKey key public → KeyIsDigest key message bytes digest

-- A refusal that needs no message, 1 to 6 or 11: of the key, of the signature's bytes, or of its levels.
abbrev pub IsEarly : ℕ → Type 0
IsEarly answer = (number : ℕ) × (detail : ℕ) × (answer ≡ packed number detail)
    × (((0 < number) × (number ≤ 6)) ⊎ (number ≡ 11))

-- Every message has this same refusal, which compared no type and no root.
abbrev pub RefusesEarly : List ℕ → List ℕ → ℕ → Type 0
RefusesEarly public bytes answer = ((message : List ℕ) → Answers public message bytes answer) × IsEarly answer

-- The bytes spell a key and a signature with this prefix, of n bytes: 54 or 128.
abbrev pub IsPrefix : List ℕ → List ℕ → ℕ → List ℕ → Type 0
IsPrefix public bytes n prefix =
    (key : Key) × SpellsKey key public × (n ≡ prefix_length key) × KeyHasPrefix key bytes prefix

-- the answer where what was asked for is ready, which says nothing of validity
abbrev pub ready : ℕ
ready = packed 9 0

-- The prefix is ready at the front of the room, with its length in the upper 32 bits. Otherwise there is a refusal, and
-- the room has zeros.
abbrev pub GivesPrefix : List ℕ → List ℕ → List ℕ → ℕ → Type 0
GivesPrefix public bytes room answer =
    ((n : ℕ) × (answer ≡ packed 9 n) × IsPrefix public bytes n (take n room)
    × ((message : List ℕ) → IsDigest public message bytes (sha256 (take n room ++ message))))
    ⊎ (RefusesEarly public bytes answer × (room ≡ replicate 128 0))

-- ---- roots

-- the 32 bytes of a key's root: the last ones, and in XMSS those after the type (RFC 8554 5.3, RFC 8391 4.1.7)
abbrev pub root_of : List ℕ → List ℕ
root_of public = take 32 (drop (if nat_eq (length public) 68 then 4 else length public - 32) public)

-- Either a root was written, which is the key's exactly where the signature is valid, and the answer is ready.
-- Or there is a refusal, of no valid signature, and what was in the room stays.
abbrev pub GivesRoot : List ℕ → List ℕ → List ℕ → List ℕ → List ℕ → ℕ → Type 0
GivesRoot public message bytes old new answer =
    ((answer ≡ ready) × ((new ≡ root_of public) ↔ IsSigned public message bytes))
    ⊎ ((new ≡ old) × (IsSigned public message bytes → ⊥) × (RefusesKey public answer
    ⊎ ((refusal : Refusal) × (refusal ≢ MessageRead) × (answer ≡ verdict_answer (Err refusal)))))

-- Where other bytes than the key's root were in the room, the root is in it exactly where the signature is valid.
abbrev pub GivesExactly : List ℕ → List ℕ → List ℕ → List ℕ → List ℕ → Type 0
GivesExactly public message bytes old new =
    old ≢ root_of public → (new ≡ root_of public) ↔ IsSigned public message bytes
