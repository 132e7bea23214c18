-- A message that C hands over in pieces: what the memory that C keeps holds of it.
use Rattle.std.specs.Prelude.{◌≡◌, ◌⊎◌, ℕ, List, [], ◌++◌, take}
use Rattle.sha2.specs.declared.block256.Core256.{Core256}
use Rattle.sha2.specs.Sha256.{Holds, initial_hash_256}
use Rattle.boot_verify.specs.declared.sha256.Hashing.{Hashing}
use Rattle.boot_verify.specs.declared.pieces.Pieces.{Pieces}
use Rattle.boot_verify.specs.Answer.{IsPrefix, RefusesEarly, packed, ready}

-- the state as the toolchain's SHA-256 has it
abbrev pub core_of : Hashing → Core256
core_of s = record { h = s.h; buffer = s.buffer; total = s.total }

-- The state holds the bytes: their whole blocks in the hash value, the rest in the buffer, and their number.
abbrev pub HoldsBytes : Hashing → List ℕ → Type 0
HoldsBytes s bytes = Holds initial_hash_256 (core_of s) bytes

-- the prefix that the memory holds
abbrev pub held_prefix : Pieces → List ℕ
held_prefix pieces = take pieces.prefix_length pieces.prefix

-- This is the message so far: it was hashed after the prefix.
abbrev pub HoldsMessage : Pieces → List ℕ → Type 0
HoldsMessage pieces message = HoldsBytes pieces.hashing (held_prefix pieces ++ message)

-- The prefix is that of this key and this signature.
abbrev pub IsBegun : Pieces → List ℕ → List ℕ → Type 0
IsBegun pieces public bytes = IsPrefix public bytes pieces.prefix_length (held_prefix pieces)

-- A message of no bytes so far is begun for this key and this signature. Otherwise there is a refusal, and none is.
abbrev pub Begins : List ℕ → List ℕ → Pieces → ℕ → Type 0
Begins public bytes new answer =
    ((answer ≡ ready) × IsBegun new public bytes × HoldsMessage new [])
    ⊎ (RefusesEarly public bytes answer × (new.prefix_length ≡ 0))

-- the answer where a message was begun for another key or signature, or for none
abbrev pub changed : ℕ
changed = packed 8 0
