-- The digests of messages (RFC 8391 4.1.9).
use Rattle.std.specs.Prelude.{ℕ, List, ◌++◌}
use Rattle.wots_plus.specs.Hashes.{hash_message, to_byte}

-- toByte(idx, 32)
unfoldable pub index_bytes : ℕ → List ℕ
index_bytes index = to_byte index 32

-- toByte(2, 32) || r || root || toByte(idx, 32): what is hashed before a message (4.1.9, 5.1)
abbrev pub message_prefix_of : List ℕ → List ℕ → ℕ → List ℕ
message_prefix_of randomizer root index = to_byte 2 32 ++ (randomizer ++ root ++ index_bytes index)

-- M' = H_msg(r || root || toByte(idx, 32), M), the digest of a message (4.1.9)
abbrev pub message_digest_of : List ℕ → List ℕ → ℕ → List ℕ → List ℕ
message_digest_of randomizer root index message = hash_message (randomizer ++ root ++ index_bytes index) message
