-- HSS signatures (RFC 8554 6.2): how they are spelled, and the levels of one.
use Rattle.std.specs.Prelude.{ℕ, ◌+◌, ◌-◌, ◌*◌, List, [], ◌∷◌, ◌++◌, length, map, slice_index_or, sum_by, take, Option}
use Rattle.typecodes.specs.declared.types.LmsPair.{LmsPair}
use Rattle.typecodes.specs.Types.{lms_signature_len_of}
use Rattle.typecodes.specs.Layout.{Layout, done, ◌>>=◌}
use Rattle.lms.specs.declared.key.LmsPublic.{LmsPublic}
use Rattle.lms.specs.Signature.{Signature as LmsSignature, signature as lms_signature}
use Rattle.lms.specs.Writing.{public_bytes}
use Rattle.lms.specs.View.{signature_of as lms_signature_of}
use Rattle.lms.specs.declared.signature.LmsSigView.{LmsSigView}
use Rattle.hss.specs.Key.{level_number}
use Rattle.hss.specs.declared.signed_key.SignedKeyView.{SignedKeyView}
use Rattle.hss.specs.SignedKey.{SignedKey, shown_keys, signed_keys, signed_key_size}

-- ---- how signatures are spelled

-- a signature: the signed keys of the levels below the top, and the bottom tree's signature
pub record Signature : Type 0 where
  pub signed : List SignedKey
  pub bottom : LmsSignature

-- L - 1, as many signed keys, and the bottom tree's signature of the message
unfoldable pub signature : Layout Signature
signature = do
  above ← level_number 0 7
  signed ← signed_keys above
  bottom ← lms_signature
  done (record { signed = signed; bottom = bottom })

-- ---- the levels of a signature, from the top down: level 0 is the top tree's

-- L: one more than its signed keys
abbrev pub level_count : Signature → ℕ
level_count s = length s.signed + 1

-- the levels' signatures, in the signed keys and at the bottom
abbrev pub signatures_of : Signature → List LmsSignature
signatures_of s = map (λ signed. signed.signature) s.signed ++ s.bottom ∷ []

-- the levels' keys: the given one, and the signed ones
abbrev pub keys_of : LmsPublic → Signature → List LmsPublic
keys_of top s = top ∷ map (λ signed. signed.key) s.signed

-- what the levels sign: the bytes of the next level's key, and at the bottom the message
abbrev pub messages_of : List ℕ → Signature → List (List ℕ)
messages_of message s = map (λ signed. public_bytes signed.key) s.signed ++ message ∷ []

-- the signature, the key and the message of level i
abbrev pub signature_at : Signature → ℕ → LmsSignature
signature_at s i = slice_index_or (signatures_of s) i s.bottom

abbrev pub key_at : LmsPublic → Signature → ℕ → LmsPublic
key_at top s i = slice_index_or (keys_of top s) i top

abbrev pub message_at : List ℕ → Signature → ℕ → List ℕ
message_at message s i = slice_index_or (messages_of message s) i message

-- ---- where the levels stand in the bytes

-- where the signature of level i begins: after the first 4 bytes, and the signatures and keys of the levels above
abbrev pub start_at : Signature → ℕ → ℕ
start_at s i = 4 + sum_by signed_key_size (take i (signatures_of s))

abbrev pub pairs_of_signature : Signature → List LmsPair
pairs_of_signature s = map (λ level. level.pair) (signatures_of s)

-- the bytes of a signature of levels of these pairs
abbrev pub signature_size : List LmsPair → ℕ
signature_size pairs = 4 + sum_by lms_signature_len_of pairs + 56 * (length pairs - 1)

-- ---- what views show

-- the signature of these slots and this signature at the bottom
abbrev pub shown_signature : List (Option SignedKeyView) → LmsSigView → Signature
shown_signature slots bottom = record { signed = shown_keys slots; bottom = lms_signature_of bottom }
