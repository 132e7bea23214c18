-- The signature of a level above the bottom with the key that it signs (RFC 8554 6.2).
use Rattle.std.specs.Prelude.{◌≡◌, ℕ, zero, suc, ◌+◌, List, [], ◌∷◌, Option, Some, None}
use Rattle.std.specs.Prelude.{drop, map, slice_index_or, sum_by, take}
use Rattle.std.specs.List.{flat_map}
use Rattle.typecodes.specs.Types.{lms_signature_len_of}
use Rattle.typecodes.specs.Layout.{Layout, done, ◌>>=◌}
use Rattle.lms.specs.declared.key.LmsPublic.{LmsPublic}
use Rattle.lms.specs.Signature.{Signature as LmsSignature, signature as lms_signature}
use Rattle.lms.specs.Key.{public_key as lms_public_key}
use Rattle.lms.specs.View.{bytes_of as lms_bytes_of, pair_of as lms_pair_of, signature_of as lms_signature_of}
use Rattle.hss.specs.declared.signed_key.SignedKeyView.{SignedKeyView}

-- a level's signature, and after it the next level's public key, whose 56 bytes it signs
pub record SignedKey : Type 0 where
  pub signature : LmsSignature
  pub key : LmsPublic

unfoldable pub signed_key : Layout SignedKey
signed_key = do
  signature ← lms_signature
  key ← lms_public_key
  done (record { signature = signature; key = key })

-- n signed keys, from the top down
unfoldable pub signed_keys : ℕ → Layout (List SignedKey)
signed_keys zero = done []
signed_keys (suc n) = do
  first ← signed_key
  rest ← signed_keys n
  done (first ∷ rest)

-- the bytes of a signature with the key after it, and of several
abbrev pub signed_key_size : LmsSignature → ℕ
signed_key_size s = lms_signature_len_of s.pair + 56

abbrev pub signed_keys_size : List SignedKey → ℕ
signed_keys_size keys = sum_by signed_key_size (map (λ signed. signed.signature) keys)

-- ---- what views show

abbrev pub signed_key_of : SignedKeyView → SignedKey
signed_key_of view = record { signature = lms_signature_of view.signature; key = view.key }

-- The view's bytes stand at a place: its signature's, then its key's.
abbrev pub BeginsAt : ℕ → List ℕ → SignedKeyView → Type 0
BeginsAt place bytes view =
    let size = lms_signature_len_of (lms_pair_of view.signature) in
    (lms_bytes_of view.signature ≡ take size (drop place bytes))
    × (view.key_bytes.now ≡ take 56 (drop (place + size) bytes))

-- what slots show; empty ones show nothing
abbrev pub shown : Option SignedKeyView → List SignedKey
shown (Some view) = signed_key_of view ∷ []
shown None = []

abbrev pub shown_keys : List (Option SignedKeyView) → List SignedKey
shown_keys slots = flat_map shown slots

-- the view in slot i, if there is one
abbrev pub slot : List (Option SignedKeyView) → ℕ → Option SignedKeyView
slot slots i = slice_index_or slots i None

-- the views stand one after the other, the first one at a place
abbrev pub StandInTurn : ℕ → List ℕ → List (Option SignedKeyView) → Type 0
StandInTurn place bytes slots =
    (i : ℕ) (view : SignedKeyView) → slot slots i ≡ Some view
    → BeginsAt (place + signed_keys_size (shown_keys (take i slots))) bytes view
