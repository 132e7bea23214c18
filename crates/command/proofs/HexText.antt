-- Hex text, byte by byte.
use Rattle.std.proofs.Common.{◌≡◌, ◌∙◌, ◌↔◌, ◌/◌, ◌%◌, slice_index, ℕ, List, [], ◌∷◌, ◌++◌, Option, Some, None, Result, Ok, Err, IsOk, OnOk, refl, ap, sym, append-nil, append_assoc}
use Rattle.std.specs.Io.KnownBytes.{Appends}
use Rattle.hex.specs.Hex.{encode_lower, encode_with, lower_digits}

hex_more : (bytes : List ℕ) (byte : ℕ) → encode_lower (bytes ++ byte ∷ []) ≡ encode_lower bytes ++ encode_lower (byte ∷ [])
unfolding encode_with
hex_more [] byte = refl
hex_more (first ∷ bytes) byte =
    ap (λ rest. slice_index lower_digits (first / 16) ∷ slice_index lower_digits (first % 16) ∷ rest) (hex_more bytes byte)

pub hex_begins : (contents : Option (List ℕ)) → Appends contents contents (encode_lower [])
unfolding encode_with
hex_begins None = tt
hex_begins (Some bytes) = sym (append-nil bytes)

pub hex_writes : (old before after : Option (List ℕ)) (bytes : List ℕ) (byte : ℕ) (digits : List ℕ)
    → Appends old before (encode_lower bytes) → Appends before after digits → digits ≡ encode_lower (byte ∷ [])
    → Appends old after (encode_lower (bytes ++ byte ∷ []))
hex_writes None before after bytes byte digits first next same = tt
hex_writes (Some o) None after bytes byte digits first next same = absurd first
hex_writes (Some o) (Some b) None bytes byte digits first next same = absurd next
hex_writes (Some o) (Some b) (Some a) bytes byte digits first next same =
    next ∙ ap (λ l. l ++ digits) first ∙ append_assoc o (encode_lower bytes) digits
    ∙ ap (λ d. o ++ (encode_lower bytes ++ d)) same ∙ ap (λ l. o ++ l) (sym (hex_more bytes byte))

-- If there was room, the text is there.
pub on_ok : {E : Type 0} (result : Result Unit E) (Fits There : Type 0) → IsOk result ↔ Fits → OnOk result There → Fits → There
on_ok (Ok _) Fits There fits there room = there
on_ok (Err e) Fits There fits there room = absurd (let never = fits.1 room in cc)
