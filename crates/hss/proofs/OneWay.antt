-- Public keys and signatures are spelled in one way.
use Rattle.std.proofs.Common.{◌≡◌, ◌∙◌, refl, sym, ap, ℕ, zero, suc, true, false, cond, nat_le, List, [], ◌∷◌, length, drop, get_or}
use Rattle.std.specs.Prelude.{◌&&◌}
use Rattle.typecodes.specs.declared.fault.Cause.TheVariants.{LevelCount}
use Rattle.typecodes.specs.Layout.{Layout, done, refuse, ◌>>=◌, Spells, OneSpelling, Shows}
use Rattle.typecodes.specs.Fields.{number}
use Rattle.typecodes.proofs.OneWay.{one_way-bind, one_way-done, one_way-number, one_way-refuse, shows-bind, shows-done}
use Rattle.typecodes.proofs.Spelling.{in_turn}
use Rattle.typecodes.proofs.Ways.{Way, one_way-if, way-bind, way-done}
use Rattle.lms.specs.declared.key.LmsPublic.{LmsPublic}
use Rattle.lms.specs.Signature.{Signature as LmsSignature, signature as lms_signature}
use Rattle.lms.specs.Key.{public_key as lms_public_key}
use Rattle.lms.proofs.OneWay.{one_way-public_key as one_way-lms_public_key, one_way-signature as one_way-lms_signature}
use Rattle.hss.specs.declared.key.HssPublic.{HssPublic}
use Rattle.hss.specs.Key.{level_number, public_key}
use Rattle.hss.specs.SignedKey.{SignedKey, signed_key, signed_keys}
use Rattle.hss.specs.Signature.{Signature, signature}

-- a number of levels
tested : ℕ → ℕ → ℕ → Layout ℕ
tested low high n = cond (nat_le low n && nat_le n high) (done n) (refuse 4 LevelCount)

tested-shows : (low high n : ℕ) → Shows (tested low high n) (λ m. m) n
unfolding tested
tested-shows low high n =
    elim (nat_le low n && nat_le n high) as (λ b. Shows (cond b (done n) (refuse 4 LevelCount)) (λ m. m) n) [
      | true ↦ shows-done n (λ m. m)
      | false ↦ λ v bytes spelled. absurd spelled
    ]

one_way-level_number : (low high : ℕ) → OneSpelling (level_number low high)
unfolding level_number tested
one_way-level_number low high =
    one_way-bind number (tested low high) (λ m. m) one_way-number
    (λ n. one_way-if (nat_le low n && nat_le n high) (done n) (refuse 4 LevelCount) (one_way-done n) (one_way-refuse 4 LevelCount)) (tested-shows low high)

-- what follows each field of a public key
of_top : ℕ → LmsPublic → Layout HssPublic
of_top levels top = done (record { levels = levels; top = top })

of_levels : ℕ → Layout HssPublic
of_levels levels = lms_public_key >>= of_top levels

pub one_way-public_key : OneSpelling public_key
unfolding public_key of_levels of_top
one_way-public_key =
    let way : Way public_key (λ _. Unit {0}) =
    way-bind (level_number 1 8) of_levels (λ key. key.levels) _ (one_way-level_number 1 8) (λ levels.
    way-bind lms_public_key (of_top levels) (λ key. key.top) _ one_way-lms_public_key (λ top.
    way-done _ _ (refl, (refl, tt)))) in
    way.one

-- what follows each field of a signed key
of_key : LmsSignature → LmsPublic → Layout SignedKey
of_key s key = done (record { signature = s; key = key })

of_signature : LmsSignature → Layout SignedKey
of_signature s = lms_public_key >>= of_key s

one_way-signed_key : OneSpelling signed_key
unfolding signed_key of_signature of_key
one_way-signed_key =
    let way : Way signed_key (λ _. Unit {0}) =
    way-bind lms_signature of_signature (λ signed. signed.signature) _ one_way-lms_signature (λ s.
    way-bind lms_public_key (of_key s) (λ signed. signed.key) _ one_way-lms_public_key (λ key.
    way-done _ _ (refl, (refl, tt)))) in
    way.one

-- n signed keys, one after the other
of_first : ℕ → SignedKey → Layout (List SignedKey)
of_first n first = signed_keys n >>= λ rest. done (first ∷ rest)

one_more : (n : ℕ) → OneSpelling (signed_keys n) → OneSpelling (signed_key >>= of_first n)
unfolding of_first
one_more n rest_one v a b a_bytes b_bytes a_spells b_spells =
    let other = (in_turn signed_key (of_first n) v a a_spells).0 in
    let head = λ (keys : List SignedKey). get_or keys 0 other in
    let tail = λ (keys : List SignedKey). drop 1 keys in
    one_way-bind signed_key (of_first n) head one_way-signed_key
    (λ first. one_way-bind (signed_keys n) (λ rest. done (first ∷ rest)) tail rest_one (λ rest. one_way-done (first ∷ rest)) (λ rest. shows-done (first ∷ rest) tail))
    (λ first. shows-bind (signed_keys n) (λ rest. done (first ∷ rest)) head first (λ rest. shows-done (first ∷ rest) head))
    v a b a_bytes b_bytes a_spells b_spells

one_way-signed_keys : (n : ℕ) → OneSpelling (signed_keys n)
unfolding signed_keys of_first
one_way-signed_keys zero = one_way-done []
one_way-signed_keys (suc n) = one_more n (one_way-signed_keys n)

-- there are n of them
signed_keys-count : (n : ℕ) (keys : List SignedKey) (bytes : List ℕ) → Spells (signed_keys n) keys bytes → length keys ≡ n
unfolding signed_keys
signed_keys-count zero keys bytes spelled = ap length (sym spelled.0)
signed_keys-count (suc n) keys bytes spelled =
    let (first, a, b, _, _, rest_follows) = in_turn signed_key (λ first. signed_keys n >>= λ rest. done (first ∷ rest)) keys bytes spelled in
    let (rest, c, d, _, rest_spelled, ended) = in_turn (signed_keys n) (λ rest. done (first ∷ rest)) keys b rest_follows in
    ap length (sym ended.0) ∙ ap suc (signed_keys-count n rest c rest_spelled)

-- what follows each field of a signature
of_bottom : List SignedKey → LmsSignature → Layout Signature
of_bottom signed bottom = done (record { signed = signed; bottom = bottom })

of_signed : List SignedKey → Layout Signature
of_signed signed = lms_signature >>= of_bottom signed

of_above : ℕ → Layout Signature
of_above above = signed_keys above >>= of_signed

of_above-shows : (above : ℕ) → Shows (of_above above) (λ s. length s.signed) above
unfolding of_above of_signed of_bottom
of_above-shows above s bytes spelled =
    let (signed, a, b, _, signed_spelled, bottom_follows) = in_turn (signed_keys above) of_signed s bytes spelled in
    let (bottom, c, d, _, _, ended) = in_turn lms_signature (of_bottom signed) s b bottom_follows in
    ap (λ s. length s.signed) (sym ended.0) ∙ signed_keys-count above signed a signed_spelled

one_way-of_above : (above : ℕ) → OneSpelling (of_above above)
unfolding of_above of_signed of_bottom
one_way-of_above above =
    let way : Way (of_above above) (λ _. Unit {0}) =
    way-bind (signed_keys above) of_signed (λ s. s.signed) _ (one_way-signed_keys above) (λ signed.
    way-bind lms_signature (of_bottom signed) (λ s. s.bottom) _ one_way-lms_signature (λ bottom.
    way-done _ _ (refl, (refl, tt)))) in
    way.one

pub one_way-signature : OneSpelling signature
unfolding signature of_above of_signed of_bottom
one_way-signature = one_way-bind (level_number 0 7) of_above (λ s. length s.signed) (one_way-level_number 0 7) one_way-of_above of_above-shows
