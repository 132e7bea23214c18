-- Signed keys that are read one after the other.
use Rattle.std.proofs.Common.{◌≡◌, ◌∙◌, refl, sym, ap, ℕ, zero, suc, ◌+◌, ◌<◌, ◌≤◌, List, [], ◌∷◌, ◌++◌, Ok, Err, arith, add-one}
use Rattle.typecodes.specs.declared.fault.ReadFault.{ReadFault}
use Rattle.typecodes.specs.declared.types.OtsType.{OtsType}
use Rattle.typecodes.specs.declared.types.OtsType.TheVariants.{W1, W2, W4, W8}
use Rattle.typecodes.specs.Types.{signature_len_of}
use Rattle.typecodes.specs.Layout.{Layout, done, ◌>>=◌}
use Rattle.typecodes.specs.Cursor.{and_then, read}
use Rattle.typecodes.proofs.Read.{read-bind}
use Rattle.lms.specs.Signature.{Signature as LmsSignature, signature as lms_signature}
use Rattle.lms.specs.Key.{public_key as lms_public_key}
use Rattle.typecodes.proofs.Steps.{reading}
use Rattle.typecodes.proofs.Leaves.{lms_most}
use Rattle.typecodes.proofs.Parts.{in_turn}
use Rattle.hss.specs.SignedKey.{SignedKey, signed_key, signed_keys}

-- no one-time signature is longer than W1's
pub ots_most : (ots : OtsType) → signature_len_of ots ≤ 8516
ots_most W1 = omega arith
ots_most W2 = omega arith
ots_most W4 = omega arith
ots_most W8 = omega arith

-- what follows a layout that is read is read after it
pub read-after : {V W : Type 0} (first : Layout V) (next : V → Layout W) (bytes : List ℕ) (place : ℕ) (x : V × ℕ) → read first bytes place ≡ Ok x
    → read (first >>= next) bytes place ≡ read (next x.0) bytes x.1
read-after first next bytes place x found = read-bind first next bytes place ∙ ap (λ r. and_then r (λ y. read (next y.0) bytes y.1)) found

-- ---- signed keys, one after the other

-- one more before those that are read
pub keys-more : (n : ℕ) (bytes : List ℕ) (place middle end : ℕ) (first : SignedKey) (rest : List SignedKey) → read signed_key bytes place ≡ Ok (first, middle)
    → read (signed_keys n) bytes middle ≡ Ok (rest, end) → read (signed_keys (suc n)) bytes place ≡ Ok (first ∷ rest, end)
unfolding signed_keys
keys-more n bytes place middle end first rest first_found rest_found =
    read-after signed_key (λ first. signed_keys n >>= λ rest. done (first ∷ rest)) bytes place (first, middle) first_found
    ∙ read-after (signed_keys n) (λ rest. done (first ∷ rest)) bytes middle (rest, end) rest_found

-- the first of them, and the others
pub keys-split : (n : ℕ) (bytes : List ℕ) (place end : ℕ) (keys : List SignedKey) → read (signed_keys (suc n)) bytes place ≡ Ok (keys, end)
    → (first : SignedKey) × (middle : ℕ) × (rest : List SignedKey) × (keys ≡ first ∷ rest) × (read signed_key bytes place ≡ Ok (first, middle)) × (read (signed_keys n) bytes middle ≡ Ok (rest, end))
unfolding signed_keys
keys-split n bytes place end keys found =
    let (x, x_found, rest_follows) = in_turn signed_key (λ first. signed_keys n >>= λ rest. done (first ∷ rest)) bytes place (keys, end) found in
    let (y, y_found, same) = in_turn (signed_keys n) (λ rest. done (x.0 ∷ rest)) bytes x.1 (keys, end) rest_follows in
    let pair : ◌≡◌ {A = List SignedKey × ℕ} (x.0 ∷ y.0, y.1) (keys, end) = cc in
    (x.0, x.1, y.0, sym (ap (λ p. p.0) pair), x_found, y_found ∙ ap (λ at. Ok (y.0, at)) (ap (λ p. p.1) pair))

pub keys-none : (bytes : List ℕ) (place : ℕ) → read (signed_keys 0) bytes place ≡ Ok ([], place)
unfolding signed_keys
keys-none bytes place = refl

-- one more after those that were read
keys-push : (n : ℕ) (bytes : List ℕ) (place middle end : ℕ) (keys : List SignedKey) (last : SignedKey) → read (signed_keys n) bytes place ≡ Ok (keys, middle)
    → read signed_key bytes middle ≡ Ok (last, end) → read (signed_keys (suc n)) bytes place ≡ Ok (keys ++ last ∷ [], end)
unfolding signed_keys
keys-push zero bytes place middle end keys last found last_found =
    let pair : ◌≡◌ {A = List SignedKey × ℕ} ([], place) (keys, middle) = cc in
    keys-more 0 bytes place end end last [] (ap (λ at. read signed_key bytes at) (ap (λ p. p.1) pair) ∙ last_found) (keys-none bytes end)
    ∙ ap (λ keys. Ok (keys ++ last ∷ [], end)) (ap (λ p. p.0) pair)
keys-push (suc n) bytes place middle end keys last found last_found =
    let (first, next, rest, keys_are, first_found, rest_found) = keys-split n bytes place middle keys found in
    keys-more (suc n) bytes place next end first (rest ++ last ∷ []) first_found (keys-push n bytes next middle end rest last rest_found last_found)
    ∙ ap (λ keys. Ok (keys ++ last ∷ [], end)) (sym keys_are)

pub keys-next : (n : ℕ) (bytes : List ℕ) (place middle end : ℕ) (keys : List SignedKey) (last : SignedKey) → read (signed_keys n) bytes place ≡ Ok (keys, middle)
    → read signed_key bytes middle ≡ Ok (last, end) → read (signed_keys (n + 1)) bytes place ≡ Ok (keys ++ last ∷ [], end)
keys-next n bytes place middle end keys last found last_found =
    ap (λ n. read (signed_keys n) bytes place) (add-one n) ∙ keys-push n bytes place middle end keys last found last_found

-- the next one's fault is the fault of all
pub keys-faulty : (i n : ℕ) (bytes : List ℕ) (place middle : ℕ) (keys : List SignedKey) (fault : ReadFault) → i < n → read (signed_keys i) bytes place ≡ Ok (keys, middle)
    → read signed_key bytes middle ≡ Err fault → read (signed_keys n) bytes place ≡ Err fault
unfolding signed_keys
keys-faulty i zero bytes place middle keys fault within found faulty = absurd (omega arith)
keys-faulty zero (suc n) bytes place middle keys fault within found faulty =
    let pair : ◌≡◌ {A = List SignedKey × ℕ} ([], place) (keys, middle) = cc in
    let here : read signed_key bytes place ≡ Err fault = ap (λ at. read signed_key bytes at) (ap (λ p. p.1) pair) ∙ faulty in
    read-bind signed_key (λ first. signed_keys n >>= λ rest. done (first ∷ rest)) bytes place
    ∙ ap (λ r. and_then r (λ x. read (signed_keys n >>= λ rest. done (x.0 ∷ rest)) bytes x.1)) here
keys-faulty (suc i) (suc n) bytes place middle keys fault within found faulty =
    let (first, next, rest, keys_are, first_found, rest_found) = keys-split i bytes place middle keys found in
    read-after signed_key (λ first. signed_keys n >>= λ rest. done (first ∷ rest)) bytes place (first, next) first_found
    ∙ read-bind (signed_keys n) (λ rest. done (first ∷ rest)) bytes next
    ∙ ap (λ r. and_then r (λ x. Ok (first ∷ x.0, x.1))) (keys-faulty i n bytes next middle rest fault (omega arith) rest_found faulty)

-- a signed key whose key has a fault
pub signed_key-faulty : (bytes : List ℕ) (place middle : ℕ) (s : LmsSignature) (fault : ReadFault)
    → read lms_signature bytes place ≡ Ok (s, middle) → read lms_public_key bytes middle ≡ Err fault → read signed_key bytes place ≡ Err fault
unfolding signed_key
signed_key-faulty bytes place middle s fault s_read key_faulty =
    let after_signature : LmsSignature → Layout SignedKey = λ s. lms_public_key >>= λ key. done (record { signature = s; key = key }) in
    read-after lms_signature after_signature bytes place (s, middle) s_read
    ∙ read-bind lms_public_key (λ key. done (record { signature = s; key = key })) bytes middle
    ∙ ap (λ r. and_then r (λ x. Ok (record { signature = s; key = x.0 }, x.1))) key_faulty

pub ruleset one = (reading, ots_most, lms_most, signed_key-faulty)
