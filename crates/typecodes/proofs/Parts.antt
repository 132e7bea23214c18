-- Where what is read stands in the bytes.
use Rattle.std.proofs.Common.{◌≡◌, ◌∙◌, refl, sym, ap, ap₂, ℕ, zero, suc, ◌+◌, ◌-◌, ◌*◌, ◌<◌, ◌≤◌, inl, inr, List, [], length, take, drop, get_or, Option, Some, None, Result, Ok, Err, arith, subst, take-take, drop-drop, append-nil, take_at}
use Rattle.std.proofs.lemmas.Bool.{cases_lt}
use Rattle.std.proofs.lemmas.List.{drop-take}
use Rattle.byteorder.specs.Endian.{big_number}
use Rattle.typecodes.specs.declared.fault.ReadFault.{ReadFault}
use Rattle.typecodes.specs.Types.{named}
use Rattle.typecodes.specs.Layout.{Layout, field, done, ◌>>=◌}
use Rattle.typecodes.specs.Fields.{block, number, typed, values, first_values}
use Rattle.typecodes.specs.Cursor.{and_then, read}
use Rattle.typecodes.proofs.Read.{read-bind, read-cut, read-fits, read-stands, spelled-read}
use Rattle.typecodes.proofs.Values.{values-cut, values-fit}
use Rattle.typecodes.proofs.Codes.{known}

-- what two layouts read, one after the other, is read in turn
pub in_turn : {V W : Type 0} (first : Layout V) (next : V → Layout W) (bytes : List ℕ) (place : ℕ) (x : W × ℕ) → read (first >>= next) bytes place ≡ Ok x
    → (y : V × ℕ) × (read first bytes place ≡ Ok y) × (read (next y.0) bytes y.1 ≡ Ok x)
in_turn {V = V} {W = W} first next bytes place x found =
    let split : (r : Result (V × ℕ) ReadFault) → and_then r (λ y. read (next y.0) bytes y.1) ≡ Ok x → (y : V × ℕ) × (r ≡ Ok y) × (read (next y.0) bytes y.1 ≡ Ok x) =
    λ r. elim r as (λ r. and_then r (λ y. read (next y.0) bytes y.1) ≡ Ok x → (y : V × ℕ) × (r ≡ Ok y) × (read (next y.0) bytes y.1 ≡ Ok x)) [
      | Ok y ↦ λ e. (y, refl, e)
      | Err fault ↦ λ e. absurd (cc)
    ] in
    split (read first bytes place) (sym (read-bind first next bytes place) ∙ found)

-- a field that is read fits, and is what stands at the place
pub field_read : {V : Type 0} (n : ℕ) (next : List ℕ → Layout V) (bytes : List ℕ) (place : ℕ) (x : V × ℕ) → read (field n next) bytes place ≡ Ok x
    → (place + n ≤ length bytes) × (read (next (take n (drop place bytes))) bytes (place + n) ≡ Ok x)
field_read n next bytes place x found =
    elim (cases_lt (length bytes) (place + n)) [
      | inl cut ↦ absurd (let e = sym (read-cut n next bytes place cut) ∙ found in cc)
      | inr fits ↦ (fits, sym (read-fits n next bytes place fits) ∙ found)
    ]

block_read : (n : ℕ) (bytes : List ℕ) (place : ℕ) (part : List ℕ) (end : ℕ) → read (block n) bytes place ≡ Ok (part, end) → part ≡ take n (drop place bytes)
block_read n bytes place part end found =
    let e = (field_read n done bytes place (part, end) found).1 in
    let same : ◌≡◌ {A = List ℕ × ℕ} (part, end) (take n (drop place bytes), place + n) = cc in
    ap (λ x. x.0) same

-- 32 bytes that are read at a place
pub array_at : (place : ℕ) (bytes all part : List ℕ) (from end : ℕ) → all ≡ bytes → from ≡ place → read (block 32) all from ≡ Ok (part, end)
    → part ≡ take 32 (drop place bytes)
array_at place bytes all part from end same at found =
    block_read 32 all from part end found ∙ ap₂ (λ p b. take 32 (drop p b)) at same

-- the first values of 32 bytes end with their bytes
first_values-take : (n : ℕ) (bytes : List ℕ) → first_values n (take (32 * n) bytes) ≡ first_values n bytes
first_values-take zero bytes = refl
first_values-take (suc n) bytes =
    let size : 32 * suc n ≡ 32 + 32 * n = omega arith in
    rw (size, take-take 32 (32 + 32 * n) bytes (omega arith), drop-take 32 (32 * n) bytes, first_values-take n (drop 32 bytes)) refl

-- value i of them
first_values-at : (n : ℕ) (bytes : List ℕ) (i : ℕ) → i < n → get_or (first_values n bytes) i [] ≡ take 32 (drop (32 * i) bytes)
first_values-at zero bytes i within = absurd (omega arith)
first_values-at (suc n) bytes zero within = refl
first_values-at (suc n) bytes (suc i) within =
    let size : 32 + 32 * i ≡ 32 * suc i = omega arith in
    first_values-at n (drop 32 bytes) i (omega arith) ∙ ap (take 32) (drop-drop (32 * i) 32 bytes ∙ ap (λ k. drop k bytes) size)

-- Value i of the values at a place, by its own place.
pub values_at : (n place : ℕ) (bytes : List ℕ) (vs : List (List ℕ)) (j i : ℕ) → vs ≡ first_values n (drop place bytes) → i < n → j ≡ i
    → get_or vs j [] ≡ take 32 (drop (place + 32 * i) bytes)
values_at n place bytes vs j i vs_are within same =
    ap₂ (λ vs j. get_or vs j []) vs_are same ∙ first_values-at n (drop place bytes) i within ∙ ap (take 32) (drop-drop (32 * i) place bytes)

-- values that are read stand at the place, and reading ends after them
pub values_read : (n : ℕ) (bytes : List ℕ) (place : ℕ) (vs : List (List ℕ)) (end : ℕ) → place ≤ length bytes → read (values n) bytes place ≡ Ok (vs, end)
    → (vs ≡ first_values n (drop place bytes)) × (end ≡ place + 32 * n)
values_read n bytes place vs end within found =
    elim (cases_lt (length bytes) (place + 32 * n)) [
      | inl cut ↦ absurd (let e = sym (values-cut n bytes place within cut) ∙ found in cc)
      | inr fits ↦
          let same : ◌≡◌ {A = List (List ℕ) × ℕ} (first_values n (take (32 * n) (drop place bytes)), place + 32 * n) (vs, end) = let e = sym (values-fit n bytes place fits) ∙ found in cc in
          (sym (ap (λ x. x.0) same) ∙ first_values-take n (drop place bytes), sym (ap (λ x. x.1) same))
    ]

-- values that are read at a place
pub values_read_at : (n place : ℕ) (bytes all : List ℕ) (vs : List (List ℕ)) (m from end : ℕ) → all ≡ bytes → from ≡ place → m ≡ n → from ≤ length all
    → read (values m) all from ≡ Ok (vs, end) → vs ≡ first_values n (drop place bytes)
values_read_at n place bytes all vs m from end same at count within found =
    (values_read m all from vs end within found).0 ∙ ap₂ (λ k b. first_values k b) count (ap₂ (λ p b. drop p b) at same)

-- a type that its code named takes no more bytes
known_read : {T : Type 0} (found : Option T) (bytes : List ℕ) (place : ℕ) (x : T × ℕ) → read (known found) bytes place ≡ Ok x → x.1 ≡ place
known_read {T = T} (Some t) bytes place x e = let same : ◌≡◌ {A = T × ℕ} (t, place) x = cc in sym (ap (λ x. x.1) same)
known_read None bytes place x e = absurd (cc)

-- a type that is read takes 4 bytes
pub typed_read : {T : Type 0} (code : T → ℕ) (types : List T) (bytes : List ℕ) (place : ℕ) (x : T × ℕ) → read (typed code types) bytes place ≡ Ok x
    → (place + 4 ≤ length bytes) × (x.1 ≡ place + 4)
typed_read {T = T} code types bytes place x found =
    let (y, number_found, known_found) = in_turn number (λ c. known (named code types c)) bytes place x found in
    let (fits, e) = field_read 4 (λ bytes. done (big_number 4 bytes)) bytes place y number_found in
    let at : y.1 ≡ place + 4 = let same : ◌≡◌ {A = ℕ × ℕ} (big_number 4 (take 4 (drop place bytes)), place + 4) y = cc in sym (ap (λ x. x.1) same) in
    let end : x.1 ≡ y.1 = known_read (named code types y.0) bytes y.1 x known_found in
    (fits, end ∙ at)

-- A value that is read in the middle of bytes is read from its own part of them.
pub part_read : {V : Type 0} (layout : Layout V) (v : V) (bytes : List ℕ) (place end : ℕ) → place ≤ length bytes → read layout bytes place ≡ Ok (v, end)
    → read layout (take (end - place) (drop place bytes)) 0 ≡ Ok (v, length (take (end - place) (drop place bytes)))
part_read layout v bytes place end within found =
    let (a, after, rest_is, end_is, spelled) = read-stands layout v bytes place end within found in
    let size : end - place ≡ length a = omega (arith, end_is) in
    let all : 0 + length a ≡ length a = omega arith in
    let part : take (end - place) (drop place bytes) ≡ a = ap₂ take size rest_is ∙ take_at a after (length a) refl in
    subst (λ x. read layout x 0 ≡ Ok (v, length x)) (sym part) (spelled-read layout v a [] a 0 (omega arith) (sym (append-nil a)) spelled ∙ ap (λ k. Ok (v, k)) all)
