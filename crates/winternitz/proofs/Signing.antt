-- What a signature carries of a key's chains climbs to the ends of these chains, for any step and any
-- private values.
use Rattle.std.proofs.Common.{◌≡◌, ◌∙◌, sym, ap, ap₂, subst, ℕ, zero, suc, ◌+◌, ◌-◌, ◌<◌, ◌≤◌, ◌^◌, List, [], map, length, get_or, take, arith}
use Rattle.std.specs.List.{concat, range_with_len}
use Rattle.std.proofs.lemmas.List.FromFn.{get_or-map-range_with_len, length-map-range_with_len}
use Rattle.std.proofs.lemmas.List.{length-take-le}
use Rattle.typecodes.specs.Fields.{first_values}
use Rattle.winternitz.specs.Chain.{Steps, walk, walk_steps, AreEnds, end_at, ends_of}
use Rattle.winternitz.specs.Digest.{digit_count, digits_of}
use Rattle.winternitz.proofs.Concatenated.{chunks_of_concat}
use Rattle.winternitz.proofs.Ends.{first_are, first_at}
use Rattle.winternitz.proofs.Walks.{walk-walk}
use Rattle.winternitz.proofs.Coefs.{digit_most}

-- the private values, walked to the digits
abbrev pub signed : Steps → (ℕ → List ℕ) → List ℕ → ℕ → List (List ℕ)
signed step start digits n = map (λ i. walk step i 0 (get_or digits i 0) (start i)) (range_with_len 0 n)

-- and to the ends of their chains
abbrev pub ends : Steps → (ℕ → List ℕ) → ℕ → ℕ → List (List ℕ)
ends step start w n = map (λ i. walk step i 0 (2 ^ w - 1) (start i)) (range_with_len 0 n)

-- the values of a signature climb to the ends of the key's chains
pub signed_climbs : (step : Steps) (start : ℕ → List ℕ) (w n : ℕ) (digest : List ℕ) → n ≡ digit_count w
    → AreEnds step w (digits_of w digest) (signed step start (digits_of w digest) n) (ends step start w n)
signed_climbs step start w n digest all =
    let digits = digits_of w digest in
    let value = λ (i : ℕ). walk step i 0 (get_or digits i 0) (start i) in
    let end = λ (i : ℕ). walk step i 0 (2 ^ w - 1) (start i) in
    let count : length digits ≡ digit_count w = length-map-range_with_len _ 0 (digit_count w) in
    record {
      count = length-map-range_with_len end 0 n ∙ all ∙ sym count;
      each = λ i within.
          let inside : i < n = omega arith in
          get_or-map-range_with_len end 0 n i i [] inside (omega arith)
          ∙ sym (walk-walk step i 0 (get_or digits i 0) (2 ^ w - 1) (start i) (omega arith) (digit_most w digest i (omega arith)))
          ∙ ap (walk step i (get_or digits i 0) (2 ^ w - 1)) (sym (get_or-map-range_with_len value 0 n i i [] inside (omega arith)));
    }

-- along its chain a value keeps 32 bytes
walked_size : (step : Steps) (c a n : ℕ) (v : List ℕ) → ((i j : ℕ) (v : List ℕ) → length (step i j v) ≡ 32) → length v ≡ 32
    → length (walk_steps step c a n v) ≡ 32
unfolding walk_steps
walked_size step c a zero v steps size = size
walked_size step c a (suc n) v steps size = steps c (a + n) (walk_steps step c a n v)

-- so do the values of a signature
pub signed_sizes : (step : Steps) (start : ℕ → List ℕ) (digits : List ℕ) (n : ℕ)
    → ((i j : ℕ) (v : List ℕ) → length (step i j v) ≡ 32) → ((i : ℕ) → length (start i) ≡ 32)
    → (i : ℕ) → i < n → length (get_or (signed step start digits n) i []) ≡ 32
signed_sizes step start digits n steps starts i within =
    let value = λ (i : ℕ). walk step i 0 (get_or digits i 0) (start i) in
    ap length (get_or-map-range_with_len value 0 n i i [] within (omega arith))
    ∙ walked_size step i 0 (get_or digits i 0 - 0) (start i) steps (starts i)

-- what bytes that contain the values of a signature climb to
pub bytes_climb : (step : Steps) (start : ℕ → List ℕ) (w n : ℕ) (digest bytes : List ℕ) → n ≡ digit_count w
    → ((i j : ℕ) (v : List ℕ) → length (step i j v) ≡ 32) → ((i : ℕ) → length (start i) ≡ 32)
    → bytes ≡ concat (signed step start (digits_of w digest) n)
    → AreEnds step w (digits_of w digest) (first_values n bytes) (ends step start w n)
bytes_climb step start w n digest bytes all steps starts are =
    let digits = digits_of w digest in
    let value = λ (i : ℕ). walk step i 0 (get_or digits i 0) (start i) in
    let values = signed step start digits n in
    let sizes = signed_sizes step start digits n steps starts in
    let contained : first_values n bytes ≡ values =
    ap (first_values n) are ∙ chunks_of_concat n values (length-map-range_with_len value 0 n) sizes in
    subst (λ vs. AreEnds step w digits vs (ends step start w n)) (sym contained) (signed_climbs step start w n digest all)

-- ---- what climbing all chains gives

-- values that climbed from their starts, each to its own place
pub climbed_are : (step : Steps) (start : ℕ → List ℕ) (last read : ℕ → ℕ) (n all : ℕ) (starts values : List (List ℕ))
    → n ≡ all → n ≤ length starts → n ≤ length values → ((i : ℕ) → i < n → get_or starts i [] ≡ start i) → ((i : ℕ) → i < n → read i ≡ last i)
    → ((i : ℕ) → i < length (take n starts) → get_or values i [] ≡ walk step i 0 (read i) (get_or (take n starts) i []))
    → take n values ≡ map (λ i. walk step i 0 (last i) (start i)) (range_with_len 0 all)
climbed_are step start last read n all starts values count starts_room room begun places climbed =
    let value : ℕ → List ℕ = λ i. walk step i 0 (last i) (start i) in
    first_are value n values room (λ i within.
    climbed i (omega (arith, length-take-le n starts starts_room))
    ∙ ap₂ (walk step i 0) (places i within) (first_at n i starts within ∙ begun i within))
    ∙ ap (λ n. map value (range_with_len 0 n)) count

-- values that climbed from their digits to the ends of their chains
pub ends_are : (step : Steps) (w last : ℕ) (read digits : List ℕ) (values ends : List (List ℕ))
    → length values ≡ length read → length values ≤ length ends → read ≡ digits → last ≡ 2 ^ w - 1
    → ((i : ℕ) → i < length values → get_or ends i [] ≡ walk step i (get_or read i 0) last (get_or values i []))
    → take (length values) ends ≡ ends_of step w digits values
ends_are step w last read digits values ends count room digits_are last_is climbed =
    first_are (end_at step w read values) (length values) ends room
    (λ i within. climbed i within ∙ ap (λ last. walk step i (get_or read i 0) last (get_or values i [])) last_is)
    ∙ ap (λ n. map (end_at step w read values) (range_with_len 0 n)) count
    ∙ ap (λ digits. ends_of step w digits values) digits_are
