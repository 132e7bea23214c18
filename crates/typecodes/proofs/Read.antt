-- How reading along whole bytes goes on: at a field that fits, at one that doesn't, and at a layout
-- that follows another.
use Rattle.std.proofs.Common.{◌≡◌, ℕ, ◌+◌, ◌<◌, ◌≤◌, inl, inr, List, [], ◌++◌, length, take, drop, Result, Ok, Err, refl, sym, ap, ap₂, ◌∙◌, nat_le, cond, true, false, le-leb, eq-eqb, ne_eqb, arith, length-drop, length-append, take_at, drop_at, length-take-le, take-append-drop, drop-drop, append_assoc, add-zero}
use Rattle.std.proofs.lemmas.Bool.{lt-leb, cases_lt, cases_eq}
use Rattle.std.proofs.lemmas.List.{drop_all}
use Rattle.typecodes.specs.declared.fault.Cause.TheVariants.{Truncated}
use Rattle.typecodes.specs.declared.fault.ReadFault.{ReadFault}
use Rattle.typecodes.specs.Fault.{fault_at}
use Rattle.typecodes.specs.Layout.{Layout, done, refuse, field, ◌>>=◌, Spells, HasFault}
use Rattle.typecodes.specs.Cursor.{and_then, read, whole}

pub read-fits : {V : Type 0} (n : ℕ) (next : List ℕ → Layout V) (bytes : List ℕ) (place : ℕ) → place + n ≤ length bytes → read (field n next) bytes place ≡ read (next (take n (drop place bytes))) bytes (place + n)
read-fits n next bytes place h = rw (le-leb (place + n) (length bytes) h) refl

pub read-cut : {V : Type 0} (n : ℕ) (next : List ℕ → Layout V) (bytes : List ℕ) (place : ℕ) → length bytes < place + n → read (field n next) bytes place ≡ Err (fault_at place Truncated)
read-cut n next bytes place h = rw (lt-leb (place + n) (length bytes) h) refl

-- a layout that follows another is read where the first one ends
pub read-bind : {A B : Type 0} (first : Layout A) (next : A → Layout B) (bytes : List ℕ) (place : ℕ) → read (first >>= next) bytes place ≡ and_then (read first bytes place) (λ x. read (next x.0) bytes x.1)
read-bind (done v) next bytes place = refl
read-bind (refuse back cause) next bytes place = refl
read-bind (field n rest) next bytes place =
    elim (nat_le (place + n) (length bytes)) as (λ fits. cond fits (read (rest (take n (drop place bytes)) >>= next) bytes (place + n)) (Err (fault_at place Truncated)) ≡ and_then (cond fits (read (rest (take n (drop place bytes))) bytes (place + n)) (Err (fault_at place Truncated))) (λ x. read (next x.0) bytes x.1)) [ true ↦ read-bind (rest (take n (drop place bytes))) next bytes (place + n) | false ↦ refl ]

-- what bytes from a place on are: the value that they spell, or their first fault
abbrev pub HasOutcome : {V : Type 0} → Layout V → List ℕ → ℕ → Result V ReadFault → Type 0
HasOutcome layout bytes place (Ok v) = Spells layout v bytes
HasOutcome layout bytes place (Err fault) = HasFault layout bytes place fault

-- after a field that fits
outcome-after : {V : Type 0} (n : ℕ) (next : List ℕ → Layout V) (front rest bytes : List ℕ) (place : ℕ) (answer : Result V ReadFault) → bytes ≡ front ++ rest → length front ≡ n → HasOutcome (next front) rest (place + n) answer → HasOutcome (field n next) bytes place answer
outcome-after n next front rest bytes place (Ok v) bytes_are len outcome = (front, rest, bytes_are, len, outcome)
outcome-after n next front rest bytes place (Err fault) bytes_are len outcome = inr (front, rest, bytes_are, len, outcome)

-- reading to the end gives what the bytes are
pub read-outcome : {V : Type 0} (layout : Layout V) (bytes : List ℕ) (place : ℕ) → place ≤ length bytes → HasOutcome layout (drop place bytes) place (whole bytes (read layout bytes place))
read-outcome (done v) bytes place within =
    elim (cases_eq (length bytes) place) [
      | inl same ↦ rw (eq-eqb (length bytes) place same) (refl, drop_all place bytes (omega arith))
      | inr other ↦ rw (ne_eqb (length bytes) place other) (omega (arith, length-drop place bytes), refl)
    ]
read-outcome (refuse back cause) bytes place within = refl
read-outcome (field n next) bytes place within =
    let rest = drop place bytes in
    elim (cases_lt (length bytes) (place + n)) [
      | inl cut ↦ rw (read-cut n next bytes place cut) (inl (omega (arith, length-drop place bytes), refl))
      | inr fits ↦
          let enough : n ≤ length rest = omega (arith, length-drop place bytes) in
          let parts : rest ≡ take n rest ++ drop (place + n) bytes = sym (take-append-drop n rest) ∙ ap (λ x. take n rest ++ x) (drop-drop n place bytes) in
          let outcome = read-outcome (next (take n rest)) bytes (place + n) fits in
          rw (read-fits n next bytes place fits) (outcome-after n next (take n rest) (drop (place + n) bytes) rest place _ parts (length-take-le n rest enough) outcome)
    ]

-- a value that is spelled at a place, whatever stands after it, is read there
pub spelled-read : {V : Type 0} (layout : Layout V) (v : V) (a after bytes : List ℕ) (place : ℕ) → place ≤ length bytes → drop place bytes ≡ a ++ after → Spells layout v a → read layout bytes place ≡ Ok (v, place + length a)
spelled-read (done u) v a after bytes place within rest_is spelled =
    let end : place ≡ place + length a = omega (arith, ap length spelled.1) in
    ap₂ (λ x at. Ok (x, at)) spelled.0 end
spelled-read (refuse back cause) v a after bytes place within rest_is spelled = absurd spelled
spelled-read (field n next) v a after bytes place within rest_is (front, rest, a_is, len, spelled) =
    let parts : drop place bytes ≡ front ++ (rest ++ after) = rest_is ∙ ap (λ x. x ++ after) a_is ∙ append_assoc front rest after in
    let fits : place + n ≤ length bytes = omega (arith, length-drop place bytes, ap length parts, length-append front (rest ++ after)) in
    let front_is : take n (drop place bytes) ≡ front = ap (take n) parts ∙ take_at front (rest ++ after) n len in
    let after_is : drop (place + n) bytes ≡ rest ++ after = sym (drop-drop n place bytes) ∙ ap (drop n) parts ∙ drop_at front (rest ++ after) n len in
    let end : (place + n) + length rest ≡ place + length a = omega (arith, ap length a_is, length-append front rest) in
    read-fits n next bytes place fits
    ∙ ap (λ x. read (next x) bytes (place + n)) front_is
    ∙ spelled-read (next front) v rest after bytes (place + n) fits after_is spelled
    ∙ ap (λ at. Ok (v, at)) end

-- a value that is read at a place stands there
pub read-stands : {V : Type 0} (layout : Layout V) (v : V) (bytes : List ℕ) (place end : ℕ) → place ≤ length bytes → read layout bytes place ≡ Ok (v, end) → (a : List ℕ) × (after : List ℕ) × (drop place bytes ≡ a ++ after) × (end ≡ place + length a) × Spells layout v a
read-stands {V = V} (done u) v bytes place end within found =
    let same : ◌≡◌ {A = V × ℕ} (u, place) (v, end) = cc in
    ([], drop place bytes, refl, sym (ap (λ x. x.1) same) ∙ sym (add-zero place), (ap (λ x. x.0) same, refl))
read-stands (refuse back cause) v bytes place end within found = absurd (cc)
read-stands (field n next) v bytes place end within found =
    let rest = drop place bytes in
    elim (cases_lt (length bytes) (place + n)) [
      | inl cut ↦ let clash = sym (read-cut n next bytes place cut) ∙ found in absurd (cc)
      | inr fits ↦
          let enough : n ≤ length rest = omega (arith, length-drop place bytes) in
          let len = length-take-le n rest enough in
          let (a, after, rest_is, end_is, spelled) = read-stands (next (take n rest)) v bytes (place + n) end fits (sym (read-fits n next bytes place fits) ∙ found) in
          let parts : rest ≡ (take n rest ++ a) ++ after = sym (take-append-drop n rest) ∙ ap (λ x. take n rest ++ x) (drop-drop n place bytes ∙ rest_is) ∙ sym (append_assoc (take n rest) a after) in
          let there : end ≡ place + length (take n rest ++ a) = omega (arith, end_is, len, length-append (take n rest) a) in
          (take n rest ++ a, after, parts, there, (take n rest, a, refl, len, spelled))
    ]

-- so is one that is spelled between other bytes
pub spelled-found : {V : Type 0} (layout : Layout V) (v : V) (before a after : List ℕ) → Spells layout v a → read layout (before ++ (a ++ after)) (length before) ≡ Ok (v, length before + length a)
spelled-found layout v before a after spelled =
    spelled-read layout v a after (before ++ (a ++ after)) (length before) (omega (arith, length-append before (a ++ after))) (drop_at before (a ++ after) (length before) refl) spelled
