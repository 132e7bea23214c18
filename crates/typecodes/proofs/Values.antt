-- Values of 32 bytes, one after the other, are one block of bytes, cut into values.
use Rattle.std.proofs.Common.{◌≡◌, ℕ, zero, suc, ◌+◌, ◌-◌, ◌*◌, ◌/◌, ◌<◌, ◌≤◌, inl, inr, ap₂, List, [], ◌∷◌, length, take, drop, Result, Ok, Err, refl, sym, ◌∙◌, ap, add-zero, arith, take-take, drop-drop, length-take, length-drop}
use Rattle.std.specs.Simd.{first_chunks}
use Rattle.std.proofs.lemmas.Bool.{cases_lt}
use Rattle.std.proofs.lemmas.List.{drop-take}
use Rattle.typecodes.specs.declared.fault.Cause.TheVariants.{Truncated}
use Rattle.typecodes.specs.declared.fault.ReadFault.{ReadFault}
use Rattle.typecodes.specs.Fault.{fault_at}
use Rattle.typecodes.specs.Layout.{Layout, done, ◌>>=◌}
use Rattle.typecodes.specs.Fields.{block, values, first_values}
use Rattle.typecodes.specs.Cursor.{and_then, read, Gives}
use Rattle.typecodes.proofs.Read.{read-fits, read-cut, read-bind}

-- the first value of a block of them, and the others
first_values-more : (n place : ℕ) (bytes : List ℕ) → take 32 (drop place bytes) ∷ first_values n (take (32 * n) (drop (place + 32) bytes)) ≡ first_values (suc n) (take (32 * suc n) (drop place bytes))
first_values-more n place bytes =
    let size : 32 * suc n ≡ 32 + 32 * n = omega arith in
    rw (size, take-take 32 (32 + 32 * n) (drop place bytes) (omega arith), drop-take 32 (32 * n) (drop place bytes), drop-drop 32 place bytes) refl

-- the layout of more values, after the first
abbrev pub more_values : ℕ → List ℕ → Layout (List (List ℕ))
more_values n first = values n >>= λ rest. done (first ∷ rest)

pub values-fit : (n : ℕ) (bytes : List ℕ) (place : ℕ) → place + 32 * n ≤ length bytes → read (values n) bytes place ≡ Ok (first_values n (take (32 * n) (drop place bytes)), place + 32 * n)
unfolding values
values-fit zero bytes place h = ap (λ at. Ok ([], at)) (sym (add-zero place))
values-fit (suc n) bytes place h =
    let first = take 32 (drop place bytes) in
    let fits : place + 32 ≤ length bytes = omega arith in
    let others_fit : (place + 32) + 32 * n ≤ length bytes = omega arith in
    let end : (place + 32) + 32 * n ≡ place + 32 * suc n = omega arith in
    read-fits 32 (more_values n) bytes place fits
    ∙ read-bind (values n) (λ rest. done (first ∷ rest)) bytes (place + 32)
    ∙ ap (λ rest. and_then rest (λ x. Ok (first ∷ x.0, x.1))) (values-fit n bytes (place + 32) others_fit)
    ∙ ap₂ (λ all at. Ok (all, at)) (first_values-more n place bytes) end

-- values that don't all fit are cut at the start of the first that doesn't
pub values-cut : (n : ℕ) (bytes : List ℕ) (place : ℕ) → place ≤ length bytes → length bytes < place + 32 * n → read (values n) bytes place ≡ Err (fault_at (place + 32 * ((length bytes - place) / 32)) Truncated)
unfolding values
values-cut zero bytes place within cut = absurd (omega arith)
values-cut (suc n) bytes place within cut =
    elim (cases_lt (length bytes) (place + 32)) [
      | inl here ↦
          let same : place ≡ place + 32 * ((length bytes - place) / 32) = omega arith in
          read-cut 32 (more_values n) bytes place here ∙ ap (λ at. Err (fault_at at Truncated)) same
      | inr fits ↦
          let cut_later : length bytes < (place + 32) + 32 * n = omega arith in
          let same : (place + 32) + 32 * ((length bytes - (place + 32)) / 32) ≡ place + 32 * ((length bytes - place) / 32) = omega arith in
          read-fits 32 (more_values n) bytes place fits
          ∙ read-bind (values n) (λ rest. done (take 32 (drop place bytes) ∷ rest)) bytes (place + 32)
          ∙ ap (λ rest. and_then rest (λ x. Ok (take 32 (drop place bytes) ∷ x.0, x.1))) (values-cut n bytes (place + 32) fits cut_later)
          ∙ ap (λ at. Err (fault_at at Truncated)) same
    ]

-- so a block of all values, cut into values, hands them out
pub values-give : {X : Type 0} (now : X → List ℕ) (n : ℕ) (bytes : List ℕ) (place next : ℕ) (result : Result X ReadFault) → place + 32 * n ≤ length bytes → Gives (λ x. (now x, next)) result (read (block (32 * n)) bytes place) → Gives (λ x. (first_chunks 32 (length (now x) / 32) (now x), next)) result (read (values n) bytes place)
values-give now n bytes place next (Ok x) fits given =
    let read_all = sym (read-fits (32 * n) done bytes place fits) ∙ given in
    let same : ◌≡◌ {A = List ℕ × ℕ} (take (32 * n) (drop place bytes), place + 32 * n) (now x, next) = cc in
    let all : take (32 * n) (drop place bytes) ≡ now x = ap (λ pair. pair.0) same in
    let full : length (take (32 * n) (drop place bytes)) ≡ 32 * n = simp (length-take, length-drop) (omega arith) in
    let size : length (now x) ≡ 32 * n = ap length (sym all) ∙ full in
    let count : n ≡ length (now x) / 32 = omega arith in
    values-fit n bytes place fits ∙ ap (λ taken. Ok (first_chunks 32 n taken.0, taken.1)) same
    ∙ ap (λ k. Ok (first_chunks 32 k (now x), next)) count
values-give now n bytes place next (Err fault) fits given = absurd (let e = sym (read-fits (32 * n) done bytes place fits) ∙ given in cc)
