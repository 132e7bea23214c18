-- The ends of chains, fed to a hasher one after the other.
use Rattle.std.proofs.Common.{◌≡◌, ◌∙◌, sym, ℕ, ◌+◌, List, [], ◌∷◌, ◌++◌, map, refl, ap, append_assoc, arith}
use Rattle.std.specs.List.{concat, range_with_len}
use Rattle.std.proofs.lemmas.List.{append-nil}
use Rattle.std.proofs.lemmas.List.Folds.{concat-append}
use Rattle.std.proofs.lemmas.List.FromFn.{map-range_with_len_more}

-- one value more after those that are concatenated
concat_more : (value : ℕ → List ℕ) (n : ℕ)
    → concat (map value (range_with_len 0 (n + 1))) ≡ concat (map value (range_with_len 0 n)) ++ value n
concat_more value n =
    ap concat (map-range_with_len_more value 0 n n (omega arith))
    ∙ concat-append (map value (range_with_len 0 n)) (value n ∷ [])
    ∙ ap (λ last. concat (map value (range_with_len 0 n)) ++ last) (append-nil (value n))

-- what a hasher contains, once it has taken n ends after the head
pub fed : List ℕ → (ℕ → List ℕ) → ℕ → List ℕ
fed head end n = head ++ concat (map end (range_with_len 0 n))

pub fed_none : (head : List ℕ) (end : ℕ → List ℕ) → head ≡ fed head end 0
unfolding fed
fed_none head end = sym (append-nil head)

pub fed_more : (head : List ℕ) (end : ℕ → List ℕ) (n : ℕ) (part : List ℕ) → part ≡ end n
    → fed head end n ++ part ≡ fed head end (n + 1)
unfolding fed
fed_more head end n part e =
    append_assoc head (concat (map end (range_with_len 0 n))) part
    ∙ ap (λ rest. head ++ rest) (ap (λ last. concat (map end (range_with_len 0 n)) ++ last) e ∙ sym (concat_more end n))

pub fed_all : (head : List ℕ) (end : ℕ → List ℕ) (n all : ℕ) → n ≡ all
    → fed head end n ≡ head ++ concat (map end (range_with_len 0 all))
unfolding fed
fed_all head end n all e = rw e refl
