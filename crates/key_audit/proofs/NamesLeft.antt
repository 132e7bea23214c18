-- The names that free leaves leave, level by level.
use Rattle.std.proofs.Common.{◌≡◌, ◌<◌, ◌≤◌, ◌∙◌, ◌+◌, ◌*◌, ◌^◌, ℕ, zero, suc, List, [], ◌∷◌, Option, Some, None, drop, length, slice_get, slice_index_or, refl, ap, sym, arith, le_refl, le_trans, subst, if◌then◌else◌}
use Rattle.std.proofs.lemmas.Bool.{le-ltb, lt-ltb}
use Rattle.std.proofs.lemmas.List.{drop_all, drop_more}
use Rattle.std.proofs.lemmas.Nat.{pow_pos}
use Rattle.typecodes.specs.declared.spec.Spec.{Spec}
use Rattle.typecodes.specs.declared.spec.Spec.TheVariants.{Lms, Hss, Xmss}
use Rattle.typecodes.specs.declared.types.LmsPair.{LmsPair}
use Rattle.typecodes.specs.Types.{height_of, xmss_height_of}
use Rattle.key_audit.specs.Signatures.{below_2_64, tree_leaves_at, names_left, pair_leaves}

pair_has_leaves : (pair : Option LmsPair) → 1 ≤ pair_leaves pair
pair_has_leaves (Some pair) = pow_pos (height_of pair.tree)
pair_has_leaves None = le_refl 1

has_leaves : (spec : Spec) (level : ℕ) → 1 ≤ tree_leaves_at spec level
has_leaves (Lms pair) level = pow_pos (height_of pair.tree)
has_leaves (Hss levels) level = pair_has_leaves (slice_get levels level)
has_leaves (Xmss tree) level = pow_pos (xmss_height_of tree)

times : (trees leaves free : ℕ) → 1 ≤ leaves → trees ≤ trees * leaves + free
times trees zero free some = absurd (omega (arith, some))
times trees (suc leaves) free some = omega arith

grows : (spec : Spec) (level trees : ℕ) (left : List ℕ) → trees ≤ names_left spec level trees left
unfolding names_left
grows spec level trees [] = le_refl trees
grows spec level trees (free ∷ below) =
    le_trans (times trees (tree_leaves_at spec level) free (has_leaves spec level))
    (grows spec (level + 1) (trees * tree_leaves_at spec level + free) below)

not_below : (n m : ℕ) → (n < m → ⊥) → m ≤ n
not_below n zero never = omega arith
not_below zero (suc m) never = absurd (never (omega arith))
not_below (suc n) (suc m) never = let before = not_below n m (λ low. never (omega (arith, low))) in omega (arith, before)

-- One level more.
pub one_level : (spec : Spec) (trees leaves more : ℕ) (left : List ℕ) (i : ℕ) → i < length left → leaves ≡ tree_leaves_at spec i
    → more ≡ trees * leaves + slice_index_or left i 0
    → names_left spec i trees (drop i left) ≡ names_left spec (i + 1) more (drop (i + 1) left)
unfolding names_left
one_level spec trees leaves more left i within are is =
    ap (names_left spec i trees) (drop_more left i 0 within)
    ∙ ap (λ n. names_left spec (i + 1) n (drop (i + 1) left)) (sym (is ∙ ap (λ n. trees * n + slice_index_or left i 0) are))

-- Too many already.
pub too_many : (spec : Spec) (trees leaves : ℕ) (left : List ℕ) (i : ℕ) → i < length left → leaves ≡ tree_leaves_at spec i
    → (trees * leaves + slice_index_or left i 0 < 2 ^ 64 → ⊥) → below_2_64 (names_left spec i trees (drop i left)) ≡ None
too_many spec trees leaves left i within are many =
    let more = trees * leaves + slice_index_or left i 0 in
    let all : more ≤ names_left spec i trees (drop i left) =
    subst (λ n. more ≤ n) (sym (one_level spec trees leaves more left i within are refl)) (grows spec (i + 1) more (drop (i + 1) left)) in
    ap (λ b. if b then Some (names_left spec i trees (drop i left)) else None)
    (le-ltb (names_left spec i trees (drop i left)) (2 ^ 64) (le_trans (not_below more (2 ^ 64) many) all))

pub all_levels : (spec : Spec) (trees : ℕ) (left : List ℕ) (i : ℕ) → length left ≤ i → trees < 2 ^ 64
    → below_2_64 (names_left spec i trees (drop i left)) ≡ Some trees
unfolding names_left
all_levels spec trees left i past low =
    ap (λ l. below_2_64 (names_left spec i trees l)) (drop_all i left past)
    ∙ ap (λ b. if b then Some trees else None) (lt-ltb trees (2 ^ 64) low)
