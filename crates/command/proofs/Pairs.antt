-- Paths in pairs.
use Rattle.std.proofs.Common.{◌≡◌, ◌∙◌, ◌+◌, ◌*◌, ◌<◌, ℕ, suc, List, [], ◌∷◌, ◌++◌, Option, Some, None, length, take, map, get_or, ap, refl, sym, arith, append_assoc, option_map, zero}
use Rattle.std.proofs.lemmas.List.{map-append, take_more}
use Rattle.clap.specs.Words.{Text}
use Rattle.command.specs.AuditGiven.{Pair, path_pairs}

pub odd_has_none : (paths : List Text) (half : ℕ) → length paths ≡ 2 * half + 1 → path_pairs paths ≡ None
unfolding path_pairs
odd_has_none [] half odd = absurd (omega (arith, odd))
odd_has_none (path ∷ []) half odd = refl
odd_has_none (message ∷ signature ∷ paths) zero odd = absurd (omega (arith, odd))
odd_has_none (message ∷ signature ∷ paths) (suc half) odd =
    ap (option_map (λ pairs. (message, signature) ∷ pairs)) (odd_has_none paths half (omega (arith, odd)))

in_front : (pair : Pair) (found : Option (List Pair)) (pairs : List Pair) → option_map (λ l. pair ∷ l) found ≡ Some pairs
    → (later : List Pair) × (found ≡ Some later) × (pair ∷ later ≡ pairs)
in_front pair None pairs same = absurd cc
in_front pair (Some later) pairs same = (later, refl, cc)

pub pairs_more : (paths : List Text) (pairs : List Pair) (message signature : Text) → path_pairs paths ≡ Some pairs
    → path_pairs (paths ++ message ∷ signature ∷ []) ≡ Some (pairs ++ (message, signature) ∷ [])
unfolding path_pairs
pairs_more [] pairs message signature same =
    let none : ◌≡◌ {A = List Pair} [] pairs = cc in ap (λ (l : List Pair). Some (l ++ (message, signature) ∷ [])) none
pairs_more (path ∷ []) pairs message signature same = absurd cc
pairs_more (m ∷ s ∷ paths) pairs message signature same =
    let (later, found, front) = in_front (m, s) (path_pairs paths) pairs same in
    ap (option_map (λ l. (m, s) ∷ l)) (pairs_more paths later message signature found)
    ∙ ap (λ (l : List Pair). Some (l ++ (message, signature) ∷ [])) front

pub next_pair : {X : Type 0} (paths : List X) (i : ℕ) (d : X) → 2 * i + 1 < length paths
    → take (2 * (i + 1)) paths ≡ take (2 * i) paths ++ get_or paths (2 * i) d ∷ get_or paths (2 * i + 1) d ∷ []
next_pair paths i d within =
    let on : 2 * (i + 1) ≡ 2 * i + 1 + 1 = omega arith in
    ap (λ n. take n paths) on ∙ take_more paths (2 * i + 1) d within
    ∙ ap (λ l. l ++ get_or paths (2 * i + 1) d ∷ []) (take_more paths (2 * i) d (omega (arith, within)))
    ∙ append_assoc (take (2 * i) paths) (get_or paths (2 * i) d ∷ []) (get_or paths (2 * i + 1) d ∷ [])

pub pairs_none : {Y : Type 0} (pairing : Y → Pair) (files : List Y) → files ≡ [] → path_pairs [] ≡ Some (map pairing files)
unfolding path_pairs
pairs_none pairing files none = ap (λ l. Some (map pairing l)) (sym none)

-- One more turn of the loop: the first 2i paths are in `files`, the next two are `last`.
pub pairs_taken : {X Y : Type 0} (view : X → Text) (pairing : Y → Pair) (paths : List X) (files all : List Y) (i : ℕ) (d : X) (last : Y)
    → 2 * i + 1 < length paths → pairing last ≡ (view (get_or paths (2 * i) d), view (get_or paths (2 * i + 1) d)) → all ≡ files ++ last ∷ []
    → path_pairs (map view (take (2 * i) paths)) ≡ Some (map pairing files)
    → path_pairs (map view (take (2 * (i + 1)) paths)) ≡ Some (map pairing all)
pairs_taken view pairing paths files all i d last within is pushed before =
    let two = get_or paths (2 * i) d ∷ get_or paths (2 * i + 1) d ∷ [] in
    ap (λ l. path_pairs (map view l)) (next_pair paths i d within) ∙ ap path_pairs (map-append view (take (2 * i) paths) two)
    ∙ pairs_more (map view (take (2 * i) paths)) (map pairing files) (view (get_or paths (2 * i) d)) (view (get_or paths (2 * i + 1) d)) before
    ∙ ap (λ (p : Pair). Some (map pairing files ++ p ∷ [])) (sym is) ∙ ap (λ (l : List Pair). Some l) (sym (map-append pairing files (last ∷ [])))
    ∙ ap (λ l. Some (map pairing l)) (sym pushed)
