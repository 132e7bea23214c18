-- Comparing the first bytes of two arrays, by making the others equal.
use Rattle.std.proofs.Common.{◌≡◌, ◌∙◌, refl, sym, ap, ℕ, ◌-◌, ◌≤◌, List, [], ◌++◌, length, take, drop, append-nil, take_at, arith, length-drop}
use Rattle.std.proofs.lemmas.List.{drop_all, length-take-le, take-append-drop, take_all}
use Rattle.std.specs.Prelude.{◌↔◌}
use borrow.Rule.Slice.PartMut.{put_mid, post_of}

pub padded_same : (count : ℕ) (prefix room ys : List ℕ) → length room ≡ 128 → length prefix ≡ 128 → count ≤ 128
    → ys ≡ take (128 - count) (drop count prefix)
    → (put_mid count (128 - count) room ys ≡ prefix) ↔ (take count prefix ≡ take count room)
padded_same count prefix room ys long long_too most ys_is =
    let others : ys ≡ drop count prefix = ys_is ∙ take_all (128 - count) (drop count prefix) (omega (arith, length-drop count prefix)) in
    let rest : post_of count (128 - count) room ≡ [] = drop_all (128 - count) (drop count room) (omega (arith, length-drop count room)) in
    let is : put_mid count (128 - count) room ys ≡ take count room ++ drop count prefix = rw (rest, append-nil, others) refl in
    let front : take count (take count room ++ drop count prefix) ≡ take count room =
    take_at (take count room) (drop count prefix) count (length-take-le count room (omega arith)) in (
      λ same. sym (ap (take count) (sym is ∙ same)) ∙ front,
      λ same. is ∙ ap (λ front. front ++ drop count prefix) (sym same) ∙ take-append-drop count prefix,
    )
