-- The lines of levels, one after the other.
use Rattle.std.proofs.Common.{◌≡◌, ◌∙◌, ◌+◌, ℕ, List, [], ◌∷◌, ◌++◌, Option, Some, None, length, ap, sym, append-nil, append_assoc, arith}
use Rattle.std.specs.Io.KnownBytes.{Appends}
use Rattle.command.specs.Output.{level_line, level_lines}

lines_more : (first : ℕ) (left : List ℕ) (n : ℕ) → level_lines first (left ++ n ∷ []) ≡ level_lines first left ++ level_line (first + length left) n
unfolding level_lines
lines_more first [] n =
    let on : first ≡ first + 0 = omega arith in append-nil (level_line first n) ∙ ap (λ k. level_line k n) on
lines_more first (l ∷ left) n =
    ap (λ rest. level_line first l ++ rest) (lines_more (first + 1) left n)
    ∙ sym (append_assoc (level_line first l) (level_lines (first + 1) left) (level_line (first + 1 + length left) n))
    ∙ (let on : first + 1 + length left ≡ first + length (l ∷ left) = omega arith in
    ap (λ k. (level_line first l ++ level_lines (first + 1) left) ++ level_line k n) on)

pub levels_begin : (contents : Option (List ℕ)) → Appends contents contents (level_lines 0 [])
unfolding level_lines
levels_begin None = tt
levels_begin (Some bytes) = sym (append-nil bytes)

pub level_writes : (old before after : Option (List ℕ)) (left : List ℕ) (level n : ℕ) → length left ≡ level
    → Appends old before (level_lines 0 left) → Appends before after (level_line level n)
    → Appends old after (level_lines 0 (left ++ n ∷ []))
level_writes None before after left level n size first next = tt
level_writes (Some o) None after left level n size first next = absurd first
level_writes (Some o) (Some b) None left level n size first next = absurd next
level_writes (Some o) (Some b) (Some a) left level n size first next =
    next ∙ ap (λ l. l ++ level_line level n) first ∙ append_assoc o (level_lines 0 left) (level_line level n)
    ∙ (let on : level ≡ 0 + length left = omega (arith, size) in ap (λ k. o ++ (level_lines 0 left ++ level_line k n)) on)
    ∙ ap (λ l. o ++ l) (sym (lines_more 0 left n))
