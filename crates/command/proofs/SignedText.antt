-- The lines of an HSS signature's levels, one after the other.
use Rattle.std.proofs.Common.{◌≡◌, ◌∙◌, ◌+◌, ℕ, List, [], ◌∷◌, ◌++◌, Option, Some, None, length, ap, sym, append-nil, append_assoc, arith}
use Rattle.std.specs.Io.KnownBytes.{Appends}
use Rattle.command.specs.declared.described.SignedLevel.{SignedLevel}
use Rattle.command.specs.Output.{signed_line, signed_lines}

lines_more : (first : ℕ) (levels : List SignedLevel) (level : SignedLevel) → signed_lines first (levels ++ level ∷ []) ≡ signed_lines first levels ++ signed_line (first + length levels) level
unfolding signed_lines
lines_more first [] level =
    let on : first ≡ first + 0 = omega arith in append-nil (signed_line first level) ∙ ap (λ k. signed_line k level) on
lines_more first (l ∷ levels) level =
    ap (λ rest. signed_line first l ++ rest) (lines_more (first + 1) levels level)
    ∙ sym (append_assoc (signed_line first l) (signed_lines (first + 1) levels) (signed_line (first + 1 + length levels) level))
    ∙ (let on : first + 1 + length levels ≡ first + length (l ∷ levels) = omega arith in
    ap (λ k. (signed_line first l ++ signed_lines (first + 1) levels) ++ signed_line k level) on)

pub signed_begin : (contents : Option (List ℕ)) → Appends contents contents (signed_lines 0 [])
unfolding signed_lines
signed_begin None = tt
signed_begin (Some bytes) = sym (append-nil bytes)

pub signed_writes : (old before after : Option (List ℕ)) (levels : List SignedLevel) (place : ℕ) (level : SignedLevel) → length levels ≡ place
    → Appends old before (signed_lines 0 levels) → Appends before after (signed_line place level)
    → Appends old after (signed_lines 0 (levels ++ level ∷ []))
signed_writes None before after levels place level size first next = tt
signed_writes (Some o) None after levels place level size first next = absurd first
signed_writes (Some o) (Some b) None levels place level size first next = absurd next
signed_writes (Some o) (Some b) (Some a) levels place level size first next =
    next ∙ ap (λ l. l ++ signed_line place level) first ∙ append_assoc o (signed_lines 0 levels) (signed_line place level)
    ∙ (let on : place ≡ 0 + length levels = omega (arith, size) in ap (λ k. o ++ (signed_lines 0 levels ++ signed_line k level)) on)
    ∙ ap (λ l. o ++ l) (sym (lines_more 0 levels level))
