-- The lines of records, one after the other.
use Rattle.std.proofs.Common.{◌≡◌, ◌∙◌, ◌+◌, ◌<◌, ℕ, List, [], ◌∷◌, ◌++◌, Option, Some, None, length, take, get_or, ap, sym, append-nil, append_assoc, arith}
use Rattle.std.specs.Io.KnownBytes.{Appends}
use Rattle.std.proofs.lemmas.List.{take_more}
use Rattle.key_audit.specs.declared.listing.Entry.{Entry}
use Rattle.command.specs.Output.{entry_line, entry_lines}

lines_more : (first : ℕ) (entries : List Entry) (entry : Entry) → entry_lines first (entries ++ entry ∷ []) ≡ entry_lines first entries ++ entry_line (first + length entries) entry
unfolding entry_lines
lines_more first [] entry =
    let on : first ≡ first + 0 = omega arith in append-nil (entry_line first entry) ∙ ap (λ k. entry_line k entry) on
lines_more first (l ∷ entries) entry =
    ap (λ rest. entry_line first l ++ rest) (lines_more (first + 1) entries entry)
    ∙ sym (append_assoc (entry_line first l) (entry_lines (first + 1) entries) (entry_line (first + 1 + length entries) entry))
    ∙ (let on : first + 1 + length entries ≡ first + length (l ∷ entries) = omega arith in
    ap (λ k. (entry_line first l ++ entry_lines (first + 1) entries) ++ entry_line k entry) on)

pub entries_begin : (contents : Option (List ℕ)) → Appends contents contents (entry_lines 0 [])
unfolding entry_lines
entries_begin None = tt
entries_begin (Some bytes) = sym (append-nil bytes)

pub entry_writes : (old before after : Option (List ℕ)) (entries : List Entry) (place : ℕ) (entry : Entry) → length entries ≡ place
    → Appends old before (entry_lines 0 entries) → Appends before after (entry_line place entry)
    → Appends old after (entry_lines 0 (entries ++ entry ∷ []))
entry_writes None before after entries place entry size first next = tt
entry_writes (Some o) None after entries place entry size first next = absurd first
entry_writes (Some o) (Some b) None entries place entry size first next = absurd next
entry_writes (Some o) (Some b) (Some a) entries place entry size first next =
    next ∙ ap (λ l. l ++ entry_line place entry) first ∙ append_assoc o (entry_lines 0 entries) (entry_line place entry)
    ∙ (let on : place ≡ 0 + length entries = omega (arith, size) in ap (λ k. o ++ (entry_lines 0 entries ++ entry_line k entry)) on)
    ∙ ap (λ l. o ++ l) (sym (lines_more 0 entries entry))

pub entries_so_far : (entries : List Entry) (place : ℕ) (entry : Entry) → place < length entries → entry ≡ get_or entries place entry
    → take (place + 1) entries ≡ take place entries ++ entry ∷ []
entries_so_far entries place entry within is = take_more entries place entry within ∙ ap (λ e. take place entries ++ e ∷ []) (sym is)
