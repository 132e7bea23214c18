-- Names counted, one after the other.
use Rattle.std.proofs.Common.{◌≡◌, ◌∙◌, ◌+◌, ◌<◌, ℕ, List, [], ◌∷◌, ◌++◌, length, take, get_or, ap, sym, arith}
use Rattle.std.proofs.lemmas.List.{take_more}
use Rattle.key_audit.specs.declared.listing.Entry.{Entry}
use Rattle.key_audit.specs.Listing.{name_count, names_among}

names_push : (entries : List Entry) (e : Entry) → names_among (entries ++ e ∷ []) ≡ names_among entries + name_count e
names_push [] e = omega arith
names_push (first ∷ rest) e = omega (arith, names_push rest e)

pub names_more : (entries : List Entry) (i : ℕ) (e : Entry) (names : ℕ) → i < length entries → e ≡ get_or entries i e
    → names ≡ names_among (take i entries) → names + name_count e ≡ names_among (take (i + 1) entries)
names_more entries i e names inside is so_far =
    ap (λ n. n + name_count e) so_far ∙ sym (names_push (take i entries) e) ∙ ap (λ x. names_among (take i entries ++ x ∷ [])) is
    ∙ ap names_among (sym (take_more entries i e inside))
