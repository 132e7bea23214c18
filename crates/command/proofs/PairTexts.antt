-- The texts of a key's pairs, one after the other.
use Rattle.std.proofs.Common.{◌≡◌, ◌∙◌, ℕ, List, [], ◌∷◌, ◌++◌, Option, Some, None, length, map, refl, ap, sym, append-nil, append_assoc}
use Rattle.std.specs.List.{join_with_byte}
use Rattle.std.specs.Io.KnownBytes.{Appends}
use Rattle.std.proofs.lemmas.List.{length-map, map-append}
use Rattle.typecodes.specs.declared.types.LmsPair.{LmsPair}
use Rattle.typecodes.specs.Spec.{comma, levels_text, pair_text}
use Rattle.command.specs.inner.ListingText.{after_comma}

join_more : (parts : List (List ℕ)) (x : List ℕ)
    → join_with_byte comma (parts ++ x ∷ []) ≡ join_with_byte comma parts ++ after_comma (length parts) x
join_more [] x = refl
join_more (a ∷ []) x = refl
join_more (a ∷ b ∷ rest) x =
    ap (λ v. a ++ (comma ∷ v)) (join_more (b ∷ rest) x)
    ∙ sym (append_assoc a (comma ∷ join_with_byte comma (b ∷ rest)) (comma ∷ x))

pairs_more : (pairs : List LmsPair) (pair : LmsPair)
    → levels_text (pairs ++ pair ∷ []) ≡ levels_text pairs ++ after_comma (length pairs) (pair_text pair)
pairs_more pairs pair =
    ap (join_with_byte comma) (map-append pair_text pairs (pair ∷ [])) ∙ join_more (map pair_text pairs) (pair_text pair)
    ∙ ap (λ n. levels_text pairs ++ after_comma n (pair_text pair)) (length-map pairs pair_text)

pub pairs_begin : (contents : Option (List ℕ)) → Appends contents contents (levels_text [])
pairs_begin None = tt
pairs_begin (Some bytes) = sym (append-nil bytes)

pub pair_writes : (old before after : Option (List ℕ)) (pairs : List LmsPair) (level : ℕ) (pair : LmsPair) → length pairs ≡ level
    → Appends old before (levels_text pairs) → Appends before after (after_comma level (pair_text pair))
    → Appends old after (levels_text (pairs ++ pair ∷ []))
pair_writes None before after pairs level pair size first next = tt
pair_writes (Some o) None after pairs level pair size first next = absurd first
pair_writes (Some o) (Some b) None pairs level pair size first next = absurd next
pair_writes (Some o) (Some b) (Some a) pairs level pair size first next =
    next ∙ ap (λ l. l ++ after_comma level (pair_text pair)) first ∙ append_assoc o (levels_text pairs) (after_comma level (pair_text pair))
    ∙ ap (λ n. o ++ (levels_text pairs ++ after_comma n (pair_text pair))) (sym size) ∙ ap (λ l. o ++ l) (sym (pairs_more pairs pair))
