-- The type that a code names in a table, and codes that name none.
use Rattle.std.proofs.Common.{◌≡◌, ◌≢◌, ℕ, List, [], ◌∷◌, Option, Some, None, All, cond, true, false, ◌==◌, refl, sym, ap, ◌∙◌, eqb-true, ne_eqb}
use Rattle.std.proofs.lemmas.Bool.{eqb-false}
use Rattle.std.proofs.lemmas.List.Elements.{All-nil, All-cons, All-head, All-tail}
use Rattle.std.specs.Option.{option_map_or}
use Rattle.typecodes.specs.declared.fault.Cause.TheVariants.{UnknownType}
use Rattle.typecodes.specs.Types.{named}
use Rattle.typecodes.specs.Layout.{Layout, done, refuse}

-- what a table's layout goes on with: the type that a code named, if it named one
abbrev pub known : {T : Type 0} → Option T → Layout T
known found = option_map_or done found (refuse 4 UnknownType)

pub named-has : {T : Type 0} (code : T → ℕ) (types : List T) (c : ℕ) (t : T) → named code types c ≡ Some t → code t ≡ c
named-has code [] c t found = cc
named-has code (u ∷ types) c t found =
    elim (code u == c) as (λ same. code u == c ≡ same → cond same (Some u) (named code types c) ≡ Some t → code t ≡ c) [
      | true ↦ λ same here. let e : u ≡ t = cc in ap code (sym e) ∙ eqb-true (code u) c same
      | false ↦ λ _ later. named-has code types c t later
    ] refl found

pub named-none : {T : Type 0} (code : T → ℕ) (types : List T) (c : ℕ) → named code types c ≡ None → All (λ t. code t ≢ c) types
named-none code [] c none = All-nil _
named-none code (u ∷ types) c none =
    elim (code u == c) as (λ same. code u == c ≡ same → cond same (Some u) (named code types c) ≡ None → All (λ t. code t ≢ c) (u ∷ types)) [
      | true ↦ λ _ here. absurd (cc)
      | false ↦ λ other later. All-cons (λ t. code t ≢ c) u types (eqb-false (code u) c other) (named-none code types c later)
    ] refl none

pub none-named : {T : Type 0} (code : T → ℕ) (types : List T) (c : ℕ) → All (λ t. code t ≢ c) types → named code types c ≡ None
none-named code [] c others = refl
none-named code (u ∷ types) c others =
    let here = ne_eqb (code u) c (All-head (λ t. code t ≢ c) u types others) in
    rw here (none-named code types c (All-tail (λ t. code t ≢ c) u types others))
