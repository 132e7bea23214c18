-- Replacing a file's content: which calls are made on it, in which order.
use Rattle.std.specs.Prelude.{ℕ, List, ◌≡◌, ◌⊎◌, [], ◌∷◌, ◌++◌, Bool, true, false, Result, Ok, Err}
use Rattle.command.specs.declared.target.NotReplaced.{NotReplaced}
use Rattle.command.specs.declared.target.NotReplaced.TheVariants.{Kept, HasKey, Failed}
use Rattle.command.specs.Trace.{Happening, cut, looked, not_cut, not_looked, not_wrote, wrote}

abbrev pub looking : {E : Type 0} → Result Bool E → Happening
looking (Ok has_key) = looked has_key
looking (Err _) = not_looked

abbrev pub cutting : {A E : Type 0} → Result A E → Happening
cutting (Ok _) = cut
cutting (Err _) = not_cut

abbrev pub writing_all : {A E : Type 0} → (bytes : List ℕ) → Result A E → Happening
writing_all bytes (Ok _) = wrote bytes
writing_all bytes (Err _) = not_wrote

-- A regular file was seen to have no key, and then cut. If it has a key, or this couldn't be seen, it wasn't cut; or
-- the cut failed.
abbrev pub MakesEmpty : {A : Type 0} → Result A NotReplaced → (old new : List Happening) → Type 0
MakesEmpty (Ok _) old new = new ≡ old ++ looked false ∷ cut ∷ []
MakesEmpty (Err Kept) old new = ⊥
MakesEmpty (Err HasKey) old new = new ≡ old ++ looked true ∷ []
MakesEmpty (Err Failed) old new = (new ≡ old ++ not_looked ∷ []) ⊎ (new ≡ old ++ looked false ∷ not_cut ∷ [])

-- A regular file was emptied; with any other nothing was done.
abbrev pub Readies : {A : Type 0} → (is_regular : Bool) → Result A NotReplaced → (old new : List Happening) → Type 0
Readies true answer old new = MakesEmpty answer old new
Readies false (Ok _) old new = new ≡ old
Readies false (Err _) old new = ⊥

-- A kept file was refused, and nothing was done with it. Any other was made ready, and then these bytes were written.
-- Or it couldn't be made ready, or not all of them were written.
abbrev pub Replaces : (is_kept is_regular : Bool) → (bytes : List ℕ) → Result Unit NotReplaced
    → (old new : List Happening) → Type 0
Replaces true is_regular bytes answer old new = (answer ≡ Err Kept) × (new ≡ old)
Replaces false is_regular bytes (Ok _) old new =
    (ready : List Happening) × Readies {A = Unit} is_regular (Ok tt) old ready × (new ≡ ready ++ wrote bytes ∷ [])
Replaces false is_regular bytes (Err fault) old new = Readies {A = Unit} is_regular (Err fault) old new
    ⊎ ((fault ≡ Failed) × (ready : List Happening) × Readies {A = Unit} is_regular (Ok tt) old ready
    × (new ≡ ready ++ not_wrote ∷ []))
