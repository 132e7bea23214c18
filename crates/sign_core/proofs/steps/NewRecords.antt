-- The new records of a request, one after the other.
use Rattle.std.proofs.Common.{◌≡◌, ◌∙◌, ℕ, suc, ◌-◌, false, List, [], ◌∷◌, ◌++◌, Option, Some, refl, sym, ap}
use Rattle.std.proofs.Common.{append_assoc, append-nil}
use Rattle.std.specs.Prelude.{slice_index_or, if◌then◌else◌}
use Rattle.std.specs.List.{concat}
use Rattle.state_file.specs.Laws.{bottom_of}
use Rattle.state_file.specs.declared.record.Key.{Key}
use Rattle.state_file.specs.declared.record.Record.{Record}
use Rattle.sign_core.specs.declared.fault.SignFault.TheVariants.{RandomRepeated}
use Rattle.sign_core.specs.Records.{has_identifier, next_at}
use Rattle.sign_core.specs.Textbook.{Trees, lms_secret, trees_of}
use Rattle.sign_core.specs.World.{Chance, Draw, Fate, Outcome, acked}
use Rattle.sign_core.specs.World.{appended, drawing, extend_record, open_state, refused}
use Rattle.sign_core.specs.inner.Cases.{extended, bound_trees}
use Rattle.sign_core.proofs.steps.Cases.{extended_seed}

pub drawing_twice : {A : Type 0} (a b : List ℕ) (outcome : Outcome A) → drawing a (drawing b outcome) ≡ drawing (a ++ b) outcome
drawing_twice a b outcome = ap (λ bytes. record outcome { drawn = bytes }) (sym (append_assoc a b outcome.drawn))

-- the fields of a new tree, and what was drawn after them
pub fields_drawn : (identifier seed randomizer rest : List ℕ)
    → identifier ++ ((seed ++ randomizer) ++ rest) ≡ concat (identifier ∷ seed ∷ randomizer ∷ []) ++ rest
fields_drawn identifier seed randomizer rest =
    ap (λ bytes. identifier ++ bytes) (append_assoc seed randomizer rest)
    ∙ ap (λ bytes. identifier ++ (seed ++ (bytes ++ rest))) (sym (append-nil randomizer))
    ∙ ap (λ bytes. identifier ++ bytes) (sym (append_assoc seed (randomizer ++ []) rest))
    ∙ sym (append_assoc identifier (seed ++ (randomizer ++ [])) rest)

-- .. in two parts
pub fields_drawn_before : (identifier seed randomizer later last : List ℕ)
    → identifier ++ ((seed ++ randomizer) ++ (later ++ last))
    ≡ concat (identifier ∷ seed ∷ randomizer ∷ []) ++ later ++ last
fields_drawn_before identifier seed randomizer later last =
    fields_drawn identifier seed randomizer (later ++ last)
    ∙ sym (append_assoc (concat (identifier ∷ seed ∷ randomizer ∷ [])) later last)

-- After the new trees so far, whose draws didn't fail, `bound_trees` goes on with the rest.
abbrev pub ComesTo : Key → (name : List ℕ) → (below : ℕ) → (records : List Record) → (done : List Draw) → (drawn : List ℕ) → (below' : ℕ) → (records' : List Record) → Type 0
ComesTo key name below records done drawn below' records' = (chance : Chance) (rest : List Draw)
    → bound_trees key name chance below (done ++ rest) records ≡ drawing drawn (bound_trees key name chance below' rest records')

pub comes_at_first : (key : Key) (name : List ℕ) (below : ℕ) (records : List Record) → ComesTo key name below records [] [] below records
comes_at_first key name below records chance rest = refl

-- a draw of these fields, without a failure
abbrev pub whole_draw : (identifier seed randomizer : List ℕ) → Fate → Draw
whole_draw identifier seed randomizer fate = record { fields = identifier ∷ seed ∷ randomizer ∷ []; fate = fate }

abbrev pub next_extend : Key → Trees → List Record → (level : ℕ) → (identifier seed randomizer : List ℕ) → Record
next_extend key trees records level identifier seed randomizer =
    extend_record trees records level (lms_secret (slice_index_or trees.pairs level trees.top.pair) identifier seed) randomizer
    (next_at key.secret records (level - 1))

-- one new tree: no record has its I, and the append has this fate
pub extends_by : (key : Key) (level : ℕ) (found : Option Trees) (trees : Trees) → found ≡ Some trees → (records : List Record) (identifier seed randomizer : List ℕ) (fate : Fate)
    → has_identifier records identifier ≡ false → (next : List Record → Outcome (List ℕ))
    → extended (open_state records) key level found (whole_draw identifier seed randomizer fate) next
    ≡ drawing identifier (drawing (seed ++ randomizer) (appended (open_state records) (next_extend key trees records level identifier seed randomizer) fate next))
extends_by key level found trees is_trees records identifier seed randomizer fate fresh next =
    ap (λ t. extended (open_state records) key level t (whole_draw identifier seed randomizer fate) next) is_trees
    ∙ ap (λ b. drawing identifier (if b then refused (open_state records) RandomRepeated
    else extended_seed (open_state records) trees level (next_at key.secret records (level - 1)) identifier (seed ∷ randomizer ∷ []) fate next)) fresh

drawing_thrice : {A : Type 0} (a b c : List ℕ) (outcome : Outcome A) → drawing a (drawing b (drawing c outcome)) ≡ drawing (a ++ (b ++ c)) outcome
drawing_thrice a b c outcome = ap (drawing a) (drawing_twice b c outcome) ∙ drawing_twice a (b ++ c) outcome

-- One more new tree, acknowledged.
pub comes_to_next : (key : Key) (name : List ℕ) (below : ℕ) (records : List Record) (done : List Draw) (drawn : List ℕ) (n : ℕ) (records' : List Record)
    → ComesTo key name below records done drawn (suc n) records'
    → (trees : Trees) → trees_of key.secret ≡ Some trees
    → (identifier seed randomizer : List ℕ) → has_identifier records' identifier ≡ false
    → ComesTo key name below records (done ++ whole_draw identifier seed randomizer acked ∷ []) (drawn ++ (identifier ++ (seed ++ randomizer))) n
    (records' ++ next_extend key trees records' (bottom_of key.secret - n) identifier seed randomizer ∷ [])
comes_to_next key name below records done drawn n records' before trees is_trees identifier seed randomizer fresh chance rest =
    let draw = whole_draw identifier seed randomizer acked in
    ap (λ draws. bound_trees key name chance below draws records) (append_assoc done (draw ∷ []) rest)
    ∙ before chance (draw ∷ rest)
    ∙ ap (drawing drawn) (extends_by key (bottom_of key.secret - n) (trees_of key.secret) trees is_trees records' identifier seed randomizer acked fresh
    (bound_trees key name chance n rest))
    ∙ drawing_thrice drawn identifier (seed ++ randomizer) _

-- ---- ends

-- What comes after the new trees ends the request, with these draws in all and this outcome.
pub ends_after : (key : Key) (name : List ℕ) (below : ℕ) (records : List Record) (done : List Draw) (drawn : List ℕ) (n : ℕ) (records' : List Record)
    → ComesTo key name below records done drawn n records' → (chance : Chance) (rest : List Draw) → chance.trees ≡ done ++ rest
    → (outcome : Outcome (List ℕ)) → bound_trees key name chance n rest records' ≡ outcome
    → bound_trees key name chance below chance.trees records ≡ drawing drawn outcome
ends_after key name below records done drawn n records' comes chance rest are outcome is =
    ap (λ draws. bound_trees key name chance below draws records) are ∙ comes chance rest ∙ ap (drawing drawn) is
