-- A new name is signed if a leaf is free and nothing fails, except for an I that was drawn before.
use Rattle.std.proofs.Common.{◌≡◌, ◌∙◌, refl, sym, ap, subst, ℕ, zero, suc, ◌+◌, ◌-◌, ◌<◌, ◌≤◌, ◌⊎◌, inl, inr, Bool, true, false, List, [], ◌∷◌, ◌++◌}
use Rattle.std.proofs.Common.{length, take, Option, Some, None, Ok, Err, append_assoc, append-nil, arith}
use Rattle.std.specs.Prelude.{if◌then◌else◌, slice_get}
use Rattle.std.specs.List.{concat}
use Rattle.state_file.specs.Laws.{bottom_of}
use Rattle.state_file.specs.declared.record.Bound.{Bound}
use Rattle.state_file.specs.declared.record.Key.{Key}
use Rattle.state_file.specs.declared.record.Record.{Record}
use Rattle.state_file.specs.declared.record.Record.TheVariants.{Bound as BoundRecord}
use Rattle.state_file.specs.declared.record.Secret.{Secret}
use Rattle.state_file.specs.declared.record.Secret.TheVariants.{Lms, Hss, Xmss}
use Rattle.sign_core.specs.declared.fault.SignFault.TheVariants.{RandomRepeated}
use Rattle.sign_core.specs.Records.{has_identifier, next_at}
use Rattle.sign_core.specs.Requests.{BeginsTree, IsComplete, bytes_drawn}
use Rattle.sign_core.specs.Events.{randomizer_sizes, tree_sizes}
use Rattle.sign_core.specs.World.{Chance, Draw, Fate, Outcome, acked, drawing}
use Rattle.sign_core.specs.inner.Cases.{extended}
use Rattle.sign_core.proofs.steps.Cases.{bound_message, extended_seed}
use Rattle.sign_core.specs.World.{open_state, randomizer_of_fields, refused}
use Rattle.sign_core.specs.inner.Cases.{bound_trees}
use Rattle.sign_core.specs.Textbook.{Trees, digest_at, textbook_signature, trees_of}
use Rattle.sign_core.proofs.steps.NewRecords.{extends_by, fields_drawn_before, next_extend, whole_draw}
use Rattle.sign_core.proofs.records.Parts.{new_bound}

-- ---- what is drawn

-- a draw without a failure has three fields
whole : (draw : Draw) → IsComplete tree_sizes draw
    → (identifier : List ℕ) × (seed : List ℕ) × (randomizer : List ℕ) × (draw ≡ whole_draw identifier seed randomizer acked)
whole draw is =
    let (identifier, seed, randomizer, fields) = three draw.fields is.fields in
    (identifier, seed, randomizer, λ i. record { fields = fields i; fate = is.acknowledged i })
  where
    three : (fields : List (List ℕ)) → length fields ≡ 3
        → (identifier : List ℕ) × (seed : List ℕ) × (randomizer : List ℕ) × (fields ≡ identifier ∷ seed ∷ randomizer ∷ [])
    three [] count = absurd (omega (arith, count))
    three (a ∷ []) count = absurd (omega (arith, count))
    three (a ∷ b ∷ []) count = absurd (omega (arith, count))
    three (a ∷ b ∷ c ∷ []) count = (a, b, c, refl)
    three (a ∷ b ∷ c ∷ d ∷ rest) count = absurd (omega (arith, count))

-- an I that stands in the records
again_extended : (key : Key) (level : ℕ) (found : Option Trees) (trees : Trees) → found ≡ Some trees
    → (records : List Record) (identifier seed randomizer : List ℕ)
    → has_identifier records identifier ≡ true → (next : List Record → Outcome (List ℕ))
    → (extended (open_state records) key level found (whole_draw identifier seed randomizer acked) next).answer ≡ Err RandomRepeated
again_extended key level found trees is_trees records identifier seed randomizer there next =
    ap (λ t. (extended (open_state records) key level t (whole_draw identifier seed randomizer acked) next).answer) is_trees
    ∙ ap (λ b. (drawing identifier (if b then refused (open_state records) RandomRepeated
    else extended_seed (open_state records) trees level (next_at key.secret records (level - 1)) identifier (seed ∷ randomizer ∷ []) acked next)).answer) there

-- ---- what is left to do is done

-- All `below` trees were begun, and the name was bound.
pub record IsDone (key : Key) (name message : List ℕ) (chance : Chance) (below : ℕ) (draws : List Draw) (records : List Record) (outcome : Outcome (List ℕ))
    : Type 0 where
  pub trees : List Record
  pub bound : Bound
  pub count : length trees ≡ below
  pub each : (i : ℕ) (entry : Record) (draw : Draw) → slice_get trees i ≡ Some entry → slice_get draws i ≡ Some draw
      → BeginsTree key (records ++ take i trees) (bottom_of key.secret - below + i + 1) draw.fields entry
  pub named : bound.name ≡ name
  pub leaf : bound.leaf ≡ next_at key.secret (records ++ trees) (bottom_of key.secret)
  pub randomizer : randomizer_of_fields key.secret chance.bound.fields ≡ Some bound.randomizer
  pub digest : bound.digest ≡ digest_at key (records ++ trees) (length (records ++ trees)) bound.leaf bound.randomizer message
  pub state : outcome.state ≡ open_state (records ++ trees ++ BoundRecord bound ∷ [])
  pub answer : outcome.answer ≡ Ok (textbook_signature key (records ++ trees ++ BoundRecord bound ∷ []) (length (records ++ trees)) bound)
  pub drawn : outcome.drawn ≡ bytes_drawn draws ++ concat chance.bound.fields
  pub read : outcome.is_read ≡ true
  pub uncut : outcome.failed ≡ None

-- it is done, or an I was drawn before
abbrev pub IsFine : Key → (name message : List ℕ) → Chance → (below : ℕ) → List Draw → List Record → Outcome (List ℕ) → Type 0
IsFine key name message chance below draws records outcome =
    (outcome.answer ≡ Err RandomRepeated) ⊎ IsDone key name message chance below draws records outcome

bound_done : (key : Key) (name message drawn : List ℕ) (chance : Chance) (records : List Record) → chance.given ≡ Some message
    → randomizer_of_fields key.secret chance.bound.fields ≡ Some drawn → chance.bound.fate ≡ acked
    → IsDone key name message chance 0 [] records (bound_trees key name chance 0 [] records)
bound_done key name message drawn chance records given is acknowledged =
    let bound = new_bound key records name (next_at key.secret records (bottom_of key.secret)) drawn message in
    let outcome = bound_trees key name chance 0 [] records in
    let none : records ++ [] ≡ records = append-nil records in
    let came : outcome ≡ drawing (concat chance.bound.fields) (bound_message (open_state records) key name (Some drawn) (Some message) acked) =
    ap (λ (t : Option (List ℕ) × Option (List ℕ) × Fate). drawing (concat chance.bound.fields) (bound_message (open_state records) key name t.0 t.1 t.2))
    (λ i. (is i, given i, acknowledged i)) in
    record {
      trees = [];
      bound = bound;
      count = refl;
      each = λ i entry draw at. absurd (cc);
      named = refl;
      leaf = ap (λ all. next_at key.secret all (bottom_of key.secret)) (sym none);
      randomizer = is;
      digest = ap (λ all. digest_at key all (length all) bound.leaf drawn message) (sym none);
      state = ap (λ (o : Outcome (List ℕ)). o.state) came ∙ ap (λ all. open_state (all ++ BoundRecord bound ∷ [])) (sym none);
      answer = ap (λ (o : Outcome (List ℕ)). o.answer) came
          ∙ ap (λ all. Ok (textbook_signature key (all ++ BoundRecord bound ∷ []) (length all) bound)) (sym none);
      drawn = ap (λ (o : Outcome (List ℕ)). o.drawn) came ∙ append-nil (concat chance.bound.fields);
      read = ap (λ (o : Outcome (List ℕ)). o.is_read) came;
      uncut = ap (λ (o : Outcome (List ℕ)). o.failed) came;
    }

-- the next Extend begins a tree of the level with these fields
pub extend_in : (key : Key) (trees : Trees) (records : List Record) (level : ℕ) (identifier seed randomizer : List ℕ)
    → has_identifier records identifier ≡ false
    → BeginsTree key records level (identifier ∷ seed ∷ randomizer ∷ []) (next_extend key trees records level identifier seed randomizer)
extend_in key trees records level identifier seed randomizer new =
    record { extend = _; is = refl; of_level = refl; leaf = refl; drawn = refl; new = new }

pub begins_along : (key : Key) (before before' : List Record) (level level' : ℕ) (fields fields' : List (List ℕ)) (entry entry' : Record) → before ≡ before'
    → level ≡ level' → fields ≡ fields' → entry ≡ entry' → BeginsTree key before level fields entry → BeginsTree key before' level' fields' entry'
begins_along key before before' level level' fields fields' entry entry' a b c d =
    subst (λ (t : List Record × ℕ × List (List ℕ) × Record). BeginsTree key t.0 t.1 t.2 t.3) (λ i. (a i, b i, c i, d i))

-- the first tree, and those after it
each_more : (key : Key) (below : ℕ) (records : List Record) (entry : Record) (trees : List Record) (draw : Draw) (draws : List Draw)
    → suc below ≤ bottom_of key.secret → BeginsTree key records (bottom_of key.secret - below) draw.fields entry
    → ((i : ℕ) (x : Record) (other : Draw) → slice_get trees i ≡ Some x → slice_get draws i ≡ Some other
    → BeginsTree key (records ++ entry ∷ [] ++ take i trees) (bottom_of key.secret - below + i + 1) other.fields x)
    → (i : ℕ) (x : Record) (other : Draw) → slice_get (entry ∷ trees) i ≡ Some x → slice_get (draw ∷ draws) i ≡ Some other
    → BeginsTree key (records ++ take i (entry ∷ trees)) (bottom_of key.secret - suc below + i + 1) other.fields x
each_more key below records entry trees draw draws inside first later zero x other at is =
    let same : entry ≡ x = cc in
    let drawn : draw ≡ other = cc in
    begins_along key records (records ++ []) (bottom_of key.secret - below) (bottom_of key.secret - suc below + 0 + 1) draw.fields other.fields entry x
    (sym (append-nil records)) (omega (arith, inside)) (ap (λ (d : Draw). d.fields) drawn) same first
each_more key below records entry trees draw draws inside first later (suc i) x other at is =
    begins_along key _ _ _ _ other.fields other.fields x x (append_assoc records (entry ∷ []) (take i trees)) (omega (arith, inside)) refl refl
    (later i x other at is)

-- one tree more before
tree_done : (key : Key) (trees : Trees) (name message : List ℕ) (chance : Chance) (below : ℕ) (draws : List Draw) (records : List Record)
    (identifier seed randomizer : List ℕ) (outcome : Outcome (List ℕ)) → suc below ≤ bottom_of key.secret → has_identifier records identifier ≡ false
    → (let entry = next_extend key trees records (bottom_of key.secret - below) identifier seed randomizer in
    IsDone key name message chance below draws (records ++ entry ∷ []) outcome
    → IsDone key name message chance (suc below) (whole_draw identifier seed randomizer acked ∷ draws) records
    (drawing identifier (drawing (seed ++ randomizer) outcome)))
tree_done key trees name message chance below draws records identifier seed randomizer outcome inside new done =
    let level = bottom_of key.secret - below in
    let entry = next_extend key trees records level identifier seed randomizer in
    let first = extend_in key trees records level identifier seed randomizer new in
    let all_records : records ++ entry ∷ [] ++ done.trees ≡ records ++ (entry ∷ done.trees) = append_assoc records (entry ∷ []) done.trees in
    record {
      trees = entry ∷ done.trees;
      bound = done.bound;
      count = ap suc done.count;
      each = each_more key below records entry done.trees (whole_draw identifier seed randomizer acked) draws inside first done.each;
      named = done.named;
      leaf = done.leaf ∙ ap (λ all. next_at key.secret all (bottom_of key.secret)) all_records;
      randomizer = done.randomizer;
      digest = done.digest ∙ ap (λ all. digest_at key all (length all) done.bound.leaf done.bound.randomizer message) all_records;
      state = done.state ∙ ap (λ all. open_state (all ++ BoundRecord done.bound ∷ [])) all_records;
      answer = done.answer ∙ ap (λ all. Ok (textbook_signature key (all ++ BoundRecord done.bound ∷ []) (length all) done.bound)) all_records;
      drawn = ap (λ bytes. identifier ++ ((seed ++ randomizer) ++ bytes)) done.drawn
          ∙ fields_drawn_before identifier seed randomizer (bytes_drawn draws) (concat chance.bound.fields);
      read = done.read;
      uncut = done.uncut;
    }

-- all records of the name
pub fine_bound_below : (key : Key) (name message drawn : List ℕ) (chance : Chance) (below : ℕ) (draws : List Draw) (records : List Record)
    → chance.given ≡ Some message → randomizer_of_fields key.secret chance.bound.fields ≡ Some drawn → chance.bound.fate ≡ acked
    → below ≤ bottom_of key.secret → (0 < below → (trees : Trees) × (trees_of key.secret ≡ Some trees))
    → length draws ≡ below → ((i : ℕ) (draw : Draw) → slice_get draws i ≡ Some draw → IsComplete tree_sizes draw)
    → IsFine key name message chance below draws records (bound_trees key name chance below draws records)
fine_bound_below key name message drawn chance zero [] records given is acknowledged inside trees count each =
    inr (bound_done key name message drawn chance records given is acknowledged)
fine_bound_below key name message drawn chance zero (draw ∷ draws) records given is acknowledged inside trees count each = absurd (omega (arith, count))
fine_bound_below key name message drawn chance (suc below) [] records given is acknowledged inside trees count each = absurd (omega (arith, count))
fine_bound_below key name message drawn chance (suc below) (draw ∷ draws) records given is acknowledged inside trees count each =
    let (made, are) = trees (omega arith) in
    let (identifier, seed, randomizer, same) = whole draw (each 0 draw refl) in
    let level = bottom_of key.secret - below in
    let first = whole_draw identifier seed randomizer acked in
    let next = bound_trees key name chance below draws in
    let entry = next_extend key made records level identifier seed randomizer in
    let done : (d : Draw) → Outcome (List ℕ) = λ d. extended (open_state records) key level (trees_of key.secret) d next in
    subst (λ d. IsFine key name message chance (suc below) (d ∷ draws) records (done d)) (sym same)
    (elim (cases_eq_bool (has_identifier records identifier)) as (λ u. IsFine key name message chance (suc below) (first ∷ draws) records (done first)) [
      | inl there ↦ inl (again_extended key level (trees_of key.secret) made are records identifier seed randomizer there next)
      | inr new ↦
          let came = extends_by key level (trees_of key.secret) made are records identifier seed randomizer acked new next in
          let rest = fine_bound_below key name message drawn chance below draws (records ++ entry ∷ []) given is acknowledged (omega (arith, inside))
          (λ some. (made, are)) (omega (arith, count)) (λ i x at. each (suc i) x at) in
          subst (IsFine key name message chance (suc below) (first ∷ draws) records) (sym came)
          (elim rest as (λ u. IsFine key name message chance (suc below) (first ∷ draws) records
          (drawing identifier (drawing (seed ++ randomizer) (next (records ++ entry ∷ []))))) [
            | inl again ↦ inl again
            | inr finished ↦
                inr (tree_done key made name message chance below draws records identifier seed randomizer (next (records ++ entry ∷ [])) inside new finished)
          ])
    ])
  where
    cases_eq_bool : (test : Bool) → (test ≡ true) ⊎ (test ≡ false)
    cases_eq_bool true = inl refl
    cases_eq_bool false = inr refl

pub randomizer_drawn : (secret : Secret) (fields : List (List ℕ)) → length fields ≡ length (randomizer_sizes secret)
    → (drawn : List ℕ) × (randomizer_of_fields secret fields ≡ Some drawn)
randomizer_drawn (Lms secret) [] count = absurd (omega (arith, count))
randomizer_drawn (Lms secret) (a ∷ []) count = (a, refl)
randomizer_drawn (Lms secret) (a ∷ b ∷ rest) count = absurd (omega (arith, count))
randomizer_drawn (Hss levels identifier seed) [] count = absurd (omega (arith, count))
randomizer_drawn (Hss levels identifier seed) (a ∷ []) count = (a, refl)
randomizer_drawn (Hss levels identifier seed) (a ∷ b ∷ rest) count = absurd (omega (arith, count))
randomizer_drawn (Xmss secret) [] count = (_, refl)
randomizer_drawn (Xmss secret) (a ∷ rest) count = absurd (omega (arith, count))
