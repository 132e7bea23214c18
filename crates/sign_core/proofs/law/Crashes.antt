-- What a crash at any moment of an event leaves, an event leaves whose append is cut there.
use Rattle.std.proofs.Common.{drop, ◌≡◌, ◌∙◌, refl, sym, ap, subst, ℕ, zero, suc, ◌+◌, ◌-◌, ◌≤◌, ◌⊎◌, inl, inr, Bool}
use Rattle.std.proofs.Common.{true, false, List, [], ◌∷◌, ◌++◌, length, Option, Some, None, Result, Ok, Err, append_assoc, append-nil, arith}
use Rattle.std.specs.Prelude.{if◌then◌else◌, nat_le, nat_lt, not, take}
use Rattle.std.specs.List.{AllByRecursion, concat}
use Rattle.typecodes.specs.declared.spec.Spec.{Spec}
use Rattle.state_file.specs.Laws.{bottom_of}
use Rattle.state_file.specs.declared.record.Bound.{Bound}
use Rattle.state_file.specs.declared.record.Key.{Key}
use Rattle.state_file.specs.declared.record.Record.{Record}
use Rattle.state_file.specs.declared.record.Record.TheVariants.{Key as KeyRecord, Retire}
use Rattle.state_file.specs.declared.record.Secret.{Secret}
use Rattle.sign_core.specs.declared.fault.SignFault.{SignFault}
use Rattle.sign_core.specs.declared.fault.SignFault.TheVariants.{StoreFailed}
use Rattle.sign_core.specs.declared.key.AnyPublic.{AnyPublic}
use Rattle.sign_core.specs.Records.{are_same, binding_at, deepest, has_identifier, has_moved, the_key, leaves_of_current, next_at, wanted_count, is_long}
use Rattle.sign_core.specs.Textbook.{Trees, damaged_at, digest_at, any_public_of, current_at, trees_of}
use Rattle.sign_core.specs.World.{Chance, Creation, Draw, Fate, Outcome, State, acked, answered, appended}
use Rattle.sign_core.proofs.steps.Cases.{begun, bound_level, bound_sound}
use Rattle.sign_core.specs.World.{closed_state, created, drawing, reading}
use Rattle.sign_core.proofs.steps.Cases.{bound_message, created_load}
use Rattle.sign_core.specs.World.{cut_new, cut_old, first_draw, new_key, no_memory, open_state}
use Rattle.sign_core.specs.inner.Cases.{extended, bound_trees}
use Rattle.sign_core.proofs.steps.Cases.{extended_identifier, extended_seed}
use Rattle.sign_core.specs.World.{randomizer_of_fields}
use Rattle.sign_core.proofs.steps.Cases.{published}
use Rattle.sign_core.specs.World.{refused, secret_of_fields}
use Rattle.sign_core.specs.inner.Cases.{requested_binding}
use Rattle.sign_core.proofs.steps.Cases.{repeated, repeated_sound, requested_key, retired_key}
use Rattle.sign_core.specs.Cuts.{IsBeginning, IsLeftBy, StopLaw, reached}
use Rattle.sign_core.specs.World.{World, create, newly_handed, request, requested, retire, retired, stop}
use Rattle.sign_core.proofs.records.Parts.{IsTreeDraw}

-- the append was cut, and left these records
abbrev pub IsCutAt : {A : Type 0} → Outcome A → (left : List Record) → Type 0
IsCutAt outcome left = (outcome.state ≡ closed_state left) × (outcome.answer ≡ Err StoreFailed)

-- one of these outcomes was cut and left these records, whatever the draws of trees that it doesn't use
abbrev pub OneCut : {A I : Type 0} → (outcomes : I → List Draw → Outcome A) → (left : List Record) → Type 0
OneCut {I = I} outcomes left = (i : I) × ((unused : List Draw) → IsCutAt (outcomes i unused) left)

-- The outcome reaches the records and more, and another one leaves each beginning that is longer than the records.
pub record Stops {A : Type 0} (records : List Record) (outcome : Outcome A) (ways : List Record → Type 0) : Type 0 where
  pub more : List Record
  pub reaches : reached outcome ≡ records ++ more
  pub each : (first rest : List Record) → more ≡ first ++ rest → (first ≡ []) ⊎ ways (records ++ first)

nothing_first : (first rest : List Record) → [] ≡ first ++ rest → first ≡ []
nothing_first [] rest is = refl
nothing_first (entry ∷ first) rest is = absurd (cc)

stops_none : {A : Type 0} (records : List Record) (outcome : Outcome A) (ways : List Record → Type 0) → reached outcome ≡ records ++ []
    → Stops records outcome ways
stops_none records outcome ways is = record { more = []; reaches = is; each = λ first rest none. inl (nothing_first first rest none) }

refuses : {A : Type 0} (state : State) (fault : SignFault) (ways : List Record → Type 0) → Stops {A = A} state.records (refused state fault) ways
refuses state fault ways = stops_none state.records (refused state fault) ways refl

answers : {A : Type 0} (state : State) (a : A) (ways : List Record → Type 0) → Stops state.records (answered state a) ways
answers state a ways = stops_none state.records (answered state a) ways refl

stops_by : {A : Type 0} (records : List Record) (outcome : Outcome A) (ways others : List Record → Type 0)
    → ((left : List Record) → ways left → others left) → Stops records outcome ways → Stops records outcome others
stops_by records outcome ways others leads stops = record {
  more = stops.more;
  reaches = stops.reaches;
  each = λ first rest are. elim (stops.each first rest are) as (λ u. (first ≡ []) ⊎ others (records ++ first)) [
    | inl none ↦ inl none
    | inr way ↦ inr (leads (records ++ first) way)
  ];
}

-- one record, and then more
longer : (records : List Record) (entry : Record) (more : List Record) (ways later : List Record → Type 0)
    → ways (records ++ entry ∷ []) → ((left : List Record) → later left → ways left)
    → ((first rest : List Record) → more ≡ first ++ rest → (first ≡ []) ⊎ later ((records ++ entry ∷ []) ++ first))
    → (first rest : List Record) → entry ∷ more ≡ first ++ rest → (first ≡ []) ⊎ ways (records ++ first)
longer records entry more ways later ended leads each [] rest are = inl refl
longer records entry more ways later ended leads each (x ∷ first) rest are =
    let same : entry ≡ x = cc in
    let others : more ≡ first ++ rest = cc in
    inr (elim (each first rest others) as (λ u. ways (records ++ x ∷ first)) [
      | inl none ↦ subst (λ l. ways (records ++ x ∷ l)) (sym none) (subst (λ e. ways (records ++ e ∷ [])) same ended)
      | inr way ↦ subst (λ e. ways (records ++ e ∷ first)) same (subst ways (append_assoc records (entry ∷ []) first) (leads _ way))
    ])

-- an append with another fate was cut, or what comes after it
abbrev Appended : {A I : Type 0} → I → State → Record → (I → List Draw → List Record → Outcome A) → List Record → Type 0
Appended {I = I} i state entry nexts = OneCut {I = Fate × I} (λ i unused. appended state entry i.0 (nexts i.1 unused))

ended : {A I : Type 0} (i : I) (state : State) (entry : Record) (nexts : I → List Draw → List Record → Outcome A)
    → Appended i state entry nexts (state.records ++ entry ∷ [])
ended i state entry nexts = ((cut_new, i), λ unused. (refl, refl))

stops_append : {A I : Type 0} (i : I) (state : State) (entry : Record) (fate : Fate) (next : List Record → Outcome A)
    (nexts : I → List Draw → List Record → Outcome A)
    → ((records : List Record) → Stops records (next records) (OneCut (λ i unused. nexts i unused records)))
    → Stops state.records (appended state entry fate next) (Appended i state entry nexts)
stops_append {A = A} {I = I} i state entry acked next nexts later =
    let stops = later (state.records ++ entry ∷ []) in record {
      more = entry ∷ stops.more;
      reaches = stops.reaches ∙ append_assoc state.records (entry ∷ []) stops.more;
      each = longer state.records entry stops.more (Appended i state entry nexts) (OneCut (λ i unused. nexts i unused (state.records ++ entry ∷ [])))
          (ended i state entry nexts) (λ left way. ((acked, way.0), way.1)) stops.each;
    }
stops_append i state entry cut_old next nexts later = record {
  more = entry ∷ [];
  reaches = refl;
  each = longer state.records entry [] (Appended i state entry nexts) (λ left. ⊥) (ended i state entry nexts) (λ left way. absurd way)
      (λ first rest none. inl (nothing_first first rest none));
}
stops_append i state entry cut_new next nexts later = record {
  more = entry ∷ [];
  reaches = refl;
  each = longer state.records entry [] (Appended i state entry nexts) (λ left. ⊥) (ended i state entry nexts) (λ left way. absurd way)
      (λ first rest none. inl (nothing_first first rest none));
}
stops_append i state entry no_memory next nexts later = refuses state _ _

drawn_stops : {A : Type 0} {records : List Record} {ways : List Record → Type 0} (bytes : List ℕ) (outcome : Outcome A)
    → Stops records outcome ways → Stops records (drawing bytes outcome) ways
drawn_stops bytes outcome stops = record { more = stops.more; reaches = stops.reaches; each = stops.each }

read_stops : {A : Type 0} {records : List Record} {ways : List Record → Type 0} (outcome : Outcome A)
    → Stops records outcome ways → Stops records (reading outcome) ways
read_stops outcome stops = record { more = stops.more; reaches = stops.reaches; each = stops.each }

stops_choice : {A I : Type 0} (records : List Record) (test : Bool) (x y : Outcome A) (xs ys : I → List Draw → Outcome A)
    → Stops records x (OneCut xs) → Stops records y (OneCut ys)
    → Stops records (if test then x else y) (OneCut (λ i unused. if test then xs i unused else ys i unused))
stops_choice records true x y xs ys first second = first
stops_choice records false x y xs ys first second = second

-- ---- create

abbrev fated : Creation → Fate → Creation
fated chance fate = record { version = chance.version; failed_load = chance.failed_load; fields = chance.fields; has_room = chance.has_room; fate = fate }

stops_published : (records : List Record) (public : Option AnyPublic) (ways : List Record → Type 0) → Stops records (published records public) ways
stops_published records (Some public) ways = answers (open_state records) public ways
stops_published records None ways = refuses (closed_state records) _ ways

stops_begun : (state : State) (chance : Creation) (secret : Option Secret)
    → Stops state.records (begun state chance secret) (OneCut {I = Fate × Unit {0}} (λ i unused. begun state (fated chance i.0) secret))
stops_begun state chance None = refuses state _ _
stops_begun state chance (Some secret) = stops_choice {I = Fate × Unit {0}} state.records (not chance.has_room) _ _ _ _
    (refuses state _ _)
    (stops_append tt state (KeyRecord (new_key chance.version secret)) chance.fate _ (λ i unused records. published records (any_public_of (new_key chance.version secret)))
    (λ records. stops_published records (any_public_of (new_key chance.version secret)) _))

stops_after : (failed : Option SignFault) (state : State) (spec : Spec) (chance : Creation)
    → Stops state.records (created_load failed state spec chance)
    (OneCut {I = Fate × Unit {0}} (λ i unused. created_load failed state spec (fated chance i.0)))
stops_after (Some fault) state spec chance = refuses state _ _
stops_after None state spec chance = stops_choice {I = Fate × Unit {0}} state.records (nat_le 1 (length state.records)) _ _ _ _
    (refuses state _ _)
    (drawn_stops (concat chance.fields) _ (stops_begun state chance (secret_of_fields spec chance.fields)))

-- ---- retire

stops_retired : (limit : ℕ) (state : State) (upto : ℕ) (fate : Fate) (found : Option Key)
    → Stops state.records (retired_key limit state upto fate found) (OneCut {I = Fate × Unit {0}} (λ i unused. retired_key limit state upto i.0 found))
stops_retired limit state upto fate None = refuses state _ _
stops_retired limit state upto fate (Some key) = stops_choice {I = Fate × Unit {0}} state.records (not state.is_open) _ _ _ _
    (refuses state _ _)
    (stops_choice {I = Fate × Unit {0}} state.records (has_moved state.records) _ _ _ _ (refuses state _ _)
    (stops_choice {I = Fate × Unit {0}} state.records (nat_lt (leaves_of_current key.secret state.records (bottom_of key.secret)) upto) _ _ _ _
    (refuses state _ _)
    (stops_choice {I = Fate × Unit {0}} state.records (nat_le upto (next_at key.secret state.records (bottom_of key.secret))) _ _ _ _
    (answers state tt _)
    (stops_choice {I = Fate × Unit {0}} state.records (nat_lt limit (length state.records + 1)) _ _ _ _ (refuses state _ _)
    (stops_append tt state (Retire upto) fate _ (λ i unused records. answered (open_state records) tt)
    (λ records. answers (open_state records) tt _))))))

-- ---- requests

-- the other draws of a request, and what became of its binding
record Others : Type 0 where
  trees : List Draw
  all : AllByRecursion IsTreeDraw trees
  fate : Fate

abbrev other_chance : Chance → Fate → (trees : List Draw) → Chance
other_chance chance fate trees = record {
  has_room = chance.has_room;
  trees = trees;
  bound = record { fields = chance.bound.fields; fate = fate };
  given = chance.given;
}

no_others : Others
no_others = record { trees = []; all = tt; fate = acked }

stops_bound : (state : State) (key : Key) (name : List ℕ) (randomizer given : Option (List ℕ)) (fate : Fate)
    → Stops state.records (bound_message state key name randomizer given fate)
    (OneCut {I = Fate × Unit {0}} (λ i unused. bound_message state key name randomizer given i.0))
stops_bound state key name None given fate = refuses state _ _
stops_bound state key name (Some randomizer) None fate = read_stops _ (refuses state _ _)
stops_bound state key name (Some randomizer) (Some message) fate =
    read_stops _ (stops_append tt state _ fate _ (λ i unused records. answered (open_state records) _)
    (λ records. answers (open_state records) _ _))

stops_seed : {I : Type 0} (i : I) (state : State) (trees : Trees) (level leaf : ℕ) (identifier : List ℕ) (fields : List (List ℕ)) (fate : Fate)
    (next : List Record → Outcome (List ℕ)) (nexts : I → List Draw → List Record → Outcome (List ℕ))
    → ((records : List Record) → Stops records (next records) (OneCut (λ i unused. nexts i unused records)))
    → Stops state.records (extended_seed state trees level leaf identifier fields fate next)
    (OneCut {I = Fate × I} (λ i unused. extended_seed state trees level leaf identifier fields i.0 (nexts i.1 unused)))
stops_seed i state trees level leaf identifier [] fate next nexts later = drawn_stops (concat []) _ (refuses state _ _)
stops_seed i state trees level leaf identifier (seed ∷ []) fate next nexts later = drawn_stops (concat (seed ∷ [])) _ (refuses state _ _)
stops_seed i state trees level leaf identifier (seed ∷ randomizer ∷ []) fate next nexts later =
    drawn_stops (seed ++ randomizer) _ (stops_append i state _ fate next nexts later)
stops_seed i state trees level leaf identifier (seed ∷ randomizer ∷ more ∷ rest) fate next nexts later =
    drawn_stops (concat (seed ∷ randomizer ∷ more ∷ rest)) _ (refuses state _ _)

stops_identifier : {I : Type 0} (i : I) (state : State) (trees : Trees) (level leaf : ℕ) (fields : List (List ℕ)) (fate : Fate)
    (next : List Record → Outcome (List ℕ)) (nexts : I → List Draw → List Record → Outcome (List ℕ))
    → ((records : List Record) → Stops records (next records) (OneCut (λ i unused. nexts i unused records)))
    → Stops state.records (extended_identifier state trees level leaf fields fate next)
    (OneCut {I = Fate × I} (λ i unused. extended_identifier state trees level leaf fields i.0 (nexts i.1 unused)))
stops_identifier i state trees level leaf [] fate next nexts later = refuses state _ _
stops_identifier {I = I} i state trees level leaf (identifier ∷ fields) fate next nexts later =
    drawn_stops identifier _ (stops_choice {I = Fate × I} state.records (has_identifier state.records identifier) _ _ _ _ (refuses state _ _)
    (stops_seed i state trees level leaf identifier fields fate next nexts later))

stops_extended : {I : Type 0} (i : I) (state : State) (key : Key) (level : ℕ) (trees : Option Trees) (draw : Draw)
    (next : List Record → Outcome (List ℕ)) (nexts : I → List Draw → List Record → Outcome (List ℕ))
    → ((records : List Record) → Stops records (next records) (OneCut (λ i unused. nexts i unused records)))
    → Stops state.records (extended state key level trees draw next)
    (OneCut {I = Fate × I} (λ i unused. extended state key level trees (record { fields = draw.fields; fate = i.0 }) (nexts i.1 unused)))
stops_extended i state key level None draw next nexts later = refuses state _ _
stops_extended i state key level (Some trees) draw next nexts later =
    stops_identifier i state trees level (next_at key.secret state.records (level - 1)) draw.fields draw.fate next nexts later

all_first : (draws : List Draw) → AllByRecursion IsTreeDraw draws → IsTreeDraw (first_draw draws)
all_first [] all = tt
all_first (draw ∷ draws) all = all.0

all_later : (draws : List Draw) → AllByRecursion IsTreeDraw draws → AllByRecursion IsTreeDraw (drop 1 draws)
all_later [] all = tt
all_later (draw ∷ draws) all = all.1

stops_bound_below : (key : Key) (name : List ℕ) (chance : Chance) (below : ℕ) (draws : List Draw) (all : AllByRecursion IsTreeDraw draws) (records : List Record)
    → Stops records (bound_trees key name chance below draws records)
    (OneCut {I = Others} (λ o unused. bound_trees key name (other_chance chance o.fate unused) below o.trees records))
stops_bound_below key name chance zero draws all records =
    drawn_stops (concat chance.bound.fields) _ (stops_by records _ _ _ (λ left way. (record { trees = []; all = tt; fate = way.0.0 }, way.1))
    (stops_bound (open_state records) key name (randomizer_of_fields key.secret chance.bound.fields) chance.given chance.bound.fate))
stops_bound_below key name chance (suc below) draws all records =
    stops_by records _ _ _
    (λ left way. (
      record {
        trees = record { fields = (first_draw draws).fields; fate = way.0.0 } ∷ way.0.1.trees;
        all = (all_first draws all, way.0.1.all);
        fate = way.0.1.fate;
      },
      way.1,
    ))
    (stops_extended {I = Others} no_others (open_state records) key (bottom_of key.secret - below) (trees_of key.secret) (first_draw draws)
    (bound_trees key name chance below (drop 1 draws)) (λ o unused. bound_trees key name (other_chance chance o.fate unused) below o.trees)
    (stops_bound_below key name chance below (drop 1 draws) (all_later draws all)))

stops_sound : (state : State) (key : Key) (name : List ℕ) (chance : Chance) → AllByRecursion IsTreeDraw chance.trees → (level : ℕ) (damaged : Option ℕ)
    → Stops state.records (bound_sound state key name chance level damaged)
    (OneCut {I = Others} (λ o unused. bound_sound state key name (other_chance chance o.fate o.trees) level damaged))
stops_sound state key name chance all level (Some slot) = refuses state _ _
stops_sound state key name chance all level None =
    stops_by state.records _ _ _ (λ left way. (way.0, λ unused. way.1 way.0.trees))
    (stops_bound_below key name chance (bottom_of key.secret - level) chance.trees all state.records)

stops_level : (limit : ℕ) (state : State) (key : Key) (name : List ℕ) (chance : Chance) → AllByRecursion IsTreeDraw chance.trees → (level : Option ℕ)
    → Stops state.records (bound_level limit state key name chance level)
    (OneCut {I = Others} (λ o unused. bound_level limit state key name (other_chance chance o.fate o.trees) level))
stops_level limit state key name chance all None = refuses state _ _
stops_level limit state key name chance all (Some level) =
    stops_choice {I = Others} state.records (nat_lt limit (length state.records + wanted_count key.secret level)) _ _ _ _ (refuses state _ _)
    (stops_choice {I = Others} state.records (not chance.has_room) _ _ _ _ (refuses state _ _)
    (stops_sound state key name chance all level (damaged_at key level state.records (current_at level state.records (length state.records)))))

stops_repeated_sound : (state : State) (key : Key) (k : ℕ) (bound : Bound) (damaged : Option ℕ) (ways : List Record → Type 0)
    → Stops state.records (repeated_sound state key k bound damaged) ways
stops_repeated_sound state key k bound (Some slot) ways = refuses state _ _
stops_repeated_sound state key k bound None ways = answers state _ _

stops_repeated : (state : State) (key : Key) (k : ℕ) (bound : Bound) (chance : Chance) (given : Option (List ℕ))
    → Stops state.records (repeated state key k bound chance given)
    (OneCut {I = Others} (λ o unused. repeated state key k bound (other_chance chance o.fate o.trees) given))
stops_repeated state key k bound chance None = read_stops _ (refuses state _ _)
stops_repeated state key k bound chance (Some message) = read_stops _
    (stops_choice {I = Others} state.records (not (are_same (digest_at key state.records k bound.leaf bound.randomizer message) bound.digest)) _ _ _ _
    (refuses state _ _)
    (stops_choice {I = Others} state.records (not chance.has_room) _ _ _ _ (refuses state _ _)
    (stops_repeated_sound state key k bound _ _)))

stops_of : (limit : ℕ) (state : State) (key : Key) (name : List ℕ) (chance : Chance) → AllByRecursion IsTreeDraw chance.trees → (found : Option (ℕ × Bound))
    → Stops state.records (requested_binding limit state key name chance found)
    (OneCut {I = Others} (λ o unused. requested_binding limit state key name (other_chance chance o.fate o.trees) found))
stops_of limit state key name chance all (Some (k, bound)) = stops_repeated state key k bound chance chance.given
stops_of limit state key name chance all None = stops_choice {I = Others} state.records (is_long key name) _ _ _ _ (refuses state _ _)
    (stops_level limit state key name chance all (deepest key.secret state.records))

stops_key : (limit : ℕ) (state : State) (name : List ℕ) (chance : Chance) → AllByRecursion IsTreeDraw chance.trees → (found : Option Key)
    → Stops state.records (requested_key limit state name chance found)
    (OneCut {I = Others} (λ o unused. requested_key limit state name (other_chance chance o.fate o.trees) found))
stops_key limit state name chance all None = refuses state _ _
stops_key limit state name chance all (Some key) = stops_choice {I = Others} state.records (not state.is_open) _ _ _ _ (refuses state _ _)
    (stops_choice {I = Others} state.records (has_moved state.records) _ _ _ _ (refuses state _ _)
    (stops_of limit state key name chance all (binding_at state.records name)))

-- ---- the law

halves : (count : ℕ) (more : List Record) → (first : List Record) × (rest : List Record) × (take count more ≡ first) × (more ≡ first ++ rest)
halves zero more = ([], more, refl, refl)
halves (suc count) [] = ([], [], refl, refl)
halves (suc count) (x ∷ more) = let (first, rest, is, are) = halves count more in (x ∷ first, rest, ap (λ l. x ∷ l) is, ap (λ l. x ∷ l) are)

beyond : (records more : List Record) (count : ℕ) → length records ≤ count
    → (first : List Record) × (rest : List Record) × (take count (records ++ more) ≡ records ++ first) × (more ≡ first ++ rest)
beyond [] more count enough = halves count more
beyond (x ∷ records) more zero enough = absurd (omega (arith, enough))
beyond (x ∷ records) more (suc count) enough =
    let (first, rest, is, are) = beyond records more count (omega (arith, enough)) in (first, rest, ap (λ l. x ∷ l) is, are)

pub left_by_stop : (limit : ℕ) (world : World) (left : List Record) → left ≡ world.state.records → IsLeftBy limit world left
left_by_stop limit world left is =
    record { events = stop ∷ []; possible = (tt, tt); leads = ap (λ l. record { state = closed_state l; handed = world.handed }) (sym is) }

-- what crashes leave, where each way is one event
contents_left : {A : Type 0} (limit : ℕ) (world : World) (outcome : Outcome A) (ways : List Record → Type 0) (left : List Record)
    → Stops world.state.records outcome ways → ((all : List Record) → ways all → IsLeftBy limit world all)
    → IsBeginning (length world.state.records) (reached outcome) left → IsLeftBy limit world left
contents_left limit world outcome ways left stops leads begins =
    let (first, rest, is, are) = beyond world.state.records stops.more begins.count begins.enough in
    let whole = begins.beginning ∙ ap (take begins.count) stops.reaches ∙ is in
    elim (stops.each first rest are) as (λ u. IsLeftBy limit world left) [
      | inl none ↦ left_by_stop limit world left (whole ∙ ap (λ l. world.state.records ++ l) none ∙ append-nil world.state.records)
      | inr way ↦ subst (IsLeftBy limit world) (sym whole) (leads (world.state.records ++ first) way)
    ]

nothing_handed : (name : List ℕ) (given : Option (List ℕ)) (answer : Result (List ℕ) SignFault) → answer ≡ Err StoreFailed
    → newly_handed name given answer ≡ []
nothing_handed name (Some message) (Ok signature) is = absurd (cc)
nothing_handed name None (Ok signature) is = refl
nothing_handed name (Some message) (Err fault) is = refl
nothing_handed name None (Err fault) is = refl

pub stop_law : StopLaw
stop_law = record {
  creates = λ limit world spec chance left can begins.
      contents_left limit world (created world.state spec chance) _ left (stops_after chance.failed_load world.state spec chance)
      (λ all way. record {
        events = create spec (fated chance way.0.0) ∷ [];
        possible = (can, tt);
        leads = ap (λ s. record { state = s; handed = world.handed }) (way.1 []).0;
      }) begins;
  requests = λ limit world name chance left can begins.
      contents_left limit world (requested limit world.state name chance) _ left (stops_key limit world.state name chance can.1.trees (the_key world.state.records))
      (λ all way. record {
        events = request name (other_chance chance way.0.fate way.0.trees) ∷ [];
        possible = ((can.0, record { trees = way.0.all; bound = can.1.bound }), tt);
        leads = ap (λ s. record {
          state = s;
          handed = world.handed ++ newly_handed name chance.given (requested limit world.state name (other_chance chance way.0.fate way.0.trees)).answer;
        }) (way.1 []).0
            ∙ ap (λ l. record { state = closed_state all; handed = l })
            (ap (λ l. world.handed ++ l) (nothing_handed name chance.given _ (way.1 []).1) ∙ append-nil world.handed);
      }) begins;
  retires = λ limit world upto fate left begins.
      contents_left limit world (retired limit world.state upto fate) _ left (stops_retired limit world.state upto fate (the_key world.state.records))
      (λ all way. record {
        events = retire upto way.0.0 ∷ [];
        possible = (tt, tt);
        leads = ap (λ s. record { state = s; handed = world.handed }) (way.1 []).0;
      }) begins;
}
