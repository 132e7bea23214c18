-- What a request draws: no more than its records need, and 24 comes only after an I that stands in the records. And
-- what it signs was read.
use Rattle.std.proofs.Common.{drop, ◌≡◌, ◌≢◌, ◌∙◌, refl, sym, ap, subst, ℕ, zero, suc, ◌+◌, ◌-◌, ◌*◌, ◌≤◌, List, []}
use Rattle.std.proofs.Common.{◌∷◌, ◌++◌, append-nil, length, length-append, take, Option, Some, None, Ok, Err, Bool}
use Rattle.std.proofs.Common.{true, false, arith}
use Rattle.std.specs.Prelude.{IsSome, if◌then◌else◌, nat_lt, not, slice_index_or, sum}
use Rattle.std.specs.List.{AllByRecursion, concat}
use Rattle.std.proofs.lemmas.List.{length_push}
use Rattle.std.proofs.lemmas.List.Sums.{sum_by-cons}
use Rattle.state_file.specs.Laws.{bottom_of}
use Rattle.state_file.specs.declared.record.Bound.{Bound}
use Rattle.state_file.specs.declared.record.Key.{Key}
use Rattle.state_file.specs.declared.record.Record.{Record}
use Rattle.sign_core.specs.declared.fault.SignFault.{SignFault}
use Rattle.sign_core.specs.declared.fault.SignFault.TheVariants.{Changed, Damaged, Exhausted, LedgerFull, MessageRead, OutOfMemory, LongName}
use Rattle.sign_core.specs.declared.fault.SignFault.TheVariants.{RandomRepeated, Stopped}
use Rattle.sign_core.specs.declared.fault.SignFault.TheVariants.{Moved as MovedAway}
use Rattle.sign_core.specs.Records.{are_same, binding_at, deepest, has_identifier, has_moved, the_key, next_at, wanted_count, is_long}
use Rattle.sign_core.specs.AfterRefusal.{WantsRecords}
use Rattle.sign_core.specs.Events.{AreDrawsOf, AreFields, randomizer_sizes}
use Rattle.sign_core.specs.Requests.{DrewAgain, bytes_drawn}
use Rattle.sign_core.specs.Events.{tree_sizes}
use Rattle.sign_core.specs.World.{Chance, Draw, Fate, Outcome, State, acked, answered, appended}
use Rattle.sign_core.proofs.steps.Cases.{bound_level, bound_sound, bound_message}
use Rattle.sign_core.specs.World.{cut_new, cut_old, drawing, extend_record}
use Rattle.sign_core.specs.inner.Cases.{extended}
use Rattle.sign_core.proofs.steps.Cases.{extended_identifier, extended_seed}
use Rattle.sign_core.specs.World.{first_draw, no_memory, open_state}
use Rattle.sign_core.specs.inner.Cases.{bound_trees}
use Rattle.sign_core.specs.World.{randomizer_of_fields, reading, refused, requested}
use Rattle.sign_core.specs.inner.Cases.{requested_binding}
use Rattle.sign_core.proofs.steps.Cases.{repeated, repeated_sound, requested_key}
use Rattle.sign_core.specs.Textbook.{Trees, damaged_at, digest_at, lms_secret, current_at, trees_of}
use Rattle.sign_core.proofs.steps.NewRecords.{fields_drawn_before}
use Rattle.sign_core.proofs.law.KeptByEvents.{kept_choice}
use Rattle.sign_core.proofs.law.KeptByRequests.{first_drawn, later_drawn}
use Rattle.sign_core.proofs.records.Parts.{IsTreeDraw}

-- ---- what comes before the new records

-- Q holds of refusals that aren't 24.
abbrev pub IsOfRefusals : (Outcome (List ℕ) → Type 0) → State → Type 0
IsOfRefusals Q state = (fault : SignFault) → fault ≢ RandomRepeated → Q (refused state fault)

-- .. and of answers, also once the message is read
pub record IsSettled (Q : Outcome (List ℕ) → Type 0) (state : State) : Type 0 where
  pub refused_for : IsOfRefusals Q state
  pub gives : (signature : List ℕ) → Q (answered state signature)
  pub read : (outcome : Outcome (List ℕ)) → Q outcome → Q (reading outcome)

module _ (Q : Outcome (List ℕ) → Type 0) (state : State) (chance : Chance) (settled : IsSettled Q state) where
  settled_repeated_sound : (key : Key) (k : ℕ) (bound : Bound) (damaged : Option ℕ) → Q (repeated_sound state key k bound damaged)
  settled_repeated_sound key k bound (Some slot) = settled.refused_for (Damaged slot) (λ e. cc)
  settled_repeated_sound key k bound None = settled.gives _

  pub settled_repeated : (key : Key) (k : ℕ) (bound : Bound) (given : Option (List ℕ)) → Q (repeated state key k bound chance given)
  settled_repeated key k bound None = settled.read _ (settled.refused_for MessageRead (λ e. cc))
  settled_repeated key k bound (Some message) = settled.read _
      (kept_choice Q (not (are_same (digest_at key state.records k bound.leaf bound.randomizer message) bound.digest)) _ _
      (λ other. settled.refused_for Changed (λ e. cc))
      (λ same. kept_choice Q (not chance.has_room) _ _ (λ none. settled.refused_for OutOfMemory (λ e. cc))
      (λ room. settled_repeated_sound key k bound _)))

module _ (Q : Outcome (List ℕ) → Type 0) (limit : ℕ) (state : State) (name : List ℕ) (chance : Chance) (refuses : IsOfRefusals Q state) where
  settled_sound : (key : Key) (level : ℕ) (damaged : Option ℕ) → Q (bound_trees key name chance (bottom_of key.secret - level) chance.trees state.records)
      → Q (bound_sound state key name chance level damaged)
  settled_sound key level (Some slot) rest = refuses (Damaged slot) (λ e. cc)
  settled_sound key level None rest = rest

  is_true : (b : Bool) → not b ≡ false → b ≡ true
  is_true true is = refl
  is_true false is = absurd (cc)

  settled_level : (key : Key) (found : Option ℕ) → deepest key.secret state.records ≡ found
      → ((level : ℕ) → deepest key.secret state.records ≡ Some level → chance.has_room ≡ true
      → Q (bound_trees key name chance (bottom_of key.secret - level) chance.trees state.records))
      → Q (bound_level limit state key name chance found)
  settled_level key None is rest = refuses Exhausted (λ e. cc)
  settled_level key (Some level) is rest =
      kept_choice Q (nat_lt limit (length state.records + wanted_count key.secret level)) _ _ (λ full. refuses LedgerFull (λ e. cc))
      (λ fits. kept_choice Q (not chance.has_room) _ _ (λ none. refuses OutOfMemory (λ e. cc))
      (λ room. settled_sound key level
      (damaged_at key level state.records (current_at level state.records (length state.records))) (rest level is (is_true chance.has_room room))))

  settled_of : (key : Key) (found : Option (ℕ × Bound)) → binding_at state.records name ≡ found
      → ((k : ℕ) (bound : Bound) → binding_at state.records name ≡ Some (k, bound) → Q (repeated state key k bound chance chance.given))
      → (binding_at state.records name ≡ None → (level : ℕ) → deepest key.secret state.records ≡ Some level → chance.has_room ≡ true
      → Q (bound_trees key name chance (bottom_of key.secret - level) chance.trees state.records))
      → Q (requested_binding limit state key name chance found)
  settled_of key (Some (k, bound)) is again rest = again k bound is
  settled_of key None is again rest = kept_choice Q (is_long key name) _ _ (λ long. refuses LongName (λ e. cc))
      (λ short. settled_level key (deepest key.secret state.records) refl (rest is))

  -- a new name's records come after memory was granted
  pub settled_room : (found : Option Key) → the_key state.records ≡ found
      → ((key : Key) (k : ℕ) (bound : Bound) → binding_at state.records name ≡ Some (k, bound) → Q (repeated state key k bound chance chance.given))
      → ((key : Key) (level : ℕ) → WantsRecords state name key level → chance.has_room ≡ true
      → Q (bound_trees key name chance (bottom_of key.secret - level) chance.trees state.records))
      → Q (requested_key limit state name chance found)
  settled_room None keyed again rest = refuses Stopped (λ e. cc)
  settled_room (Some key) keyed again rest =
      kept_choice Q (not state.is_open) _ _ (λ closed. refuses Stopped (λ e. cc))
      (λ open_now. kept_choice Q (has_moved state.records) _ _ (λ moved. refuses MovedAway (λ e. cc))
      (λ stays. settled_of key (binding_at state.records name) refl (again key)
      (λ unbound level is. rest key level (record {
        active = record { is_open = is_true state.is_open open_now; stays = stays; keyed = keyed };
        unbound = unbound;
        level_is = is;
      }))))

  pub settled_key : (found : Option Key) → the_key state.records ≡ found
      → ((key : Key) (k : ℕ) (bound : Bound) → binding_at state.records name ≡ Some (k, bound) → Q (repeated state key k bound chance chance.given))
      → ((key : Key) (level : ℕ) → WantsRecords state name key level
      → Q (bound_trees key name chance (bottom_of key.secret - level) chance.trees state.records))
      → Q (requested_key limit state name chance found)
  settled_key found keyed again rest = settled_room found keyed again (λ key level wants room. rest key level wants)

-- ---- 24

-- Where the answer is 24, an I was drawn again.
abbrev RepeatsDrawn : (before : List Record) → (draws : List Draw) → Outcome (List ℕ) → Type 0
RepeatsDrawn before draws outcome =
    outcome.answer ≡ Err RandomRepeated → DrewAgain before draws outcome.state.records outcome.drawn

repeats_bound : (state : State) (key : Key) (name : List ℕ) (randomizer given : Option (List ℕ)) (fate : Fate)
    → (bound_message state key name randomizer given fate).answer ≡ Err RandomRepeated → ⊥
repeats_bound state key name None given fate is = cc
repeats_bound state key name (Some randomizer) None fate is = cc
repeats_bound state key name (Some randomizer) (Some message) acked is = cc
repeats_bound state key name (Some randomizer) (Some message) cut_old is = cc
repeats_bound state key name (Some randomizer) (Some message) cut_new is = cc
repeats_bound state key name (Some randomizer) (Some message) no_memory is = cc

-- one tree was begun before, with these fields
one_more : (records : List Record) (entry : Record) (draw : Draw) (draws : List Draw)
    (identifier seed randomizer : List ℕ) (left : List Record) (drawn : List ℕ)
    → draw.fields ≡ identifier ∷ seed ∷ randomizer ∷ [] → DrewAgain (records ++ entry ∷ []) draws left drawn
    → DrewAgain records (draw ∷ draws) left (identifier ++ ((seed ++ randomizer) ++ drawn))
one_more records entry draw draws identifier seed randomizer left drawn are again = record {
  begun = suc again.begun;
  draw = again.draw;
  is_draw = again.is_draw;
  longer = omega (arith, again.longer, length_push records entry);
  identifier = again.identifier;
  later = again.later;
  fields = again.fields;
  stands = again.stands;
  drawn_is = ap (λ bytes. identifier ++ ((seed ++ randomizer) ++ bytes)) again.drawn_is
      ∙ fields_drawn_before identifier seed randomizer (bytes_drawn (take again.begun draws)) again.identifier
      ∙ ap (λ fields. concat fields ++ bytes_drawn (take again.begun draws) ++ again.identifier) (sym are);
}

repeats_append : (records : List Record) (entry : Record) (fate : Fate) (draw : Draw) (draws : List Draw)
    (identifier seed randomizer : List ℕ) (next : List Record → Outcome (List ℕ))
    → draw.fields ≡ identifier ∷ seed ∷ randomizer ∷ [] → ((all : List Record) → RepeatsDrawn all draws (next all))
    → RepeatsDrawn records (draw ∷ draws)
    (drawing identifier (drawing (seed ++ randomizer) (appended (open_state records) entry fate next)))
repeats_append records entry acked draw draws identifier seed randomizer next are later is =
    let rest = next (records ++ entry ∷ []) in
    one_more records entry draw draws identifier seed randomizer rest.state.records rest.drawn are
    (later (records ++ entry ∷ []) is)
repeats_append records entry cut_old draw draws identifier seed randomizer next are later is = absurd (cc)
repeats_append records entry cut_new draw draws identifier seed randomizer next are later is = absurd (cc)
repeats_append records entry no_memory draw draws identifier seed randomizer next are later is = absurd (cc)

repeats_seed : (records : List Record) (trees : Trees) (level leaf : ℕ) (identifier : List ℕ) (fields : List (List ℕ))
    (fate : Fate) (draw : Draw) (draws : List Draw) (next : List Record → Outcome (List ℕ))
    → draw.fields ≡ identifier ∷ fields → ((all : List Record) → RepeatsDrawn all draws (next all))
    → RepeatsDrawn records (draw ∷ draws)
    (drawing identifier (extended_seed (open_state records) trees level leaf identifier fields fate next))
repeats_seed records trees level leaf identifier [] fate draw draws next are later is = absurd (cc)
repeats_seed records trees level leaf identifier (seed ∷ []) fate draw draws next are later is = absurd (cc)
repeats_seed records trees level leaf identifier (seed ∷ randomizer ∷ []) fate draw draws next are later is =
    repeats_append records _ fate draw draws identifier seed randomizer next are later is
repeats_seed records trees level leaf identifier (seed ∷ randomizer ∷ more ∷ rest) fate draw draws next are later is =
    absurd (cc)

repeats_identifier : (records : List Record) (trees : Trees) (level leaf : ℕ) (fields : List (List ℕ)) (draw : Draw) (draws : List Draw)
    (next : List Record → Outcome (List ℕ)) → draw.fields ≡ fields → ((all : List Record) → RepeatsDrawn all draws (next all))
    → RepeatsDrawn records (draw ∷ draws) (extended_identifier (open_state records) trees level leaf fields draw.fate next)
repeats_identifier records trees level leaf [] draw draws next are later = λ is. absurd (cc)
repeats_identifier records trees level leaf (identifier ∷ fields) draw draws next are later =
    kept_choice (λ outcome. RepeatsDrawn records (draw ∷ draws) (drawing identifier outcome))
    (has_identifier records identifier) (refused (open_state records) RandomRepeated)
    (extended_seed (open_state records) trees level leaf identifier fields draw.fate next)
    (λ there is. record {
      begun = 0;
      draw = draw;
      is_draw = refl;
      longer = omega arith;
      identifier = identifier;
      later = fields;
      fields = are;
      stands = there;
      drawn_is = append-nil identifier;
    })
    (λ new. repeats_seed records trees level leaf identifier fields draw.fate draw draws next are later)

repeats_extended : (records : List Record) (key : Key) (level : ℕ) (trees : Option Trees) (draw : Draw) (draws : List Draw)
    (next : List Record → Outcome (List ℕ)) → ((all : List Record) → RepeatsDrawn all draws (next all))
    → RepeatsDrawn records (draw ∷ draws) (extended (open_state records) key level trees draw next)
repeats_extended records key level None draw draws next later = λ is. absurd (cc)
repeats_extended records key level (Some trees) draw draws next later =
    repeats_identifier records trees level (next_at key.secret records (level - 1)) draw.fields draw draws next refl later

-- no 24 without a draw for a new tree
undrawn : (records : List Record) (key : Key) (level : ℕ) (trees : Option Trees) (next : List Record → Outcome (List ℕ))
    → (extended (open_state records) key level trees (first_draw []) next).answer ≡ Err RandomRepeated → ⊥
undrawn records key level None next is = cc
undrawn records key level (Some trees) next is = cc

repeats_bound_below : (key : Key) (name : List ℕ) (chance : Chance) (below : ℕ) (draws : List Draw) (records : List Record)
    → RepeatsDrawn records draws (bound_trees key name chance below draws records)
repeats_bound_below key name chance zero draws records = λ is.
    absurd (repeats_bound (open_state records) key name (randomizer_of_fields key.secret chance.bound.fields) chance.given chance.bound.fate is)
repeats_bound_below key name chance (suc below) [] records = λ is.
    absurd (undrawn records key (bottom_of key.secret - below) (trees_of key.secret) (bound_trees key name chance below []) is)
repeats_bound_below key name chance (suc below) (draw ∷ draws) records =
    repeats_extended records key (bottom_of key.secret - below) (trees_of key.secret) draw draws (bound_trees key name chance below draws)
    (repeats_bound_below key name chance below draws)

pub drawn_again : (limit : ℕ) (state : State) (name : List ℕ) (chance : Chance) → (requested limit state name chance).answer ≡ Err RandomRepeated
    → DrewAgain state.records chance.trees (requested limit state name chance).state.records
    (requested limit state name chance).drawn
drawn_again limit state name chance =
    let all = RepeatsDrawn state.records chance.trees in
    let settled : IsSettled all state =
    record { refused_for = λ fault other is. absurd (other (cc)); gives = λ signature is. absurd (cc); read = λ outcome again. again } in
    settled_key all limit state name chance settled.refused_for (the_key state.records) refl
    (λ key k bound is. settled_repeated all state chance settled key k bound chance.given)
    (λ key level wants. repeats_bound_below key name chance (bottom_of key.secret - level) chance.trees state.records)

-- ---- how much is drawn

abbrev DrawsMost : ℕ → Outcome (List ℕ) → Type 0
DrawsMost most outcome = length outcome.drawn ≤ most

fields_size : (sizes : List ℕ) (fields : List (List ℕ)) → AreFields sizes fields → length (concat fields) ≤ sum sizes
fields_size sizes [] are = omega arith
fields_size [] (field ∷ fields) are = absurd are
fields_size (size ∷ sizes) (field ∷ fields) are =
    let rest = fields_size sizes fields are.2 in
    let more : sum (size ∷ sizes) ≡ size + sum sizes = sum_by-cons (λ n. n) size sizes in
    omega (arith, rest, are.0, more, length-append field (concat fields))

most_append : (most : ℕ) (state : State) (entry : Record) (fate : Fate) (next : List Record → Outcome (List ℕ))
    → ((all : List Record) → DrawsMost most (next all)) → DrawsMost most (appended state entry fate next)
most_append most state entry acked next later = later (state.records ++ entry ∷ [])
most_append most state entry cut_old next later = omega arith
most_append most state entry cut_new next later = omega arith
most_append most state entry no_memory next later = omega arith

most_bound : (state : State) (key : Key) (name : List ℕ) (randomizer given : Option (List ℕ)) (fate : Fate)
    → DrawsMost 0 (bound_message state key name randomizer given fate)
most_bound state key name None given fate = omega arith
most_bound state key name (Some randomizer) None fate = omega arith
most_bound state key name (Some randomizer) (Some message) fate =
    most_append 0 state _ fate (λ records. answered (open_state records) _) (λ all. omega arith)

most_seed : (most : ℕ) (state : State) (trees : Trees) (level leaf : ℕ) (identifier : List ℕ) (fields : List (List ℕ)) (fate : Fate)
    (next : List Record → Outcome (List ℕ)) → AreFields (32 ∷ 32 ∷ []) fields → ((all : List Record) → DrawsMost most (next all))
    → DrawsMost (64 + most) (extended_seed state trees level leaf identifier fields fate next)
most_seed most state trees level leaf identifier [] fate next are later = omega arith
most_seed most state trees level leaf identifier (seed ∷ []) fate next are later =
    omega (arith, are.0, length-append seed [], length-append (seed ++ []) [])
most_seed most state trees level leaf identifier (seed ∷ randomizer ∷ []) fate next are later =
    let secret = lms_secret (slice_index_or trees.pairs level trees.top.pair) identifier seed in
    let entry = extend_record trees state.records level secret randomizer leaf in
    let rest = most_append most state entry fate next later in
    omega (arith, are.0, are.2.0, length-append seed randomizer, length-append (seed ++ randomizer) (appended state entry fate next).drawn, rest)
most_seed most state trees level leaf identifier (seed ∷ randomizer ∷ more ∷ rest) fate next are later = absurd are.2.2

most_identifier : (most : ℕ) (state : State) (trees : Trees) (level leaf : ℕ) (fields : List (List ℕ)) (fate : Fate)
    (next : List Record → Outcome (List ℕ)) → AreFields tree_sizes fields → ((all : List Record) → DrawsMost most (next all))
    → DrawsMost (80 + most) (extended_identifier state trees level leaf fields fate next)
most_identifier most state trees level leaf [] fate next are later = omega arith
most_identifier most state trees level leaf (identifier ∷ fields) fate next are later =
    let came : Outcome (List ℕ) = if has_identifier state.records identifier then refused state RandomRepeated
    else extended_seed state trees level leaf identifier fields fate next in
    let rest : DrawsMost (64 + most) came = kept_choice (DrawsMost (64 + most)) (has_identifier state.records identifier) (refused state RandomRepeated)
    (extended_seed state trees level leaf identifier fields fate next) (λ there. omega arith)
    (λ new. most_seed most state trees level leaf identifier fields fate next are.2 later) in
    omega (arith, are.0, rest, length-append identifier came.drawn)

most_extended : (most : ℕ) (state : State) (key : Key) (level : ℕ) (trees : Option Trees) (draw : Draw) (next : List Record → Outcome (List ℕ))
    → IsTreeDraw draw → ((all : List Record) → DrawsMost most (next all)) → DrawsMost (80 + most) (extended state key level trees draw next)
most_extended most state key level None draw next are later = omega arith
most_extended most state key level (Some trees) draw next are later =
    most_identifier most state trees level (next_at key.secret state.records (level - 1)) draw.fields draw.fate next are later

most_bound_below : (key : Key) (name : List ℕ) (chance : Chance) (below : ℕ) (draws : List Draw) (records : List Record) → AllByRecursion IsTreeDraw draws
    → AreFields (randomizer_sizes key.secret) chance.bound.fields
    → DrawsMost (80 * below + sum (randomizer_sizes key.secret)) (bound_trees key name chance below draws records)
most_bound_below key name chance zero draws records trees bound =
    let rest = bound_message (open_state records) key name (randomizer_of_fields key.secret chance.bound.fields) chance.given chance.bound.fate in
    let none = most_bound (open_state records) key name (randomizer_of_fields key.secret chance.bound.fields) chance.given chance.bound.fate in
    omega (arith, none, fields_size (randomizer_sizes key.secret) chance.bound.fields bound, length-append (concat chance.bound.fields) rest.drawn)
most_bound_below key name chance (suc below) draws records trees bound =
    let most = 80 * below + sum (randomizer_sizes key.secret) in
    let whole = most_extended most (open_state records) key (bottom_of key.secret - below) (trees_of key.secret) (first_draw draws)
    (bound_trees key name chance below (drop 1 draws)) (first_drawn draws trees)
    (λ all. most_bound_below key name chance below (drop 1 draws) all (later_drawn draws trees) bound) in
    omega (arith, whole)

pub drawn_most : (limit : ℕ) (state : State) (key : Key) (name : List ℕ) (chance : Chance) → the_key state.records ≡ Some key
    → AreDrawsOf key.secret chance
    → length (requested limit state name chance).drawn ≤ sum tree_sizes * bottom_of key.secret + sum (randomizer_sizes key.secret)
drawn_most limit state key name chance keyed drawn =
    let most = 80 * bottom_of key.secret + sum (randomizer_sizes key.secret) in
    let settled : IsSettled (DrawsMost most) state =
    record { refused_for = λ fault other. omega arith; gives = λ signature. omega arith; read = λ outcome draws. draws } in
    settled_key (DrawsMost most) limit state name chance settled.refused_for (the_key state.records) refl
    (λ own k bound is. settled_repeated (DrawsMost most) state chance settled own k bound chance.given)
    (λ own level wants.
    let same : key ≡ own = cc (keyed, wants.active.keyed) in
    let inner = most_bound_below key name chance (bottom_of key.secret - level) chance.trees state.records drawn.trees drawn.bound in
    subst (λ k. DrawsMost most (bound_trees k name chance (bottom_of k.secret - level) chance.trees state.records)) same (omega (arith, inner)))

-- ---- what is signed was read

abbrev HasMessage : (given : Option (List ℕ)) → Outcome (List ℕ) → Type 0
HasMessage given outcome = (signature : List ℕ) → outcome.answer ≡ Ok signature → IsSome given × (outcome.is_read ≡ true)

read_append : (given : Option (List ℕ)) (state : State) (entry : Record) (fate : Fate) (next : List Record → Outcome (List ℕ))
    → ((all : List Record) → HasMessage given (next all)) → HasMessage given (appended state entry fate next)
read_append given state entry acked next later = later (state.records ++ entry ∷ [])
read_append given state entry cut_old next later = λ signature is. absurd (cc)
read_append given state entry cut_new next later = λ signature is. absurd (cc)
read_append given state entry no_memory next later = λ signature is. absurd (cc)

read_bound : (state : State) (key : Key) (name : List ℕ) (randomizer given : Option (List ℕ)) (fate : Fate)
    → HasMessage given (bound_message state key name randomizer given fate)
read_bound state key name None given fate signature is = absurd (cc)
read_bound state key name (Some randomizer) None fate signature is = absurd (cc)
read_bound state key name (Some randomizer) (Some message) fate signature is = (refl, refl)

read_seed : (given : Option (List ℕ)) (state : State) (trees : Trees) (level leaf : ℕ) (identifier : List ℕ) (fields : List (List ℕ)) (fate : Fate)
    (next : List Record → Outcome (List ℕ)) → ((all : List Record) → HasMessage given (next all))
    → HasMessage given (extended_seed state trees level leaf identifier fields fate next)
read_seed given state trees level leaf identifier [] fate next later = λ signature is. absurd (cc)
read_seed given state trees level leaf identifier (seed ∷ []) fate next later = λ signature is. absurd (cc)
read_seed given state trees level leaf identifier (seed ∷ randomizer ∷ []) fate next later = read_append given state _ fate next later
read_seed given state trees level leaf identifier (seed ∷ randomizer ∷ more ∷ rest) fate next later = λ signature is. absurd (cc)

read_identifier : (given : Option (List ℕ)) (state : State) (trees : Trees) (level leaf : ℕ) (fields : List (List ℕ)) (fate : Fate)
    (next : List Record → Outcome (List ℕ)) → ((all : List Record) → HasMessage given (next all))
    → HasMessage given (extended_identifier state trees level leaf fields fate next)
read_identifier given state trees level leaf [] fate next later = λ signature is. absurd (cc)
read_identifier given state trees level leaf (identifier ∷ fields) fate next later =
    kept_choice (HasMessage given) (has_identifier state.records identifier) _ _ (λ there signature is. absurd (cc))
    (λ new. read_seed given state trees level leaf identifier fields fate next later)

read_extended : (given : Option (List ℕ)) (state : State) (key : Key) (level : ℕ) (trees : Option Trees) (draw : Draw)
    (next : List Record → Outcome (List ℕ)) → ((all : List Record) → HasMessage given (next all)) → HasMessage given (extended state key level trees draw next)
read_extended given state key level None draw next later = λ signature is. absurd (cc)
read_extended given state key level (Some trees) draw next later =
    read_identifier given state trees level (next_at key.secret state.records (level - 1)) draw.fields draw.fate next later

read_bound_below : (key : Key) (name : List ℕ) (chance : Chance) (below : ℕ) (draws : List Draw) (records : List Record)
    → HasMessage chance.given (bound_trees key name chance below draws records)
read_bound_below key name chance zero draws records =
    read_bound (open_state records) key name (randomizer_of_fields key.secret chance.bound.fields) chance.given chance.bound.fate
read_bound_below key name chance (suc below) draws records =
    read_extended chance.given (open_state records) key (bottom_of key.secret - below) (trees_of key.secret) (first_draw draws)
    (bound_trees key name chance below (drop 1 draws)) (read_bound_below key name chance below (drop 1 draws))

read_repeated : (state : State) (key : Key) (k : ℕ) (bound : Bound) (chance : Chance) (given : Option (List ℕ))
    → HasMessage given (repeated state key k bound chance given)
read_repeated state key k bound chance None signature is = absurd (cc)
read_repeated state key k bound chance (Some message) signature is = (refl, refl)

pub signed_read : (limit : ℕ) (state : State) (name signature : List ℕ) (chance : Chance) → (requested limit state name chance).answer ≡ Ok signature
    → IsSome chance.given × ((requested limit state name chance).is_read ≡ true)
signed_read limit state name signature chance =
    settled_key (HasMessage chance.given) limit state name chance (λ fault other given is. absurd (cc))
    (the_key state.records) refl (λ key k bound is. read_repeated state key k bound chance chance.given)
    (λ key level wants.
    read_bound_below key name chance (bottom_of key.secret - level) chance.trees state.records) signature
