-- What stands after a refusal.
use Rattle.std.proofs.Common.{◌≡◌, ◌≢◌, ◌∙◌, refl, sym, ap, subst, ◌⊎◌, inl, inr, ℕ, zero, suc, ◌+◌, ◌-◌, Bool, true}
use Rattle.std.proofs.Common.{false, List, [], ◌∷◌, ◌++◌, length, length-append, take, Option, Some, None, Err}
use Rattle.std.proofs.Common.{append_assoc, append-nil, arith, ◌≤◌}
use Rattle.std.specs.Prelude.{if◌then◌else◌, nat_le, nat_lt, not, slice_get}
use Rattle.std.specs.List.{concat}
use Rattle.std.proofs.lemmas.Bool.Decides.{nat_tests}
use Rattle.std.proofs.lemmas.Option.{none-some, same_Some}
use Rattle.typecodes.specs.declared.spec.Spec.{Spec}
use Rattle.typecodes.specs.Spec.{IsSpec}
use Rattle.state_file.specs.Laws.{bottom_of}
use Rattle.state_file.specs.declared.record.Bound.{Bound}
use Rattle.state_file.specs.declared.record.Key.{Key}
use Rattle.state_file.specs.declared.record.Record.{Record}
use Rattle.state_file.specs.declared.record.Record.TheVariants.{Bound as BoundRecord, Key as KeyRecord, Retire}
use Rattle.state_file.specs.declared.record.Secret.{Secret}
use Rattle.sign_core.specs.declared.key.AnyPublic.{AnyPublic}
use Rattle.sign_core.specs.declared.fault.SignFault.{SignFault}
use Rattle.sign_core.specs.declared.fault.SignFault.TheVariants.{LedgerFull, Moved, OutOfMemory, RandomRepeated}
use Rattle.sign_core.specs.declared.fault.SignFault.TheVariants.{KeyThere, RetireRange, Stopped}
use Rattle.sign_core.specs.AfterRefusal.{AfterRefusalLaw, AreDrawnFor, BeginsDrawn, IsDrawnKey, IsNextWanted, IsRefusal}
use Rattle.sign_core.specs.AfterRefusal.{LeavesRecords, LeavesRequested, LeavesTrees, WantsRecords}
use Rattle.sign_core.specs.Events.{AreFields, key_sizes}
use Rattle.sign_core.specs.Requests.{BeginsTree, BindsName}
use Rattle.sign_core.specs.Records.{binding_at, first_illegal, has_identifier, has_moved, the_key}
use Rattle.sign_core.specs.Records.{leaves_of_current, next_at}
use Rattle.sign_core.specs.Textbook.{Trees, any_public_of, textbook_signature, trees_of}
use Rattle.sign_core.specs.World.{Chance, Creation, Draw, Fate, Opening, Outcome, State, acked, answered, appended}
use Rattle.sign_core.specs.World.{cut_new, cut_old, drawing}
use Rattle.sign_core.specs.inner.Cases.{extended}
use Rattle.sign_core.proofs.steps.Cases.{begun, bound_message, created_load, extended_identifier}
use Rattle.sign_core.specs.World.{first_draw, new_key, no_memory, open_state}
use Rattle.sign_core.specs.inner.Cases.{bound_trees}
use Rattle.sign_core.proofs.steps.Cases.{extended_seed}
use Rattle.sign_core.proofs.steps.Cases.{opened_illegal, opened_key}
use Rattle.sign_core.specs.World.{randomizer_of_fields, reading, refused, requested, secret_of_fields}
use Rattle.sign_core.proofs.steps.Cases.{published, retired_key}
use Rattle.sign_core.proofs.records.Bindings.{binding_other, binds}
use Rattle.sign_core.proofs.law.DrawsOfRequests.{IsSettled, settled_repeated, settled_key}
use Rattle.sign_core.proofs.law.NewNames.{begins_along, extend_in}
use Rattle.sign_core.proofs.law.MessageInTurn.{in_turn}
use Rattle.sign_core.proofs.steps.NewRecords.{next_extend}
use Rattle.sign_core.proofs.records.FreeLeaves.{deepest_is}
use Rattle.sign_core.proofs.law.KeptByEvents.{kept_choice}
use Rattle.sign_core.proofs.law.DrawsOfRefusals.{DrawsWanted, chance_with, draws_wanted}
use Rattle.sign_core.proofs.records.Sizes.{public_made, secret_sizes}
use Rattle.sign_core.proofs.records.Parts.{new_bound}

some_none : {A : Type 0} (x : A) → None ≡ Some x → ⊥
some_none x is = absurd (cc)

-- ---- all that stands was acknowledged

whole : {A : Type 0} {IsWanted : Record → Type 0} (records : List Record) (outcome : Outcome A) → outcome.acknowledged ≡ records
    → outcome.state.records ≡ records → outcome.failed ≡ None → LeavesRecords records IsWanted outcome
whole records outcome acknowledged stands uncut = record {
  acknowledged = acknowledged;
  whole = λ none. stands;
  cut = λ entry is. absurd (some_none entry (sym uncut ∙ is));
}

-- `LeavesRecords` along equal records and a weaker property.
leaves_along : {A : Type 0} (IsOld IsNew : Record → Type 0) (records others : List Record) (outcome : Outcome A)
    → records ≡ others → ((entry : Record) → IsOld entry → IsNew entry) → LeavesRecords records IsOld outcome
    → LeavesRecords others IsNew outcome
leaves_along IsOld IsNew records others outcome same turned leaves = record {
  acknowledged = leaves.acknowledged ∙ same;
  whole = λ uncut. leaves.whole uncut ∙ same;
  cut = λ entry is.
      let (answer, wanted, left) = leaves.cut entry is in (
        answer,
        turned entry wanted,
        subst (λ all. (outcome.state.records ≡ all) ⊎ (outcome.state.records ≡ all ++ entry ∷ [])) same left,
      );
}

-- ---- a request for a new name

module _ (key : Key) (name : List ℕ) where
  abbrev Quiet : (level : ℕ) → List Record → Chance → Outcome (List ℕ) → Type 0
  Quiet level before chance outcome = IsRefusal outcome → LeavesTrees key before level name chance outcome

  none : (level : ℕ) (records : List Record) (chance : Chance) (outcome : Outcome (List ℕ))
      → LeavesRecords records (IsNextWanted key records level name chance []) outcome
      → LeavesTrees key records level name chance outcome
  none level records chance outcome leaves =
      let nil = append-nil records in
      record {
        trees = [];
        within_limit = omega arith;
        each = λ i entry at. absurd (none-some entry at);
        leaves = subst (λ all. LeavesRecords all (IsNextWanted key records level name chance []) outcome) (sym nil) leaves;
        unbound = λ other. ap (λ all. binding_at all other) nil;
      }

  kept : (level : ℕ) (chance : Chance) (state : State) (fault : SignFault)
      → LeavesTrees key state.records level name chance (refused state fault)
  kept level chance state fault =
      none level state.records chance (refused state fault) (whole state.records (refused state fault) refl refl refl)

  cut_off : (level : ℕ) (records : List Record) (chance : Chance) (entry : Record) (fate : Fate)
      (next : List Record → Outcome (List ℕ)) → IsNextWanted key records level name chance [] entry
      → Quiet level records chance (next (records ++ entry ∷ []))
      → Quiet level records chance (appended (open_state records) entry fate next)
  cut_off level records chance entry acked next wanted later = later
  cut_off level records chance entry cut_old next wanted later = λ refusal. none level records chance _ (record {
    acknowledged = refl;
    whole = λ uncut. refl;
    cut = λ other is. (
      refl,
      subst (IsNextWanted key records level name chance []) (same_Some entry other is) wanted,
      inl refl,
    );
  })
  cut_off level records chance entry cut_new next wanted later = λ refusal. none level records chance _ (record {
    acknowledged = refl;
    whole = λ uncut. absurd (some_none entry (sym uncut));
    cut = λ other is. (
      refl,
      subst (IsNextWanted key records level name chance []) (same_Some entry other is) wanted,
      inr (ap (λ x. records ++ x ∷ []) (same_Some entry other is)),
    );
  })
  cut_off level records chance entry no_memory next wanted later =
      λ refusal. kept level chance (open_state records) OutOfMemory

  reads : (level : ℕ) (records : List Record) (chance : Chance) (outcome : Outcome (List ℕ))
      → LeavesTrees key records level name chance outcome → LeavesTrees key records level name chance (reading outcome)
  reads level records chance outcome left = record {
    trees = left.trees;
    within_limit = left.within_limit;
    each = left.each;
    leaves = record { acknowledged = left.leaves.acknowledged; whole = left.leaves.whole; cut = left.leaves.cut };
    unbound = left.unbound;
  }

  draws_more : (level : ℕ) (records : List Record) (chance : Chance) (bytes : List ℕ) (outcome : Outcome (List ℕ))
      → LeavesTrees key records level name chance outcome
      → LeavesTrees key records level name chance (drawing bytes outcome)
  draws_more level records chance bytes outcome left = record {
    trees = left.trees;
    within_limit = left.within_limit;
    each = left.each;
    leaves = record { acknowledged = left.leaves.acknowledged; whole = left.leaves.whole; cut = left.leaves.cut };
    unbound = left.unbound;
  }

  -- ---- one tree more before

  -- the tree of a later draw
  drawn_later : (level i : ℕ) (records : List Record) (entry : Record) (trees : List Record) (draw : Draw)
      (draws : List Draw) (x : Record) → BeginsDrawn key (records ++ entry ∷ [] ++ trees) (level + 1) draws i x
      → BeginsDrawn key (records ++ (entry ∷ trees)) level (draw ∷ draws) (suc i) x
  drawn_later level i records entry trees draw draws x drawn = record {
    draw = drawn.draw;
    is_draw = drawn.is_draw;
    begins = begins_along key (records ++ entry ∷ [] ++ trees) (records ++ (entry ∷ trees)) (level + 1 + i + 1)
        (level + suc i + 1) drawn.draw.fields drawn.draw.fields x x (append_assoc records (entry ∷ []) trees)
        (omega arith) refl refl drawn.begins;
  }

  module _ (level below : ℕ) (records : List Record) (draw : Draw) (entry : Record)
      (here : level + suc below ≡ bottom_of key.secret)
      (first : BeginsTree key records (bottom_of key.secret - below) draw.fields entry) where
    -- the first tree, where it is begun
    drawn_first : (draws : List Draw) (x : Record) → entry ≡ x
        → BeginsDrawn key (records ++ []) level (draw ∷ draws) 0 x
    drawn_first draws x same = record {
      draw = draw;
      is_draw = refl;
      begins = begins_along key records (records ++ []) (bottom_of key.secret - below) (level + 0 + 1) draw.fields
          draw.fields entry x (sym (append-nil records)) (omega (arith, here)) refl same first;
    }

    wants_tree : (chance : Chance) (draws : List Draw)
        → IsNextWanted key records level name (chance_with chance (draw ∷ draws)) [] entry
    wants_tree chance draws = inl (omega (arith, here), drawn_first draws entry refl)

    each_more : (trees : List Record) (draws : List Draw)
        → ((i : ℕ) (x : Record) → slice_get trees i ≡ Some x
        → BeginsDrawn key (records ++ entry ∷ [] ++ take i trees) (level + 1) draws i x)
        → (i : ℕ) (x : Record) → slice_get (entry ∷ trees) i ≡ Some x
        → BeginsDrawn key (records ++ take i (entry ∷ trees)) level (draw ∷ draws) i x
    each_more trees draws later zero x at = drawn_first draws x (same_Some entry x at)
    each_more trees draws later (suc i) x at =
        drawn_later level i records entry (take i trees) draw draws x (later i x at)

    wanted_more : (chance : Chance) (trees : List Record) (draws : List Draw) (x : Record)
        → IsNextWanted key (records ++ entry ∷ []) (level + 1) name (chance_with chance draws) trees x
        → IsNextWanted key records level name (chance_with chance (draw ∷ draws)) (entry ∷ trees) x
    wanted_more chance trees draws x (inl (within_limit, drawn)) =
        inl (omega (arith, within_limit, here), drawn_later level (length trees) records entry trees draw draws x drawn)
    wanted_more chance trees draws x (inr (all, own)) = inr (
      omega (arith, all, here),
      record {
        bound = own.bound;
        is = own.is;
        message = own.message;
        given = own.given;
        binds = subst (λ before. BindsName key before name own.message chance.bound.fields own.bound)
            (append_assoc records (entry ∷ []) trees) own.binds;
      },
    )

    one_more : (chance : Chance) (draws : List Draw) (outcome : Outcome (List ℕ))
        → LeavesTrees key (records ++ entry ∷ []) (level + 1) name (chance_with chance draws) outcome
        → LeavesTrees key records level name (chance_with chance (draw ∷ draws)) outcome
    one_more chance draws outcome left =
        let same = append_assoc records (entry ∷ []) left.trees in
        record {
          trees = entry ∷ left.trees;
          within_limit = omega (arith, left.within_limit, here);
          each = each_more left.trees draws left.each;
          leaves = leaves_along
              (IsNextWanted key (records ++ entry ∷ []) (level + 1) name (chance_with chance draws) left.trees)
              (IsNextWanted key records level name (chance_with chance (draw ∷ draws)) (entry ∷ left.trees))
              (records ++ entry ∷ [] ++ left.trees) (records ++ (entry ∷ left.trees)) outcome same
              (wanted_more chance left.trees draws) left.leaves;
          unbound = λ other. sym (ap (λ all. binding_at all other) same) ∙ left.unbound other
              ∙ binding_other records entry other (ap (binds other) first.is);
        }

  -- ---- the new records, one after the other

  wants_binding : (level : ℕ) (records : List Record) (chance : Chance) (message : List ℕ) (bound : Bound)
      → level ≡ bottom_of key.secret → chance.given ≡ Some message
      → BindsName key records name message chance.bound.fields bound
      → IsNextWanted key records level name chance [] (BoundRecord bound)
  wants_binding level records chance message bound here given own = inr (
    omega (arith, here),
    record {
      bound = bound;
      is = refl;
      message = message;
      given = given;
      binds = subst (λ before. BindsName key before name message chance.bound.fields bound)
          (sym (append-nil records)) own;
    },
  )

  quiet_bound : (level : ℕ) (records : List Record) (chance : Chance) (randomizer given : Option (List ℕ)) (fate : Fate)
      → level ≡ bottom_of key.secret → randomizer_of_fields key.secret chance.bound.fields ≡ randomizer
      → chance.given ≡ given → Quiet level records chance (bound_message (open_state records) key name randomizer given fate)
  quiet_bound level records chance None given fate here drawn is = λ refusal. kept level chance (open_state records) _
  quiet_bound level records chance (Some randomizer) None fate here drawn is =
      λ refusal. reads level records chance _ (kept level chance (open_state records) _)
  quiet_bound level records chance (Some randomizer) (Some message) fate here drawn is = λ refusal.
      let bound = new_bound key records name (next_at key.secret records (bottom_of key.secret)) randomizer message in
      let next = λ (all : List Record). answered (open_state all) (textbook_signature key all (length records) bound) in
      let own : BindsName key records name message chance.bound.fields bound =
      record { named = refl; leaf = refl; randomizer = drawn; digest = refl } in
      reads level records chance _ (cut_off level records chance (BoundRecord bound) fate next
      (wants_binding level records chance message bound here is own) (λ signed. absurd (cc (signed.1))) refusal)

  module _ (level below : ℕ) (records : List Record) (chance : Chance) (trees : Trees) (draw : Draw) (draws : List Draw)
      (next : List Record → Outcome (List ℕ)) (here : level + suc below ≡ bottom_of key.secret)
      (later : (all : List Record) → Quiet (level + 1) all (chance_with chance draws) (next all)) where
    abbrev QuietFrom : Outcome (List ℕ) → Type 0
    QuietFrom outcome = Quiet level records (chance_with chance (draw ∷ draws)) outcome

    quiet_seed : (identifier : List ℕ) (fields : List (List ℕ)) → draw.fields ≡ identifier ∷ fields
        → has_identifier records identifier ≡ false
        → QuietFrom (extended_seed (open_state records) trees (bottom_of key.secret - below)
        (next_at key.secret records (bottom_of key.secret - below - 1)) identifier fields draw.fate next)
    quiet_seed identifier [] are new =
        λ refusal. draws_more level records _ (concat []) _ (kept level _ (open_state records) _)
    quiet_seed identifier (seed ∷ []) are new =
        λ refusal. draws_more level records _ (concat (seed ∷ [])) _ (kept level _ (open_state records) _)
    quiet_seed identifier (seed ∷ randomizer ∷ []) are new = λ refusal.
        let this = bottom_of key.secret - below in
        let entry = next_extend key trees records this identifier seed randomizer in
        let first : BeginsTree key records this draw.fields entry =
        begins_along key records records this this (identifier ∷ seed ∷ randomizer ∷ []) draw.fields entry entry refl
        refl (sym are) refl (extend_in key trees records this identifier seed randomizer new) in
        draws_more level records (chance_with chance (draw ∷ draws)) (seed ++ randomizer) _
        (cut_off level records (chance_with chance (draw ∷ draws)) entry draw.fate next
        (wants_tree level below records draw entry here first chance draws)
        (λ again. one_more level below records draw entry here first chance draws (next (records ++ entry ∷ []))
        (later (records ++ entry ∷ []) again)) refusal)
    quiet_seed identifier (seed ∷ randomizer ∷ more ∷ rest) are new =
        λ refusal. draws_more level records _ (concat (seed ∷ randomizer ∷ more ∷ rest)) _
        (kept level _ (open_state records) _)

    quiet_identifier : (fields : List (List ℕ)) → draw.fields ≡ fields
        → QuietFrom (extended_identifier (open_state records) trees (bottom_of key.secret - below)
        (next_at key.secret records (bottom_of key.secret - below - 1)) fields draw.fate next)
    quiet_identifier [] are = λ refusal. kept level _ (open_state records) _
    quiet_identifier (identifier ∷ fields) are = λ refusal.
        draws_more level records (chance_with chance (draw ∷ draws)) identifier _
        (kept_choice QuietFrom (has_identifier records identifier) (refused (open_state records) RandomRepeated)
        (extended_seed (open_state records) trees (bottom_of key.secret - below)
        (next_at key.secret records (bottom_of key.secret - below - 1)) identifier fields draw.fate next)
        (λ there again. kept level _ (open_state records) _) (λ new. quiet_seed identifier fields are new) refusal)

  quiet_extended : (level below : ℕ) (records : List Record) (chance : Chance) (found : Option Trees) (draw : Draw)
      (draws : List Draw) (next : List Record → Outcome (List ℕ)) → level + suc below ≡ bottom_of key.secret
      → ((all : List Record) → Quiet (level + 1) all (chance_with chance draws) (next all))
      → Quiet level records (chance_with chance (draw ∷ draws))
      (extended (open_state records) key (bottom_of key.secret - below) found draw next)
  quiet_extended level below records chance None draw draws next here later =
      λ refusal. kept level _ (open_state records) _
  quiet_extended level below records chance (Some trees) draw draws next here later =
      quiet_identifier level below records chance trees draw draws next here later draw.fields refl

  -- nothing was drawn for the next tree
  quiet_undrawn : (level this : ℕ) (records : List Record) (chance : Chance) (found : Option Trees)
      (next : List Record → Outcome (List ℕ))
      → Quiet level records chance (extended (open_state records) key this found (first_draw []) next)
  quiet_undrawn level this records chance None next = λ refusal. kept level chance (open_state records) _
  quiet_undrawn level this records chance (Some trees) next = λ refusal. kept level chance (open_state records) _

  quiet_bound_below : (chance : Chance) (below level : ℕ) (draws : List Draw) (records : List Record)
      → level + below ≡ bottom_of key.secret
      → Quiet level records (chance_with chance draws) (bound_trees key name chance below draws records)
  quiet_bound_below chance zero level draws records here = λ refusal.
      draws_more level records (chance_with chance draws) (concat chance.bound.fields) _
      (quiet_bound level records (chance_with chance draws) (randomizer_of_fields key.secret chance.bound.fields)
      chance.given chance.bound.fate (omega (arith, here)) refl refl refusal)
  quiet_bound_below chance (suc below) level [] records here =
      quiet_undrawn level (bottom_of key.secret - below) records (chance_with chance []) (trees_of key.secret)
      (bound_trees key name chance below [])
  quiet_bound_below chance (suc below) level (draw ∷ draws) records here =
      quiet_extended level below records chance (trees_of key.secret) draw draws (bound_trees key name chance below draws)
      here (λ all. quiet_bound_below chance below (level + 1) draws all (omega (arith, here)))

-- ---- any request

-- The old records are left, and nothing was drawn; or these trees, and what was drawn for them.
abbrev HasLeft : State → (name : List ℕ) → Chance → Outcome (List ℕ) → Type 0
HasLeft state name chance outcome = (LeavesRecords state.records (λ entry. ⊥) outcome × (outcome.drawn ≡ []))
    ⊎ ((key : Key) × (level : ℕ) × WantsRecords state name key level
    × LeavesTrees key state.records level name chance outcome
    × (outcome.answer ≢ Err RandomRepeated → DrawsWanted state.records (bottom_of key.secret - level) chance outcome))

-- the same once the message is read
read_too : (state : State) (name : List ℕ) (chance : Chance) (outcome : Outcome (List ℕ))
    → HasLeft state name chance outcome → HasLeft state name chance (reading outcome)
read_too state name chance outcome (inl (left, none)) =
    inl (record { acknowledged = left.acknowledged; whole = left.whole; cut = left.cut }, none)
read_too state name chance outcome (inr (key, level, wants, left, draws)) = inr (
  key,
  level,
  wants,
  reads key name level state.records chance outcome left,
  λ other. let drew = draws other in
      record { begun = drew.begun; longer = drew.longer; are_drawn = drew.are_drawn },
)

has_left : (limit : ℕ) (state : State) (name : List ℕ) (chance : Chance) → IsRefusal (requested limit state name chance)
    → HasLeft state name chance (requested limit state name chance)
has_left limit state name chance =
    let quiet : Outcome (List ℕ) → Type 0 = λ outcome. IsRefusal outcome → HasLeft state name chance outcome in
    let settled : IsSettled quiet state = record {
      refused_for = λ fault other refusal. inl (whole state.records (refused state fault) refl refl refl, refl);
      gives = λ signature refusal. absurd (cc (refusal.1));
      read = λ outcome again refusal. read_too state name chance outcome (again refusal);
    } in
    settled_key quiet limit state name chance settled.refused_for (the_key state.records) refl
    (λ key k bound is. settled_repeated quiet state chance settled key k bound chance.given)
    (λ key level wants refusal.
    let inside = (deepest_is key.secret state.records level wants.level_is).0 in
    inr (
      key,
      level,
      wants,
      quiet_bound_below key name chance (bottom_of key.secret - level) level chance.trees state.records
          (omega (arith, inside)) refusal,
      draws_wanted key name chance level state.records refusal,
    ))

as_requested : (state : State) (name : List ℕ) (chance : Chance) (outcome : Outcome (List ℕ))
    → HasLeft state name chance outcome → LeavesRequested state name chance outcome
as_requested state name chance outcome (inl none) = inl none
as_requested state name chance outcome (inr (key, level, wants, left, draws)) = inr (record {
  key = key;
  level = level;
  wants = wants;
  left = left;
  drawn = λ other.
      let drew = draws other in
      let count : drew.begun ≡ length left.trees =
      omega (arith, drew.longer, ap length left.leaves.acknowledged, length-append state.records left.trees) in
      subst (λ n. AreDrawnFor (bottom_of key.secret - level) chance n outcome.drawn) count drew.are_drawn;
})

-- ---- the other events

abbrev QuietIn : {A : Type 0} → List Record → (Record → Type 0) → Outcome A → Type 0
QuietIn before IsWanted outcome = IsRefusal outcome → LeavesRecords before IsWanted outcome

plain : {A : Type 0} {IsWanted : Record → Type 0} (state : State) (fault : SignFault) → QuietIn {A = A} state.records IsWanted (refused state fault)
plain state fault refusal = whole state.records (refused state fault) refl refl refl

choice : {A : Type 0} {IsWanted : Record → Type 0} (before : List Record) (test : Bool) (x y : Outcome A) → QuietIn before IsWanted x
    → QuietIn before IsWanted y → QuietIn before IsWanted (if test then x else y)
choice before true x y first second = first
choice before false x y first second = second

append_quiet : {A : Type 0} {IsWanted : Record → Type 0} (state : State) (entry : Record) (fate : Fate) (next : List Record → Outcome A)
    → IsWanted entry → (IsRefusal (next (state.records ++ entry ∷ [])) → ⊥) → QuietIn state.records IsWanted (appended state entry fate next)
append_quiet state entry acked next wanted never = λ refusal. absurd (never refusal)
append_quiet {IsWanted = IsWanted} state entry cut_old next wanted never = λ refusal. record {
  acknowledged = refl;
  whole = λ uncut. refl;
  cut = λ other is. (refl, subst IsWanted (same_Some entry other is) wanted, inl refl);
}
append_quiet {IsWanted = IsWanted} state entry cut_new next wanted never = λ refusal. record {
  acknowledged = refl;
  whole = λ uncut. absurd (some_none entry (sym uncut));
  cut = λ other is. (refl, subst IsWanted (same_Some entry other is) wanted, inr (ap (λ x. state.records ++ x ∷ []) (same_Some entry other is)));
}
append_quiet state entry no_memory next wanted never = plain state OutOfMemory

retires : (limit : ℕ) (state : State) (upto : ℕ) (fate : Fate) (found : Option Key)
    → QuietIn state.records (λ entry. entry ≡ Retire upto) (retired_key limit state upto fate found)
retires limit state upto fate None = plain state Stopped
retires limit state upto fate (Some key) =
    choice state.records (not state.is_open) _ _ (plain state Stopped)
    (choice state.records (has_moved state.records) _ _ (plain state Moved)
    (choice state.records (nat_lt (leaves_of_current key.secret state.records (bottom_of key.secret)) upto) _ _ (plain state RetireRange)
    (choice state.records (nat_le upto (next_at key.secret state.records (bottom_of key.secret))) _ _ (λ refusal. absurd (cc (refusal.1)))
    (choice state.records (nat_lt limit (length state.records + 1)) _ _ (plain state LedgerFull)
    (append_quiet state (Retire upto) fate _ refl (λ refusal. cc (refusal.1)))))))

draws_nothing : (state : State) (chance : Creation) (found : Option Secret) → (begun state chance found).drawn ≡ []
draws_nothing state chance None = refl
draws_nothing state chance (Some secret) = by_room chance.has_room
  where
    published_draws : (records : List Record) (found : Option AnyPublic) → (published records found).drawn ≡ []
    published_draws records (Some public) = refl
    published_draws records None = refl

    by_fate : (key : Key) (fate : Fate)
        → (appended state (KeyRecord key) fate (λ records. published records (any_public_of key))).drawn ≡ []
    by_fate key acked = published_draws (state.records ++ KeyRecord key ∷ []) (any_public_of key)
    by_fate key cut_old = refl
    by_fate key cut_new = refl
    by_fate key no_memory = refl

    by_room : (has_room : Bool) → (if not has_room then refused state OutOfMemory
        else appended state (KeyRecord (new_key chance.version secret)) chance.fate
        (λ records. published records (any_public_of (new_key chance.version secret)))).drawn ≡ []
    by_room true = by_fate (new_key chance.version secret) chance.fate
    by_room false = refl

module _ (state : State) (spec : Spec) (chance : Creation) (can : IsSpec spec) (are : AreFields (key_sizes spec) chance.fields) where
  abbrev QuietHere : Outcome AnyPublic → Type 0
  QuietHere outcome = QuietIn state.records (IsDrawnKey chance.version spec chance.fields outcome.drawn) outcome

  abbrev IsKeyOf : Record → Type 0
  IsKeyOf entry =
      (secret : Secret) × (secret_of_fields spec chance.fields ≡ Some secret) × (entry ≡ KeyRecord (new_key chance.version secret))

  published_never : (records : List Record) (found : Option AnyPublic) (public : AnyPublic) → found ≡ Some public → IsRefusal (published records found) → ⊥
  published_never records (Some other) public is refusal = cc (refusal.1)
  published_never records None public is refusal = absurd (some_none public is)

  draws_key : (outcome : Outcome AnyPublic) → outcome.drawn ≡ [] → QuietIn state.records IsKeyOf outcome
      → QuietHere (drawing (concat chance.fields) outcome)
  draws_key outcome none quiet refusal =
      let leaves = quiet refusal in
      record {
        acknowledged = leaves.acknowledged;
        whole = leaves.whole;
        cut = λ entry is.
            let (answer, (secret, made, same), left) = leaves.cut entry is in
            let drawn = ap (λ bytes. concat chance.fields ++ bytes) none ∙ append-nil (concat chance.fields) in
            (answer, (secret, made, drawn, same), left);
      }

  begins : (found : Option Secret) → secret_of_fields spec chance.fields ≡ found
      → QuietIn state.records IsKeyOf (begun state chance found)
  begins None is = plain state _
  begins (Some secret) is =
      let key = new_key chance.version secret in
      let (public, has) = public_made secret key.root (secret_sizes spec chance.fields secret can are is) in
      let next = λ (all : List Record). published all (any_public_of key) in
      choice state.records (not chance.has_room) _ _ (plain state OutOfMemory)
      (append_quiet state (KeyRecord key) chance.fate next (secret, is, refl)
      (published_never (state.records ++ KeyRecord key ∷ []) (any_public_of key) public has))

  quiet_choice : (test : Bool) (x y : Outcome AnyPublic) → QuietHere x → QuietHere y → QuietHere (if test then x else y)
  quiet_choice true x y first second = first
  quiet_choice false x y first second = second

  creates : (failed : Option SignFault) → QuietHere (created_load failed state spec chance)
  creates (Some fault) = plain state fault
  creates None = quiet_choice (nat_le 1 (length state.records)) _ _ (plain state _)
      (draws_key (begun state chance (secret_of_fields spec chance.fields)) (draws_nothing state chance (secret_of_fields spec chance.fields))
      (begins (secret_of_fields spec chance.fields) refl))

-- ---- what a create draws

drawn_where_none : (state : State) (spec : Spec) (chance : Creation) (failed : Option SignFault) → failed ≡ None → state.records ≡ []
    → (created_load failed state spec chance).drawn ≡ concat chance.fields
drawn_where_none state spec chance failed loads none =
    ap (λ f. (created_load f state spec chance).drawn) loads
    ∙ ap (λ (n : ℕ). (if nat_le 1 n then refused {A = AnyPublic} state KeyThere
    else drawing (concat chance.fields) (begun state chance (secret_of_fields spec chance.fields))).drawn) (ap length none)
    ∙ ap (λ bytes. concat chance.fields ++ bytes) (draws_nothing state chance (secret_of_fields spec chance.fields))
    ∙ append-nil (concat chance.fields)

undrawn_where_some : (state : State) (spec : Spec) (chance : Creation) (failed : Option SignFault)
    → (failed ≢ None) ⊎ (1 ≤ length state.records) → (created_load failed state spec chance).drawn ≡ []
undrawn_where_some state spec chance (Some fault) why = refl
undrawn_where_some state spec chance None (inl fails) = absurd (fails refl)
undrawn_where_some state spec chance None (inr some) =
    let there : nat_le 1 (length state.records) ≡ true = grind (arith, nat_tests) in
    ap (λ (is : Bool). (if is then refused {A = AnyPublic} state KeyThere
    else drawing (concat chance.fields) (begun state chance (secret_of_fields spec chance.fields))).drawn) there

publishes : (records : List Record) (found : Option AnyPublic) → QuietIn records (λ entry. ⊥) (published records found)
publishes records (Some public) = λ refusal. absurd (cc (refusal.1))
publishes records None = λ refusal. whole records _ refl refl refl

opens_on : (records : List Record) (found : Option Key) → QuietIn records (λ entry. ⊥) (opened_key records found)
opens_on records None = λ refusal. whole records _ refl refl refl
opens_on records (Some key) = publishes records (any_public_of key)

opens : (state : State) (chance : Opening) (illegal : Option ℕ) → QuietIn state.records (λ entry. ⊥) (opened_illegal state chance illegal)
opens state None None = opens_on state.records (the_key state.records)
opens state None (Some k) = plain state _
opens state (Some (slot, fault)) None = plain state _
opens state (Some (slot, fault)) (Some k) = plain state _

pub after_refusal_law : AfterRefusalLaw
after_refusal_law = record {
  request = λ limit state name chance refusal.
      as_requested state name chance (requested limit state name chance) (has_left limit state name chance refusal);
  retire = λ limit state upto fate refusal. retires limit state upto fate (the_key state.records) refusal;
  create = λ state spec chance can are refusal. creates state spec chance can are chance.failed_load refusal;
  opening = λ state chance refusal. opens state chance (first_illegal state.records) refusal;
  unread = in_turn;
  create_draws = λ state spec chance loads none. drawn_where_none state spec chance chance.failed_load loads none;
  create_draws_none = λ state spec chance why. undrawn_where_some state spec chance chance.failed_load why;
}
