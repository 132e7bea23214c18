-- No refusal of a request but 25 binds a name; and what a retiring answers where it records nothing.
use Rattle.std.proofs.Common.{drop, ◌≡◌, ◌≢◌, ◌∙◌, refl, ap, ℕ, zero, suc, ◌+◌, ◌-◌, ◌<◌, ◌≤◌, Bool, true, false, List}
use Rattle.std.proofs.Common.{length, Some, Err}
use Rattle.std.specs.Prelude.{if◌then◌else◌, nat_le, nat_lt, not}
use Rattle.std.proofs.lemmas.Bool.{le-leb, le-ltb, lt-leb, lt-ltb}
use Rattle.state_file.specs.Laws.{bottom_of}
use Rattle.state_file.specs.declared.record.Key.{Key}
use Rattle.state_file.specs.declared.record.Record.{Record}
use Rattle.state_file.specs.declared.record.Record.TheVariants.{Retire}
use Rattle.sign_core.specs.declared.fault.SignFault.{SignFault}
use Rattle.sign_core.specs.declared.fault.SignFault.TheVariants.{LedgerFull, OutOfMemory, RetireRange, Stopped, StoreFailed}
use Rattle.sign_core.specs.declared.fault.SignFault.TheVariants.{Moved as MovedAway}
use Rattle.sign_core.specs.Retirings.{IsActive, IsBeyondNext}
use Rattle.sign_core.specs.Records.{binding_at, has_moved, the_key, leaves_of_current, next_at}
use Rattle.sign_core.specs.World.{Chance, Draw, Fate, Outcome, State, answered, appended}
use Rattle.sign_core.specs.Steps.{◌>>◌}
use Rattle.sign_core.specs.World.{begin_trees, bind, no_memory, open_state, refused}
use Rattle.sign_core.specs.World.{requested, retired}
use Rattle.sign_core.proofs.steps.Cases.{retired_key}
use Rattle.sign_core.proofs.records.Bindings.{binding_other}
use Rattle.sign_core.proofs.law.DrawsOfRequests.{IsSettled, settled_repeated, settled_key}
use Rattle.sign_core.proofs.steps.Holds.{HoldsOf, holds}

-- ---- what is bound

-- Refused for another reason than 25, each name is bound as it was.
abbrev IsQuiet : (before : List Record) → Outcome (List ℕ) → Type 0
IsQuiet before outcome = (fault : SignFault) (other : List ℕ) → outcome.answer ≡ Err fault → fault ≢ StoreFailed
    → binding_at outcome.state.records other ≡ binding_at before other

quiet_trees : (key : Key) (name : List ℕ) (chance : Chance) (below : ℕ) (draws : List Draw) (records : List Record)
    (Q : Outcome (List ℕ) → Type 0) → ((outcome : Outcome (List ℕ)) → IsQuiet records outcome → Q outcome)
    → HoldsOf Q (begin_trees key below draws >> bind key name chance) (open_state records)
quiet_trees key name chance zero draws records Q leads = (
  λ none. leads _ (λ fault other is not. refl),
  λ randomizer some. (
    λ none. leads _ (λ fault other is not. refl),
    λ message gave. (
      λ acked. leads _ (λ fault other is not. absurd (cc)),
      λ old. leads _ (λ fault other is not. absurd (not (cc))),
      λ new. leads _ (λ fault other is not. absurd (not (cc))),
      λ none. leads _ (λ fault other is not. refl),
    ),
  ),
)
quiet_trees key name chance (suc below) draws records Q leads = (
  λ none. leads _ (λ fault other is not. refl),
  λ trees some. (
    λ none. leads _ (λ fault other is not. refl),
    λ identifier first. (
      λ known. leads _ (λ fault other is not. refl),
      λ new. (
        λ none. leads _ (λ fault other is not. refl),
        λ drawn both. (
          λ acked. quiet_trees key name chance below (drop 1 draws) _ _
              (λ outcome quiet. leads _ (λ fault other is not.
              quiet fault other is not ∙ binding_other records _ other refl)),
          λ old. leads _ (λ fault other is not. absurd (not (cc))),
          λ new. leads _ (λ fault other is not. absurd (not (cc))),
          λ none. leads _ (λ fault other is not. refl),
        ),
      ),
    ),
  ),
)

pub binds_none : (limit : ℕ) (state : State) (name other : List ℕ) (chance : Chance) (fault : SignFault)
    → (requested limit state name chance).answer ≡ Err fault → fault ≢ StoreFailed
    → binding_at (requested limit state name chance).state.records other ≡ binding_at state.records other
binds_none limit state name other chance fault is not =
    let quiet = IsQuiet state.records in
    let settled : IsSettled quiet state =
    record { refused_for = λ fault other name named is not. refl; gives = λ signature fault name is not. refl; read = λ outcome quiet. quiet } in
    settled_key quiet limit state name chance settled.refused_for (the_key state.records) refl
    (λ key k bound is. settled_repeated quiet state chance settled key k bound chance.given)
    (λ key level wants. holds quiet (begin_trees key (bottom_of key.secret - level) chance.trees >> bind key name chance)
    (open_state state.records)
    (quiet_trees key name chance (bottom_of key.secret - level) chance.trees state.records quiet (λ outcome is. is)))
    fault other is not

-- ---- retirings

pub moved_retires : (limit : ℕ) (state : State) (key : Key) (upto : ℕ) (fate : Fate) → state.is_open ≡ true → has_moved state.records ≡ true
    → the_key state.records ≡ Some key → retired limit state upto fate ≡ refused state MovedAway
moved_retires limit state key upto fate open_now moved keyed =
    let bottom = bottom_of key.secret in
    let rest : Bool → Outcome (Unit {0}) = λ moved. if moved then refused state MovedAway
    else (if nat_lt (leaves_of_current key.secret state.records bottom) upto then refused state RetireRange
    else (if nat_le upto (next_at key.secret state.records bottom) then answered state tt
    else (if nat_lt limit (length state.records + 1) then refused state LedgerFull
    else appended state (Retire upto) fate (λ records. answered (open_state records) tt)))) in
    ap (retired_key limit state upto fate) keyed
    ∙ ap (λ test. if not test then refused state Stopped else rest (has_moved state.records)) open_now
    ∙ ap rest moved

-- an active signer's answer: the tree has no such leaves, they are below the next one, or the store is full
by_tests : (state : State) (upto : ℕ) (fate : Fate) (outside past full : Bool) → Outcome (Unit {0})
by_tests state upto fate outside past full =
    if outside then refused state RetireRange
    else (if past then answered state tt
    else (if full then refused state LedgerFull
    else appended state (Retire upto) fate (λ records. answered (open_state records) tt)))

active_retires : (limit : ℕ) (state : State) (key : Key) (upto : ℕ) (fate : Fate) (outside past full : Bool) → IsActive state key
    → nat_lt (leaves_of_current key.secret state.records (bottom_of key.secret)) upto ≡ outside
    → nat_le upto (next_at key.secret state.records (bottom_of key.secret)) ≡ past → nat_lt limit (length state.records + 1) ≡ full
    → retired limit state upto fate ≡ by_tests state upto fate outside past full
unfolding by_tests
active_retires limit state key upto fate outside past full active is_outside is_past is_full =
    let bottom = bottom_of key.secret in
    let fourth : Bool → Outcome (Unit {0}) = λ full. if full then refused state LedgerFull
    else appended state (Retire upto) fate (λ records. answered (open_state records) tt) in
    let third : Bool → Outcome (Unit {0}) = λ past. if past then answered state tt else fourth (nat_lt limit (length state.records + 1)) in
    let second : Bool → Outcome (Unit {0}) = λ outside. if outside then refused state RetireRange
    else third (nat_le upto (next_at key.secret state.records bottom)) in
    let first : Bool → Outcome (Unit {0}) = λ moved. if moved then refused state MovedAway
    else second (nat_lt (leaves_of_current key.secret state.records bottom) upto) in
    ap (retired_key limit state upto fate) active.keyed
    ∙ ap (λ test. if not test then refused state Stopped else first (has_moved state.records)) active.is_open
    ∙ ap first active.stays ∙ ap second is_outside
    ∙ ap (λ b. if outside then refused state RetireRange else third b) is_past
    ∙ ap (λ b. if outside then refused state RetireRange else (if past then answered state tt else fourth b)) is_full

pub retires_outside : (limit : ℕ) (state : State) (key : Key) (upto : ℕ) (fate : Fate) → IsActive state key
    → leaves_of_current key.secret state.records (bottom_of key.secret) < upto → retired limit state upto fate ≡ refused state RetireRange
unfolding by_tests
retires_outside limit state key upto fate active outside =
    active_retires limit state key upto fate true _ _ active (lt-ltb (leaves_of_current key.secret state.records (bottom_of key.secret)) upto outside) refl refl

pub retires_before : (limit : ℕ) (state : State) (key : Key) (upto : ℕ) (fate : Fate) → IsActive state key
    → upto ≤ leaves_of_current key.secret state.records (bottom_of key.secret)
    → upto ≤ next_at key.secret state.records (bottom_of key.secret) → retired limit state upto fate ≡ answered state tt
unfolding by_tests
retires_before limit state key upto fate active inside past =
    active_retires limit state key upto fate false true _ active (le-ltb (leaves_of_current key.secret state.records (bottom_of key.secret)) upto inside)
    (le-leb upto (next_at key.secret state.records (bottom_of key.secret)) past) refl

pub retires_full : (limit : ℕ) (state : State) (key : Key) (upto : ℕ) (fate : Fate) → IsActive state key → IsBeyondNext state.records key upto
    → limit < length state.records + 1
    → retired limit state upto fate ≡ refused state LedgerFull
unfolding by_tests
retires_full limit state key upto fate active beyond full =
    active_retires limit state key upto fate false false true active
    (le-ltb (leaves_of_current key.secret state.records (bottom_of key.secret)) upto beyond.inside)
    (lt-leb upto (next_at key.secret state.records (bottom_of key.secret)) beyond.beyond) (lt-ltb limit (length state.records + 1) full)

pub retires_starved : (limit : ℕ) (state : State) (key : Key) (upto : ℕ) → IsActive state key → IsBeyondNext state.records key upto
    → length state.records + 1 ≤ limit
    → retired limit state upto no_memory ≡ refused state OutOfMemory
unfolding by_tests
retires_starved limit state key upto active beyond fits =
    active_retires limit state key upto no_memory false false false active
    (le-ltb (leaves_of_current key.secret state.records (bottom_of key.secret)) upto beyond.inside)
    (lt-leb upto (next_at key.secret state.records (bottom_of key.secret)) beyond.beyond) (le-ltb limit (length state.records + 1) fits)
