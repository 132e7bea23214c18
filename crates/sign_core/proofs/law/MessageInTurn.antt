-- When the message of a new name is read: once memory is granted, its new trees are recorded, and C is drawn.
use Rattle.std.proofs.Common.{drop, ◌≡◌, ◌∙◌, refl, sym, subst, ℕ, zero, suc, ◌+◌, ◌-◌, ◌≤◌, true, false, List, []}
use Rattle.std.proofs.Common.{◌∷◌, ◌++◌, length, Option, Some, None, Err, true≢false, arith}
use Rattle.std.specs.Prelude.{IsSome}
use Rattle.std.proofs.lemmas.List.{length_push}
use Rattle.std.proofs.lemmas.Option.{none-some}
use Rattle.state_file.specs.Laws.{bottom_of}
use Rattle.state_file.specs.declared.record.Key.{Key}
use Rattle.state_file.specs.declared.record.Record.{Record}
use Rattle.sign_core.specs.declared.fault.SignFault.{SignFault}
use Rattle.sign_core.specs.AfterRefusal.{IsInTurn, is_after_message}
use Rattle.sign_core.specs.Records.{binding_at, the_key}
use Rattle.sign_core.specs.Steps.{◌>>◌}
use Rattle.sign_core.specs.World.{Chance, Draw, Outcome, State, begin_trees, bind, open_state, randomizer_of_fields}
use Rattle.sign_core.specs.World.{requested}
use Rattle.sign_core.proofs.law.DrawsOfRequests.{settled_room}
use Rattle.sign_core.proofs.steps.Holds.{HoldsOf, holds}

-- A message that was read came after this many more trees, and after C.
record FollowsTrees (secret_made : Option (List ℕ)) (records : List Record) (below : ℕ) (outcome : Outcome (List ℕ)) : Type 0 where
  pub trees : length records + below ≤ length outcome.acknowledged
  pub randomizer : IsSome secret_made
  pub refusals : (fault : SignFault) → outcome.answer ≡ Err fault → is_after_message fault ≡ true

abbrev IsReadLate : Option (List ℕ) → List Record → (below : ℕ) → Outcome (List ℕ) → Type 0
IsReadLate made records below outcome = outcome.is_read ≡ true → FollowsTrees made records below outcome

unread : {A : Type 0} → false ≡ true → A
unread is = absurd (true≢false (sym is))

longer : (records : List Record) (entry : Record) → length records + 0 ≤ length (records ++ entry ∷ [])
longer records entry = omega (arith, length_push records entry)

more_trees : (records : List Record) (entry : Record) (below n : ℕ) → length (records ++ entry ∷ []) + below ≤ n
    → length records + suc below ≤ n
more_trees records entry below n within = omega (arith, within, length_push records entry)

is_made : {A : Type 0} {found : Option A} {x : A} → found ≡ Some x → IsSome found
is_made is = subst IsSome (sym is) refl

late_trees : (key : Key) (name : List ℕ) (chance : Chance) (below : ℕ) (draws : List Draw) (records : List Record)
    (Q : Outcome (List ℕ) → Type 0)
    → ((outcome : Outcome (List ℕ))
    → IsReadLate (randomizer_of_fields key.secret chance.bound.fields) records below outcome → Q outcome)
    → HoldsOf Q (begin_trees key below draws >> bind key name chance) (open_state records)
late_trees key name chance zero draws records Q leads = (
  λ none. leads _ (λ is. unread is),
  λ randomizer made. (
    λ none. leads _ (λ is. record { trees = omega arith; randomizer = is_made made; refusals = λ fault same. cc }),
    λ message gave. (
      λ done. leads _ (λ is. record { trees = longer records _; randomizer = is_made made; refusals = λ fault same. absurd (cc) }),
      λ old. leads _ (λ is. record { trees = omega arith; randomizer = is_made made; refusals = λ fault same. cc }),
      λ new. leads _ (λ is. record { trees = omega arith; randomizer = is_made made; refusals = λ fault same. cc }),
      λ none. leads _ (λ is. record { trees = omega arith; randomizer = is_made made; refusals = λ fault same. cc }),
    ),
  ),
)
late_trees key name chance (suc below) draws records Q leads = (
  λ none. leads _ (λ is. unread is),
  λ trees some. (
    λ none. leads _ (λ is. unread is),
    λ identifier first. (
      λ known. leads _ (λ is. unread is),
      λ new. (
        λ none. leads _ (λ is. unread is),
        λ drawn both. (
          λ done. late_trees key name chance below (drop 1 draws) _ _ (λ outcome late. leads _ (λ is.
              let follows = late is in
              record {
                trees = more_trees records _ below _ follows.trees;
                randomizer = follows.randomizer;
                refusals = follows.refusals;
              })),
          λ old. leads _ (λ is. unread is),
          λ new. leads _ (λ is. unread is),
          λ none. leads _ (λ is. unread is),
        ),
      ),
    ),
  ),
)

pub in_turn : (limit : ℕ) (state : State) (name : List ℕ) (chance : Chance) → binding_at state.records name ≡ None
    → (requested limit state name chance).is_read ≡ true → IsInTurn state name chance (requested limit state name chance)
in_turn limit state name chance unbound =
    settled_room (λ outcome. outcome.is_read ≡ true → IsInTurn state name chance outcome) limit state name chance
    (λ fault other is. unread is) (the_key state.records) refl
    (λ key k bound found. absurd (none-some _ (sym unbound ∙ found)))
    (λ key level wants room is.
    let below = bottom_of key.secret - level in
    let late = holds (IsReadLate (randomizer_of_fields key.secret chance.bound.fields) state.records below)
    (begin_trees key below chance.trees >> bind key name chance) (open_state state.records)
    (late_trees key name chance below chance.trees state.records _ (λ outcome late. late)) in
    let follows = late is in
    record {
      key = key;
      level = level;
      wants = wants;
      room = room;
      trees = follows.trees;
      randomizer = follows.randomizer;
      refusals = follows.refusals;
    })
