-- A request is answered 27 exactly where its message is read and can't be.
use Rattle.std.proofs.Common.{drop, ◌≡◌, ◌≢◌, ◌∙◌, refl, sym, ℕ, zero, suc, true, List, Option, Some, None, Result, Err}
use Rattle.std.specs.Prelude.{option_map}
use Rattle.state_file.specs.declared.record.Bound.{Bound}
use Rattle.state_file.specs.declared.record.Key.{Key}
use Rattle.sign_core.specs.declared.fault.SignFault.{SignFault}
use Rattle.sign_core.specs.declared.fault.SignFault.TheVariants.{Damaged, MessageRead}
use Rattle.sign_core.specs.Records.{binding_at}
use Rattle.sign_core.specs.Steps.{◌>>◌, Outcome, State}
use Rattle.sign_core.specs.World.{Chance, Draw, begin_trees, bind, repeat_or_bind, request_steps, requested}
use Rattle.sign_core.proofs.steps.NamedRefusals.{damaged_is}
use Rattle.sign_core.proofs.steps.Holds.{HoldsOf, holds}

pub record IsReported (given : Option (List ℕ)) (outcome : Outcome (List ℕ)) : Type 0 where
  pub unread : outcome.answer ≡ Err MessageRead → (outcome.is_read ≡ true) × (given ≡ None)
  pub reported : outcome.is_read ≡ true → given ≡ None → outcome.answer ≡ Err MessageRead

module _ (given : Option (List ℕ)) where
  -- where the message isn't read
  unread : (outcome : Outcome (List ℕ)) → outcome.answer ≢ Err MessageRead → outcome.is_read ≢ true
      → IsReported given outcome
  unread outcome other not = record { unread = λ is. absurd (other is); reported = λ is none. absurd (not is) }

  -- where it can't be
  lost : (outcome : Outcome (List ℕ)) → given ≡ None → outcome.answer ≡ Err MessageRead → outcome.is_read ≡ true
      → IsReported given outcome
  lost outcome none is read = record { unread = λ was. (read, none); reported = λ was still. is }

  -- where it was read
  read : (outcome : Outcome (List ℕ)) (message : List ℕ) → given ≡ Some message → outcome.answer ≢ Err MessageRead
      → IsReported given outcome
  read outcome message gave other = record {
    unread = λ is. absurd (other is);
    reported = λ was none. absurd (let both = sym gave ∙ none in cc (both));
  }

other_fault : (found : Option ℕ) (fault : SignFault) → option_map Damaged found ≡ Some fault
    → ◌≢◌ {A = Result (List ℕ) SignFault} (Err fault) (Err MessageRead)
other_fault found fault some is = let (slot, damaged, same) = damaged_is found fault some in cc (same, is)

reported_trees : (key : Key) (name : List ℕ) (chance : Chance) (below : ℕ) (draws : List Draw) (state : State)
    (Q : Outcome (List ℕ) → Type 0) → ((outcome : Outcome (List ℕ)) → IsReported chance.given outcome → Q outcome)
    → HoldsOf Q (begin_trees key below draws >> bind key name chance) state
reported_trees key name chance zero draws state Q leads =
    let given = chance.given in (
      λ none. leads _ (unread given _ (λ is. cc) (λ is. cc)),
      λ randomizer some. (
        λ none. leads _ (lost given _ none refl refl),
        λ message gave. (
          λ acked. leads _ (read given _ message gave (λ is. cc)),
          λ old. leads _ (read given _ message gave (λ is. cc)),
          λ new. leads _ (read given _ message gave (λ is. cc)),
          λ none. leads _ (read given _ message gave (λ is. cc)),
        ),
      ),
    )
reported_trees key name chance (suc below) draws state Q leads =
    let given = chance.given in (
      λ none. leads _ (unread given _ (λ is. cc) (λ is. cc)),
      λ trees some. (
        λ none. leads _ (unread given _ (λ is. cc) (λ is. cc)),
        λ identifier first. (
          λ known. leads _ (unread given _ (λ is. cc) (λ is. cc)),
          λ new. (
            λ none. leads _ (unread given _ (λ is. cc) (λ is. cc)),
            λ drawn both. (
              λ acked. reported_trees key name chance below (drop 1 draws) _ _
                  (λ outcome is. leads _ (record { unread = is.unread; reported = is.reported })),
              λ old. leads _ (unread given _ (λ is. cc) (λ is. cc)),
              λ new. leads _ (unread given _ (λ is. cc) (λ is. cc)),
              λ none. leads _ (unread given _ (λ is. cc) (λ is. cc)),
            ),
          ),
        ),
      ),
    )

reported_found : (limit : ℕ) (key : Key) (name : List ℕ) (chance : Chance) (found : Option (ℕ × Bound)) (state : State)
    → HoldsOf (IsReported chance.given) (repeat_or_bind limit key name chance found) state
reported_found limit key name chance (Some (k, bound)) state =
    let given = chance.given in (
      λ none. lost given _ none refl refl,
      λ message gave. (
        λ other. read given _ message gave (λ is. cc),
        λ same. (
          λ none. read given _ message gave (λ is. cc),
          λ room. (λ fault some. read given _ message gave (other_fault _ fault some), λ sound. read given _ message gave (λ is. cc)),
        ),
      ),
    )
reported_found limit key name chance None state =
    let given = chance.given in (
      λ long. unread given _ (λ is. cc) (λ is. cc),
      λ short. (
        λ none. unread given _ (λ is. cc) (λ is. cc),
        λ level some. (
          λ full. unread given _ (λ is. cc) (λ is. cc),
          λ fits. (
            λ none. unread given _ (λ is. cc) (λ is. cc),
            λ room. (
              λ fault some. unread given _ (other_fault _ fault some) (λ is. cc),
              λ sound. reported_trees key name chance _ chance.trees _ _ (λ outcome is. is),
            ),
          ),
        ),
      ),
    )

pub is_reported : (limit : ℕ) (state : State) (name : List ℕ) (chance : Chance)
    → IsReported chance.given (requested limit state name chance)
is_reported limit state name chance =
    let given = chance.given in
    holds (IsReported given) (request_steps limit name chance) state (
      λ none. unread given _ (λ is. cc) (λ is. cc),
      λ key keyed. (
        λ closed. unread given _ (λ is. cc) (λ is. cc),
        λ open_now. (
          λ moved. unread given _ (λ is. cc) (λ is. cc),
          λ stays. reported_found limit key name chance (binding_at state.records name) state,
        ),
      ),
    )
