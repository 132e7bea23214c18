-- Which refusals the steps of a request name.
use Rattle.std.proofs.Common.{drop, ◌≡◌, ◌≢◌, ◌∙◌, refl, sym, ap, subst, ℕ, zero, suc, ◌-◌, Bool, true, false, List, Option, Some, None, Err, true≢false}
use Rattle.std.specs.Prelude.{option_map}
use Rattle.std.proofs.lemmas.Option.{same_Some}
use Rattle.state_file.specs.Laws.{bottom_of}
use Rattle.state_file.specs.declared.record.Bound.{Bound}
use Rattle.state_file.specs.declared.record.Key.{Key}
use Rattle.sign_core.specs.declared.fault.SignFault.{SignFault}
use Rattle.sign_core.specs.declared.fault.SignFault.TheVariants.{Changed, Damaged, Exhausted, LedgerFull, LongName}
use Rattle.sign_core.specs.declared.fault.SignFault.TheVariants.{MessageRead, Moved, OutOfMemory, RandomFailed}
use Rattle.sign_core.specs.declared.fault.SignFault.TheVariants.{RandomRepeated, Stopped, StoreFailed}
use Rattle.sign_core.specs.Records.{binding_at, deepest, the_key}
use Rattle.sign_core.specs.Steps.{◌>>◌, State}
use Rattle.sign_core.specs.Textbook.{damaged_at}
use Rattle.sign_core.specs.World.{Chance, Draw, begin_trees, bind, repeat_or_bind, request_steps}
use Rattle.sign_core.proofs.steps.Cases.{level_steps}
use Rattle.sign_core.proofs.steps.Settled.{AllRefusals, Settles}

-- a fault other than 22, 25 and 28
abbrev pub is_plain : SignFault → Bool
is_plain Exhausted = false
is_plain StoreFailed = false
is_plain (Damaged slot) = false
is_plain fault = true

-- P of each damaged record of the state's trees
abbrev pub IsOfDamaged : (P : SignFault → Type 0) → State → Key → Type 0
IsOfDamaged P state key =
    (level tree slot : ℕ) → damaged_at key level state.records tree ≡ Some slot → P (Damaged slot)

-- 28 comes of a damaged record.
pub damaged_is : (found : Option ℕ) (fault : SignFault) → option_map Damaged found ≡ Some fault
    → (slot : ℕ) × (found ≡ Some slot) × (fault ≡ Damaged slot)
damaged_is None fault is = absurd (cc)
damaged_is (Some slot) fault is = (slot, refl, sym (same_Some (Damaged slot) fault is))

module _ (P : SignFault → Type 0) (plain : (fault : SignFault) → is_plain fault ≡ true → P fault) where
  of_damaged : (found : Option ℕ) → ((slot : ℕ) → found ≡ Some slot → P (Damaged slot)) → (fault : SignFault)
      → option_map Damaged found ≡ Some fault → P fault
  of_damaged found bad fault is =
      let (slot, damaged, same) = damaged_is found fault is in
      subst P (sym same) (bad slot damaged)

  pub trees_refuse : (key : Key) (name : List ℕ) (chance : Chance) (below : ℕ) (draws : List Draw) (state : State)
      → AllRefusals P (begin_trees key below draws >> bind key name chance) state
  trees_refuse key name chance zero draws state = (
    λ none. plain RandomFailed refl,
    λ randomizer some. (plain MessageRead refl, λ message gave. (plain OutOfMemory refl, tt)),
  )
  trees_refuse key name chance (suc below) draws state = (
    λ none. plain RandomFailed refl,
    λ trees some. (
      λ none. plain RandomFailed refl,
      λ identifier first. (
        λ known. plain RandomRepeated refl,
        λ new. (
          λ none. plain RandomFailed refl,
          λ drawn both. (plain OutOfMemory refl, trees_refuse key name chance below (drop 1 draws) _),
        ),
      ),
    ),
  )

  -- a new name, where this is the deepest level with a free leaf
  pub level_refuses : (limit : ℕ) (key : Key) (name : List ℕ) (chance : Chance) (found : Option ℕ) (state : State)
      → IsOfDamaged P state key → (found ≡ None → P Exhausted)
      → AllRefusals P (level_steps limit key name chance found) state
  level_refuses limit key name chance found state bad used_up = (
    used_up,
    λ level some. (
      λ full. plain LedgerFull refl,
      λ fits. (
        λ none. plain OutOfMemory refl,
        λ room. (
          of_damaged _ (bad level _),
          trees_refuse key name chance (bottom_of key.secret - level) chance.trees _,
        ),
      ),
    ),
  )

  found_refuses : (limit : ℕ) (key : Key) (name : List ℕ) (chance : Chance) (found : Option (ℕ × Bound)) (state : State)
      → IsOfDamaged P state key → P Exhausted → AllRefusals P (repeat_or_bind limit key name chance found) state
  found_refuses limit key name chance (Some (k, bound)) state bad used_up = (
    plain MessageRead refl,
    λ message gave. (
      λ other. plain Changed refl,
      λ same. (λ none. plain OutOfMemory refl, λ room. (of_damaged _ (bad (bottom_of key.secret) _), tt)),
    ),
  )
  found_refuses limit key name chance None state bad used_up = (
    λ long. plain LongName refl,
    λ short. level_refuses limit key name chance (deepest key.secret state.records) state bad (λ none. used_up),
  )

  pub request_refuses : (limit : ℕ) (name : List ℕ) (chance : Chance) (state : State)
      → ((key : Key) → the_key state.records ≡ Some key → IsOfDamaged P state key) → P Exhausted
      → AllRefusals P (request_steps limit name chance) state
  request_refuses limit name chance state bad used_up = (
    λ none. plain Stopped refl,
    λ key keyed. (
      λ closed. plain Stopped refl,
      λ open_now. (
        λ moved. plain Moved refl,
        λ stays. found_refuses limit key name chance (binding_at state.records name) state (bad key keyed) used_up,
      ),
    ),
  )

-- ---- what no answer is

pub not_damaged : (slot : ℕ) (fault : SignFault) → is_plain fault ≡ true → fault ≢ Damaged slot
not_damaged slot fault plain is = absurd (true≢false (sym plain ∙ ap is_plain is))

-- an answer isn't this refusal, where no step is
pub never_settled : {A : Type 0} (never : SignFault) → StoreFailed ≢ never
    → Settles {A = A} (λ fault. fault ≢ never) (λ outcome. outcome.answer ≢ Err never)
never_settled never not = record {
  answers = λ state a is. cc;
  refuses = λ state fault other is. other (cc);
  cuts = λ acknowledged entry left is. not (cc);
  draws = λ bytes outcome other. other;
  reads = λ outcome other. other;
}
