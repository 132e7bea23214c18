-- Where an append is cut, the event with the other outcome of the cut.
use Rattle.std.proofs.Common.{◌≡◌, refl, ap, subst, ℕ, zero, suc, ◌+◌, ◌-◌, List, [], ◌∷◌, length, Option, Some, None, Bool}
use Rattle.std.specs.Prelude.{map, nat_lt, not, option_map}
use Rattle.std.specs.List.{AllByRecursion}
use Rattle.state_file.specs.Laws.{bottom_of}
use Rattle.state_file.specs.declared.record.Bound.{Bound}
use Rattle.state_file.specs.declared.record.Key.{Key}
use Rattle.state_file.specs.declared.record.Record.{Record}
use Rattle.sign_core.specs.declared.fault.SignFault.TheVariants.{Damaged, Exhausted, LedgerFull, LongName, OutOfMemory}
use Rattle.sign_core.specs.Cuts.{CutLaw, IsOther, turned_chance, turned_draw}
use Rattle.sign_core.specs.Records.{binding_at, deepest, is_long, wanted_count}
use Rattle.sign_core.specs.Steps.{◌>>=◌, ◌>>◌, Steps, event}
use Rattle.sign_core.specs.Textbook.{damaged_at, current_at}
use Rattle.sign_core.specs.World.{Chance, Draw, begin_tree, begin_trees, bind, create_steps, first_draw, open_signer}
use Rattle.sign_core.specs.World.{refuse_if, refuse_some, repeat_or_bind, request_steps, requested, retire_steps}
use Rattle.sign_core.specs.World.{signing_key, some_or, the_records}
use Rattle.sign_core.proofs.records.Parts.{IsTreeDraw}
use Rattle.sign_core.proofs.steps.Turned.{other_event, turned_steps}

-- ---- requests

turned_trees : (key : Key) (name : List ℕ) (chance : Chance) (below : ℕ) (draws : List Draw)
    → turned_steps (begin_trees key below draws >> bind key name chance)
    ≡ (begin_trees key below (map turned_draw draws) >> bind key name (turned_chance chance))
turned_trees key name chance zero draws = refl
turned_trees key name chance (suc below) [] =
    ap (λ (rest : Steps (List ℕ)). begin_tree key (bottom_of key.secret - below) (first_draw []) >> rest)
    (turned_trees key name chance below [])
turned_trees key name chance (suc below) (draw ∷ draws) =
    ap (λ (rest : Steps (List ℕ)). begin_tree key (bottom_of key.secret - below) (turned_draw draw) >> rest)
    (turned_trees key name chance below draws)

-- a new name, whose trees and binding come of `rest`, by their level
abbrev new_name : (limit : ℕ) → Key → (name : List ℕ) → (has_room : Bool) → (rest : ℕ → Steps (List ℕ)) → Steps (List ℕ)
new_name limit key name has_room rest = do
  refuse_if LongName (is_long key name)
  records ← the_records
  level ← some_or Exhausted (deepest key.secret records)
  refuse_if LedgerFull (nat_lt limit (length records + wanted_count key.secret level))
  refuse_if OutOfMemory (not has_room)
  refuse_some (option_map Damaged (damaged_at key level records (current_at level records (length records))))
  open_signer
  rest level

turned_found : (limit : ℕ) (key : Key) (name : List ℕ) (chance : Chance) (found : Option (ℕ × Bound))
    → turned_steps (repeat_or_bind limit key name chance found)
    ≡ repeat_or_bind limit key name (turned_chance chance) found
turned_found limit key name chance (Some (k, bound)) = refl
turned_found limit key name chance None =
    ap (new_name limit key name chance.has_room)
    (λ i level. turned_trees key name chance (bottom_of key.secret - level) chance.trees i)

-- the steps of an open signer
abbrev signing : (rest : Key → List Record → Steps (List ℕ)) → Steps (List ℕ)
signing rest = do
  key ← signing_key
  records ← the_records
  rest key records

turned_request : (limit : ℕ) (name : List ℕ) (chance : Chance)
    → turned_steps (request_steps limit name chance) ≡ request_steps limit name (turned_chance chance)
turned_request limit name chance =
    ap signing (λ i key records. turned_found limit key name chance (binding_at records name) i)

-- ---- events

turned_draws : (draws : List Draw) → AllByRecursion IsTreeDraw draws → AllByRecursion IsTreeDraw (map turned_draw draws)
turned_draws [] all = all
turned_draws (draw ∷ draws) all = (all.0, turned_draws draws all.1)

pub cut_law : CutLaw
cut_law = record {
  creates = λ state spec chance. other_event (create_steps spec chance) state;
  requests = λ limit state name chance.
      subst (λ steps. IsOther (requested limit state name chance) (event steps state))
      (turned_request limit name chance) (other_event (request_steps limit name chance) state);
  retires = λ limit state upto fate. other_event (retire_steps limit upto fate) state;
  events = λ spec creation name chance. (
    λ can. can,
    λ can. (can.0, record { trees = turned_draws chance.trees can.1.trees; bound = can.1.bound }),
  );
}
