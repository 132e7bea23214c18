-- Steps of World by what they find: a new tree of these trees, this many new trees, a name that is bound or not.
use Rattle.std.specs.Prelude.{ℕ, ◌-◌, List, drop, Option, slice_index_or}
use Rattle.state_file.specs.declared.record.Bound.{Bound}
use Rattle.state_file.specs.declared.record.Key.{Key}
use Rattle.state_file.specs.declared.record.Record.{Record}
use Rattle.sign_core.specs.declared.fault.SignFault.TheVariants.{RandomFailed, RandomRepeated}
use Rattle.sign_core.specs.Records.{has_identifier, next_at}
use Rattle.sign_core.specs.Textbook.{Trees, lms_secret}
use Rattle.sign_core.specs.Steps.{◌>>=◌, ◌>>◌, give, run_then}
use Rattle.sign_core.specs.World.{Chance, Draw, Outcome, State, append, begin_trees, bind, draw_identifier}
use Rattle.sign_core.specs.World.{draw_seed, event, extend_record, open_state, refuse_if, repeat_or_bind, some_or}

-- the key has these trees
abbrev pub extended : State → Key → (level : ℕ) → Option Trees → Draw → (List Record → Outcome (List ℕ))
    → Outcome (List ℕ)
extended state key level found chance next = run_then (do
  trees ← some_or RandomFailed found
  identifier ← draw_identifier chance.fields
  refuse_if RandomRepeated (has_identifier state.records identifier)
  drawn ← draw_seed (drop 1 chance.fields)
  secret ← give (lms_secret (slice_index_or trees.pairs level trees.top.pair) identifier drawn.0)
  leaf ← give (next_at key.secret state.records (level - 1))
  append (extend_record trees state.records level secret drawn.1 leaf) chance.fate) state
    (λ a later. next later.records)

-- this many new trees, and then the binding
abbrev pub bound_trees : Key → (name : List ℕ) → Chance → (below : ℕ) → List Draw → List Record → Outcome (List ℕ)
bound_trees key name chance below draws records = event (do
  begin_trees key below draws
  bind key name chance) (open_state records)

-- the name is bound so, or isn't
abbrev pub requested_binding : (limit : ℕ) → State → Key → (name : List ℕ) → Chance → Option (ℕ × Bound)
    → Outcome (List ℕ)
requested_binding limit state key name chance found = event (repeat_or_bind limit key name chance found) state
