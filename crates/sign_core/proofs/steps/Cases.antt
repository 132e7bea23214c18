-- The model of World from a step on, by what this step finds. Each is the same as the steps by computation.
use Rattle.std.specs.Prelude.{ℕ, ◌+◌, ◌-◌, List, length, drop, not, Option, nat_le, nat_lt, option_map, slice_index_or}
use Rattle.typecodes.specs.declared.spec.Spec.{Spec}
use Rattle.state_file.specs.Laws.{bottom_of}
use Rattle.state_file.specs.declared.record.Bound.{Bound}
use Rattle.state_file.specs.declared.record.Key.{Key}
use Rattle.state_file.specs.declared.record.Record.{Record}
use Rattle.state_file.specs.declared.record.Record.TheVariants.{Key as KeyRecord, Bound as BoundRecord, Retire}
use Rattle.state_file.specs.declared.record.Secret.{Secret}
use Rattle.sign_core.specs.declared.key.AnyPublic.{AnyPublic}
use Rattle.sign_core.specs.declared.fault.SignFault.{SignFault}
use Rattle.sign_core.specs.declared.fault.SignFault.TheVariants.{Changed, Exhausted, RandomFailed, RandomRepeated}
use Rattle.sign_core.specs.declared.fault.SignFault.TheVariants.{Stopped, OutOfMemory, LedgerFull, Damaged, Moved}
use Rattle.sign_core.specs.declared.fault.SignFault.TheVariants.{RetireRange, KeyThere}
use Rattle.sign_core.specs.Records.{are_same, binding_at, has_identifier, has_moved, the_key, leaves_of_current}
use Rattle.sign_core.specs.Records.{next_at, wanted_count}
use Rattle.sign_core.specs.Textbook.{Trees, damaged_at, digest_at, lms_secret, any_public_of, public_of_key, current_at}
use Rattle.sign_core.specs.Textbook.{textbook_signature}
use Rattle.sign_core.specs.Steps.{◌>>=◌, ◌>>◌, Steps, give, run_then}
use Rattle.sign_core.specs.World.{Chance, Creation, Fate, Opening, Outcome, State, append, begin_trees, bind}
use Rattle.sign_core.specs.World.{draw, draw_identifier, draw_seed, event, extend_record, first_refusal, new_bound, new_key}
use Rattle.sign_core.specs.World.{open_state, open_signer, publish, read, refuse_if, refuse_some, secret_of_fields}
use Rattle.sign_core.specs.World.{repeat_or_bind, some_or, the_records, unless}

-- ---- create and open

-- record 0 was read as this key
abbrev pub published : List Record → Option AnyPublic → Outcome AnyPublic
published records public = event (publish public) (open_state records)

-- these fields made this secret
abbrev pub begun : State → Creation → Option Secret → Outcome AnyPublic
begun state chance made = event (do
  secret ← some_or RandomFailed made
  refuse_if OutOfMemory (not chance.has_room)
  key ← give (new_key chance.version secret)
  append (KeyRecord key) chance.fate
  publish (any_public_of key)) state

-- record 0 could be loaded, or couldn't
abbrev pub created_load : Option SignFault → State → Spec → Creation → Outcome AnyPublic
created_load failed state spec chance = event (do
  refuse_some failed
  records ← the_records
  refuse_if KeyThere (nat_le 1 (length records))
  secret ← draw (secret_of_fields spec chance.fields) chance.fields
  refuse_if OutOfMemory (not chance.has_room)
  key ← give (new_key chance.version secret)
  append (KeyRecord key) chance.fate
  publish (any_public_of key)) state

-- the legal records have this key
abbrev pub opened_key : List Record → Option Key → Outcome AnyPublic
opened_key records found = event (publish (public_of_key found)) (open_state records)

-- of the records this one isn't legal
abbrev pub opened_illegal : State → Opening → (illegal : Option ℕ) → Outcome AnyPublic
opened_illegal state chance illegal = event (do
  records ← the_records
  refuse_some (first_refusal chance illegal)
  publish (public_of_key (the_key records))) state

-- ---- a repeat

-- this slot is damaged
abbrev pub repeated_sound : State → Key → (k : ℕ) → Bound → (damaged : Option ℕ) → Outcome (List ℕ)
repeated_sound state key k bound damaged = event (do
  refuse_some (option_map Damaged damaged)
  give (textbook_signature key state.records k bound)) state

-- the message's reader gave this
abbrev pub repeated : State → Key → (k : ℕ) → Bound → Chance → (given : Option (List ℕ)) → Outcome (List ℕ)
repeated state key k bound chance given = event (do
  message ← read given
  refuse_if Changed (not (are_same (digest_at key state.records k bound.leaf bound.randomizer message) bound.digest))
  refuse_if OutOfMemory (not chance.has_room)
  bottom ← give (bottom_of key.secret)
  refuse_some (option_map Damaged (damaged_at key bottom state.records (current_at bottom state.records k)))
  give (textbook_signature key state.records k bound)) state

-- ---- new trees

-- SEED and C are among these fields
abbrev pub extended_seed : State → Trees → (level leaf : ℕ) → (identifier : List ℕ) → (fields : List (List ℕ)) → Fate
    → (List Record → Outcome (List ℕ)) → Outcome (List ℕ)
extended_seed state trees level leaf identifier fields fate next = run_then (do
  drawn ← draw_seed fields
  secret ← give (lms_secret (slice_index_or trees.pairs level trees.top.pair) identifier drawn.0)
  append (extend_record trees state.records level secret drawn.1 leaf) fate) state (λ a later. next later.records)

-- I, too
abbrev pub extended_identifier : State → Trees → (level leaf : ℕ) → (fields : List (List ℕ)) → Fate
    → (List Record → Outcome (List ℕ)) → Outcome (List ℕ)
extended_identifier state trees level leaf fields fate next = run_then (do
  identifier ← draw_identifier fields
  refuse_if RandomRepeated (has_identifier state.records identifier)
  drawn ← draw_seed (drop 1 fields)
  secret ← give (lms_secret (slice_index_or trees.pairs level trees.top.pair) identifier drawn.0)
  append (extend_record trees state.records level secret drawn.1 leaf) fate) state (λ a later. next later.records)

-- ---- a binding

-- C is this, and the message's reader gave this
abbrev pub bound_message : State → Key → (name : List ℕ) → (randomizer given : Option (List ℕ)) → Fate
    → Outcome (List ℕ)
bound_message state key name made given fate = event (do
  randomizer ← some_or RandomFailed made
  message ← read given
  leaf ← give (next_at key.secret state.records (bottom_of key.secret))
  digest ← give (digest_at key state.records (length state.records) leaf randomizer message)
  bound ← give (new_bound name leaf randomizer digest)
  append (BoundRecord bound) fate
  records ← the_records
  give (textbook_signature key records (length state.records) bound)) state

-- this slot is damaged
abbrev pub bound_sound : State → Key → (name : List ℕ) → Chance → (level : ℕ) → (damaged : Option ℕ) → Outcome (List ℕ)
bound_sound state key name chance level damaged = event (do
  refuse_some (option_map Damaged damaged)
  open_signer
  begin_trees key (bottom_of key.secret - level) chance.trees
  bind key name chance) state

-- this level is the deepest with a free leaf
abbrev pub level_steps : (limit : ℕ) → Key → (name : List ℕ) → Chance → (found : Option ℕ) → Steps (List ℕ)
level_steps limit key name chance found = do
  records ← the_records
  level ← some_or Exhausted found
  refuse_if LedgerFull (nat_lt limit (length records + wanted_count key.secret level))
  refuse_if OutOfMemory (not chance.has_room)
  refuse_some (option_map Damaged (damaged_at key level records (current_at level records (length records))))
  open_signer
  begin_trees key (bottom_of key.secret - level) chance.trees
  bind key name chance

abbrev pub bound_level : (limit : ℕ) → State → Key → (name : List ℕ) → Chance → (found : Option ℕ) → Outcome (List ℕ)
bound_level limit state key name chance found = event (level_steps limit key name chance found) state

-- ---- a request

-- record 0 is this key, or none
abbrev pub requested_key : (limit : ℕ) → State → (name : List ℕ) → Chance → Option Key → Outcome (List ℕ)
requested_key limit state name chance found = event (do
  key ← some_or Stopped found
  refuse_if Stopped (not state.is_open)
  refuse_if Moved (has_moved state.records)
  records ← the_records
  repeat_or_bind limit key name chance (binding_at records name)) state

-- ---- retire

-- record 0 is this key, or none
abbrev pub retired_key : (limit : ℕ) → State → (upto : ℕ) → Fate → Option Key → Outcome (Unit {0})
retired_key limit state upto fate found = event (do
  key ← some_or Stopped found
  refuse_if Stopped (not state.is_open)
  refuse_if Moved (has_moved state.records)
  records ← the_records
  bottom ← give (bottom_of key.secret)
  refuse_if RetireRange (nat_lt (leaves_of_current key.secret records bottom) upto)
  unless (nat_le upto (next_at key.secret records bottom)) (do
    refuse_if LedgerFull (nat_lt limit (length records + 1))
    append (Retire upto) fate)) state
