-- The world of one key, and what each event does to it: its records, whether a signer is open on them, and what was
-- handed out.
use Rattle.std.specs.Prelude.{ℕ, zero, suc, ◌+◌, ◌-◌, Bool, true, false, not, ◌&&◌, List, [], ◌∷◌, ◌++◌, length}
use Rattle.std.specs.Prelude.{drop, replicate, slice_get, slice_index_or}
use Rattle.std.specs.Prelude.{Option, Some, None, option_map, Result, Ok, nat_le, nat_lt, if◌then◌else◌}
use Rattle.std.specs.List.{concat}
use Rattle.std.specs.Option.{option_map_or}
use Rattle.typecodes.specs.declared.spec.Spec.{Spec}
use Rattle.typecodes.specs.declared.spec.Spec.TheVariants.{Lms as LmsSpec, Hss as HssSpec, Xmss as XmssSpec}
use Rattle.lmots.specs.Key.{message_digest_of}
use Rattle.typecodes.specs.declared.secret.LmsSecret.{LmsSecret}
use Rattle.lms.specs.Secret.{public_of}
use Rattle.lms.specs.Writing.{public_bytes}
use Rattle.state_file.specs.Carried.{carried, with_moved}
use Rattle.state_file.specs.Laws.{bottom_of}
use Rattle.state_file.specs.declared.record.Bound.{Bound}
use Rattle.state_file.specs.declared.record.Key.{Key}
use Rattle.state_file.specs.declared.record.Record.{Record}
use Rattle.state_file.specs.declared.record.Record.TheVariants.{Key as KeyRecord, Extend as ExtendRecord}
use Rattle.state_file.specs.declared.record.Record.TheVariants.{Bound as BoundRecord, Retire}
use Rattle.state_file.specs.declared.record.Secret.{Secret}
use Rattle.state_file.specs.declared.record.Secret.TheVariants.{Lms, Hss, Xmss}
use Rattle.state_file.specs.declared.record.Version.{Version}
use Rattle.sign_core.specs.declared.key.AnyPublic.{AnyPublic}
use Rattle.sign_core.specs.declared.fault.SignFault.{SignFault}
use Rattle.sign_core.specs.declared.fault.SignFault.TheVariants.{Changed, Exhausted, RandomFailed, RandomRepeated}
use Rattle.sign_core.specs.declared.fault.SignFault.TheVariants.{Stopped, Damaged, OutOfMemory, LedgerFull}
use Rattle.sign_core.specs.declared.fault.SignFault.TheVariants.{Moved, RetireRange, LongName, NoKey, Illegal, KeyThere}
use Rattle.sign_core.specs.Records.{are_same, binding_at, can_move, deepest, first_illegal, has_identifier}
use Rattle.sign_core.specs.Records.{has_moved}
use Rattle.sign_core.specs.Records.{is_long, the_key, leaves_of_current, next_at, wanted_count}
use Rattle.sign_core.specs.Textbook.{Trees, damaged_at, digest_at, lms_secret, any_public_of, public_of_key, key_root}
use Rattle.sign_core.specs.Textbook.{secret_at, textbook_signature, current_at, trees_of}
pub use Rattle.sign_core.specs.Steps.{Fate, Outcome, State, Steps, acked, answered, appended, closed_state, cut}
pub use Rattle.sign_core.specs.Steps.{cut_new, cut_old, drawing, event, no_memory, open_state, reading, refused}
pub use Rattle.sign_core.specs.Steps.{run_then}
use Rattle.sign_core.specs.Steps.{◌>>=◌, ◌>>◌, append_record, choose, draw_bytes, give, hold, look, pass, read_message}
use Rattle.sign_core.specs.Steps.{refuse, take_some}

-- ---- steps

abbrev pub the_state : Steps State
the_state = look give

abbrev pub the_records : Steps (List Record)
the_records = look (λ state. give state.records)

abbrev pub some_or : {A : Type 0} → SignFault → Option A → Steps A
some_or fault found = take_some fault found give

abbrev pub refuse_if : SignFault → Bool → Steps (Unit {0})
refuse_if fault wrong = choose wrong (refuse fault) (give tt)

abbrev pub refuse_some : Option SignFault → Steps (Unit {0})
refuse_some found = pass found (give tt)

-- nothing is done where this holds
abbrev pub unless : Bool → Steps (Unit {0}) → Steps (Unit {0})
unless done steps = choose done (give tt) steps

abbrev pub close : Steps (Unit {0})
close = hold false (give tt)

abbrev pub open_signer : Steps (Unit {0})
open_signer = hold true (give tt)

-- Fields are drawn and made into a value; there is none where the source failed.
abbrev pub draw : {A : Type 0} → (made : Option A) → (fields : List (List ℕ)) → Steps A
draw made fields = draw_bytes (concat fields) (some_or RandomFailed made)

abbrev pub read : Option (List ℕ) → Steps (List ℕ)
read given = read_message given give

-- a record is appended, and the signer is open on the new records
abbrev pub append : Record → Fate → Steps (Unit {0})
append entry fate = append_record entry fate (give tt)

-- ---- create

-- A create's version and chance: why record 0 couldn't be loaded, if so; the source's fields, fewer where it failed;
-- whether memory was granted, which a signer's create doesn't ask for; and the append's fate.
pub record Creation : Type 0 where
  pub version : Version
  pub failed_load : Option SignFault
  pub fields : List (List ℕ)
  pub has_room : Bool
  pub fate : Fate

-- a key's secret: I and SEED, or the three seeds of XMSS, in the order of their draws
abbrev pub secret_of_fields : Spec → (fields : List (List ℕ)) → Option Secret
secret_of_fields (LmsSpec pair) (identifier ∷ seed ∷ []) = Some (Lms (lms_secret pair identifier seed))
secret_of_fields (HssSpec levels) (identifier ∷ seed ∷ []) = Some (Hss levels identifier seed)
secret_of_fields (XmssSpec tree) (secret_seed ∷ prf_key ∷ public_seed ∷ []) =
    Some (Xmss (record { tree = tree; secret_seed = secret_seed; prf_key = prf_key; public_seed = public_seed }))
secret_of_fields _ _ = None

abbrev pub new_key : Version → Secret → Key
new_key version secret = record { version = version; secret = secret; root = key_root secret }

-- The public key of record 0 is answered, and the signer is open; where record 0 is no key, the signer is closed.
abbrev pub publish : Option AnyPublic → Steps AnyPublic
publish public = do
  close
  known ← some_or NoKey public
  open_signer
  give known

-- A create: it begins a key where no record stands.
abbrev pub create_steps : Spec → Creation → Steps AnyPublic
create_steps spec chance = do
  refuse_some chance.failed_load
  records ← the_records
  refuse_if KeyThere (nat_le 1 (length records))
  secret ← draw (secret_of_fields spec chance.fields) chance.fields
  refuse_if OutOfMemory (not chance.has_room)
  key ← give (new_key chance.version secret)
  append (KeyRecord key) chance.fate
  publish (any_public_of key)

abbrev pub created : State → Spec → Creation → Outcome AnyPublic
created state spec chance = event (create_steps spec chance) state

-- ---- open

-- An opening's chance: the record that couldn't be loaded, or found no memory, and why.
abbrev pub Opening : Type 0
Opening = Option (ℕ × SignFault)

-- the first record that can't be loaded or isn't legal
abbrev pub first_refusal : Opening → (illegal : Option ℕ) → Option SignFault
first_refusal None None = None
first_refusal None (Some k) = Some (Illegal k)
first_refusal (Some (slot, fault)) None = Some fault
first_refusal (Some (slot, fault)) (Some k) = Some (if nat_lt k slot then Illegal k else fault)

-- An opening: it goes over the records in their order, and refuses the first that can't be loaded or isn't legal.
abbrev pub open_steps : Opening → Steps AnyPublic
open_steps chance = do
  records ← the_records
  refuse_some (first_refusal chance (first_illegal records))
  publish (public_of_key (the_key records))

abbrev pub opened : State → Opening → Outcome AnyPublic
opened state chance = event (open_steps chance) state

-- ---- requests

-- The chance of a new record: the fields that the source gave for it, fewer where it failed, and what became of its
-- append.
pub record Draw : Type 0 where
  pub fields : List (List ℕ)
  pub fate : Fate

-- A request's chance: whether memory was granted for its output, its records and the caches of current trees; each new
-- tree's draw, from the top down, and the binding's. And what the message's reader gave, None where it failed.
pub record Chance : Type 0 where
  pub has_room : Bool
  pub trees : List Draw
  pub bound : Draw
  pub given : Option (List ℕ)

abbrev pub first_draw : List Draw → Draw
first_draw [] = record { fields = []; fate = acked }
first_draw (draw ∷ draws) = draw

-- the key that an open signer signs with
abbrev pub signing_key : Steps Key
signing_key = do
  state ← the_state
  key ← some_or Stopped (the_key state.records)
  refuse_if Stopped (not state.is_open)
  refuse_if Moved (has_moved state.records)
  give key

-- A name that the record at place k binds: its recorded signature, if the message has the recorded digest.
abbrev pub repeat : Key → (k : ℕ) → Bound → Chance → Steps (List ℕ)
repeat key k bound chance = do
  records ← the_records
  message ← read chance.given
  refuse_if Changed (not (are_same (digest_at key records k bound.leaf bound.randomizer message) bound.digest))
  refuse_if OutOfMemory (not chance.has_room)
  bottom ← give (bottom_of key.secret)
  refuse_some (option_map Damaged (damaged_at key bottom records (current_at bottom records k)))
  give (textbook_signature key records k bound)

-- a new tree of a level, whose public key a leaf of its parent tree signs
abbrev pub extend_record : Trees → List Record → (level : ℕ) → LmsSecret → (randomizer : List ℕ) → (leaf : ℕ) → Record
extend_record trees records level secret randomizer leaf =
    let parent = secret_at trees records (current_at (level - 1) records (length records)) in
    let public = public_of secret in
    ExtendRecord (record {
      level = level;
      parent_leaf = leaf;
      identifier = secret.identifier;
      seed = secret.seed;
      randomizer = randomizer;
      digest = message_digest_of parent.identifier leaf randomizer (public_bytes public);
      root = public.root;
    })

-- I of a new tree
abbrev pub draw_identifier : (fields : List (List ℕ)) → Steps (List ℕ)
draw_identifier fields = draw_bytes (slice_index_or fields 0 []) (some_or RandomFailed (slice_get fields 0))

-- SEED of a new tree, and C of the signature of its public key
abbrev pub seed_and_randomizer : (fields : List (List ℕ)) → Option (List ℕ × List ℕ)
seed_and_randomizer (seed ∷ randomizer ∷ []) = Some (seed, randomizer)
seed_and_randomizer fields = None

abbrev pub draw_seed : (fields : List (List ℕ)) → Steps (List ℕ × List ℕ)
draw_seed fields =
    let both = seed_and_randomizer fields in
    draw_bytes (option_map_or (λ drawn. drawn.0 ++ drawn.1) both (concat fields)) (some_or RandomFailed both)

-- A new tree of a level: I is drawn, which no record may have yet; then SEED and C.
-- Requirement: RFC 8554 6, independent
-- Requirement: RFC 8554 7.1, identifier
abbrev pub begin_tree : Key → (level : ℕ) → Draw → Steps (Unit {0})
begin_tree key level chance = do
  records ← the_records
  trees ← some_or RandomFailed (trees_of key.secret)
  identifier ← draw_identifier chance.fields
  refuse_if RandomRepeated (has_identifier records identifier)
  drawn ← draw_seed (drop 1 chance.fields)
  secret ← give (lms_secret (slice_index_or trees.pairs level trees.top.pair) identifier drawn.0)
  leaf ← give (next_at key.secret records (level - 1))
  append (extend_record trees records level secret drawn.1 leaf) chance.fate

-- a new tree for each of the lowest levels, this many of them
abbrev pub begin_trees : Key → (below : ℕ) → List Draw → Steps (Unit {0})
begin_trees key zero draws = give tt
begin_trees key (suc below) draws = do
  begin_tree key (bottom_of key.secret - below) (first_draw draws)
  begin_trees key below (drop 1 draws)

-- C; XMSS draws none, since it makes it from the leaf's number
-- Requirement: RFC 8554 7.1, randomizer
abbrev pub randomizer_of_fields : Secret → (fields : List (List ℕ)) → Option (List ℕ)
randomizer_of_fields (Xmss secret) [] = Some (replicate 32 0)
randomizer_of_fields (Xmss secret) fields = None
randomizer_of_fields _ (randomizer ∷ []) = Some randomizer
randomizer_of_fields _ _ = None

abbrev pub new_bound : (name : List ℕ) → (leaf : ℕ) → (randomizer digest : List ℕ) → Bound
new_bound name leaf randomizer digest =
    record { name = name; leaf = leaf; randomizer = randomizer; digest = digest }

-- Requirement: RFC 8554 5.4.1, next
-- Requirement: RFC 8391 4.1.9, updated
abbrev pub bind : Key → (name : List ℕ) → Chance → Steps (List ℕ)
bind key name chance = do
  old ← the_records
  randomizer ← draw (randomizer_of_fields key.secret chance.bound.fields) chance.bound.fields
  message ← read chance.given
  leaf ← give (next_at key.secret old (bottom_of key.secret))
  digest ← give (digest_at key old (length old) leaf randomizer message)
  bound ← give (new_bound name leaf randomizer digest)
  append (BoundRecord bound) chance.bound.fate
  records ← the_records
  give (textbook_signature key records (length old) bound)

-- A new name: new trees for the levels below the deepest one with a free leaf, and then the binding.
abbrev pub bind_new_name : (limit : ℕ) → Key → (name : List ℕ) → Chance → Steps (List ℕ)
bind_new_name limit key name chance = do
  refuse_if LongName (is_long key name)
  records ← the_records
  level ← some_or Exhausted (deepest key.secret records)
  refuse_if LedgerFull (nat_lt limit (length records + wanted_count key.secret level))
  refuse_if OutOfMemory (not chance.has_room)
  refuse_some (option_map Damaged (damaged_at key level records (current_at level records (length records))))
  open_signer
  begin_trees key (bottom_of key.secret - level) chance.trees
  bind key name chance

abbrev pub repeat_or_bind : (limit : ℕ) → Key → (name : List ℕ) → Chance → Option (ℕ × Bound) → Steps (List ℕ)
repeat_or_bind limit key name chance (Some (k, bound)) = repeat key k bound chance
repeat_or_bind limit key name chance None = bind_new_name limit key name chance

-- A request to sign a message under a name.
abbrev pub request_steps : (limit : ℕ) → (name : List ℕ) → Chance → Steps (List ℕ)
request_steps limit name chance = do
  key ← signing_key
  records ← the_records
  repeat_or_bind limit key name chance (binding_at records name)

abbrev pub requested : (limit : ℕ) → State → (name : List ℕ) → Chance → Outcome (List ℕ)
requested limit state name chance = event (request_steps limit name chance) state

-- ---- retire

-- The leaves of the current bottom tree below `upto` are retired, by a record, unless they are used already.
abbrev pub retire_steps : (limit : ℕ) → (upto : ℕ) → Fate → Steps (Unit {0})
retire_steps limit upto fate = do
  key ← signing_key
  records ← the_records
  bottom ← give (bottom_of key.secret)
  refuse_if RetireRange (nat_lt (leaves_of_current key.secret records bottom) upto)
  unless (nat_le upto (next_at key.secret records bottom)) (do
    refuse_if LedgerFull (nat_lt limit (length records + 1))
    append (Retire upto) fate)

abbrev pub retired : (limit : ℕ) → State → (upto : ℕ) → Fate → Outcome (Unit {0})
retired limit state upto fate = event (retire_steps limit upto fate) state

-- ---- whole runs

pub record Handed : Type 0 where
  pub name : List ℕ
  pub message : List ℕ
  pub signature : List ℕ

pub record World : Type 0 where
  pub state : State
  pub handed : List Handed

abbrev pub beginning : World
beginning = record { state = closed_state []; handed = [] }

-- What becomes of a migration: the records stay; a Moved follows them; or, where it is Ok, they are carried over
-- without it, in version 2.
pub data Migration : Type 0 where
  left_alone : Migration
  sealed : Migration
  carried_over : Migration

abbrev pub migrated_list : List Record → Migration → List Record
migrated_list records left_alone = records
migrated_list records sealed = with_moved records
migrated_list records carried_over = carried records

-- A migration of records of version 1, while no signer is open. Else nothing changes.
abbrev pub migrated : State → Migration → State
migrated state fate =
    let can = option_map_or (λ key. can_move key.version) (the_key state.records) false in
    if can && not state.is_open then closed_state (migrated_list state.records fate) else state

pub data Event : Type 0 where
  create : Spec → Creation → Event
  reopen : Opening → Event
  request : (name : List ℕ) → Chance → Event
  retire : (upto : ℕ) → Fate → Event
  migrate : Migration → Event
  stop : Event

abbrev pub newly_handed : (name : List ℕ) → (given : Option (List ℕ)) → Result (List ℕ) SignFault → List Handed
newly_handed name (Some message) (Ok signature) = record { name = name; message = message; signature = signature } ∷ []
newly_handed name _ _ = []

-- an event in a world whose store takes `limit` records
abbrev pub after : (limit : ℕ) → World → Event → World
after limit world (create spec chance) = record world { state = (created world.state spec chance).state }
after limit world (reopen chance) = record world { state = (opened world.state chance).state }
after limit world (request name chance) =
    let outcome = requested limit world.state name chance in
    record { state = outcome.state; handed = world.handed ++ newly_handed name chance.given outcome.answer }
after limit world (retire upto fate) = record world { state = (retired limit world.state upto fate).state }
after limit world (migrate fate) = record world { state = migrated world.state fate }
after limit world stop = record world { state = closed_state world.state.records }

abbrev pub run : (limit : ℕ) → World → List Event → World
run limit world [] = world
run limit world (event ∷ events) = run limit (after limit world event) events
