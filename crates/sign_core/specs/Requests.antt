-- What the law over all runs says of requests: which are signed, repeated or refused, and what they draw and change.
use Rattle.std.specs.Prelude.{◌≡◌, ℕ, ◌+◌, List, [], ◌∷◌, length, map, ◌≢◌, ◌⊎◌, ◌↔◌, ◌-◌, ◌*◌, ◌<◌, ◌≤◌}
use Rattle.std.specs.Prelude.{true, false, ◌++◌}
use Rattle.std.specs.Prelude.{Contains, sum, IsSome, Some, None, Ok, Err, if◌then◌else◌, slice_get, take}
use Rattle.sign_core.specs.Textbook.{textbook_signature, digest_at}
use Rattle.std.specs.List.{concat}
use Rattle.state_file.specs.Laws.{bottom_of}
use Rattle.state_file.specs.Slot.{name_most}
use Rattle.state_file.specs.declared.record.Bound.{Bound}
use Rattle.state_file.specs.declared.record.Extend.{Extend}
use Rattle.state_file.specs.declared.record.Key.{Key}
use Rattle.state_file.specs.declared.record.Record.{Record}
use Rattle.state_file.specs.declared.record.Record.TheVariants.{Bound as BoundRecord, Extend as ExtendRecord}
use Rattle.state_file.specs.declared.record.Secret.{Secret}
use Rattle.sign_core.specs.declared.fault.SignFault.{SignFault}
use Rattle.sign_core.specs.declared.fault.SignFault.TheVariants.{Changed, Damaged, Exhausted, MessageRead, LongName}
use Rattle.sign_core.specs.declared.fault.SignFault.TheVariants.{Moved, OutOfMemory, Stopped, StoreFailed}
use Rattle.sign_core.specs.declared.fault.SignFault.TheVariants.{RandomRepeated}
use Rattle.sign_core.specs.Records.{binding_at, deepest, has_identifier, has_moved, the_key, next_at, wanted_count}
use Rattle.sign_core.specs.World.{Chance, Draw, Outcome, World, acked, request, after, answered, open_state, reading}
use Rattle.sign_core.specs.World.{refused, randomizer_of_fields, requested}
use Rattle.sign_core.specs.Events.{tree_sizes, randomizer_sizes, AreDrawsOf}
use Rattle.sign_core.specs.Headline.{IsBoundTo}

-- ---- draws without a failure

pub record IsComplete (sizes : List ℕ) (draw : Draw) : Type 0 where
  pub fields : length draw.fields ≡ length sizes
  pub acknowledged : draw.fate ≡ acked

-- A request's draws for `trees` new trees and a binding: none of them fails.
pub record AreComplete (secret : Secret) (trees : ℕ) (chance : Chance) : Type 0 where
  pub enough : length chance.trees ≡ trees
  pub each : (i : ℕ) (draw : Draw) → slice_get chance.trees i ≡ Some draw → IsComplete tree_sizes draw
  pub bound : IsComplete (randomizer_sizes secret) chance.bound
  pub room : chance.has_room ≡ true

-- ---- a new name

-- The record begins a tree of this level with these fields: under the next leaf of the tree above, and with an I that
-- stands in no record before it.
pub record BeginsTree (key : Key) (before : List Record) (level : ℕ) (fields : List (List ℕ)) (entry : Record)
    : Type 0 where
  pub extend : Extend
  pub is : entry ≡ ExtendRecord extend
  pub of_level : extend.level ≡ level
  pub leaf : extend.parent_leaf ≡ next_at key.secret before (level - 1)
  pub drawn : fields ≡ extend.identifier ∷ extend.seed ∷ extend.randomizer ∷ []
  pub new : has_identifier before extend.identifier ≡ false

-- The bound binds this name to the next leaf of the bottom tree, to the C that was drawn and to the message's digest.
pub record BindsName (key : Key) (before : List Record) (name message : List ℕ) (fields : List (List ℕ))
    (bound : Bound) : Type 0 where
  pub named : bound.name ≡ name
  pub leaf : bound.leaf ≡ next_at key.secret before (bottom_of key.secret)
  pub randomizer : randomizer_of_fields key.secret fields ≡ Some bound.randomizer
  pub digest : bound.digest ≡ digest_at key before (length before) bound.leaf bound.randomizer message

abbrev pub bytes_drawn : List Draw → List ℕ
bytes_drawn draws = concat (map (λ (draw : Draw). concat draw.fields) draws)

-- all that is drawn without a failure: for each new tree, and then for the binding
abbrev pub all_drawn : Chance → List ℕ
all_drawn chance = bytes_drawn chance.trees ++ concat chance.bound.fields

-- A new name is signed where this level is the deepest with a free leaf. A tree is begun for each level below it, and
-- the name is bound to the next leaf of the bottom tree and to the message's digest. The answer is its signature.
pub record IsSigned (key : Key) (records : List Record) (level : ℕ) (name message : List ℕ) (chance : Chance)
    (outcome : Outcome (List ℕ)) : Type 0 where
  pub trees : List Record
  pub bound : Bound
  pub count : length trees ≡ bottom_of key.secret - level
  pub each : (i : ℕ) (entry : Record) (draw : Draw) → slice_get trees i ≡ Some entry
      → slice_get chance.trees i ≡ Some draw
      → BeginsTree key (records ++ take i trees) (level + i + 1) draw.fields entry
  pub binds : BindsName key (records ++ trees) name message chance.bound.fields bound
  pub state : outcome.state ≡ open_state (records ++ trees ++ BoundRecord bound ∷ [])
  pub longer : length outcome.state.records ≡ length records + wanted_count key.secret level
  pub answer : outcome.answer
      ≡ Ok (textbook_signature key (records ++ trees ++ BoundRecord bound ∷ []) (length (records ++ trees)) bound)
  pub drawn : outcome.drawn ≡ all_drawn chance
  pub read : outcome.is_read ≡ true
  pub uncut : outcome.failed ≡ None

-- After `begun` new trees one more I was drawn, and it stands in the records that are left. Nothing was drawn but all
-- fields of these trees, and this I.
pub record DrewAgain (before : List Record) (draws : List Draw) (left : List Record) (drawn : List ℕ) : Type 0 where
  pub begun : ℕ
  pub draw : Draw
  pub is_draw : slice_get draws begun ≡ Some draw
  pub longer : length left ≡ length before + begun
  pub identifier : List ℕ
  pub later : List (List ℕ)
  pub fields : draw.fields ≡ identifier ∷ later
  pub stands : has_identifier left identifier ≡ true
  pub drawn_is : drawn ≡ bytes_drawn (take begun draws) ++ identifier

-- ---- the law

pub record AreRequestsAnswered (limit : ℕ) (world : World) : Type 0 where
  -- what a request answers is handed out
  pub counted : (name message signature : List ℕ) (chance : Chance) → chance.given ≡ Some message
      → (requested limit world.state name chance).answer ≡ Ok signature
      → Contains (after limit world (request name chance)).handed
      (record { name = name; message = message; signature = signature })
  -- and the message that it was signed for was read
  pub read : (name signature : List ℕ) (chance : Chance)
      → (requested limit world.state name chance).answer ≡ Ok signature
      → IsSome chance.given × ((requested limit world.state name chance).is_read ≡ true)
  -- a request to an open signer under a name bound to another digest is refused as changed, and changes nothing; the
  -- records don't end with a Moved
  pub changed : (key : Key) (k : ℕ) (bound : Bound) (name message : List ℕ) (chance : Chance)
      → world.state.is_open ≡ true → has_moved world.state.records ≡ false → the_key world.state.records ≡ Some key
      → binding_at world.state.records name ≡ Some (k, bound) → chance.given ≡ Some message
      → digest_at key world.state.records k bound.leaf bound.randomizer message ≢ bound.digest
      → requested limit world.state name chance ≡ reading (refused world.state Changed)
  -- a repeated one gets the recorded signature, unless memory is refused, and changes nothing
  pub repeated : (key : Key) (k : ℕ) (bound : Bound) (name message : List ℕ) (chance : Chance)
      → world.state.is_open ≡ true → has_moved world.state.records ≡ false → chance.given ≡ Some message
      → IsBoundTo world.state.records key name message k bound
      → requested limit world.state name chance
      ≡ reading (if chance.has_room then answered world.state (textbook_signature key world.state.records k bound)
      else refused world.state OutOfMemory)
  -- one whose message can't be read is refused, and changes nothing
  pub unread : (key : Key) (k : ℕ) (bound : Bound) (name : List ℕ) (chance : Chance)
      → world.state.is_open ≡ true → has_moved world.state.records ≡ false → the_key world.state.records ≡ Some key
      → binding_at world.state.records name ≡ Some (k, bound) → chance.given ≡ None
      → requested limit world.state name chance ≡ reading (refused world.state MessageRead)
  -- after a Moved every request is refused, and changes nothing
  pub moved : (key : Key) (name : List ℕ) (chance : Chance) → world.state.is_open ≡ true
      → has_moved world.state.records ≡ true → the_key world.state.records ≡ Some key
      → requested limit world.state name chance ≡ refused world.state Moved
  -- a new name that is longer than a file of the key's version can hold is refused, and changes nothing
  pub long_name : (key : Key) (name : List ℕ) (chance : Chance) → world.state.is_open ≡ true
      → has_moved world.state.records ≡ false → the_key world.state.records ≡ Some key
      → binding_at world.state.records name ≡ None → name_most key.version < length name
      → requested limit world.state name chance ≡ refused world.state LongName
  -- any other new name is signed if a leaf is free, the store takes the records that it needs and nothing fails, except
  -- for an I that was drawn before
  pub fresh : (key : Key) (level : ℕ) (name message : List ℕ) (chance : Chance) → world.state.is_open ≡ true
      → has_moved world.state.records ≡ false → the_key world.state.records ≡ Some key
      → binding_at world.state.records name ≡ None → length name ≤ name_most key.version
      → deepest key.secret world.state.records ≡ Some level
      → length world.state.records + wanted_count key.secret level ≤ limit → chance.given ≡ Some message
      → AreComplete key.secret (bottom_of key.secret - level) chance
      → ((requested limit world.state name chance).answer ≡ Err RandomRepeated)
      ⊎ IsSigned key world.state.records level name message chance (requested limit world.state name chance)
  -- 24 comes only where the last I that was drawn stands in the records
  pub again : (name : List ℕ) (chance : Chance)
      → (requested limit world.state name chance).answer ≡ Err RandomRepeated
      → DrewAgain world.state.records chance.trees (requested limit world.state name chance).state.records
      (requested limit world.state name chance).drawn
  -- a request draws at most I, SEED and C for each level below the top, and C for the binding; for XMSS nothing
  pub draws : (key : Key) (name : List ℕ) (chance : Chance) → the_key world.state.records ≡ Some key
      → AreDrawsOf key.secret chance
      → length (requested limit world.state name chance).drawn
      ≤ sum tree_sizes * bottom_of key.secret + sum (randomizer_sizes key.secret)
  -- no refusal of a request but 25 binds a name
  pub unbound : (name other : List ℕ) (chance : Chance) (fault : SignFault)
      → (requested limit world.state name chance).answer ≡ Err fault → fault ≢ StoreFailed
      → binding_at (requested limit world.state name chance).state.records other
      ≡ binding_at world.state.records other
  -- for a name that isn't too long, 22 comes exactly where no leaf is free at any level
  -- Requirement: RFC 8554 6.2, exhausted
  pub exhausted : (key : Key) (name : List ℕ) (chance : Chance) → world.state.is_open ≡ true
      → has_moved world.state.records ≡ false → the_key world.state.records ≡ Some key
      → binding_at world.state.records name ≡ None → length name ≤ name_most key.version
      → ((requested limit world.state name chance).answer ≡ Err Exhausted)
      ↔ (deepest key.secret world.state.records ≡ None)
  -- no request is refused for a damaged record
  pub undamaged : (name : List ℕ) (chance : Chance) (slot : ℕ)
      → (requested limit world.state name chance).answer ≢ Err (Damaged slot)
  -- a request whose append the store fails closes the signer
  pub stops : (name : List ℕ) (chance : Chance)
      → (requested limit world.state name chance).answer ≡ Err StoreFailed
      → (requested limit world.state name chance).state.is_open ≡ false
  -- a closed signer hands nothing out and changes nothing
  pub closed : (name : List ℕ) (chance : Chance) → world.state.is_open ≡ false
      → requested limit world.state name chance ≡ refused world.state Stopped
