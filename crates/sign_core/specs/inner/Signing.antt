-- What private functions alone cite of `Signing.antt`'s subject.
use Rattle.std.specs.Prelude.{◌≡◌, ◌⊎◌, ℕ, ◌+◌, ◌<◌, Bool, true, false, List, [], ◌∷◌, ◌++◌, length, Option, None}
use Rattle.std.specs.Prelude.{Some, Result, Ok, Err, map, ◌≤◌, ◌^◌}
use Rattle.std.specs.List.{AllByRecursion, concat}
use Rattle.typecodes.specs.declared.message.Message as message
use Rattle.state_file.specs.declared.record.Bound.{Bound}
use Rattle.state_file.specs.declared.record.Key.{Key}
use Rattle.state_file.specs.declared.record.Record.{Record}
use Rattle.state_file.specs.declared.record.Record.TheVariants.{Bound as BoundRecord}
use Rattle.state_file.specs.declared.store.Store as store
use Rattle.state_file.specs.Disk.{Counts}
use Rattle.state_file.specs.Laws.{bottom_of, levels_of}
use Rattle.state_file.specs.declared.record.Secret.{Secret}
use Rattle.sign_core.specs.declared.fault.SignFault.{SignFault}
use Rattle.sign_core.specs.declared.fault.SignFault.TheVariants.{RandomFailed, RandomRepeated}
use Rattle.sign_core.specs.declared.source.Source as source
use Rattle.hss.specs.declared.secret.Level.{Level}
use Rattle.sign_core.specs.Source.{Provides}
use Rattle.sign_core.specs.Records.{binding_at, free_at, has_identifier, has_moved, has_randomizer, is_long, the_key}
use Rattle.sign_core.specs.inner.KeyTrees.{signings_of, signing_of_bound}
use Rattle.sign_core.specs.Events.{AreFields, randomizer_sizes, tree_sizes}
use Rattle.sign_core.specs.Signer.{Ends, IsRead, LacksTree, RefusesAfterDraws, UnlessAppended}
use Rattle.sign_core.specs.Signer.{UsesMemory, View, is_before_draws, is_fault}
use Rattle.sign_core.specs.Signer.{is_random_failed, signature_size}
use Rattle.sign_core.specs.World.{Chance, Draw, Outcome, State, acked, answered}
use Rattle.sign_core.specs.inner.Cases.{extended, bound_trees}
use Rattle.sign_core.specs.World.{open_state, randomizer_of_fields}
use Rattle.sign_core.specs.inner.Cases.{requested_binding}
use Rattle.sign_core.specs.Textbook.{Trees, damaged_at, textbook_signature, any_signature}
use Rattle.sign_core.specs.Textbook.{chain_signings}
use Rattle.sign_core.specs.Textbook.{current_at, trees_of}
use Rattle.typecodes.specs.declared.secret.LmsSecret.{LmsSecret}
use Rattle.typecodes.specs.declared.types.LmsPair.{LmsPair}
use Rattle.sign_core.specs.declared.ledger.Binding.{Binding}
use Rattle.sign_core.specs.Caches.{Cached, LacksCache}
use Rattle.sign_core.specs.Ledger.{binding_kept, kept_of}
use Rattle.sign_core.specs.Signing.{UnderKey}

abbrev pub pairs_of : List Level → List LmsPair
pairs_of levels = map (λ level. level.tree.secret.pair) levels

-- A level's current tree has a free leaf, and the chain of trees down to it is sound.
pub record Stands (records : List Record) (level : ℕ) (key : Key) : Type 0 where
  pub inside : level < levels_of key.secret
  pub free : 0 < free_at key.secret records level
  pub sound : damaged_at key level records (current_at level records (length records)) ≡ None

-- A signer is open, its records don't go on elsewhere, and store and memory have room for `wanted` more.
pub record IsReady {S R : Type 0} (most wanted : ℕ) (view : View S R) : Type 0 where
  pub is_open : view.is_open ≡ true
  pub stays : has_moved view.records ≡ false
  pub within_limit : length view.records + wanted ≤ most
  pub counted : length view.records + wanted < 2 ^ 32
  pub room : wanted ≤ view.spare

-- A name can be bound: the signer is ready for its records, the name isn't bound, the key's file can hold it, and the
-- output has a signature's size.
pub record CanBind {S R : Type 0} (most wanted : ℕ) (name : List ℕ) (size : ℕ) (view : View S R) : Type 0 where
  pub ready : IsReady most wanted view
  pub unbound : binding_at view.records name ≡ None
  pub fits : UnderKey view.records (λ key. is_long key name ≡ false)
  pub room : UnderKey view.records (λ key. size ≡ signature_size key.secret)

-- The draws of a new tree of these types: an I that no record has, SEED and C. Or the source failed after some fields,
-- or a record has the I.
abbrev pub DrawsTree : LmsPair → List Record → (failures_before failures_after : ℕ) (upcoming left : Option (List ℕ))
    → Result (LmsSecret × List ℕ) SignFault → Type 0
DrawsTree pair records before after upcoming left (Ok (secret, randomizer)) = (after ≡ before)
    × Provides upcoming (secret.identifier ++ (secret.seed ++ randomizer)) left
    × AreFields tree_sizes (secret.identifier ∷ secret.seed ∷ randomizer ∷ [])
    × (has_identifier records secret.identifier ≡ false)
    × (secret.pair ≡ pair)
DrawsTree pair records before after upcoming left (Err RandomFailed) = (fields : List (List ℕ))
    × (after ≡ before + 1) × Provides upcoming (concat fields) left × AreFields tree_sizes fields
    × (length fields < 3)
    × ((first : List ℕ) (rest : List (List ℕ)) → fields ≡ first ∷ rest → has_identifier records first ≡ false)
DrawsTree pair records before after upcoming left (Err RandomRepeated) = (identifier : List ℕ)
    × (after ≡ before) × Provides upcoming identifier left × AreFields tree_sizes (identifier ∷ [])
    × (has_identifier records identifier ≡ true)
DrawsTree pair records before after upcoming left (Err _) = ⊥

-- C for a binding was drawn, or the zeros of XMSS, for which nothing is drawn.
pub record IsRandomizer (secret : Secret) (before after : ℕ) (upcoming left : Option (List ℕ)) (randomizer : List ℕ)
    : Type 0 where
  pub fields : List (List ℕ)
  pub made : randomizer_of_fields secret fields ≡ Some randomizer
  pub possible : AreFields (randomizer_sizes secret) fields
  pub failures : after ≡ before
  pub source : Provides upcoming (concat fields ++ []) left
  pub fits : has_randomizer secret randomizer ≡ true

-- Or the source failed.
abbrev pub DrawsRandomizer : Secret → (failures_before failures_after : ℕ) (upcoming left : Option (List ℕ))
    → Result (List ℕ) SignFault → Type 0
DrawsRandomizer secret before after upcoming left (Ok randomizer) =
    IsRandomizer secret before after upcoming left randomizer
DrawsRandomizer secret before after upcoming left (Err fault) = (randomizer_of_fields secret [] ≡ None)
    × (fault ≡ RandomFailed) × (after ≡ before + 1) × Provides upcoming [] left

-- What a call does to the signer and its store, by an outcome of the world. The source gave the drawn bytes, and the
-- message is read or as it was. The source's failures and the store's refusals of memory are answered.
pub record Does {S R M A : Type 0} (g : store.Ghosts S) (r : source.Ghosts R) (m : message.Ghosts M)
    (old new : View S R) (before after : M) (given : Option (List ℕ)) (outcome : Outcome A)
    (answer : Result A SignFault) : Type 0 where
  pub ends : Ends g old new outcome answer
  pub more : List Record
  pub grown : outcome.acknowledged ≡ old.records ++ more
  pub source : Provides (r.upcoming old.random) outcome.drawn (r.upcoming new.random)
  pub failures : Counts is_random_failed (r.failures old.random) (r.failures new.random) answer
  pub message : IsRead m outcome.is_read given before after
  pub refusals : RefusesAfterDraws answer (g.refusals old.store) (g.refusals new.store)
  pub memory : UsesMemory old new
  pub stays : UnlessAppended old new answer (new.store ≡ old.store)

-- One new tree of a level: nothing is answered, and the message isn't read.
pub record Extends {S R : Type 0} (g : store.Ghosts S) (r : source.Ghosts R) (level : ℕ)
    (old new : View S R) (answer : Result (List ℕ) SignFault) (key : Key) : Type 0 where
  pub draw : Draw
  pub outcome : Outcome (List ℕ)
  pub step : extended (open_state old.records) key level (trees_of key.secret) draw
      (λ records. answered (open_state records) []) ≡ outcome
  pub possible : AreFields tree_sizes draw.fields
  pub ends : Ends g old new outcome answer
  pub source : Provides (r.upcoming old.random) outcome.drawn (r.upcoming new.random)
  pub failures : Counts is_random_failed (r.failures old.random) (r.failures new.random) answer
  pub refusals : RefusesAfterDraws answer (g.refusals old.store) (g.refusals new.store)
  pub memory : UsesMemory old new
  pub stays : UnlessAppended old new answer (new.store ≡ old.store)
  pub not_before_draws : is_fault is_before_draws answer ≡ false

-- All records of a new name: an Extend for each of the lowest `below` levels, and the Bound.
pub record BindsBelow {S R M : Type 0} (g : store.Ghosts S) (r : source.Ghosts R) (m : message.Ghosts M) (name : List ℕ)
    (below : ℕ) (old new : View S R) (before after : M) (answer : Result (List ℕ) SignFault) (key : Key) : Type 0 where
  pub trees : List Draw
  pub bound : Draw
  pub given : Option (List ℕ)
  pub outcome : Outcome (List ℕ)
  pub step : (all : List Draw)
      → bound_trees key name (record { has_room = true; trees = all; bound = bound; given = given }) below trees
      old.records ≡ outcome
  pub trees_possible : AllByRecursion (λ (draw : Draw). AreFields tree_sizes draw.fields) trees
  pub bound_possible : AreFields (randomizer_sizes key.secret) bound.fields
  pub does : Does g r m old new before after given outcome answer
  pub not_before_draws : is_fault is_before_draws answer ≡ false
  pub lacks_tree : LacksTree g (below + 1) old new answer

-- The last record binds a name, and this is kept of it.
pub record IsBoundLast (key : Key) (old new : List Record) (name : List ℕ) (bound : Bound) (binding : Binding)
    : Type 0 where
  pub grown : new ≡ old ++ BoundRecord bound ∷ []
  pub named : binding_at new name ≡ Some (length old, bound)
  pub kept : kept_of key.secret new (length old, bound) ≡ binding

-- A name is bound to the next leaf: its signature is the record's, and what is kept of it is answered. Or the binding
-- is refused.
abbrev pub BindsNext : {S R M : Type 0} (g : store.Ghosts S) (r : source.Ghosts R) (m : message.Ghosts M)
    (name : List ℕ) (old new : View S R) (before after : M) (answer : Result Binding SignFault) (key : Key) → Type 0
BindsNext g r m name old new before after (Ok binding) key = (bound : Bound)
    × BindsBelow g r m name 0 old new before after
    (Ok (textbook_signature key (old.records ++ BoundRecord bound ∷ []) (length old.records) bound)) key
    × IsBoundLast key old.records new.records name bound binding
BindsNext g r m name old new before after (Err fault) key = BindsBelow g r m name 0 old new before after (Err fault) key

-- a chance without draws and appends
abbrev pub repeat_chance : (has_room : Bool) → (given : Option (List ℕ)) → Chance
repeat_chance has_room given = record {
  has_room = has_room;
  trees = [];
  bound = record { fields = []; fate = acked };
  given = given;
}

-- A bound name has its recorded signature again, if the message has the recorded digest; only caches change. Memory is
-- refused for the output, or for the cache of a current tree that stood before the binding.
pub record Repeats {M : Type 0} (m : message.Ghosts M) (state : State) (cached : Cached) (before after : M)
    (capacity : ℕ) (answer : Result (List ℕ) SignFault) (key : Key) (name : List ℕ) : Type 0 where
  pub has_room : Bool
  pub given : Option (List ℕ)
  pub step : (limit : ℕ) → (requested_binding limit state key name (repeat_chance has_room given)
      (binding_at state.records name)).answer ≡ answer
  pub message : IsRead m true given before after
  pub room : (k : ℕ) (bound : Bound) → binding_at state.records name ≡ Some (k, bound) → has_room ≡ false
      → (capacity < signature_size key.secret) ⊎ LacksCache key state.records (Some (bottom_of key.secret)) k cached

abbrev pub IsBindingOf : List Record → Binding → Key → (name : List ℕ) → Type 0
IsBindingOf records binding key name = binding_kept key.secret records name ≡ Some binding

abbrev pub IsSomeBinding : List Record → Binding → Type 0
IsSomeBinding records binding = UnderKey records (λ key. (name : List ℕ) × IsBindingOf records binding key name)

-- `Repeats` for each name that has the binding.
abbrev pub RepeatsBinding : {M : Type 0} → message.Ghosts M → State → Cached → Binding → (before after : M)
    → (capacity : ℕ) → Result (List ℕ) SignFault → Type 0
RepeatsBinding m state cached binding before after capacity answer = UnderKey state.records (λ key. (name : List ℕ)
    → IsBindingOf state.records binding key name → Repeats m state cached before after capacity answer key name)

-- If the levels sign as the chain of a binding at place k in a key's records, the bytes are the binding's textbook
-- signature.
abbrev pub WritesChain : Secret → List Level → (bytes : List ℕ) → Type 0
WritesChain secret levels bytes = (trees : Trees) (records : List Record) (k : ℕ) (bound : Bound)
    → (key : Key) × (the_key records ≡ Some key) → trees_of secret ≡ Some trees
    → signings_of levels ≡ chain_signings trees (bottom_of secret) records (current_at (bottom_of secret) records k)
    ++ signing_of_bound trees records (current_at (bottom_of secret) records k) bound ∷ []
    → bytes ≡ any_signature secret records k bound
