-- What the law over all runs says of retirings.
use Rattle.std.specs.Prelude.{◌≡◌, ℕ, ◌+◌, List, [], ◌∷◌, length, ◌<◌, ◌≤◌, true, false, ◌++◌, Some, Err}
use Rattle.state_file.specs.Laws.{bottom_of}
use Rattle.state_file.specs.declared.record.Key.{Key}
use Rattle.state_file.specs.declared.record.Record.{Record}
use Rattle.state_file.specs.declared.record.Record.TheVariants.{Retire}
use Rattle.sign_core.specs.declared.fault.SignFault.TheVariants.{LedgerFull, Moved, OutOfMemory, RetireRange, Stopped}
use Rattle.sign_core.specs.declared.fault.SignFault.TheVariants.{StoreFailed}
use Rattle.sign_core.specs.Records.{has_moved, the_key, leaves_of_current, next_at}
use Rattle.sign_core.specs.World.{Fate, State, World, acked, no_memory, answered, open_state, refused, retired}

pub record IsActive (state : State) (key : Key) : Type 0 where
  pub is_open : state.is_open ≡ true
  pub stays : has_moved state.records ≡ false
  pub keyed : the_key state.records ≡ Some key

-- The current bottom tree has leaves up to this number, which is beyond the next one.
pub record IsBeyondNext (records : List Record) (key : Key) (upto : ℕ) : Type 0 where
  pub inside : upto ≤ leaves_of_current key.secret records (bottom_of key.secret)
  pub beyond : next_at key.secret records (bottom_of key.secret) < upto

pub record AreRetiringsAnswered (limit : ℕ) (world : World) : Type 0 where
  -- a retiring beyond the next leaf is recorded, if the tree has these leaves, the store has room and nothing fails
  pub retires : (key : Key) (upto : ℕ) → world.state.is_open ≡ true → has_moved world.state.records ≡ false
      → the_key world.state.records ≡ Some key
      → upto ≤ leaves_of_current key.secret world.state.records (bottom_of key.secret)
      → next_at key.secret world.state.records (bottom_of key.secret) < upto
      → length world.state.records + 1 ≤ limit
      → retired limit world.state upto acked ≡ answered (open_state (world.state.records ++ Retire upto ∷ [])) tt
  -- one after a Moved, or of more leaves than the tree has, is refused; one no further than the next leaf is Ok; and
  -- none of them changes anything
  pub moved : (key : Key) (upto : ℕ) (fate : Fate) → world.state.is_open ≡ true
      → has_moved world.state.records ≡ true → the_key world.state.records ≡ Some key
      → retired limit world.state upto fate ≡ refused world.state Moved
  pub outside : (key : Key) (upto : ℕ) (fate : Fate) → IsActive world.state key
      → leaves_of_current key.secret world.state.records (bottom_of key.secret) < upto
      → retired limit world.state upto fate ≡ refused world.state RetireRange
  pub no_further : (key : Key) (upto : ℕ) (fate : Fate) → IsActive world.state key
      → upto ≤ leaves_of_current key.secret world.state.records (bottom_of key.secret)
      → upto ≤ next_at key.secret world.state.records (bottom_of key.secret)
      → retired limit world.state upto fate ≡ answered world.state tt
  -- one beyond the next leaf is refused where the store is full, or memory is refused, and changes nothing
  pub full : (key : Key) (upto : ℕ) (fate : Fate) → IsActive world.state key
      → IsBeyondNext world.state.records key upto → limit < length world.state.records + 1
      → retired limit world.state upto fate ≡ refused world.state LedgerFull
  pub starved : (key : Key) (upto : ℕ) → IsActive world.state key → IsBeyondNext world.state.records key upto
      → length world.state.records + 1 ≤ limit
      → retired limit world.state upto no_memory ≡ refused world.state OutOfMemory
  -- one whose append the store fails closes the signer
  pub stops : (upto : ℕ) (fate : Fate)
      → (retired limit world.state upto fate).answer ≡ Err StoreFailed
      → (retired limit world.state upto fate).state.is_open ≡ false
  -- a closed signer retires nothing
  pub closed : (upto : ℕ) (fate : Fate) → world.state.is_open ≡ false
      → retired limit world.state upto fate ≡ refused world.state Stopped
