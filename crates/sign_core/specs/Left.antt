-- How many new names a key can still sign, by the free leaves that `left` counts, and what calls take of them.
use Rattle.std.specs.Prelude.{◌≡◌, ◌↔◌, ℕ, ◌+◌, ◌-◌, ◌*◌, ◌≤◌, true, false, List, [], ◌∷◌, length, Option, Some}
use Rattle.std.specs.Prelude.{None, IsSome}
use Rattle.std.specs.Prelude.{Result, Ok, Err}
use Rattle.state_file.specs.Laws.{bottom_of, leaves_at}
use Rattle.state_file.specs.Slot.{name_most}
use Rattle.state_file.specs.declared.record.Key.{Key}
use Rattle.state_file.specs.declared.record.Record.{Record}
use Rattle.state_file.specs.declared.record.Secret.{Secret}
use Rattle.state_file.specs.declared.store.Store as store
use Rattle.sign_core.specs.declared.fault.SignFault.{SignFault}
use Rattle.sign_core.specs.declared.fault.SignFault.TheVariants.{Exhausted}
use Rattle.sign_core.specs.declared.source.Source as source
use Rattle.sign_core.specs.Records.{binding_at, free_counts, has_moved, next_at, the_key}
use Rattle.sign_core.specs.Serving.{SignsGiven}
use Rattle.sign_core.specs.Signer.{Retires, View}

-- ---- what is left

-- How many leaves of the bottom level can still sign, by the free leaves of the levels from this one on. Each leaf
-- above the bottom can sign a tree of the next level, with all of its leaves.
abbrev pub bottom_leaves_of : (leaves : ℕ → ℕ) → (before level : ℕ) → (counts : List ℕ) → ℕ
bottom_leaves_of leaves before level [] = before
bottom_leaves_of leaves before level (count ∷ counts) =
    bottom_leaves_of leaves (before * leaves level + count) (level + 1) counts

-- The signatures for new names that a key's leaves allow, by the counts that `left` gives. A store may be full before.
abbrev pub signatures_left : Secret → List Record → ℕ
signatures_left secret records = bottom_leaves_of (leaves_at secret) 0 0 (free_counts secret records)

-- ---- the law

-- The signer can bind this name: it is open, its records don't end with a Moved, they don't bind the name, and a file
-- of the key's version can hold it.
pub record CanBind {S R : Type 0} (signer : View S R) (key : Key) (name : List ℕ) : Type 0 where
  pub is_open : signer.is_open ≡ true
  pub stays : has_moved signer.records ≡ false
  pub unbound : binding_at signer.records name ≡ None
  pub fits : length name ≤ name_most key.version

-- What a request does to the signatures that are left, whatever fails in it.
pub record TakesLeft {S R : Type 0} (old new : View S R) (key : Key) (name : List ℕ)
    (answer : Result (List ℕ) SignFault) : Type 0 where
  -- a new name is answered 22 exactly where none is left
  pub exhausted : CanBind old key name → (answer ≡ Err Exhausted) ↔ (signatures_left key.secret old.records ≡ 0)
  -- one that is signed takes one, also where it makes new trees
  pub signed : (signature : List ℕ) → answer ≡ Ok signature → binding_at old.records name ≡ None
      → signatures_left key.secret old.records ≡ signatures_left key.secret new.records + 1
  -- one that is refused takes none, and neither does a name that is bound
  pub refused : (fault : SignFault) → answer ≡ Err fault
      → signatures_left key.secret new.records ≡ signatures_left key.secret old.records
  pub repeated : IsSome (binding_at old.records name)
      → signatures_left key.secret new.records ≡ signatures_left key.secret old.records

-- the leaves that a retiring retires: those of the current bottom tree from the next one on, below its number
abbrev pub retired_count : Key → List Record → (upto : ℕ) → Result (Unit {0}) SignFault → ℕ
retired_count key records upto (Ok _) = upto - next_at key.secret records (bottom_of key.secret)
retired_count key records upto (Err fault) = 0

-- So it is for each request, to `sign` or to a serve. A retiring takes the leaves that it retires.
pub record LeftLaw {S R : Type 0} (g : store.Ghosts S) (r : source.Ghosts R) : Type 0 where
  pub request : (old new : View S R) (name : List ℕ) (given : Option (List ℕ)) (capacity : ℕ)
      (answer : Result (List ℕ) SignFault) (key : Key) → the_key old.records ≡ Some key
      → SignsGiven g r old new name given capacity answer → TakesLeft old new key name answer
  pub retiring : (old new : View S R) (upto : ℕ) (answer : Result (Unit {0}) SignFault) (key : Key)
      → the_key old.records ≡ Some key → Retires g old new upto answer
      → signatures_left key.secret old.records
      ≡ signatures_left key.secret new.records + retired_count key old.records upto answer
