-- Adding slots after a closed gate.
use Rattle.std.specs.Prelude.{◌≡◌, ℕ, ◌+◌, ◌*◌, max, List, [], ◌∷◌, length, take}
use Rattle.state_file.specs.File.{IsClosed, IsClosedAt}
use Rattle.state_file.specs.Disk.{Range, DiskState, ChangesOnly, IsSynced}

-- The content begins with `front`, and the gate after it is in the content and closed.
pub record IsClosedAfter (front content : List ℕ) : Type 0 where
  pub begins : take (length front) content ≡ front
  pub closed : IsClosedAt content (length front)

-- the same, with all synced
pub record IsAtRest (front : List ℕ) (state : DiskState) : Type 0 where
  pub synced : IsSynced state
  pub ends : IsClosedAfter front state.content

abbrev pub slot_and_gate : ℕ → Range
slot_and_gate k = record { from = 256 * k; to = 256 * k + 257 }

-- What adding slot k leaves: all is synced, only the slot and the gate after it changed, and that gate is closed. The
-- content grew only if it had to.
pub record AddsSlot (k : ℕ) (content : List ℕ) (new : DiskState) : Type 0 where
  pub synced : IsSynced new
  pub changes : ChangesOnly (slot_and_gate k ∷ []) content new.content
  pub closed : IsClosed new.content (k + 1)
  pub len : length new.content ≡ max (length content) (256 * (k + 1) + 1)
