-- A disk in memory: what callers see of it, and what its calls do.
use Rattle.std.specs.Prelude.{◌≡◌, ℕ, zero, suc, ◌-◌, List, ◌∷◌, length, take, Option, Some, None, Result, Ok}
use Rattle.std.specs.Prelude.{Err, ◌/◌, ◌↔◌}
use Rattle.state_file.specs.Disk.{range_of, Counts, DiskState, TimePasses, is_failure, settled}
use Rattle.state_file.specs.declared.disk.DiskFault.{DiskFault}
use Rattle.state_file.specs.declared.disk.DiskFault.TheVariants.{Failed, OutOfMemory}
use Rattle.state_file.specs.declared.disk.memory_disk.Fate.{Fate}
use Rattle.state_file.specs.declared.disk.memory_disk.Fate.TheVariants.{Runs, Fails, Stopped}
use Rattle.state_file.specs.declared.disk.memory_disk.Pick.{Pick}
use Rattle.state_file.specs.declared.disk.memory_disk.Pick.TheVariants.{Old, New, Fill}
use Rattle.state_file.specs.Log.{LeftSince, logged_state, IsLongestLeft, Overlays}
use Rattle.state_file.specs.declared.disk.memory_disk.MemoryDisk.{MemoryDisk}

-- the n-th call from now, as the number of calls before it; for 0 there is none
abbrev pub nth_call : ℕ → Option ℕ
nth_call zero = None
nth_call (suc before) = Some before

-- what happens to the next call, by the calls before the stop and before the failure
abbrev pub fate_of : (stop fail : Option ℕ) → Fate
fate_of (Some zero) fail = Stopped
fate_of (Some (suc before)) (Some zero) = Fails
fate_of (Some (suc before)) (Some (suc later)) = Runs
fate_of (Some (suc before)) None = Runs
fate_of None (Some zero) = Fails
fate_of None (Some (suc later)) = Runs
fate_of None None = Runs

-- A call came: the stop is one call nearer, and then lasts.
abbrev pub next_stop : Option ℕ → Option ℕ
next_stop None = None
next_stop (Some before) = Some (before - 1)

-- A call came: the failure is one call nearer, or over.
abbrev pub next_fail : Option ℕ → Option ℕ
next_fail None = None
next_fail (Some zero) = None
next_fail (Some (suc before)) = Some before

-- the answer of a call that only reads, from its answer where it runs
abbrev pub answer_of : {A : Type 0} → Fate → Result A DiskFault → Result A DiskFault
answer_of Runs answer = answer
answer_of Fails answer = Err Failed
answer_of Stopped answer = Err Failed

-- What a write does. Without memory it does nothing. One that fails writes the first half of its bytes, rounded down;
-- its whole range then counts as written.
abbrev pub WritesInMemory : {A : Type 0} (at : ℕ) (bytes : List ℕ) (old new : DiskState) → Fate → Result A DiskFault
    → Type 0
WritesInMemory at bytes old new Runs (Ok _) = Overlays at bytes old.content new.content
    × (new.ranges ≡ range_of at bytes ∷ old.ranges) × (new.base ≡ old.base)
WritesInMemory at bytes old new Runs (Err OutOfMemory) = new ≡ old
WritesInMemory at bytes old new Fails (Err Failed) =
    Overlays at (take (length bytes / 2) bytes) old.content new.content
    × (new.ranges ≡ range_of at bytes ∷ old.ranges) × (new.base ≡ old.base)
WritesInMemory at bytes old new Fails (Err OutOfMemory) = new ≡ old
WritesInMemory at bytes old new Stopped (Err Failed) = new ≡ old
WritesInMemory at bytes old new fate result = ⊥

-- What a sync does. A refused one does nothing.
abbrev pub SyncsInMemory : {A : Type 0} (old new : DiskState) → Fate → Result A DiskFault → Type 0
SyncsInMemory old new Runs (Ok _) = new ≡ settled old.content
SyncsInMemory old new Runs (Err OutOfMemory) = new ≡ old
SyncsInMemory old new Fails (Err Failed) = new ≡ old
SyncsInMemory old new Stopped (Err Failed) = new ≡ old
SyncsInMemory old new fate result = ⊥

abbrev pub Picks : Pick → DiskState → List ℕ → Type 0
Picks Old state c = c ≡ state.base
Picks New state c = c ≡ state.content
Picks (Fill byte) state c = IsLongestLeft byte state.base state.ranges c

-- what a read gives, and what a crash may leave
abbrev pub state_of : MemoryDisk → DiskState
state_of disk = logged_state disk.content.items disk.first.items disk.log.items

-- this moment: the number of writes and syncs
abbrev pub moment_of : MemoryDisk → ℕ
moment_of disk = length disk.log.items

-- what a crash since a moment may have left
abbrev pub left_since_of : MemoryDisk → ℕ → List ℕ → Type 0
left_since_of disk = LeftSince disk.first.items disk.log.items

-- calls before the stop
abbrev pub stop_of : MemoryDisk → Option ℕ
stop_of disk = disk.plan.stop

-- calls before the one that fails
abbrev pub fail_of : MemoryDisk → Option ℕ
fail_of disk = disk.plan.fail

pub record PlanAfterCall (old new : MemoryDisk) : Type 0 where
  pub stop : stop_of new ≡ next_stop (stop_of old)
  pub fail : fail_of new ≡ next_fail (fail_of old)

-- what happens to the next call
abbrev pub next_fate : MemoryDisk → Fate
next_fate disk = fate_of disk.plan.stop disk.plan.fail

abbrev pub failures_of : MemoryDisk → ℕ
failures_of disk = disk.failures

abbrev pub past_ends_of : MemoryDisk → ℕ
past_ends_of disk = disk.past_ends

-- What every call does: time passes, a refusal is counted, stop and failure are one call nearer.
pub record CallComes {A : Type 0} (old new : MemoryDisk) (answer : Result A DiskFault) : Type 0 where
  pub time : TimePasses state_of moment_of left_since_of old new
  pub failures : Counts is_failure (failures_of old) (failures_of new) answer
  pub plan : PlanAfterCall old new

-- No call came in between: state, moment, what a crash leaves, and the counts are as they were.
pub record SameMoment (old new : MemoryDisk) : Type 0 where
  pub state : state_of new ≡ state_of old
  pub moment : moment_of new ≡ moment_of old
  pub left : (t : ℕ) (c : List ℕ) → left_since_of new t c ↔ left_since_of old t c
  pub failures : failures_of new ≡ failures_of old
  pub past_ends : past_ends_of new ≡ past_ends_of old
