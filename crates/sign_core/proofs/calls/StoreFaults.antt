-- An append to the store, by the fault that the signer reports.
use Rattle.std.proofs.Common.{◌≡◌, ◌⊎◌, ℕ, ◌+◌, Bool, true, false, List, [], ◌∷◌, ◌++◌, Result, Ok, Err}
use Rattle.state_file.specs.Disk.{Counts, LeavesOnly}
use Rattle.state_file.specs.Store.{WhileRunning}
use Rattle.state_file.specs.declared.record.Record.{Record}
use Rattle.state_file.specs.declared.store.Store as store
use Rattle.sign_core.specs.declared.fault.SignFault.{SignFault}
use Rattle.sign_core.specs.declared.fault.SignFault.TheVariants.{OutOfMemory, StoreFailed}
use Rattle.sign_core.specs.Signer.{LeavesOld, is_out_of_memory}

-- Of a store that runs and has room, by the answer: what becomes of the list, whether the store has stopped,
-- and the count of its device's failures.
abbrev pub AppendsTo : {A : Type 0} (old : List Record) (entry : Record) (new : List Record) (stopped : Bool)
    (failures_before failures_after : ℕ) → Result A SignFault → Type 0
AppendsTo old entry new stopped before after (Ok _) =
    (new ≡ old ++ entry ∷ []) × (stopped ≡ false) × (after ≡ before)
AppendsTo old entry new stopped before after (Err StoreFailed) =
    ((new ≡ old) ⊎ (new ≡ old ++ entry ∷ [])) × (stopped ≡ true) × (after ≡ before + 1)
AppendsTo old entry new stopped before after (Err OutOfMemory) =
    (new ≡ old) × (stopped ≡ false) × (after ≡ before)
AppendsTo old entry new stopped before after (Err _) = ⊥

-- a crash at any moment of it leaves the old list, or the new record as well
abbrev pub LeavesEither : {S : Type 0} → store.Ghosts S → (old new : S) → Record → Type 0
LeavesEither g old new entry = WhileRunning (g.honest old) (g.stopped old)
    (LeavesOnly g.moment g.left_since old new (λ left. (left ≡ g.list old) ⊎ (left ≡ g.list old ++ entry ∷ [])))

pub record IsAppended {S A : Type 0} (g : store.Ghosts S) (old new : S) (entry : Record) (answer : Result A SignFault)
    : Type 0 where
  pub running : g.stopped old ≡ false
  pub stored : AppendsTo (g.list old) entry (g.list new) (g.stopped new) (g.failures old) (g.failures new) answer
  pub moments : LeavesEither g old new entry
  pub refused : answer ≡ Err OutOfMemory → LeavesOld g old new
  pub refusals : Counts is_out_of_memory (g.refusals old) (g.refusals new) answer
  pub unreadable : g.unreadable new ≡ g.unreadable old
  pub asked : g.loads new ≡ g.loads old
  pub honest : g.honest new ≡ g.honest old
  pub most : g.most new ≡ g.most old
