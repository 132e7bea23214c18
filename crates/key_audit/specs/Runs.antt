-- What one signer handed out passes every check of given signatures.
use Rattle.std.specs.Prelude.{◌≡◌, ◌⊎◌, ℕ, ◌<◌, ◌^◌, List, length, slice_get, Some, Err, Contains}
use Rattle.state_file.specs.declared.disk.Disk as disk
use Rattle.state_file.specs.declared.store.Store as store
use Rattle.state_file.specs.declared.store.file_store.FileStore.{FileStore}
use Rattle.state_file.specs.File.{HasNoKey}
use Rattle.sign_core.specs.declared.key.AnyPublic.{AnyPublic}
use Rattle.sign_core.specs.declared.source.Source as source
use Rattle.sign_core.specs.Sessions.{GaveKey, History, IsHistory, IsMovedHistory, MovedHistory, handed_of}
use Rattle.sign_core.specs.Sessions.{history_calls, lives_calls, moved_handed}
use Rattle.sign_core.specs.World.{Handed}
use Rattle.key_audit.specs.declared.given.Given.{Given}
use Rattle.key_audit.specs.declared.given.GivenFault.{GivenFault}
use Rattle.key_audit.specs.declared.given.GivenFault.TheVariants.{OutOfMemory}
use Rattle.key_audit.specs.Given.{Checks}

-- It was handed out, for a message of fewer than 2^60 bytes.
pub record IsHandedOut (handed : List Handed) (each : Given) : Type 0 where
  pub x : Handed
  pub contains : Contains handed x
  pub message : x.message ≡ each.message.items
  pub signature : x.signature ≡ each.signature.items
  pub short : length each.message.items < 2 ^ 60

-- Whichever of these signatures are given, only want of memory (46) refuses them: neither 60 nor 61 comes.
abbrev pub IsNeverRefused : AnyPublic → List Handed → Type 0
IsNeverRefused public handed = (given : List Given) (fault : GivenFault)
    → ((k : ℕ) (each : Given) → slice_get given k ≡ Some each → IsHandedOut handed each)
    → Checks {A = Unit {0}} public given (Err fault) → fault ≡ OutOfMemory

-- So it is for all that the calls so far handed out, in the lives of one disk, ..
abbrev pub RunsLaw : {D E R : Type 0} (d : disk.Ghosts D) → disk.Ghosts E → store.Ghosts (FileStore D d)
    → source.Ghosts R → Type 0
RunsLaw {D} {E} {R} d e g r = (history : History D E R d) → IsHistory d e g r HasNoKey history
    → (public : AnyPublic) → GaveKey (history_calls history) public
    → IsNeverRefused public (handed_of (history_calls history))

-- .. and in those of the disk to which the key was moved.
abbrev pub MovedRunsLaw : {D E R : Type 0} (d : disk.Ghosts D) (e : disk.Ghosts E) → store.Ghosts (FileStore D d)
    → store.Ghosts (FileStore E e) → source.Ghosts R → Type 0
MovedRunsLaw {D} {E} {R} d e g h r = (moved : MovedHistory D E R d e) → IsMovedHistory d e g h r moved
    → (public : AnyPublic) → GaveKey (lives_calls moved.lives) public ⊎ GaveKey (history_calls moved.later) public
    → IsNeverRefused public (moved_handed moved)
