-- What contracts see of an open state file: the model of a disk, as of its file.
use Rattle.std.specs.Prelude.{◌≡◌, ◌&&◌, ℕ, Bool, List, []}
use Rattle.state_file.specs.Disk.{DiskState}
use Rattle.command.specs.declared.file_calls.FileCalls as file_calls
use Rattle.command.specs.declared.state.StateFile.{StateFile}
use Rattle.command.specs.Trace.{Happening}

-- what happened to it since it was opened
abbrev pub trace_of : {F : Type 0} → StateFile F → List Happening
trace_of state = state.trace.events

-- It was opened at this path, and nothing happened to it yet.
abbrev pub IsOpenedAt : {F : Type 0} → (path : List ℕ) → StateFile F → Type 0
IsOpenedAt path state = (state.path.now ≡ path) × (trace_of state ≡ [])

-- Its file is honest, and it is locked: others may write a file that isn't.
abbrev pub honest_of : {F : Type 0} → file_calls.Ghosts F → StateFile F → Bool
honest_of f state = state.is_locked && f.honest state.file

abbrev pub state_of : {F : Type 0} → file_calls.Ghosts F → StateFile F → DiskState
state_of f state = f.state state.file

abbrev pub moment_of : {F : Type 0} → file_calls.Ghosts F → StateFile F → ℕ
moment_of f state = f.moment state.file

abbrev pub left_since_of : {F : Type 0} → file_calls.Ghosts F → StateFile F → ℕ → List ℕ → Type 0
left_since_of f state = f.left_since state.file
