-- Messages in memory, as what is read.
use Rattle.std.specs.Prelude.{◌≡◌, ℕ, List, ◌++◌, Ok}
use Rattle.typecodes.specs.Message.{ReadOutcome}
use Rattle.key_audit.specs.declared.in_memory.InMemory.{InMemory}

-- A read gives the next bytes, and never fails.
abbrev pub GivesNext : InMemory → ReadOutcome → InMemory → Type 0
GivesNext old outcome new = (bytes : List ℕ) × (outcome ≡ Ok bytes) × (old.rest.now ≡ bytes ++ new.rest.now)
