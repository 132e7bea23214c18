-- `retire STATE UPTO`: its words, and what it does.
use Rattle.std.specs.Prelude.{◌≡◌, ◌⊎◌, ◌++◌, ◌∷◌, [], ℕ, List, codes, Option, Some, None, Result, Ok, Err}
use Rattle.clap.specs.Words.{App, Text, new_app, with_rule}
use Rattle.state_file.specs.declared.disk.Disk as disk
use Rattle.state_file.specs.declared.store.Store as store
use Rattle.state_file.specs.declared.store.file_store.FileStore.{FileStore}
use Rattle.command.specs.declared.answer.Done.{Done}
use Rattle.command.specs.declared.answer.Done.TheVariants.{Retired}
use Rattle.command.specs.declared.usage_fault.UsageFault.{UsageFault}
use Rattle.command.specs.declared.usage_fault.UsageFault.TheVariants.{Command, Number}
use Rattle.command.specs.declared.refusal.Refusal.{Refusal}
use Rattle.command.specs.declared.retire.Retire.{Retire}
use Rattle.command.specs.declared.trace.Role.TheVariants as role
use Rattle.command.specs.Argument.{required_rule}
use Rattle.command.specs.FileDisk.{IsStateRefusal}
use Rattle.command.specs.Files.{FilesSeen}
use Rattle.command.specs.KeyFile.{RetiresOn}
use Rattle.command.specs.Number.{decimal_number}
use Rattle.command.specs.Trace.{Happening, opened, opening_state}

abbrev pub retire_app : App
retire_app = with_rule (with_rule (new_app (codes "retire")) (required_rule (codes "STATE")))
    (required_rule (codes "UPTO"))

-- the leaves of a tree of height 25
abbrev pub most_leaves : ℕ
most_leaves = 33554432

-- The values of the words; or one is missing, or UPTO isn't a number up to 2^25.
abbrev pub IsRetire : Option Text → Option Text → Result Retire UsageFault → Type 0
IsRetire state upto (Ok words) = (state ≡ Some words.state.now)
    × ((text : Text) × (upto ≡ Some text) × (decimal_number most_leaves text ≡ Some words.upto))
IsRetire state upto (Err Number) = (text : Text) × (path : Text) × (state ≡ Some path) × (upto ≡ Some text)
    × (decimal_number most_leaves text ≡ None)
IsRetire state upto (Err Command) = (state ≡ None) ⊎ (upto ≡ None)
IsRetire state upto (Err _) = ⊥

abbrev pub retire_answer : ℕ → Result Unit Refusal → Result Done Refusal
retire_answer upto (Ok _) = Ok (Retired upto)
retire_answer upto (Err refusal) = Err refusal

-- Either the state file couldn't be opened, or was locked, which is the answer. Or it was opened, the leaves were
-- retired once on its disk, and it was closed. No other file was opened.
abbrev pub RetiresIn : {K : Type 0} {bound : _} → disk.Ghosts K → store.Ghosts (FileStore K bound) → FilesSeen K
    → (state : List ℕ) → (upto : ℕ) → Result Done Refusal → (old new : List Happening) → Type 0
RetiresIn {K} d g files state upto answer old new =
    ((refusal : Refusal) × IsStateRefusal refusal × (answer ≡ Err refusal)
    × (new ≡ old ++ opening_state {A = K} state (Err refusal) ∷ []))
    ⊎ ((before after : K) × (retired : Result Unit Refusal) × files.IsOpenedDisk state before
    × RetiresOn d g before after upto retired × files.IsClosedDisk after
    × (answer ≡ retire_answer upto retired) × (new ≡ old ++ opened role.State state ∷ []))
