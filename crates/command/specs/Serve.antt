-- `serve STATE [--random FILE]`: its words, and what it does.
use Rattle.std.specs.Prelude.{◌≡◌, ◌⊎◌, ◌++◌, ◌∷◌, [], ℕ, List, codes, Option, Some, None, Result, Err}
use Rattle.clap.specs.Words.{App, Text, new_app, with_rule}
use Rattle.typecodes.specs.declared.message.Message as message
use Rattle.sign_core.specs.declared.source.Source as source
use Rattle.state_file.specs.declared.disk.Disk as disk
use Rattle.state_file.specs.declared.store.Store as store
use Rattle.state_file.specs.declared.store.file_store.FileStore.{FileStore}
use Rattle.command.specs.declared.refusal.Refusal.{Refusal}
use Rattle.command.specs.declared.refusal.Refusal.TheVariants.{FileFailed}
use Rattle.command.specs.declared.serve.Serve.{Serve}
use Rattle.command.specs.declared.trace.Role.TheVariants as role
use Rattle.command.specs.Argument.{random_rule, required_rule}
use Rattle.command.specs.FileDisk.{IsStateRefusal}
use Rattle.command.specs.Files.{FilesSeen, KeepsContents, ShowsContent}
use Rattle.command.specs.KeyFile.{ServesOn}
use Rattle.command.specs.Trace.{Happening, not_opened, opened, opening_state}

abbrev pub serve_app : App
serve_app = with_rule (with_rule (new_app (codes "serve")) (required_rule (codes "STATE"))) random_rule

-- The values of the words; None if one is missing.
abbrev pub IsServe : (state random : Option Text) → Option Serve → Type 0
IsServe state random (Some words) = (state ≡ Some words.state.now) × (random ≡ Some words.random.now)
IsServe state random None = (state ≡ None) ⊎ (random ≡ None)

-- On the disk of an open state file: the file of random bytes was opened, and the requests of an input were served once
-- with its bytes. Or it couldn't be opened, and the disk, the input and the output are as they were.
abbrev pub ServesOpened : {K R I W : Type 0} {bound : _} → disk.Ghosts K → store.Ghosts (FileStore K bound)
    → source.Ghosts R → message.Ghosts I → (contents : W → Option (List ℕ)) → (content : List ℕ → Option (List ℕ))
    → (before after : K) → (random : List ℕ) → (from to : I × W) → Result ℕ Refusal → (old new : List Happening)
    → Type 0
ServesOpened {K} {R} {I} {W} {bound} d g r m contents content before after random from to served old new =
    ((served ≡ Err FileFailed) × (after ≡ before) × (to ≡ from) × (new ≡ old ++ not_opened role.Random random ∷ []))
    ⊎ ((source : R) × ShowsContent (content random) (r.upcoming source)
    × ServesOn {bound = bound} d g r m contents before after source from to served
    × (new ≡ old ++ opened role.Random random ∷ []))

-- Either the state file couldn't be opened, or was locked, which is the answer, and the input and the output are as
-- they were. Or it was opened, the requests were served on its disk, and it was closed.
abbrev pub ServesIn : {K R I W : Type 0} {bound : _} → disk.Ghosts K → store.Ghosts (FileStore K bound)
    → source.Ghosts R → message.Ghosts I → (contents : W → Option (List ℕ)) → FilesSeen K → (state random : List ℕ)
    → (from to : I × W) → Result ℕ Refusal → (old new : List Happening) → Type 0
ServesIn {K} {R} {I} {W} {bound} d g r m contents files state random from to served old new =
    ((refusal : Refusal) × IsStateRefusal refusal × (served ≡ Err refusal) × (to ≡ from)
    × (new ≡ old ++ opening_state {A = K} state (Err refusal) ∷ []))
    ⊎ ((before after : K) × (content : List ℕ → Option (List ℕ))
    × KeepsContents files.content content × files.IsOpenedDisk state before
    × ServesOpened {bound = bound} d g r m contents content before after random from to served
    (old ++ opened role.State state ∷ []) new
    × files.IsClosedDisk after)
