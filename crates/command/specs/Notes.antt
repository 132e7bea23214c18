-- What the notes say beside an answer: what a refusal means, or that an answer couldn't be written.
use Rattle.std.specs.Prelude.{ℕ, List, [], ◌∷◌, ◌++◌, ◌≡◌, ◌⊎◌, codes}
use Rattle.command.specs.declared.refusal.Refusal.{Refusal}
use Rattle.command.specs.Output.{Taken, WritesText, Fails}
use Rattle.command.specs.Refusal.{number_of, refusal_line}

-- An answer went to the output. Of what was done, with status 0, the notes hear nothing. Of a refusal whose line was
-- written they hear its number, and 0 where the output failed.
abbrev pub NotesOutput : (old new : Taken) → (told_old told_new : List ℕ) → (status : ℕ) → Type 0
NotesOutput old new told_old told_new status =
    ((told_new ≡ told_old) × (status ≡ 0))
    ⊎ ((refusal : Refusal) × (told_new ≡ number_of refusal ∷ told_old)
    × WritesText (refusal_line refusal ++ codes "\n") old new)
    ⊎ ((told_new ≡ 0 ∷ told_old) × (status ≡ 3) × Fails old new)

-- Serving ended. Of the input's end, with status 0, the notes hear nothing. Of a refusal they hear its number; its line
-- was written to the output for errors, or this failed.
abbrev pub NotesEnd : (errors_old errors_new : Taken) → (told_old told_new : List ℕ) → (status : ℕ) → Type 0
NotesEnd errors_old errors_new told_old told_new status =
    ((told_new ≡ told_old) × (status ≡ 0))
    ⊎ ((refusal : Refusal) × (told_new ≡ number_of refusal ∷ told_old)
    × (WritesText (refusal_line refusal ++ codes "\n") errors_old errors_new ⊎ Fails errors_old errors_new))

-- One of the two.
abbrev pub NotesAnswer : (old new errors_old errors_new : Taken) → (told_old told_new : List ℕ) → (status : ℕ) → Type 0
NotesAnswer old new errors_old errors_new told_old told_new status =
    NotesOutput old new told_old told_new status ⊎ NotesEnd errors_old errors_new told_old told_new status

-- .. or a line was refused, with status 2, and the notes hear nothing.
abbrev pub NotesRun : (old new errors_old errors_new : Taken) → (told_old told_new : List ℕ) → (status : ℕ) → Type 0
NotesRun old new errors_old errors_new told_old told_new status =
    NotesAnswer old new errors_old errors_new told_old told_new status
    ⊎ ((told_new ≡ told_old) × (status ≡ 2) × (new ≡ old))
