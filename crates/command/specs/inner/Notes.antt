-- What notes hear of an answer that was written.
use Rattle.std.specs.Prelude.{ℕ, List, ◌∷◌, Result, Ok, Err}
use Rattle.command.specs.declared.refusal.Refusal.{Refusal}
use Rattle.command.specs.Refusal.{number_of}

-- the numbers that notes heard, after one more answer: a refusal's before them, and none for what was done
abbrev pub with_note : {A : Type 0} → Result A Refusal → (told : List ℕ) → List ℕ
with_note (Ok done) told = told
with_note (Err refusal) told = number_of refusal ∷ told
