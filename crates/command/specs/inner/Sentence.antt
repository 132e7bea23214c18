-- What the writer of sentences heard of.
use Rattle.std.specs.Prelude.{ℕ, List}
use Rattle.command.specs.declared.sentence.Sentences.{Sentences}

-- the numbers, the last one first
abbrev pub told_of : Sentences → List ℕ
told_of sentences = sentences.told
