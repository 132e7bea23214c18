-- The arguments of the commands, as `clap` knows them.
use Rattle.std.specs.Prelude.{[], ◌∷◌, List, ℕ, Some, true, codes}
use Rattle.clap.specs.Lexer.{usize_max}
use Rattle.clap.specs.Words.{Rule, new_rule}

abbrev pub required_rule : List ℕ → Rule
required_rule name = record (new_rule name) { required = true }

-- a word that may be left out
abbrev pub optional_rule : List ℕ → Rule
optional_rule name = new_rule name

-- one or more words
abbrev pub several_rule : List ℕ → Rule
several_rule name = record (new_rule name) {
  required = true;
  range = Some (record { start_inclusive = 1; end_inclusive = usize_max });
}

-- an option with a value, which may be left out
abbrev pub option_rule : List ℕ → Rule
option_rule name = record (new_rule name) { long = Some name; value_names = 1 }

-- .. with this value if it is left out
abbrev pub default_rule : (name value : List ℕ) → Rule
default_rule name value = record (option_rule name) { defaults = value ∷ [] }

abbrev pub default_random : List ℕ
default_random = codes "/dev/urandom"

-- `--random FILE`
abbrev pub random_rule : Rule
random_rule = default_rule (codes "random") default_random
