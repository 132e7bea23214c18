-- What a progress may be told of a tree, and of which key.
use Rattle.std.specs.Prelude.{◌≡◌, ◌≤◌, ◌^◌, ℕ, Option, option_map}
use Rattle.typecodes.specs.declared.spec.Spec.{Spec}
use Rattle.state_file.specs.declared.record.Key.{Key}
use Rattle.sign_core.specs.Records.{types_of}

-- a tree of some height of up to 25 has this number of leaves
pub record IsLeafCount (leaves : ℕ) : Type 0 where
  pub height : ℕ
  pub at_most_25 : height ≤ 25
  pub value : leaves ≡ 2 ^ height

-- the types of a key's trees
abbrev pub types_of_key : Option Key → Option Spec
types_of_key found = option_map (λ (key : Key). types_of key.secret) found
