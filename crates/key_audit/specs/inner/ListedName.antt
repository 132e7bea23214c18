-- The bytes of a name in a listing.
use Rattle.std.specs.Prelude.{◌≡◌, ◌≤◌, ℕ, List, length, take}
use Rattle.std.specs.Box.{boxed_slice_items}
use Rattle.key_audit.specs.declared.listed_name.Text.{Text}
use Rattle.key_audit.specs.declared.listed_name.Text.TheVariants.{Short, Long}

abbrev pub bytes_of : Text → List ℕ
bytes_of (Short len bytes) = take len bytes
bytes_of (Long text) = boxed_slice_items text

abbrev pub FitsText : Text → Type 0
FitsText (Short len bytes) = (len ≤ 22) × (length bytes ≡ 22)
FitsText (Long text) = Unit {0}
