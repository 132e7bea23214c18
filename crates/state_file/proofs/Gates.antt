-- Gates by their bytes.
use Rattle.std.specs.Prelude.{List, ◌≡◌, ◌≢◌, ℕ, ◌*◌, ◌<◌, length, slice_index, Some}
use Rattle.std.proofs.Common.{◌∙◌, ap}
use Rattle.std.proofs.lemmas.Option.{slice_get-get_or}
use Rattle.state_file.specs.File.{IsClosed, IsOpen, open_value}

pub open_by_byte : (content : List ℕ) (k : ℕ) → 256 * k < length content → slice_index content (256 * k) ≡ open_value
    → IsOpen content k
open_by_byte content k within is = slice_get-get_or content (256 * k) 0 within ∙ ap Some is

pub closed_gate : (content : List ℕ) (k : ℕ) → 256 * k < length content → slice_index content (256 * k) ≢ open_value
    → IsClosed content k
closed_gate content k within shut = (within, shut)
