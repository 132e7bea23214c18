-- Slots in a piece of 256 that was read at once.
use Rattle.std.proofs.Common.{◌≡◌, ℕ, ◌+◌, ◌*◌, ◌/◌, ◌%◌, ◌<◌, ◌≤◌, List, length, take, drop, sym, ap, subst, ◌∙◌, arith}
use Rattle.std.proofs.lemmas.List.{drop-take, drop-drop}
use Rattle.state_file.specs.File.{fields_at, tag_at}
use Rattle.state_file.specs.inner.Opening.{HasPiece}

-- what the piece has from this offset on
piece_part : (content piece : List ℕ) (k offset width : ℕ) → HasPiece content k piece → offset + width ≤ 65536 → 65536 * (k / 256) + (offset + width) ≤ length content
    → take width (drop offset piece) ≡ take width (drop (65536 * (k / 256) + offset) content)
piece_part content piece k offset width has within reached =
    let at = 65536 * (k / 256) in
    sym (drop-take offset width piece) ∙ ap (drop offset) (has.bytes (offset + width) within reached) ∙ drop-take offset width (drop at content) ∙ ap (take width) (drop-drop offset at content)

pub piece_fields : (content piece : List ℕ) (k : ℕ) → HasPiece content k piece → 256 * (k + 1) ≤ length content → fields_at piece (k % 256) ≡ fields_at content k
piece_fields content piece k has reached =
    let same : 65536 * (k / 256) + (256 * (k % 256) + 1) ≡ 256 * k + 1 = omega arith in
    piece_part content piece k (256 * (k % 256) + 1) 223 has (omega arith) (omega arith) ∙ ap (λ n. take 223 (drop n content)) same

pub piece_tag : (content piece : List ℕ) (k : ℕ) → HasPiece content k piece → 256 * (k + 1) ≤ length content → tag_at piece (k % 256) ≡ tag_at content k
piece_tag content piece k has reached =
    let same : 65536 * (k / 256) + (256 * (k % 256) + 224) ≡ 256 * k + 224 = omega arith in
    piece_part content piece k (256 * (k % 256) + 224) 32 has (omega arith) (omega arith) ∙ ap (λ n. take 32 (drop n content)) same

-- the next slot is in the same piece, unless it begins another
pub piece_on : (content piece : List ℕ) (k : ℕ) → HasPiece content k piece → 0 < (k + 1) % 256 → HasPiece content (k + 1) piece
piece_on content piece k has later =
    let same : k / 256 ≡ (k + 1) / 256 = omega arith in record {
      bytes = λ n within. subst (λ m. 65536 * m + n ≤ length content → take n piece ≡ take n (drop (65536 * m) content)) same (has.bytes n within);
    }
