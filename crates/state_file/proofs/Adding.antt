-- The two writes that add a slot stay within it and the gate after it.
use Rattle.std.proofs.Common.{◌≡◌, inl, inr, ⊎_elim, ℕ, ◌+◌, ◌-◌, ◌*◌, ◌<◌, ◌≤◌, List, [], ◌∷◌, ◌++◌, length, take, drop, slice_index, slice_range, sym, ◌∙◌, ap, arith, length-append, length-take, length-drop, get_or-drop}
use Rattle.std.proofs.lemmas.List.{get_or_at, get_or-take}
use Rattle.std.specs.Prelude.{max}
use Rattle.state_file.specs.File.{HasNoKey, open_value}
use Rattle.state_file.specs.Disk.{DiskState, ChangesOnly, range_of, IsSynced}
use Rattle.state_file.proofs.Gates.{closed_gate}
use Rattle.state_file.specs.Format.{PreparesPlace}
use Rattle.state_file.specs.Gates.{AddsSlot, slot_and_gate}

-- the first write stays within what both change
pub first_stays : (k : ℕ) (bytes content c : List ℕ) → length bytes ≡ 256 → ChangesOnly (range_of (256 * k + 1) bytes ∷ []) content c → ChangesOnly (slot_and_gate k ∷ []) content c
first_stays k bytes content c size first = record {
  kept = λ offset inside outside. first.kept offset inside (⊎_elim (λ (low : offset < 256 * k). inl (omega arith)) (λ (high : 256 * k + 257 ≤ offset). inr (omega (arith, size))) outside.0, tt);
  no_shorter = first.no_shorter;
  no_longer = omega (arith, size, first.no_longer);
}

pub both_stay : (k : ℕ) (bytes content mid c : List ℕ) → length bytes ≡ 256 → ChangesOnly (range_of (256 * k + 1) bytes ∷ []) content mid → ChangesOnly (range_of (256 * k) (open_value ∷ []) ∷ []) mid c
    → ChangesOnly (slot_and_gate k ∷ []) content c
both_stay k bytes content mid c size first second = record {
  kept = λ offset inside outside.
      second.kept offset (omega (arith, first.no_shorter)) (⊎_elim (λ (low : offset < 256 * k). inl low) (λ (high : 256 * k + 257 ≤ offset). inr (omega arith)) outside.0, tt)
      ∙ (first_stays k bytes content mid size first).kept offset inside outside;
  no_shorter = omega (arith, first.no_shorter, second.no_shorter);
  no_longer = omega (arith, size, first.no_longer, second.no_longer);
}

-- a slot without its gate, and a closed gate, are 256 bytes
pub block_size : (body bytes : List ℕ) → length body ≡ 255 → bytes ≡ body ++ 0 ∷ [] → length bytes ≡ 256
block_size body bytes body_len is = omega (arith, ap length is, length-append body (0 ∷ []))

pub slot_added : (k : ℕ) (body bytes content mid : List ℕ) (new : DiskState) → length body ≡ 255 → bytes ≡ body ++ 0 ∷ [] → ChangesOnly (range_of (256 * k + 1) bytes ∷ []) content mid
    → slice_range mid (256 * k + 1) (256 * k + 1 + length bytes) ≡ bytes → IsSynced new → ChangesOnly (range_of (256 * k) (open_value ∷ []) ∷ []) mid new.content → AddsSlot k content new
slot_added k body bytes content mid new body_len is first put synced second =
    let tail = drop (256 * k + 1) mid in
    let size = block_size body bytes body_len is in
    let width : 256 * k + 1 + length bytes - (256 * k + 1) ≡ length bytes = omega arith in
    let part : take (length bytes) tail ≡ bytes = ap (λ n. take n tail) (sym width) ∙ put in
    let reaches : 256 * k + 257 ≤ length mid = omega (arith, ap length part, length-take (length bytes) tail, length-drop (256 * k + 1) mid, size) in
    let last : slice_index bytes 255 ≡ 0 = ap (λ (l : List ℕ). slice_index l 255) is ∙ get_or_at body 0 [] 0 255 body_len in
    let offset : 256 * (k + 1) ≡ 256 * k + 1 + 255 = omega arith in
    let gate : slice_index mid (256 * (k + 1)) ≡ 0 =
    ap (λ n. slice_index mid n) offset ∙ sym (get_or-drop (256 * k + 1) mid 255 0) ∙ sym (get_or-take (length bytes) tail 255 0 (omega (arith, size))) ∙ ap (λ (l : List ℕ). slice_index l 255) part ∙ last in
    let shut : slice_index new.content (256 * (k + 1)) ≡ 0 = second.kept (256 * (k + 1)) (omega (arith, reaches)) (inr (omega arith), tt) ∙ gate in
    record {
      synced = synced;
      changes = both_stay k bytes content mid new.content size first second;
      closed = closed_gate new.content (k + 1) (omega (arith, reaches, second.no_shorter)) (λ is_open. omega (arith, is_open, shut));
      len = omega (arith, size, reaches, first.no_shorter, second.no_shorter, first.no_longer, second.no_longer);
    }

-- a prepared place keeps its length, but has a byte
pub prepared_len : (content : List ℕ) (new : DiskState) → PreparesPlace content new → length new.content ≡ max (length content) 1
prepared_len content new (rest, inl (short, put, changes)) = omega (arith, rest.ends.closed.0, changes.no_shorter, changes.no_longer)
prepared_len content new (rest, inr (long, closed, same)) = omega (arith, ap length same)

-- a crash while under 257 bytes are prepared leaves no key
pub prepared_no_key : (content c : List ℕ) → length content < 257 → ChangesOnly (range_of 0 (0 ∷ []) ∷ []) content c → HasNoKey c
prepared_no_key content c short changes = inl (omega (arith, short, changes.no_longer))
