-- Reading bytes that are there.
use Rattle.std.proofs.Common.{◌≡◌, ℕ, ◌+◌, ◌-◌, ◌<◌, ◌≤◌, List, length, take, drop, slice_range, Result, Ok, Err, refl, sym, ◌∙◌, ap, subst, arith}
use Rattle.state_file.specs.Disk.{DiskState, Counts, is_past_end}
use Rattle.state_file.specs.declared.disk.DiskFault.{DiskFault}
use Rattle.state_file.specs.declared.disk.DiskFault.TheVariants.{Failed, PastEnd, OutOfMemory}

-- such a read isn't counted as one past the end
pub kept_within : {A : Type 0} (result : Result A DiskFault) (end len before after : ℕ) → Counts is_past_end before after result → (result ≡ Err PastEnd → len < end) → end ≤ len → after ≡ before
kept_within (Ok x) end len before after counts past within = counts
kept_within (Err Failed) end len before after counts past within = counts
kept_within (Err OutOfMemory) end len before after counts past within = counts
kept_within (Err PastEnd) end len before after counts past within = absurd (let beyond : len < end = past refl in omega (arith, beyond, within))

-- reading keeps the length
pub still_within : (n : ℕ) (old new : DiskState) → new ≡ old → n ≤ length old.content → n ≤ length new.content
still_within n old new same within = subst (λ (s : DiskState). n ≤ length s.content) (sym same) within

pub range_taken : (content bytes : List ℕ) (at from len size : ℕ) → at ≡ from → len ≡ size → bytes ≡ slice_range content at (at + len) → bytes ≡ take size (drop from content)
range_taken content bytes at from len size offset width is =
    let count : at + len - at ≡ size = omega arith in is ∙ ap (λ n. take n (drop at content)) count ∙ ap (λ n. take size (drop n content)) offset
