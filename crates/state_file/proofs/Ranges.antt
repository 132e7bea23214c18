-- Unsynced ranges, and contents that differ in them.
use Rattle.std.proofs.Common.{ℕ, ◌≤◌, List, [], ◌∷◌, length, refl, ◌∙◌, arith}
use Rattle.state_file.specs.Disk.{AreWithin, Range, greatest_end, ChangesOnly}

pub no_shorter : (n : ℕ) (ranges : List Range) → n ≤ greatest_end n ranges
no_shorter n [] = omega arith
no_shorter n (range ∷ ranges) = let rest = no_shorter n ranges in omega (arith, rest)

pub changes_nothing : (ranges : List Range) (old : List ℕ) → ChangesOnly ranges old old
changes_nothing ranges old = record { kept = λ offset inside outside. refl; no_shorter = omega arith; no_longer = no_shorter (length old) ranges }

pub changes_more : (range : Range) (ranges : List Range) (base old new : List ℕ) → ChangesOnly ranges base old → ChangesOnly (range ∷ []) old new → ChangesOnly (range ∷ ranges) base new
changes_more range ranges base old new first then_one = record {
  kept = λ offset inside outside. then_one.kept offset (omega (arith, first.no_shorter)) (outside.0, tt) ∙ first.kept offset inside outside.1;
  no_shorter = omega (arith, first.no_shorter, then_one.no_shorter);
  no_longer = omega (arith, first.no_longer, then_one.no_longer);
}

-- ---- ranges within others

pub within_all : (ranges : List Range) → AreWithin ranges ranges
within_all ranges = record { outside = λ offset aside. aside; ends = λ len. omega arith }

pub within_more : (range : Range) (ranges : List Range) → AreWithin (range ∷ ranges) ranges
within_more range ranges = record { outside = λ offset aside. aside.1; ends = λ len. omega arith }

pub within_both : (outer middle inner : List Range) → AreWithin outer middle → AreWithin middle inner → AreWithin outer inner
within_both outer middle inner first second = record {
  outside = λ offset aside. second.outside offset (first.outside offset aside);
  ends = λ len. omega (arith, first.ends len, second.ends len);
}

-- one range more on both sides
pub within_after : (range : Range) (outer inner : List Range) → AreWithin outer inner → AreWithin (range ∷ outer) (range ∷ inner)
within_after range outer inner within = record {
  outside = λ offset aside. (aside.0, within.outside offset aside.1);
  ends = λ len. omega (arith, within.ends len);
}

pub changes_within : (outer inner : List Range) (old new : List ℕ) → AreWithin outer inner → ChangesOnly inner old new → ChangesOnly outer old new
changes_within outer inner old new within changes = record {
  kept = λ offset inside aside. changes.kept offset inside (within.outside offset aside);
  no_shorter = changes.no_shorter;
  no_longer = omega (arith, changes.no_longer, within.ends (length old));
}
