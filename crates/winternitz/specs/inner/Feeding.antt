-- What a hasher takes of a message, and its laws: nothing, or one piece after another.
use Rattle.std.specs.Prelude.{ℕ, List, [], ◌++◌}
use Rattle.std.proofs.Common.{append_assoc, append-nil, subst, sym}
use Rattle.winternitz.specs.declared.hasher.Hasher.{Hasher}
use Rattle.winternitz.specs.Hasher.{HoldsBytes}

-- A hasher has these bytes after what it had before.
abbrev pub HasherTakes : Hasher → List ℕ → Hasher → Type 0
HasherTakes before bytes after = (head : List ℕ) → HoldsBytes before head → HoldsBytes after (head ++ bytes)

pub takes_no_bytes : (hasher : Hasher) → HasherTakes hasher [] hasher
takes_no_bytes hasher head holds = subst (HoldsBytes hasher) (sym (append-nil head)) holds

pub takes_more_bytes : (before middle after : Hasher) (first later : List ℕ) → HasherTakes before first middle
    → HasherTakes middle later after → HasherTakes before (first ++ later) after
takes_more_bytes before middle after first later one more head holds =
    subst (HoldsBytes after) (append_assoc head first later) (more (head ++ first) (one head holds))
