-- What readers and writers of fields do.
use Rattle.std.specs.Prelude.{◌≡◌, ℕ, ◌+◌, List, ◌++◌, Result, OnOk}
use Rattle.arrayvec.specs.ArrayVec.{ArrayVec, array_vec_len}
use Rattle.typecodes.specs.declared.cursor.Cursor.{Cursor}
use Rattle.typecodes.specs.Layout.{Layout, Spells}

-- A reader passes n bytes. After a fault its cursor may stand anywhere.
pub record Advances {X E : Type 0} (n : ℕ) (result : Result X E) (old new : Cursor) : Type 0 where
  pub len : OnOk result (new.place ≡ old.place + n)
  pub bytes : new.bytes ≡ old.bytes

pub record AppendsSpelling {V : Type 0} (layout : Layout V) (value : V) (old new : List ℕ) : Type 0 where
  pub part : List ℕ
  pub after : new ≡ old ++ part
  pub spelled : Spells layout value part

-- A writer appends the value's spelling, n bytes.
pub record Puts {V : Type 0} (n : ℕ) (layout : Layout V) (value : V) (old new : ArrayVec ℕ) : Type 0 where
  pub writes : AppendsSpelling layout value old.items new.items
  pub len : array_vec_len new ≡ array_vec_len old + n
