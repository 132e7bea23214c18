-- The size of a part of a signature.
use Rattle.std.specs.Prelude.{ℕ, ◌+◌}
use Rattle.typecodes.specs.Types.{lms_signature_len_of}
use Rattle.hss.specs.declared.secret.Level.{Level}

-- the bytes of a level's signature with the next level's key
abbrev pub part_size : Level → ℕ
part_size level = lms_signature_len_of level.tree.secret.pair + 56
