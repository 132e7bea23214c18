use Rattle.std.proofs.Common.{◌≡◌, ◌+◌, ◌++◌, take}
use Rattle.std.specs.Prelude.{sum_by}
use Rattle.std.specs.List.{flat_map}
use Rattle.typecodes.specs.Layout.{Spells}
use Rattle.hss.specs.SignedKey.{signed_keys}
use Rattle.hss.specs.Writing.{made_signature, signed_key_bytes}
use Rattle.hss.specs.inner.Writing.{part_size}
use Rattle.hss.proofs.writing.write_above.Given as goal

-- the signed keys so far were written, and spell themselves
abbrev pub invariant-loop-i : goal.invariant-loop-i
invariant-loop-i l =
    let signed = take l.i (made_signature l.above l.bottom).signed in
    record {
      offset : l.offset ≡ 4 + sum_by part_size (take l.i l.above);
      bytes : take l.offset l.into ≡ take 4 l.fn.into ++ flat_map signed_key_bytes signed;
      spelled : Spells (signed_keys l.i) signed (flat_map signed_key_bytes signed);
    }
