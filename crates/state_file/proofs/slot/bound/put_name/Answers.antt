use Rattle.std.proofs.Common.{ℕ, ◌-◌, List, length, ap, subst, arith}
use Rattle.state_file.specs.Slot.{name_field, zeros}
use Rattle.state_file.specs.inner.Fields.{AppendsSpelling}
use Rattle.state_file.proofs.Written.{writes-name}
use Rattle.state_file.proofs.slot.bound.put_name.Goals as goal

pub returns : goal.returns
returns c =
    let Written : List ℕ → Type 0 = λ name. AppendsSpelling (name_field c.args.most) name c.args.out.now.items c.put_zeros.new.out.items in
    let Rest : ℕ → Type 0 = λ most. AppendsSpelling (zeros (most - length c.as_bytes-bytes.result.now)) tt c.put.new.out.items c.put_zeros.new.out.items in
    let rest = subst Rest c.from.ensures c.put_zeros.ensures.writes in record {
      writes =
          subst Written c.as_bytes-bytes.ensures.value
          (writes-name c.args.most c.as_bytes-bytes.result.now _ _ _ _ c.as_bytes-bytes.ensures.name c.put_byte_within.ensures.writes c.put.ensures.items rest);
      len = omega (arith, c.from.ensures, ap length c.as_bytes-bytes.ensures.value, c.requires.name_fits, c.put_zeros.ensures.len, c.put.ensures.block.len, c.put_byte_within.ensures.len);
    }
