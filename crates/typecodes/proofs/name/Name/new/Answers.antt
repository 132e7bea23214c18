use Rattle.std.proofs.Common.{subst, sym}
use Rattle.typecodes.specs.Name.{IsName}
use Rattle.typecodes.proofs.Padding.{filled, front}
use Rattle.typecodes.proofs.name.Name.new.Goals as goal

pub invariant_of-result : goal.invariant_of-result
invariant_of-result c =
    let named : IsName c.args.bytes.now = c.is_name.ensures.0 c.if-not-is_name.false in
    let padded = filled c.args.bytes.now c.copy_from_slice.new.self 0 128 c.copy_from_slice.ensures.after named.within_limit in (
      named.within_limit,
      subst IsName (sym (front c.args.bytes.now c.copy_from_slice.new.self _ c.copy_from_slice.ensures.after)) named,
      padded.0,
      padded.1,
    )
