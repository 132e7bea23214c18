use Rattle.std.proofs.Common.{◌++◌, ◌∙◌, ap, arith}
use Rattle.byteorder.specs.Endian.{big_bytes}
use Rattle.state_file.proofs.Written.{writes-version}
use Rattle.state_file.proofs.slot.key.put_version.Goals as goal

pub returns : goal.returns
returns c = record {
  writes =
      writes-version c.args.version _ _ (c.put.ensures.items ∙ ap (λ l. c.args.out.now.items ++ l) (c.to_be_bytes.ensures ∙ ap (big_bytes 2) c.code.ensures.value));
  len = omega arith;
}
