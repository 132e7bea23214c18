use Rattle.std.proofs.Common.{◌+◌, arith}
use Rattle.lms.specs.Key.{public_key as lms_public_key}
use Rattle.hss.proofs.Walking.{ends-within}
use Rattle.hss.proofs.KeyBytes.{public-read}
use Rattle.hss.proofs.signed_key.bytes_of_key.Goals as goal

pub returns-clause-spelled : goal.returns-clause-spelled
returns-clause-spelled c =
    public-read c.args.key.now c.args.bytes.now c.args.start (c.args.start + 56) c.requires.within (λ i. omega (arith, c.type_inv.bytes i)) c.requires.found

pub slice_bounds-result-end : goal.slice_bounds-result-end
slice_bounds-result-end c =
    (ends-within lms_public_key c.args.key.now c.args.bytes.now c.args.start (c.args.start + 56) c.requires.within c.requires.found).1
