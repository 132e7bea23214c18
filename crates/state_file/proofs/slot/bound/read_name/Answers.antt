use Rattle.std.proofs.Common.{arith}
use Rattle.state_file.proofs.Blocks.{block-length}
use Rattle.state_file.proofs.slot.bound.read_name.Goals as goal

pub visible_name-requires-clause-non_empty : goal.visible_name-requires-clause-non_empty
visible_name-requires-clause-non_empty c = omega (arith, block-length _ _ _ _ _ c.in_ok-bytes.ensures.read, c.from-count.ensures, c.in_ok-read_byte_within.ensures.least)

pub visible_name-requires-clause-at_most_128 : goal.visible_name-requires-clause-at_most_128
visible_name-requires-clause-at_most_128 c = omega (arith, block-length _ _ _ _ _ c.in_ok-bytes.ensures.read, c.from-count.ensures, c.in_ok-read_byte_within.ensures.most)
