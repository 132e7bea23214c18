use Rattle.std.proofs.Common.{arith}
use Rattle.sign_core.proofs.calls.AppendMoments.{levels_range}
use Rattle.sign_core.proofs.signer.Signer.bottom.Goals as goal

pub overflow_sub-bottom : goal.overflow_sub-bottom
overflow_sub-bottom g c = (levels_range _ _ _ c.key.ensures.sizes c.key.ensures.first c.levels-bottom.ensures).0

pub current-requires : goal.current-requires
current-requires g c =
    let within_limit = (levels_range _ _ _ c.key.ensures.sizes c.key.ensures.first c.levels-bottom.ensures).1 in
    let some = (levels_range _ _ _ c.key.ensures.sizes c.key.ensures.first c.levels-bottom.ensures).0 in
    omega (arith, within_limit, some)

pub leaves-requires : goal.leaves-requires
leaves-requires g c =
    let some = (levels_range _ _ _ c.key.ensures.sizes c.key.ensures.first c.levels-bottom.ensures).0 in
    omega (arith, some, c.levels-bottom.ensures)
