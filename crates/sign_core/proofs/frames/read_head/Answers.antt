use Rattle.std.proofs.Common.{rules}
use Rattle.sign_core.proofs.exchanges.Turns.{head_after, head_unread}
use Rattle.sign_core.proofs.frames.read_head.Goals as goal

pub returns-in-Err : goal.returns-in-Err
returns-in-Err g c = head_unread g.I.Message c.read_exact.new.buffer _ _ c.in-Err.fault (search rules) (search rules) c.in-Err.ensures

pub returns-in-Ok : goal.returns-in-Ok
returns-in-Ok g c =
    head_after g.I.Message c.read_exact.new.buffer _ _ _ c.read_after.result c.map.result (search rules) c.in-Ok.ensures c.read_after.ensures c.map.ensures.cases
