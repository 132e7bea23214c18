use Rattle.state_file.proofs.Written.{writes-exactly}
use Rattle.state_file.proofs.slot.fields.put_exactly.Goals as goal

pub returns : goal.returns
returns c = record { writes = writes-exactly c.args.bytes.now _ _ c.put.ensures.items; len = c.put.ensures.block.len }
