use Rattle.state_file.proofs.Written.{writes-bounded_byte}
use Rattle.state_file.proofs.slot.fields.put_byte_within.Goals as goal

pub returns : goal.returns
returns c = record {
  writes = writes-bounded_byte c.args.least c.args.most c.args.n _ _ c.requires.least c.requires.most c.put_byte.ensures.writes;
  len = c.put_byte.ensures.len;
}
