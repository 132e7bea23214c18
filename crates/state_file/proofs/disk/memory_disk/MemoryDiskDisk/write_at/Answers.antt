use Rattle.std.proofs.Common.{◌+◌, List, ℕ, length, subst, arith, rules}
use Rattle.std.proofs.lemmas.List.{take_all}
use Rattle.state_file.specs.Log.{Overlays}
use Rattle.state_file.specs.declared.disk.log.Entry.TheVariants.{Wrote}
use Rattle.state_file.proofs.Log.{elapses_more, left_more, opens, overlays_bytes, part_overlay_is_bytes}
use Rattle.state_file.proofs.disk.memory_disk.MemoryDiskDisk.write_at.Goals as goal

pub returns-in-Ok-clause-written : goal.returns-in-Ok-clause-written
returns-in-Ok-clause-written c =
    let at = c.args.at in
    let bytes = c.args.bytes.now in
    let old = c.args.self.now.content.items in
    let new = c.write.new.content.items in
    let overlaid : Overlays at bytes old new = subst (λ (l : List ℕ). Overlays at l old new) (take_all (length bytes) bytes (omega arith)) c.in-Ok.ensures.content in
    (opens c.args.self.now.first.items c.args.self.now.log.items c.write.new.log.items at bytes old new overlaid c.in-Ok.ensures.log, overlays_bytes at bytes old new overlaid)

pub returns-in-Ok-clause-call : goal.returns-in-Ok-clause-call
returns-in-Ok-clause-call c =
    record {
      time = elapses_more c.args.self.now.first.items c.args.self.now.log.items c.write.new.log.items (Wrote c.args.at (c.args.at + length c.args.bytes.now)) c.in-Ok.ensures.log;
      failures = search rules;
      plan = search rules;
    }

pub returns-in-Ok-write-clause-call : goal.returns-in-Ok-write-clause-call
returns-in-Ok-write-clause-call c =
    record {
      time = elapses_more c.args.self.now.first.items c.args.self.now.log.items c.write-in-Fails.new.log.items (Wrote c.args.at (c.args.at + length c.args.bytes.now)) c.in-Ok-write.ensures.log;
      failures = search rules;
      plan = search rules;
    }

pub invariant_of-self : goal.invariant_of-self
invariant_of-self c =
    let at = c.args.at in
    let bytes = c.args.bytes.now in
    let self = c.args.self.now in
    let new = c.write.new.content.items in
    record {
      bytes = part_overlay_is_bytes at _ bytes self.content.items new (λ i. omega (arith, c.type_inv.bytes i)) self.bytes c.in-Ok.ensures.content;
      shows = left_more self.first.items self.log.items _ at _ bytes self.content.items new self.shows c.in-Ok.ensures.content c.in-Ok.ensures.log;
    }

pub invariant_of-self-in-Ok-write : goal.invariant_of-self-in-Ok-write
invariant_of-self-in-Ok-write c =
    let at = c.args.at in
    let bytes = c.args.bytes.now in
    let self = c.args.self.now in
    let new = c.write-in-Fails.new.content.items in
    record {
      bytes = part_overlay_is_bytes at _ bytes self.content.items new (λ i. omega (arith, c.type_inv.bytes i)) self.bytes c.in-Ok-write.ensures.content;
      shows = left_more self.first.items self.log.items _ at _ bytes self.content.items new self.shows c.in-Ok-write.ensures.content c.in-Ok-write.ensures.log;
    }
