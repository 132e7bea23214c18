use Rattle.std.proofs.Common.{rules, ◌+◌, ◌<◌, ◌^◌, ◌≡◌, length, arith, Ok, Err}
use Rattle.state_file.specs.declared.disk.DiskFault.TheVariants as fault
use Rattle.command.specs.inner.FileDisk.{DiskReads}
use Rattle.command.proofs.Offsets.{broke_there, ended_there, file_read, filled_there}
use Rattle.command.proofs.Reading.{via}
use Rattle.command.proofs.file_disk.read_whole_at.Goals as goal

pub returns-then-n-into : goal.returns-then-n-into
returns-then-n-into g c =
    let f = g.F.OffsetFile in
    let buffer = c.read_full.new.buffer in
    let ends : c.args.at + length buffer < 2 ^ 64 = search rules in
    let here : c.args.at ≡ c.args.at + 0 = omega arith in
    let (reads, file) = file_read f c.args.at _ _ _ _ c.read_full.ensures.requests ends here in
    via (λ x. DiskReads {A = Unit {0}} f c.args.at buffer (Err fault.PastEnd) c.args.file.now x) c.read_full.new.message.file.now _
    (ended_there f g.met.F.OffsetFile.shows c.args.at _ _ _ _ reads (Unit {0}) c.in-Ok.n c.in-Ok.is c.if-n-into.true) (search rules)

pub returns-else-n-into : goal.returns-else-n-into
returns-else-n-into g c =
    let f = g.F.OffsetFile in
    let buffer = c.read_full.new.buffer in
    let ends : c.args.at + length buffer < 2 ^ 64 = search rules in
    let here : c.args.at ≡ c.args.at + 0 = omega arith in
    let (reads, file) = file_read f c.args.at _ _ _ _ c.read_full.ensures.requests ends here in
    via (λ x. DiskReads {A = Unit {0}} f c.args.at buffer (Ok (tt {0})) c.args.file.now x) c.read_full.new.message.file.now _
    (filled_there f g.met.F.OffsetFile.shows c.args.at _ _ _ _ reads (tt {0}) c.in-Ok.n c.in-Ok.is (search rules) (search rules)) (search rules)

pub returns-in-Err : goal.returns-in-Err
returns-in-Err g c =
    let f = g.F.OffsetFile in
    let buffer = c.read_full.new.buffer in
    let ends : c.args.at + length buffer < 2 ^ 64 = search rules in
    let here : c.args.at ≡ c.args.at + 0 = omega arith in
    let (reads, file) = file_read f c.args.at _ _ _ _ c.read_full.ensures.requests ends here in
    via (λ x. DiskReads {A = Unit {0}} f c.args.at buffer (Err fault.Failed) c.args.file.now x) c.read_full.new.message.file.now _
    (broke_there f g.met.F.OffsetFile.shows c.args.at _ _ _ _ reads (Unit {0}) _ c.in-Err.is) (search rules)
