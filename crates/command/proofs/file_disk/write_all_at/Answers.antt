use Rattle.std.proofs.Common.{rules, ◌+◌, ◌<◌, ◌^◌, ◌≡◌, length, arith, Ok, Err}
use Rattle.state_file.specs.declared.disk.DiskFault.TheVariants as fault
use Rattle.command.specs.inner.FileDisk.{DiskWrites}
use Rattle.command.proofs.Offsets.{file_written, not_written_there, written_there}
use Rattle.command.proofs.Reading.{via}
use Rattle.command.proofs.file_disk.write_all_at.Goals as goal

pub returns-in-Ok : goal.returns-in-Ok
returns-in-Ok g c =
    let f = g.F.OffsetFile in
    let bytes = c.args.bytes.now in
    let ends : c.args.at + length bytes < 2 ^ 64 = search rules in
    let here : c.args.at ≡ c.args.at + 0 = omega arith in
    let (writes, file) = file_written f c.args.at _ _ _ _ c.write_all.ensures ends here in
    via (λ x. DiskWrites {A = Unit {0}} f c.args.at bytes (Ok (tt {0})) c.args.file.now x) c.write_all.new.sink.file.now _
    (written_there f c.args.at _ _ _ _ writes (tt {0}) c.in-Ok.is) (search rules)

pub returns-in-Err : goal.returns-in-Err
returns-in-Err g c =
    let f = g.F.OffsetFile in
    let bytes = c.args.bytes.now in
    let ends : c.args.at + length bytes < 2 ^ 64 = search rules in
    let here : c.args.at ≡ c.args.at + 0 = omega arith in
    let (writes, file) = file_written f c.args.at _ _ _ _ c.write_all.ensures ends here in
    via (λ x. DiskWrites {A = Unit {0}} f c.args.at bytes (Err fault.Failed) c.args.file.now x) c.write_all.new.sink.file.now _
    (not_written_there f c.args.at _ _ _ _ writes _ c.in-Err.is) (search rules)
