use Rattle.std.proofs.Common.{refl, arith}
use Rattle.state_file.specs.Carried.{carried}
use Rattle.state_file.proofs.Carried.{carried_length, carried_list, record_is}
use Rattle.state_file.proofs.Copied.{copied_more}
use Rattle.state_file.proofs.Filling.{unfinished_leaves}
use Rattle.state_file.proofs.Moments.{started}
use Rattle.state_file.proofs.migration.filling.copy_slot.Goals as goal

pub returns-in_err-entry-clause-any_moment : goal.returns-in_err-entry-clause-any_moment
returns-in_err-entry-clause-any_moment g c end base honest fits unfinished =
    let disk = c.args.disk.now in
    started g.E.Disk.moment g.E.Disk.left_since disk _
    (λ left since. unfinished_leaves end base (g.E.Disk.state disk) left unfinished (g.met.E.Disk.only_now disk left honest since))

pub returns-clause-copied : goal.returns-clause-copied
returns-clause-copied g c honest_old honest copied =
    let store = c.args.store.now in
    let kept = store.kept honest_old c.requires.running in
    let entry = c.in_ok-entry.entry in
    let count = c.args.copied.now.count in
    let content = (g.E.Disk.state c.args.disk.now).content in
    let new = (g.E.Disk.state c.write_slot.new.disk).content in
    let written = c.in_ok-write_slot.ensures in
    let is = record_is (g.D.Disk.honest store.disk) (carried store.records) count entry honest_old c.in_ok-entry.ensures.answer.0 in
    copied_more (carried store.records) entry count _ content new c.record_bytes-fields.result c.args.copied.now.tag c.tag-next_tag.result (carried_list store.records c.requires.moved kept.file.first) written.fields written.tag
    (omega (arith, carried_length store.records c.requires.moved, kept.file.within_limit)) c.record_bytes-fields.ensures c.tag-next_tag.ensures refl is copied (λ zero closed. written.first zero honest closed)
    (λ front after len holds. written.next front after honest len holds)
