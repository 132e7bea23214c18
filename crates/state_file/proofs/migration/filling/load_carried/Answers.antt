use Rattle.std.proofs.Common.{rules, ◌≡◌, Some}
use Rattle.state_file.proofs.Carried.{loads_carried}
use Rattle.state_file.proofs.migration.filling.load_carried.Goals as goal

pub returns-in-Ok-Some-clause-answer : goal.returns-in-Ok-Some-clause-answer
returns-in-Ok-Some-clause-answer g c =
    let store = c.args.store.now in
    let found : c.in-Ok-Some.field-0 ≡ Some c.in-Ok-Some.entry = search rules in
    loads_carried (g.D.Disk.honest store.disk) store.records store.stopped c.args.k _ _ _ c.in-Ok-Some.field-0 c.in-Ok-Some.entry c.carried.result c.requires.moved c.requires.within found c.carried.ensures.value c.in-Ok-Some.ensures.answer
