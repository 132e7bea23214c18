use Rattle.state_file.proofs.Lists.{reads_leave}
use Rattle.state_file.proofs.store.file_store.FileStore.tag_at.Goals as goal

pub returns-in-Ok-clause-any_moment : goal.returns-in-Ok-clause-any_moment
returns-in-Ok-clause-any_moment g c honest running =
    let self = c.args.self.now in
    reads_leave g.D.Disk.state g.D.Disk.moment g.D.Disk.left_since self.disk c.read_tag.new.disk self.records self.tag (self.kept honest running) (c.read_tag.ensures.reads.only honest)

pub returns-in-Err-clause-any_moment : goal.returns-in-Err-clause-any_moment
returns-in-Err-clause-any_moment g c honest running =
    let self = c.args.self.now in
    reads_leave g.D.Disk.state g.D.Disk.moment g.D.Disk.left_since self.disk c.read_tag.new.disk self.records self.tag (self.kept honest running) (c.read_tag.ensures.reads.only honest)
