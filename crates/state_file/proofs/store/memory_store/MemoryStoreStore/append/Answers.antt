use Rattle.std.proofs.Common.{◌∙◌}
use Rattle.state_file.proofs.MemoryMoments.{grown_leaves, pushed_leaves}
use Rattle.state_file.proofs.store.memory_store.MemoryStoreStore.append.Goals as goal

pub returns-in-None-clause-any_moment : goal.returns-in-None-clause-any_moment
returns-in-None-clause-any_moment c running =
    pushed_leaves c.push_copy.result c.args.self.now _ c.args.new.now c.push_copy.ensures.ok c.push_copy.ensures.err

pub returns-in_ok-push_copy-in-Some-eq0-New-clause-any_moment : goal.returns-in_ok-push_copy-in-Some-eq0-New-clause-any_moment
returns-in_ok-push_copy-in-Some-eq0-New-clause-any_moment c running =
    grown_leaves c.args.self.now c.fail-in-Some-eq0-New.new.self c.args.new.now
    (c.fail-in-Some-eq0-New.ensures.records.records ∙ c.in_ok-push_copy-in-Some-eq0-New.ensures.ok)

pub returns-in_ok-push_copy-in-Some-clause-any_moment : goal.returns-in_ok-push_copy-in-Some-clause-any_moment
returns-in_ok-push_copy-in-Some-clause-any_moment c running =
    grown_leaves c.args.self.now _ c.args.new.now c.in_ok-push_copy-in-Some.ensures.ok
