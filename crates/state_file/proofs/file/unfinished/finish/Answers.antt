use Rattle.std.proofs.Common.{◌≡◌, ◌⊎◌, ◌∷◌, [], refl, ◌∙◌}
use Rattle.state_file.specs.Disk.{ChangesOnly, IsSynced}
use Rattle.state_file.specs.File.{HasNoKey}
use Rattle.state_file.specs.Filling.{first_offsets}
use Rattle.state_file.specs.inner.Filling.{gate_opened}
use Rattle.state_file.proofs.Filling.{at_gate, before_gate, gate_done}
use Rattle.state_file.proofs.Moments.{combined, ok_along, weaker}
use Rattle.state_file.proofs.file.unfinished.finish.Goals as goal

pub returns-in_err-sync_after-clause-any_moment : goal.returns-in_err-sync_after-clause-any_moment
returns-in_err-sync_after-clause-any_moment g c end base honest closed some unfinished =
    let content = (g.E.Disk.state c.args.disk.now).content in
    weaker g.E.Disk.moment g.E.Disk.left_since c.args.disk.now c.sync_after.new.disk _ _
    (λ left changes. before_gate end base content left closed changes)
    (c.sync_after.ensures.any_moment end base honest unfinished)

pub returns-clause-finished : goal.returns-clause-finished
returns-clause-finished g c end base honest closed unfinished =
    let content = (g.E.Disk.state c.args.disk.now).content in
    let mid = (g.E.Disk.state c.sync_after.new.disk).content in
    let after = g.E.Disk.state c.write_synced.new.disk in
    let synced = c.in_ok-sync_after.ensures.synced end base honest unfinished in
    ok_along c.write_synced.result _ (IsSynced after × (after.content ≡ gate_opened content))
    (λ done. (done.0, gate_done end base content mid after.content _ closed refl synced.1 synced.2 done.1 done.2))
    (c.write_synced.ensures.written (c.sync_after.ensures.counts.honest ∙ honest))

pub returns-clause-any_moment : goal.returns-clause-any_moment
returns-clause-any_moment g c end base honest closed some unfinished =
    let content = (g.E.Disk.state c.args.disk.now).content in
    let mid = (g.E.Disk.state c.sync_after.new.disk).content in
    let synced = c.in_ok-sync_after.ensures.synced end base honest unfinished in
    let first =
    weaker g.E.Disk.moment g.E.Disk.left_since c.args.disk.now c.sync_after.new.disk _ (λ left. (HasNoKey left ⊎ (left ≡ gate_opened content)) × ChangesOnly (first_offsets end ∷ []) base left)
    (λ left changes. before_gate end base content left closed changes)
    (c.sync_after.ensures.any_moment end base honest unfinished) in
    let second =
    weaker g.E.Disk.moment g.E.Disk.left_since c.sync_after.new.disk c.write_synced.new.disk _ (λ left. (HasNoKey left ⊎ (left ≡ gate_opened content)) × ChangesOnly (first_offsets end ∷ []) base left)
    (λ left changes. at_gate end base content mid left _ closed some refl synced.1 synced.2 changes)
    (c.write_synced.ensures.any_moment (c.sync_after.ensures.counts.honest ∙ honest) synced.0) in
    combined g.E.Disk.moment g.E.Disk.left_since c.args.disk.now c.sync_after.new.disk c.write_synced.new.disk _ first second
