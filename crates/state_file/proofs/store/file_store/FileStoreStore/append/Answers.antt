use Rattle.std.proofs.Common.{inl, ◌*◌, [], ◌∷◌, ◌++◌, ℕ, length, take, refl, sym, ◌∙◌, ap, subst, arith, length-append}
use Rattle.state_file.proofs.Lists.{kept_alone, lists_leave, lists_stay, pushed_moved}
use Rattle.state_file.proofs.Moments.{started}
use Rattle.state_file.specs.declared.store.file_store.FileStore.{FileStore}
use Rattle.state_file.specs.inner.FileStore.{kept_leaves}
use Rattle.state_file.specs.Disk.{ChangesOnly, LeavesOnly}
use Rattle.state_file.specs.Gates.{AddsSlot, slot_and_gate}
use Rattle.state_file.proofs.Kept.{appended_leaves, follows_key, kept_grows, kept_rests, kept_size}
use Rattle.state_file.proofs.Versions.{goes_on_in}
use Rattle.state_file.specs.Slot.{slot_record, version_code, file_version}
use Rattle.typecodes.specs.Layout.{Spells}
use Rattle.state_file.proofs.store.file_store.FileStoreStore.append.Goals as goal

pub returns-then-self-ge-MOST-clause-contents : goal.returns-then-self-ge-MOST-clause-contents
returns-then-self-ge-MOST-clause-contents g c honest running =
    let self = c.args.self.now in
    started g.D.Disk.moment g.D.Disk.left_since self.disk _
    (λ left since. inl (kept_leaves self.records self.tag (g.D.Disk.state self.disk) left (self.kept honest running) (g.met.D.Disk.only_now self.disk left honest since)))

pub invariant_of-self : goal.invariant_of-self
invariant_of-self g c = record {
  of_version = λ honest running.
      let self = c.args.self.now in
      let of_file = self.of_version (sym c.add_slot.ensures.counts.honest ∙ honest) running in
      let same = goes_on_in self.records c.args.new.now self.version c.version_after-version.result (c.requires (sym c.add_slot.ensures.counts.honest ∙ honest)) of_file c.version_after-version.ensures.fits c.version_after-version.ensures.keeps_version in
      ap version_code (same ∙ ap file_version (sym c.push.ensures));
  counted = omega (arith, ap length c.push.ensures, length-append c.args.self.now.records (c.args.new.now ∷ []), c.args.self.now.counted);
  within_limit = omega (arith, ap length c.push.ensures, length-append c.args.self.now.records (c.args.new.now ∷ []), c.args.self.now.counted);
  moved_is = c.is_moved-self.ensures ∙ pushed_moved c.args.self.now.records c.push.new.self c.args.new.now c.push.ensures;
  kept = λ honest running.
      let self = c.args.self.now in
      let state = g.D.Disk.state self.disk in
      let after = g.D.Disk.state c.add_slot.new.disk in
      let fields = c.record_bytes-fields.result in
      let kept = self.kept (sym c.add_slot.ensures.counts.honest ∙ honest) running in
      let front = take (256 * length self.records) state.content in
      let of_file = self.of_version (sym c.add_slot.ensures.counts.honest ∙ honest) running in
      let same = goes_on_in self.records c.args.new.now self.version c.version_after-version.result (c.requires (sym c.add_slot.ensures.counts.honest ∙ honest)) of_file c.version_after-version.ensures.fits c.version_after-version.ensures.keeps_version in
      let spelled = subst (λ v. Spells (slot_record v) c.args.new.now fields) same c.record_bytes-fields.ensures in
      let added = c.in-Ok.ensures.added front (sym c.add_slot.ensures.counts.honest ∙ honest) (kept_rests self.records self.tag state kept) (kept_size self.records self.tag state self.count kept self.counted) in
      kept_grows self.records c.push.new.self self.tag state after self.count c.args.new.now fields c.tag-next_tag.result (c.record_bytes-fields.result ++ c.tag-next_tag.result) c.push.ensures self.counted (omega arith) (follows_key c.args.self.now.records c.args.new.now kept.file.first (c.requires (sym c.add_slot.ensures.counts.honest ∙ honest)))
      c.add_slot.ensures.fields c.add_slot.ensures.tag refl spelled c.tag-next_tag.ensures kept added;
}

pub returns-in-Ok-clause-contents : goal.returns-in-Ok-clause-contents
returns-in-Ok-clause-contents g c honest running =
    let self = c.args.self.now in
    let kept = self.kept honest running in
    let same = goes_on_in self.records c.args.new.now self.version c.version_after-version.result (c.requires honest) (self.of_version honest running) c.version_after-version.ensures.fits c.version_after-version.ensures.keeps_version in
    let spelled = subst (λ v. Spells (slot_record v) c.args.new.now c.record_bytes-fields.result) same c.record_bytes-fields.ensures in
    appended_leaves g.D.Disk.moment g.D.Disk.left_since self.disk c.add_slot.new.disk self.records self.tag (g.D.Disk.state self.disk) self.count c.args.new.now c.record_bytes-fields.result c.tag-next_tag.result self.counted (omega arith) (follows_key self.records c.args.new.now kept.file.first (c.requires honest))
    c.add_slot.ensures.fields c.add_slot.ensures.tag spelled c.tag-next_tag.ensures kept (λ front rest size. c.add_slot.ensures.any_moment front honest rest size)

pub returns-in-Err-clause-contents : goal.returns-in-Err-clause-contents
returns-in-Err-clause-contents g c honest running =
    let self = c.args.self.now in
    let kept = self.kept honest running in
    let same = goes_on_in self.records c.args.new.now self.version c.version_after-version.result (c.requires honest) (self.of_version honest running) c.version_after-version.ensures.fits c.version_after-version.ensures.keeps_version in
    let spelled = subst (λ v. Spells (slot_record v) c.args.new.now c.record_bytes-fields.result) same c.record_bytes-fields.ensures in
    appended_leaves g.D.Disk.moment g.D.Disk.left_since self.disk c.add_slot.new.disk self.records self.tag (g.D.Disk.state self.disk) self.count c.args.new.now c.record_bytes-fields.result c.tag-next_tag.result self.counted (omega arith) (follows_key self.records c.args.new.now kept.file.first (c.requires honest))
    c.add_slot.ensures.fields c.add_slot.ensures.tag spelled c.tag-next_tag.ensures kept (λ front rest size. c.add_slot.ensures.any_moment front honest rest size)

pub returns-in-Ok-clause-adds : goal.returns-in-Ok-clause-adds
returns-in-Ok-clause-adds g c honest =
    subst (λ (n : ℕ). AddsSlot n (g.D.Disk.state c.args.self.now.disk).content (g.D.Disk.state c.add_slot.new.disk)) c.args.self.now.counted (c.in-Ok.ensures.adds honest)

pub returns-then-self-ge-MOST-clause-bytes : goal.returns-then-self-ge-MOST-clause-bytes
returns-then-self-ge-MOST-clause-bytes g c honest running =
    let self = c.args.self.now in
    started g.D.Disk.moment g.D.Disk.left_since self.disk _
    (λ left since. kept_alone self.records self.tag (g.D.Disk.state self.disk) left (slot_and_gate (length self.records) ∷ []) (self.kept honest running) (g.met.D.Disk.only_now self.disk left honest since))

pub returns-in-Ok-clause-bytes : goal.returns-in-Ok-clause-bytes
returns-in-Ok-clause-bytes g c honest running =
    let self = c.args.self.now in
    subst (λ (n : ℕ). LeavesOnly g.D.Disk.moment g.D.Disk.left_since self.disk c.add_slot.new.disk (ChangesOnly (slot_and_gate n ∷ []) (g.D.Disk.state self.disk).content)) self.counted
    (c.add_slot.ensures.bytes honest (self.kept honest running).synced)

pub returns-in-Err-clause-bytes : goal.returns-in-Err-clause-bytes
returns-in-Err-clause-bytes g c honest running =
    let self = c.args.self.now in
    subst (λ (n : ℕ). LeavesOnly g.D.Disk.moment g.D.Disk.left_since self.disk c.add_slot.new.disk (ChangesOnly (slot_and_gate n ∷ []) (g.D.Disk.state self.disk).content)) self.counted
    (c.add_slot.ensures.bytes honest (self.kept honest running).synced)

pub returns-then-self-ge-MOST-clause-any_moment : goal.returns-then-self-ge-MOST-clause-any_moment
returns-then-self-ge-MOST-clause-any_moment g c honest running =
    let self = c.args.self.now in
    lists_leave (λ (store : FileStore g.row.D.Denot g.D.Disk). store.disk) g.D.Disk.moment g.D.Disk.left_since self c.args.self.now self.records (self.records ++ c.args.new.now ∷ []) (returns-then-self-ge-MOST-clause-contents g c honest running)

pub returns-in-Ok-clause-any_moment : goal.returns-in-Ok-clause-any_moment
returns-in-Ok-clause-any_moment g c honest running =
    let self = c.args.self.now in
    lists_leave (λ (store : FileStore g.row.D.Denot g.D.Disk). store.disk) g.D.Disk.moment g.D.Disk.left_since self _ self.records (self.records ++ c.args.new.now ∷ []) (returns-in-Ok-clause-contents g c honest running)

pub returns-in-Err-clause-any_moment : goal.returns-in-Err-clause-any_moment
returns-in-Err-clause-any_moment g c honest running =
    let self = c.args.self.now in
    lists_leave (λ (store : FileStore g.row.D.Denot g.D.Disk). store.disk) g.D.Disk.moment g.D.Disk.left_since self _ self.records (self.records ++ c.args.new.now ∷ []) (returns-in-Err-clause-contents g c honest running)

pub returns-then-self-ge-MOST-clause-refused : goal.returns-then-self-ge-MOST-clause-refused
returns-then-self-ge-MOST-clause-refused g c honest running other =
    let self = c.args.self.now in
    lists_stay (λ store. store.disk) g.D.Disk.moment g.D.Disk.left_since self self self.records
    (started g.D.Disk.moment g.D.Disk.left_since self.disk _
    (λ left since. kept_leaves self.records self.tag (g.D.Disk.state self.disk) left (self.kept honest running) (g.met.D.Disk.only_now self.disk left honest since)))
