use Rattle.std.proofs.Common.{◌≡◌, Some, refl, sym, ◌∙◌, ap, subst, arith, rules}
use Rattle.typecodes.proofs.Spelling.{one_value}
use Rattle.state_file.specs.inner.FileStore.{kept_leaves}
use Rattle.typecodes.specs.Layout.{Spells}
use Rattle.state_file.specs.File.{Holds, fields_at}
use Rattle.state_file.specs.Slot.{slot_record, file_version}
use Rattle.state_file.proofs.Versions.{one_code}
use Rattle.state_file.specs.declared.store.file_store.FileStore.{FileStore}
use Rattle.state_file.specs.declared.record.Record.{Record}
use Rattle.state_file.proofs.Kept.{kept_holds}
use Rattle.state_file.proofs.Lists.{lists_stay, reads_leave, record_at, not_honest}
use Rattle.state_file.proofs.Finding.{holds_entry, holds_none}
use Rattle.state_file.proofs.Moments.{started}
use Rattle.state_file.proofs.store.file_store.FileStoreStore.load.Goals as goal

pub returns-then-k-self-clause-any_moment : goal.returns-then-k-self-clause-any_moment
returns-then-k-self-clause-any_moment g c honest running =
    let self = c.args.self.now in
    lists_stay (λ (store : FileStore g.row.D.Denot g.D.Disk). store.disk) g.D.Disk.moment g.D.Disk.left_since self _ self.records
    (started g.D.Disk.moment g.D.Disk.left_since self.disk _ (λ left since. kept_leaves self.records self.tag (g.D.Disk.state self.disk) left (self.kept honest running) (g.met.D.Disk.only_now self.disk left honest since)))

pub returns-then-k-self-clause-reads : goal.returns-then-k-self-clause-reads
returns-then-k-self-clause-reads g c honest running =
    let self = c.args.self.now in record {
      stays = refl;
      leaves = started g.D.Disk.moment g.D.Disk.left_since self.disk _ (λ left since. g.met.D.Disk.only_now self.disk left honest since);
    }

pub returns-in-Some-clause-any_moment : goal.returns-in-Some-clause-any_moment
returns-in-Some-clause-any_moment g c honest running =
    let self = c.args.self.now in
    lists_stay (λ (store : FileStore g.row.D.Denot g.D.Disk). store.disk) g.D.Disk.moment g.D.Disk.left_since self _ self.records
    (reads_leave g.D.Disk.state g.D.Disk.moment g.D.Disk.left_since self.disk c.read_entry.new.disk self.records self.tag (self.kept honest running) (c.read_entry.ensures.reads.only honest))

pub returns-in-None-clause-any_moment : goal.returns-in-None-clause-any_moment
returns-in-None-clause-any_moment g c honest running =
    let self = c.args.self.now in
    lists_stay (λ (store : FileStore g.row.D.Denot g.D.Disk). store.disk) g.D.Disk.moment g.D.Disk.left_since self _ self.records
    (reads_leave g.D.Disk.state g.D.Disk.moment g.D.Disk.left_since self.disk c.read_entry.new.disk self.records self.tag (self.kept honest running) (c.read_entry.ensures.reads.only honest))

pub returns-in-Err-clause-any_moment : goal.returns-in-Err-clause-any_moment
returns-in-Err-clause-any_moment g c honest running =
    let self = c.args.self.now in
    lists_stay (λ (store : FileStore g.row.D.Denot g.D.Disk). store.disk) g.D.Disk.moment g.D.Disk.left_since self _ self.records
    (reads_leave g.D.Disk.state g.D.Disk.moment g.D.Disk.left_since self.disk c.read_entry.new.disk self.records self.tag (self.kept honest running) (c.read_entry.ensures.reads.only honest))

pub returns-in-Some-clause-answer : goal.returns-in-Some-clause-answer
returns-in-Some-clause-answer g c =
    let self = c.args.self.now in
    let same : g.D.Disk.honest self.disk ≡ _ → file_version self.records ≡ self.version = λ honest. sym (one_code self.version (file_version self.records) (self.of_version honest c.if-self.false)) in
    let is_record : g.D.Disk.honest self.disk ≡ _ → _ = λ honest.
    let kept = kept_holds self.records self.tag (g.D.Disk.state self.disk) c.args.k (self.kept honest c.if-self.false) (omega (arith, self.counted)) in
    let holds = holds_entry self.version (g.D.Disk.state self.disk).content c.args.k c.in-Ok.found c.in-Some.record (c.in-Ok.ensures.entry honest) c.in-Some.is in
    kept.1 ∙ ap (λ (e : Record). Some e) (one_value (slot_record self.version) kept.0 c.in-Some.record _ (subst (λ v. Spells (slot_record v) kept.0 (fields_at (g.D.Disk.state self.disk).content c.args.k)) (same honest) kept.2.spelled) holds.spelled) in
    (c.if-self.false, omega (arith, self.counted), record_at (g.D.Disk.honest self.disk) self.records c.args.k c.in-Some.record is_record, search rules, search rules)

pub returns-in-None-clause-answer : goal.returns-in-None-clause-answer
returns-in-None-clause-answer g c =
    let self = c.args.self.now in (
      c.if-self.false,
      not_honest (g.D.Disk.honest self.disk) (λ honest.
          let kept = kept_holds self.records self.tag (g.D.Disk.state self.disk) c.args.k (self.kept honest c.if-self.false) (omega (arith, self.counted)) in
          holds_none self.version (g.D.Disk.state self.disk).content c.args.k c.in-Ok.found (c.in-Ok.ensures.entry honest) c.in-None.is kept.0 (subst (λ v. Holds v (g.D.Disk.state self.disk).content c.args.k kept.0) (sym (one_code self.version (file_version self.records) (self.of_version honest c.if-self.false))) kept.2)),
      search rules,
      omega (arith, self.counted),
      search rules,
      search rules,
    )
