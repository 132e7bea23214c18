-- What several reads of a store do, one after the other.
use Rattle.std.proofs.Common.{◌≡◌, ℕ, suc, ◌+◌, ◌<◌, ◌≤◌, Bool, true, false, List, [], ◌∷◌, ◌++◌, length, Some, Ok, Result, refl, sym}
use Rattle.std.proofs.Common.{ap, ◌∙◌, subst, arith, IsTrue, true≢false, take, ◌||◌}
use Rattle.std.proofs.lemmas.List.{take_all}
use Rattle.std.specs.Prelude.{slice_get}
use Rattle.state_file.specs.declared.disk.Disk as disk
use Rattle.state_file.specs.declared.record.Record.{Record}
use Rattle.state_file.specs.declared.store.file_store.FileStore.{FileStore}
use Rattle.state_file.specs.Disk.{Counts, LeavesOnly, MayLeave}
use Rattle.state_file.specs.DiskCalls.{OnlyReads}
use Rattle.state_file.specs.FileStore.{WhileStoreRuns, disk_of, has_stopped, records_of, unreadable_of}
use Rattle.state_file.specs.Store.{Collects, IsRecordAt}
use Rattle.state_file.proofs.Moments.{combined, started}
use Rattle.sign_core.proofs.calls.AppendMoments.{length_one_more}
use Rattle.sign_core.proofs.records.Lists.{take_with_next}
use Rattle.key_audit.specs.declared.report.AuditFault.{AuditFault}
use Rattle.key_audit.specs.Audit.{ReadsStore, is_device_failed, is_fault, is_stopped, unreadable_slot}
use Rattle.key_audit.specs.inner.Loading.{AreLoaded, LoadsSlot}

-- Calls that didn't fail left the whole store as it was.
pub record IsUnchanged {D : Type 0} (d : disk.Ghosts D) (old now : FileStore D d) : Type 0 where
  pub records : records_of now ≡ records_of old
  pub reads : WhileStoreRuns d old (OnlyReads d.state d.moment d.left_since (disk_of old) (disk_of now))
  pub failures : d.failures (disk_of now) ≡ d.failures (disk_of old)
  pub past_ends : IsTrue (d.honest (disk_of old)) → d.past_ends (disk_of now) ≡ d.past_ends (disk_of old)
  pub honest : d.honest (disk_of now) ≡ d.honest (disk_of old)
  pub stopped : has_stopped now ≡ has_stopped old
  pub stays : has_stopped old ≡ true → now ≡ old
  pub unreadable : unreadable_of now ≡ unreadable_of old

module _ {D : Type 0} (d : disk.Ghosts D) where
  -- since this moment nothing else may be left
  abbrev pub OnlyNow : FileStore D d → Type 0
  OnlyNow store = (c : List ℕ) → IsTrue (d.honest (disk_of store)) → d.left_since (disk_of store) (d.moment (disk_of store)) c
      → MayLeave (d.state (disk_of store)) c

  pub kept_first : (store : FileStore D d) → OnlyNow store → IsUnchanged d store store
  kept_first store only = record {
    records = refl;
    reads = λ honest running. record {
      stays = refl;
      leaves = started d.moment d.left_since (disk_of store) (MayLeave (d.state (disk_of store))) (λ c since. only c honest since);
    };
    failures = refl;
    past_ends = λ honest. refl;
    honest = refl;
    stopped = refl;
    stays = λ was. refl;
    unreadable = refl;
  }

  -- so two reads leave what one leaves
  only_more : (old mid new : D) → OnlyReads d.state d.moment d.left_since old mid → OnlyReads d.state d.moment d.left_since mid new
      → OnlyReads d.state d.moment d.left_since old new
  only_more old mid new first second = record {
    stays = second.stays ∙ first.stays;
    leaves =
        combined d.moment d.left_since old mid new (MayLeave (d.state old)) first.leaves
        (subst (λ s. LeavesOnly d.moment d.left_since mid new (MayLeave s)) first.stays second.leaves);
  }

  -- one call more
  pub reads_after : {A : Type 0} (old mid new : FileStore D d) (answer : Result A AuditFault) → IsUnchanged d old mid → ReadsStore d mid new answer
      → ReadsStore d old new answer
  reads_after old mid new answer kept reads = record {
    records = reads.records ∙ kept.records;
    reads = λ honest running.
        only_more (disk_of old) (disk_of mid) (disk_of new) (kept.reads honest running)
        (reads.reads (subst IsTrue (sym kept.honest) honest) (kept.stopped ∙ running));
    counts = record {
      failures = subst (λ n. Counts is_device_failed n (d.failures (disk_of new)) answer) kept.failures reads.counts.failures;
      past_ends = λ honest. reads.counts.past_ends (subst IsTrue (sym kept.honest) honest) ∙ kept.past_ends honest;
      honest = reads.counts.honest ∙ kept.honest;
    };
    was_stopped = sym kept.stopped ∙ reads.was_stopped;
    stopped = reads.stopped ∙ ap (λ b. is_fault is_device_failed answer || b) kept.stopped;
    stays = λ was. reads.stays (kept.stopped ∙ was) ∙ kept.stays was;
    unreadable = subst (λ l. Collects unreadable_slot l (unreadable_of new) answer) kept.unreadable reads.unreadable;
  }

  pub kept_by : {A : Type 0} (old new : FileStore D d) (x : A) → ReadsStore d old new (Ok x) → IsUnchanged d old new
  kept_by old new x reads = record {
    records = reads.records;
    reads = reads.reads;
    failures = reads.counts.failures;
    past_ends = reads.counts.past_ends;
    honest = reads.counts.honest;
    stopped = reads.stopped;
    stays = reads.stays;
    unreadable = reads.unreadable;
  }

  -- an answer without a further call
  pub answered : {A : Type 0} (old now : FileStore D d) (answer : Result A AuditFault) → IsUnchanged d old now → has_stopped old ≡ false
      → is_fault is_stopped answer ≡ false → is_fault is_device_failed answer ≡ false
      → ((n : ℕ) → Counts is_device_failed n n answer) → ((l : List ℕ) → Collects unreadable_slot l l answer) → ReadsStore d old now answer
  answered old now answer kept running not_stopped not_failed none no_slot = record {
    records = kept.records;
    reads = kept.reads;
    counts = record {
      failures = subst (λ n. Counts is_device_failed (d.failures (disk_of old)) n answer) (sym kept.failures) (none (d.failures (disk_of old)));
      past_ends = kept.past_ends;
      honest = kept.honest;
    };
    was_stopped = running ∙ sym not_stopped;
    stopped = kept.stopped ∙ ap (λ b. b || has_stopped old) (sym not_failed);
    stays = kept.stays;
    unreadable = subst (λ l. Collects unreadable_slot (unreadable_of old) l answer) (sym kept.unreadable) (no_slot (unreadable_of old));
  }

  -- ---- the records of a store

  -- The first k records were loaded, and nothing failed.
  pub record HasLoaded (old now : FileStore D d) (records : List Record) (k : ℕ) : Type 0 where
    pub kept : IsUnchanged d old now
    pub counted : length records ≡ k
    pub inside : k ≤ length (records_of old)
    pub same : IsTrue (d.honest (disk_of old)) → records ≡ take k (records_of old)
    pub running : 0 < k → has_stopped old ≡ false

  pub none_loaded : (store : FileStore D d) → OnlyNow store → HasLoaded store store [] 0
  none_loaded store only = record {
    kept = kept_first store only;
    counted = refl;
    inside = omega arith;
    same = λ honest. refl;
    running = λ some. absurd (omega (arith, some));
  }

  record_at : (honest : Bool) (list : List Record) (k : ℕ) (entry : Record) → IsRecordAt honest list k entry → IsTrue honest → slice_get list k ≡ Some entry
  record_at true list k entry at is = at
  record_at false list k entry at is = absurd (true≢false (sym is))

  pub loaded_more : (old now next : FileStore D d) (records : List Record) (k : ℕ) (entry : Record) → HasLoaded old now records k
      → LoadsSlot d now next k (Ok (Some entry)) → HasLoaded old next (records ++ entry ∷ []) (k + 1)
  loaded_more old now next records k entry is loads = record {
    kept = kept_by old next (Some entry) (reads_after old now next (Ok (Some entry)) is.kept loads.store);
    counted = length_one_more records entry ∙ ap (λ n. n + 1) is.counted;
    inside = omega (arith, loads.finds.0, ap length is.kept.records);
    same = λ honest.
        let here : suc k ≡ k + 1 = omega arith in
        let at = record_at _ _ k entry loads.finds.1 (subst IsTrue (sym is.kept.honest) honest) in
        ap (λ l. l ++ entry ∷ []) (is.same honest)
        ∙ sym (take_with_next (records_of old) k entry (ap (λ l. slice_get l k) (sym is.kept.records) ∙ at)) ∙ ap (λ n. take n (records_of old)) here;
    running = λ some. sym is.kept.stopped ∙ loads.store.was_stopped;
  }

  pub all_loaded : (old now : FileStore D d) (records : List Record) (k : ℕ) → HasLoaded old now records k → length (records_of old) ≤ k
      → AreLoaded (d.honest (disk_of old)) (records_of old) records
  all_loaded old now records k is end = record {
    same_count = omega (arith, is.counted, is.inside, end);
    same = λ honest. is.same honest ∙ take_all k (records_of old) end;
  }
