-- The ends of a migration: a refusal of the old place, of the new one, or of sealing; and a place that is filled.
use Rattle.std.proofs.Common.{◌≡◌, ◌≢◌, ◌⊎◌, inl, inr, ℕ, ◌+◌, ◌*◌, ◌-◌, Bool, true, false, List, [], ◌∷◌, ◌++◌, length, take, Some, None, Ok, Err, Result, refl, sym}
use Rattle.std.proofs.Common.{ap, ◌∙◌, subst, arith, IsTrue, true≢false, not, ◌&&◌}
use Rattle.std.proofs.lemmas.Bool.{cases_Bool}
use Rattle.std.proofs.lemmas.List.{length_push, take_at}
use Rattle.std.specs.Prelude.{OnOk, IfOk, Option, if◌then◌else◌, map}
use Rattle.state_file.specs.Carried.{carried, in_version, unmoved, with_moved}
use Rattle.state_file.specs.declared.disk.Disk as disk
use Rattle.state_file.specs.declared.migration.MigrateFault.{MigrateFault}
use Rattle.state_file.specs.declared.migration.MigrateFault.TheVariants.{Stopped, NoKey, NotKeyFile, Version as VersionFault, Damaged, Illegal, DeviceFailed, OutOfMemory, KeyThere, Full}
use Rattle.state_file.specs.declared.migration.place.Place.{Place}
use Rattle.state_file.specs.declared.migration.sealed.Sealed.{Sealed}
use Rattle.state_file.specs.declared.record.Key.{Key}
use Rattle.state_file.specs.declared.record.Record.{Record}
use Rattle.state_file.specs.declared.record.Record.TheVariants.{Moved}
use Rattle.state_file.specs.declared.record.Version.TheVariants.{Two}
use Rattle.state_file.specs.declared.refused.Refused.{Refused}
use Rattle.state_file.specs.declared.store.file_store.FileStore.{FileStore}
use Rattle.state_file.specs.Disk.{ChangesOnly, Counts, DiskState, IsSynced, LeavesOnly, MayLeave, settled}
use Rattle.state_file.specs.File.{HasNoKey, SpellsRecords, StandsFor}
use Rattle.state_file.specs.FileStore.{disk_of, has_stopped, records_of}
use Rattle.state_file.specs.inner.FileStore.{stands_one, synced_left}
use Rattle.state_file.specs.Filling.{CountsEither, LeftByFill, first_offsets}
use Rattle.state_file.specs.Gates.{slot_and_gate}
use Rattle.state_file.specs.Laws.{has_moved}
use Rattle.state_file.specs.MigrateFault.{is_failed_migration}
use Rattle.state_file.specs.Migration.{ChecksPlace, FillsPlace, SealsStore, place_disk, store_of, store_sealed}
use Rattle.state_file.specs.Place.{FindsPlace, RefusesPlace}
use Rattle.state_file.specs.Sealing.{Seals}
use Rattle.state_file.proofs.Contents.{no_key_cannot}
use Rattle.state_file.proofs.Lists.{pushed_moved}
use Rattle.state_file.proofs.Moments.{combined, started, weaker}
use Rattle.state_file.proofs.Moved.{ends_moved, moved_signs_nothing}
use Rattle.sign_core.specs.Migration.{AnswersNew, AnswersOld, CountsOne, IsFateOf, IsMigration, IsUntouched, LeftAtOld, Migrates}
use Rattle.sign_core.specs.inner.OldFile.{KeepsContent, OpensOld, RefusesOld}
use Rattle.sign_core.specs.OldFile.{ReportsOld, SpellsMovable}
use Rattle.sign_core.specs.Records.{can_move, the_key}
use Rattle.sign_core.specs.World.{Migration, State, carried_over, closed_state, left_alone, migrated, migrated_list, sealed}
use Rattle.sign_core.proofs.calls.AppendMoments.{version_of_key}
use Rattle.sign_core.proofs.records.CanFollow.{key_first}
use Rattle.sign_core.proofs.calls.Lives.{KeepsTime, spelled_stands}
use Rattle.sign_core.proofs.records.Parts.{migrated_key}

-- ---- lists

-- A Moved at the end isn't carried over.
unmoved_sealed : (records : List Record) → unmoved (with_moved records) ≡ unmoved records
unmoved_sealed records = elim (cases_Bool (has_moved records)) as (λ u. unmoved (with_moved records) ≡ unmoved records) [
  | inl moved ↦ ap unmoved (ap (λ test. if test then records else records ++ Moved ∷ []) moved)
  | inr stays ↦
      let longer = records ++ Moved ∷ [] in
      let ends : has_moved longer ≡ true = sym (pushed_moved records longer Moved refl) in
      let size : length longer - 1 ≡ length records = omega (arith, length_push records Moved) in
      ap unmoved (ap (λ test. if test then records else longer) stays)
      ∙ ap (λ test. if test then take (length longer - 1) longer else longer) ends
      ∙ ap (λ n. take n longer) size ∙ take_at records (Moved ∷ []) (length records) refl
      ∙ sym (ap (λ test. if test then take (length records - 1) records else records) stays)
]

carried_sealed : (records : List Record) → carried (with_moved records) ≡ carried records
unfolding carried
carried_sealed records = ap (map (in_version Two)) (unmoved_sealed records)

-- ---- the event

alone_key : (records : List Record) (found : Option Key) → migrated_key (closed_state records) left_alone found ≡ closed_state records
alone_key records None = refl
alone_key records (Some key) = elim (can_move key.version) as (λ (test : Bool). (if test && true then closed_state records else closed_state records) ≡ closed_state records) [
  | true ↦ refl
  | false ↦ refl
]

left_alone_records : (records : List Record) → (migrated (closed_state records) left_alone).records ≡ records
left_alone_records records = ap (λ (s : State). s.records) (alone_key records (the_key records))

migrated_records : (content : List ℕ) (records : List Record) (fate : Migration) → SpellsMovable content records
    → (migrated (closed_state records) fate).records ≡ migrated_list records fate
migrated_records content records fate is =
    let keyed : the_key records ≡ Some is.legal.key = key_first records is.legal.key is.legal.first in
    let one = sym (version_of_key records is.legal.key keyed) ∙ is.version in
    ap (λ (s : State). s.records)
    (ap (migrated_key (closed_state records) fate) keyed
    ∙ ap (λ version. if can_move version && true then closed_state (migrated_list records fate) else closed_state records) one)

-- ---- answers, by their cases

old_answer : (content : List ℕ) (after : DiskState) (fault : MigrateFault) → RefusesOld fault → ReportsOld content fault → KeepsContent {A = ℕ} content after (Err fault)
    → AnswersOld content after (Err fault)
old_answer content after NoKey kind reports keeps = (reports, keeps)
old_answer content after NotKeyFile kind reports keeps = (reports, keeps)
old_answer content after VersionFault kind reports keeps = (reports, keeps)
old_answer content after (Damaged k) kind reports keeps = (reports, keeps)
old_answer content after (Illegal k) kind reports keeps = (reports, keeps)
old_answer content after OutOfMemory kind reports keeps = (reports, keeps)
old_answer content after DeviceFailed kind reports keeps = tt
old_answer content after Stopped kind reports keeps = absurd kind
old_answer content after KeyThere kind reports keeps = absurd kind
old_answer content after Full kind reports keeps = absurd kind

-- A refusal of the old place says nothing of the new one, and leaves it alone.
record IsAlone {E : Type 0} (content : List ℕ) (state : DiskState) (new : E) (fault : MigrateFault) : Type 0 where
  pub answers : AnswersNew content state (Err fault)
  pub leaves : IsUntouched new new (Err fault)
  pub fate : IsFateOf (Err fault) left_alone

new_alone : {E : Type 0} (content : List ℕ) (state : DiskState) (new : E) (fault : MigrateFault) → RefusesOld fault → IsAlone content state new fault
new_alone content state new NoKey kind = record { answers = tt; leaves = refl; fate = refl }
new_alone content state new NotKeyFile kind = record { answers = tt; leaves = refl; fate = refl }
new_alone content state new VersionFault kind = record { answers = tt; leaves = refl; fate = refl }
new_alone content state new (Damaged k) kind = record { answers = tt; leaves = refl; fate = refl }
new_alone content state new (Illegal k) kind = record { answers = tt; leaves = refl; fate = refl }
new_alone content state new OutOfMemory kind = record { answers = tt; leaves = refl; fate = refl }
new_alone content state new DeviceFailed kind = record { answers = tt; leaves = tt; fate = tt }
new_alone content state new Stopped kind = absurd kind
new_alone content state new KeyThere kind = absurd kind
new_alone content state new Full kind = absurd kind

-- a failure of the old disk, and none of the new one
counts_old : (before after new : ℕ) (fault : MigrateFault) → fault ≢ Stopped → Counts {A = ℕ} is_failed_migration before after (Err fault)
    → CountsOne {A = ℕ} before after new new (Err fault)
counts_old before after new NoKey kind counts = (counts, refl)
counts_old before after new NotKeyFile kind counts = (counts, refl)
counts_old before after new VersionFault kind counts = (counts, refl)
counts_old before after new (Damaged k) kind counts = (counts, refl)
counts_old before after new (Illegal k) kind counts = (counts, refl)
counts_old before after new OutOfMemory kind counts = (counts, refl)
counts_old before after new DeviceFailed kind counts = inl (counts, refl)
counts_old before after new Stopped kind counts = absurd (kind refl)
counts_old before after new KeyThere kind counts = (counts, refl)
counts_old before after new Full kind counts = (counts, refl)

not_stopped : (fault : MigrateFault) → RefusesOld fault → fault ≢ Stopped
not_stopped fault kind is = subst RefusesOld is kind

module _ {D E : Type 0} (d : disk.Ghosts D) (e : disk.Ghosts E) (old_time : KeepsTime d) (new_time : KeepsTime e) where
  -- what a crash at an exit leaves
  at_exit : {T : Type 0} (g : disk.Ghosts T) → KeepsTime g → (before after : T) (P : List ℕ → Type 0) → LeavesOnly g.moment g.left_since before after P → IsTrue (g.honest after)
      → (c : List ℕ) → MayLeave (g.state after) c → P c
  at_exit g time before after P leaves honest c may = leaves.each c (time.counts_now after (g.moment before) c honest leaves.later may)

  still : {T : Type 0} (g : disk.Ghosts T) (before after : T) → g.honest after ≡ g.honest before → IsTrue (g.honest before) → IsTrue (g.honest after)
  still g before after same honest = subst IsTrue (sym same) honest

  -- ---- a refusal of the old place

  pub refused_old : (old : D) (new : E) (refused : Refused D MigrateFault) → OpensOld d old (Err refused)
      → Migrates d e old new refused.given new (Err refused.fault)
  refused_old old new refused opens =
      let after = refused.given in
      let alone = new_alone (e.state new).content (e.state new) new refused.fault opens.refuses in
      let left : IsTrue (d.honest old) → (c : List ℕ) → MayLeave (d.state after) c → MayLeave (d.state old) c =
      (λ honest c may. at_exit d old_time old after (MayLeave (d.state old)) (opens.moments honest) (still d old after opens.counts.honest honest) c may) in
      record {
        answers_old = λ honest. old_answer (d.state old).content (d.state after) refused.fault opens.refuses (opens.reports honest) (opens.keeps honest);
        answers_new = λ honest. alone.answers;
        untouched = λ honest. alone.leaves;
        carries = λ on honest records spelled. tt;
        old_moments = λ honest. weaker d.moment d.left_since old after _ _ (λ c may. inl may) (opens.moments honest);
        new_moments = λ honest. started e.moment e.left_since new _ (λ c since. inl (new_time.only_now new c honest since));
        never_both = λ honest on never c other may there. never c other (left honest c may) there;
        event = λ honest on records stands c other may there. record {
          fate = left_alone;
          is_fate = alone.fate;
          stands = subst (λ l. StandsFor l c) (sym (left_alone_records records)) (stands c (left honest c may));
        };
        failures = counts_old _ _ (e.failures new) refused.fault (not_stopped refused.fault opens.refuses) opens.counts.failures;
        old_past_ends = opens.counts.past_ends;
        new_past_ends = λ honest. refl;
        old_honest = opens.counts.honest;
        new_honest = refl;
      }

  -- ---- a refusal of the new place

  place_answer : (old_content new_content : List ℕ) (old_state new_state : DiskState) (records : List Record) (fault : MigrateFault) → RefusesPlace fault
      → SpellsMovable old_content records → old_state ≡ settled old_content → AnswersOld old_content old_state (Err fault)
  place_answer old_content new_content old_state new_state records KeyThere kind is same = (records, is, same)
  place_answer old_content new_content old_state new_state records DeviceFailed kind is same = tt
  place_answer old_content new_content old_state new_state records NoKey kind is same = absurd kind
  place_answer old_content new_content old_state new_state records NotKeyFile kind is same = absurd kind
  place_answer old_content new_content old_state new_state records VersionFault kind is same = absurd kind
  place_answer old_content new_content old_state new_state records (Damaged k) kind is same = absurd kind
  place_answer old_content new_content old_state new_state records (Illegal k) kind is same = absurd kind
  place_answer old_content new_content old_state new_state records OutOfMemory kind is same = absurd kind
  place_answer old_content new_content old_state new_state records Stopped kind is same = absurd kind
  place_answer old_content new_content old_state new_state records Full kind is same = absurd kind

  -- what such a refusal says of the new place
  record IsRefusedPlace (new : E) (after : E) (fault : MigrateFault) : Type 0 where
    pub answers : FindsPlace {A = ℕ} (e.state new).content (e.state after) (Err fault) → AnswersNew (e.state new).content (e.state after) (Err fault)
    pub leaves : IsUntouched new after (Err fault)
    pub fate : IsFateOf (Err fault) left_alone
    pub counts : (before now : ℕ) (old_before old_after : ℕ) → old_after ≡ old_before → Counts {A = ℕ} is_failed_migration before now (Err fault)
        → CountsOne {A = ℕ} old_before old_after before now (Err fault)

  refused_place_is : (new after : E) (fault : MigrateFault) → RefusesPlace fault → IsRefusedPlace new after fault
  refused_place_is new after KeyThere kind = record { answers = λ finds. finds; leaves = tt; fate = refl; counts = λ before now old_before old_after same counts. (same, counts) }
  refused_place_is new after DeviceFailed kind = record { answers = λ finds. tt; leaves = tt; fate = tt; counts = λ before now old_before old_after same counts. inr (same, counts) }
  refused_place_is new after NoKey kind = absurd kind
  refused_place_is new after NotKeyFile kind = absurd kind
  refused_place_is new after VersionFault kind = absurd kind
  refused_place_is new after (Damaged k) kind = absurd kind
  refused_place_is new after (Illegal k) kind = absurd kind
  refused_place_is new after OutOfMemory kind = absurd kind
  refused_place_is new after Stopped kind = absurd kind
  refused_place_is new after Full kind = absurd kind

  pub refused_place : (old : D) (new : E) (store : FileStore D d) (refused : Refused E MigrateFault) → OpensOld d old (Ok store)
      → ChecksPlace {bound = e} e new (Err refused) → Migrates d e old new (disk_of store) refused.given (Err refused.fault)
  refused_place old new store refused opens checks =
      let after = disk_of store in
      let is = refused_place_is new refused.given refused.fault checks.refuses in
      let left : IsTrue (d.honest old) → (c : List ℕ) → MayLeave (d.state after) c → MayLeave (d.state old) c =
      (λ honest c may. at_exit d old_time old after (MayLeave (d.state old)) (opens.moments honest) (still d old after opens.counts.honest honest) c may) in
      record {
        answers_old = λ honest.
            place_answer (d.state old).content (e.state new).content (d.state after) (e.state refused.given) (records_of store) refused.fault checks.refuses (opens.found honest) (opens.keeps honest);
        answers_new = λ honest. is.answers (checks.answer honest);
        untouched = λ honest. is.leaves;
        carries = λ on honest records spelled. tt;
        old_moments = λ honest. weaker d.moment d.left_since old after _ _ (λ c may. inl may) (opens.moments honest);
        new_moments = λ honest. weaker e.moment e.left_since new refused.given _ _ (λ c may. inl may) (checks.moments honest);
        never_both = λ honest on never c other may there.
            never c other (left honest c may) (at_exit e new_time new refused.given (MayLeave (e.state new)) (checks.moments on) (still e new refused.given checks.failures.honest on) other there);
        event = λ honest on records stands c other may there. record {
          fate = left_alone;
          is_fate = is.fate;
          stands = subst (λ l. StandsFor l c) (sym (left_alone_records records)) (stands c (left honest c may));
        };
        failures = is.counts (e.failures new) (e.failures refused.given) (d.failures old) (d.failures after) opens.counts.failures checks.failures.failures;
        old_past_ends = opens.counts.past_ends;
        new_past_ends = checks.failures.past_ends;
        old_honest = opens.counts.honest;
        new_honest = checks.failures.honest;
      }

  -- ---- a place was found

  place_leaves : (new : E) (place : Place E e) → ChecksPlace {bound = e} e new (Ok place) → IsTrue (e.honest new) → (c : List ℕ) → MayLeave (e.state (place_disk place)) c
      → HasNoKey c
  place_leaves new place checks honest c may =
      let found = checks.answer honest in
      let same : c ≡ (e.state new).content = synced_left (e.state new).content c (subst (λ s. MayLeave s c) found.1 may) in
      subst HasNoKey (sym same) found.0

  same_records : (old : D) (store : FileStore D d) (records : List Record) → OpensOld d old (Ok store) → IsTrue (d.honest old)
      → ((c : List ℕ) → MayLeave (d.state old) c → StandsFor records c) → records ≡ records_of store
  same_records old store records opens honest stands =
      let content = (d.state old).content in
      stands_one records (records_of store) content (stands content (old_time.shows old honest)) (spelled_stands (records_of store) content (opens.found honest).spelled)

  -- ---- a refusal to seal

  -- what such a refusal says
  record IsUnsealed (records : List Record) (content : List ℕ) (after : DiskState) (fault : MigrateFault) (before now : ℕ) : Type 0 where
    pub old_answers : SpellsMovable content records → (fault ≢ DeviceFailed → after ≡ settled content) → AnswersOld content after (Err fault)
    pub new_answers : (new_content : List ℕ) (new_state : DiskState) → HasNoKey new_content → new_state ≡ settled new_content → AnswersNew new_content new_state (Err fault)
    pub leaves : (new after : E) → IsUntouched new after (Err fault)
    pub counts : (new_before new_now : ℕ) → new_now ≡ new_before → CountsOne {A = ℕ} before now new_before new_now (Err fault)
    -- the device failed, or nothing changed
    pub either : (fault ≡ DeviceFailed) ⊎ ((fault ≢ DeviceFailed) × IsFateOf (Err fault) left_alone)

  unsealed : (old new : List Record) (old_stopped new_stopped : Bool) (content : List ℕ) (after : DiskState) (before now : ℕ) (fault : MigrateFault)
      → old_stopped ≡ false → Seals {A = ℕ} old old_stopped new new_stopped before now (Err fault) → IsUnsealed old content after fault before now
  unsealed old new old_stopped new_stopped content after before now Full running seals = record {
    old_answers = λ is same. (old, is, seals.1, seals.2, same (λ not. cc));
    new_answers = λ new_content new_state none same. (none, same);
    leaves = λ new after. tt;
    counts = λ new_before new_now same. (seals.5, same);
    either = inr ((λ not. cc), refl);
  }
  unsealed old new old_stopped new_stopped content after before now DeviceFailed running seals = record {
    old_answers = λ is same. tt;
    new_answers = λ new_content new_state none same. tt;
    leaves = λ new after. tt;
    counts = λ new_before new_now same. inl (seals.5, same);
    either = inl refl;
  }
  unsealed old new old_stopped new_stopped content after before now Stopped running seals = absurd (true≢false (sym seals.0 ∙ running))
  unsealed old new old_stopped new_stopped content after before now NoKey running seals = absurd seals
  unsealed old new old_stopped new_stopped content after before now NotKeyFile running seals = absurd seals
  unsealed old new old_stopped new_stopped content after before now VersionFault running seals = absurd seals
  unsealed old new old_stopped new_stopped content after before now (Damaged k) running seals = absurd seals
  unsealed old new old_stopped new_stopped content after before now (Illegal k) running seals = absurd seals
  unsealed old new old_stopped new_stopped content after before now OutOfMemory running seals = absurd seals
  unsealed old new old_stopped new_stopped content after before now KeyThere running seals = absurd seals

  both_leave : {T : Type 0} (g : disk.Ghosts T) (before after : T) (P Q : List ℕ → Type 0) → LeavesOnly g.moment g.left_since before after P
      → LeavesOnly g.moment g.left_since before after Q → LeavesOnly g.moment g.left_since before after (λ c. P c × Q c)
  both_leave g before after P Q first second = record {
    later = first.later;
    each = λ c left. (first.each c left, second.each c left);
    before = λ t c early left. elim (first.before t c early left) [
      | inl was ↦ inl was
      | inr p ↦ elim (second.before t c early left) [
        | inl was ↦ inl was
        | inr q ↦ inr (p, q)
      ]
    ];
    keeps = first.keeps;
  }

  -- what sealing leaves of a content
  abbrev LeftBySeal : List Record → (content c : List ℕ) → Type 0
  LeftBySeal records content c =
      (StandsFor records c ⊎ StandsFor (with_moved records) c) × ChangesOnly (slot_and_gate (length records) ∷ []) content c

  abbrev SealMoments : FileStore D d → FileStore D d → Type 0
  SealMoments store after =
      LeavesOnly d.moment d.left_since (disk_of store) (disk_of after) (LeftBySeal (records_of store) (d.state (disk_of store)).content)

  sealing_leaves : (store : FileStore D d) (answer : Result (Sealed D d) (Refused (FileStore D d) MigrateFault)) → SealsStore {bound = d} d store answer
      → IsTrue (d.honest (disk_of store)) → has_stopped store ≡ false → SealMoments store (store_sealed answer)
  sealing_leaves store answer seals honest running = both_leave d (disk_of store) (disk_of (store_sealed answer)) _ _ (seals.moments honest running) (seals.bytes honest running)

  -- what a crash leaves at the old place
  left_by_seal : (old : D) (store : FileStore D d) (c : List ℕ) → OpensOld d old (Ok store) → IsTrue (d.honest old)
      → LeftBySeal (records_of store) (d.state (disk_of store)).content c → LeftAtOld (d.state old) c
  left_by_seal old store c opens honest left =
      let content : (d.state (disk_of store)).content ≡ (d.state old).content = ap (λ (s : DiskState). s.content) (opens.keeps honest) in
      inr (records_of store, opens.found honest, left.0, subst (λ l. ChangesOnly (slot_and_gate (length (records_of store)) ∷ []) l c) content left.1)

  sealing_moments : (old : D) (store after : FileStore D d) → OpensOld d old (Ok store) → IsTrue (d.honest old) → SealMoments store after
      → LeavesOnly d.moment d.left_since old (disk_of after) (LeftAtOld (d.state old))
  sealing_moments old store after opens honest leaves =
      combined d.moment d.left_since old (disk_of store) (disk_of after) _
      (weaker d.moment d.left_since old (disk_of store) _ _ (λ c may. inl may) (opens.moments honest))
      (weaker d.moment d.left_since (disk_of store) (disk_of after) _ _ (λ c left. left_by_seal old store c opens honest left) leaves)

  -- the event of a sealing that failed
  cut_seal : (old : D) (store : FileStore D d) (records : List Record) (c other : List ℕ) → OpensOld d old (Ok store) → IsTrue (d.honest old)
      → records ≡ records_of store → StandsFor (records_of store) c ⊎ StandsFor (with_moved (records_of store)) c → HasNoKey other
      → IsMigration records (Err DeviceFailed) c other
  cut_seal old store records c other opens honest same (inl stands) none = record {
    fate = left_alone;
    is_fate = tt;
    stands = subst (λ l. StandsFor l c) (sym same ∙ sym (left_alone_records records)) stands;
  }
  cut_seal old store records c other opens honest same (inr stands) none = record {
    fate = sealed;
    is_fate = tt;
    stands = (
      subst (λ l. StandsFor l c) (sym (migrated_records (d.state old).content (records_of store) sealed (opens.found honest))
          ∙ ap (λ l. (migrated (closed_state l) sealed).records) (sym same)) stands,
      none,
    );
  }

  pub refused_seal : (old : D) (new : E) (store : FileStore D d) (place : Place E e) (refused : Refused (FileStore D d) MigrateFault) → OpensOld d old (Ok store)
      → ChecksPlace {bound = e} e new (Ok place) → SealsStore {bound = d} d store (Err refused)
      → Migrates d e old new (disk_of refused.given) (place_disk place) (Err refused.fault)
  refused_seal old new store place refused opens checks seals =
      let after = disk_of refused.given in
      let is = unsealed (records_of store) (records_of refused.given) (has_stopped store) (has_stopped refused.given) (d.state old).content (d.state after)
      (d.failures (disk_of store)) (d.failures after) refused.fault opens.running seals.answer in
      let kept : IsTrue (d.honest old) → refused.fault ≢ DeviceFailed → d.state after ≡ settled (d.state old).content =
      (λ honest not. ap (λ s. d.state (disk_of s)) (seals.stays not) ∙ opens.keeps honest) in
      let here : IsTrue (d.honest old) → IsTrue (d.honest (disk_of store)) = still d old (disk_of store) opens.counts.honest in
      let sealing : IsTrue (d.honest old) → SealMoments store refused.given = (λ honest. sealing_leaves store (Err refused) seals (here honest) opens.running) in
      record {
        answers_old = λ honest. is.old_answers (opens.found honest) (kept honest);
        answers_new = λ honest. is.new_answers (e.state new).content (e.state (place_disk place)) (checks.answer honest).0 (checks.answer honest).1;
        untouched = λ honest. is.leaves new (place_disk place);
        carries = λ on honest records spelled. tt;
        old_moments = λ honest. sealing_moments old store refused.given opens honest (sealing honest);
        new_moments = λ honest. weaker e.moment e.left_since new (place_disk place) _ _ (λ c may. inl may) (checks.moments honest);
        never_both = λ honest on never c other may there can both. no_key_cannot other (place_leaves new place checks on other there) both;
        event = λ honest on records stands c other may there.
            let same = same_records old store records opens honest stands in
            elim is.either [
              | inl failed ↦ subst (λ f. IsMigration records (Err f) c other) (sym failed)
                  (cut_seal old store records c other opens honest same
                  (at_exit d old_time (disk_of store) after _ (sealing honest) (still d (disk_of store) after seals.failures.honest (here honest)) c may).0
                  (place_leaves new place checks on other there))
              | inr (not, alone) ↦ record {
                fate = left_alone;
                is_fate = alone;
                stands =
                    let content = (d.state old).content in
                    let left : c ≡ content = synced_left content c (subst (λ s. MayLeave s c) (kept honest not) may) in
                    subst (λ l. StandsFor l c) (sym (left_alone_records records)) (subst (StandsFor records) (sym left) (stands content (old_time.shows old honest)));
              }
            ];
        failures = subst (λ n. CountsOne {A = ℕ} n (d.failures after) (e.failures new) (e.failures (place_disk place)) (Err refused.fault)) opens.counts.failures
            (is.counts (e.failures new) (e.failures (place_disk place)) checks.failures.failures);
        old_past_ends = λ honest. seals.failures.past_ends (here honest) ∙ opens.counts.past_ends honest;
        new_past_ends = checks.failures.past_ends;
        old_honest = seals.failures.honest ∙ opens.counts.honest;
        new_honest = checks.failures.honest;
      }

  -- ---- a place that is filled

  -- the old place, by the answer
  filled_old : (content : List ℕ) (after : DiskState) (records : List Record) (honest : Bool) (before now new_before new_now : ℕ) (answer : Result ℕ MigrateFault)
      → IsTrue honest → CountsEither honest before now new_before new_now answer → IfOk answer (λ n. n ≡ length (carried records))
      → SpellsMovable content records → IsSynced after → StandsFor (with_moved records) after.content → AnswersOld content after answer
  filled_old content after records honest before now new_before new_now (Ok n) on counts number is synced stands = (records, is, number, synced, stands)
  filled_old content after records honest before now new_before new_now (Err DeviceFailed) on counts number is synced stands = tt
  filled_old content after records honest before now new_before new_now (Err (Damaged k)) on counts number is synced stands = absurd (true≢false (sym on ∙ counts.0))
  filled_old content after records honest before now new_before new_now (Err Stopped) on counts number is synced stands = absurd counts
  filled_old content after records honest before now new_before new_now (Err NoKey) on counts number is synced stands = absurd counts
  filled_old content after records honest before now new_before new_now (Err NotKeyFile) on counts number is synced stands = absurd counts
  filled_old content after records honest before now new_before new_now (Err VersionFault) on counts number is synced stands = absurd counts
  filled_old content after records honest before now new_before new_now (Err (Illegal k)) on counts number is synced stands = absurd counts
  filled_old content after records honest before now new_before new_now (Err OutOfMemory) on counts number is synced stands = absurd counts
  filled_old content after records honest before now new_before new_now (Err KeyThere) on counts number is synced stands = absurd counts
  filled_old content after records honest before now new_before new_now (Err Full) on counts number is synced stands = absurd counts

  -- what filling answers, over any disk
  record IsFilled (honest : Bool) (before now new_before new_now : ℕ) (answer : Result ℕ MigrateFault) : Type 0 where
    pub new_answers : (content : List ℕ) (after : DiskState) → HasNoKey content → AnswersNew content after answer
    pub leaves : IsTrue honest → (new after : E) → IsUntouched new after answer
    pub counts : CountsOne {A = ℕ} before now new_before new_now answer

  filled_is : (honest : Bool) (before now new_before new_now : ℕ) (answer : Result ℕ MigrateFault) → CountsEither honest before now new_before new_now answer
      → IsFilled honest before now new_before new_now answer
  filled_is honest before now new_before new_now (Ok n) counts = record { new_answers = λ content after none. none; leaves = λ on new after. tt; counts = counts }
  filled_is honest before now new_before new_now (Err DeviceFailed) counts = record { new_answers = λ content after none. tt; leaves = λ on new after. tt; counts = counts }
  filled_is honest before now new_before new_now (Err (Damaged k)) counts = record {
    new_answers = λ content after none. tt;
    leaves = λ on new after. absurd (true≢false (sym on ∙ counts.0));
    counts = (counts.1, counts.2);
  }
  filled_is honest before now new_before new_now (Err Stopped) counts = absurd counts
  filled_is honest before now new_before new_now (Err NoKey) counts = absurd counts
  filled_is honest before now new_before new_now (Err NotKeyFile) counts = absurd counts
  filled_is honest before now new_before new_now (Err VersionFault) counts = absurd counts
  filled_is honest before now new_before new_now (Err (Illegal k)) counts = absurd counts
  filled_is honest before now new_before new_now (Err OutOfMemory) counts = absurd counts
  filled_is honest before now new_before new_now (Err KeyThere) counts = absurd counts
  filled_is honest before now new_before new_now (Err Full) counts = absurd counts

  -- the event of filling, done or failed
  filled_event : (content : List ℕ) (records : List Record) (honest : Bool) (before now new_before new_now : ℕ) (answer : Result ℕ MigrateFault) (c other : List ℕ)
      → IsTrue honest → CountsEither honest before now new_before new_now answer → SpellsMovable content records → StandsFor (with_moved records) c
      → HasNoKey other ⊎ SpellsRecords other (carried records) → OnOk answer (SpellsRecords other (carried records)) → IsMigration records answer c other
  filled_event content records honest before now new_before new_now (Ok n) c other on counts is stands either done = record {
    fate = carried_over;
    is_fate = refl;
    stands = subst (λ l. StandsFor l other) (sym (migrated_records content records carried_over is)) (spelled_stands (carried records) other done);
  }
  filled_event content records honest before now new_before new_now (Err DeviceFailed) c other on counts is stands (inl none) done = record {
    fate = sealed;
    is_fate = tt;
    stands = (subst (λ l. StandsFor l c) (sym (migrated_records content records sealed is)) stands, none);
  }
  filled_event content records honest before now new_before new_now (Err DeviceFailed) c other on counts is stands (inr over) done = record {
    fate = carried_over;
    is_fate = tt;
    stands = subst (λ l. StandsFor l other) (sym (migrated_records content records carried_over is)) (spelled_stands (carried records) other over);
  }
  filled_event content records honest before now new_before new_now (Err (Damaged k)) c other on counts is stands either done = absurd (true≢false (sym on ∙ counts.0))
  filled_event content records honest before now new_before new_now (Err Stopped) c other on counts is stands either done = absurd counts
  filled_event content records honest before now new_before new_now (Err NoKey) c other on counts is stands either done = absurd counts
  filled_event content records honest before now new_before new_now (Err NotKeyFile) c other on counts is stands either done = absurd counts
  filled_event content records honest before now new_before new_now (Err VersionFault) c other on counts is stands either done = absurd counts
  filled_event content records honest before now new_before new_now (Err (Illegal k)) c other on counts is stands either done = absurd counts
  filled_event content records honest before now new_before new_now (Err OutOfMemory) c other on counts is stands either done = absurd counts
  filled_event content records honest before now new_before new_now (Err KeyThere) c other on counts is stands either done = absurd counts
  filled_event content records honest before now new_before new_now (Err Full) c other on counts is stands either done = absurd counts

  ok_then : {A B : Type 0} (answer : Result ℕ MigrateFault) → (A → B) → OnOk answer A → OnOk answer B
  ok_then (Ok n) f a = f a
  ok_then (Err fault) f a = tt

  number_then : (answer : Result ℕ MigrateFault) (a b : ℕ) → a ≡ b → IfOk answer (λ n. n ≡ a) → IfOk answer (λ n. n ≡ b)
  number_then (Ok n) a b same is = is ∙ same
  number_then (Err fault) a b same is = tt

  sealed_synced : (old : D) (store : FileStore D d) (file : Sealed D d) → OpensOld d old (Ok store) → SealsStore {bound = d} d store (Ok file)
      → IsTrue (d.honest old) → IsSynced (d.state (disk_of (store_of file)))
  sealed_synced old store file opens seals honest = elim (cases_Bool (has_moved (records_of store))) [
    | inl moved ↦
        let same : d.state (disk_of (store_of file)) ≡ settled (d.state old).content = ap (λ s. d.state (disk_of s)) (seals.stays_sealed moved) ∙ opens.keeps honest in
        subst IsSynced (sym same) refl
    | inr stays ↦ (seals.adds (still d old (disk_of store) opens.counts.honest honest) stays).synced
  ]

  pub filled : (old : D) (new : E) (store : FileStore D d) (place : Place E e) (file : Sealed D d) (old_after : D) (new_after : E) (answer : Result ℕ MigrateFault)
      → OpensOld d old (Ok store) → ChecksPlace {bound = e} e new (Ok place) → SealsStore {bound = d} d store (Ok file)
      → FillsPlace d e file place old_after new_after answer → Migrates d e old new old_after new_after answer
  filled old new store place file old_after new_after answer opens checks seals fills =
      let records = records_of store in
      let mid = disk_of (store_of file) in
      let list : records_of (store_of file) ≡ with_moved records = seals.answer.2 in
      let over : carried (records_of (store_of file)) ≡ carried records = ap carried list ∙ carried_sealed records in
      let mid_honest : d.honest mid ≡ d.honest old = seals.failures.honest ∙ opens.counts.honest in
      let after_honest : d.honest old_after ≡ d.honest mid = fills.old_honest in
      let place_honest : e.honest (place_disk place) ≡ e.honest new = checks.failures.honest in
      let new_same : e.honest new_after ≡ e.honest new = fills.new_honest ∙ place_honest in
      let here : IsTrue (d.honest old) → IsTrue (d.honest (disk_of store)) = still d old (disk_of store) opens.counts.honest in
      let there : IsTrue (d.honest old) → IsTrue (d.honest mid) = still d old mid mid_honest in
      let sealing : IsTrue (d.honest old) → SealMoments store (store_of file) = (λ honest. sealing_leaves store (Ok file) seals (here honest) opens.running) in
      let left : IsTrue (d.honest old) → (c : List ℕ) → MayLeave (d.state old_after) c → StandsFor (with_moved records) c =
      (λ honest c may. subst (λ l. StandsFor l c) list
      (spelled_stands (records_of (store_of file)) c
      (at_exit d old_time mid old_after _ (fills.old_moments (there honest)) (still d mid old_after after_honest (there honest)) c may))) in
      let on_place : IsTrue (e.honest new) → IsTrue (e.honest (place_disk place)) = still e new (place_disk place) place_honest in
      let after : IsTrue (d.honest old) → IsTrue (d.honest old_after) = still d old old_after (after_honest ∙ mid_honest) in
      let counts : CountsEither (d.honest mid) (d.failures mid) (d.failures old_after) (e.failures (place_disk place)) (e.failures new_after) answer = fills.failures in
      let is = filled_is (d.honest mid) (d.failures mid) (d.failures old_after) (e.failures (place_disk place)) (e.failures new_after) answer counts in
      let kind : (c : List ℕ) → IsTrue (d.honest old) → LeftByFill (d.honest mid) (records_of (store_of file)) (256 * length (carried (records_of (store_of file))) + 1)
      (e.state (place_disk place)).content c → HasNoKey c ⊎ SpellsRecords c (carried records) =
      (λ c honest by. subst (λ l. HasNoKey c ⊎ SpellsRecords c l) over (by.kind (there honest))) in
      let done : IsTrue (d.honest old) → IsTrue (e.honest new) → OnOk answer (IsSynced (e.state new_after) × SpellsRecords (e.state new_after).content (carried records)) =
      (λ honest on. subst (λ l. OnOk answer (IsSynced (e.state new_after) × SpellsRecords (e.state new_after).content l)) over (fills.done (there honest) (on_place on))) in
      record {
        answers_old = λ honest.
            filled_old (d.state old).content (d.state old_after) records (d.honest mid) (d.failures mid) (d.failures old_after) (e.failures (place_disk place)) (e.failures new_after) answer
            (there honest) counts (number_then answer _ _ (ap length over) fills.number) (opens.found honest)
            (subst IsSynced (sym (fills.old_reads (there honest)).stays) (sealed_synced old store file opens seals honest))
            (left honest (d.state old_after).content (old_time.shows old_after (after honest)));
        answers_new = λ honest. is.new_answers (e.state new).content (e.state new_after) (checks.answer honest).0;
        untouched = λ honest. is.leaves (there honest) new new_after;
        carries = λ honest on other spelled.
            let content = (d.state old).content in
            let same : records ≡ other = stands_one records other content (spelled_stands records content (opens.found honest).spelled) (spelled_stands other content spelled) in
            subst (λ l. OnOk answer (IsSynced (e.state new_after) × SpellsRecords (e.state new_after).content (carried l))) same (done honest on);
        old_moments = λ honest.
            combined d.moment d.left_since old mid old_after _
            (sealing_moments old store (store_of file) opens honest (sealing honest))
            (weaker d.moment d.left_since mid old_after _ _
            (λ c may. left_by_seal old store c opens honest (at_exit d old_time (disk_of store) mid _ (sealing honest) (there honest) c may))
            (fills.old_reads (there honest)).leaves);
        new_moments = λ honest.
            combined e.moment e.left_since new (place_disk place) new_after _
            (weaker e.moment e.left_since new (place_disk place) _ _ (λ c may. inl may) (checks.moments honest))
            (weaker e.moment e.left_since (place_disk place) new_after _ _ (λ c by. inr (
              records,
              opens.found,
              record {
                changes = subst (λ s. ChangesOnly (first_offsets (256 * length (carried records) + 1) ∷ []) s.content c) (checks.answer honest).1
                    (subst (λ l. ChangesOnly (first_offsets (256 * length l + 1) ∷ []) (e.state (place_disk place)).content c) over by.changes);
                kind = λ on. kind c on by;
              },
            )) (fills.new_moments (on_place honest)));
        never_both = λ honest on never c other may by can both.
            moved_signs_nothing (with_moved records) c (ends_moved records) (left honest c may) can;
        event = λ honest on list stands c other may by.
            let same = same_records old store list opens honest stands in
            subst (λ l. IsMigration l answer c other) (sym same)
            (filled_event (d.state old).content records (d.honest mid) (d.failures mid) (d.failures old_after) (e.failures (place_disk place)) (e.failures new_after) answer c other
            (there honest) counts (opens.found honest) (left honest c may)
            (kind other honest (at_exit e new_time (place_disk place) new_after _ (fills.new_moments (on_place on)) (still e new new_after new_same on) other by))
            (ok_then answer (λ made.
            let same : other ≡ (e.state new_after).content = synced_left (e.state new_after).content other (subst (λ s. MayLeave s other) made.0 by) in
            subst (λ (l : List ℕ). SpellsRecords l (carried records)) (sym same) made.1)
            (done honest on)));
        failures =
            subst (λ n. CountsOne {A = ℕ} (d.failures old) (d.failures old_after) n (e.failures new_after) answer) checks.failures.failures
            (subst (λ n. CountsOne {A = ℕ} n (d.failures old_after) (e.failures (place_disk place)) (e.failures new_after) answer)
            (seals.failures.failures ∙ opens.counts.failures) is.counts);
        old_past_ends = λ honest. fills.old_past_ends (there honest) ∙ seals.failures.past_ends (here honest) ∙ opens.counts.past_ends honest;
        new_past_ends = λ honest. fills.new_past_ends ∙ checks.failures.past_ends honest;
        old_honest = after_honest ∙ mid_honest;
        new_honest = new_same;
      }
