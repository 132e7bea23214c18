-- What an audit answers at each of its ends.
use Rattle.std.proofs.Common.{◌≡◌, ℕ, ◌-◌, ◌<◌, ◌⊎◌, inl, inr, Bool, false, List, [], ◌∷◌, length, Some, None, Ok, Err, Option, Result}
use Rattle.std.proofs.Common.{refl, sym, ap, ◌∙◌, subst, arith, IsErrAnd, IsTrue}
use Rattle.std.proofs.lemmas.Option.{slice_get_within}
use Rattle.typecodes.specs.Layout.{AreBytes}
use Rattle.state_file.specs.declared.disk.Disk as disk
use Rattle.state_file.specs.declared.record.Record.{Record}
use Rattle.state_file.specs.declared.record.Record.TheVariants.{Key as KeyRecord}
use Rattle.state_file.specs.declared.store.file_store.FileStore.{FileStore}
use Rattle.state_file.specs.Disk.{Counts, DiskState}
use Rattle.state_file.specs.File.{SpellsRecords, StandsFor, tag_at}
use Rattle.state_file.specs.FileStore.{disk_of, has_stopped, records_of}
use Rattle.state_file.specs.inner.FileStore.{kept_stands}
use Rattle.state_file.specs.Laws.{IsLegal}
use Rattle.state_file.specs.Store.{Collects}
use Rattle.key_audit.specs.declared.report.Anchor.{Anchor}
use Rattle.key_audit.specs.declared.report.AuditFault.{AuditFault}
use Rattle.key_audit.specs.declared.report.AuditFault.TheVariants.{Stopped, NoKey, Damaged, Illegal, DeviceFailed, OutOfMemory, AnchorCount, AnchorTag}
use Rattle.key_audit.specs.declared.report.Report.{Report}
use Rattle.key_audit.specs.inner.Audit.{ChecksAnchor, FitsAnchor, JudgesReplay}
use Rattle.key_audit.specs.Audit.{AreTags, Audits, IsBeyond, IsSlotTag, IsTagged, AnchorFits, Judges, ReadsStore, Reports, is_device_failed, is_fault, is_stopped, unreadable_slot}
use Rattle.key_audit.specs.inner.Loading.{AreLoaded, GivesTag, IsRefusedLedger, KeepsLoads, ReadsSlotTag, StopsLoading}
use Rattle.key_audit.specs.Tags.{IsTag}
use Rattle.key_audit.proofs.Loads.{IsUnchanged, OnlyNow, answered, kept_by, kept_first, reads_after}
use Rattle.key_audit.proofs.Tags.{tag_law}

-- an answer that is this fault
pub is_fault_of : {A : Type 0} (answer : Result A AuditFault) (fault : AuditFault) → IsErrAnd answer (λ f. f ≡ fault)
    → answer ≡ Err fault
is_fault_of (Ok x) fault is = absurd is
is_fault_of (Err f) fault is = ap Err is

pub some_legal : (records : List Record) → IsLegal records → 0 < length records
some_legal records legal = slice_get_within records 0 (KeyRecord legal.key) legal.first

-- ---- tags

-- tags in one sense are tags in another
tagged_along : (A B : ℕ → List ℕ → Type 0) (records : List Record) (anchor : Option Anchor)
    → ((k : ℕ) (tag : List ℕ) → k < length records → A k tag → B k tag) → AnchorFits anchor records → IsTagged A anchor → IsTagged B anchor
tagged_along A B records None along within are = tt
tagged_along A B records (Some anchor) along within are = along (anchor.count - 1) anchor.tag (omega (arith, within.0, within.1)) are

tags_along : (A B : ℕ → List ℕ → Type 0) (honest : Bool) (records : List Record) (anchor : Option Anchor) (answer : Result Report AuditFault)
    → ((k : ℕ) (tag : List ℕ) → k < length records → A k tag → B k tag) → ((k : ℕ) (tag : List ℕ) → k < length records → B k tag → A k tag)
    → Judges honest records anchor answer → AreTags A anchor answer → AreTags B anchor answer
tags_along A B honest records anchor (Ok report) along back (legal, within, reports) (last, tagged) = (
  along (report.records - 1) report.tag (omega (arith, reports.count, some_legal records legal)) last,
  tagged_along A B records anchor along within tagged,
)
tags_along A B honest records anchor (Err AnchorTag) along back (legal, some, within) other = λ are. other (tagged_along B A records anchor back within are)
tags_along A B honest records anchor (Err Stopped) along back judges are = tt
tags_along A B honest records anchor (Err NoKey) along back judges are = tt
tags_along A B honest records anchor (Err (Damaged k)) along back judges are = tt
tags_along A B honest records anchor (Err (Illegal k)) along back judges are = tt
tags_along A B honest records anchor (Err DeviceFailed) along back judges are = tt
tags_along A B honest records anchor (Err OutOfMemory) along back judges are = tt
tags_along A B honest records anchor (Err AnchorCount) along back judges are = tt

-- an answer that says something of tags has records
some_or_nothing : (honest : Bool) (records : List Record) (anchor : Option Anchor) (answer : Result Report AuditFault) → Judges honest records anchor answer
    → ((0 < length records) × (is_fault is_stopped answer ≡ false)) ⊎ ((A : ℕ → List ℕ → Type 0) → AreTags A anchor answer)
some_or_nothing honest records anchor (Ok report) judges = inl (some_legal records judges.0, refl)
some_or_nothing honest records anchor (Err AnchorTag) judges = inl (some_legal records judges.0, refl)
some_or_nothing honest records anchor (Err Stopped) judges = inr (λ A. tt)
some_or_nothing honest records anchor (Err NoKey) judges = inr (λ A. tt)
some_or_nothing honest records anchor (Err (Damaged k)) judges = inr (λ A. tt)
some_or_nothing honest records anchor (Err (Illegal k)) judges = inr (λ A. tt)
some_or_nothing honest records anchor (Err DeviceFailed) judges = inr (λ A. tt)
some_or_nothing honest records anchor (Err OutOfMemory) judges = inr (λ A. tt)
some_or_nothing honest records anchor (Err AnchorCount) judges = inr (λ A. tt)

spells_some : (records : List Record) (content : List ℕ) → 0 < length records → StandsFor records content → SpellsRecords content records
spells_some [] content some stands = absurd (omega (arith, some))
spells_some (entry ∷ entries) content some stands = stands

-- ---- judgements

-- records that weren't loaded
pub stops_judged : (honest : Bool) (list : List Record) (anchor : Option Anchor) (fault : AuditFault) → StopsLoading honest list fault
    → Judges honest list anchor (Err fault) × ((A : ℕ → List ℕ → Type 0) → AreTags A anchor (Err fault))
stops_judged honest list anchor Stopped stops = (tt, λ A. tt)
stops_judged honest list anchor (Damaged k) stops = (stops, λ A. tt)
stops_judged honest list anchor DeviceFailed stops = (tt, λ A. tt)
stops_judged honest list anchor NoKey stops = absurd stops
stops_judged honest list anchor (Illegal k) stops = absurd stops
stops_judged honest list anchor OutOfMemory stops = absurd stops
stops_judged honest list anchor AnchorCount stops = absurd stops
stops_judged honest list anchor AnchorTag stops = absurd stops

-- records that aren't a key's are refused by no failure of the disk, whatever the anchor
record IsNoFailure (honest : Bool) (records : List Record) (anchor : Option Anchor) (fault : AuditFault) : Type 0 where
  judges : Judges honest records anchor (Err fault)
  not_stopped : is_stopped fault ≡ false
  not_failed : is_device_failed fault ≡ false
  none : (n : ℕ) → Counts {A = Report} is_device_failed n n (Err fault)
  no_slot : (l : List ℕ) → Collects {A = Report} unreadable_slot l l (Err fault)

no_ledger_judged : (honest : Bool) (records : List Record) (anchor : Option Anchor) (fault : AuditFault) → IsRefusedLedger records fault
    → IsNoFailure honest records anchor fault
no_ledger_judged honest records anchor NoKey is =
    record { judges = is; not_stopped = refl; not_failed = refl; none = λ n. refl; no_slot = λ l. refl }
no_ledger_judged honest records anchor (Illegal k) is =
    record { judges = is; not_stopped = refl; not_failed = refl; none = λ n. refl; no_slot = λ l. refl }
no_ledger_judged honest records anchor OutOfMemory is =
    record { judges = is; not_stopped = refl; not_failed = refl; none = λ n. refl; no_slot = λ l. refl }
no_ledger_judged honest records anchor Stopped is = absurd is
no_ledger_judged honest records anchor (Damaged k) is = absurd is
no_ledger_judged honest records anchor DeviceFailed is = absurd is
no_ledger_judged honest records anchor AnchorCount is = absurd is
no_ledger_judged honest records anchor AnchorTag is = absurd is

-- and tags are left open
no_ledger_tags : (records : List Record) (anchor : Option Anchor) (fault : AuditFault) → IsRefusedLedger records fault → (A : ℕ → List ℕ → Type 0)
    → AreTags A anchor (Err fault)
no_ledger_tags records anchor NoKey is A = tt
no_ledger_tags records anchor (Illegal k) is A = tt
no_ledger_tags records anchor OutOfMemory is A = tt
no_ledger_tags records anchor Stopped is A = tt
no_ledger_tags records anchor (Damaged k) is A = tt
no_ledger_tags records anchor DeviceFailed is A = tt
no_ledger_tags records anchor AnchorCount is A = tt
no_ledger_tags records anchor AnchorTag is A = absurd is

within_alike : (a b : List Record) (anchor : Option Anchor) → length a ≡ length b → AnchorFits anchor a → AnchorFits anchor b
within_alike a b None same within = tt
within_alike a b (Some anchor) same within = (within.0, omega (arith, within.1, same))

beyond_alike : (a b : List Record) (anchor : Option Anchor) → length a ≡ length b → IsBeyond anchor a → IsBeyond anchor b
beyond_alike a b None same beyond = beyond
beyond_alike a b (Some anchor) same (inl none) = inl none
beyond_alike a b (Some anchor) same (inr within_limit) = inr (omega (arith, within_limit, same))

-- an anchor that doesn't fit
judged_anchor : (A : ℕ → List ℕ → Type 0) (honest kept : Bool) (list records : List Record) (anchor : Option Anchor) (fault : AuditFault) → IsLegal records
    → length list ≡ length records → FitsAnchor A kept list anchor (Err fault)
    → Judges honest records anchor (Err fault)
    × ((B : ℕ → List ℕ → Type 0) → IsTrue kept → ((k : ℕ) (tag : List ℕ) → B k tag → A k tag) → AreTags B anchor (Err fault))
judged_anchor A honest kept list records anchor Stopped legal same fits = (tt, λ B is back. tt)
judged_anchor A honest kept list records anchor DeviceFailed legal same fits = (tt, λ B is back. tt)
judged_anchor A honest kept list records anchor AnchorCount legal same fits = ((legal, beyond_alike list records anchor same fits), λ B is back. tt)
judged_anchor A honest kept list records anchor AnchorTag legal same (some, within, other) = (
  (legal, some, within_alike list records anchor same within),
  λ B is back are. other is (tagged_along B A list anchor (λ k tag inside has. back k tag has) within are),
)
judged_anchor A honest kept list records anchor NoKey legal same fits = absurd fits
judged_anchor A honest kept list records anchor (Damaged k) legal same fits = absurd fits
judged_anchor A honest kept list records anchor (Illegal k) legal same fits = absurd fits
judged_anchor A honest kept list records anchor OutOfMemory legal same fits = absurd fits

-- a tag that can't be read
judged_tag : (A : ℕ → List ℕ → Type 0) (honest kept : Bool) (records : List Record) (anchor : Option Anchor) (k : ℕ) (fault : AuditFault)
    → GivesTag A kept k (Err fault) → Judges honest records anchor (Err fault) × ((B : ℕ → List ℕ → Type 0) → AreTags B anchor (Err fault))
judged_tag A honest kept records anchor k Stopped gives = (tt, λ B. tt)
judged_tag A honest kept records anchor k DeviceFailed gives = (tt, λ B. tt)
judged_tag A honest kept records anchor k AnchorCount gives = absurd gives
judged_tag A honest kept records anchor k AnchorTag gives = absurd gives
judged_tag A honest kept records anchor k NoKey gives = absurd gives
judged_tag A honest kept records anchor k (Damaged slot) gives = absurd gives
judged_tag A honest kept records anchor k (Illegal place) gives = absurd gives
judged_tag A honest kept records anchor k OutOfMemory gives = absurd gives

module _ {D : Type 0} (d : disk.Ghosts D) where
  abbrev pub GivesBytes : Type 0
  GivesBytes = (on : D) → IsTrue (d.honest on) → AreBytes (d.state on).content

  -- ---- an audit

  slot_tag_back : (old : FileStore D d) (k : ℕ) (tag : List ℕ) → AreBytes (d.state (disk_of old)).content
      → SpellsRecords (d.state (disk_of old)).content (records_of old) → k < length (records_of old) → IsTag (records_of old) k tag
      → IsSlotTag d (disk_of old) k tag
  slot_tag_back old k tag bytes spells inside is =
      tag_law.one (records_of old) k tag _ is (tag_law.stands (d.state (disk_of old)).content (records_of old) k bytes spells inside)

  slot_tag_along : (old : FileStore D d) (k : ℕ) (tag : List ℕ) → AreBytes (d.state (disk_of old)).content
      → SpellsRecords (d.state (disk_of old)).content (records_of old) → k < length (records_of old) → IsSlotTag d (disk_of old) k tag
      → IsTag (records_of old) k tag
  slot_tag_along old k tag bytes spells inside is =
      subst (IsTag (records_of old) k) (sym is) (tag_law.stands (d.state (disk_of old)).content (records_of old) k bytes spells inside)

  pub made : GivesBytes → (old new : FileStore D d) (anchor : Option Anchor) (answer : Result Report AuditFault) (loaded : List Record) → ReadsStore d old new answer
      → AreLoaded (d.honest (disk_of old)) (records_of old) loaded → Judges (d.honest (disk_of old)) loaded anchor answer
      → (IsTrue (d.honest (disk_of old)) → AreTags (IsSlotTag d (disk_of old)) anchor answer) → Audits d old new anchor answer
  made gives_bytes old new anchor answer loaded reads are judges tags = record {
    store = reads;
    loaded = loaded;
    same_count = are.same_count;
    same = are.same;
    judges = judges;
    tags = tags;
    by_records = λ honest. elim (some_or_nothing (d.honest (disk_of old)) loaded anchor answer judges) [
      | inl (some, running) ↦
          let bytes = gives_bytes (disk_of old) honest in
          let kept = old.kept honest (reads.was_stopped ∙ running) in
          let stands : StandsFor (records_of old) (d.state (disk_of old)).content = kept_stands old.records old.tag (d.state old.disk) kept in
          let spells = spells_some (records_of old) (d.state (disk_of old)).content (omega (arith, some, are.same_count)) stands in
          tags_along (IsSlotTag d (disk_of old)) (IsTag (records_of old)) (d.honest (disk_of old)) loaded anchor answer
          (λ k tag inside. slot_tag_along old k tag bytes spells (omega (arith, inside, are.same_count)))
          (λ k tag inside. slot_tag_back old k tag bytes spells (omega (arith, inside, are.same_count)))
          judges (tags honest)
      | inr nothing ↦ nothing (IsTag (records_of old))
    ];
  }

  -- a refusal doesn't depend on what Ok would give
  pub refused_alike : {A B : Type 0} (old new : FileStore D d) (fault : AuditFault) → ReadsStore {A = A} d old new (Err fault)
      → ReadsStore {A = B} d old new (Err fault)
  refused_alike old new fault reads = record {
    records = reads.records;
    reads = reads.reads;
    counts = record { failures = reads.counts.failures; past_ends = reads.counts.past_ends; honest = reads.counts.honest };
    was_stopped = reads.was_stopped;
    stopped = reads.stopped;
    stays = reads.stays;
    unreadable = reads.unreadable;
  }

  same_tags : (old mid : FileStore D d) → IsUnchanged d old mid → has_stopped old ≡ false → IsTrue (d.honest (disk_of old)) → (k : ℕ) (tag : List ℕ)
      → IsSlotTag d (disk_of mid) k tag → IsSlotTag d (disk_of old) k tag
  same_tags old mid kept running honest k tag is = is ∙ ap (λ (s : DiskState). tag_at s.content k) (kept.reads honest running).stays

  -- the records weren't loaded
  pub not_loaded : {A : Type 0} → GivesBytes → (old new : FileStore D d) (anchor : Option Anchor) (fault : AuditFault) → ReadsStore {A = A} d old new (Err fault)
      → StopsLoading (d.honest (disk_of old)) (records_of old) fault → Audits d old new anchor (Err fault)
  not_loaded gives_bytes old new anchor fault reads stops =
      let judged = stops_judged (d.honest (disk_of old)) (records_of old) anchor fault stops in
      made gives_bytes old new anchor (Err fault) (records_of old) (refused_alike old new fault reads) (record { same_count = refl; same = λ honest. refl })
      judged.0 (λ honest. judged.1 (IsSlotTag d (disk_of old)))

  -- they were, and these are judged
  pub audited_after : {A : Type 0} → GivesBytes → (old mid new : FileStore D d) (anchor : Option Anchor) (answer : Result Report AuditFault) (x : A) (taken : List Record)
      → ReadsStore d old mid (Ok x) → AreLoaded (d.honest (disk_of old)) (records_of old) taken → JudgesReplay d mid new taken anchor answer
      → Audits d old new anchor answer
  audited_after gives_bytes old mid new anchor answer x taken reads are judged =
      let kept = kept_by d old mid x reads in
      made gives_bytes old new anchor answer taken (reads_after d old mid new answer kept judged.audits.store) are
      (subst (λ h. Judges h taken anchor answer) kept.honest (subst (λ l. Judges (d.honest (disk_of mid)) l anchor answer) judged.own judged.audits.judges))
      (λ honest. subst (λ (s : DiskState). AreTags (λ k tag. tag ≡ tag_at s.content k) anchor answer) (kept.reads honest reads.was_stopped).stays
      (judged.audits.tags (subst IsTrue (sym kept.honest) honest)))

  pub loaded_there : {A : Type 0} (old mid : FileStore D d) (x : A) (taken : List Record) → ReadsStore d old mid (Ok x)
      → AreLoaded (d.honest (disk_of old)) (records_of old) taken → AreLoaded (d.honest (disk_of mid)) (records_of mid) taken
  loaded_there old mid x taken reads are =
      let kept = kept_by d old mid x reads in record {
        same_count = are.same_count ∙ ap length (sym kept.records);
        same = λ honest. are.same (subst IsTrue kept.honest honest) ∙ sym kept.records;
      }

  -- ---- records that a replay took

  keeps_on : (old mid new : FileStore D d) → KeepsLoads old mid → KeepsLoads mid new → KeepsLoads old new
  keeps_on old mid new first later = record {
    loads = later.loads ∙ first.loads;
    given = later.given ∙ first.given;
    unreadable = later.unreadable ∙ first.unreadable;
  }

  judged_replay : GivesBytes → (old new : FileStore D d) (anchor : Option Anchor) (answer : Result Report AuditFault) (taken : List Record)
      → ReadsStore d old new answer → AreLoaded (d.honest (disk_of old)) (records_of old) taken → Judges (d.honest (disk_of old)) taken anchor answer
      → (IsTrue (d.honest (disk_of old)) → AreTags (IsSlotTag d (disk_of old)) anchor answer) → KeepsLoads old new → JudgesReplay d old new taken anchor answer
  unfolding made
  judged_replay gives_bytes old new anchor answer taken reads are judges tags loads = record {
    audits = made gives_bytes old new anchor answer taken reads are judges tags;
    own = refl;
    loads = loads;
  }

  -- they aren't a key's
  pub no_ledger : GivesBytes → (store : FileStore D d) → OnlyNow d store → (anchor : Option Anchor) (fault : AuditFault) (records : List Record)
      → has_stopped store ≡ false → AreLoaded (d.honest (disk_of store)) (records_of store) records → IsRefusedLedger records fault
      → JudgesReplay d store store records anchor (Err fault)
  no_ledger gives_bytes store only anchor fault records running are is =
      let fine = no_ledger_judged (d.honest (disk_of store)) records anchor fault is in
      judged_replay gives_bytes store store anchor (Err fault) records
      (answered d store store (Err fault) (kept_first d store only) running fine.not_stopped fine.not_failed fine.none fine.no_slot) are fine.judges
      (λ honest. no_ledger_tags records anchor fault is (IsSlotTag d (disk_of store))) (record { loads = refl; given = refl; unreadable = refl })

  -- they don't fit the anchor, or its tag couldn't be read
  pub no_anchor : GivesBytes → (old new : FileStore D d) (anchor : Option Anchor) (fault : AuditFault) (records : List Record)
      → AreLoaded (d.honest (disk_of old)) (records_of old) records → IsLegal records
      → ChecksAnchor d old new anchor (Err fault) → JudgesReplay d old new records anchor (Err fault)
  no_anchor gives_bytes old new anchor fault records are legal checks =
      let judged = judged_anchor (IsSlotTag d (disk_of old)) (d.honest (disk_of old)) (d.honest (disk_of old)) (records_of old) records anchor fault legal
      (sym are.same_count) checks.fits in
      judged_replay gives_bytes old new anchor (Err fault) records (refused_alike old new fault checks.store) are judged.0
      (λ honest. judged.1 (IsSlotTag d (disk_of old)) honest (λ k tag is. is)) checks.loads

  -- the last tag couldn't be read
  pub no_tag : GivesBytes → (old last new : FileStore D d) (anchor : Option Anchor) (fault : AuditFault) (y : Unit {0}) (records : List Record) (k : ℕ)
      → AreLoaded (d.honest (disk_of old)) (records_of old) records
      → ChecksAnchor d old last anchor (Ok y) → ReadsSlotTag d last new k (Err fault) → JudgesReplay d old new records anchor (Err fault)
  no_tag gives_bytes old last new anchor fault y records k are checks tagged =
      let kept = kept_by d old last y checks.store in
      let judged = judged_tag (IsSlotTag d (disk_of last)) (d.honest (disk_of old)) (d.honest (disk_of last)) records anchor k fault tagged.gives in
      judged_replay gives_bytes old new anchor (Err fault) records (reads_after d old last new (Err fault) kept (refused_alike last new fault tagged.store)) are
      judged.0 (λ honest. judged.1 (IsSlotTag d (disk_of old))) (keeps_on old last new checks.loads tagged.loads)

  -- nothing is refused
  pub accepted : GivesBytes → (old last new : FileStore D d) (anchor : Option Anchor) (y : Unit {0}) (records : List Record) (k : ℕ)
      (tag : List ℕ) (report : Report) → has_stopped old ≡ false → AreLoaded (d.honest (disk_of old)) (records_of old) records → IsLegal records
      → ChecksAnchor d old last anchor (Ok y) → ReadsSlotTag d last new k (Ok tag) → k ≡ length (records_of last) - 1 → Reports records report
      → report.tag ≡ tag → JudgesReplay d old new records anchor (Ok report)
  accepted gives_bytes old last new anchor y records k tag report running are legal checks tagged here reports same_tag =
      let kept = kept_by d old last y checks.store in
      let kept_all = kept_by d old new tag (reads_after d old last new (Ok tag) kept tagged.store) in
      let place : k ≡ report.records - 1 = omega (arith, here, ap length kept.records, are.same_count, reports.count) in
      judged_replay gives_bytes old new anchor (Ok report) records (answered d old new (Ok report) kept_all running refl refl (λ n. refl) (λ l. refl)) are
      (legal, within_alike (records_of old) records anchor (sym are.same_count) checks.fits.0, reports)
      (λ honest. (
        subst (λ t. IsSlotTag d (disk_of old) (report.records - 1) t) (sym same_tag)
            (subst (λ n. IsSlotTag d (disk_of old) n tag) place
            (same_tags old last kept running honest k tag (tagged.gives (subst IsTrue (sym kept.honest) honest)))),
        checks.fits.1 honest,
      ))
      (keeps_on old last new checks.loads tagged.loads)
