-- Finding a file's records, slot after slot.
use Rattle.std.proofs.Common.{◌≡◌, ℕ, ◌+◌, ◌*◌, ◌<◌, Bool, true, false, List, [], ◌∷◌, ◌++◌, length, slice_index, Option, Some, None, Result, Err, refl, sym, ap, ◌∙◌, subst, arith, eqb-true, add-one, true≢false}
use Rattle.std.specs.Prelude.{◌==◌, IfErr, slice_get}
use Rattle.std.proofs.lemmas.Option.{slice_get-get_or, slice_get_within}
use Rattle.typecodes.specs.Layout.{Spells}
use Rattle.state_file.specs.File.{Holds, IsClosed, IsDamagedAt, IsOpen, IsWhole, SpellsRecords, fields_at, first_tag}
use Rattle.state_file.specs.File.{most_records, open_value, previous_tag, tag_at, tag_of, IsFileOf, IsSyncedFile}
use Rattle.state_file.proofs.Contents.{Begins}
use Rattle.state_file.specs.Disk.{DiskState, MayLeave, settled, Elapses, LeavesOnly}
use Rattle.state_file.proofs.Gates.{closed_gate, open_by_byte}
use Rattle.state_file.specs.inner.FileStore.{fields_length}
use Rattle.state_file.specs.DiskCalls.{OnlyReads}
use Rattle.state_file.specs.Opening.{ReportsContent}
use Rattle.state_file.specs.inner.Opening.{HasEntry, HasSlot, IsFound, StartsWithKey, ReportsSlot}
use Rattle.state_file.specs.Slot.{slot_record, file_version}
use Rattle.state_file.specs.declared.record.Version.{Version}
use Rattle.state_file.specs.Store.{begins_with_key}
use Rattle.state_file.specs.declared.file.opening.OpenFault.{OpenFault}
use Rattle.state_file.specs.declared.file.opening.OpenFault.TheVariants.{NoKey, NotKeyFile, Version as VersionFault, Damaged, DeviceFailed}
use Rattle.state_file.specs.declared.record.Record.{Record}
use Rattle.state_file.specs.declared.record.Record.TheVariants.{Key as KeyRecord}
use Rattle.state_file.proofs.Contents.{begins-all, begins-more, begins-none, begins-whole}
use Rattle.state_file.proofs.Kept.{read_record}
use Rattle.state_file.proofs.Moments.{goes_on, combined, started, weaker}
use Rattle.state_file.specs.inner.FileStore.{synced_left}

-- ---- calls that only read

module _ {D : Type 0} (state : D → DiskState) (moment : D → ℕ) (left_since : D → ℕ → List ℕ → Type 0) where
  pub reads_none : (old : D) → ((c : List ℕ) → left_since old (moment old) c → MayLeave (state old) c) → OnlyReads state moment left_since old old
  reads_none old only = record { stays = refl; leaves = started moment left_since old (MayLeave (state old)) only }

  pub reads_one : (old new : D) → ((c : List ℕ) → left_since old (moment old) c → MayLeave (state old) c) → state new ≡ state old
      → Elapses (moment old) (moment new) (left_since old) (left_since new) (MayLeave (state new)) → OnlyReads state moment left_since old new
  reads_one old new only stays time = record {
    stays = stays;
    leaves = goes_on moment left_since old old new (MayLeave (state old)) (MayLeave (state new)) (started moment left_since old (MayLeave (state old)) only) time
        (λ c left. subst (λ (s : DiskState). MayLeave s c) stays left);
  }

  pub reads_on : (old mid new : D) → OnlyReads state moment left_since old mid → OnlyReads state moment left_since mid new → OnlyReads state moment left_since old new
  reads_on old mid new first second = record {
    stays = second.stays ∙ first.stays;
    leaves = combined moment left_since old mid new (MayLeave (state old)) first.leaves
        (weaker moment left_since mid new (MayLeave (state mid)) (MayLeave (state old)) (λ c left. subst (λ (s : DiskState). MayLeave s c) first.stays left) second.leaves);
  }

  -- a crash before the sync could leave what is synced
  pub reads_settled : (old mid new : D) → MayLeave (state old) (state old).content → state mid ≡ settled (state old).content → LeavesOnly moment left_since old mid (MayLeave (state old)) → OnlyReads state moment left_since mid new
      → LeavesOnly moment left_since old new (MayLeave (state old))
  reads_settled old mid new shows settled_now first second =
      combined moment left_since old mid new (MayLeave (state old)) first
      (weaker moment left_since mid new (MayLeave (state mid)) (MayLeave (state old))
      (λ c left.
      let same : c ≡ (state old).content = synced_left (state old).content c (subst (λ (s : DiskState). MayLeave s c) settled_now left) in
      subst (MayLeave (state old)) (sym same) shows)
      second.leaves)

-- ---- gates

pub gate_open : (content : List ℕ) (k : ℕ) → 256 * k < length content → slice_index content (256 * k) == open_value ≡ true → IsOpen content k
gate_open content k within is = open_by_byte content k within (eqb-true (slice_index content (256 * k)) open_value is)

pub gate_closed : (content : List ℕ) (k : ℕ) → 256 * k < length content → slice_index content (256 * k) == open_value ≡ false → IsClosed content k
gate_closed content k within other = closed_gate content k within (λ is_open. true≢false (let clash : true ≡ false = cc in clash))

-- ---- slots

pub has_whole : (version : Version) (content : List ℕ) (k : ℕ) (entry : Record) (tag : List ℕ) → IsOpen content k → HasSlot version content k entry tag → IsWhole version content k
has_whole version content k entry tag opened slot = record { opened = opened; within_limit = slot.within_limit; ends = slot.ends; entry = entry; holds = slot.holds }

pub slot_found : (version : Version) (content previous fields tag : List ℕ) (k : ℕ) (entry : Record) → k < most_records → 256 * (k + 1) < length content → previous ≡ previous_tag content k → fields ≡ fields_at content k → tag ≡ tag_at content k
    → Spells (slot_record version) entry fields → tag ≡ tag_of previous fields → HasSlot version content k entry tag
slot_found version content previous fields tag k entry within_limit ends before fields_are tag_is spelled tagged = record {
  within_limit = within_limit;
  ends = ends;
  holds = record {
    spelled = subst (Spells (slot_record version) entry) fields_are spelled;
    tagged = sym tag_is ∙ tagged ∙ ap (λ (l : List ℕ). tag_of l fields) before ∙ ap (λ (l : List ℕ). tag_of (previous_tag content k) l) fields_are;
  };
  tagged = tag_is;
}

pub holds_entry : (version : Version) (content : List ℕ) (k : ℕ) (found : Option Record) (entry : Record) → HasEntry version content k found → found ≡ Some entry → Holds version content k entry
holds_entry version content k found entry has is = subst (HasEntry version content k) is has

pub holds_none : (version : Version) (content : List ℕ) (k : ℕ) (found : Option Record) → HasEntry version content k found → found ≡ None → (entry : Record) → Holds version content k entry → ⊥
holds_none version content k found has is = subst (HasEntry version content k) is has

pub slot_damaged : (version : Version) (content previous fields tag : List ℕ) (k : ℕ) → previous ≡ previous_tag content k → fields ≡ fields_at content k → tag ≡ tag_at content k
    → ((entry : Record) → Spells (slot_record version) entry fields → tag ≡ tag_of previous fields → ⊥) → IsWhole version content k → ⊥
slot_damaged version content previous fields tag k before fields_are tag_is none whole =
    none whole.entry (subst (Spells (slot_record version) whole.entry) (sym fields_are) whole.holds.spelled)
    (tag_is ∙ whole.holds.tagged ∙ sym (ap (λ (l : List ℕ). tag_of l fields) before ∙ ap (λ (l : List ℕ). tag_of (previous_tag content k) l) fields_are))

-- ---- from slot to slot

-- The content begins with these records, in this version, and this is the last one's tag.
pub record BeginsFound (version : Version) (content : List ℕ) (count : ℕ) (records : List Record) (tag : List ℕ) : Type 0 where
  pub begins : Begins version content records
  pub last : tag ≡ previous_tag content count

pub found_none : (version : Version) (content : List ℕ) (count : ℕ) (records : List Record) (tag : List ℕ) → count ≡ 0 → records ≡ [] → tag ≡ first_tag → StartsWithKey version content → BeginsFound version content count records tag
found_none version content count records tag none_yet none zeros key = record {
  begins = subst (Begins version content) (sym none) (begins-none version content key.may);
  last = zeros ∙ sym (ap (λ n. previous_tag content n) none_yet);
}

pub found_more : (version : Version) (content : List ℕ) (count more : ℕ) (records after : List Record) (tag next last : List ℕ) (entry : Record) → BeginsFound version content count records tag → count ≡ length records → more ≡ count + 1
    → after ≡ records ++ entry ∷ [] → next ≡ last → IsOpen content count → HasSlot version content count entry last → BeginsFound version content more after next
unfolding has_whole
found_more version content count more records after tag next last entry found counted one_more grown same opened slot = record {
  begins = subst (Begins version content) (sym grown) (begins-more version content records found.begins
      (let at = subst (λ n. IsOpen content n × HasSlot version content n entry last) counted (opened, slot) in has_whole version content (length records) entry last at.0 at.1));
  last = same ∙ slot.tagged ∙ sym (ap (λ n. previous_tag content n) (one_more ∙ add-one count));
}

-- if the next gate is closed, these are all
pub found_all : (version own : Version) (content : List ℕ) (count : ℕ) (records : List Record) (tag : List ℕ) → own ≡ version → BeginsFound version content count records tag → count ≡ length records → StartsWithKey version content → IsClosed content count
    → IsFound own content records tag
found_all version own content count records tag same found counted key closed =
    let (spelled, of_version) = begins-all version content records found.begins key.may key.key (subst (IsClosed content) counted closed) in record {
      of_version = same ∙ of_version;
      spelled = spelled;
      last = found.last ∙ ap (λ n. previous_tag content n) counted;
    }

-- if the next slot is open and not whole, it is damaged
pub found_damaged : (version : Version) (content : List ℕ) (count : ℕ) (records : List Record) (tag : List ℕ) (fault : OpenFault) → BeginsFound version content count records tag → count ≡ length records → StartsWithKey version content → IsOpen content count
    → ReportsSlot version content count fault → ReportsContent content fault
found_damaged version content count records tag NoKey found counted key opened reported = absurd reported
found_damaged version content count records tag NotKeyFile found counted key opened reported = absurd reported
found_damaged version content count records tag VersionFault found counted key opened reported = absurd reported
found_damaged version content count records tag (Damaged k) found counted key opened reported = subst (λ n. IsDamagedAt content n) (sym reported.0) (record {
  may = key.may;
  key = key.key;
  version = version;
  known = key.known;
  before = λ j below. begins-whole version content records j found.begins (omega (arith, below, counted));
  opened = opened;
  damaged = reported.1;
})
found_damaged version content count records tag DeviceFailed found counted key opened reported = tt

-- ---- the store

the_first : (records : List Record) (key : Record) → slice_get records 0 ≡ Some key → (rest : List Record) × (records ≡ key ∷ rest)
the_first [] key is = absurd cc
the_first (entry ∷ rest) key is = (rest, let same : entry ≡ key = cc in ap (λ e. e ∷ rest) same)

pub spelled_file : (records : List Record) (content : List ℕ) → SpellsRecords content records → IsFileOf records content
spelled_file records content is =
    let within : 256 * length records < length content = is.closed.0 in
    record {
      within_limit = is.within_limit;
      first = let (rest, same) = the_first records (KeyRecord is.first.0) is.first.1 in ap begins_with_key same;
      opened = is.opened;
      closed = is.closed;
      spelled = λ k entry there.
          let below : k < length records = slice_get_within records k entry there in
          read_record (file_version records) entry (fields_at content k) (fields_length content k (omega (arith, within, below))) (is.holds k entry there).spelled;
      tagged = λ k below. elim (slice_get records k) as (λ (found : Option Record). slice_get records k ≡ found → tag_at content k ≡ tag_of (previous_tag content k) (fields_at content k)) [
        | Some entry ↦ λ there. (is.holds k entry there).tagged
        | None ↦ λ past. absurd (missing records k below past)
      ] refl;
    }
  where
    missing : (records : List Record) (k : ℕ) → k < length records → slice_get records k ≡ None → ⊥
    missing [] k below past = omega (arith, below)
    missing (entry ∷ rest) k below past = let clash = sym (slice_get-get_or (entry ∷ rest) k entry below) ∙ past in cc

pub found_kept : (version : Version) (records : List Record) (tag content : List ℕ) (after : DiskState) → after ≡ settled content → IsFound version content records tag → IsSyncedFile records tag after
found_kept version records tag content after same found = subst (IsSyncedFile records tag) (sym same) (record {
  synced = refl;
  file = spelled_file records content found.spelled;
  last = found.last;
})

-- ---- a step of the loop, by the disk's states

pub fault_reported : {A : Type 0} (P : OpenFault → Type 0) (result : Result A OpenFault) (fault : OpenFault) → result ≡ Err fault → P fault → IfErr result P
fault_reported P result fault is reported = subst (λ (r : Result _ OpenFault). IfErr r P) (sym is) reported

pub gate_within : (version : Version) (first now : DiskState) (count : ℕ) (records : List Record) (tag : List ℕ) → now ≡ first → count ≡ length records → BeginsFound version first.content count records tag → 256 * count < length now.content
gate_within version first now count records tag same counted found = subst (λ (s : DiskState). 256 * count < length s.content) (sym same) (omega (arith, found.begins.ends, counted))

pub found_open : (first now : DiskState) (k : ℕ) (opened : Bool) → now ≡ first → 256 * k < length now.content → opened ≡ (slice_index now.content (256 * k) == open_value) → opened ≡ true → IsOpen first.content k
found_open first now k opened same within gate is = subst (λ (s : DiskState). IsOpen s.content k) same (gate_open now.content k within (sym gate ∙ is))

pub found_closed : (first now : DiskState) (k : ℕ) (opened : Bool) → now ≡ first → 256 * k < length now.content → opened ≡ (slice_index now.content (256 * k) == open_value) → opened ≡ false → IsClosed first.content k
found_closed first now k opened same within gate is = subst (λ (s : DiskState). IsClosed s.content k) same (gate_closed now.content k within (sym gate ∙ is))
