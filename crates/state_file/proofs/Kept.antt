-- Files whose slots stay, and files with one slot more.
use Rattle.std.proofs.Common.{◌≡◌, ◌⊎◌, inl, inr, ⊎_elim, ℕ, zero, suc, ◌+◌, ◌*◌, ◌<◌, ◌≤◌, true, List, [], ◌∷◌, ◌++◌, length, take, drop, get_or, slice_index, slice_get, Some, Ok, refl, sym, ◌∙◌, ap, subst, arith, append_assoc, length-append, length-take-le, add-one}
use Rattle.std.proofs.lemmas.List.{append-nil, take-take, drop-take, take_all, take_at, drop_at, get_or-take, get_or_at, length_push, get_or_push, get_or_append_left}
use Rattle.std.proofs.lemmas.Option.{slice_get-get_or, slice_get_within, get_or_from_slice_get}
use Rattle.std.proofs.lemmas.Bool.{cases_lt}
use Rattle.typecodes.proofs.Read.{spelled-read}
use Rattle.typecodes.proofs.Steps.{ends-spelled}
use Rattle.typecodes.specs.Layout.{Spells}
use Rattle.typecodes.specs.Cursor.{read}
use Rattle.state_file.specs.File.{Holds, fields_at, tag_at, previous_tag, tag_of, most_records, open_value, StandsFor, IsFileOf, IsSyncedFile}
use Rattle.state_file.proofs.Gates.{open_by_byte}
use Rattle.state_file.specs.inner.FileStore.{fields_length, file_stands, open_byte}
use Rattle.state_file.specs.Store.{CanFollow, begins_with_key}
use Rattle.state_file.specs.Disk.{DiskState, LeavesOnly}
use Rattle.state_file.specs.Gates.{IsClosedAfter, IsAtRest}
use Rattle.state_file.specs.Slot.{slot_record, file_version}
use Rattle.state_file.specs.declared.record.Version.{Version}
use Rattle.state_file.specs.declared.record.Record.{Record}
use Rattle.state_file.proofs.Moments.{weaker}

-- a longer list has the same version
pub version_stays : (records more : List Record) → 0 < length records → file_version (records ++ more) ≡ file_version records
version_stays [] more some = absurd (omega (arith, some))
version_stays (entry ∷ rest) more some = refl

same_part : (m n w : ℕ) (c content : List ℕ) → take m c ≡ take m content → n + w ≤ m → take w (drop n c) ≡ take w (drop n content)
same_part m n w c content same fits =
    sym (drop-take n w c) ∙ ap (λ (l : List ℕ). drop n l) (sym (take-take (n + w) m c fits) ∙ ap (λ (l : List ℕ). take (n + w) l) same ∙ take-take (n + w) m content fits) ∙ drop-take n w content

same_byte : (m n : ℕ) (c content : List ℕ) → take m c ≡ take m content → n < m → slice_index c n ≡ slice_index content n
same_byte m n c content same below = sym (get_or-take m c n 0 below) ∙ ap (λ (l : List ℕ). slice_index l n) same ∙ get_or-take m content n 0 below

same_previous : (m : ℕ) (c content : List ℕ) (k : ℕ) → take m c ≡ take m content → 256 * k ≤ m → previous_tag c k ≡ previous_tag content k
same_previous m c content zero same fits = refl
same_previous m c content (suc k) same fits = same_part m (256 * k + 224) 32 c content same (omega arith)

pub file_ends : (records : List Record) (content : List ℕ) → IsFileOf records content → IsClosedAfter (take (256 * length records) content) content
file_ends records content file =
    let n = 256 * length records in
    let len : length (take n content) ≡ n = length-take-le n content (omega (arith, file.closed.0)) in
    record {
      begins = ap (λ m. take m content) len;
      closed = (omega (arith, len, file.closed.0), λ is_open. file.closed.1 (ap (λ m. slice_index content m) (sym len) ∙ is_open));
    }

-- a content with the same slots, closed after them, is a file of the same records
pub file_stays : (records : List Record) (content c : List ℕ) → IsFileOf records content → IsClosedAfter (take (256 * length records) content) c → IsFileOf records c
file_stays records content c file ends =
    let n = 256 * length records in
    let len : length (take n content) ≡ n = length-take-le n content (omega (arith, file.closed.0)) in
    let same : take n c ≡ take n content = ap (λ m. take m c) (sym len) ∙ ends.begins in
    record {
      within_limit = file.within_limit;
      first = file.first;
      opened = λ k below. open_by_byte c k (omega (arith, len, ends.closed.0)) (same_byte n (256 * k) c content same (omega arith) ∙ open_byte content k (file.opened k below));
      closed = (omega (arith, len, ends.closed.0), λ is_open. ends.closed.1 (ap (λ m. slice_index c m) len ∙ is_open));
      spelled = λ k entry is.
          let below : k < length records = slice_get_within records k entry is in
          ap (λ (l : List ℕ). read (slot_record (file_version records)) l 0) (same_part n (256 * k + 1) 223 c content same (omega arith)) ∙ file.spelled k entry is;
      tagged = λ k below.
          let fields : fields_at c k ≡ fields_at content k = same_part n (256 * k + 1) 223 c content same (omega arith) in
          let previous : previous_tag c k ≡ previous_tag content k = same_previous n c content k same (omega arith) in
          same_part n (256 * k + 224) 32 c content same (omega arith) ∙ file.tagged k below ∙ sym (ap (λ (l : List ℕ). tag_of l (fields_at c k)) previous ∙ ap (λ (l : List ℕ). tag_of (previous_tag content k) l) fields);
    }

module _ (records : List Record) (content c : List ℕ) (entry : Record) (fields tag : List ℕ) (fields_len : length fields ≡ 223) (tag_len : length tag ≡ 32) (file : IsFileOf records content)
    (ends : IsClosedAfter (take (256 * length records) content ++ open_value ∷ (fields ++ tag)) c) where
  n : ℕ
  n = 256 * length records

  front : List ℕ
  front = take (256 * length records) content

  whole : List ℕ
  whole = front ++ open_value ∷ (fields ++ tag)

  n-is : n ≡ 256 * length records
  unfolding n
  n-is = refl

  front_len : length front ≡ n
  unfolding front n
  front_len = length-take-le (256 * length records) content (omega (arith, file.closed.0))

  whole_len : length whole ≡ n + 256
  unfolding whole
  whole_len = omega (arith, length-append front (open_value ∷ (fields ++ tag)), length-append fields tag, fields_len, tag_len, front_len)

  begins : take (n + 256) c ≡ whole
  unfolding whole front
  begins = ap (λ m. take m c) (sym whole_len) ∙ ends.begins

  -- up to the new slot's end all is as in the whole
  same_whole : take (n + 256) c ≡ take (n + 256) whole
  same_whole = begins ∙ sym (take_all (n + 256) whole (omega (arith, whole_len)))

  whole_front : take n whole ≡ take n content
  unfolding whole front n
  whole_front = take_at front (open_value ∷ (fields ++ tag)) n front_len

  same_front : take n c ≡ take n content
  same_front = sym (take-take n (n + 256) c (omega arith)) ∙ ap (λ (l : List ℕ). take n l) begins ∙ whole_front

  whole_gate : slice_index whole n ≡ open_value
  unfolding whole
  whole_gate = get_or_at front open_value (fields ++ tag) 0 n front_len

  new_gate : slice_index c n ≡ open_value
  new_gate = same_byte (n + 256) n c whole same_whole (omega arith) ∙ whole_gate

  whole_fields : take 223 (drop (n + 1) whole) ≡ fields
  unfolding whole
  whole_fields =
      let split : front ++ open_value ∷ (fields ++ tag) ≡ (front ++ open_value ∷ []) ++ (fields ++ tag) = sym (append_assoc front (open_value ∷ []) (fields ++ tag)) in
      let len : length (front ++ open_value ∷ []) ≡ n + 1 = length_push front open_value ∙ ap (λ k. k + 1) front_len in
      ap (λ (l : List ℕ). take 223 (drop (n + 1) l)) split ∙ ap (λ (l : List ℕ). take 223 l) (drop_at (front ++ open_value ∷ []) (fields ++ tag) (n + 1) len) ∙ take_at fields tag 223 fields_len

  new_fields : take 223 (drop (n + 1) c) ≡ fields
  new_fields = same_part (n + 256) (n + 1) 223 c whole same_whole (omega arith) ∙ whole_fields

  whole_tag : take 32 (drop (n + 224) whole) ≡ tag
  unfolding whole
  whole_tag =
      let split : front ++ open_value ∷ (fields ++ tag) ≡ (front ++ open_value ∷ fields) ++ tag = sym (append_assoc front (open_value ∷ fields) tag) in
      let len : length (front ++ open_value ∷ fields) ≡ n + 224 = omega (arith, length-append front (open_value ∷ fields), front_len, fields_len) in
      ap (λ (l : List ℕ). take 32 (drop (n + 224) l)) split ∙ ap (λ (l : List ℕ). take 32 l) (drop_at (front ++ open_value ∷ fields) tag (n + 224) len) ∙ take_all 32 tag (omega arith)

  new_tag : take 32 (drop (n + 224) c) ≡ tag
  new_tag = same_part (n + 256) (n + 224) 32 c whole same_whole (omega arith) ∙ whole_tag

  new_within : n + 256 < length c
  unfolding whole front
  new_within = omega (arith, ends.closed.0, whole_len)

  new_closed : slice_index c (n + 256) ≡ open_value → ⊥
  unfolding whole front
  new_closed = λ is_open. ends.closed.1 (ap (λ m. slice_index c m) whole_len ∙ is_open)

  count : length (records ++ entry ∷ []) ≡ length records + 1
  count = length_push records entry

  old_or_new : (k : ℕ) → k < length (records ++ entry ∷ []) → (k < length records) ⊎ (k ≡ length records)
  old_or_new k below = elim (cases_lt k (length records)) [ inl old ↦ inl old | inr new ↦ inr (omega (arith, count)) ]

  old_entry : (k : ℕ) (one : Record) → k < length records → slice_get (records ++ entry ∷ []) k ≡ Some one → slice_get records k ≡ Some one
  old_entry k one below is =
      slice_get-get_or records k one below ∙ ap Some (sym (get_or_append_left records (entry ∷ []) one k below) ∙ get_or_from_slice_get (records ++ entry ∷ []) k one one is)

  new_entry : (one : Record) → slice_get (records ++ entry ∷ []) (length records) ≡ Some one → one ≡ entry
  new_entry one is = sym (get_or_from_slice_get (records ++ entry ∷ []) (length records) one one is) ∙ get_or_push records entry one (length records) refl

  old_fields : (k : ℕ) → k < length records → fields_at c k ≡ fields_at content k
  old_fields k below = same_part n (256 * k + 1) 223 c content same_front (omega (arith, n-is))

  old_previous : (k : ℕ) → k ≤ length records → previous_tag c k ≡ previous_tag content k
  old_previous k below = same_previous n c content k same_front (omega (arith, n-is))

  last_fields : fields_at c (length records) ≡ fields
  last_fields = ap (λ m. take 223 (drop (m + 1) c)) (sym n-is) ∙ new_fields

  last_tag : tag_at c (length records) ≡ tag
  last_tag = ap (λ m. take 32 (drop (m + 224) c)) (sym n-is) ∙ new_tag

  last_tagged : tag ≡ tag_of (previous_tag content (length records)) fields → tag_at c (length records) ≡ tag_of (previous_tag c (length records)) (fields_at c (length records))
  last_tagged tagged =
      last_tag ∙ tagged
      ∙ sym (ap (λ (l : List ℕ). tag_of l (fields_at c (length records))) (old_previous (length records) (omega arith)) ∙ ap (λ (l : List ℕ). tag_of (previous_tag content (length records)) l) last_fields)

  -- the old slots keep their version
  old_version : (k : ℕ) → k < length records → file_version records ≡ file_version (records ++ entry ∷ [])
  old_version k old = sym (version_stays records (entry ∷ []) (omega (arith, old)))

  pub file_grows : length records < most_records → begins_with_key (records ++ entry ∷ []) ≡ true → read (slot_record (file_version (records ++ entry ∷ []))) fields 0 ≡ Ok (entry, 223) → tag ≡ tag_of (previous_tag content (length records)) fields
      → IsFileOf (records ++ entry ∷ []) c
  file_grows room key spelled tagged = record {
    within_limit = omega (arith, count);
    first = key;
    opened = λ k below. elim (old_or_new k below) [
      | inl old ↦ open_by_byte c k (omega (arith, new_within, n-is)) (same_byte n (256 * k) c content same_front (omega (arith, n-is)) ∙ open_byte content k (file.opened k old))
      | inr new ↦ open_by_byte c k (omega (arith, new_within, n-is)) (ap (λ (m : ℕ). slice_index c (256 * m)) new ∙ ap (λ (m : ℕ). slice_index c m) (sym n-is) ∙ new_gate)
    ];
    closed = (omega (arith, new_within, count, n-is), λ is_open. let same : 256 * length (records ++ entry ∷ []) ≡ n + 256 = omega (arith, count, n-is) in new_closed (ap (λ m. slice_index c m) (sym same) ∙ is_open));
    spelled = λ k one is. elim (old_or_new k (slice_get_within (records ++ entry ∷ []) k one is)) [
      | inl old ↦
          ap (λ (l : List ℕ). read (slot_record (file_version (records ++ entry ∷ []))) l 0) (old_fields k old)
          ∙ sym (ap (λ v. read (slot_record v) (fields_at content k) 0) (old_version k old)) ∙ file.spelled k one (old_entry k one old is)
      | inr new ↦
          let fields_are : fields_at c k ≡ fields = ap (λ m. take 223 (drop (256 * m + 1) c)) new ∙ ap (λ m. take 223 (drop (m + 1) c)) (sym n-is) ∙ new_fields in
          let entry_is : one ≡ entry = new_entry one (ap (λ m. slice_get (records ++ entry ∷ []) m) (sym new) ∙ is) in
          ap (λ (l : List ℕ). read (slot_record (file_version (records ++ entry ∷ []))) l 0) fields_are ∙ spelled ∙ ap (λ (e : Record). Ok (e, 223)) (sym entry_is)
    ];
    tagged = λ k below. elim (old_or_new k below) [
      | inl old ↦
          same_part n (256 * k + 224) 32 c content same_front (omega (arith, n-is)) ∙ file.tagged k old
          ∙ sym (ap (λ (l : List ℕ). tag_of l (fields_at c k)) (old_previous k (omega arith)) ∙ ap (λ (l : List ℕ). tag_of (previous_tag content k) l) (old_fields k old))
      | inr new ↦ subst (λ m. tag_at c m ≡ tag_of (previous_tag c m) (fields_at c m)) (sym new) (last_tagged tagged)
    ];
  }

  pub file_last : previous_tag c (length (records ++ entry ∷ [])) ≡ tag
  file_last = ap (λ m. previous_tag c m) (count ∙ add-one (length records)) ∙ last_tag

pub follows_key : (records : List Record) (entry : Record) → begins_with_key records ≡ true → CanFollow records entry → begins_with_key (records ++ entry ∷ []) ≡ true
follows_key [] entry keyed first = first
follows_key (one ∷ rest) entry keyed first = keyed

pub read_record : (version : Version) (entry : Record) (fields : List ℕ) → length fields ≡ 223 → Spells (slot_record version) entry fields → read (slot_record version) fields 0 ≡ Ok (entry, 223)
read_record version entry fields len spelled =
    spelled-read (slot_record version) entry fields [] fields 0 (omega arith) (sym (append-nil fields)) spelled ∙ ap (λ (m : ℕ). Ok (entry, m)) (let end : 0 + length fields ≡ 223 = omega arith in end)

pub kept_rests : (records : List Record) (tag : List ℕ) (state : DiskState) → IsSyncedFile records tag state → IsAtRest (take (256 * length records) state.content) state
kept_rests records tag state kept = record { synced = kept.synced; ends = file_ends records state.content kept.file }

pub kept_size : (records : List Record) (tag : List ℕ) (state : DiskState) (count : ℕ) → IsSyncedFile records tag state → count ≡ length records → length (take (256 * length records) state.content) ≡ 256 * count
kept_size records tag state count kept counted = length-take-le (256 * length records) state.content (omega (arith, kept.file.closed.0)) ∙ ap (λ m. 256 * m) (sym counted)

-- one slot is added to a kept file
module _ (records : List Record) (last : List ℕ) (state : DiskState) (count : ℕ) (entry : Record) (fields tag body : List ℕ) (counted : count ≡ length records) (room : count < most_records)
    (key : begins_with_key (records ++ entry ∷ []) ≡ true) (fields_len : length fields ≡ 223) (tag_len : length tag ≡ 32) (body_is : body ≡ fields ++ tag) (spelled : Spells (slot_record (file_version (records ++ entry ∷ []))) entry fields)
    (tagged : tag ≡ tag_of last fields) (kept : IsSyncedFile records last state) where
  tag_is : tag ≡ tag_of (previous_tag state.content (length records)) fields
  tag_is = tagged ∙ ap (λ (l : List ℕ). tag_of l fields) kept.last

  ends_are : (c : List ℕ) → IsClosedAfter (take (256 * length records) state.content ++ open_value ∷ body) c → IsClosedAfter (take (256 * length records) state.content ++ open_value ∷ (fields ++ tag)) c
  ends_are c ends = subst (λ (l : List ℕ). IsClosedAfter (take (256 * length records) state.content ++ open_value ∷ l) c) body_is ends

  grown : (c : List ℕ) → IsClosedAfter (take (256 * length records) state.content ++ open_value ∷ body) c → IsFileOf (records ++ entry ∷ []) c
  grown c ends =
      file_grows records state.content c entry fields tag fields_len tag_len kept.file (ends_are c ends) (omega arith) key (read_record (file_version (records ++ entry ∷ [])) entry fields fields_len spelled) tag_is

  pub added_leaves : (c : List ℕ) → IsClosedAfter (take (256 * length records) state.content) c ⊎ IsClosedAfter (take (256 * length records) state.content ++ open_value ∷ body) c
      → StandsFor records c ⊎ StandsFor (records ++ entry ∷ []) c
  added_leaves c either =
      ⊎_elim (λ old. inl (file_stands records c (file_stays records state.content c kept.file old))) (λ new. inr (file_stands (records ++ entry ∷ []) c (grown c new))) either

  grown_kept : (after : DiskState) → IsAtRest (take (256 * length records) state.content ++ open_value ∷ body) after → IsSyncedFile (records ++ entry ∷ []) tag after
  grown_kept after rest = record {
    synced = rest.synced;
    file = grown after.content rest.ends;
    last = sym (file_last records state.content after.content entry fields tag fields_len tag_len kept.file (ends_are after.content rest.ends));
  }

pub kept_grows : (records after : List Record) (last : List ℕ) (state new : DiskState) (count : ℕ) (entry : Record) (fields tag body : List ℕ) → after ≡ records ++ entry ∷ [] → count ≡ length records → count < most_records
    → begins_with_key (records ++ entry ∷ []) ≡ true → length fields ≡ 223 → length tag ≡ 32 → body ≡ fields ++ tag → Spells (slot_record (file_version (records ++ entry ∷ []))) entry fields → tag ≡ tag_of last fields → IsSyncedFile records last state
    → IsAtRest (take (256 * length records) state.content ++ open_value ∷ body) new → IsSyncedFile after tag new
kept_grows records after last state new count entry fields tag body is counted room key fields_len tag_len body_is spelled tagged kept rest =
    subst (λ (l : List Record). IsSyncedFile l tag new) (sym is) (grown_kept records last state count entry fields tag body counted room key fields_len tag_len body_is spelled tagged kept new rest)

-- what an append leaves at any moment, from what adding its slot leaves
pub appended_leaves : {D : Type 0} (moment : D → ℕ) (left_since : D → ℕ → List ℕ → Type 0) (old new : D) (records : List Record) (last : List ℕ) (state : DiskState) (count : ℕ) (entry : Record) (fields tag : List ℕ) → count ≡ length records → count < most_records
    → begins_with_key (records ++ entry ∷ []) ≡ true → length fields ≡ 223 → length tag ≡ 32 → Spells (slot_record (file_version (records ++ entry ∷ []))) entry fields → tag ≡ tag_of last fields → IsSyncedFile records last state
    → ((front : List ℕ) → IsAtRest front state → length front ≡ 256 * count → LeavesOnly moment left_since old new (λ c. IsClosedAfter front c ⊎ IsClosedAfter (front ++ open_value ∷ (fields ++ tag)) c))
    → LeavesOnly moment left_since old new (λ c. StandsFor records c ⊎ StandsFor (records ++ entry ∷ []) c)
appended_leaves moment left_since old new records last state count entry fields tag counted room key fields_len tag_len spelled tagged kept leaves =
    weaker moment left_since old new _ _
    (added_leaves records last state count entry fields tag (fields ++ tag) counted room key fields_len tag_len refl spelled tagged kept)
    (leaves (take (256 * length records) state.content) (kept_rests records last state kept) (kept_size records last state count kept counted))

pub kept_holds : (records : List Record) (tag : List ℕ) (state : DiskState) (k : ℕ) → IsSyncedFile records tag state → k < length records → (entry : Record) × (slice_get records k ≡ Some entry) × Holds (file_version records) state.content k entry
kept_holds [] tag state k kept below = absurd (omega arith)
kept_holds (first ∷ rest) tag state k kept below =
    let entry = get_or (first ∷ rest) k first in
    let is = slice_get-get_or (first ∷ rest) k first below in (
      entry,
      is,
      record {
        spelled = ends-spelled (slot_record (file_version (first ∷ rest))) (fields_at state.content k) entry 223 (kept.file.spelled k entry is) (fields_length state.content k (omega (arith, kept.file.closed.0)));
        tagged = kept.file.tagged k below;
      },
    )
