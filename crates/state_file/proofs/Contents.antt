-- Opening finds something in every content, and one thing only.
use Rattle.std.proofs.Common.{◌≡◌, ◌⊎◌, inl, inr, ℕ, zero, suc, ◌+◌, ◌*◌, ◌<◌, true, List, [], ◌∷◌, ◌++◌, length, get_or, Option, Some, None, refl, sym, ap, ◌∙◌, subst, arith, true≢false, length-append}
use Rattle.std.specs.Prelude.{◌==◌, slice_get, ◌&&◌, ◌≤◌}
use Rattle.std.specs.Cmp.Lexicographic.{bytes_decides, pointwise}
use Rattle.std.proofs.lemmas.Bool.{cases_Bool, cases_eq, cases_lt, cases_order, and_parts}
use Rattle.std.proofs.lemmas.List.{same_lists}
use Rattle.std.proofs.lemmas.Option.{same_Some, slice_get_cases, slice_get_within, slice_get-get_or, get_or_from_slice_get}
use Rattle.typecodes.proofs.Readers.{either}
use Rattle.typecodes.proofs.Spelling.{no_value, one_value}
use Rattle.typecodes.specs.Layout.{Spells}
use Rattle.state_file.specs.declared.record.Key.{Key}
use Rattle.state_file.specs.declared.record.Record.{Record}
use Rattle.state_file.specs.declared.record.Record.TheVariants.{Key as KeyRecord, Extend as ExtendRecord, Retire, Moved}
use Rattle.state_file.specs.declared.record.Version.{Version}
use Rattle.state_file.specs.File.{HasNoKey, Holds, IsClosed, IsDamagedAt, IsOpen, IsWhole, MayHaveKey, SpellsRecords}
use Rattle.state_file.specs.File.{begins_key, fields_at, most_records, open_value, previous_tag, tag_at, tag_of}
use Rattle.state_file.specs.File.{version_of, StandsFor}
use Rattle.state_file.specs.Opening.{ContentKind, OpensAs, damaged, no_key, no_key_file, spelled, unknown_version}
use Rattle.state_file.specs.inner.FileStore.{not_both}
use Rattle.state_file.specs.Laws.{CanSign}
use Rattle.state_file.specs.Slot.{slot_record, file_version, magic, version_begun}
use Rattle.state_file.specs.inner.Shown.{key-begins, record-parts}
use Rattle.std.proofs.Common.{take, eqb-true}
use Rattle.state_file.specs.declared.record.Record.TheVariants.{Bound as BoundRecord}
use Rattle.state_file.specs.inner.Slot.{kind_of}

-- The content begins with slots that hold these records, in this version, and the next gate is in it.
pub record Begins (version : Version) (content : List ℕ) (records : List Record) : Type 0 where
  pub within_limit : length records ≤ most_records
  pub ends : 256 * length records < length content
  pub opened : (k : ℕ) → k < length records → IsOpen content k
  pub holds : (k : ℕ) (entry : Record) → slice_get records k ≡ Some entry → Holds version content k entry

pub key-first : (version : Version) (entry : Record) (fields : List ℕ) → Spells (slot_record version) entry fields
    → begins_key fields ≡ true → (key : Key) × (entry ≡ KeyRecord key)
key-first version entry fields spells begins =
    let (rest, is, _) = record-parts version entry fields spells in
    let test : (kind_of entry == 1) && pointwise (λ a b. a == b) (take 8 rest) magic ≡ true = ap begins_key (sym is)
    ∙ begins in
    of_kind entry (eqb-true (kind_of entry) 1 (and_parts _ _ test).0)
  where
    of_kind : (entry : Record) → kind_of entry ≡ 1 → (key : Key) × (entry ≡ KeyRecord key)
    of_kind (KeyRecord key) same = (key, refl)
    of_kind (ExtendRecord extend) same = absurd (omega (arith, same))
    of_kind (BoundRecord bound) same = absurd (omega (arith, same))
    of_kind (Retire upto) same = absurd (omega (arith, same))
    of_kind Moved same = absurd (omega (arith, same))

pub version_first : (records : List Record) (key : Key) → slice_get records 0 ≡ Some (KeyRecord key)
    → file_version records ≡ key.version
version_first [] key is = absurd cc
version_first (entry ∷ rest) key is = ap version_begun (same_Some entry (KeyRecord key) is)

-- ---- slots

pub open_or_closed : (content : List ℕ) (k : ℕ) → 256 * k < length content → IsOpen content k ⊎ IsClosed content k
open_or_closed content k reaches =
    elim (slice_get_cases content (256 * k)).1 [
      | inl (value, _, is, _) ↦ elim (cases_eq value open_value) [
        | inl same ↦ inl (is ∙ ap Some same)
        | inr other ↦ inr (reaches, λ is_open. other (sym (get_or_from_slice_get content (256 * k) value 0 is) ∙ is_open))
      ]
      | inr (past, _) ↦ absurd (omega (arith, past))
    ]

pub open-reaches : (content : List ℕ) (k : ℕ) → IsOpen content k → 256 * k < length content
open-reaches content k opened = slice_get_within content (256 * k) open_value opened

pub closed-reaches : (content : List ℕ) (k : ℕ) → IsClosed content k → 256 * k < length content
closed-reaches content k shut = shut.0

one_record_at : (version : Version) (content : List ℕ) (k : ℕ) (entry other : Record) → Holds version content k entry → Holds version content k other → entry ≡ other
one_record_at version content k entry other first second = one_value (slot_record version) entry other (fields_at content k) first.spelled second.spelled

holds_or_not : (version : Version) (content : List ℕ) (k : ℕ) → ((entry : Record) × Holds version content k entry) ⊎ ((entry : Record) → Holds version content k entry → ⊥)
holds_or_not version content k =
    let fields = fields_at content k in
    let tag = tag_of (previous_tag content k) fields in
    elim (either (slot_record version) fields) [
      | inl (entry, is) ↦ elim (cases_Bool (pointwise (λ a b. a == b) (tag_at content k) tag)) [
        | inl same ↦ inl (entry, record { spelled = is; tagged = (bytes_decides (tag_at content k) tag).0 same })
        | inr other ↦ inr (λ _ holds. true≢false (sym ((bytes_decides (tag_at content k) tag).1 holds.tagged) ∙ other))
      ]
      | inr (fault, faulty) ↦ inr (λ entry holds. no_value (slot_record version) entry fields 0 fault holds.spelled faulty)
    ]

pub whole_or_not : (version : Version) (content : List ℕ) (k : ℕ) → IsOpen content k → IsWhole version content k ⊎ (IsWhole version content k → ⊥)
whole_or_not version content k opened =
    elim (cases_lt k most_records) [
      | inl within_limit ↦ elim (cases_lt (256 * (k + 1)) (length content)) [
        | inl ends ↦ elim (holds_or_not version content k) [
          | inl (entry, holds) ↦ inl (record { opened = opened; within_limit = within_limit; ends = ends; entry = entry; holds = holds })
          | inr none ↦ inr (λ whole. none whole.entry whole.holds)
        ]
        | inr short ↦ inr (λ whole. omega (arith, short, whole.ends))
      ]
      | inr many ↦ inr (λ whole. omega (arith, many, whole.within_limit))
    ]

-- ---- beginnings

pub begins-none : (version : Version) (content : List ℕ) → MayHaveKey content → Begins version content []
begins-none version content may = record {
  within_limit = omega arith;
  ends = omega (arith, may.at_least_257);
  opened = λ k below. absurd (omega (arith, below));
  holds = λ k entry is. absurd (omega (arith, slice_get_within {A = Record} [] k entry is));
}

-- an item of a longer list is the last, or one before it
snoc_get : {A : Type 0} (xs : List A) (x : A) (k : ℕ) (y : A) → slice_get (xs ++ x ∷ []) k ≡ Some y → (slice_get xs k ≡ Some y) ⊎ ((k ≡ length xs) × (x ≡ y))
snoc_get [] x zero y is = inr (refl, cc)
snoc_get [] x (suc k) y is = absurd (cc)
snoc_get (first ∷ xs) x zero y is = inl is
snoc_get (first ∷ xs) x (suc k) y is = elim (snoc_get xs x k y is) [ inl there ↦ inl there | inr last ↦ inr (ap suc last.0, last.1) ]

pub begins-more : (version : Version) (content : List ℕ) (records : List Record) → Begins version content records → (whole : IsWhole version content (length records)) → Begins version content (records ++ whole.entry ∷ [])
begins-more version content records begins whole =
    let count : length (records ++ whole.entry ∷ []) ≡ length records + 1 = length-append records (whole.entry ∷ []) in record {
      within_limit = omega (arith, count, whole.within_limit);
      ends = omega (arith, count, whole.ends);
      opened = λ k below. elim (cases_lt k (length records)) [
        | inl before ↦ begins.opened k before
        | inr last ↦ let same : length records ≡ k = omega (arith, below, count, last) in subst (IsOpen content) same whole.opened
      ];
      holds = λ k entry is. elim (snoc_get records whole.entry k entry is) [
        | inl there ↦ begins.holds k entry there
        | inr last ↦ subst (λ (p : ℕ × Record). Holds version content p.0 p.1) (λ i. (sym last.0 i, last.1 i)) whole.holds
      ];
    }

pub begins-whole : (version : Version) (content : List ℕ) (records : List Record) (k : ℕ) → Begins version content records → k < length records → IsWhole version content k
begins-whole version content records k begins below =
    elim (slice_get_cases records k).1 [
      | inl (entry, _, is, _) ↦ record {
        opened = begins.opened k below;
        within_limit = omega (arith, begins.within_limit, below);
        ends = omega (arith, begins.ends, below);
        entry = entry;
        holds = begins.holds k entry is;
      }
      | inr (past, _) ↦ absurd (omega (arith, past, below))
    ]

-- if the first slot is a Key's, its version is the records'
begins-version : (version : Version) (content : List ℕ) (records : List Record) (entry : Record) → Begins version content records → begins_key (fields_at content 0) ≡ true → slice_get records 0 ≡ Some entry
    → (key : Key) × (slice_get records 0 ≡ Some (KeyRecord key)) × (version ≡ file_version records)
begins-version version content records entry begins key is =
    let spelled = (begins.holds 0 entry is).spelled in
    let (first, same) = key-first version entry (fields_at content 0) spelled key in
    let there : slice_get records 0 ≡ Some (KeyRecord first) = is ∙ ap Some same in
    let own = (key-begins version first (fields_at content 0) (subst (λ e. Spells (slot_record version) e (fields_at content 0)) same spelled)).2 in
    (first, there, sym own ∙ sym (version_first records first there))

-- if the next gate is closed, these are all records
pub begins-all : (version : Version) (content : List ℕ) (records : List Record) → Begins version content records → MayHaveKey content → begins_key (fields_at content 0) ≡ true → IsClosed content (length records)
    → SpellsRecords content records × (version ≡ file_version records)
begins-all version content records begins may key closed =
    elim (slice_get_cases records 0).1 [
      | inl (entry, _, is, _) ↦
          let (first, there, same) = begins-version version content records entry begins key is in (
            record {
              within_limit = begins.within_limit;
              opened = begins.opened;
              closed = closed;
              first = (first, there);
              holds = λ k one at. subst (λ v. Holds v content k one) same (begins.holds k one at);
            },
            same,
          )
      | inr (past, _) ↦
          let none : length records ≡ 0 = omega (arith, past) in
          absurd (not_both content 0 may.opened (subst (IsClosed content) none closed))
    ]

pub spelled-begins : (content : List ℕ) (records : List Record) → SpellsRecords content records → Begins (file_version records) content records
spelled-begins content records is = record {
  within_limit = is.within_limit;
  ends = closed-reaches content (length records) is.closed;
  opened = is.opened;
  holds = is.holds;
}

-- ---- something is reported

-- what the next gate means
judged : (version : Version) (content : List ℕ) (records : List Record) → Begins version content records → MayHaveKey content → begins_key (fields_at content 0) ≡ true
    → version_of (fields_at content 0) ≡ Some version → (IsWhole version content (length records) → (opening : ContentKind) × OpensAs content opening) → (opening : ContentKind) × OpensAs content opening
judged version content records begins may key known more =
    elim (open_or_closed content (length records) begins.ends) [
      | inr closed ↦ (spelled records, (begins-all version content records begins may key closed).0)
      | inl opened ↦ elim (whole_or_not version content (length records) opened) [
        | inr other ↦ (
          damaged (length records),
          record {
            may = may;
            key = key;
            version = version;
            known = known;
            before = λ j below. begins-whole version content records j begins below;
            opened = opened;
            damaged = other;
          },
        )
        | inl whole ↦ more whole
      ]
    ]

-- from whole slot to whole slot, up to the greatest number
opening_from : (version : Version) (content : List ℕ) (left : ℕ) (records : List Record) → left + length records ≡ most_records → Begins version content records → MayHaveKey content → begins_key (fields_at content 0) ≡ true
    → version_of (fields_at content 0) ≡ Some version → (opening : ContentKind) × OpensAs content opening
opening_from version content zero records count begins may key known = judged version content records begins may key known (λ whole. absurd (omega (arith, count, whole.within_limit)))
opening_from version content (suc left) records count begins may key known =
    judged version content records begins may key known (λ whole.
    opening_from version content left (records ++ whole.entry ∷ []) (omega (arith, count, length-append records (whole.entry ∷ []))) (begins-more version content records begins whole) may key known)

opening_by_version : (content : List ℕ) → MayHaveKey content → begins_key (fields_at content 0) ≡ true → (found : Option Version) → version_of (fields_at content 0) ≡ found → (opening : ContentKind) × OpensAs content opening
opening_by_version content may key None is = (unknown_version, record { may = may; key = key; other = is })
opening_by_version content may key (Some version) is = opening_from version content most_records [] (omega arith) (begins-none version content may) may key is

opening_with_key : (content : List ℕ) → MayHaveKey content → (opening : ContentKind) × OpensAs content opening
opening_with_key content may =
    elim (cases_Bool (begins_key (fields_at content 0))) [
      | inl key ↦ opening_by_version content may key (version_of (fields_at content 0)) refl
      | inr other ↦ (no_key_file, record { may = may; other = other })
    ]

pub some_opening : (content : List ℕ) → (opening : ContentKind) × OpensAs content opening
some_opening content =
    elim (cases_lt (length content) 257) [
      | inl short ↦ (no_key, inl short)
      | inr long ↦ elim (open_or_closed content 0 (omega (arith, long))) [
        | inl opened ↦ opening_with_key content (record { at_least_257 = long; opened = opened })
        | inr closed ↦ (no_key, inr closed)
      ]
    ]

-- ---- and one thing only

no_key_may : (content : List ℕ) → HasNoKey content → MayHaveKey content → ⊥
no_key_may content (inl short) may = omega (arith, short, may.at_least_257)
no_key_may content (inr closed) may = not_both content 0 may.opened closed

spelled-may : (content : List ℕ) (records : List Record) → SpellsRecords content records → MayHaveKey content
spelled-may content records is =
    let some = slice_get_within records 0 (KeyRecord is.first.0) is.first.1 in
    record { at_least_257 = omega (arith, some, closed-reaches content (length records) is.closed); opened = is.opened 0 some }

spelled-key : (content : List ℕ) (records : List Record) → SpellsRecords content records → (begins_key (fields_at content 0) ≡ true) × (version_of (fields_at content 0) ≡ Some (file_version records))
spelled-key content records is =
    let (begins, known, _) = key-begins (file_version records) is.first.0 (fields_at content 0) (is.holds 0 (KeyRecord is.first.0) is.first.1).spelled in (begins, known)

same_version : (content : List ℕ) (a b : Version) → version_of (fields_at content 0) ≡ Some a → version_of (fields_at content 0) ≡ Some b → a ≡ b
same_version content a b first second = same_Some a b (sym first ∙ second)

not_shorter : (content : List ℕ) (xs ys : List Record) → SpellsRecords content xs → SpellsRecords content ys → length xs < length ys → ⊥
not_shorter content xs ys first second shorter = not_both content (length xs) (second.opened (length xs) shorter) first.closed

one_length : (content : List ℕ) (xs ys : List Record) → SpellsRecords content xs → SpellsRecords content ys → length xs ≡ length ys
one_length content xs ys first second =
    elim (cases_order (length xs) (length ys)) [
      | inl same ↦ same
      | inr (inl shorter) ↦ absurd (not_shorter content xs ys first second shorter)
      | inr (inr longer) ↦ absurd (not_shorter content ys xs second first longer)
    ]

pub one_list : (content : List ℕ) (xs ys : List Record) → SpellsRecords content xs → SpellsRecords content ys → xs ≡ ys
one_list content xs ys first second =
    let count = one_length content xs ys first second in
    let version = same_version content (file_version xs) (file_version ys) (spelled-key content xs first).1 (spelled-key content ys second).1 in
    same_lists xs ys count (λ k d below.
    one_record_at (file_version ys) content k (get_or xs k d) (get_or ys k d)
    (subst (λ v. Holds v content k (get_or xs k d)) version (first.holds k (get_or xs k d) (slice_get-get_or xs k d below)))
    (second.holds k (get_or ys k d) (slice_get-get_or ys k d (omega (arith, below, count)))))

spelled-whole : (content : List ℕ) (records : List Record) (k : ℕ) → SpellsRecords content records → IsDamagedAt content k → ⊥
spelled-whole content records k is is_damaged =
    let version = same_version content (file_version records) is_damaged.version (spelled-key content records is).1 is_damaged.known in
    elim (cases_order k (length records)) [
      | inl same ↦ not_both content k is_damaged.opened (subst (IsClosed content) (sym same) is.closed)
      | inr (inl below) ↦ is_damaged.damaged (subst (λ v. IsWhole v content k) version (begins-whole (file_version records) content records k (spelled-begins content records is) below))
      | inr (inr above) ↦ not_both content (length records) (is_damaged.before (length records) above).opened is.closed
    ]

one_damaged : (content : List ℕ) (j k : ℕ) → IsDamagedAt content j → IsDamagedAt content k → j ≡ k
one_damaged content j k first second =
    let version = same_version content first.version second.version first.known second.known in
    elim (cases_order j k) [
      | inl same ↦ same
      | inr (inl below) ↦ absurd (first.damaged (subst (λ v. IsWhole v content j) (sym version) (second.before j below)))
      | inr (inr above) ↦ absurd (second.damaged (subst (λ v. IsWhole v content k) version (first.before k above)))
    ]

known_or_not : (found : Option Version) (version : Version) → found ≡ Some version → found ≡ None → ⊥
known_or_not found version known unknown = absurd (let clash = sym known ∙ unknown in cc)

pub one_opening : (content : List ℕ) (opening other : ContentKind) → OpensAs content opening → OpensAs content other → opening ≡ other
one_opening content (spelled xs) (spelled ys) a b = ap spelled (one_list content xs ys a b)
one_opening content (spelled xs) no_key a b = absurd (no_key_may content b (spelled-may content xs a))
one_opening content (spelled xs) no_key_file a b = absurd (true≢false (sym (spelled-key content xs a).0 ∙ b.other))
one_opening content (spelled xs) unknown_version a b = absurd (known_or_not _ (file_version xs) (spelled-key content xs a).1 b.other)
one_opening content (spelled xs) (damaged k) a b = absurd (spelled-whole content xs k a b)
one_opening content no_key (spelled ys) a b = absurd (no_key_may content a (spelled-may content ys b))
one_opening content no_key no_key a b = refl
one_opening content no_key no_key_file a b = absurd (no_key_may content a b.may)
one_opening content no_key unknown_version a b = absurd (no_key_may content a b.may)
one_opening content no_key (damaged k) a b = absurd (no_key_may content a b.may)
one_opening content no_key_file (spelled ys) a b = absurd (true≢false (sym (spelled-key content ys b).0 ∙ a.other))
one_opening content no_key_file no_key a b = absurd (no_key_may content b a.may)
one_opening content no_key_file no_key_file a b = refl
one_opening content no_key_file unknown_version a b = absurd (true≢false (sym b.key ∙ a.other))
one_opening content no_key_file (damaged k) a b = absurd (true≢false (sym b.key ∙ a.other))
one_opening content unknown_version (spelled ys) a b = absurd (known_or_not _ (file_version ys) (spelled-key content ys b).1 a.other)
one_opening content unknown_version no_key a b = absurd (no_key_may content b a.may)
one_opening content unknown_version no_key_file a b = absurd (true≢false (sym a.key ∙ b.other))
one_opening content unknown_version unknown_version a b = refl
one_opening content unknown_version (damaged k) a b = absurd (known_or_not _ b.version b.known a.other)
one_opening content (damaged j) (spelled ys) a b = absurd (spelled-whole content ys j b a)
one_opening content (damaged j) no_key a b = absurd (no_key_may content b a.may)
one_opening content (damaged j) no_key_file a b = absurd (true≢false (sym a.key ∙ b.other))
one_opening content (damaged j) unknown_version a b = absurd (known_or_not _ a.version a.known b.other)
one_opening content (damaged j) (damaged k) a b = ap damaged (one_damaged content j k a b)

pub standing : (records : List Record) (content : List ℕ) (opening : ContentKind) → StandsFor records content → OpensAs content opening → (opening ≡ no_key) ⊎ (opening ≡ spelled records)
standing [] content opening none opens = inl (one_opening content opening no_key opens none)
standing (entry ∷ entries) content opening spells opens = inr (one_opening content opening (spelled (entry ∷ entries)) opens spells)

no_key_or_spelled : (records : List Record) → no_key ≡ spelled records → ⊥
no_key_or_spelled records same = cc

pub no_key_cannot : (content : List ℕ) → HasNoKey content → CanSign content → ⊥
no_key_cannot content none can = no_key_or_spelled can.records (one_opening content no_key (spelled can.records) none can.spelled)
