-- A content stands for one list of records alone, and a crash leaves a synced content as it is.
use Rattle.std.specs.Prelude.{List, ◌≡◌, ◌⊎◌, ℕ, ◌+◌, ◌*◌, ◌<◌, ◌≤◌, true, [], ◌∷◌, length, drop, slice_index, Some}
use Rattle.state_file.specs.declared.record.Record.{Record}
use Rattle.std.proofs.Common.{inl, inr, ⊎_elim, refl, sym, ◌∙◌, subst, arith, get_or, length-take-le, length-drop}
use Rattle.std.proofs.lemmas.Bool.{cases_order}
use Rattle.std.proofs.lemmas.List.{same_lists, get_or_default}
use Rattle.std.proofs.lemmas.Option.{slice_get-get_or, slice_get_within, get_or_from_slice_get, same_Some}
use Rattle.typecodes.proofs.Spelling.{one_value}
use Rattle.typecodes.proofs.Steps.{ends-spelled}
use Rattle.state_file.specs.File.{HasNoKey, IsClosed, IsOpen, SpellsRecords, fields_at, open_value, StandsFor, IsFileOf}
use Rattle.state_file.specs.File.{IsSyncedFile}
use Rattle.state_file.specs.Disk.{DiskState, MayLeave, settled}
use Rattle.state_file.specs.Slot.{slot_record, file_version}
use Rattle.state_file.specs.Store.{is_key}
use Rattle.state_file.specs.inner.Shown.{spelled_version}
use Rattle.typecodes.specs.Layout.{Spells}
use Rattle.state_file.specs.declared.record.Key.{Key}
use Rattle.state_file.specs.declared.record.Record.TheVariants.{Key as KeyRecord, Extend, Bound, Retire, Moved}

pub fields_length : (content : List ℕ) (k : ℕ) → 256 * (k + 1) ≤ length content → length (fields_at content k) ≡ 223
fields_length content k fits =
    length-take-le 223 (drop (256 * k + 1) content) (omega (arith, length-drop (256 * k + 1) content))

pub open_byte : (content : List ℕ) (k : ℕ) → IsOpen content k → slice_index content (256 * k) ≡ open_value
open_byte content k is_open = get_or_from_slice_get content (256 * k) open_value 0 is_open

the_key : (entry : Record) → is_key entry ≡ true → (key : Key) × (Some entry ≡ Some (KeyRecord key))
the_key (KeyRecord key) is = (key, refl)
the_key (Extend extend) is = absurd cc
the_key (Bound bound) is = absurd cc
the_key (Retire upto) is = absurd cc
the_key Moved is = absurd cc

pub file_stands : (records : List Record) (content : List ℕ) → IsFileOf records content → StandsFor records content
file_stands [] content file = inr file.closed
file_stands (entry ∷ entries) content file = record {
  within_limit = file.within_limit;
  opened = file.opened;
  closed = file.closed;
  first = the_key entry file.first;
  holds = λ k one is.
      let below : k < length (entry ∷ entries) = slice_get_within (entry ∷ entries) k one is in
      record {
        spelled =
            ends-spelled (slot_record (file_version (entry ∷ entries))) (fields_at content k) one 223
            (file.spelled k one is) (fields_length content k (omega (arith, file.closed.0)));
        tagged = file.tagged k below;
      };
}

pub kept_stands : (records : List Record) (tag : List ℕ) (state : DiskState) → IsSyncedFile records tag state
    → StandsFor records state.content
kept_stands records tag state kept = file_stands records state.content kept.file

pub not_both : (content : List ℕ) (k : ℕ) → IsOpen content k → IsClosed content k → ⊥
not_both content k is_open shut = shut.1 (open_byte content k is_open)

spells_version : (a b : List Record) (content : List ℕ) → SpellsRecords content a → SpellsRecords content b
    → file_version a ≡ file_version b
spells_version a b content first second =
    same_Some (file_version a) (file_version b)
    (sym (spelled_version a content first) ∙ spelled_version b content second)

spells_one : (a b : List Record) (content : List ℕ) → SpellsRecords content a → SpellsRecords content b → a ≡ b
spells_one a b content first second =
    let version : file_version a ≡ file_version b = spells_version a b content first second in
    let len : length a ≡ length b = elim (cases_order (length a) (length b)) [
      | inl same ↦ same
      | inr (inl below) ↦ absurd (not_both content (length a) (second.opened (length a) below) first.closed)
      | inr (inr above) ↦ absurd (not_both content (length b) (first.opened (length b) above) second.closed)
    ] in
    same_lists a b len (λ k d below.
    let in_a = first.holds k (get_or a k d) (slice_get-get_or a k d below) in
    let in_b = second.holds k (get_or b k d) (slice_get-get_or b k d (omega arith)) in
    one_value (slot_record (file_version b)) (get_or a k d) (get_or b k d) (fields_at content k)
    (subst (λ v. Spells (slot_record v) (get_or a k d) (fields_at content k)) version in_a.spelled) in_b.spelled)

no_key_spells : (content : List ℕ) (entry : Record) (entries : List Record) → HasNoKey content
    → SpellsRecords content (entry ∷ entries) → ⊥
no_key_spells content entry entries none spells =
    let long : 256 * length (entry ∷ entries) < length content = spells.closed.0 in
    ⊎_elim
    (λ (short : length content < 257). absurd (omega (arith, long)))
    (λ shut. not_both content 0 (spells.opened 0 (omega arith)) shut)
    none

pub stands_one : (a b : List Record) (content : List ℕ) → StandsFor a content → StandsFor b content → a ≡ b
stands_one [] [] content first second = refl
stands_one [] (b ∷ bs) content first second = absurd (no_key_spells content b bs first second)
stands_one (a ∷ rest) [] content first second = absurd (no_key_spells content a rest second first)
stands_one (a ∷ rest) (b ∷ bs) content first second = spells_one (a ∷ rest) (b ∷ bs) content first second

pub synced_left : (content c : List ℕ) → MayLeave (settled content) c → c ≡ content
synced_left content c changes =
    same_lists c content (omega (arith, changes.no_shorter, changes.no_longer)) (λ k d inside.
    get_or_default c k d 0 inside ∙ changes.kept k (omega (arith, changes.no_shorter, changes.no_longer)) tt
    ∙ get_or_default content k 0 d (omega (arith, changes.no_shorter, changes.no_longer)))

pub kept_leaves : (records : List Record) (tag : List ℕ) (state : DiskState) (c : List ℕ)
    → IsSyncedFile records tag state → MayLeave state c → StandsFor records c
kept_leaves records tag state c kept left =
    let same : c ≡ state.content =
    synced_left state.content c (subst (λ (s : DiskState). MayLeave s c) kept.synced left) in
    file_stands records c (subst (IsFileOf records) (sym same) kept.file)

pub kept_list : (records list : List Record) (tag : List ℕ) (state : DiskState) (c : List ℕ)
    → IsSyncedFile records tag state → MayLeave state c → StandsFor list c
    ⊎ ((other : List Record) → StandsFor other c → ⊥) → list ≡ records
kept_list records list tag state c kept left either =
    let stands = kept_leaves records tag state c kept left in
    ⊎_elim (λ one. stands_one list records c one stands) (λ none. absurd (none records stands)) either
