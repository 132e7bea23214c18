-- Slots written one after the other behind a closed gate.
use Rattle.std.proofs.Common.{◌≡◌, ℕ, zero, suc, ◌+◌, ◌*◌, ◌<◌, ◌≤◌, List, [], ◌∷◌, ◌++◌, length, take, slice_get, Some, refl, sym, ◌∙◌, ap, subst, arith, length-take-le}
use Rattle.std.proofs.lemmas.List.{length_push, take_all}
use Rattle.std.proofs.lemmas.Option.{slice_get_within}
use Rattle.typecodes.specs.Layout.{Spells}
use Rattle.state_file.specs.File.{IsClosed, IsFileOf, first_tag, most_records, open_value, previous_tag, tag_of}
use Rattle.state_file.specs.inner.Filling.{IsCopied, gate_opened}
use Rattle.state_file.specs.Gates.{IsClosedAfter}
use Rattle.state_file.specs.Slot.{slot_record, file_version}
use Rattle.state_file.specs.declared.record.Record.{Record}
use Rattle.state_file.specs.declared.record.Version.TheVariants.{Two}
use Rattle.typecodes.specs.Cursor.{read}
use Rattle.std.specs.Prelude.{Ok}
use Rattle.state_file.proofs.Carried.{IsCarriedList, front_keyed, front_more, front_version}
use Rattle.state_file.proofs.Kept.{file_ends, file_grows, file_last, read_record}

none_file : (content : List ℕ) → IsClosed content 0 → IsFileOf [] content
none_file content closed = record {
  within_limit = omega arith;
  first = refl;
  opened = λ k below. absurd (omega (arith, below));
  closed = closed;
  spelled = λ k entry is. absurd cc;
  tagged = λ k below. absurd (omega (arith, below));
}

pub copied_none : (list : List Record) (k : ℕ) (tag content : List ℕ) → k ≡ 0 → tag ≡ first_tag → IsClosed content 0 → IsCopied list k tag content
copied_none list k tag content zero_is first closed = record { none = λ is. (closed, first); some = λ after. absurd (omega (arith, zero_is, after)) }

module _ (list : List Record) (carries : IsCarriedList list) (entry : Record) (content new fields tag next : List ℕ) (fields_len : length fields ≡ 223) (next_len : length next ≡ 32) (within_limit : length list ≤ most_records) (spelled : Spells (slot_record Two) entry fields)
    (tagged : next ≡ tag_of tag fields) where
  reads : (k : ℕ) → slice_get list k ≡ Some entry → read (slot_record (file_version (take k list ++ entry ∷ []))) fields 0 ≡ Ok (entry, 223)
  reads k is = ap (λ v. read (slot_record v) fields 0) (front_version list k entry carries is) ∙ read_record Two entry fields fields_len spelled

  pub copied_first : slice_get list 0 ≡ Some entry → IsCopied list 0 tag content → IsClosedAfter (open_value ∷ (fields ++ next)) (gate_opened new) → IsCopied list 1 next new
  copied_first is copied ends =
      let none = copied.none refl in
      let file : IsFileOf ([] ++ entry ∷ []) (gate_opened new) =
      file_grows [] content (gate_opened new) entry fields next fields_len next_len (none_file content none.0) ends (omega arith) (front_keyed list 0 entry carries is) (reads 0 is) (tagged ∙ ap (λ (l : List ℕ). tag_of l fields) none.1) in
      record {
        none = λ one. absurd (omega (arith, one));
        some = λ after. (
          subst (λ (l : List Record). IsFileOf l (gate_opened new)) (sym (front_more list 0 entry is)) file,
          sym (file_last [] content (gate_opened new) entry fields next fields_len next_len (none_file content none.0) ends),
        );
      }

  pub copied_next : (k : ℕ) → 0 < k → slice_get list k ≡ Some entry → IsCopied list k tag content
      → ((front : List ℕ) → length front ≡ 256 * k → IsClosedAfter front (gate_opened content) → IsClosedAfter (front ++ open_value ∷ (fields ++ next)) (gate_opened new)) → IsCopied list (k + 1) next new
  copied_next k after is copied writes =
      let some = copied.some after in
      let below : k < length list = slice_get_within list k entry is in
      let len : length (take k list) ≡ k = length-take-le k list (omega (arith, below)) in
      let front = take (256 * length (take k list)) (gate_opened content) in
      let front_len : length front ≡ 256 * k = length-take-le (256 * length (take k list)) (gate_opened content) (omega (arith, some.0.closed.0)) ∙ ap (λ n. 256 * n) len in
      let ends = writes front front_len (file_ends (take k list) (gate_opened content) some.0) in
      let last : next ≡ tag_of (previous_tag (gate_opened content) (length (take k list))) fields = tagged ∙ ap (λ (l : List ℕ). tag_of l fields) (some.1 ∙ sym (ap (λ n. previous_tag (gate_opened content) n) len)) in
      let file : IsFileOf (take k list ++ entry ∷ []) (gate_opened new) =
      file_grows (take k list) (gate_opened content) (gate_opened new) entry fields next fields_len next_len some.0 ends (omega (arith, len, below, within_limit)) (front_keyed list k entry carries is) (reads k is) last in
      let count : length (take k list ++ entry ∷ []) ≡ k + 1 = length_push (take k list) entry ∙ ap (λ n. n + 1) len in
      record {
        none = λ none. absurd (omega (arith, none));
        some = λ more. (
          subst (λ (l : List Record). IsFileOf l (gate_opened new)) (sym (front_more list k entry is)) file,
          sym (file_last (take k list) (gate_opened content) (gate_opened new) entry fields next fields_len next_len some.0 ends) ∙ ap (λ n. previous_tag (gate_opened new) n) count,
        );
      }

pub copied_more : (list : List Record) (entry : Record) (k more : ℕ) (content new fields tag next : List ℕ) → IsCarriedList list → length fields ≡ 223 → length next ≡ 32 → length list ≤ most_records → Spells (slot_record Two) entry fields → next ≡ tag_of tag fields
    → more ≡ k + 1 → slice_get list k ≡ Some entry → IsCopied list k tag content → (k ≡ 0 → IsClosed content 0 → IsClosedAfter (open_value ∷ (fields ++ next)) (gate_opened new))
    → ((front : List ℕ) → 0 < k → length front ≡ 256 * k → IsClosedAfter front (gate_opened content) → IsClosedAfter (front ++ open_value ∷ (fields ++ next)) (gate_opened new)) → IsCopied list more next new
copied_more list entry zero more content new fields tag next carries fields_len next_len within_limit spelled tagged one_more is copied first others =
    let same : 1 ≡ more = omega (arith, one_more) in
    subst (λ n. IsCopied list n next new) same (copied_first list carries entry content new fields tag next fields_len next_len within_limit spelled tagged is copied (first refl (copied.none refl).0))
copied_more list entry (suc j) more content new fields tag next carries fields_len next_len within_limit spelled tagged one_more is copied first others =
    subst (λ n. IsCopied list n next new) (sym one_more)
    (copied_next list carries entry content new fields tag next fields_len next_len within_limit spelled tagged (suc j) (omega arith) is copied (λ front len holds. others front (omega arith) len holds))

pub copied_all : (list : List Record) (k : ℕ) (tag content : List ℕ) → IsCarriedList list → k ≡ length list → IsCopied list k tag content → IsFileOf list (gate_opened content)
copied_all list k tag content carries all copied =
    let some : 0 < k = omega (arith, all, ap length carries.is) in
    subst (λ (l : List Record). IsFileOf l (gate_opened content)) (take_all k list (omega (arith, all))) (copied.some some).0
