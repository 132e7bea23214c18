-- The tags of a content's slots are its records'.
use Rattle.std.proofs.Common.{◌≡◌, ℕ, zero, suc, ◌+◌, ◌*◌, ◌<◌, List, [], ◌∷◌, ◌++◌, length, take, drop, refl, sym, ap₂, subst, ◌∙◌, arith}
use Rattle.std.proofs.lemmas.Option.{same_Some}
use Rattle.typecodes.specs.Layout.{AreBytes, Spells}
use Rattle.state_file.specs.declared.record.Record.{Record}
use Rattle.state_file.specs.File.{SpellsRecords, fields_at, previous_tag, tag_of}
use Rattle.std.specs.Prelude.{slice_get, Some}
use Rattle.state_file.specs.Slot.{slot_record, file_version}
use Rattle.state_file.proofs.OneWay.{one_way-slot_record}
use Rattle.sign_core.proofs.records.Lists.{slice_get_some, slice_get_stays}
use Rattle.key_audit.specs.Tags.{IsTagBefore, TagLaw}

bytes_take : (n : ℕ) (xs : List ℕ) → AreBytes xs → AreBytes (take n xs)
bytes_take zero xs are i = omega arith
bytes_take (suc n) [] are i = omega arith
bytes_take (suc n) (x ∷ xs) are zero = are 0
bytes_take (suc n) (x ∷ xs) are (suc i) = bytes_take n xs (λ j. are (suc j)) i

bytes_drop : (n : ℕ) (xs : List ℕ) → AreBytes xs → AreBytes (drop n xs)
bytes_drop zero xs are i = are i
bytes_drop (suc n) [] are i = omega arith
bytes_drop (suc n) (x ∷ xs) are i = bytes_drop n xs (λ j. are (suc j)) i

one_before : (records : List Record) (k : ℕ) (a b : List ℕ) → IsTagBefore records k a → IsTagBefore records k b → a ≡ b
one_before records zero a b first second = first ∙ sym second
one_before records (suc k) a b (entry, fields, previous, at, are, spelled, before, is) (other, others, earlier, other_at, others_are, others_spelled, before_too, other_is) =
    let same : entry ≡ other = same_Some entry other (sym at ∙ other_at) in
    let written : fields ≡ others = one_way-slot_record (file_version records) other fields others are others_are (subst (λ e. Spells (slot_record (file_version records)) e fields) same spelled) others_spelled in
    is ∙ ap₂ tag_of (one_before records k previous earlier before before_too) written ∙ sym other_is

tag_before : (content : List ℕ) (records : List Record) (k : ℕ) → AreBytes content → SpellsRecords content records → k < length records + 1
    → IsTagBefore records k (previous_tag content k)
tag_before content records zero are spells inside = refl
tag_before content records (suc k) are spells inside =
    let (entry, at) = slice_get_some records k (omega (arith, inside)) in
    let holds = spells.holds k entry at in (
      entry,
      fields_at content k,
      previous_tag content k,
      at,
      bytes_take 223 (drop (256 * k + 1) content) (bytes_drop (256 * k + 1) content are),
      holds.spelled,
      tag_before content records k are spells (omega (arith, inside)),
      holds.tagged,
    )

-- a longer list has the same version
spelled_on : (records more : List Record) (k : ℕ) (entry : Record) (fields : List ℕ) → slice_get records k ≡ Some entry → Spells (slot_record (file_version records)) entry fields
    → Spells (slot_record (file_version (records ++ more))) entry fields
spelled_on [] more k entry fields at spelled = absurd cc
spelled_on (first ∷ rest) more k entry fields at spelled = spelled

lasts_before : (records more : List Record) (k : ℕ) (tag : List ℕ) → IsTagBefore records k tag → IsTagBefore (records ++ more) k tag
lasts_before records more zero tag is = is
lasts_before records more (suc k) tag (entry, fields, previous, at, are, spelled, before, is) =
    (entry, fields, previous, slice_get_stays records more k entry at, are, spelled_on records more k entry fields at spelled, lasts_before records more k previous before, is)

pub tag_law : TagLaw
tag_law = record {
  one = λ records k a b first second. one_before records (suc k) a b first second;
  stands = λ content records k are spells inside. tag_before content records (suc k) are spells (omega (arith, inside));
  lasts = λ records more k tag is. lasts_before records more (suc k) tag is;
}
