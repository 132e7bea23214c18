-- What a migration carries over, record by record.
use Rattle.std.proofs.Common.{◌≡◌, ℕ, suc, ◌+◌, ◌-◌, ◌<◌, Bool, true, false, List, [], ◌∷◌, ◌++◌, length, take, slice_get, Some, refl, sym, ◌∙◌, ap, subst, arith, add-one, length-take-le}
use Rattle.std.specs.Prelude.{if◌then◌else◌, map, IsTrue, Option, None, Ok}
use Rattle.std.specs.Option.{option_map}
use Rattle.std.proofs.lemmas.List.{get_or-take, length-map, take_more}
use Rattle.std.proofs.lemmas.Option.{slice_get-get_or, slice_get-map, slice_get_within, get_or_from_slice_get}
use Rattle.state_file.specs.Carried.{carried, in_version, unmoved}
use Rattle.state_file.specs.Laws.{has_moved}
use Rattle.state_file.specs.Slot.{file_version}
use Rattle.state_file.specs.inner.Filling.{LoadsCarried}
use Rattle.state_file.specs.Store.{IsRecordAt, Loads, begins_with_key}
use Rattle.state_file.specs.declared.record.Key.{Key}
use Rattle.state_file.specs.declared.record.Record.{Record}
use Rattle.state_file.specs.declared.record.Record.TheVariants.{Key as KeyRecord, Extend as ExtendRecord, Bound as BoundRecord, Retire, Moved}
use Rattle.state_file.specs.declared.record.Version.TheVariants.{Two}

unmoved_is : (records : List Record) → has_moved records ≡ true → unmoved records ≡ take (length records - 1) records
unmoved_is records moved = ap (λ (is : Bool). if is then take (length records - 1) records else records) moved

carried_is : (records : List Record) → has_moved records ≡ true → carried records ≡ map (in_version Two) (take (length records - 1) records)
unfolding carried
carried_is records moved = ap (λ (l : List Record). map (in_version Two) l) (unmoved_is records moved)

pub carried_length : (records : List Record) → has_moved records ≡ true → length (carried records) ≡ length records - 1
carried_length records moved =
    ap length (carried_is records moved) ∙ length-map (take (length records - 1) records) (in_version Two) ∙ length-take-le (length records - 1) records (omega arith)

front_at : (n : ℕ) (records : List Record) (k : ℕ) (entry : Record) → n < length records → k < n → slice_get records k ≡ Some entry → slice_get (take n records) k ≡ Some entry
front_at n records k entry below before is =
    slice_get-get_or (take n records) k entry (omega (arith, before, length-take-le n records (omega (arith, below))))
    ∙ ap Some (get_or-take n records k entry before ∙ get_or_from_slice_get records k entry entry is)

pub carried_at : (records : List Record) (k : ℕ) (entry : Record) → has_moved records ≡ true → k + 1 < length records → slice_get records k ≡ Some entry → slice_get (carried records) k ≡ Some (in_version Two entry)
carried_at records k entry moved below is =
    ap (λ (l : List Record). slice_get l k) (carried_is records moved) ∙ slice_get-map (in_version Two) (take (length records - 1) records) k
    ∙ ap (option_map (in_version Two)) (front_at (length records - 1) records k entry (omega (arith, below)) (omega (arith, below)) is)

pub carried_record_at : (honest : Bool) (records : List Record) (k : ℕ) (entry : Record) → has_moved records ≡ true → k + 1 < length records → IsRecordAt honest records k entry → IsRecordAt honest (carried records) k (in_version Two entry)
carried_record_at true records k entry moved below is = carried_at records k entry moved below is
carried_record_at false records k entry moved below is = tt

-- ---- it begins with a Key of version 2

pub record IsCarriedList (list : List Record) : Type 0 where
  pub key : Key
  pub rest : List Record
  pub is : list ≡ KeyRecord key ∷ rest
  pub two : key.version ≡ Two

pub carried_list : (records : List Record) → has_moved records ≡ true → begins_with_key records ≡ true → IsCarriedList (carried records)
carried_list [] moved keyed = absurd (let is : false ≡ true = moved in cc)
carried_list (KeyRecord key ∷ []) moved keyed = absurd (let is : false ≡ true = moved in cc)
carried_list (KeyRecord key ∷ (second ∷ more)) moved keyed =
    let all = KeyRecord key ∷ (second ∷ more) in
    let size : length all - 1 ≡ suc (length more) = omega arith in
    record {
      key = record { version = Two; secret = key.secret; root = key.root };
      rest = map (in_version Two) (take (length more) (second ∷ more));
      is = carried_is all moved ∙ ap (λ n. map (in_version Two) (take n all)) size;
      two = refl;
    }
carried_list (ExtendRecord extend ∷ more) moved keyed = absurd (let is : false ≡ true = keyed in cc)
carried_list (BoundRecord bound ∷ more) moved keyed = absurd (let is : false ≡ true = keyed in cc)
carried_list (Retire upto ∷ more) moved keyed = absurd (let is : false ≡ true = keyed in cc)
carried_list (Moved ∷ more) moved keyed = absurd (let is : false ≡ true = keyed in cc)

front_begins : (list : List Record) (n : ℕ) → IsCarriedList list → (file_version (take (suc n) list) ≡ Two) × (begins_with_key (take (suc n) list) ≡ true)
front_begins list n carries = subst (λ (l : List Record). (file_version (take (suc n) l) ≡ Two) × (begins_with_key (take (suc n) l) ≡ true)) (sym carries.is) (carries.two, refl)

pub front_more : (list : List Record) (k : ℕ) (entry : Record) → slice_get list k ≡ Some entry → take (k + 1) list ≡ take k list ++ entry ∷ []
front_more list k entry is = take_more list k entry (slice_get_within list k entry is) ∙ ap (λ (e : Record). take k list ++ e ∷ []) (get_or_from_slice_get list k entry entry is)

pub front_version : (list : List Record) (k : ℕ) (entry : Record) → IsCarriedList list → slice_get list k ≡ Some entry → file_version (take k list ++ entry ∷ []) ≡ Two
front_version list k entry carries is =
    ap file_version (sym (front_more list k entry is) ∙ ap (λ n. take n list) (add-one k)) ∙ (front_begins list k carries).0

pub front_keyed : (list : List Record) (k : ℕ) (entry : Record) → IsCarriedList list → slice_get list k ≡ Some entry → begins_with_key (take k list ++ entry ∷ []) ≡ true
front_keyed list k entry carries is =
    ap begins_with_key (sym (front_more list k entry is) ∙ ap (λ n. take n list) (add-one k)) ∙ (front_begins list k carries).1

-- ---- loading the records

pub loads_carried : (honest : Bool) (records : List Record) (old_stopped : Bool) (k : ℕ) (new_stopped : Bool) (before after : ℕ) (found : Option Record) (entry result : Record) → has_moved records ≡ true → k + 1 < length records → found ≡ Some entry
    → result ≡ in_version Two entry → Loads honest records old_stopped k new_stopped before after (Ok found) → LoadsCarried honest records k new_stopped before after (Ok result)
loads_carried honest records old_stopped k new_stopped before after (Some one) entry result moved within is carries loads =
    let same : one ≡ entry = cc in
    let value : in_version Two one ≡ result = ap (in_version Two) same ∙ sym carries in (
      subst (λ (e : Record). IsRecordAt honest (carried records) k e) value (carried_record_at honest records k one moved within loads.2),
      loads.3,
      loads.4,
    )
loads_carried honest records old_stopped k new_stopped before after None entry result moved within is carries loads = absurd cc

pub record_is : (honest : Bool) (records : List Record) (k : ℕ) (entry : Record) → IsTrue honest → IsRecordAt honest records k entry → slice_get records k ≡ Some entry
record_is true records k entry honest is = is
record_is false records k entry honest is = absurd cc
