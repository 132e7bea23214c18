-- Lists that end with a Moved, and places without a key.
use Rattle.std.proofs.Common.{◌≡◌, inl, inr, true, false, Bool, ℕ, ◌-◌, List, [], ◌∷◌, ◌++◌, length, Option, Some, None, refl, sym, ap, ◌∙◌, subst, slice_get}
use Rattle.std.specs.Prelude.{if◌then◌else◌}
use Rattle.state_file.proofs.Lists.{pushed_moved}
use Rattle.state_file.specs.Carried.{with_moved}
use Rattle.state_file.specs.Disk.{DiskState, MayLeave}
use Rattle.state_file.specs.File.{HasNoKey, SpellsRecords, StandsFor}
use Rattle.state_file.specs.inner.FileStore.{stands_one, synced_left}
use Rattle.state_file.specs.Laws.{CanSign, has_moved, is_moved}
use Rattle.state_file.specs.Place.{IsFreePlace}
use Rattle.state_file.specs.declared.record.Record.{Record}
use Rattle.state_file.specs.declared.record.Record.TheVariants.{Key as KeyRecord, Extend, Bound, Retire, Moved}

pub ends_moved : (records : List Record) → has_moved (with_moved records) ≡ true
ends_moved records = elim (has_moved records) as (λ (is : Bool). has_moved records ≡ is → has_moved (if is then records else records ++ Moved ∷ []) ≡ true) [
  | true ↦ λ is. is
  | false ↦ λ is. sym (pushed_moved records (records ++ Moved ∷ []) Moved refl)
] refl

the_moved : (found : Option Record) → is_moved found ≡ true → found ≡ Some Moved
the_moved (Some Moved) is = refl
the_moved (Some (KeyRecord key)) is = absurd cc
the_moved (Some (Extend extend)) is = absurd cc
the_moved (Some (Bound bound)) is = absurd cc
the_moved (Some (Retire upto)) is = absurd cc
the_moved None is = absurd cc

pub last_moved : (records : List Record) → has_moved records ≡ true → slice_get records (length records - 1) ≡ Some Moved
last_moved records is = the_moved (slice_get records (length records - 1)) is

spelled_stands : (records : List Record) (content : List ℕ) → SpellsRecords content records → StandsFor records content
spelled_stands [] content spelled = absurd (let is = spelled.first.1 in cc)
spelled_stands (entry ∷ entries) content spelled = spelled

pub moved_signs_nothing : (records : List Record) (content : List ℕ) → has_moved records ≡ true → StandsFor records content → CanSign content → ⊥
moved_signs_nothing records content moved stands can =
    let same : can.records ≡ records = stands_one can.records records content (spelled_stands can.records content can.spelled) stands in
    can.stays (last_moved can.records (ap has_moved same ∙ moved))

pub moved_spelled : (records : List Record) (content : List ℕ) → has_moved records ≡ true → StandsFor records content → SpellsRecords content records
moved_spelled [] content moved stands = absurd (let is : false ≡ true = moved in cc)
moved_spelled (entry ∷ entries) content moved stands = stands

pub free_leaves : (short : Bool) (state : DiskState) (c : List ℕ) → IsFreePlace short state → MayLeave state c → HasNoKey c
free_leaves short state c free left =
    let same : c ≡ state.content = synced_left state.content c (subst (λ (s : DiskState). MayLeave s c) free.synced left) in
    subst HasNoKey (sym same) (elim short as (λ (is : Bool). short ≡ is → HasNoKey state.content) [
      | true ↦ λ is. inl (free.size.0 is)
      | false ↦ λ is. inr (free.closed is)
    ] refl)
