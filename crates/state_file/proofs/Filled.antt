-- What a crash leaves in each step of filling a place.
use Rattle.std.proofs.Common.{◌≡◌, ◌⊎◌, inl, inr, ⊎_elim, ℕ, ◌+◌, ◌-◌, ◌<◌, ◌≤◌, Bool, List, [], ◌∷◌, sym, ◌∙◌, subst, arith}
use Rattle.std.specs.Prelude.{IsTrue, IfOk, Result, Ok, Err}
use Rattle.state_file.specs.Carried.{carried}
use Rattle.state_file.specs.Disk.{ChangesOnly}
use Rattle.state_file.specs.File.{HasNoKey, IsClosed, IsFileOf, SpellsRecords}
use Rattle.state_file.specs.inner.FileStore.{file_stands}
use Rattle.state_file.specs.Filling.{LeftByFill, first_offsets}
use Rattle.state_file.specs.inner.Filling.{after_first_gate, gate_opened}
use Rattle.state_file.specs.declared.record.Record.{Record}
use Rattle.state_file.specs.declared.record.Record.TheVariants.{Key as KeyRecord}
use Rattle.state_file.proofs.Carried.{IsCarriedList}
use Rattle.state_file.proofs.Filling.{still_closed, widened}

wider : (end : ℕ) (a c : List ℕ) → 1 ≤ end → ChangesOnly (first_offsets 1 ∷ []) a c → ChangesOnly (first_offsets end ∷ []) a c
wider end a c some changes = record {
  kept = λ offset inside outside. changes.kept offset inside (⊎_elim (λ (low : offset < 0). inl low) (λ (high : end ≤ offset). inr (omega (arith, high, some))) outside.0, tt);
  no_shorter = changes.no_shorter;
  no_longer = omega (arith, some, changes.no_longer);
}

both : (end : ℕ) (a b c : List ℕ) → 1 ≤ end → ChangesOnly (first_offsets 1 ∷ []) a b → ChangesOnly (first_offsets end ∷ []) b c → ChangesOnly (first_offsets end ∷ []) a c
both end a b c some first second = record {
  kept = λ offset inside outside.
      second.kept offset (omega (arith, inside, first.no_shorter)) outside
      ∙ first.kept offset inside (⊎_elim (λ (low : offset < 0). inl low) (λ (high : end ≤ offset). inr (omega (arith, high, some))) outside.0, tt);
  no_shorter = omega (arith, first.no_shorter, second.no_shorter);
  no_longer = omega (arith, some, first.no_longer, second.no_longer);
}

pub carried_spelled : (list : List Record) (content : List ℕ) → IsCarriedList list → IsFileOf list content → SpellsRecords content list
carried_spelled list content carries file =
    subst (λ (l : List Record). SpellsRecords content l) (sym carries.is) (file_stands (KeyRecord carries.key ∷ carries.rest) content (subst (λ (l : List Record). IsFileOf l content) carries.is file))

module _ (honest : Bool) (records : List Record) (end : ℕ) (some : 1 ≤ end) (first : List ℕ) where
  -- while the place is prepared
  pub left_prepared : (c : List ℕ) → HasNoKey c × ChangesOnly (first_offsets 1 ∷ []) first c → LeftByFill honest records end first c
  left_prepared c left = record { changes = wider end first c some left.1; kind = λ is. inl left.0 }

  -- while slots are written
  pub left_copied : (base c : List ℕ) → IsClosed base 0 → ChangesOnly (first_offsets 1 ∷ []) first base → ChangesOnly (after_first_gate end ∷ []) base c → LeftByFill honest records end first c
  left_copied base c closed before changes = record {
    changes = both end first base c some before (widened end base c changes);
    kind = λ is. inl (inr (still_closed end base c closed changes));
  }

  -- while the first gate is opened
  pub left_finished : (base content c : List ℕ) → ChangesOnly (first_offsets 1 ∷ []) first base → (IsTrue honest → SpellsRecords (gate_opened content) (carried records)) → (HasNoKey c ⊎ (c ≡ gate_opened content)) × ChangesOnly (first_offsets end ∷ []) base c
      → LeftByFill honest records end first c
  left_finished base content c before spelled left = record {
    changes = both end first base c some before left.1;
    kind = λ is. ⊎_elim (λ (none : HasNoKey c). inl none) (λ (same : c ≡ gate_opened content). inr (subst (λ (l : List ℕ). SpellsRecords l (carried records)) (sym same) (spelled is))) left.0;
  }

-- how many records are carried over
pub counted : {E : Type 0} (all some : ℕ) (result : Result ℕ E) → all - 1 ≡ some → IfOk result (λ n. n + 1 ≡ all) → IfOk result (λ n. n ≡ some)
counted all some (Ok n) same is = omega (arith, same, is)
counted all some (Err fault) same is = tt
