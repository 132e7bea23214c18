-- What a crash leaves of a store in memory: what its list had been.
use Rattle.std.proofs.Common.{◌≡◌, ◌⊎◌, inl, inr, ⊎_elim, ℕ, List, [], ◌∷◌, ◌++◌, length, take, Result, Ok, Err, sym, ap, subst, ◌∙◌, arith, take_all}
use Rattle.std.specs.Prelude.{OnErr, OnOk}
use Rattle.std.proofs.lemmas.Bool.{cases_lt}
use Rattle.std.proofs.lemmas.List.{length_push, take-append-le}
use Rattle.state_file.specs.MemoryStore.{HadBeen, LeavesInMemory, records_of}
use Rattle.state_file.specs.inner.MemoryStore.{had_been_only}
use Rattle.state_file.specs.declared.record.Record.{Record}
use Rattle.state_file.specs.declared.store.memory_store.MemoryStore.{MemoryStore}

-- a list that grows by a record had been what it had been before
longer_had : (records after left : List Record) (entry : Record) (t : ℕ) → after ≡ records ++ entry ∷ [] → HadBeen records t left → HadBeen after t left
longer_had records after left entry t grown had =
    (had.0, had.1, omega (arith, had.2, ap length grown, length_push records entry), had.3 ∙ sym (ap (take had.0) grown ∙ take-append-le had.0 records (entry ∷ []) had.2))

-- and else only itself
shorter_had : (records after left : List Record) (entry : Record) (t : ℕ) → after ≡ records ++ entry ∷ [] → HadBeen after t left → HadBeen records t left ⊎ (left ≡ records ++ entry ∷ [])
shorter_had records after left entry t grown had =
    elim (cases_lt (length records) had.0) [
      | inl more ↦ inr (had.3 ∙ take_all had.0 after (omega (arith, more, ap length grown, length_push records entry)) ∙ grown)
      | inr within ↦ inl (had.0, had.1, within, had.3 ∙ ap (take had.0) grown ∙ take-append-le had.0 records (entry ∷ []) within)
    ]

abbrev pub EitherList : MemoryStore → Record → List Record → Type 0
EitherList old entry left = (left ≡ records_of old) ⊎ (left ≡ records_of old ++ entry ∷ [])

pub grown_leaves : (old new : MemoryStore) (entry : Record) → records_of new ≡ records_of old ++ entry ∷ [] → LeavesInMemory old new (EitherList old entry)
grown_leaves old new entry grown = record {
  later = omega (arith, ap length grown, length_push (records_of old) entry);
  each = λ left had. ⊎_elim (λ was. inl (had_been_only (records_of old) left was)) (λ is. inr is)
      (shorter_had (records_of old) (records_of new) left entry (length (records_of old)) grown had);
  before = λ t left early had. ⊎_elim (λ was. inl was) (λ is. inr (inr is)) (shorter_had (records_of old) (records_of new) left entry t grown had);
  keeps = λ t left early had. longer_had (records_of old) (records_of new) left entry t grown had;
}

pub stayed_leaves : (old new : MemoryStore) (entry : Record) → records_of new ≡ records_of old → LeavesInMemory old new (EitherList old entry)
stayed_leaves old new entry same = record {
  later = omega (arith, ap length same);
  each = λ left had. inl (had_been_only (records_of old) left (subst (λ l. HadBeen l (length (records_of old)) left) same had));
  before = λ t left early had. inl (subst (λ l. HadBeen l t left) same had);
  keeps = λ t left early had. subst (λ l. HadBeen l t left) (sym same) had;
}

-- whether the record was added or not
pub pushed_leaves : {A E : Type 0} (result : Result A E) (old new : MemoryStore) (entry : Record) → OnOk result (records_of new ≡ records_of old ++ entry ∷ []) → OnErr result (records_of new ≡ records_of old)
    → LeavesInMemory old new (EitherList old entry)
pushed_leaves (Ok _) old new entry grown same = grown_leaves old new entry grown
pushed_leaves (Err _) old new entry grown same = stayed_leaves old new entry same
