-- A store in memory: what callers see of it, and what an append does where a cut may come.
use Rattle.std.specs.Prelude.{Bool, ℕ, ◌<◌, List, Option, vec_len, vec_capacity, ◌≡◌, zero, suc, ◌+◌, [], ◌∷◌, ◌++◌}
use Rattle.std.specs.Prelude.{Some, None, Result, Ok, Err, ◌≤◌, length, take}
use Rattle.state_file.specs.declared.store.memory_store.Cut.{Cut}
use Rattle.state_file.specs.declared.store.memory_store.MemoryStore.{MemoryStore}
use Rattle.state_file.specs.declared.record.Record.{Record}
use Rattle.state_file.specs.Disk.{LeavesOnly}
use Rattle.state_file.specs.declared.store.memory_store.Cut.TheVariants.{Old, New}
use Rattle.state_file.specs.declared.store.StoreFault.{StoreFault}
use Rattle.state_file.specs.declared.store.StoreFault.TheVariants.{DeviceFailed, OutOfMemory}

abbrev pub records_of : MemoryStore → List Record
records_of store = store.records.items

-- its greatest number of records
abbrev pub limit_of : MemoryStore → ℕ
limit_of store = store.limit

-- the cut to come: appends before it, and what it leaves
abbrev pub cut_of : MemoryStore → Option (ℕ × Cut)
cut_of store = store.cut

-- whether a call has failed, so that no other is answered
abbrev pub is_stopped : MemoryStore → Bool
is_stopped store = store.stopped

abbrev pub failures_of : MemoryStore → ℕ
failures_of store = store.failures

abbrev pub refusals_of : MemoryStore → ℕ
refusals_of store = store.refusals

-- slots that load was asked for, the last one first
abbrev pub loads_of : MemoryStore → List ℕ
loads_of store = store.loads

-- records that load gave, the first one first
abbrev pub given_of : MemoryStore → List Record
given_of store = store.given

pub record KeepsRecords (old new : MemoryStore) : Type 0 where
  pub records : records_of new ≡ records_of old
  pub limit : limit_of new ≡ limit_of old
  pub refusals : refusals_of new ≡ refusals_of old

pub record KeepsLoads (old new : MemoryStore) : Type 0 where
  pub loads : loads_of new ≡ loads_of old
  pub given : given_of new ≡ given_of old

-- the memory that it has takes one more record
abbrev pub HasRoom : MemoryStore → Type 0
HasRoom store = vec_len store.records < vec_capacity store.records

-- the cut of the n-th append from now, as the number of appends before it; for 0 there is none
abbrev pub cut_of_append : ℕ → Cut → Option (ℕ × Cut)
cut_of_append zero cut = None
cut_of_append (suc before) cut = Some (before, cut)

-- the records after a cut append: the old ones, or these and the new one
abbrev pub cut_records : Cut → List Record → Record → List Record
cut_records Old old entry = old
cut_records New old entry = old ++ entry ∷ []

-- The cut after an append. A stored record brings it one append nearer. The cut append answers 45, leaves what the cut
-- says, and uses it up. Any other answer leaves it as it is. A cut that leaves the old records needs no memory.
abbrev pub Cuts : {A : Type 0} (old_cut : Option (ℕ
    × Cut)) (old : List Record) (entry : Record) (new : List Record) (new_cut : Option (ℕ × Cut))
    → Result A StoreFault → Type 0
Cuts None old entry new new_cut (Ok _) = new_cut ≡ None
Cuts (Some (before, cut)) old entry new new_cut (Ok _) = (next : ℕ) × (before ≡ next + 1) × (new_cut ≡ Some (next, cut))
Cuts None old entry new new_cut (Err DeviceFailed) = ⊥
Cuts (Some (before, cut)) old entry new new_cut (Err DeviceFailed) = (before ≡ 0) × (new ≡ cut_records cut old entry)
    × (new_cut ≡ None)
Cuts (Some (zero, Old)) old entry new new_cut (Err OutOfMemory) = ⊥
Cuts old_cut old entry new new_cut (Err _) = new_cut ≡ old_cut

-- ---- its moments: the list only grows, so each earlier one is a beginning of it

-- it was the list at some moment since there were t records
abbrev pub HadBeen : List Record → ℕ → List Record → Type 0
HadBeen records t left = (k : ℕ) × (t ≤ k) × (k ≤ length records) × (left ≡ take k records)

-- What a crash leaves at any moment from the old store on is a list that has P.
abbrev pub LeavesInMemory : (old new : MemoryStore) (P : List Record → Type 0) → Type 0
LeavesInMemory old new P =
    LeavesOnly (λ store. length (records_of store)) (λ store. HadBeen (records_of store)) old new P
