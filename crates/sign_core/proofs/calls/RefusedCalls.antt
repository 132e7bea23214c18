-- What a refused call leaves as it was.
use Rattle.std.proofs.Common.{◌≡◌, ◌∙◌, ℕ, Bool, true, false, List, Option, Result, Ok, Err, refl, sym, ap, subst, arith, true≢false}
use Rattle.typecodes.specs.declared.message.Message as message
use Rattle.state_file.specs.declared.store.Store as store
use Rattle.state_file.specs.Disk.{Counts}
use Rattle.sign_core.specs.declared.fault.SignFault.{SignFault}
use Rattle.sign_core.specs.declared.fault.SignFault.TheVariants.{Changed, Damaged, DeviceFailed, Exhausted, Illegal, KeyThere, LedgerFull, MessageRead, Moved, NoKey}
use Rattle.sign_core.specs.declared.fault.SignFault.TheVariants.{NoMemoryToOpen, OutOfMemory, RandomFailed, RandomRepeated, RetireRange, LongName, Stopped, StoreFailed, Unreadable}
use Rattle.sign_core.specs.declared.source.Source as source
use Rattle.sign_core.specs.Signer.{KeepsAll, KeepsAtRefusal, LacksTree, View, is_before_caches, is_before_draws, is_before_repeat, is_fault, is_out_of_memory}
use Rattle.sign_core.specs.inner.Signing.{Does}
use Rattle.sign_core.specs.Signing.{answered_value}
use Rattle.sign_core.specs.World.{Outcome}

-- A 29 that the store counts isn't for a new tree's cache.
pub counted : {S R A : Type 0} (g : store.Ghosts S) (wanted : ℕ) (old new : View S R) (answer : Result A SignFault)
    → Counts is_out_of_memory (g.refusals old.store) (g.refusals new.store) answer → LacksTree g wanted old new answer
counted {A = A} g wanted old new answer counts is same =
    let more = subst (λ (a : Result A SignFault). Counts is_out_of_memory (g.refusals old.store) (g.refusals new.store) a) is counts in
    absurd (omega (arith, same, more))

-- What comes after draws comes after caches were made.
is_after : (e : SignFault) → is_before_draws e ≡ false → is_before_caches e ≡ false
is_after Exhausted not_before = absurd (true≢false not_before)
is_after Stopped not_before = absurd (true≢false not_before)
is_after LedgerFull not_before = absurd (true≢false not_before)
is_after Moved not_before = absurd (true≢false not_before)
is_after (Damaged k) not_before = refl
is_after (Unreadable k) not_before = refl
is_after (Illegal k) not_before = refl
is_after Changed not_before = refl
is_after RandomFailed not_before = refl
is_after StoreFailed not_before = refl
is_after OutOfMemory not_before = refl
is_after KeyThere not_before = refl
is_after RandomRepeated not_before = refl
is_after MessageRead not_before = refl
is_after RetireRange not_before = refl
is_after LongName not_before = absurd (true≢false not_before)
is_after NoKey not_before = refl
is_after DeviceFailed not_before = refl
is_after NoMemoryToOpen not_before = refl

pub after_caches : {A : Type 0} (answer : Result A SignFault) → is_fault is_before_draws answer ≡ false → is_fault is_before_caches answer ≡ false
after_caches (Ok value) not_before = refl
after_caches (Err e) not_before = is_after e not_before

-- What comes before the caches of a new name comes before a bound name's, too.
is_bound_early : (e : SignFault) → is_before_caches e ≡ true → is_before_repeat e ≡ true
is_bound_early Changed early = refl
is_bound_early MessageRead early = refl
is_bound_early Exhausted early = refl
is_bound_early Stopped early = refl
is_bound_early LedgerFull early = refl
is_bound_early Moved early = refl
is_bound_early (Damaged k) early = early
is_bound_early (Unreadable k) early = early
is_bound_early (Illegal k) early = early
is_bound_early RandomFailed early = early
is_bound_early StoreFailed early = early
is_bound_early OutOfMemory early = early
is_bound_early KeyThere early = early
is_bound_early RandomRepeated early = early
is_bound_early RetireRange early = early
is_bound_early LongName early = refl
is_bound_early NoKey early = early
is_bound_early DeviceFailed early = early
is_bound_early NoMemoryToOpen early = early

pub before_repeat : {A : Type 0} (answer : Result A SignFault) → is_fault is_before_caches answer ≡ true → is_fault is_before_repeat answer ≡ true
before_repeat (Ok value) early = early
before_repeat (Err e) early = is_bound_early e early

-- `answered_value` keeps the kind of a fault
pub same_kind : {A B : Type 0} (is_kind : SignFault → Bool) (answer : Result A SignFault) (value : B)
    → is_fault is_kind (answered_value answer value) ≡ is_fault is_kind answer
same_kind is_kind (Ok a) value = refl
same_kind is_kind (Err e) value = refl

-- No fault is both of a kind and not of it.
pub never_such : {A : Type 0} {X : Type 0} (is_kind : SignFault → Bool) (answer : Result A SignFault) (e : SignFault) → answer ≡ Err e → is_kind e ≡ false
    → is_fault is_kind answer ≡ true → X
never_such is_kind answer e is no_such such = absurd (true≢false (sym such ∙ ap (is_fault is_kind) is ∙ no_such))

-- A call that leaves all as it was, with any answer but 29 after draws.
pub keeps_at_all : {S R A : Type 0} (g : store.Ghosts S) (has_room : Bool) (wanted : ℕ) (old new : View S R) (answer : Result A SignFault) → KeepsAll old new
    → (is_fault is_before_caches answer ≡ true → new.cached ≡ old.cached) → (has_room ≡ true → answer ≡ Err OutOfMemory → ⊥) → KeepsAtRefusal g has_room wanted old new answer
keeps_at_all g has_room wanted old new answer keeps caches other = record {
  at_once = λ _. keeps;
  caches = caches;
  unprepared = λ _. keeps;
  lacks_tree = λ room is same. absurd (other room is);
  store = λ _ _. keeps.store;
}

pub same_view : {S R : Type 0} (v : View S R) → KeepsAll v v
same_view v = record { store = refl; random = refl; records = refl; is_open = refl }

pub keeps_after_draws : {S R M A : Type 0} (g : store.Ghosts S) (r : source.Ghosts R) (m : message.Ghosts M) (wanted : ℕ) (old new : View S R) (before after : M)
    (given : Option (List ℕ)) (outcome : Outcome A) (answer : Result A SignFault) → is_fault is_before_draws answer ≡ false
    → LacksTree g wanted old new answer → Does g r m old new before after given outcome answer → KeepsAtRefusal g true wanted old new answer
keeps_after_draws g r m wanted old new before after given outcome answer not_before lacks does = record {
  at_once = λ early. absurd (true≢false (sym early ∙ not_before));
  caches = λ early. absurd (true≢false (sym early ∙ after_caches answer not_before));
  unprepared = λ none. absurd (true≢false none);
  lacks_tree = λ room. lacks;
  store = does.stays;
}
