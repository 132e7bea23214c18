-- What an append does to a signer, and to its store at any moment.
use Rattle.std.proofs.Common.{◌≡◌, ◌⊎◌, ℕ, ◌+◌, ◌<◌, ◌≤◌, Bool, true, false, List, [], ◌∷◌, ◌++◌, length, Some, Ok, Err, refl}
use Rattle.std.proofs.Common.{Result, sym, ap, ◌∙◌, subst, arith, ⊎_elim, inl, inr, IsTrue, true≢false, ltb-false}
use Rattle.std.specs.Prelude.{take}
use Rattle.std.proofs.Math.Seq.{take-length}
use Rattle.std.proofs.lemmas.List.{take_at}
use Rattle.std.proofs.lemmas.Option.{same_Some}
use Rattle.std.proofs.Common.{append-nil}
use Rattle.state_file.specs.declared.record.Record.{Record}
use Rattle.state_file.specs.declared.store.Store as store
use Rattle.state_file.specs.Disk.{LeavesOnly}
use Rattle.state_file.specs.Laws.{IsLegal}
use Rattle.state_file.specs.Store.{WhileRunning, CanFollow}
use Rattle.state_file.proofs.Moments.{weaker}
use Rattle.sign_core.specs.declared.fault.SignFault.{SignFault}
use Rattle.sign_core.specs.declared.fault.SignFault.TheVariants.{OutOfMemory, StoreFailed}
use Rattle.sign_core.specs.Cuts.{IsBeginning}
use Rattle.sign_core.specs.Caches.{Cached}
use Rattle.sign_core.specs.Signer.{IsSigner, view_of, IsTied, LeavesOld, UsesMemory, View}
use Rattle.sign_core.specs.inner.Signer.{Adds}
use Rattle.sign_core.proofs.calls.StoreFaults.{IsAppended, LeavesEither}
use Rattle.sign_core.specs.Records.{can_follow, the_key, is_long}
use Rattle.sign_core.specs.inner.Ledger.{Grows}
use Rattle.sign_core.specs.Ledger.{Table, TakesMemory}
use Rattle.sign_core.specs.Textbook.{AllHaveSizes, HasSizes, SecretHasSizes}
use Rattle.state_file.specs.Laws.{levels_of}
use Rattle.state_file.specs.declared.record.Key.{Key}
use Rattle.state_file.specs.declared.record.Record.TheVariants.{Key as KeyRecord, Extend as ExtendRecord, Bound as BoundRecord, Retire, Moved}
use Rattle.state_file.specs.declared.record.Secret.{Secret}
use Rattle.state_file.specs.declared.record.Secret.TheVariants.{Lms, Hss, Xmss}
use Rattle.sign_core.proofs.records.CanFollow.{key_stays}
use Rattle.sign_core.proofs.records.Legal.{grows as legal_grows}
use Rattle.sign_core.proofs.records.Sizes.{key_has_sizes}
use Rattle.sign_core.proofs.records.Unchanged.{old_or_new}
use Rattle.sign_core.specs.World.{acked, cut_old, cut_new, no_memory}
use Rattle.state_file.specs.Slot.{FitsVersion, file_version, name_most}
use Rattle.state_file.specs.declared.record.Bound.{Bound}

-- between two calls a crash leaves the store's list
abbrev pub LeavesItsList : {S : Type 0} → store.Ghosts S → S → Type 0
LeavesItsList g kept_in = (left : List Record)
    → WhileRunning (g.honest kept_in) (g.stopped kept_in) (g.left_since kept_in (g.moment kept_in) left → left ≡ g.list kept_in)

-- a crash in an append leaves a beginning of the records with the new one
beginning_left : (list records left : List Record) (entry : Record) (all : List Record) → list ≡ records → all ≡ records ++ entry ∷ []
    → (left ≡ list) ⊎ (left ≡ list ++ entry ∷ []) → IsBeginning (length records) all left
beginning_left list records left entry all same is (inl old) = record {
  count = length records;
  enough = omega arith;
  beginning = old ∙ same ∙ sym (ap (take (length records)) is ∙ take_at records (entry ∷ []) (length records) refl);
}
beginning_left list records left entry all same is (inr new) = record {
  count = length all;
  enough = omega (arith, ap length is, length_more records entry);
  beginning = new ∙ ap (λ l. l ++ entry ∷ []) same ∙ sym is ∙ sym (take-length all);
}
  where
    length_more : (records : List Record) (entry : Record) → length records ≤ length (records ++ entry ∷ [])
    length_more [] entry = omega arith
    length_more (first ∷ rest) entry = omega (arith, length_more rest entry)

-- a crash in a call that adds nothing leaves the old records
beginning_kept : (records more left all : List Record) → left ≡ records → all ≡ records ++ more → IsBeginning (length records) all left
beginning_kept records more left all is same = record {
  count = length records;
  enough = omega arith;
  beginning = is ∙ sym (ap (take (length records)) same ∙ take_at records more (length records) refl);
}

pub moments_kept : {S : Type 0} (g : store.Ghosts S) (old new : S) (records more all : List Record) → LeavesOld g old new
    → (IsTrue (g.honest old) → g.list old ≡ records) → all ≡ records ++ more
    → WhileRunning (g.honest old) (g.stopped old) (LeavesOnly g.moment g.left_since old new (IsBeginning (length records) all))
moments_kept g old new records more all leaves same is honest running =
    weaker g.moment g.left_since old new _ _ (λ left kept. beginning_kept records more left all (kept ∙ same honest) is) (leaves honest running)

pub moments_left : {S : Type 0} (g : store.Ghosts S) (old new : S) (entry : Record) (records all : List Record) → LeavesEither g old new entry
    → (IsTrue (g.honest old) → g.list old ≡ records) → all ≡ records ++ entry ∷ []
    → WhileRunning (g.honest old) (g.stopped old) (LeavesOnly g.moment g.left_since old new (IsBeginning (length records) all))
moments_left g old new entry records all either same is honest running =
    weaker g.moment g.left_since old new _ _ (λ left either_one. beginning_left (g.list old) records left entry all (same honest) is either_one) (either honest
    running)

pub length_one_more : (records : List Record) (entry : Record) → length (records ++ entry ∷ []) ≡ length records + 1
length_one_more [] entry = refl
length_one_more (first ∷ rest) entry = omega (arith, length_one_more rest entry)

pub adds_ok : {S R : Type 0} (g : store.Ghosts S) (old new : View S R) (entry : Record) → old.is_open ≡ true → IsTied g old.store old.records
    → IsAppended {A = Unit {0}} g old.store new.store entry (Ok tt) → new.records ≡ old.records ++ entry ∷ [] → new.is_open ≡ true
    → new.random ≡ old.random → UsesMemory old new → ((TakesMemory entry → ⊥) → new.spare ≡ old.spare) → Adds g old new entry (Ok tt)
adds_ok g old new entry was tied is records is_open random memory untaken = record {
  fate = acked;
  ends = record {
    answer_is = refl;
    records = records;
    is_open = is_open;
    store = record {
      list = record { more = entry ∷ []; list = is.stored.0; records = refl };
      moments = moments_left g old.store new.store entry old.records _ is.moments tied.same (append-nil _);
      failures = is.stored.2;
      honest = is.honest;
      most = is.most;
    };
    unreadable = is.unreadable;
    asked = is.asked;
  };
  random = random;
  refusals = is.refusals;
  memory = memory;
  untaken = untaken;
}

-- the append failed: the signer is closed
pub adds_failed : {S R : Type 0} (g : store.Ghosts S) (old new : View S R) (entry : Record) → IsTied g old.store old.records
    → IsAppended {A = Unit {0}} g old.store new.store entry (Err StoreFailed) → new.records ≡ old.records → new.is_open ≡ false
    → new.random ≡ old.random → UsesMemory old new → ((TakesMemory entry → ⊥) → new.spare ≡ old.spare) → Adds g old new entry (Err StoreFailed)
adds_failed g old new entry tied is records is_open random memory untaken =
    ⊎_elim
    (λ (same : g.list new.store ≡ g.list old.store). record {
      fate = cut_old;
      ends = record {
        answer_is = refl;
        records = records;
        is_open = is_open;
        store = record {
          list = record { more = []; list = same ∙ sym (append-nil _); records = sym (append-nil _) };
          moments = moments_left g old.store new.store entry old.records _ is.moments tied.same refl;
          failures = is.stored.2;
          honest = is.honest;
          most = is.most;
        };
        unreadable = is.unreadable;
        asked = is.asked;
      };
      random = random;
      refusals = is.refusals;
      memory = memory;
      untaken = untaken;
    })
    (λ (more : g.list new.store ≡ g.list old.store ++ entry ∷ []). record {
      fate = cut_new;
      ends = record {
        answer_is = refl;
        records = records;
        is_open = is_open;
        store = record {
          list = record { more = entry ∷ []; list = more; records = refl };
          moments = moments_left g old.store new.store entry old.records _ is.moments tied.same refl;
          failures = is.stored.2;
          honest = is.honest;
          most = is.most;
        };
        unreadable = is.unreadable;
        asked = is.asked;
      };
      random = random;
      refusals = is.refusals;
      memory = memory;
      untaken = untaken;
    })
    is.stored.0

-- memory was refused for it: the signer stays open
pub adds_refused : {S R : Type 0} (g : store.Ghosts S) (old new : View S R) (entry : Record) → old.is_open ≡ true → IsTied g old.store old.records
    → IsAppended {A = Unit {0}} g old.store new.store entry (Err OutOfMemory) → new.records ≡ old.records → new.is_open ≡ true
    → new.random ≡ old.random → UsesMemory old new → ((TakesMemory entry → ⊥) → new.spare ≡ old.spare) → Adds g old new entry (Err OutOfMemory)
adds_refused g old new entry was tied is records is_open random memory untaken = record {
  fate = no_memory;
  ends = record {
    answer_is = refl;
    records = records;
    is_open = is_open ∙ sym was;
    store = record {
      list = record { more = []; list = is.stored.0 ∙ sym (append-nil _); records = sym (append-nil _) };
      moments = moments_kept g old.store new.store old.records [] _ (is.refused refl) tied.same refl;
      failures = is.stored.2;
      honest = is.honest;
      most = is.most;
    };
    unreadable = is.unreadable;
    asked = is.asked;
  };
  random = random;
  refusals = is.refusals;
  memory = memory;
  untaken = untaken;
}

-- the same for a signer by its parts
pub adds_in_ok : {S R : Type 0} {caches : Cached} (g : store.Ghosts S) (old new : S) (random : R) (before after : Table) (is_open : Bool) (entry : Record) (v : View S R)
    → view_of old random before caches is_open ≡ v → IsSigner g (view_of old random before caches is_open) → v.is_open ≡ true
    → IsAppended {A = Unit {0}} g old new entry (Ok tt) → Grows entry before after → Adds g v (view_of new random after caches is_open) entry (Ok tt)
adds_in_ok {S = S} {R = R} {caches = caches} g old new random before after is_open entry v is signer opened appended grows =
    subst (λ (w : View S R). w.is_open ≡ true → Adds g w (view_of new random after caches is_open) entry (Ok tt)) is
    (λ was. adds_ok g (view_of old random before caches is_open) (view_of new random after caches is_open) entry was (signer.tied was) appended grows.records was refl
    (omega (arith, grows.spare, ap length grows.records, length_one_more before.records entry)) grows.untaken)
    opened

pub adds_in_failed : {S R : Type 0} {caches : Cached} (g : store.Ghosts S) (old new : S) (random : R) (before : Table) (is_open : Bool) (entry : Record) (v : View S R)
    → view_of old random before caches is_open ≡ v → IsSigner g (view_of old random before caches is_open) → v.is_open ≡ true
    → IsAppended {A = Unit {0}} g old new entry (Err StoreFailed) → Adds g v (view_of new random before caches false) entry (Err StoreFailed)
adds_in_failed {S = S} {R = R} {caches = caches} g old new random before is_open entry v is signer opened appended =
    subst (λ (w : View S R). w.is_open ≡ true → Adds g w (view_of new random before caches false) entry (Err StoreFailed)) is
    (λ was. adds_failed g (view_of old random before caches is_open) (view_of new random before caches false) entry (signer.tied was) appended refl refl refl (omega arith)
    (λ _. refl))
    opened

pub adds_in_refused : {S R : Type 0} {caches : Cached} (g : store.Ghosts S) (old new : S) (random : R) (before : Table) (is_open : Bool) (entry : Record) (v : View S R)
    → view_of old random before caches is_open ≡ v → IsSigner g (view_of old random before caches is_open) → v.is_open ≡ true
    → IsAppended {A = Unit {0}} g old new entry (Err OutOfMemory) → Adds g v (view_of new random before caches is_open) entry (Err OutOfMemory)
adds_in_refused {S = S} {R = R} {caches = caches} g old new random before is_open entry v is signer opened appended =
    subst (λ (w : View S R). w.is_open ≡ true → Adds g w (view_of new random before caches is_open) entry (Err OutOfMemory)) is
    (λ was. adds_refused g (view_of old random before caches is_open) (view_of new random before caches is_open) entry was (signer.tied was) appended refl was refl (omega
    arith) (λ _. refl))
    opened

-- ---- a signer that goes on

grown_sizes : (records : List Record) (entry : Record) → AllHaveSizes records → HasSizes entry → AllHaveSizes (records ++ entry ∷ [])
grown_sizes records entry sizes sized = λ k x at.
    elim (old_or_new records entry k x at) [ inl old ↦ sizes k x old | inr same ↦ subst HasSizes same sized ]

pub some_records : (records : List Record) (key : Key) → the_key records ≡ Some key → 0 < length records
some_records [] key is = absurd (cc)
some_records (first ∷ rest) key is = omega arith

pub signer_grown : {S R : Type 0} {caches : Cached} (g : store.Ghosts S) (old new : S) (random : R) (before after : Table) (is_open : Bool) (entry : Record) (v : View S R)
    → view_of old random before caches is_open ≡ v → IsSigner g (view_of old random before caches is_open) → the_key before.records ≡ Some before.key → v.is_open ≡ true
    → can_follow (the_key v.records) v.records entry ≡ true → HasSizes entry
    → IsAppended {A = Unit {0}} g old new entry (Ok tt) → Grows entry before after
    → IsSigner g (view_of new random after caches is_open) × (the_key after.records ≡ Some after.key)
signer_grown g old new random before after is_open entry v is signer keyed opened follows sized appended grows =
    let was : is_open ≡ true = ap (λ w. w.is_open) is ∙ opened in
    let can : can_follow (the_key before.records) before.records entry ≡ true = ap (λ w. can_follow (the_key w.records) w.records entry) is ∙ follows in
    let tied = signer.tied was in (
      record {
        legal = subst IsLegal (sym grows.records) (legal_grows before.records entry signer.legal can);
        sizes = subst AllHaveSizes (sym grows.records) (grown_sizes before.records entry signer.sizes sized);
        tied = λ _. record {
          running = appended.stored.1;
          same_length = ap length appended.stored.0 ∙ length_one_more _ entry ∙ ap (λ n. n + 1) tied.same_length ∙ sym (length_one_more _ entry)
              ∙ ap length (sym grows.records);
          same = λ honest. appended.stored.0 ∙ ap (λ l. l ++ entry ∷ []) (tied.same (subst IsTrue appended.honest honest)) ∙ sym grows.records;
        };
        shut = λ closed. absurd (true≢false (sym was ∙ closed));
      },
      ap the_key grows.records ∙ key_stays before.records (entry ∷ []) (some_records before.records before.key keyed) ∙ keyed ∙ ap Some (sym grows.key),
    )

-- ---- a bottom tree

pub levels_range : (records : List Record) (key : Key) (n : ℕ) → AllHaveSizes records → the_key records ≡ Some key → n ≡ levels_of key.secret → (1 ≤ n) × (n ≤ 8)
levels_range records key n sizes keyed is = by_secret key.secret (key_has_sizes records key sizes keyed) is
  where
    by_secret : (secret : Secret) → SecretHasSizes secret → n ≡ levels_of secret → (1 ≤ n) × (n ≤ 8)
    by_secret (Lms secret) sized is = (omega (arith, is), omega (arith, is))
    by_secret (Hss levels identifier seed) sized is = (omega (arith, is, sized.2.0), omega (arith, is, sized.2.1))
    by_secret (Xmss secret) sized is = (omega (arith, is), omega (arith, is))

-- ---- what an append requires

-- records that aren't empty can be followed by a record that their file can hold
follows_some : (records : List Record) (entry : Record) → 0 < length records → FitsVersion (file_version records) entry → CanFollow records entry
follows_some [] entry some fits = absurd (omega (arith, some))
follows_some (first ∷ rest) entry some fits = fits

-- and so can an honest store's list
pub follows_tied : {S : Type 0} (g : store.Ghosts S) (kept_in : S) (records : List Record) (entry : Record) (key : Key) → the_key records ≡ Some key
    → IsTied g kept_in records → FitsVersion (file_version records) entry → IsTrue (g.honest kept_in) → CanFollow (g.list kept_in) entry
follows_tied g kept_in records entry key keyed tied fits honest =
    subst (λ list. CanFollow list entry) (sym (tied.same honest)) (follows_some records entry (some_records records key keyed) fits)

pub follows_none : (list : List Record) (key : Key) → length list ≡ 0 → CanFollow list (KeyRecord key)
follows_none [] key none = refl
follows_none (first ∷ rest) key none = absurd (omega (arith, none))

pub version_of_key : (records : List Record) (key : Key) → the_key records ≡ Some key → file_version records ≡ key.version
version_of_key [] key is = absurd (cc)
version_of_key (KeyRecord own ∷ rest) key is = ap (λ (k : Key). k.version) (same_Some own key is)
version_of_key (ExtendRecord extend ∷ rest) key is = absurd (cc)
version_of_key (BoundRecord bound ∷ rest) key is = absurd (cc)
version_of_key (Retire upto ∷ rest) key is = absurd (cc)
version_of_key (Moved ∷ rest) key is = absurd (cc)

-- a name that isn't too long fits the records' version
pub name_fits : (records : List Record) (key : Key) (bound : Bound) → the_key records ≡ Some key → is_long key bound.name ≡ false
    → FitsVersion (file_version records) (BoundRecord bound)
name_fits records key bound keyed short =
    subst (λ v. length bound.name ≤ name_most v) (sym (version_of_key records key keyed)) (ltb-false (name_most key.version) (length bound.name) short)

-- the same answer
pub adds_by : {S R : Type 0} (g : store.Ghosts S) (old new : View S R) (entry : Record) (answer other : Result (Unit {0}) SignFault) → answer ≡ other
    → Adds g old new entry other → Adds g old new entry answer
adds_by g old new entry answer other same adds = subst (Adds g old new entry) (sym same) adds
