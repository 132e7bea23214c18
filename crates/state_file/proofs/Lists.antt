-- From the contents that a crash leaves of a disk to the lists that it leaves of a store.
use Rattle.std.proofs.Common.{◌≡◌, ◌⊎◌, inl, inr, ⊎_elim, ℕ, ◌+◌, ◌-◌, Bool, true, false, List, [], ◌∷◌, ◌++◌, length, Some, refl, sym, ap, ◌∙◌, subst, arith, slice_get}
use Rattle.std.proofs.lemmas.List.{length_push, get_or_push}
use Rattle.std.proofs.lemmas.Option.{slice_get-get_or}
use Rattle.state_file.specs.Disk.{LeavesOnly, ChangesOnly, Range, DiskState, MayLeave}
use Rattle.state_file.specs.File.{StandsFor, LeftLists, IsSyncedFile}
use Rattle.state_file.specs.inner.FileStore.{kept_leaves, stands_one}
use Rattle.state_file.specs.Laws.{has_moved, is_moved}
use Rattle.state_file.specs.Store.{IsRecordAt}
use Rattle.state_file.specs.declared.record.Record.{Record}
use Rattle.state_file.proofs.Moments.{weaker}
use Rattle.state_file.proofs.Ranges.{changes_nothing}
use Rattle.state_file.specs.inner.FileStore.{synced_left}
use Rattle.state_file.specs.DiskCalls.{OnlyReads}

-- a content that stands for one of two lists counts as no third one
pub one_of_two : (a b list : List Record) (content : List ℕ) → StandsFor a content ⊎ StandsFor b content
    → StandsFor list content ⊎ ((other : List Record) → StandsFor other content → ⊥) → (list ≡ a) ⊎ (list ≡ b)
one_of_two a b list content (inl stands) (inl one) = inl (stands_one list a content one stands)
one_of_two a b list content (inr stands) (inl one) = inr (stands_one list b content one stands)
one_of_two a b list content (inl stands) (inr none) = absurd (none a stands)
one_of_two a b list content (inr stands) (inr none) = absurd (none b stands)

module _ {S D : Type 0} (disk_of : S → D) (moment : D → ℕ) (left_since : D → ℕ → List ℕ → Type 0) where
  abbrev pub store_moment : S → ℕ
  store_moment store = moment (disk_of store)

  abbrev pub store_left : S → ℕ → List Record → Type 0
  store_left store = LeftLists (left_since (disk_of store))

  pub lists_leave : (old new : S) (a b : List Record) → LeavesOnly moment left_since (disk_of old) (disk_of new) (λ c. StandsFor a c ⊎ StandsFor b c) → LeavesOnly store_moment store_left old new (λ list. (list ≡ a) ⊎ (list ≡ b))
  lists_leave old new a b leaves = record {
    later = leaves.later;
    each = λ list left. one_of_two a b list left.0 (leaves.each left.0 left.1) left.2;
    before = λ t list early left. ⊎_elim (λ was. inl (left.0, was, left.2)) (λ now. inr (one_of_two a b list left.0 now left.2)) (leaves.before t left.0 early left.1);
    keeps = λ t list early left. (left.0, leaves.keeps t left.0 early left.1, left.2);
  }

  pub lists_stay : (old new : S) (a : List Record) → LeavesOnly moment left_since (disk_of old) (disk_of new) (StandsFor a) → LeavesOnly store_moment store_left old new (λ list. list ≡ a)
  lists_stay old new a leaves = record {
    later = leaves.later;
    each = λ list left. ⊎_elim (λ e. e) (λ e. e) (one_of_two a a list left.0 (inl (leaves.each left.0 left.1)) left.2);
    before = λ t list early left. ⊎_elim (λ was. inl (left.0, was, left.2)) (λ now. inr (⊎_elim (λ e. e) (λ e. e) (one_of_two a a list left.0 (inl now) left.2))) (leaves.before t left.0 early left.1);
    keeps = λ t list early left. (left.0, leaves.keeps t left.0 early left.1, left.2);
  }

pub reads_leave : {D : Type 0} (state : D → DiskState) (moment : D → ℕ) (left_since : D → ℕ → List ℕ → Type 0) (old new : D) (records : List Record) (tag : List ℕ) → IsSyncedFile records tag (state old)
    → OnlyReads state moment left_since old new → LeavesOnly moment left_since old new (StandsFor records)
reads_leave state moment left_since old new records tag kept reads =
    weaker moment left_since old new (MayLeave (state old)) (StandsFor records) (λ c left. kept_leaves records tag (state old) c kept left) reads.leaves

-- a crash changes nothing of a kept file
pub kept_alone : (records : List Record) (tag : List ℕ) (state : DiskState) (c : List ℕ) (ranges : List Range) → IsSyncedFile records tag state → MayLeave state c → ChangesOnly ranges state.content c
kept_alone records tag state c ranges kept left =
    let same : c ≡ state.content = synced_left state.content c (subst (λ (s : DiskState). MayLeave s c) kept.synced left) in
    subst (ChangesOnly ranges state.content) (sym same) (changes_nothing ranges state.content)

pub record_at : (honest : Bool) (list : List Record) (k : ℕ) (entry : Record) → (honest ≡ true → slice_get list k ≡ Some entry) → IsRecordAt honest list k entry
record_at true list k entry is = is refl
record_at false list k entry is = tt

-- the last record of a longer list is the pushed one
pub pushed_last : (records after : List Record) (entry : Record) → after ≡ records ++ entry ∷ [] → slice_get after (length after - 1) ≡ Some entry
pushed_last records after entry is =
    let count : length after ≡ length records + 1 = ap length is ∙ length_push records entry in
    let place : length after - 1 ≡ length records = omega (arith, count) in
    ap (λ n. slice_get after n) place ∙ ap (λ (l : List Record). slice_get l (length records)) is
    ∙ slice_get-get_or (records ++ entry ∷ []) (length records) entry (omega (arith, length_push records entry))
    ∙ ap Some (get_or_push records entry entry (length records) refl)

pub pushed_moved : (records after : List Record) (entry : Record) → after ≡ records ++ entry ∷ [] → is_moved (Some entry) ≡ has_moved after
pushed_moved records after entry is = sym (ap is_moved (pushed_last records after entry is))

pub not_honest : (honest : Bool) → (honest ≡ true → ⊥) → honest ≡ false
not_honest true never = absurd (never refl)
not_honest false never = refl
