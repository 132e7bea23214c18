-- One write to a synced disk, and the sync after it: what a crash leaves meanwhile.
use Rattle.std.proofs.Common.{inl, inr, ℕ, List, [], ◌∷◌, sym, ◌∙◌, ap, subst}
use Rattle.std.specs.Prelude.{Result, Ok, Err}
use Rattle.state_file.specs.Disk.{AreWithin, ChangesOnly, DiskState, IsSynced, MayLeave, OpensRange, Range, Syncs, WritesBytes, range_of}
use Rattle.state_file.specs.inner.FileStore.{synced_left}
use Rattle.state_file.proofs.Ranges.{changes_within, within_more}

pub synced_leaves : (range : Range) (old : DiskState) (c : List ℕ) → IsSynced old → MayLeave old c → ChangesOnly (range ∷ []) old.content c
synced_leaves range old c synced may =
    changes_within (range ∷ []) [] old.content c (within_more range []) (subst (λ s. MayLeave s c) synced may)

opens_leaves : (range : Range) (old new : DiskState) (c : List ℕ) → IsSynced old → OpensRange range old new → MayLeave new c
    → ChangesOnly (range ∷ []) old.content c
opens_leaves range old new c synced opens may =
    subst (λ b. ChangesOnly (range ∷ []) b c) (opens.same_base ∙ ap (λ s. s.base) synced)
    (changes_within (range ∷ []) new.ranges new.base c
    (subst (λ ranges. AreWithin (range ∷ ranges) new.ranges) (ap (λ s. s.ranges) synced) opens.no_more) may)

pub written_leaves : {A E : Type 0} (at : ℕ) (bytes : List ℕ) (old new : DiskState) (result : Result A E) (c : List ℕ) → IsSynced old
    → WritesBytes at bytes old new result → MayLeave new c → ChangesOnly (range_of at bytes ∷ []) old.content c
written_leaves at bytes old new (Ok a) c synced written may = opens_leaves (range_of at bytes) old new c synced written.0 may
written_leaves at bytes old new (Err fault) c synced (inl same) may =
    synced_leaves (range_of at bytes) old c synced (subst (λ s. MayLeave s c) same may)
written_leaves at bytes old new (Err fault) c synced (inr opens) may = opens_leaves (range_of at bytes) old new c synced opens may

-- the sync after it
pub synced_then_leaves : {A E B F : Type 0} (at : ℕ) (bytes : List ℕ) (old middle new : DiskState) (first : Result A E) (result : Result B F)
    (c : List ℕ) → IsSynced old → WritesBytes at bytes old middle first → MayLeave middle middle.content → Syncs middle new result → MayLeave new c
    → ChangesOnly (range_of at bytes ∷ []) old.content c
synced_then_leaves at bytes old middle new first (Ok a) c synced written shows settles may =
    subst (ChangesOnly (range_of at bytes ∷ []) old.content) (sym (synced_left middle.content c (subst (λ s. MayLeave s c) settles may)))
    (written_leaves at bytes old middle first middle.content synced written shows)
synced_then_leaves at bytes old middle new first (Err fault) c synced written shows (base, ranges) may =
    written_leaves at bytes old middle first c synced written
    (subst (λ b. ChangesOnly middle.ranges b c) base (subst (λ r. ChangesOnly r new.base c) ranges may))
