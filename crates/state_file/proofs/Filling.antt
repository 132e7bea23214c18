-- Files written behind a first gate that stays closed.
use Rattle.std.proofs.Common.{◌≡◌, ◌⊎◌, inl, inr, ⊎_elim, ℕ, zero, suc, ◌+◌, ◌-◌, ◌<◌, ◌≤◌, List, [], ◌∷◌, ◌++◌, length, take, drop, get_or, slice_index, slice_range, refl, sym, ◌∙◌, ap, subst, arith, append_assoc, length-append, length-drop, take-append-drop, get_or-drop}
use Rattle.std.specs.Prelude.{Result, Ok, Err, OnOk}
use Rattle.state_file.specs.Disk.{IsSynced, Syncs, settled}
use Rattle.state_file.specs.inner.FileStore.{synced_left}
use Rattle.std.proofs.lemmas.List.{same_lists, get_or_default}
use Rattle.std.proofs.lemmas.List.Prefix.{front_from_reads, front_reads}
use Rattle.std.proofs.lemmas.Bool.{cases_eq}
use Rattle.state_file.specs.Disk.{AreWithin, ChangesOnly, DiskState, IsOutside, MayLeave, OpensRange, Range, WritesBytes, range_of}
use Rattle.state_file.specs.File.{HasNoKey, IsClosed, open_value}
use Rattle.state_file.specs.Filling.{first_offsets}
use Rattle.state_file.specs.inner.Filling.{IsUnfinished, after_first_gate, gate_opened}
use Rattle.state_file.specs.Gates.{IsClosedAfter}
use Rattle.state_file.proofs.Ranges.{changes_within, within_more}
use Rattle.state_file.proofs.SlotWrites.{Stages, split, join, stage_done}

-- ---- what a crash leaves

pub unfinished_leaves : (end : ℕ) (base : List ℕ) (state : DiskState) (c : List ℕ) → IsUnfinished end base state → MayLeave state c → ChangesOnly (after_first_gate end ∷ []) base c
unfinished_leaves end base state c unfinished left =
    subst (λ (b : List ℕ). ChangesOnly (after_first_gate end ∷ []) b c) unfinished.same_base
    (changes_within (after_first_gate end ∷ []) state.ranges state.base c unfinished.within left)

-- one write more after the first gate
opened_after : (end : ℕ) (base : List ℕ) (range : Range) (old new : DiskState) → 1 ≤ range.from → range.to ≤ end → OpensRange range old new
    → IsUnfinished end base old → IsUnfinished end base new
opened_after end base range old new after fits opens unfinished = record {
  same_base = opens.same_base ∙ unfinished.same_base;
  within = record {
    outside = λ offset aside. opens.no_more.outside offset (
      ⊎_elim (λ (low : offset < 1). inl (omega (arith, low, after))) (λ (high : end ≤ offset). inr (omega (arith, high, fits))) aside.0,
      unfinished.within.outside offset aside,
    );
    ends = λ len. omega (arith, fits, opens.no_more.ends len, unfinished.within.ends len);
  };
}

pub written_after : {A E : Type 0} (end : ℕ) (base : List ℕ) (at : ℕ) (bytes : List ℕ) (old new : DiskState) (result : Result A E) → 1 ≤ at → at + length bytes ≤ end
    → WritesBytes at bytes old new result → IsUnfinished end base old → IsUnfinished end base new
written_after end base at bytes old new (Ok a) after fits written unfinished = opened_after end base (range_of at bytes) old new after fits written.0 unfinished
written_after end base at bytes old new (Err fault) after fits (inl same) unfinished = subst (IsUnfinished end base) (sym same) unfinished
written_after end base at bytes old new (Err fault) after fits (inr opens) unfinished = opened_after end base (range_of at bytes) old new after fits opens unfinished

pub still_closed : (end : ℕ) (base c : List ℕ) → IsClosed base 0 → ChangesOnly (after_first_gate end ∷ []) base c → IsClosed c 0
still_closed end base c closed changes =
    let same : slice_index c 0 ≡ slice_index base 0 = changes.kept 0 closed.0 (inl (omega arith), tt) in
    (omega (arith, closed.0, changes.no_shorter), λ is_open. closed.1 (sym same ∙ is_open))

-- ---- the first gate is opened

gate_same : (content c : List ℕ) (bytes : List ℕ) → 0 < length content → length bytes ≡ 1 → ChangesOnly (range_of 0 bytes ∷ []) content c → c ≡ slice_index c 0 ∷ drop 1 content
gate_same content c bytes some one changes = same_lists c (slice_index c 0 ∷ drop 1 content) size each
  where
    size : length c ≡ length (slice_index c 0 ∷ drop 1 content)
    size = omega (arith, one, some, changes.no_shorter, changes.no_longer, length-drop 1 content)

    each : (k d : ℕ) → k < length c → get_or c k d ≡ get_or (slice_index c 0 ∷ drop 1 content) k d
    each zero d inside = get_or_default c 0 d 0 inside
    each (suc j) d inside =
        let below : suc j < length content = omega (arith, one, some, inside, changes.no_longer) in
        get_or_default c (suc j) d 0 inside ∙ changes.kept (suc j) below (inr (omega (arith, one)), tt) ∙ get_or_default content (suc j) 0 d below
        ∙ ap (λ n. get_or content n d) (let e : suc j ≡ 1 + j = omega arith in e) ∙ sym (get_or-drop 1 content j d)

-- what a crash leaves meanwhile
pub gate_leaves_all : (content c : List ℕ) (bytes : List ℕ) → 0 < length content → length bytes ≡ 1 → bytes ≡ open_value ∷ [] → ChangesOnly (range_of 0 bytes ∷ []) content c → HasNoKey c ⊎ (c ≡ gate_opened content)
gate_leaves_all content c bytes some one is changes = elim (cases_eq (slice_index c 0) open_value) [
  | inl is_open ↦ inr (gate_same content c bytes some one changes ∙ ap (λ n. n ∷ drop 1 content) is_open)
  | inr shut ↦ inl (inr (omega (arith, some, changes.no_shorter), shut))
]

first_of : (new bytes : List ℕ) (n : ℕ) → take 1 new ≡ n ∷ [] → slice_index new 0 ≡ n
first_of [] bytes n is = absurd cc
first_of (x ∷ rest) bytes n is = let same : x ≡ n = cc in same

pub gate_opens : (content new : List ℕ) (bytes : List ℕ) → 0 < length content → bytes ≡ open_value ∷ [] → ChangesOnly (range_of 0 bytes ∷ []) content new → slice_range new 0 (0 + length bytes) ≡ bytes → new ≡ gate_opened content
gate_opens content new bytes some is changes put =
    let one : length bytes ≡ 1 = ap length is in
    let width : 0 + length bytes - 0 ≡ 1 = omega (arith, one) in
    let reads : take 1 new ≡ open_value ∷ [] = ap (λ n. take n new) (sym width) ∙ put ∙ is in
    gate_same content new bytes some one changes ∙ ap (λ n. n ∷ drop 1 content) (first_of new bytes open_value reads)

-- ---- the sync before that

pub sync_ends : {A E : Type 0} (end : ℕ) (base : List ℕ) (old new : DiskState) (result : Result A E) → IsUnfinished end base old → MayLeave old old.content → Syncs old new result
    → OnOk result (IsSynced new × (new.content ≡ old.content) × ChangesOnly (after_first_gate end ∷ []) base old.content)
sync_ends end base old new (Ok a) unfinished shows synced =
    let same : new.content ≡ old.content = ap (λ (s : DiskState). s.content) synced in (
      synced ∙ ap settled (sym same),
      same,
      unfinished_leaves end base old old.content unfinished shows,
    )
sync_ends end base old new (Err fault) unfinished shows synced = tt

pub sync_leaves : {A E : Type 0} (end : ℕ) (base : List ℕ) (old new : DiskState) (c : List ℕ) (result : Result A E) → IsUnfinished end base old → MayLeave old old.content → Syncs old new result → MayLeave new c → ChangesOnly (after_first_gate end ∷ []) base c
sync_leaves end base old new c (Ok a) unfinished shows synced may =
    let is : c ≡ old.content = synced_left old.content c (subst (λ (s : DiskState). MayLeave s c) synced may) in
    subst (ChangesOnly (after_first_gate end ∷ []) base) (sym is) (unfinished_leaves end base old old.content unfinished shows)
sync_leaves end base old new c (Err fault) unfinished shows synced may =
    unfinished_leaves end base new c (record { same_base = synced.0 ∙ unfinished.same_base; within = subst (AreWithin (after_first_gate end ∷ [])) (sym synced.1) unfinished.within }) may

-- ---- slots

-- written bytes, and what follows them
put_parts : (new bytes : List ℕ) (at : ℕ) → slice_range new at (at + length bytes) ≡ bytes → drop at new ≡ bytes ++ drop (length bytes) (drop at new)
put_parts new bytes at put =
    let tail = drop at new in
    let width : at + length bytes - at ≡ length bytes = omega arith in
    sym (take-append-drop (length bytes) tail) ∙ ap (λ (l : List ℕ). l ++ drop (length bytes) tail) (ap (λ n. take n tail) (sym width) ∙ put)

over_gate : (front body content new bytes : List ℕ) (at : ℕ) → length front ≡ at → IsClosedAfter front content → bytes ≡ open_value ∷ (body ++ 0 ∷ []) → ChangesOnly (range_of at bytes ∷ []) content new → slice_range new at (at + length bytes) ≡ bytes
    → IsClosedAfter (front ++ open_value ∷ body) new
over_gate front body content new bytes at len holds is changes put =
    let parts = split front content holds in
    let long : length content ≡ length front + length (parts.gate ∷ parts.rest) = ap length parts.whole ∙ length-append front (parts.gate ∷ parts.rest) in
    let rest = drop (length bytes) (drop at new) in
    let kept : new ≡ front ++ drop (length front) new =
    front_from_reads 0 new front (omega (arith, long, changes.no_shorter)) (λ i inside.
    changes.kept i (omega (arith, long, inside)) (inl (omega (arith, len, inside)), tt) ∙ front_reads 0 content front (parts.gate ∷ parts.rest) parts.whole i inside) in
    join (front ++ open_value ∷ body) new (record {
      gate = 0;
      rest = rest;
      whole = kept ∙ ap (λ n. front ++ drop n new) len ∙ ap (λ (l : List ℕ). front ++ l) (put_parts new bytes at put ∙ ap (λ (l : List ℕ). l ++ rest) is ∙ ap (λ (l : List ℕ). open_value ∷ l) (append_assoc body (0 ∷ []) rest))
          ∙ sym (append_assoc front (open_value ∷ body) (0 ∷ rest));
      closed = omega arith;
    })

-- Slot 0 was written after its gate.
pub put_first : (body content new bytes : List ℕ) → IsClosed content 0 → bytes ≡ body ++ 0 ∷ [] → ChangesOnly (range_of 1 bytes ∷ []) content new → slice_range new 1 (1 + length bytes) ≡ bytes → IsClosedAfter (open_value ∷ body) (gate_opened new)
put_first body content new bytes closed is changes put =
    let staged : Stages [] body new = stage_done [] body 0 refl content new bytes (record { begins = refl; closed = closed }) is changes put in
    join (open_value ∷ body) (gate_opened new) (record { gate = 0; rest = staged.rest; whole = ap gate_opened staged.whole; closed = omega arith })

-- the same with the first gate open
opened_size : (content : List ℕ) → 0 < length content → length (gate_opened content) ≡ length content
opened_size content some = omega (arith, some, length-drop 1 content)

opened_changes : (content new bytes : List ℕ) (at : ℕ) → 0 < length content → 0 < at → ChangesOnly (range_of at bytes ∷ []) content new → ChangesOnly (range_of at bytes ∷ []) (gate_opened content) (gate_opened new)
opened_changes content new bytes at some after changes =
    let size = opened_size content some in
    let new_size = opened_size new (omega (arith, some, changes.no_shorter)) in record {
      kept = kept;
      no_shorter = omega (arith, size, new_size, changes.no_shorter);
      no_longer = omega (arith, size, new_size, changes.no_longer);
    }
  where
    kept : (offset : ℕ) → offset < length (gate_opened content) → IsOutside offset (range_of at bytes ∷ []) → slice_index (gate_opened new) offset ≡ slice_index (gate_opened content) offset
    kept zero inside outside = refl
    kept (suc j) inside outside =
        let e : 1 + j ≡ suc j = omega arith in
        get_or-drop 1 new j 0 ∙ ap (λ n. slice_index new n) e ∙ changes.kept (suc j) (omega (arith, inside, opened_size content some)) outside ∙ sym (ap (λ n. slice_index content n) e) ∙ sym (get_or-drop 1 content j 0)

opened_tail : (content : List ℕ) (at : ℕ) → 0 < at → 0 < length content → drop at (gate_opened content) ≡ drop at content
opened_tail [] at after some = absurd (omega (arith, some))
opened_tail (x ∷ rest) zero after some = absurd (omega (arith, after))
opened_tail (x ∷ rest) (suc n) after some = refl

-- A later slot was written over its closed gate.
pub put_next : (front body content new bytes : List ℕ) (at : ℕ) → 0 < at → length front ≡ at → IsClosedAfter front (gate_opened content) → 0 < length content → bytes ≡ open_value ∷ (body ++ 0 ∷ []) → ChangesOnly (range_of at bytes ∷ []) content new
    → slice_range new at (at + length bytes) ≡ bytes → IsClosedAfter (front ++ open_value ∷ body) (gate_opened new)
put_next front body content new bytes at after len holds some is changes put =
    let same : drop at (gate_opened new) ≡ drop at new = opened_tail new at after (omega (arith, some, changes.no_shorter)) in
    over_gate front body (gate_opened content) (gate_opened new) bytes at len holds is (opened_changes content new bytes at some after changes) (ap (λ (l : List ℕ). take (at + length bytes - at) l) same ∙ put)

-- ---- all changes

pub widened : (end : ℕ) (base c : List ℕ) → ChangesOnly (after_first_gate end ∷ []) base c → ChangesOnly (first_offsets end ∷ []) base c
widened end base c changes = record {
  kept = λ offset inside outside. changes.kept offset inside (⊎_elim (λ (low : offset < 0). inl (omega (arith, low))) (λ (high : end ≤ offset). inr high) outside.0, tt);
  no_shorter = changes.no_shorter;
  no_longer = changes.no_longer;
}

gate_widened : (end : ℕ) (base content c bytes : List ℕ) → 1 ≤ end → length bytes ≡ 1 → ChangesOnly (after_first_gate end ∷ []) base content → ChangesOnly (range_of 0 bytes ∷ []) content c → ChangesOnly (first_offsets end ∷ []) base c
gate_widened end base content c bytes some one first second = record {
  kept = λ offset inside outside.
      let high : end ≤ offset = ⊎_elim (λ (low : offset < 0). absurd (omega (arith, low))) (λ (above : end ≤ offset). above) outside.0 in
      second.kept offset (omega (arith, inside, first.no_shorter)) (inr (omega (arith, one, high, some)), tt) ∙ first.kept offset inside (inr high, tt);
  no_shorter = omega (arith, first.no_shorter, second.no_shorter);
  no_longer = omega (arith, one, some, first.no_longer, second.no_longer);
}

-- what a crash leaves before the first gate is opened
pub before_gate : (end : ℕ) (base content c : List ℕ) → IsClosed base 0 → ChangesOnly (after_first_gate end ∷ []) base c → (HasNoKey c ⊎ (c ≡ gate_opened content)) × ChangesOnly (first_offsets end ∷ []) base c
before_gate end base content c closed changes = (inl (inr (still_closed end base c closed changes)), widened end base c changes)

-- and meanwhile
pub at_gate : (end : ℕ) (base content mid c bytes : List ℕ) → IsClosed base 0 → 1 ≤ end → bytes ≡ open_value ∷ [] → mid ≡ content → ChangesOnly (after_first_gate end ∷ []) base content → ChangesOnly (range_of 0 bytes ∷ []) mid c
    → (HasNoKey c ⊎ (c ≡ gate_opened content)) × ChangesOnly (first_offsets end ∷ []) base c
at_gate end base content mid c bytes closed some is same first second =
    let one : length bytes ≡ 1 = ap length is in
    let changes = subst (λ (l : List ℕ). ChangesOnly (range_of 0 bytes ∷ []) l c) same second in (
      gate_leaves_all content c bytes (omega (arith, closed.0, first.no_shorter)) one is changes,
      gate_widened end base content c bytes some one first changes,
    )

-- and afterwards
pub gate_done : (end : ℕ) (base content : List ℕ) (mid new : List ℕ) (bytes : List ℕ) → IsClosed base 0 → bytes ≡ open_value ∷ [] → mid ≡ content → ChangesOnly (after_first_gate end ∷ []) base content → ChangesOnly (range_of 0 bytes ∷ []) mid new
    → slice_range new 0 (0 + length bytes) ≡ bytes → new ≡ gate_opened content
gate_done end base content mid new bytes closed is same first second put =
    gate_opens content new bytes (omega (arith, closed.0, first.no_shorter)) is (subst (λ (l : List ℕ). ChangesOnly (range_of 0 bytes ∷ []) l new) same second) put

-- ---- the beginning

pub synced_unfinished : (end : ℕ) (state : DiskState) → IsSynced state → IsUnfinished end state.content state
synced_unfinished end state synced = record {
  same_base = ap (λ (s : DiskState). s.base) synced;
  within = subst (AreWithin (after_first_gate end ∷ [])) (sym (ap (λ (s : DiskState). s.ranges) synced)) (within_more (after_first_gate end) []);
}
