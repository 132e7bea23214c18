-- How a run of calls of a disk goes on.
use Rattle.std.proofs.Common.{inl, inr, ⊎_elim, ℕ, Result, Ok, Err, OnOk, arith}
use Rattle.state_file.specs.Disk.{Elapses, LeavesOnly}

module _ {D C : Type 0} (moment : D → ℕ) (left_since : D → ℕ → C → Type 0) where
  -- before the first call
  pub started : (old : D) (P : C → Type 0) → ((c : C) → left_since old (moment old) c → P c) → LeavesOnly moment left_since old old P
  started old P here = record { later = omega arith; each = here; before = λ t c early left. inl left; keeps = λ t c early left. left }

  -- one call more, after which a crash leaves what has P
  pub goes_on : (old mid new : D) (P may_leave : C → Type 0) → LeavesOnly moment left_since old mid P → Elapses (moment mid) (moment new) (left_since mid) (left_since new) may_leave
      → ((c : C) → may_leave c → P c) → LeavesOnly moment left_since old new P
  goes_on old mid new P may_leave so_far time here = record {
    later = omega (arith, so_far.later, time.later);
    each = λ c left. ⊎_elim (so_far.each c) (here c) (time.nothing_else (moment old) c so_far.later left);
    before = λ t c early left. ⊎_elim (so_far.before t c early) (λ now. inr (here c now)) (time.nothing_else t c (omega (arith, early, so_far.later)) left);
    keeps = λ t c early left. time.keeps t c (omega (arith, early, so_far.later)) (so_far.keeps t c early left);
  }

  pub weaker : (old new : D) (P Q : C → Type 0) → ((c : C) → P c → Q c) → LeavesOnly moment left_since old new P → LeavesOnly moment left_since old new Q
  weaker old new P Q implies leaves = record {
    later = leaves.later;
    each = λ c left. implies c (leaves.each c left);
    before = λ t c early left. ⊎_elim (λ was. inl was) (λ now. inr (implies c now)) (leaves.before t c early left);
    keeps = leaves.keeps;
  }

  -- two runs, one after the other
  pub combined : (old mid new : D) (P : C → Type 0) → LeavesOnly moment left_since old mid P → LeavesOnly moment left_since mid new P → LeavesOnly moment left_since old new P
  combined old mid new P first second = record {
    later = omega (arith, first.later, second.later);
    each = λ c left. ⊎_elim (first.each c) (λ now. now) (second.before (moment old) c first.later left);
    before = λ t c early left. ⊎_elim (first.before t c early) (λ now. inr now) (second.before t c (omega (arith, early, first.later)) left);
    keeps = λ t c early left. second.keeps t c (omega (arith, early, first.later)) (first.keeps t c early left);
  }

pub ok_along : {T E : Type 0} (result : Result T E) (A B : Type 0) → (A → B) → OnOk result A → OnOk result B
ok_along (Ok x) A B f a = f a
ok_along (Err e) A B f a = a
