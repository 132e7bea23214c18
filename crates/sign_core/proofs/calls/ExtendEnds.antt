-- Each end of an extend is one new tree, by some draw.
use Rattle.std.proofs.Common.{◌≡◌, ◌∙◌, ℕ, ◌+◌, ◌<◌, true, false, List, [], ◌∷◌, ◌++◌, length, take, Some, Result, Ok, Err, refl, sym, ap, subst, append-nil, arith, inl, inr}
use Rattle.std.specs.Prelude.{Bool, if◌then◌else◌}
use Rattle.std.specs.List.{concat}
use Rattle.std.proofs.Math.Seq.{take-length}
use Rattle.state_file.proofs.Moments.{started}
use Rattle.state_file.specs.Disk.{Counts}
use Rattle.state_file.specs.declared.record.Key.{Key}
use Rattle.state_file.specs.declared.record.Record.{Record}
use Rattle.state_file.specs.declared.store.Store as store
use Rattle.sign_core.specs.declared.fault.SignFault.{SignFault}
use Rattle.sign_core.specs.declared.fault.SignFault.TheVariants.{Changed, DeviceFailed, Exhausted, Illegal, KeyThere, LedgerFull, MessageRead, Moved}
use Rattle.sign_core.specs.declared.fault.SignFault.TheVariants.{NoKey, NoMemoryToOpen, OutOfMemory, RandomFailed, RandomRepeated, RetireRange, LongName}
use Rattle.sign_core.specs.declared.fault.SignFault.TheVariants.{Damaged, Stopped, StoreFailed, Unreadable}
use Rattle.sign_core.specs.declared.source.Source as source
use Rattle.sign_core.specs.Ledger.{Table}
use Rattle.sign_core.proofs.calls.AppendMoments.{LeavesItsList}
use Rattle.typecodes.specs.declared.secret.LmsSecret.{LmsSecret}
use Rattle.typecodes.specs.declared.types.LmsPair.{LmsPair}
use Rattle.sign_core.specs.Signing.{answered_value}
use Rattle.sign_core.specs.Source.{Provides}
use Rattle.sign_core.specs.Records.{has_identifier}
use Rattle.sign_core.specs.Cuts.{IsBeginning}
use Rattle.sign_core.specs.Caches.{Cached}
use Rattle.sign_core.specs.inner.Signer.{Adds, added}
use Rattle.sign_core.specs.Signer.{Ends, IsTied, View, caching, is_before_draws, is_fault, is_of_append, is_out_of_memory, is_random_failed}
use Rattle.sign_core.specs.Signer.{is_store_failed, state_of, view_of}
use Rattle.sign_core.specs.inner.Signing.{DrawsTree, Extends}
use Rattle.sign_core.specs.World.{Fate, Outcome, acked, answered, appended, cut_new, cut_old, drawing, no_memory}
use Rattle.sign_core.specs.inner.Cases.{extended}
use Rattle.sign_core.specs.World.{open_state, refused}
use Rattle.sign_core.specs.Textbook.{Trees, trees_of}
use Rattle.sign_core.proofs.calls.AddedRecords.{after_draw, counts_answered, ends_alike, comes_after_draws, is_tried, no_draw_fails, same_fault}
use Rattle.sign_core.proofs.steps.NewRecords.{drawing_twice, extends_by, next_extend, whole_draw}

all_left : (records left : List Record) → left ≡ records → IsBeginning (length records) (records ++ []) left
all_left records left is = record {
  count = length records;
  enough = omega arith;
  beginning = is ∙ sym (ap (take (length records)) (append-nil records) ∙ take-length records);
}

-- ---- draws that are refused

-- the source failed
draw_fails_by : (key : Key) (level : ℕ) (trees : Trees) (records : List Record) (fields : List (List ℕ)) → length fields < 3
    → ((first : List ℕ) (rest : List (List ℕ)) → fields ≡ first ∷ rest → has_identifier records first ≡ false) → (next : List Record → Outcome (List ℕ))
    → extended (open_state records) key level (Some trees) (record { fields = fields; fate = acked }) next
    ≡ drawing (concat fields) (refused (open_state records) RandomFailed)
draw_fails_by key level trees records [] within_limit fresh next = refl
draw_fails_by key level trees records (identifier ∷ []) within_limit fresh next =
    ap (λ b. drawing identifier (if b then refused (open_state records) RandomRepeated else drawing [] (refused (open_state records) RandomFailed)))
    (fresh identifier [] refl)
    ∙ drawing_twice identifier [] (refused (open_state records) RandomFailed)
draw_fails_by key level trees records (identifier ∷ seed ∷ []) within_limit fresh next =
    ap (λ b. drawing identifier (if b then refused (open_state records) RandomRepeated else drawing (seed ++ []) (refused (open_state records) RandomFailed)))
    (fresh identifier (seed ∷ []) refl)
    ∙ drawing_twice identifier (seed ++ []) (refused (open_state records) RandomFailed)
draw_fails_by key level trees records (identifier ∷ seed ∷ randomizer ∷ rest) within_limit fresh next = absurd (omega (arith, within_limit))

-- a record has the I
draw_repeats : (key : Key) (level : ℕ) (trees : Trees) (records : List Record) (identifier : List ℕ) → has_identifier records identifier ≡ true
    → (next : List Record → Outcome (List ℕ))
    → extended (open_state records) key level (Some trees) (record { fields = identifier ∷ []; fate = acked }) next
    ≡ drawing identifier (refused (open_state records) RandomRepeated)
draw_repeats key level trees records identifier there next =
    ap (λ b. drawing identifier (if b then refused (open_state records) RandomRepeated else drawing [] (refused (open_state records) RandomFailed))) there

-- an open signer over a store that runs, of which a crash leaves its records
pub record Rests {S R : Type 0} (g : store.Ghosts S) (view : View S R) : Type 0 where
  pub is_open : view.is_open ≡ true
  pub tied : IsTied g view.store view.records
  pub leaves : LeavesItsList g view.store

module _ {S R : Type 0} (g : store.Ghosts S) (r : source.Ghosts R) (level : ℕ) (key : Key) (trees : Trees) (is_trees : trees_of key.secret ≡ Some trees) where
  -- what leaves all but the source
  rests_ends : (view : View S R) (random : R) (bytes : List ℕ) (fault : SignFault) (answer : Result (List ℕ) SignFault) → Rests g view
      → is_store_failed fault ≡ false → Err fault ≡ answer
      → Ends g view (after_draw view random) (drawing bytes (refused (open_state view.records) fault)) answer
  rests_ends view random bytes fault answer rests other is = record {
    answer_is = is;
    records = refl;
    is_open = rests.is_open;
    store = record {
      list = record { more = []; list = sym (append-nil _); records = sym (append-nil _) };
      moments = λ honest running. started g.moment g.left_since view.store _
          (λ left since. all_left view.records left (rests.leaves left honest running since ∙ rests.tied.same honest));
      failures = sym (ap (λ b. if b then g.failures view.store + 1 else g.failures view.store) other);
      honest = refl;
      most = refl;
    };
    unreadable = refl;
    asked = refl;
  }

  fails_along : (before after : ℕ) (fault : SignFault) (answer : Result (List ℕ) SignFault) → Err fault ≡ answer
      → after ≡ (if is_random_failed fault then before + 1 else before) → Counts is_random_failed before after answer
  fails_along before after fault answer is counts = subst (λ (a : Result (List ℕ) SignFault). Counts is_random_failed before after a) is counts

  -- The draws are refused: the answer is their fault, and all but the source is as it was.
  pub undrawn : (pair : LmsPair) (view : View S R) (random : R) (fault : SignFault) (answer : Result (List ℕ) SignFault) → Rests g view → Err fault ≡ answer
      → DrawsTree pair view.records (r.failures view.random) (r.failures random) (r.upcoming view.random) (r.upcoming random) (Err fault)
      → Extends g r level view (after_draw view random) answer key
  undrawn pair view random RandomFailed answer rests is (fields, failed, gave, sized, within_limit, fresh) = record {
    draw = record { fields = fields; fate = acked };
    outcome = drawing (concat fields) (refused (open_state view.records) RandomFailed);
    step = ap (λ t. extended (open_state view.records) key level t (record { fields = fields; fate = acked }) (λ records. answered (open_state records) [])) is_trees
        ∙ draw_fails_by key level trees view.records fields within_limit fresh (λ records. answered (open_state records) []);
    possible = sized;
    ends = rests_ends view random (concat fields) RandomFailed answer rests refl is;
    source = subst (λ (bytes : List ℕ). Provides (r.upcoming view.random) bytes (r.upcoming random)) (sym (append-nil (concat fields))) gave;
    failures = fails_along (r.failures view.random) (r.failures random) RandomFailed answer is failed;
    refusals = inl (subst (λ (a : Result (List ℕ) SignFault). Counts is_out_of_memory (g.refusals view.store) (g.refusals view.store) a) is refl);
    memory = omega arith;
    stays = λ _ _. refl;
    not_before_draws = ap (is_fault is_before_draws) (sym is);
  }
  undrawn pair view random RandomRepeated answer rests is (identifier, kept, gave, sized, there) = record {
    draw = record { fields = identifier ∷ []; fate = acked };
    outcome = drawing identifier (refused (open_state view.records) RandomRepeated);
    step = ap (λ t. extended (open_state view.records) key level t (record { fields = identifier ∷ []; fate = acked })
        (λ records. answered (open_state records) [])) is_trees
        ∙ draw_repeats key level trees view.records identifier there (λ records. answered (open_state records) []);
    possible = sized;
    ends = rests_ends view random identifier RandomRepeated answer rests refl is;
    source = subst (λ (bytes : List ℕ). Provides (r.upcoming view.random) bytes (r.upcoming random)) (sym (append-nil identifier)) gave;
    failures = fails_along (r.failures view.random) (r.failures random) RandomRepeated answer is kept;
    refusals = inl (subst (λ (a : Result (List ℕ) SignFault). Counts is_out_of_memory (g.refusals view.store) (g.refusals view.store) a) is refl);
    memory = omega arith;
    stays = λ _ _. refl;
    not_before_draws = ap (is_fault is_before_draws) (sym is);
  }
  undrawn pair view random Changed answer rests is draws = absurd draws
  undrawn pair view random Exhausted answer rests is draws = absurd draws
  undrawn pair view random StoreFailed answer rests is draws = absurd draws
  undrawn pair view random Stopped answer rests is draws = absurd draws
  undrawn pair view random (Damaged k) answer rests is draws = absurd draws
  undrawn pair view random OutOfMemory answer rests is draws = absurd draws
  undrawn pair view random LedgerFull answer rests is draws = absurd draws
  undrawn pair view random (Unreadable k) answer rests is draws = absurd draws
  undrawn pair view random KeyThere answer rests is draws = absurd draws
  undrawn pair view random MessageRead answer rests is draws = absurd draws
  undrawn pair view random Moved answer rests is draws = absurd draws
  undrawn pair view random RetireRange answer rests is draws = absurd draws
  undrawn pair view random LongName answer rests is draws = absurd draws
  undrawn pair view random NoKey answer rests is draws = absurd draws
  undrawn pair view random (Illegal k) answer rests is draws = absurd draws
  undrawn pair view random DeviceFailed answer rests is draws = absurd draws
  undrawn pair view random NoMemoryToOpen answer rests is draws = absurd draws

-- ---- draws that are whole

-- an append's outcome after some draws
abbrev comes_to : List Record → Record → (bytes : List ℕ) → Fate → Outcome (List ℕ)
comes_to records entry bytes fate = drawing bytes (appended (open_state records) entry fate (λ all. answered (open_state all) []))

given : {a b : Result (Unit {0}) SignFault} → a ≡ b → answered_value {B = List ℕ} a [] ≡ answered_value b []
given is = ap (λ r. answered_value r []) is

-- a call that appends a record, and one that draws first, end alike
ends_drawn : {S R : Type 0} (g : store.Ghosts S) (view new : View S R) (random : R) (entry : Record) (bytes : List ℕ) (fate : Fate)
    (answer : Result (Unit {0}) SignFault) → Ends g (after_draw view random) new (added (open_state view.records) entry fate) answer
    → Ends g view new (comes_to view.records entry bytes fate) (answered_value answer [])
ends_drawn g view new random entry bytes acked answer ends = ends_alike g view new random _ _ answer _ refl refl refl (given ends.answer_is) (λ _ _ c. c) ends
ends_drawn g view new random entry bytes cut_old answer ends = ends_alike g view new random _ _ answer _ refl refl refl (given ends.answer_is) (λ _ _ c. c) ends
ends_drawn g view new random entry bytes cut_new answer ends = ends_alike g view new random _ _ answer _ refl refl refl (given ends.answer_is) (λ _ _ c. c) ends
ends_drawn g view new random entry bytes no_memory answer ends = ends_alike g view new random _ _ answer _ refl refl refl (given ends.answer_is) (λ _ _ c. c) ends

nothing_more : (records : List Record) (entry : Record) (bytes : List ℕ) (fate : Fate) → (comes_to records entry bytes fate).drawn ≡ bytes
nothing_more records entry bytes acked = append-nil bytes
nothing_more records entry bytes cut_old = append-nil bytes
nothing_more records entry bytes cut_new = append-nil bytes
nothing_more records entry bytes no_memory = append-nil bytes

-- The record of the draws is appended: the answer is the append's.
pub drawn : {S R : Type 0} (g : store.Ghosts S) (r : source.Ghosts R) (level : ℕ) (key : Key) (trees : Trees) (view new : View S R) (random : R)
    (pair : LmsPair) (seeds : LmsSecret × List ℕ) (entry : Record) (answer : Result (Unit {0}) SignFault) → trees_of key.secret ≡ Some trees → view.is_open ≡ true
    → DrawsTree pair view.records (r.failures view.random) (r.failures random) (r.upcoming view.random) (r.upcoming random) (Ok seeds)
    → entry ≡ next_extend key trees view.records level seeds.0.identifier seeds.0.seed seeds.1
    → Adds g (after_draw view random) new entry answer
    → Extends g r level view new (answered_value answer []) key
drawn {S = S} {R = R} g r level key trees view new random pair seeds entry answer is_trees was (kept, gave, sized, fresh, paired) is adds =
    let bytes : List ℕ = seeds.0.identifier ++ (seeds.0.seed ++ seeds.1) in
    let from : state_of (after_draw view random) ≡ open_state view.records = λ i. record { records = view.records; is_open = was i } in
    let ends : Ends g view new (comes_to view.records entry bytes adds.fate) (answered_value answer []) =
    ends_drawn g view new random entry bytes adds.fate answer
    (subst (λ s. Ends g (after_draw view random) new (added s entry adds.fate) answer) from adds.ends) in
    let gives : Provides (r.upcoming view.random) bytes (r.upcoming new.random) =
    subst (λ (s : R). Provides (r.upcoming view.random) bytes (r.upcoming s)) (sym adds.random) gave in
    let none : r.failures new.random ≡ r.failures view.random = ap r.failures adds.random ∙ kept in record {
      draw = whole_draw seeds.0.identifier seeds.0.seed seeds.1 adds.fate;
      outcome = comes_to view.records entry bytes adds.fate;
      step = extends_by key level (trees_of key.secret) trees is_trees view.records seeds.0.identifier seeds.0.seed seeds.1 adds.fate fresh
          (λ records. answered (open_state records) [])
          ∙ drawing_twice seeds.0.identifier (seeds.0.seed ++ seeds.1) _
          ∙ ap (λ e. comes_to view.records e bytes adds.fate) (sym is);
      possible = sized;
      ends = ends;
      source = subst (λ (b : List ℕ). Provides (r.upcoming view.random) b (r.upcoming new.random))
          (sym (nothing_more view.records entry bytes adds.fate)) gives;
      failures = counts_answered is_random_failed _ _ answer [] (no_draw_fails g (after_draw view random) new entry answer adds _ _ none);
      refusals = inl (counts_answered is_out_of_memory _ _ answer [] adds.refusals);
      memory = adds.memory;
      stays = λ same none. is_tried g (after_draw view random) new entry answer adds (new.store ≡ view.store) same
          (sym (same_fault is_of_append answer []) ∙ none);
      not_before_draws = same_fault is_before_draws answer [] ∙ comes_after_draws g (after_draw view random) new entry answer adds;
    }

module _ {S R : Type 0} (g : store.Ghosts S) (r : source.Ghosts R) (level : ℕ) (key : Key) (trees : Trees) (is_trees : trees_of key.secret ≡ Some trees) where
  -- Memory is refused for the new tree's cache: nothing is recorded, and all but the source is as it was.
  pub ungrown : (view : View S R) (random : R) (pair : LmsPair) (seeds : LmsSecret × List ℕ) (answer : Result (List ℕ) SignFault) → Rests g view → Err OutOfMemory ≡ answer
      → DrawsTree pair view.records (r.failures view.random) (r.failures random) (r.upcoming view.random) (r.upcoming random) (Ok seeds)
      → Extends g r level view (after_draw view random) answer key
  ungrown view random pair seeds answer rests is (kept, gave, sized, fresh, paired) =
      let bytes : List ℕ = seeds.0.identifier ++ (seeds.0.seed ++ seeds.1) in record {
        draw = whole_draw seeds.0.identifier seeds.0.seed seeds.1 no_memory;
        outcome = drawing bytes (refused (open_state view.records) OutOfMemory);
        step = extends_by key level (trees_of key.secret) trees is_trees view.records seeds.0.identifier seeds.0.seed seeds.1 no_memory fresh
            (λ records. answered (open_state records) [])
            ∙ drawing_twice seeds.0.identifier (seeds.0.seed ++ seeds.1) _;
        possible = sized;
        ends = rests_ends g r level key trees is_trees view random bytes OutOfMemory answer rests refl is;
        source = subst (λ (b : List ℕ). Provides (r.upcoming view.random) b (r.upcoming random)) (sym (append-nil bytes)) gave;
        failures = fails_along g r level key trees is_trees (r.failures view.random) (r.failures random) OutOfMemory answer is kept;
        refusals = inr (sym is, refl);
        memory = omega arith;
        stays = λ _ _. refl;
        not_before_draws = ap (is_fault is_before_draws) (sym is);
      }

-- a record that is added by a signer with other caches
adds_caching : {S R : Type 0} (g : store.Ghosts S) (old new : View S R) (caches : Cached) (entry : Record) (answer : Result (Unit {0}) SignFault)
    → Adds g (caching old caches) new entry answer → Adds g old new entry answer
adds_caching g old new caches entry answer adds = record {
  fate = adds.fate;
  ends = record {
    answer_is = adds.ends.answer_is;
    records = adds.ends.records;
    is_open = adds.ends.is_open;
    store = adds.ends.store;
    unreadable = adds.ends.unreadable;
    asked = adds.ends.asked;
  };
  random = adds.random;
  refusals = adds.refusals;
  memory = adds.memory;
  untaken = adds.untaken;
}

-- The tree that was drawn below the current ones: its record is the world's, and is appended.
pub drawn_below : {S R : Type 0} {caches others : Cached} (g : store.Ghosts S) (r : source.Ghosts R) (key : Key) (trees : Trees) (kept_in : S) (random after : R)
    (ledger : Table) (is_open : Bool) (v new : View S R) (level : ℕ) (pair : LmsPair) (seeds : LmsSecret × List ℕ) (entry : Record) (answer : Result (Unit {0}) SignFault)
    → view_of kept_in random ledger caches is_open ≡ v → v.is_open ≡ true → trees_of key.secret ≡ Some trees
    → entry ≡ next_extend key trees ledger.records level seeds.0.identifier seeds.0.seed seeds.1
    → DrawsTree pair ledger.records (r.failures random) (r.failures after) (r.upcoming random) (r.upcoming after) (Ok seeds)
    → Adds g (view_of kept_in after ledger others is_open) new entry answer → Extends g r level v new (answered_value answer []) key
drawn_below {S = S} {R = R} {caches = caches} {others = others} g r key trees kept_in random after ledger is_open v new level pair seeds entry answer is opened these
    same draws adds =
    subst (λ (w : View S R). Extends g r level w new (answered_value answer []) key) is
    (drawn g r level key trees (view_of kept_in random ledger caches is_open) new after pair seeds entry answer these (ap (λ w. w.is_open) is ∙ opened) draws same
    (adds_caching g (view_of kept_in after ledger caches is_open) new others entry answer adds))
