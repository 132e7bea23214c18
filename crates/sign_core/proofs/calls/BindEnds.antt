-- The ends of a binding: its draws, then the message, then the append of its record.
use Rattle.std.proofs.Common.{◌≡◌, ◌∙◌, refl, sym, ap, ap₂, subst, inl, ℕ, ◌+◌, ◌<◌, Bool, true, false, List, [], ◌∷◌, ◌++◌, length}
use Rattle.std.proofs.Common.{Option, Some, None, Result, Ok, Err, MatchResult, IfErr, OnOk, IsErrAnd, append-nil, arith}
use Rattle.std.specs.Prelude.{not, option_map, is_some, replicate, unwrap_or, ◌&&◌, IfOk}
use Rattle.std.specs.List.{concat}
use Rattle.std.specs.Cmp.Lexicographic.{bytes_decides}
use Rattle.std.proofs.Math.Seq.{take-length}
use Rattle.std.proofs.lemmas.Option.{none-some, same_Some}
use Rattle.typecodes.specs.declared.message.Message as message
use Rattle.typecodes.specs.Message.{CantBeRead, ReadWhole}
use Rattle.typecodes.specs.declared.secret.XmssSecret.{XmssSecret}
use Rattle.state_file.specs.declared.record.Bound.{Bound}
use Rattle.state_file.specs.declared.record.Key.{Key}
use Rattle.state_file.specs.declared.record.Record.{Record}
use Rattle.state_file.specs.declared.record.Record.TheVariants.{Bound as BoundRecord}
use Rattle.state_file.specs.declared.record.Secret.{Secret}
use Rattle.state_file.specs.declared.record.Secret.TheVariants.{Lms, Hss, Xmss}
use Rattle.state_file.specs.declared.store.Store as store
use Rattle.state_file.specs.Disk.{Counts}
use Rattle.state_file.specs.Laws.{bottom_of, leaves_at}
use Rattle.state_file.proofs.Moments.{started}
use Rattle.sign_core.specs.declared.fault.SignFault.{SignFault}
use Rattle.sign_core.specs.declared.fault.SignFault.TheVariants.{Damaged, MessageRead, RandomFailed}
use Rattle.sign_core.specs.declared.source.Source as source
use Rattle.sign_core.specs.Events.{AreFields, randomizer_sizes}
use Rattle.sign_core.specs.Signing.{answered_value}
use Rattle.sign_core.specs.inner.Source.{DrawsBytes}
use Rattle.sign_core.specs.Source.{Provides}
use Rattle.sign_core.specs.Records.{binding_at, can_follow, current, has_moved, has_randomizer, is_free, the_key, next_at, next_leaf}
use Rattle.sign_core.proofs.records.Parts.{new_bound, next_of}
use Rattle.sign_core.specs.Caches.{Cached}
use Rattle.sign_core.specs.inner.Signer.{Adds, added}
use Rattle.sign_core.specs.Signer.{Ends, IsRead, IsTied, View, is_before_draws, is_of_append, is_out_of_memory, is_random_failed, is_store_failed, state_of, view_of}
use Rattle.sign_core.specs.inner.Signing.{Does, DrawsRandomizer, BindsBelow, IsBindingOf, IsBoundLast, IsRandomizer, Stands}
use Rattle.sign_core.specs.declared.ledger.Binding.{Binding}
use Rattle.sign_core.specs.Ledger.{Table, binding_kept, kept_of}
use Rattle.sign_core.specs.World.{Fate, Outcome, acked, answered, appended, cut_new, cut_old, drawing, no_memory}
use Rattle.sign_core.proofs.steps.Cases.{bound_message}
use Rattle.sign_core.specs.World.{open_state, randomizer_of_fields, reading}
use Rattle.sign_core.specs.Textbook.{Trees, damaged_at, digest_at, textbook_signature, current_at, trees_of}
use Rattle.sign_core.proofs.calls.AppendMoments.{LeavesItsList}
use Rattle.sign_core.proofs.steps.TreeDraws.{draw_fails}
use Rattle.sign_core.proofs.calls.AddedRecords.{added_records, counts_answered, ends_alike, comes_after_draws, is_tried, no_draw_fails, same_fault}
use Rattle.sign_core.proofs.records.CanFollow.{tell_free}
use Rattle.sign_core.proofs.calls.RefusedCalls.{counted}
use Rattle.sign_core.proofs.calls.RetireEnds.{beginning_kept}
use Rattle.sign_core.proofs.law.SoundChains.{chain_at_end}
use Rattle.sign_core.proofs.records.Unchanged.{before_stays, key_stays}

-- ---- what a call does to a signer that is open

module _ {S R M : Type 0} (g : store.Ghosts S) (r : source.Ghosts R) (m : message.Ghosts M) (kept_in : S) (random mid : R) (ledger : Table) (is_open : Bool)
    (before after : M) where
  -- an outcome that appends nothing
  abbrev left_so : {A : Type 0} → (state_open : Bool) (fault : SignFault) (drawn : List ℕ) (read : Bool) → Outcome A
  left_so state_open fault drawn read = record {
    state = record { records = ledger.records; is_open = state_open };
    answer = Err fault;
    acknowledged = ledger.records;
    failed = None;
    drawn = drawn;
    is_read = read;
  }

  -- a call that draws, reads the message or not, and is refused: the store is as it was
  pub does_kept : {A : Type 0} {caches : Cached} (state_open : Bool) (fault : SignFault) (drawn : List ℕ) (read : Bool) (given : Option (List ℕ))
      → is_open ≡ state_open → IsTied g kept_in ledger.records
      → LeavesItsList g kept_in
      → ((n : ℕ) → Counts {A = A} is_store_failed n n (Err fault)) → ((n : ℕ) → Counts {A = A} is_out_of_memory n n (Err fault))
      → Provides (r.upcoming random) drawn (r.upcoming mid) → Counts {A = A} is_random_failed (r.failures random) (r.failures mid) (Err fault)
      → IsRead m read given before after
      → Does {A = A} g r m (view_of kept_in random ledger caches is_open) (view_of kept_in mid ledger caches is_open) before after given
      (left_so state_open fault drawn read) (Err fault)
  does_kept state_open fault drawn read given opened tied only store_counts memory_counts gives counts message = record {
    ends = record {
      answer_is = refl;
      records = refl;
      is_open = opened;
      store = record {
        list = record { more = []; list = sym (append-nil _); records = sym (append-nil _) };
        moments = λ honest running. started g.moment g.left_since kept_in _
            (λ left since. beginning_kept ledger.records left _ (only left honest running since ∙ tied.same honest) refl);
        failures = store_counts _;
        honest = refl;
        most = refl;
      };
      unreadable = refl;
      asked = refl;
    };
    more = [];
    grown = sym (append-nil _);
    source = gives;
    failures = counts;
    message = message;
    refusals = inl (memory_counts _);
    memory = omega arith;
    stays = λ _ _. refl;
  }

  -- an append's outcome, after the draws and the reading
  abbrev append_so : (entry : Record) (sign : List Record → List ℕ) (drawn : List ℕ) → Fate → Outcome (List ℕ)
  append_so entry sign drawn fate =
      drawing drawn (reading (appended (open_state ledger.records) entry fate (λ records. answered (open_state records) (sign records))))

  -- the records that it adds, by its fate
  more_by : Record → Fate → List Record
  more_by entry acked = entry ∷ []
  more_by entry cut_old = []
  more_by entry cut_new = []
  more_by entry no_memory = []

  grown_identifier : (entry : Record) (sign : List Record → List ℕ) (drawn : List ℕ) (fate : Fate)
      → (append_so entry sign drawn fate).acknowledged ≡ ledger.records ++ more_by entry fate
  unfolding more_by
  grown_identifier entry sign drawn acked = refl
  grown_identifier entry sign drawn cut_old = sym (append-nil _)
  grown_identifier entry sign drawn cut_new = sym (append-nil _)
  grown_identifier entry sign drawn no_memory = sym (append-nil _)

  drawn_by : (entry : Record) (sign : List Record → List ℕ) (drawn : List ℕ) (fate : Fate) → (append_so entry sign drawn fate).drawn ≡ drawn ++ []
  drawn_by entry sign drawn acked = refl
  drawn_by entry sign drawn cut_old = refl
  drawn_by entry sign drawn cut_new = refl
  drawn_by entry sign drawn no_memory = refl

  read_identifier : (entry : Record) (sign : List Record → List ℕ) (drawn : List ℕ) (fate : Fate) → (append_so entry sign drawn fate).is_read ≡ true
  read_identifier entry sign drawn acked = refl
  read_identifier entry sign drawn cut_old = refl
  read_identifier entry sign drawn cut_new = refl
  read_identifier entry sign drawn no_memory = refl

  -- an append's end, after the draws and the reading
  ends_added : {caches : Cached} (new : View S R) (entry : Record) (sign : List Record → List ℕ) (drawn : List ℕ) (a : Result (Unit {0}) SignFault) (fate : Fate) → is_open ≡ true
      → Ends g (view_of kept_in mid ledger caches is_open) new (added (state_of (view_of kept_in mid ledger caches is_open)) entry fate) a
      → Ends g (view_of kept_in random ledger caches is_open) new (append_so entry sign drawn fate) (answered_value a (sign (ledger.records ++ entry ∷ [])))
  ends_added {caches = caches} new entry sign drawn a fate opened ends = by_fate fate ends
    where
      answers : {x : Result (Unit {0}) SignFault} → x ≡ a
          → answered_value x (sign (ledger.records ++ entry ∷ [])) ≡ answered_value a (sign (ledger.records ++ entry ∷ []))
      answers is = ap (λ x. answered_value x (sign (ledger.records ++ entry ∷ []))) is

      by_fate : (fate : Fate) → Ends g (view_of kept_in mid ledger caches is_open) new (added (state_of (view_of kept_in mid ledger caches is_open)) entry fate) a
          → Ends g (view_of kept_in random ledger caches is_open) new (append_so entry sign drawn fate) (answered_value a (sign (ledger.records ++ entry ∷ [])))
      by_fate acked ends =
          ends_alike g (view_of kept_in random ledger caches is_open) new mid _ _ a _ refl refl refl (answers ends.answer_is) (λ _ _ c. c) ends
      by_fate cut_old ends =
          ends_alike g (view_of kept_in random ledger caches is_open) new mid _ _ a _ refl refl refl (answers ends.answer_is) (λ _ _ c. c) ends
      by_fate cut_new ends =
          ends_alike g (view_of kept_in random ledger caches is_open) new mid _ _ a _ refl refl refl (answers ends.answer_is) (λ _ _ c. c) ends
      by_fate no_memory ends =
          ends_alike g (view_of kept_in random ledger caches is_open) new mid _ _ a _ (λ i. record { records = ledger.records; is_open = sym opened i }) refl refl
          (answers ends.answer_is) (λ _ _ c. c) ends

  -- a call that draws, reads the message and appends a record
  pub does_added : {caches : Cached} (new : View S R) (entry : Record) (sign : List Record → List ℕ) (drawn text : List ℕ) (a : Result (Unit {0}) SignFault) → is_open ≡ true
      → (adds : Adds g (view_of kept_in mid ledger caches is_open) new entry a) → Provides (r.upcoming random) (drawn ++ []) (r.upcoming mid)
      → r.failures mid ≡ r.failures random → ReadWhole m.transition m.remaining text before after
      → Does g r m (view_of kept_in random ledger caches is_open) new before after (Some text) (append_so entry sign drawn adds.fate)
      (answered_value a (sign (ledger.records ++ entry ∷ [])))
  does_added {caches = caches} new entry sign drawn text a opened adds gives counted whole = record {
    ends = ends_added new entry sign drawn a adds.fate opened adds.ends;
    more = more_by entry adds.fate;
    grown = grown_identifier entry sign drawn adds.fate;
    source = subst (λ (x : R). Provides (r.upcoming random) (append_so entry sign drawn adds.fate).drawn (r.upcoming x)) (sym adds.random)
        (subst (λ bytes. Provides (r.upcoming random) bytes (r.upcoming mid)) (sym (drawn_by entry sign drawn adds.fate)) gives);
    failures = counts_answered is_random_failed _ _ a _
        (no_draw_fails g (view_of kept_in mid ledger caches is_open) new entry a adds _ _ (ap r.failures adds.random ∙ counted));
    message = subst (λ is_read. IsRead m is_read (Some text) before after) (sym (read_identifier entry sign drawn adds.fate)) whole;
    refusals = inl (counts_answered is_out_of_memory _ _ a _ adds.refusals);
    memory = adds.memory;
    stays = λ same none. is_tried g (view_of kept_in mid ledger caches is_open) new entry a adds (new.store ≡ kept_in) same (sym (same_fault is_of_append a _) ∙ none);
  }

pub key_of_added : {S R : Type 0} (g : store.Ghosts S) (old new : View S R) (entry : Record) (a : Result (Unit {0}) SignFault) (x : Unit {0}) (key own : Key)
    → Adds g old new entry a → a ≡ Ok x → the_key old.records ≡ Some key → the_key new.records ≡ Some own → own ≡ key
key_of_added g old new entry a x key own adds is keyed after =
    same_Some own key (sym after ∙ ap the_key (added_records g old new entry a x adds is) ∙ key_stays old.records (entry ∷ []) key keyed)

-- ---- draws

-- a failed draw counts one failure, and gives nothing
pub failed_draw : (before after : ℕ) (upcoming left : Option (List ℕ)) (fault : SignFault) → DrawsBytes before after upcoming left (Err fault)
    → (fault ≡ RandomFailed) × (after ≡ before + 1) × Provides upcoming [] left
failed_draw before after upcoming left fault draws =
    let (of_source, same) = draw_fails before after upcoming left fault draws in (
      of_source,
      (subst (λ (f : SignFault). DrawsBytes before after upcoming left (Err f)) of_source draws).0,
      subst (Provides upcoming []) (sym same) (nothing upcoming),
    )
  where
    nothing : (upcoming : Option (List ℕ)) → Provides upcoming [] upcoming
    nothing None = refl
    nothing (Some bytes) = refl

pub gives_nothing : (upcoming : Option (List ℕ)) → Provides upcoming [] upcoming
gives_nothing None = refl
gives_nothing (Some bytes) = refl

-- C, as the world draws it
pub one_field : (upcoming left : Option (List ℕ)) (randomizer : List ℕ) → Provides upcoming randomizer left
    → Provides upcoming (concat (randomizer ∷ []) ++ []) left
one_field upcoming left randomizer gives =
    subst (λ bytes. Provides upcoming bytes left) (sym (append-nil (randomizer ++ []) ∙ append-nil randomizer)) gives

drawn_randomizer : (secret : Secret) (trees : Trees) (randomizer : List ℕ) → trees_of secret ≡ Some trees
    → (randomizer_of_fields secret (randomizer ∷ []) ≡ Some randomizer) × (randomizer_of_fields secret [] ≡ None) × (has_randomizer secret randomizer ≡ true)
drawn_randomizer (Lms secret) trees randomizer these = (refl, refl, refl)
drawn_randomizer (Hss levels identifier seed) trees randomizer these = (refl, refl, refl)
drawn_randomizer (Xmss secret) trees randomizer these = absurd (cc)

-- ---- a chain that stands

-- the current tree before the end is the current one
pub tree_at_end : (records : List Record) (level tree : ℕ) → current level records ≡ Some tree → current_at level records (length records) ≡ tree
tree_at_end records level tree is = ap (λ l. unwrap_or (current level l) 0) (take-length records) ∙ ap (λ o. unwrap_or o 0) is

-- the record that binds a name to the next leaf is the world's
pub bound_next : (records : List Record) (key : Key) (name : List ℕ) (bound : Bound) (text : List ℕ) → bound.name ≡ name
    → bound.leaf ≡ next_at key.secret records (bottom_of key.secret)
    → bound.digest ≡ digest_at key records (length records) bound.leaf bound.randomizer text
    → bound ≡ new_bound key records name (next_at key.secret records (bottom_of key.secret)) bound.randomizer text
bound_next records key name bound text named leaf digest =
    let digest_is = digest ∙ ap (λ l. digest_at key records (length records) l bound.randomizer text) leaf in
    λ i. record { name = named i; leaf = leaf i; randomizer = bound.randomizer; digest = digest_is i }

pub bound_follows : (records : List Record) (key : Key) (tree : ℕ) (name : List ℕ) (bound : Bound) → the_key records ≡ Some key → has_moved records ≡ false
    → current (bottom_of key.secret) records ≡ Some tree → bound.leaf ≡ next_at key.secret records (bottom_of key.secret)
    → next_at key.secret records (bottom_of key.secret) < leaves_at key.secret (bottom_of key.secret)
    → bound.name ≡ name → binding_at records name ≡ None → has_randomizer key.secret bound.randomizer ≡ true
    → can_follow (the_key records) records (BoundRecord bound) ≡ true
bound_follows records key tree name bound keyed stays at leaf free named unbound has =
    let bottom = bottom_of key.secret in
    let next : next_at key.secret records bottom ≡ next_leaf key.secret records tree = ap (next_of key.secret records) at in
    let is : is_free key.secret records bottom bound.leaf ≡ true =
    tell_free key.secret records bottom bound.leaf tree at (omega (arith, leaf, free)) (omega (arith, leaf, next)) in
    let none : binding_at records bound.name ≡ None = ap (binding_at records) named ∙ unbound in
    ap (λ o. can_follow o records (BoundRecord bound)) keyed
    ∙ ap₂ (λ moved can. not moved && can) stays (ap₂ (λ two h. two && h) (ap₂ (λ f o. f && not (is_some o)) is none) has)

-- what is kept of the binding that the last record makes
pub kept_last : (key own : Key) (records all : List Record) (tree place : ℕ) (bound : Bound) → current (bottom_of key.secret) records ≡ Some tree
    → place ≡ length records → all ≡ records ++ BoundRecord bound ∷ [] → key ≡ own
    → kept_of own.secret all (length records, bound)
    ≡ record { place = place; leaf = bound.leaf; randomizer = bound.randomizer; digest = bound.digest; tree = tree }
kept_last key own records all tree place bound at is grown same =
    let bottom = bottom_of key.secret in
    let binding : Binding = record { place = place; leaf = bound.leaf; randomizer = bound.randomizer; digest = bound.digest; tree = tree } in
    let before : current_at bottom (records ++ BoundRecord bound ∷ []) (length records) ≡ tree =
    before_stays bottom records (BoundRecord bound ∷ []) (length records) (omega arith) ∙ tree_at_end records bottom tree at in
    subst (λ (k : Key). kept_of k.secret all (length records, bound) ≡ binding) same
    (ap (λ l. kept_of key.secret l (length records, bound)) grown
    ∙ (λ i. record { place = sym is i; leaf = bound.leaf; randomizer = bound.randomizer; digest = bound.digest; tree = before i }))

-- so it is a binding of the name ..
pub bound_last : (key own : Key) (old new records : List Record) (name : List ℕ) (bound : Bound) (binding : Binding)
    → IsBoundLast key old new name bound binding → records ≡ new → key ≡ own → IsBindingOf records binding own name
bound_last key own old new records name bound binding last same is =
    subst (λ l. binding_kept own.secret l name ≡ Some binding) (sym same)
    (subst (λ (k : Key). binding_kept k.secret new name ≡ Some binding) is
    (ap (option_map (kept_of key.secret new)) last.named ∙ ap Some last.kept))

kept_along : (key own : Key) (old new records : List Record) (name : List ℕ) (bound : Bound) (binding : Binding)
    → IsBoundLast key old new name bound binding → records ≡ new → key ≡ own → kept_of own.secret records (length old, bound) ≡ binding
kept_along key own old new records name bound binding last same is =
    subst (λ l. kept_of own.secret l (length old, bound) ≡ binding) (sym same)
    (subst (λ (k : Key). kept_of k.secret new (length old, bound) ≡ binding) is last.kept)

-- .. whose chain of trees is still sound
pub sound_last : (key own : Key) (old new records : List Record) (name : List ℕ) (bound : Bound) (binding : Binding) (level : ℕ) → 0 < length old
    → level ≡ bottom_of key.secret → Stands old level key → IsBoundLast key old new name bound binding → records ≡ new → key ≡ own
    → damaged_at own (bottom_of own.secret) records binding.tree ≡ None
sound_last key own old new records name bound binding level some level_is stands last same is =
    let entry = BoundRecord bound in
    let bottom = bottom_of key.secret in
    let before : damaged_at key bottom old (current_at bottom old (length old)) ≡ None =
    subst (λ n. damaged_at key n old (current_at n old (length old)) ≡ None) level_is stands.sound in
    let after : damaged_at key bottom new (current_at bottom new (length old)) ≡ None =
    subst (λ l. damaged_at key bottom l (current_at bottom l (length old)) ≡ None) (sym last.grown) (chain_at_end key bottom old entry some before) in
    let own_tree : damaged_at key bottom new binding.tree ≡ None =
    subst (λ t. damaged_at key bottom new t ≡ None) (ap (λ (kept : Binding). kept.tree) last.kept) after in
    subst (λ l. damaged_at own (bottom_of own.secret) l binding.tree ≡ None) (sym same)
    (subst (λ (k : Key). damaged_at k (bottom_of k.secret) new binding.tree ≡ None) is own_tree)

-- where no record is damaged, none is answered
pub never_damaged : (linked : Result (Unit {0}) ℕ) (mapped : Result (Unit {0}) SignFault) (damaged : Option ℕ)
    → MatchResult linked (λ x. mapped ≡ Ok x) (λ k. IsErrAnd mapped (λ e. e ≡ Damaged k)) → IfErr linked (λ k. damaged ≡ Some k) → damaged ≡ None
    → (x : Unit {0}) × (linked ≡ Ok x) × (mapped ≡ Ok x)
never_damaged (Ok x) mapped damaged cases found none = (x, refl, cases)
never_damaged (Err k) mapped damaged cases found none = absurd (none-some _ (sym none ∙ found))

-- What is written for it is the signature of the record.
pub written_last : (key own : Key) (old new records : List Record) (name : List ℕ) (bound : Bound) (binding : Binding) (linked : Result (Unit {0}) ℕ)
    (x : Unit {0}) (bytes : List ℕ) → linked ≡ Ok x → IsBoundLast key old new name bound binding → records ≡ new → key ≡ own
    → OnOk linked ((k : ℕ) (other : Bound) → kept_of own.secret records (k, other) ≡ binding → bytes ≡ textbook_signature own records k other)
    → bytes ≡ textbook_signature key (old ++ BoundRecord bound ∷ []) (length old) bound
written_last key own old new records name bound binding linked x bytes ok last same is writes =
    let written = subst (λ (r : Result (Unit {0}) ℕ). OnOk r ((k : ℕ) (other : Bound) → kept_of own.secret records (k, other) ≡ binding
    → bytes ≡ textbook_signature own records k other)) ok writes in
    written (length old) bound (kept_along key own old new records name bound binding last same is)
    ∙ ap₂ (λ (k : Key) l. textbook_signature k l (length old) bound) (sym is) (same ∙ last.grown)

-- ---- C for a binding

chain_possible : (secret : Secret) (trees : Trees) (randomizer : List ℕ) → trees_of secret ≡ Some trees → AreFields (32 ∷ []) (randomizer ∷ [])
    → AreFields (randomizer_sizes secret) (randomizer ∷ [])
chain_possible (Lms secret) trees randomizer these are = are
chain_possible (Hss levels identifier seed) trees randomizer these are = are
chain_possible (Xmss secret) trees randomizer these are = absurd (none-some _ these)

-- a key of LMS or HSS draws it
pub chain_randomizer : (secret : Secret) (trees : Trees) (before after : ℕ) (upcoming left : Option (List ℕ)) (result : Result (List ℕ) SignFault)
    → trees_of secret ≡ Some trees → DrawsBytes before after upcoming left result → IfOk result (λ bytes. AreFields (32 ∷ []) (bytes ∷ []))
    → DrawsRandomizer secret before after upcoming left result
chain_randomizer secret trees before after upcoming left (Ok randomizer) these draws are =
    let made = drawn_randomizer secret trees randomizer these in record {
      fields = randomizer ∷ [];
      made = made.0;
      possible = chain_possible secret trees randomizer these are;
      failures = draws.0;
      source = one_field upcoming left randomizer draws.1;
      fits = made.2;
    }
chain_randomizer secret trees before after upcoming left (Err fault) these draws are =
    let (of_source, once, nothing) = failed_draw before after upcoming left fault draws in
    ((drawn_randomizer secret trees [] these).1, of_source, once, nothing)

-- XMSS records zeros
pub xmss_randomizer : (secret : Secret) (own : XmssSecret) (failures : ℕ) (upcoming : Option (List ℕ)) → secret ≡ Xmss own
    → DrawsRandomizer secret failures failures upcoming upcoming (Ok (replicate 32 0))
xmss_randomizer secret own failures upcoming is =
    let zeros : IsRandomizer (Xmss own) failures failures upcoming upcoming (replicate 32 0) = record {
      fields = [];
      made = refl;
      possible = tt;
      failures = refl;
      source = gives_nothing upcoming;
      fits = (bytes_decides (replicate 32 0) (replicate 32 0)).1 refl;
    } in
    subst (λ s. IsRandomizer s failures failures upcoming upcoming (replicate 32 0)) (sym is) zeros

-- ---- a binding

module _ {S R M : Type 0} (g : store.Ghosts S) (r : source.Ghosts R) (m : message.Ghosts M) (name : List ℕ) (kept_in : S) (random mid : R) (ledger : Table)
    (is_open : Bool) (before after : M) (key : Key) where
  -- the source fails
  pub undrawn : {caches : Cached} (fault : SignFault) → is_open ≡ true → IsTied g kept_in ledger.records → after ≡ before
      → LeavesItsList g kept_in
      → DrawsRandomizer key.secret (r.failures random) (r.failures mid) (r.upcoming random) (r.upcoming mid) (Err fault)
      → BindsBelow g r m name 0 (view_of kept_in random ledger caches is_open) (view_of kept_in mid ledger caches is_open) before after (Err fault) key
  undrawn {caches = caches} fault opened tied unread only (none, of_source, once, nothing) =
      subst (λ (f : SignFault). BindsBelow g r m name 0 (view_of kept_in random ledger caches is_open) (view_of kept_in mid ledger caches is_open) before after (Err f) key)
      (sym of_source) (record {
        trees = [];
        bound = record { fields = []; fate = acked };
        given = None;
        outcome = left_so g r m kept_in random mid ledger is_open before after {A = List ℕ} true RandomFailed [] false;
        step = λ all. ap (λ o. drawing [] (bound_message (open_state ledger.records) key name o None acked)) none;
        trees_possible = tt;
        bound_possible = tt;
        does = does_kept g r m kept_in random mid ledger is_open before after {A = List ℕ} true RandomFailed [] false None opened tied only (λ n. refl) (λ n. refl)
            nothing once unread;
        not_before_draws = refl;
        lacks_tree = λ is same. absurd (cc (is));
      })

  pub unread_bound : {caches : Cached} (randomizer : List ℕ) → is_open ≡ true → IsTied g kept_in ledger.records
      → LeavesItsList g kept_in
      → IsRandomizer key.secret (r.failures random) (r.failures mid) (r.upcoming random) (r.upcoming mid) randomizer
      → CantBeRead m.transition before after
      → BindsBelow g r m name 0 (view_of kept_in random ledger caches is_open) (view_of kept_in mid ledger caches is_open) before after (Err MessageRead) key
  unread_bound randomizer opened tied only drawn fails = record {
    trees = [];
    bound = record { fields = drawn.fields; fate = acked };
    given = None;
    outcome = left_so g r m kept_in random mid ledger is_open before after {A = List ℕ} true MessageRead (concat drawn.fields ++ []) true;
    step = λ all. ap (λ o. drawing (concat drawn.fields) (bound_message (open_state ledger.records) key name o None acked)) drawn.made;
    trees_possible = tt;
    bound_possible = drawn.possible;
    does = does_kept g r m kept_in random mid ledger is_open before after {A = List ℕ} true MessageRead (concat drawn.fields ++ []) true None opened tied only
        (λ n. refl) (λ n. refl) drawn.source drawn.failures fails;
    not_before_draws = refl;
    lacks_tree = λ is same. absurd (cc (is));
  }

  -- the record is appended, or its append fails
  pub bound_added : {caches : Cached} (new : View S R) (bound : Bound) (text : List ℕ) (a : Result (Unit {0}) SignFault) (answer : Result (List ℕ) SignFault) → is_open ≡ true
      → IsRandomizer key.secret (r.failures random) (r.failures mid) (r.upcoming random) (r.upcoming mid) bound.randomizer
      → ReadWhole m.transition m.remaining text before after
      → bound ≡ new_bound key ledger.records name (next_at key.secret ledger.records (bottom_of key.secret)) bound.randomizer text
      → Adds g (view_of kept_in mid ledger caches is_open) new (BoundRecord bound) a
      → answer ≡ answered_value a (textbook_signature key (ledger.records ++ BoundRecord bound ∷ []) (length ledger.records) bound)
      → BindsBelow g r m name 0 (view_of kept_in random ledger caches is_open) new before after answer key
  bound_added {caches = caches} new bound text a answer opened drawn whole is adds answers =
      let sign : Bound → List Record → List ℕ = λ b records. textbook_signature key records (length ledger.records) b in
      subst (λ (x : Result (List ℕ) SignFault). BindsBelow g r m name 0 (view_of kept_in random ledger caches is_open) new before after x key) (sym answers) (record {
        trees = [];
        bound = record { fields = drawn.fields; fate = adds.fate };
        given = Some text;
        outcome = append_so g r m kept_in random mid ledger is_open before after (BoundRecord bound) (sign bound) (concat drawn.fields) adds.fate;
        step = λ all. ap (λ o. drawing (concat drawn.fields) (bound_message (open_state ledger.records) key name o (Some text) adds.fate)) drawn.made
            ∙ ap (λ (b : Bound). append_so g r m kept_in random mid ledger is_open before after (BoundRecord b) (sign b) (concat drawn.fields) adds.fate) (sym is);
        trees_possible = tt;
        bound_possible = drawn.possible;
        does = does_added g r m kept_in random mid ledger is_open before after new (BoundRecord bound) (sign bound) (concat drawn.fields) text a opened adds
            drawn.source drawn.failures whole;
        not_before_draws = same_fault is_before_draws a _ ∙ comes_after_draws g (view_of kept_in mid ledger caches is_open) new (BoundRecord bound) a adds;
        lacks_tree = counted g 1 (view_of kept_in random ledger caches is_open) new _ (counts_answered is_out_of_memory _ _ a _ adds.refusals);
      })
