-- What a request keeps.
use Rattle.std.proofs.Common.{drop, ◌≡◌, ◌∙◌, refl, sym, ap, subst, ℕ, zero, suc, ◌+◌, ◌-◌, ◌<◌, ◌≤◌, Bool, true, false, List, [], ◌∷◌, ◌++◌}
use Rattle.std.proofs.Common.{length, Option, Some, None, arith}
use Rattle.std.specs.Prelude.{if◌then◌else◌, is_some, nat_lt, not, slice_index_or}
use Rattle.std.specs.List.{AllByRecursion}
use Rattle.std.specs.Cmp.Lexicographic.{bytes_decides}
use Rattle.std.proofs.lemmas.Bool.{and_from, le-leb, lt-ltb, not_from_false}
use Rattle.sha2.proofs.Facts256.{length-sha256}
use Rattle.typecodes.specs.declared.secret.LmsSecret.{LmsSecret}
use Rattle.lms.specs.Secret.{public_of}
use Rattle.lms.specs.Writing.{public_bytes}
use Rattle.lmots.specs.Key.{message_digest_of}
use Rattle.state_file.specs.Laws.{bottom_of, leaves_at, levels_of}
use Rattle.state_file.specs.declared.record.Bound.{Bound}
use Rattle.state_file.specs.declared.record.Extend.{Extend}
use Rattle.state_file.specs.declared.record.Key.{Key}
use Rattle.state_file.specs.declared.record.Record.{Record}
use Rattle.state_file.specs.declared.record.Record.TheVariants.{Extend as ExtendRecord, Bound as BoundRecord}
use Rattle.state_file.specs.declared.record.Secret.{Secret}
use Rattle.sign_core.specs.declared.fault.SignFault.TheVariants.{Changed, Damaged, Exhausted, LedgerFull, MessageRead, OutOfMemory, RandomFailed, LongName}
use Rattle.sign_core.specs.declared.fault.SignFault.TheVariants.{RandomRepeated, Stopped}
use Rattle.sign_core.specs.declared.fault.SignFault.TheVariants.{Moved as MovedAway}
use Rattle.sign_core.specs.Records.{are_same, binding_at, can_follow, current, deepest, free_at, has_identifier, has_moved, has_randomizer, is_long}
use Rattle.sign_core.specs.Records.{is_free, the_key, next_at, next_leaf}
use Rattle.sign_core.proofs.records.Parts.{IsTreeDraw, new_bound, next_of}
use Rattle.sign_core.specs.Records.{wanted_count}
use Rattle.sign_core.specs.Events.{AreDraws, AreFields, tree_sizes}
use Rattle.sign_core.specs.Headline.{IsBoundTo, IsRecorded}
use Rattle.sign_core.specs.World.{Chance, Draw, Fate, Handed, Outcome, State, extend_record}
use Rattle.sign_core.specs.inner.Cases.{extended}
use Rattle.sign_core.proofs.steps.Cases.{bound_level, bound_sound, bound_message}
use Rattle.sign_core.specs.World.{first_draw}
use Rattle.sign_core.specs.inner.Cases.{bound_trees}
use Rattle.sign_core.proofs.steps.Cases.{extended_identifier, extended_seed}
use Rattle.sign_core.specs.World.{open_state, randomizer_of_fields, requested}
use Rattle.sign_core.specs.inner.Cases.{requested_binding}
use Rattle.sign_core.proofs.steps.Cases.{repeated, repeated_sound, requested_key}
use Rattle.sign_core.specs.Textbook.{HasSizes, Trees, damaged_at, digest_at, is_sound_extend, lms_secret, secret_at, textbook_signature, current_at, trees_of}
use Rattle.sign_core.proofs.records.OneMore.{current_new, next_new, some_leaves}
use Rattle.sign_core.proofs.records.Bindings.{binding_new, binding_other}
use Rattle.sign_core.proofs.records.FreeLeaves.{deepest_is}
use Rattle.sign_core.proofs.law.KeptByEvents.{IsKept, KeepsHanded, kept_append, kept_choice, kept_grown, kept_handed, kept_refused}
use Rattle.sign_core.proofs.records.Sizes.{digest_size, key_has_sizes, lms_root_size, randomizer_size}
use Rattle.sign_core.proofs.records.Unchanged.{digest_stays, key_stays, last_is, some_keyed}

-- ---- the next leaf

free_test : (test : Bool) (leaves next : ℕ) → 0 < (if test then leaves - next else 0) → (test ≡ true) × (next < leaves)
free_test true leaves next free = (refl, omega (arith, free))
free_test false leaves next free = absurd (omega (arith, free))

pub free_named : (secret : Secret) (records : List Record) (level : ℕ) → 0 < free_at secret records level
    → is_free secret records level (next_at secret records level) ≡ true
free_named secret records level free =
    let (there, inside) = free_test (is_some (current level records)) (leaves_at secret level) (next_at secret records level) free in
    and_from _ _ (and_from _ _ there (lt-ltb (next_at secret records level) (leaves_at secret level) inside))
    (le-leb (next_at secret records level) (next_at secret records level) (omega arith))

some_is : (found : Option ℕ) → is_some found ≡ true → (tree : ℕ) × (found ≡ Some tree)
some_is (Some tree) is = (tree, refl)
some_is None is = absurd (cc)

pub free_current : (secret : Secret) (records : List Record) (level : ℕ) → 0 < free_at secret records level → (tree : ℕ) × (current level records ≡ Some tree)
free_current secret records level free =
    some_is (current level records) (free_test (is_some (current level records)) (leaves_at secret level) (next_at secret records level) free).0

pub free_anew : (secret : Secret) (records : List Record) (level tree : ℕ) → level < levels_of secret → current level records ≡ Some tree
    → next_leaf secret records tree ≡ 0
    → 0 < free_at secret records level
free_anew secret records level tree inside is none =
    let some = some_leaves secret level inside in
    subst (λ found. 0 < (if is_some found then leaves_at secret level - next_of secret records found else 0)) (sym is) (omega (arith, some, none))

-- ---- a request under way

-- `below` levels still need a new tree, and the level above them has a free leaf.
pub record IsReady (key : Key) (name : List ℕ) (below : ℕ) (records : List Record) (handed : List Handed) : Type 0 where
  pub kept : IsKept records handed
  pub keyed : the_key records ≡ Some key
  pub stays : has_moved records ≡ false
  pub unbound : binding_at records name ≡ None
  pub inside : below < levels_of key.secret
  pub free : 0 < free_at key.secret records (bottom_of key.secret - below)

-- ---- a new tree

unfoldable pub extend_of : Trees → List Record → (level : ℕ) → LmsSecret → (randomizer : List ℕ) → (leaf : ℕ) → Extend
extend_of trees records level secret randomizer leaf =
    let parent = secret_at trees records (current_at (level - 1) records (length records)) in
    let public = public_of secret in
    record {
      level = level;
      parent_leaf = leaf;
      identifier = secret.identifier;
      seed = secret.seed;
      randomizer = randomizer;
      digest = message_digest_of parent.identifier leaf randomizer (public_bytes public);
      root = public.root;
    }

pub extend_can : (key : Key) (records : List Record) (extend : Extend) → has_moved records ≡ false → 1 ≤ extend.level → extend.level < levels_of key.secret
    → is_free key.secret records (extend.level - 1) extend.parent_leaf ≡ true → has_identifier records extend.identifier ≡ false
    → can_follow (Some key) records (ExtendRecord extend) ≡ true
extend_can key records extend stays low inside free new =
    and_from _ _ (not_from_false _ stays) (and_from _ _
    (and_from _ _ (and_from _ _ (le-leb 1 extend.level low) (lt-ltb extend.level (levels_of key.secret) inside))
    free) (not_from_false _ new))

same_bytes : (bytes : List ℕ) → are_same bytes bytes ≡ true
same_bytes bytes = (bytes_decides bytes bytes).1 refl

pub extend_sound : (trees : Trees) (records : List Record) (level leaf : ℕ) (identifier seed randomizer : List ℕ)
    → (let secret = lms_secret (slice_index_or trees.pairs level trees.top.pair) identifier seed in
    is_sound_extend (Some trees) records (length records) (extend_of trees records level secret randomizer leaf) ≡ true)
unfolding extend_of
extend_sound trees records level leaf identifier seed randomizer =
    let public = public_of (lms_secret (slice_index_or trees.pairs level trees.top.pair) identifier seed) in
    let parent = secret_at trees records (current_at (level - 1) records (length records)) in
    and_from _ _ (same_bytes public.root) (same_bytes (message_digest_of parent.identifier leaf randomizer (public_bytes public)))

pub extend_sizes : (trees : Trees) (records : List Record) (level leaf : ℕ) (secret : LmsSecret) (randomizer : List ℕ) → length secret.identifier ≡ 16
    → length secret.seed ≡ 32
    → length randomizer ≡ 32 → HasSizes (ExtendRecord (extend_of trees records level secret randomizer leaf))
unfolding extend_of
extend_sizes trees records level leaf secret randomizer identifier seed drawn = (identifier, seed, drawn, length-sha256 _, lms_root_size secret)

extend_ready : (key : Key) (name : List ℕ) (below : ℕ) (records : List Record) (handed : List Handed) (trees : Trees) (identifier seed randomizer : List ℕ)
    → IsReady key name (suc below) records handed → trees_of key.secret ≡ Some trees
    → AreFields tree_sizes (identifier ∷ seed ∷ randomizer ∷ []) → has_identifier records identifier ≡ false
    → (let level = bottom_of key.secret - below in
    let secret = lms_secret (slice_index_or trees.pairs level trees.top.pair) identifier seed in
    IsReady key name below (records ++ extend_record trees records level secret randomizer (next_at key.secret records (level - 1)) ∷ []) handed)
unfolding extend_of
extend_ready key name below records handed trees identifier seed randomizer ready are fields new =
    let level = bottom_of key.secret - below in
    let leaf = next_at key.secret records (level - 1) in
    let secret = lms_secret (slice_index_or trees.pairs level trees.top.pair) identifier seed in
    let extend = extend_of trees records level secret randomizer leaf in
    let entry = ExtendRecord extend in
    let inside = ready.inside in
    let parent : bottom_of key.secret - suc below ≡ level - 1 = omega (arith, inside) in
    let own : level ≡ suc (level - 1) = omega (arith, inside) in
    let within : level < levels_of key.secret = omega (arith, inside) in
    let free : 0 < free_at key.secret records (level - 1) = subst (λ l. 0 < free_at key.secret records l) parent ready.free in
    let can = extend_can key records extend ready.stays (omega (arith, own)) within (free_named key.secret records (level - 1) free) new in
    let sound = ap (λ t. is_sound_extend t records (length records) extend) are ∙ extend_sound trees records level leaf identifier seed randomizer in
    let sized = extend_sizes trees records level leaf secret randomizer fields.0 fields.2.0 fields.2.2.0 in
    let (tree, above) = free_current key.secret records (level - 1) free in
    let now = ap (λ l. current l (records ++ entry ∷ [])) own ∙ current_new (level - 1) tree records extend own above in
    record {
      kept = kept_grown records handed key entry ready.kept ready.keyed can sound sized;
      keyed = key_stays records (entry ∷ []) key ready.keyed;
      stays = last_is records entry;
      unbound = binding_other records entry name refl ∙ ready.unbound;
      inside = omega (arith, inside);
      free = free_anew key.secret (records ++ entry ∷ []) level (length records) within now
          (next_new key.secret records entry (some_keyed records key ready.keyed));
    }

kept_seed : (key : Key) (name : List ℕ) (given : Option (List ℕ)) (below : ℕ) (records : List Record) (handed : List Handed) (trees : Trees)
    (identifier : List ℕ)
    (fields : List (List ℕ)) (fate : Fate) (next : List Record → Outcome (List ℕ)) → IsReady key name (suc below) records handed
    → trees_of key.secret ≡ Some trees
    → AreFields tree_sizes (identifier ∷ fields) → has_identifier records identifier ≡ false
    → ((all : List Record) → IsReady key name below all handed → KeepsHanded handed name given (next all))
    → (let level = bottom_of key.secret - below in
    KeepsHanded handed name given (extended_seed (open_state records) trees level (next_at key.secret records (level - 1)) identifier fields fate next))
kept_seed key name given below records handed trees identifier [] fate next ready are drawn new later = kept_refused
    (open_state records) handed name given RandomFailed ready.kept
kept_seed key name given below records handed trees identifier (seed ∷ []) fate next ready are drawn new later =
    kept_refused (open_state records) handed name given RandomFailed ready.kept
kept_seed key name given below records handed trees identifier (seed ∷ randomizer ∷ []) fate next ready are drawn new later =
    let more = extend_ready key name below records handed trees identifier seed randomizer ready are drawn new in
    kept_append (open_state records) handed name given _ fate next ready.kept more.kept (later _ more)
kept_seed key name given below records handed trees identifier (seed ∷ randomizer ∷ extra ∷ rest) fate next ready are drawn new later =
    kept_refused (open_state records) handed name given RandomFailed ready.kept

kept_identifier : (key : Key) (name : List ℕ) (given : Option (List ℕ)) (below : ℕ) (records : List Record) (handed : List Handed) (trees : Trees)
    (fields : List (List ℕ)) (fate : Fate) (next : List Record → Outcome (List ℕ)) → IsReady key name (suc below) records handed
    → trees_of key.secret ≡ Some trees
    → AreFields tree_sizes fields → ((all : List Record) → IsReady key name below all handed → KeepsHanded handed name given (next all))
    → (let level = bottom_of key.secret - below in
    KeepsHanded handed name given (extended_identifier (open_state records) trees level (next_at key.secret records (level - 1)) fields fate next))
kept_identifier key name given below records handed trees [] fate next ready are drawn later = kept_refused (open_state records) handed name given RandomFailed ready.kept
kept_identifier key name given below records handed trees (identifier ∷ fields) fate next ready are drawn later =
    kept_choice (KeepsHanded handed name given) (has_identifier records identifier) _ _
    (λ there. kept_refused (open_state records) handed name given RandomRepeated ready.kept)
    (λ new. kept_seed key name given below records handed trees identifier fields fate next ready are drawn new later)

kept_extended : (key : Key) (name : List ℕ) (given : Option (List ℕ)) (below : ℕ) (records : List Record) (handed : List Handed) (trees : Option Trees)
    (draw : Draw) (next : List Record → Outcome (List ℕ)) → IsReady key name (suc below) records handed → trees_of key.secret ≡ trees
    → IsTreeDraw draw → ((all : List Record) → IsReady key name below all handed → KeepsHanded handed name given (next all))
    → KeepsHanded handed name given (extended (open_state records) key (bottom_of key.secret - below) trees draw next)
kept_extended key name given below records handed None draw next ready are drawn later = kept_refused
    (open_state records) handed name given RandomFailed ready.kept
kept_extended key name given below records handed (Some trees) draw next ready are drawn later =
    kept_identifier key name given below records handed trees draw.fields draw.fate next ready are drawn later

-- ---- a new binding

pub bound_can : (key : Key) (records : List Record) (bound : Bound) → has_moved records ≡ false
    → is_free key.secret records (bottom_of key.secret) bound.leaf ≡ true
    → binding_at records bound.name ≡ None → has_randomizer key.secret bound.randomizer ≡ true → can_follow (Some key) records (BoundRecord bound) ≡ true
bound_can key records bound stays free unbound drawn =
    and_from _ _ (not_from_false _ stays) (and_from _ _ (and_from _ _ free (not_from_false _ (ap is_some unbound))) drawn)

kept_bound : (key : Key) (name : List ℕ) (given : Option (List ℕ)) (records : List Record) (handed : List Handed) (randomizer : Option (List ℕ)) (fate : Fate)
    → IsReady key name 0 records handed → ((drawn : List ℕ) → randomizer ≡ Some drawn → (length drawn ≡ 32) × (has_randomizer key.secret drawn ≡ true))
    → KeepsHanded handed name given (bound_message (open_state records) key name randomizer given fate)
kept_bound key name given records handed None fate ready drawn = kept_refused (open_state records) handed name given RandomFailed ready.kept
kept_bound key name None records handed (Some randomizer) fate ready drawn = kept_refused (open_state records) handed name None MessageRead ready.kept
kept_bound key name (Some message) records handed (Some randomizer) fate ready drawn =
    let bottom = bottom_of key.secret in
    let leaf = next_at key.secret records bottom in
    let bound = new_bound key records name leaf randomizer message in
    let entry = BoundRecord bound in
    let all = records ++ entry ∷ [] in
    let some = some_keyed records key ready.keyed in
    let here : bottom - 0 ≡ bottom = omega arith in
    let free : 0 < free_at key.secret records bottom = subst (λ l. 0 < free_at key.secret records l) here ready.free in
    let (size, fits) = drawn randomizer refl in
    let can = bound_can key records bound ready.stays (free_named key.secret records bottom free) ready.unbound fits in
    let secret_sized = key_has_sizes records key ready.kept.sizes ready.keyed in
    let sized : HasSizes entry = (size, digest_size key.secret key.root records (length records) leaf randomizer message secret_sized) in
    let more = kept_grown records handed key entry ready.kept ready.keyed can refl sized in
    let x : Handed = record { name = name; message = message; signature = textbook_signature key all (length records) bound } in
    let is : IsRecorded all x = record {
      key = key;
      k = length records;
      bound = bound;
      is_bound = record {
        keyed = key_stays records (entry ∷ []) key ready.keyed;
        named = binding_new records bound ready.unbound;
        digest = digest_stays key records (entry ∷ []) (length records) leaf randomizer message some (omega arith);
      };
      signature = refl;
    } in
    kept_append (open_state records) handed name (Some message) entry fate _ ready.kept more (kept_handed all handed x more is)

-- ---- all new records

pub first_drawn : (draws : List Draw) → AllByRecursion IsTreeDraw draws → IsTreeDraw (first_draw draws)
first_drawn [] all = tt
first_drawn (draw ∷ draws) all = all.0

pub later_drawn : (draws : List Draw) → AllByRecursion IsTreeDraw draws → AllByRecursion IsTreeDraw (drop 1 draws)
later_drawn [] all = all
later_drawn (draw ∷ draws) all = all.1

kept_bound_below : (key : Key) (name : List ℕ) (chance : Chance) (handed : List Handed) (below : ℕ) (draws : List Draw) (records : List Record)
    → AllByRecursion IsTreeDraw draws
    → AreFields (32 ∷ []) chance.bound.fields → IsReady key name below records handed
    → KeepsHanded handed name chance.given (bound_trees key name chance below draws records)
kept_bound_below key name chance handed zero draws records trees bound ready =
    kept_bound key name chance.given records handed (randomizer_of_fields key.secret chance.bound.fields) chance.bound.fate ready
    (λ drawn is. randomizer_size key.secret chance.bound.fields drawn bound is)
kept_bound_below key name chance handed (suc below) draws records trees bound ready =
    kept_extended key name chance.given below records handed (trees_of key.secret) (first_draw draws) _ ready refl (first_drawn draws trees)
    (λ all more. kept_bound_below key name chance handed below (drop 1 draws) all (later_drawn draws trees) bound more)

kept_sound : (state : State) (handed : List Handed) (key : Key) (name : List ℕ) (chance : Chance) (level : ℕ) (damaged : Option ℕ) → AreDraws chance
    → IsReady key name (bottom_of key.secret - level) state.records handed → KeepsHanded handed name chance.given (bound_sound state key name chance level damaged)
kept_sound state handed key name chance level (Some slot) drawn ready = kept_refused state handed name chance.given (Damaged slot) ready.kept
kept_sound state handed key name chance level None drawn ready =
    kept_bound_below key name chance handed (bottom_of key.secret - level) chance.trees state.records drawn.trees drawn.bound ready

kept_level : (limit : ℕ) (state : State) (handed : List Handed) (key : Key) (name : List ℕ) (chance : Chance) (level : Option ℕ) → AreDraws chance
    → IsKept state.records handed
    → the_key state.records ≡ Some key → has_moved state.records ≡ false → binding_at state.records name ≡ None → deepest key.secret state.records ≡ level
    → KeepsHanded handed name chance.given (bound_level limit state key name chance level)
kept_level limit state handed key name chance None drawn kept keyed stays unbound is = kept_refused state handed name chance.given Exhausted kept
kept_level limit state handed key name chance (Some level) drawn kept keyed stays unbound is =
    let (inside, free, others) = deepest_is key.secret state.records level is in
    let place : level ≡ bottom_of key.secret - (bottom_of key.secret - level) = omega (arith, inside) in
    let ready : IsReady key name (bottom_of key.secret - level) state.records handed = record {
      kept = kept;
      keyed = keyed;
      stays = stays;
      unbound = unbound;
      inside = omega (arith, inside);
      free = subst (λ l. 0 < free_at key.secret state.records l) place free;
    } in
    kept_choice (KeepsHanded handed name chance.given) (nat_lt limit (length state.records + wanted_count key.secret level)) _ _
    (λ full. kept_refused state handed name chance.given LedgerFull kept)
    (λ fits. kept_choice (KeepsHanded handed name chance.given) (not chance.has_room) _ _ (λ none. kept_refused state handed name chance.given OutOfMemory kept)
    (λ room. kept_sound state handed key name chance level
    (damaged_at key level state.records (current_at level state.records (length state.records))) drawn ready))

-- ---- a name that is bound

pub not_false : (test : Bool) → not test ≡ false → test ≡ true
not_false true e = refl
not_false false e = absurd (cc)

kept_repeated_sound : (state : State) (handed : List Handed) (key : Key) (name message : List ℕ) (k : ℕ) (bound : Bound) (damaged : Option ℕ)
    → IsKept state.records handed
    → IsBoundTo state.records key name message k bound → KeepsHanded handed name (Some message) (repeated_sound state key k bound damaged)
kept_repeated_sound state handed key name message k bound (Some slot) kept is = kept_refused state handed name (Some message) (Damaged slot) kept
kept_repeated_sound state handed key name message k bound None kept is =
    kept_handed state.records handed _ kept (record { key = key; k = k; bound = bound; is_bound = is; signature = refl })

kept_repeated : (state : State) (handed : List Handed) (key : Key) (name : List ℕ) (k : ℕ) (bound : Bound) (chance : Chance) (given : Option (List ℕ))
    → IsKept state.records handed
    → the_key state.records ≡ Some key → binding_at state.records name ≡ Some (k, bound) → KeepsHanded handed name given (repeated state key k bound chance given)
kept_repeated state handed key name k bound chance None kept keyed named = kept_refused state handed name None MessageRead kept
kept_repeated state handed key name k bound chance (Some message) kept keyed named =
    let digest = digest_at key state.records k bound.leaf bound.randomizer message in
    kept_choice (KeepsHanded handed name (Some message)) (not (are_same digest bound.digest)) _ _
    (λ other. kept_refused state handed name (Some message) Changed kept)
    (λ same. kept_choice (KeepsHanded handed name (Some message)) (not chance.has_room) _ _ (λ none. kept_refused state handed name (Some message) OutOfMemory kept)
    (λ room. kept_repeated_sound state handed key name message k bound _ kept
    (record { keyed = keyed; named = named; digest = (bytes_decides digest bound.digest).0 (not_false _ same) })))

-- ---- any request

kept_of : (limit : ℕ) (state : State) (handed : List Handed) (key : Key) (name : List ℕ) (chance : Chance) (found : Option (ℕ × Bound)) → AreDraws chance
    → IsKept state.records handed
    → the_key state.records ≡ Some key → has_moved state.records ≡ false → binding_at state.records name ≡ found
    → KeepsHanded handed name chance.given (requested_binding limit state key name chance found)
kept_of limit state handed key name chance (Some (k, bound)) drawn kept keyed stays is = kept_repeated state handed key name k bound chance chance.given
    kept keyed is
kept_of limit state handed key name chance None drawn kept keyed stays is =
    kept_choice (KeepsHanded handed name chance.given) (is_long key name) _ _ (λ long. kept_refused state handed name chance.given LongName kept)
    (λ short. kept_level limit state handed key name chance (deepest key.secret state.records) drawn kept keyed stays is refl)

kept_key : (limit : ℕ) (state : State) (handed : List Handed) (name : List ℕ) (chance : Chance) (found : Option Key) → AreDraws chance
    → IsKept state.records handed
    → the_key state.records ≡ found → KeepsHanded handed name chance.given (requested_key limit state name chance found)
kept_key limit state handed name chance None drawn kept keyed = kept_refused state handed name chance.given Stopped kept
kept_key limit state handed name chance (Some key) drawn kept keyed =
    kept_choice (KeepsHanded handed name chance.given) (not state.is_open) _ _ (λ closed. kept_refused state handed name chance.given Stopped kept)
    (λ open_now. kept_choice (KeepsHanded handed name chance.given) (has_moved state.records) _ _
    (λ moved. kept_refused state handed name chance.given MovedAway kept)
    (λ stays. kept_of limit state handed key name chance (binding_at state.records name) drawn kept keyed stays refl))

pub kept_request : (limit : ℕ) (state : State) (handed : List Handed) (name : List ℕ) (chance : Chance) → AreDraws chance → IsKept state.records handed
    → KeepsHanded handed name chance.given (requested limit state name chance)
kept_request limit state handed name chance drawn kept = kept_key limit state handed name chance (the_key state.records) drawn kept refl
