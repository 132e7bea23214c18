-- For every spec some run of the world hands out a signature, and the headline's clauses are false of wrong signers.
use Rattle.std.proofs.Common.{◌≡◌, ◌≢◌, ◌∙◌, refl, sym, ap, subst, ℕ, zero, suc, ◌+◌, ◌-◌, ◌<◌, ◌≤◌, inl, inr, true, List, [], ◌∷◌, ◌++◌, length}
use Rattle.std.proofs.Common.{Option, Some, None, Result, Ok, Err, replicate, arith, get_or, false, true≢false}
use Rattle.std.proofs.Common.{append-nil, length-append, take}
use Rattle.std.specs.Prelude.{slice_get, Contains}
use Rattle.std.specs.List.{AllByRecursion, concat}
use Rattle.std.specs.Option.{option_to_list}
use Rattle.std.proofs.lemmas.Bool.{cases_lt, cases_order}
use Rattle.std.proofs.lemmas.List.{get_or-replicate, get_or_past, length-replicate}
use Rattle.std.proofs.lemmas.Option.{none-some, same_Some, slice_get_within}
use Rattle.typecodes.specs.declared.spec.Spec.{Spec}
use Rattle.typecodes.specs.declared.spec.Spec.TheVariants.{Lms as LmsSpec, Hss as HssSpec, Xmss as XmssSpec}
use Rattle.typecodes.specs.Layout.{AreBytes}
use Rattle.typecodes.specs.Name.{IsName}
use Rattle.typecodes.specs.Spec.{IsSpec}
use Rattle.state_file.specs.Laws.{bottom_of, identifier_of, levels_of}
use Rattle.state_file.specs.Slot.{name_most}
use Rattle.state_file.specs.declared.record.Extend.{Extend}
use Rattle.state_file.specs.declared.record.Key.{Key}
use Rattle.state_file.specs.declared.record.Record.{Record}
use Rattle.state_file.specs.declared.record.Record.TheVariants.{Bound as BoundRecord, Extend as ExtendRecord, Key as KeyRecord}
use Rattle.state_file.specs.declared.record.Secret.{Secret}
use Rattle.state_file.specs.declared.record.Secret.TheVariants.{Lms, Hss, Xmss}
use Rattle.state_file.specs.declared.record.Version.{Version}
use Rattle.state_file.specs.Disk.{Counts, LeavesOnly}
use Rattle.sign_core.specs.declared.key.AnyPublic.{AnyPublic}
use Rattle.sign_core.specs.declared.fault.SignFault.{SignFault}
use Rattle.sign_core.specs.declared.fault.SignFault.TheVariants.{Changed, Exhausted, MessageRead, OutOfMemory, RandomRepeated, Stopped}
use Rattle.sign_core.specs.declared.fault.SignFault.TheVariants.{Moved as MovedAway}
use Rattle.sign_core.specs.AfterRefusal.{LeavesRecords, LeavesRequested}
use Rattle.sign_core.specs.declared.source.Source as source
use Rattle.sign_core.specs.Source.{Provides}
use Rattle.sign_core.specs.Cuts.{IsBeginning, reached}
use Rattle.sign_core.specs.Events.{AllEvents, AreDrawsOf, AreFields, key_sizes, randomizer_sizes, tree_sizes}
use Rattle.sign_core.specs.HeadlineOfCalls.{AnswersAgain, BottomDigests}
use Rattle.sign_core.specs.NotEmpty.{InMemory, IsSignedByCalls, IsSignedInRun, NotEmptyLaw, NotEmptyOfCalls, RefusesWrongAnswers}
use Rattle.sign_core.specs.NotEmpty.{RefusesWrongSigners, in_memory, without_records}
use Rattle.sign_core.specs.Once.{IsOnce}
use Rattle.sign_core.specs.Progress.{types_of_key}
use Rattle.sign_core.specs.Records.{deepest, free_at, has_moved, the_key, types_of}
use Rattle.sign_core.specs.Requests.{AreComplete, IsComplete, IsSigned}
use Rattle.sign_core.specs.Serving.{SignsGiven}
use Rattle.sign_core.specs.Signer.{Creates, IsSigner, KeepsStore, RefusesMemory, View, is_store_failed}
use Rattle.sign_core.specs.SignerCalls.{world_of}
use Rattle.sign_core.specs.Textbook.{lms_secret, textbook_signature}
use Rattle.sign_core.specs.World.{Chance, Creation, Draw, Handed, Outcome, State, World, acked, after, answered, beginning, create, drawing}
use Rattle.sign_core.specs.World.{new_key, open_state}
use Rattle.sign_core.specs.World.{request, requested, secret_of_fields}
use Rattle.sign_core.proofs.law.Acknowledged.{open_acknowledged}
use Rattle.sign_core.proofs.law.AfterRefusal.{after_refusal_law}
use Rattle.sign_core.proofs.records.OneMore.{take_of_longer}
use Rattle.sign_core.proofs.records.Bindings.{identifier_stands}
use Rattle.sign_core.proofs.law.KeptByRuns.{kept_by_run}
use Rattle.sign_core.proofs.records.FreeLeaves.{none_free}
use Rattle.sign_core.proofs.calls.Lives.{no_run, run_once}
use Rattle.sign_core.proofs.law.KeptByEvents.{IsKept, sound_with}
use Rattle.sign_core.proofs.law.KeptByRequests.{free_anew}

-- ---- fields of one byte

same_bytes : (n b : ℕ) → b < 256 → AreBytes (replicate n b)
same_bytes n b low i = elim (cases_order i n) [
  | inl same ↦ omega (arith, get_or_past (replicate n b) i 0 (omega (arith, length-replicate {A = ℕ} n b, same)))
  | inr (inl inside) ↦ omega (arith, low, get_or-replicate n i b 0 inside)
  | inr (inr beyond) ↦ omega (arith, get_or_past (replicate n b) i 0 (omega (arith, length-replicate {A = ℕ} n b, beyond)))
]

tree_draw : ℕ → Draw
tree_draw n = record { fields = replicate 16 n ∷ replicate 32 0 ∷ replicate 32 0 ∷ []; fate = acked }

-- draws for this many trees, whose I differ
tree_draws : (count from : ℕ) → List Draw
tree_draws zero from = []
tree_draws (suc count) from = tree_draw from ∷ tree_draws count (suc from)

tree_draw_at : (count from i : ℕ) (draw : Draw) → slice_get (tree_draws count from) i ≡ Some draw → (draw ≡ tree_draw (from + i)) × (i < count)
unfolding tree_draws
tree_draw_at zero from i draw is = absurd (none-some draw is)
tree_draw_at (suc count) from zero draw is =
    let here : from ≡ from + 0 = omega arith in
    (sym (same_Some (tree_draw from) draw is) ∙ ap tree_draw here, omega arith)
tree_draw_at (suc count) from (suc i) draw is =
    let (same, inside) = tree_draw_at count (suc from) i draw is in
    let next : suc from + i ≡ from + suc i = omega arith in
    (same ∙ ap tree_draw next, omega (arith, inside))

tree_draws_count : (count from : ℕ) → length (tree_draws count from) ≡ count
unfolding tree_draws
tree_draws_count zero from = refl
tree_draws_count (suc count) from = ap suc (tree_draws_count count (suc from))

are_tree_draws : (count from : ℕ) → from + count ≤ 256 → AllByRecursion (λ draw. AreFields tree_sizes draw.fields) (tree_draws count from)
unfolding tree_draws tree_draw
are_tree_draws zero from low = tt
are_tree_draws (suc count) from low =
    ((length-replicate {A = ℕ} 16 from, same_bytes 16 from (omega (arith, low)), (length-replicate {A = ℕ} 32 0, same_bytes 32 0 (omega arith), (length-replicate {A = ℕ} 32 0, same_bytes 32 0 (omega arith), tt))), are_tree_draws count (suc from) (omega (arith, low)))

complete_draw : (n : ℕ) → IsComplete tree_sizes (tree_draw n)
unfolding tree_draw
complete_draw n = record { fields = refl; acknowledged = refl }

-- ---- a key

key_fields : Spec → List (List ℕ)
key_fields (LmsSpec pair) = replicate 16 0 ∷ replicate 32 0 ∷ []
key_fields (HssSpec levels) = replicate 16 0 ∷ replicate 32 0 ∷ []
key_fields (XmssSpec tree) = replicate 32 0 ∷ replicate 32 0 ∷ replicate 32 0 ∷ []

made_secret : Spec → Secret
made_secret (LmsSpec pair) = Lms (lms_secret pair (replicate 16 0) (replicate 32 0))
made_secret (HssSpec levels) = Hss levels (replicate 16 0) (replicate 32 0)
made_secret (XmssSpec tree) = Xmss (record { tree = tree; secret_seed = replicate 32 0; prf_key = replicate 32 0; public_seed = replicate 32 0 })

is_made : (spec : Spec) → secret_of_fields spec (key_fields spec) ≡ Some (made_secret spec)
unfolding key_fields made_secret
is_made (LmsSpec pair) = refl
is_made (HssSpec levels) = refl
is_made (XmssSpec tree) = refl

key_drawn : (spec : Spec) → AreFields (key_sizes spec) (key_fields spec)
unfolding key_fields
key_drawn (LmsSpec pair) = (length-replicate {A = ℕ} 16 0, same_bytes 16 0 (omega arith), (length-replicate {A = ℕ} 32 0, same_bytes 32 0 (omega arith), tt))
key_drawn (HssSpec levels) = (length-replicate {A = ℕ} 16 0, same_bytes 16 0 (omega arith), (length-replicate {A = ℕ} 32 0, same_bytes 32 0 (omega arith), tt))
key_drawn (XmssSpec tree) = (length-replicate {A = ℕ} 32 0, same_bytes 32 0 (omega arith), (length-replicate {A = ℕ} 32 0, same_bytes 32 0 (omega arith), (length-replicate {A = ℕ} 32 0, same_bytes 32 0 (omega arith), tt)))

-- its I, if it has one
key_identifier : (spec : Spec) (version : Version) (identifier : List ℕ) → identifier_of (KeyRecord (new_key version (made_secret spec))) ≡ Some identifier
    → identifier ≡ replicate 16 0
unfolding made_secret
key_identifier (LmsSpec pair) version identifier is = sym (same_Some (replicate 16 0) identifier is)
key_identifier (HssSpec levels) version identifier is = sym (same_Some (replicate 16 0) identifier is)
key_identifier (XmssSpec tree) version identifier is = absurd (none-some identifier is)

levels_made : (spec : Spec) → IsSpec spec → (1 ≤ levels_of (made_secret spec)) × (levels_of (made_secret spec) ≤ 8)
unfolding made_secret
levels_made (LmsSpec pair) can = (omega arith, omega arith)
levels_made (HssSpec levels) can = can
levels_made (XmssSpec tree) can = (omega arith, omega arith)

types_made : (spec : Spec) → types_of (made_secret spec) ≡ spec
unfolding made_secret
types_made (LmsSpec pair) = refl
types_made (HssSpec levels) = refl
types_made (XmssSpec tree) = refl

bound_draw : Spec → Draw
bound_draw (LmsSpec pair) = record { fields = replicate 32 0 ∷ []; fate = acked }
bound_draw (HssSpec levels) = record { fields = replicate 32 0 ∷ []; fate = acked }
bound_draw (XmssSpec tree) = record { fields = []; fate = acked }

bound_complete : (spec : Spec) → IsComplete (randomizer_sizes (made_secret spec)) (bound_draw spec)
unfolding bound_draw made_secret
bound_complete (LmsSpec pair) = record { fields = refl; acknowledged = refl }
bound_complete (HssSpec levels) = record { fields = refl; acknowledged = refl }
bound_complete (XmssSpec tree) = record { fields = refl; acknowledged = refl }

bound_drawn : (spec : Spec) → AreFields (32 ∷ []) (bound_draw spec).fields
unfolding bound_draw
bound_drawn (LmsSpec pair) = (length-replicate {A = ℕ} 32 0, same_bytes 32 0 (omega arith), tt)
bound_drawn (HssSpec levels) = (length-replicate {A = ℕ} 32 0, same_bytes 32 0 (omega arith), tt)
bound_drawn (XmssSpec tree) = tt

-- ---- no I is drawn again

-- nothing stands after 24 that wasn't acknowledged
whole_after : (records : List Record) (IsWanted : Record → Type 0) (outcome : Outcome (List ℕ)) (failed : Option Record) → LeavesRecords records IsWanted outcome
    → outcome.failed ≡ failed → outcome.answer ≡ Err RandomRepeated → outcome.state.records ≡ records
whole_after records IsWanted outcome None leaves is again = leaves.whole is
whole_after records IsWanted outcome (Some entry) leaves is again = absurd (let same = sym again ∙ (leaves.cut entry is).0 in cc (same))

first_byte : (a b : ℕ) → replicate {A = ℕ} 16 a ≡ replicate 16 b → a ≡ b
first_byte a b same = ap (λ l. get_or l 0 0) same

-- The Key, and trees that this request drew.
record AreBegun (key : Key) (draws : List Draw) (left : List Record) : Type 0 where
  trees : List Record
  are : left ≡ (KeyRecord key ∷ []) ++ trees
  each : (i : ℕ) (entry : Record) → slice_get trees i ≡ Some entry
      → (draw : Draw) × (extend : Extend) × (slice_get draws i ≡ Some draw) × (entry ≡ ExtendRecord extend)
      × (draw.fields ≡ extend.identifier ∷ extend.seed ∷ extend.randomizer ∷ [])

begun_trees : (key : Key) (name : List ℕ) (chance : Chance) (outcome : Outcome (List ℕ))
    → LeavesRequested (open_state (KeyRecord key ∷ [])) name chance outcome → outcome.answer ≡ Err RandomRepeated
    → AreBegun key chance.trees outcome.state.records
begun_trees key name chance outcome (inl (leaves, drawn)) again = record {
  trees = [];
  are = whole_after (KeyRecord key ∷ []) _ outcome outcome.failed leaves refl again;
  each = λ i entry at. absurd (none-some entry at);
}
begun_trees key name chance outcome (inr begun) again = record {
  trees = begun.left.trees;
  are = whole_after ((KeyRecord key ∷ []) ++ begun.left.trees) _ outcome outcome.failed begun.left.leaves refl again;
  each = λ i entry at.
      let drawn = begun.left.each i entry at in
      (drawn.draw, drawn.begins.extend, drawn.is_draw, drawn.begins.is, drawn.begins.drawn);
}

head_of : (n : ℕ) → get_or (tree_draw n).fields 0 [] ≡ replicate 16 n
unfolding tree_draw
head_of n = refl

fields_head : (n : ℕ) (draw : Draw) (identifier : List ℕ) (later : List (List ℕ)) → draw ≡ tree_draw n → draw.fields ≡ identifier ∷ later
    → identifier ≡ replicate 16 n
fields_head n draw identifier later made drawn =
    ap (λ (l : List (List ℕ)). get_or l 0 []) (sym drawn) ∙ ap (λ (d : Draw). get_or d.fields 0 []) made ∙ head_of n

-- an I of these records isn't the next draw's
stands_not : (spec : Spec) (version : Version) (count begun k : ℕ) (left : List Record) (entry : Record) (identifier : List ℕ)
    → (are : AreBegun (new_key version (made_secret spec)) (tree_draws count 1) left) → length left ≡ 1 + begun → slice_get left k ≡ Some entry
    → identifier_of entry ≡ Some identifier → identifier ≡ replicate 16 (1 + begun) → ⊥
stands_not spec version count begun zero left entry identifier are longer at own is =
    let key : Record = KeyRecord (new_key version (made_secret spec)) in
    let first : key ≡ entry = same_Some key entry (sym (ap (λ l. slice_get l 0) are.are) ∙ at) in
    let zeros : identifier ≡ replicate 16 0 = key_identifier spec version identifier (ap identifier_of first ∙ own) in
    let same : 0 ≡ 1 + begun = first_byte 0 (1 + begun) (sym zeros ∙ is) in
    omega (arith, same)
stands_not spec version count begun (suc j) left entry identifier are longer at own is =
    let there : slice_get are.trees j ≡ Some entry = sym (ap (λ l. slice_get l (suc j)) are.are) ∙ at in
    let (draw, extend, is_draw, entry_is, drawn) = are.each j entry there in
    let (made, inside) = tree_draw_at count 1 j draw is_draw in
    let own_id : extend.identifier ≡ identifier = same_Some extend.identifier identifier (sym (ap identifier_of entry_is) ∙ own) in
    let drawn_id : extend.identifier ≡ replicate 16 (1 + j) = fields_head (1 + j) draw extend.identifier (extend.seed ∷ extend.randomizer ∷ []) made drawn in
    let same : 1 + j ≡ 1 + begun = first_byte (1 + j) (1 + begun) (sym drawn_id ∙ own_id ∙ is) in
    let within : j < length are.trees = slice_get_within are.trees j entry there in
    omega (arith, same, within, longer, ap length are.are)

-- what is drawn, for XMSS without a C
bound_drawn_of : (spec : Spec) → AreFields (randomizer_sizes (made_secret spec)) (bound_draw spec).fields
unfolding bound_draw made_secret
bound_drawn_of (LmsSpec pair) = (length-replicate {A = ℕ} 32 0, same_bytes 32 0 (omega arith), tt)
bound_drawn_of (HssSpec levels) = (length-replicate {A = ℕ} 32 0, same_bytes 32 0 (omega arith), tt)
bound_drawn_of (XmssSpec tree) = tt

-- ---- a store in memory

abbrev in_store : List Record → (most : ℕ) → (loads : List ℕ) → InMemory
in_store records most loads = record { records = records; most = most; loads = loads }

abbrev view_on : {R : Type 0} → (random : R) → (most : ℕ) → List Record → View InMemory R
view_on random most records = record {
  store = in_store records most (0 ∷ []);
  random = random;
  records = records;
  is_open = true;
  spare = 9;
  cached = record { levels = []; xmss = None };
}

memory_leaves : (old more all : List Record) (most : ℕ) (loads later : List ℕ) → all ≡ old ++ more
    → LeavesOnly in_memory.moment in_memory.left_since (in_store old most loads) (in_store (old ++ more) most later)
    (IsBeginning (length old) all)
memory_leaves old more all most loads later is =
    let longer : length old ≤ length (old ++ more) = omega (arith, length-append old more) in
    record {
      later = longer;
      each = λ left (k, enough, within, same). record { count = k; enough = enough; beginning = same ∙ ap (take k) (sym is) };
      before = λ t left early (k, enough, within, same). elim (cases_lt k (length old)) [
        | inl below ↦ inl (k, enough, omega (arith, below), same ∙ take_of_longer old more k (omega (arith, below)))
        | inr beyond ↦ inr (record { count = k; enough = beyond; beginning = same ∙ ap (take k) (sym is) })
      ];
      keeps = λ t left early (k, enough, within, same).
          (k, enough, omega (arith, within, longer), same ∙ sym (take_of_longer old more k within));
    }

signer_on : {R : Type 0} (random : R) (most : ℕ) (records : List Record) (handed : List Handed) (key : Key) → IsKept records handed
    → the_key records ≡ Some key → IsSigner in_memory (view_on random most records)
signer_on random most records handed key kept keyed =
    let sound = sound_with records handed key kept keyed in
    record {
      legal = sound.legal;
      sizes = kept.sizes;
      tied = λ opened. record { running = refl; same_length = refl; same = λ honest. refl };
      shut = λ closed. absurd (true≢false closed);
    }

-- a source whose next bytes aren't known gives any
gives_unknown : (upcoming : Option (List ℕ)) (bytes : List ℕ) → upcoming ≡ None → Provides upcoming bytes upcoming
gives_unknown None bytes is = refl
gives_unknown (Some known) bytes is = absurd (none-some known (sym is))

-- ---- the run

module _ (spec : Spec) (version : Version) (name message : List ℕ) (limit : ℕ) (can : IsSpec spec) where
  key : Key
  key = new_key version (made_secret spec)

  creation : Creation
  creation = record { version = version; failed_load = None; fields = key_fields spec; has_room = true; fate = acked }

  first_world : World
  first_world = world_of (open_state (KeyRecord key ∷ [])) []

  leads_first : after limit beginning (create spec creation) ≡ first_world
  unfolding key creation first_world
  leads_first =
      let begins = (run_once limit beginning (no_run limit beginning)).openings.begins spec (made_secret spec) creation can refl refl (is_made spec) refl refl in
      ap (λ (o : Outcome AnyPublic). world_of o.state []) begins.begins

  unfolded_drawn : AreFields (key_sizes spec) creation.fields
  unfolding creation
  unfolded_drawn = key_drawn spec

  first_once : IsOnce limit first_world
  unfolding creation
  first_once = run_once limit first_world (record { events = create spec creation ∷ []; possible = ((can, key_drawn spec), tt); leads = leads_first })

  first_free : 0 < free_at (made_secret spec) (KeyRecord key ∷ []) 0
  first_free = free_anew (made_secret spec) (KeyRecord key ∷ []) 0 0 (omega (arith, (levels_made spec can).0)) refl refl

  deepest_found : (found : Option ℕ) → deepest (made_secret spec) (KeyRecord key ∷ []) ≡ found
      → (level : ℕ) × (deepest (made_secret spec) (KeyRecord key ∷ []) ≡ Some level)
  deepest_found (Some level) is = (level, is)
  deepest_found None is =
      absurd (omega (arith, first_free, none_free (made_secret spec) (KeyRecord key ∷ []) is 0 (omega (arith, (levels_made spec can).0))))

  chance_for : (below : ℕ) → Chance
  chance_for below = record { has_room = true; trees = tree_draws below 1; bound = bound_draw spec; given = Some message }

  complete : (below : ℕ) → AreComplete (made_secret spec) below (chance_for below)
  unfolding chance_for
  complete below = record {
    enough = tree_draws_count below 1;
    each = λ i draw at. subst (IsComplete tree_sizes) (sym (tree_draw_at below 1 i draw at).0) (complete_draw (1 + i));
    bound = bound_complete spec;
    room = refl;
  }

  not_again : (below : ℕ) → (requested limit first_world.state name (chance_for below)).answer ≡ Err RandomRepeated → ⊥
  unfolding chance_for key first_world
  not_again below again =
      let chance = chance_for below in
      let outcome = requested limit first_world.state name chance in
      let drew = first_once.requests.again name chance again in
      let (k, entry, at, own) = identifier_stands outcome.state.records drew.identifier drew.stands in
      let begun = begun_trees key name chance outcome (after_refusal_law.request limit first_world.state name chance (RandomRepeated, again)) again in
      let made = (tree_draw_at below 1 drew.begun drew.draw drew.is_draw).0 in
      stands_not spec version below drew.begun k outcome.state.records entry drew.identifier begun drew.longer at own
      (fields_head (1 + drew.begun) drew.draw drew.identifier drew.later made drew.fields)

  abbrev NewSigned : (level : ℕ) → Type 0
  NewSigned level =
      let chance = chance_for (bottom_of (made_secret spec) - level) in
      IsSigned key (KeyRecord key ∷ []) level name message chance (requested limit first_world.state name chance)

  signed_new : length name ≤ name_most version → 9 ≤ limit → (level : ℕ) × NewSigned level
  unfolding chance_for key first_world
  signed_new short large =
      let (level, level_is) = deepest_found (deepest (made_secret spec) (KeyRecord key ∷ [])) refl in
      let below = bottom_of (made_secret spec) - level in
      let few = (levels_made spec can).1 in
      let answers = first_once.requests.fresh key level name message (chance_for below) refl refl refl refl short level_is
      (omega (arith, few, large)) refl (complete below) in
      elim answers as (λ u. (level : ℕ) × NewSigned level) [
        | inl again ↦ absurd (not_again below again)
        | inr signed ↦ (level, signed)
      ]

  -- ---- the calls

  creates_in : {R : Type 0} (r : source.Ghosts R) (random : R) → r.upcoming random ≡ None
      → Creates in_memory r version spec (without_records limit) random (Ok (view_on random limit (KeyRecord key ∷ [])))
  unfolding key creation
  creates_in r random unknown =
      let begins = (run_once limit beginning (no_run limit beginning)).openings.begins spec (made_secret spec) creation can refl refl (is_made spec) refl refl in
      record {
        chance = creation;
        of_version = refl;
        outcome = drawing (concat creation.fields) (answered (open_state (KeyRecord key ∷ [])) begins.public);
        step = begins.begins;
        answer = (begins.public, refl, begins.is_public, refl, refl);
        store = record {
          list = record { more = KeyRecord key ∷ []; list = refl; records = refl };
          moments = λ honest running. memory_leaves [] (KeyRecord key ∷ []) (KeyRecord key ∷ []) limit [] (0 ∷ []) refl;
          failures = refl;
          honest = refl;
          most = refl;
        };
        stopped = refl;
        load = refl;
        possible = key_drawn spec;
        source = gives_unknown (r.upcoming random) _ unknown;
        leaves = tt;
        failures = refl;
        room = refl;
        refusals = refl;
        unreadable = refl;
        asked = refl;
        stays = λ stopped. absurd (true≢false (sym stopped));
      }

  module _ (level : ℕ) (signed : NewSigned level) where
    chance : Chance
    chance = chance_for (bottom_of (made_secret spec) - level)

    signature : List ℕ
    signature = textbook_signature key ((KeyRecord key ∷ []) ++ signed.trees ++ BoundRecord signed.bound ∷ [])
        (length ((KeyRecord key ∷ []) ++ signed.trees)) signed.bound

    more : List Record
    more = signed.trees ++ BoundRecord signed.bound ∷ []

    outcome : Outcome (List ℕ)
    outcome = requested limit (open_state (KeyRecord key ∷ [])) name chance

    state_is : outcome.state ≡ open_state ((KeyRecord key ∷ []) ++ more)
    unfolding outcome more chance first_world
    state_is = signed.state

    answer_is : outcome.answer ≡ Ok signature
    unfolding outcome signature chance first_world
    answer_is = signed.answer

    uncut : outcome.failed ≡ None
    unfolding outcome chance first_world
    uncut = signed.uncut

    acknowledged_is : outcome.acknowledged ≡ (KeyRecord key ∷ []) ++ more
    unfolding outcome
    acknowledged_is =
        open_acknowledged limit (world_of (open_state (KeyRecord key ∷ [])) []) (request name chance)
        (ap (λ (s : State). s.is_open) state_is) ∙ ap (λ (s : State). s.records) state_is

    reached_is : reached outcome ≡ (KeyRecord key ∷ []) ++ more
    reached_is = ap (λ failed. outcome.acknowledged ++ option_to_list failed) uncut
        ∙ append-nil outcome.acknowledged ∙ acknowledged_is

    longer : 1 < length ((KeyRecord key ∷ []) ++ more)
    unfolding more
    longer = omega (arith, length-append signed.trees (BoundRecord signed.bound ∷ []))

    abbrev before : {R : Type 0} → R → View InMemory R
    before random = view_on random limit (KeyRecord key ∷ [])

    abbrev after_it : {R : Type 0} → R → View InMemory R
    after_it random = view_on random limit ((KeyRecord key ∷ []) ++ more)

    keeps_store : KeepsStore in_memory (in_store (KeyRecord key ∷ []) limit (0 ∷ [])) (in_store ((KeyRecord key ∷ []) ++ more) limit (0 ∷ []))
        (KeyRecord key ∷ []) outcome
    keeps_store = record {
      list = record { more = more; list = refl; records = ap (λ (s : State). s.records) state_is };
      moments = λ honest running. memory_leaves (KeyRecord key ∷ []) more (reached outcome) limit (0 ∷ []) (0 ∷ []) reached_is;
      failures = subst (Counts is_store_failed 0 0) (sym answer_is) refl;
      honest = refl;
      most = refl;
    }

    possible : AreDrawsOf (made_secret spec) chance
    unfolding chance chance_for
    possible = record {
      trees = are_tree_draws (bottom_of (made_secret spec) - level) 1 (let few = (levels_made spec can).1 in omega (arith, few));
      bound = bound_drawn_of spec;
    }

    has_room : chance.has_room ≡ true
    unfolding chance chance_for
    has_room = refl

    given_is : chance.given ≡ Some message
    unfolding chance chance_for
    given_is = refl

    of_key : key.secret ≡ made_secret spec
    unfolding key
    of_key = refl

    signs_in : {R : Type 0} (r : source.Ghosts R) (random : R) → r.upcoming random ≡ None
        → SignsGiven in_memory r (before random) (after_it random) name (Some message) 0 (Ok signature)
    unfolding outcome
    signs_in r random unknown = record {
      answers = record {
        key = key;
        keyed = refl;
        chance = chance;
        outcome = outcome;
        step = refl;
        ends = record {
          answer_is = answer_is;
          records = sym acknowledged_is;
          is_open = sym (ap (λ (s : State). s.is_open) state_is);
          store = keeps_store;
          unreadable = refl;
          asked = refl;
        };
        possible = subst (λ s. AreDrawsOf s chance) (sym of_key) possible;
        source = gives_unknown (r.upcoming random) outcome.drawn unknown;
        failures = refl;
        room = λ none. absurd (true≢false (sym has_room ∙ none));
        refusals = subst (λ room. RefusesMemory {A = List ℕ} room (Ok signature) 0 0) (sym has_room) (inl refl);
        memory = omega (arith, longer);
        keeps = record {
          at_once = λ is. absurd (true≢false (sym is));
          caches = λ is. refl;
          unprepared = λ none. absurd (true≢false (sym has_room ∙ none));
          lacks_tree = λ room is same. absurd (cc);
          store = λ same quiet. absurd (omega (arith, longer, ap length same));
        };
      };
      message = λ is. given_is;
      repeat = λ bound. absurd (cc);
    }

    possible_events : IsName name → AllEvents (create spec creation ∷ request name chance ∷ [])
    unfolding chance chance_for
    possible_events named = (
      (can, unfolded_drawn),
      (
        (
          named,
          record {
            trees = are_tree_draws (bottom_of (made_secret spec) - level) 1 (let few = (levels_made spec can).1 in omega (arith, few));
            bound = bound_drawn spec;
          },
        ),
        tt,
      ),
    )

    kept_first : IsKept (KeyRecord key ∷ []) []
    unfolding first_world
    kept_first = subst (λ (w : World). IsKept w.state.records w.handed) leads_first
        (kept_by_run limit (create spec creation ∷ []) ((can, unfolded_drawn), tt))

    kept_then : IsName name → (handed : List Handed) × IsKept ((KeyRecord key ∷ []) ++ more) handed
    unfolding outcome first_world
    kept_then named =
        let kept = subst (λ (w : World). IsKept (after limit w (request name chance)).state.records (after limit w (request name chance)).handed)
        leads_first (kept_by_run limit (create spec creation ∷ request name chance ∷ []) (possible_events named)) in
        (_, subst (λ (s : State). IsKept s.records (after limit first_world (request name chance)).handed) state_is kept)

    key_typed : types_of_key (Some key) ≡ Some spec
    unfolding key
    key_typed = ap Some (types_made spec)

    in_run : IsName name → IsSignedInRun limit spec name message
    unfolding outcome first_world
    in_run named =
        let event = request name chance in
        let x : Handed = record { name = name; message = message; signature = signature } in
        record {
          events = create spec creation ∷ event ∷ [];
          possible = possible_events named;
          of_spec = subst (λ (w : World). types_of_key (the_key (after limit w event).state.records) ≡ Some spec) (sym leads_first)
              (ap (λ (s : State). types_of_key (the_key s.records)) state_is ∙ key_typed);
          signature = signature;
          handed = subst (λ (w : World). Contains (after limit w event).handed x) (sym leads_first)
              (first_once.requests.counted name message signature chance given_is answer_is);
        }

    by_calls : {R : Type 0} (r : source.Ghosts R) (random : R) → IsName name → r.upcoming random ≡ None
        → IsSignedByCalls r random spec version name message limit
    by_calls r random named unknown =
        let (handed, kept) = kept_then named in
        record {
          made = before random;
          new = after_it random;
          signature = signature;
          calls = (
            (can, creates_in r random unknown),
            signer_on random limit (KeyRecord key ∷ []) [] key kept_first refl,
            ((named, signs_in r random unknown), signer_on random limit ((KeyRecord key ∷ []) ++ more) handed key kept refl, tt),
          );
        }

  signed_in_run : IsName name → length name ≤ name_most version → 9 ≤ limit → IsSignedInRun limit spec name message
  signed_in_run named short large = let (level, signed) = signed_new short large in in_run level signed named

  signed_by_calls : {R : Type 0} (r : source.Ghosts R) (random : R) → IsName name → length name ≤ name_most version → 9 ≤ limit
      → r.upcoming random ≡ None → IsSignedByCalls r random spec version name message limit
  signed_by_calls r random named short large unknown =
      let (level, signed) = signed_new short large in by_calls level signed r random named unknown

pub not_empty_law : NotEmptyLaw
not_empty_law spec version name message limit can named short large = signed_in_run spec version name message limit can named short large

pub not_empty_of_calls : {R : Type 0} (r : source.Ghosts R) → NotEmptyOfCalls r
not_empty_of_calls r random spec version name message limit can named short large unknown =
    signed_by_calls spec version name message limit can r random named short large unknown

-- ---- wrong signers

pub refuses_wrong_signers : RefusesWrongSigners
refuses_wrong_signers = record {
  forks = λ public handed x y uses others u v first second of_first of_second one differs once.
      differs (once.one_digest x y uses others u v first second of_first of_second one);
  two_keys = λ public handed x there invalid once. invalid (once.valid x there);
  forgets = λ public handed x y first second named differs once. differs (once.one_signature x y first second named);
}

-- what an answer says of the request
module _ {S R : Type 0} (public : AnyPublic) (signer : View S R) (x : Handed) where
  of_ok : (given : Option (List ℕ)) (other : List ℕ) → AnswersAgain public signer x given (Ok other)
      → (other ≡ x.signature) × ((text : List ℕ) × (given ≡ Some text) × BottomDigests public x text (λ signed digest. signed ≡ digest))
  of_ok given other (inl (closed, is)) = absurd (cc (is))
  of_ok given other (inr (inl (opened, moved, is))) = absurd (cc (is))
  of_ok None other (inr (inr (opened, stays, is))) = absurd (cc (is))
  of_ok (Some text) other (inr (inr (opened, stays, inl (bound, inl is)))) = (cc (is), (text, refl, bound))
  of_ok (Some text) other (inr (inr (opened, stays, inl (bound, inr is)))) = absurd (cc (is))
  of_ok (Some text) other (inr (inr (opened, stays, inr (differs, is)))) = absurd (cc (is))

  data CauseOf (given : Option (List ℕ)) (fault : SignFault) : Type 0 where
    closed : signer.is_open ≡ false → fault ≡ Stopped → CauseOf given fault
    moved : has_moved signer.records ≡ true → fault ≡ MovedAway → CauseOf given fault
    unread : given ≡ None → fault ≡ MessageRead → CauseOf given fault
    no_memory : fault ≡ OutOfMemory → CauseOf given fault
    changed : (text : List ℕ) → given ≡ Some text → BottomDigests public x text (λ signed digest. signed ≢ digest) → fault ≡ Changed → CauseOf given fault

  of_err : (given : Option (List ℕ)) (fault : SignFault) → AnswersAgain public signer x given (Err fault) → CauseOf given fault
  of_err given fault (inl (shut, is)) = closed shut (cc (is))
  of_err given fault (inr (inl (opened, away, is))) = moved away (cc (is))
  of_err None fault (inr (inr (opened, stays, is))) = unread refl (cc (is))
  of_err (Some text) fault (inr (inr (opened, stays, inl (bound, inl is)))) = absurd (cc (is))
  of_err (Some text) fault (inr (inr (opened, stays, inl (bound, inr is)))) = no_memory (cc (is))
  of_err (Some text) fault (inr (inr (opened, stays, inr (differs, is)))) = changed text refl differs (cc (is))

  not_others : (given : Option (List ℕ)) (fault : SignFault) → CauseOf given fault → (fault ≡ Stopped → ⊥) → (fault ≡ MovedAway → ⊥) → (fault ≡ MessageRead → ⊥) → (fault ≡ Changed → ⊥)
      → (fault ≡ OutOfMemory → ⊥) → ⊥
  not_others given fault (closed shut is) a b c d e = a is
  not_others given fault (moved away is) a b c d e = b is
  not_others given fault (unread gave is) a b c d e = c is
  not_others given fault (no_memory is) a b c d e = e is
  not_others given fault (changed text gave differs is) a b c d e = d is

  not_changed : (given : Option (List ℕ)) → CauseOf given Changed → ((text : List ℕ) → given ≡ Some text → BottomDigests public x text (λ signed digest. signed ≢ digest) → ⊥) → ⊥
  not_changed given (closed shut is) all = cc (is)
  not_changed given (moved away is) all = cc (is)
  not_changed given (unread gave is) all = cc (is)
  not_changed given (no_memory is) all = cc (is)
  not_changed given (changed text gave differs is) all = all text gave differs

  not_stopped : (given : Option (List ℕ)) → CauseOf given Stopped → signer.is_open ≡ true → ⊥
  not_stopped given (closed shut is) opened = true≢false (sym opened ∙ shut)
  not_stopped given (moved away is) opened = cc (is)
  not_stopped given (unread gave is) opened = cc (is)
  not_stopped given (no_memory is) opened = cc (is)
  not_stopped given (changed text gave differs is) opened = cc (is)

  not_moved : (given : Option (List ℕ)) → CauseOf given MovedAway → has_moved signer.records ≡ false → ⊥
  not_moved given (closed shut is) stays = cc (is)
  not_moved given (moved away is) stays = true≢false (sym away ∙ stays)
  not_moved given (unread gave is) stays = cc (is)
  not_moved given (no_memory is) stays = cc (is)
  not_moved given (changed text gave differs is) stays = cc (is)

  not_unread : (given : Option (List ℕ)) → CauseOf given MessageRead → (given ≡ None → ⊥) → ⊥
  not_unread given (closed shut is) read = cc (is)
  not_unread given (moved away is) read = cc (is)
  not_unread given (unread gave is) read = read gave
  not_unread given (no_memory is) read = cc (is)
  not_unread given (changed text gave differs is) read = cc (is)

  not_open : (given : Option (List ℕ)) (answer : Result (List ℕ) SignFault) → AnswersAgain public signer x given answer
      → signer.is_open ≡ false → (answer ≡ Err Stopped → ⊥) → ⊥
  not_open given answer (inl (shut, is)) shuts other = other is
  not_open given answer (inr (inl (opened, away, is))) shuts other = true≢false (sym opened ∙ shuts)
  not_open given answer (inr (inr (opened, stays, is))) shuts other = true≢false (sym opened ∙ shuts)

  not_there : (given : Option (List ℕ)) (answer : Result (List ℕ) SignFault) → AnswersAgain public signer x given answer
      → signer.is_open ≡ true → has_moved signer.records ≡ true → (answer ≡ Err MovedAway → ⊥) → ⊥
  not_there given answer (inl (shut, is)) opened went other = true≢false (sym opened ∙ shut)
  not_there given answer (inr (inl (opens, away, is))) opened went other = other is
  not_there given answer (inr (inr (opens, stays, is))) opened went other = true≢false (sym went ∙ stays)

  not_exhausted : (given : Option (List ℕ)) → CauseOf given Exhausted → ⊥
  not_exhausted given (closed shut is) = cc (is)
  not_exhausted given (moved away is) = cc (is)
  not_exhausted given (unread gave is) = cc (is)
  not_exhausted given (no_memory is) = cc (is)
  not_exhausted given (changed text gave differs is) = cc (is)

  pub refuses_wrong_answers : (given : Option (List ℕ)) → RefusesWrongAnswers public signer x given
  refuses_wrong_answers given = record {
    other_bytes = λ other differs answers. differs (of_ok given other answers).0;
    signs_changed = λ other none answers.
        let (text, gave, bound) = (of_ok given other answers).1 in none text gave bound;
    refuses_repeat = λ all answers. not_changed given (of_err given Changed answers) all;
    stops = λ opened answers. not_stopped given (of_err given Stopped answers) opened;
    moves = λ stays answers. not_moved given (of_err given MovedAway answers) stays;
    reads = λ read answers. not_unread given (of_err given MessageRead answers) read;
    goes_on = λ answer closed other answers. not_open given answer answers closed other;
    stays = λ answer opened moved other answers. not_there given answer answers opened moved other;
    exhausted = λ answers. not_exhausted given (of_err given Exhausted answers);
    others = λ fault a b c d e answers. not_others given fault (of_err given fault answers) a b c d e;
  }
