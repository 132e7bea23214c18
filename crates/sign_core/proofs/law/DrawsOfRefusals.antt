-- What a refused request for a new name drew: all fields of the trees that it began, and of the next record.
use Rattle.std.proofs.Common.{◌≡◌, ◌≢◌, ◌∙◌, refl, sym, ap, inl, inr, ℕ, zero, suc, ◌+◌, ◌-◌, ◌<◌, List, [], ◌∷◌}
use Rattle.std.proofs.Common.{◌++◌, length, take, Option, Some, None, Err, append_assoc, append-nil, arith}
use Rattle.std.specs.Prelude.{slice_index_or}
use Rattle.std.specs.List.{concat}
use Rattle.std.proofs.lemmas.List.{length_push}
use Rattle.state_file.specs.Laws.{bottom_of}
use Rattle.state_file.specs.declared.record.Key.{Key}
use Rattle.state_file.specs.declared.record.Record.{Record}
use Rattle.state_file.specs.declared.record.Secret.{Secret}
use Rattle.state_file.specs.declared.record.Secret.TheVariants.{Lms, Hss, Xmss}
use Rattle.sign_core.specs.declared.fault.SignFault.TheVariants.{RandomRepeated}
use Rattle.sign_core.specs.AfterRefusal.{AreDrawnFor, IsRefusal}
use Rattle.sign_core.specs.Requests.{bytes_drawn}
use Rattle.sign_core.specs.Records.{has_identifier, next_at}
use Rattle.sign_core.specs.Textbook.{Trees, lms_secret, trees_of}
use Rattle.sign_core.specs.World.{Chance, Draw, Fate, Outcome, acked, appended, cut_new, cut_old, drawing}
use Rattle.sign_core.proofs.steps.Cases.{bound_message}
use Rattle.sign_core.specs.World.{extend_record, first_draw, no_memory}
use Rattle.sign_core.specs.inner.Cases.{extended, bound_trees}
use Rattle.sign_core.proofs.steps.Cases.{extended_identifier, extended_seed}
use Rattle.sign_core.specs.World.{open_state, randomizer_of_fields, refused}
use Rattle.sign_core.proofs.steps.NewRecords.{fields_drawn, fields_drawn_before}
use Rattle.sign_core.proofs.law.KeptByEvents.{kept_choice}

-- a chance with these draws for its trees
abbrev pub chance_with : Chance → List Draw → Chance
chance_with chance draws =
    record { has_room = chance.has_room; trees = draws; bound = chance.bound; given = chance.given }

-- `begun` trees came after these records, and this was drawn for them and for the next record.
pub record DrawsWanted (before : List Record) (below : ℕ) (chance : Chance) (outcome : Outcome (List ℕ)) : Type 0 where
  pub begun : ℕ
  pub longer : length outcome.acknowledged ≡ length before + begun
  pub are_drawn : AreDrawnFor below chance begun outcome.drawn

abbrev pub RefusesDraws : (before : List Record) → (below : ℕ) → Chance → Outcome (List ℕ) → Type 0
RefusesDraws before below chance outcome =
    IsRefusal outcome → outcome.answer ≢ Err RandomRepeated → DrawsWanted before below chance outcome

-- ---- the binding

drawn_bound : (records : List Record) (key : Key) (name : List ℕ) (randomizer given : Option (List ℕ)) (fate : Fate)
    → IsRefusal (bound_message (open_state records) key name randomizer given fate)
    → ((bound_message (open_state records) key name randomizer given fate).acknowledged ≡ records)
    × ((bound_message (open_state records) key name randomizer given fate).drawn ≡ [])
drawn_bound records key name None given fate refusal = (refl, refl)
drawn_bound records key name (Some randomizer) None fate refusal = (refl, refl)
drawn_bound records key name (Some randomizer) (Some message) acked refusal = absurd (cc (refusal.1))
drawn_bound records key name (Some randomizer) (Some message) cut_old refusal = (refl, refl)
drawn_bound records key name (Some randomizer) (Some message) cut_new refusal = (refl, refl)
drawn_bound records key name (Some randomizer) (Some message) no_memory refusal = (refl, refl)

bound_refuses : (key : Key) (name : List ℕ) (chance : Chance) (draws : List Draw) (records : List Record)
    → RefusesDraws records 0 (chance_with chance draws) (bound_trees key name chance 0 draws records)
bound_refuses key name chance draws records refusal other =
    let fields = chance.bound.fields in
    let (all, none) = drawn_bound records key name (randomizer_of_fields key.secret fields) chance.given chance.bound.fate
    refusal in
    record {
      begun = 0;
      longer = ap length all ∙ omega arith;
      are_drawn = inr (refl, ap (λ bytes. concat fields ++ bytes) none ∙ append-nil (concat fields));
    }

-- ---- a tree

module _ (below : ℕ) (records : List Record) (chance : Chance) (draw : Draw) (draws : List Draw) where
  -- It isn't begun, though its fields were drawn.
  begun_none : (outcome : Outcome (List ℕ)) → outcome.acknowledged ≡ records → outcome.drawn ≡ concat draw.fields ++ []
      → DrawsWanted records (suc below) (chance_with chance (draw ∷ draws)) outcome
  begun_none outcome all is = record {
    begun = 0;
    longer = ap length all ∙ omega arith;
    are_drawn = inl (omega arith, is);
  }

  all_three : (identifier seed randomizer : List ℕ) → draw.fields ≡ identifier ∷ seed ∷ randomizer ∷ []
      → identifier ++ ((seed ++ randomizer) ++ []) ≡ concat draw.fields ++ []
  all_three identifier seed randomizer are =
      fields_drawn identifier seed randomizer [] ∙ ap (λ fields. concat fields ++ []) (sym are)

  some_drawn : (identifier : List ℕ) (fields : List (List ℕ)) → draw.fields ≡ identifier ∷ fields
      → identifier ++ (concat fields ++ []) ≡ concat draw.fields ++ []
  some_drawn identifier fields are =
      sym (append_assoc identifier (concat fields) []) ∙ ap (λ fields. concat fields ++ []) (sym are)

  begun_more : (entry : Record) (identifier seed randomizer : List ℕ) (outcome : Outcome (List ℕ))
      → draw.fields ≡ identifier ∷ seed ∷ randomizer ∷ []
      → DrawsWanted (records ++ entry ∷ []) below (chance_with chance draws) outcome
      → DrawsWanted records (suc below) (chance_with chance (draw ∷ draws))
      (drawing identifier (drawing (seed ++ randomizer) outcome))
  begun_more entry identifier seed randomizer outcome are rest = record {
    begun = suc rest.begun;
    longer = omega (arith, rest.longer, length_push records entry);
    are_drawn = more rest.are_drawn;
  }
    where
      more : AreDrawnFor below (chance_with chance draws) rest.begun outcome.drawn
          → AreDrawnFor (suc below) (chance_with chance (draw ∷ draws)) (suc rest.begun)
          (identifier ++ ((seed ++ randomizer) ++ outcome.drawn))
      more (inl (within_limit, is)) =
          let later = bytes_drawn (take (suc rest.begun) draws) in
          inl (
            omega (arith, within_limit),
            ap (λ bytes. identifier ++ ((seed ++ randomizer) ++ bytes)) is
                ∙ fields_drawn identifier seed randomizer later ∙ ap (λ fields. concat fields ++ later) (sym are),
          )
      more (inr (all, is)) =
          let later = bytes_drawn (take rest.begun draws) in
          let last = concat chance.bound.fields in
          inr (
            ap suc all,
            ap (λ bytes. identifier ++ ((seed ++ randomizer) ++ bytes)) is
                ∙ fields_drawn_before identifier seed randomizer later last
                ∙ ap (λ fields. concat fields ++ later ++ last) (sym are),
          )

  abbrev RefusesHere : Outcome (List ℕ) → Type 0
  RefusesHere outcome = RefusesDraws records (suc below) (chance_with chance (draw ∷ draws)) outcome

  module _ (next : List Record → Outcome (List ℕ))
      (later : (all : List Record) → RefusesDraws all below (chance_with chance draws) (next all)) where
    append_refuses : (entry : Record) (fate : Fate) (identifier seed randomizer : List ℕ)
        → draw.fields ≡ identifier ∷ seed ∷ randomizer ∷ []
        → RefusesHere (drawing identifier (drawing (seed ++ randomizer) (appended (open_state records) entry fate next)))
    append_refuses entry acked identifier seed randomizer are = λ refusal other.
        begun_more entry identifier seed randomizer (next (records ++ entry ∷ [])) are
        (later (records ++ entry ∷ []) refusal other)
    append_refuses entry cut_old identifier seed randomizer are = λ refusal other.
        begun_none _ refl (all_three identifier seed randomizer are)
    append_refuses entry cut_new identifier seed randomizer are = λ refusal other.
        begun_none _ refl (all_three identifier seed randomizer are)
    append_refuses entry no_memory identifier seed randomizer are = λ refusal other.
        begun_none _ refl (all_three identifier seed randomizer are)

    with_refuses : (trees : Trees) (level leaf : ℕ) (identifier : List ℕ) (fields : List (List ℕ))
        → draw.fields ≡ identifier ∷ fields → RefusesHere (drawing identifier
        (extended_seed (open_state records) trees level leaf identifier fields draw.fate next))
    with_refuses trees level leaf identifier [] are = λ refusal other. begun_none _ refl (some_drawn identifier [] are)
    with_refuses trees level leaf identifier (seed ∷ []) are =
        λ refusal other. begun_none _ refl (some_drawn identifier (seed ∷ []) are)
    with_refuses trees level leaf identifier (seed ∷ randomizer ∷ []) are =
        let secret = lms_secret (slice_index_or trees.pairs level trees.top.pair) identifier seed in
        append_refuses (extend_record trees records level secret randomizer leaf) draw.fate identifier seed randomizer
        are
    with_refuses trees level leaf identifier (seed ∷ randomizer ∷ more ∷ rest) are =
        λ refusal other. begun_none _ refl (some_drawn identifier (seed ∷ randomizer ∷ more ∷ rest) are)

    by_refuses : (trees : Trees) (level leaf : ℕ) (fields : List (List ℕ)) → draw.fields ≡ fields
        → RefusesHere (extended_identifier (open_state records) trees level leaf fields draw.fate next)
    by_refuses trees level leaf [] are =
        λ refusal other. begun_none _ refl (sym (ap (λ fields. concat fields ++ []) are))
    by_refuses trees level leaf (identifier ∷ fields) are =
        kept_choice (λ outcome. RefusesHere (drawing identifier outcome)) (has_identifier records identifier)
        (refused (open_state records) RandomRepeated)
        (extended_seed (open_state records) trees level leaf identifier fields draw.fate next)
        (λ there refusal other. absurd (other refl)) (λ new. with_refuses trees level leaf identifier fields are)

    extended_refuses : (key : Key) (level : ℕ) (found : Option Trees) → (found ≡ None → ⊥)
        → RefusesHere (extended (open_state records) key level found draw next)
    extended_refuses key level None never = absurd (never refl)
    extended_refuses key level (Some trees) never =
        by_refuses trees level (next_at key.secret records (level - 1)) draw.fields refl

-- Nothing is drawn for it.
undrawn_refuses : (below : ℕ) (records : List Record) (chance : Chance) (key : Key) (level : ℕ) (found : Option Trees)
    (next : List Record → Outcome (List ℕ))
    → RefusesDraws records (suc below) (chance_with chance [])
    (extended (open_state records) key level found (first_draw []) next)
undrawn_refuses below records chance key level None next refusal other =
    record { begun = 0; longer = omega arith; are_drawn = inl (omega arith, refl) }
undrawn_refuses below records chance key level (Some trees) next refusal other =
    record { begun = 0; longer = omega arith; are_drawn = inl (omega arith, refl) }

-- ---- all new records

has_trees : (secret : Secret) → 0 < bottom_of secret → trees_of secret ≡ None → ⊥
has_trees (Lms secret) some none = absurd (omega (arith, some))
has_trees (Hss [] identifier seed) some none = absurd (omega (arith, some))
has_trees (Hss (pair ∷ rest) identifier seed) some none = absurd (cc)
has_trees (Xmss secret) some none = absurd (omega (arith, some))

bound_below_refuses : (key : Key) (name : List ℕ) (chance : Chance) (below : ℕ) (draws : List Draw)
    (records : List Record) → (0 < below → trees_of key.secret ≡ None → ⊥)
    → RefusesDraws records below (chance_with chance draws) (bound_trees key name chance below draws records)
bound_below_refuses key name chance zero draws records has = bound_refuses key name chance draws records
bound_below_refuses key name chance (suc below) [] records has =
    undrawn_refuses below records chance key (bottom_of key.secret - below) (trees_of key.secret)
    (bound_trees key name chance below [])
bound_below_refuses key name chance (suc below) (draw ∷ draws) records has =
    extended_refuses below records chance draw draws (bound_trees key name chance below draws)
    (λ all. bound_below_refuses key name chance below draws all (λ some. has (omega arith)))
    key (bottom_of key.secret - below) (trees_of key.secret) (has (omega arith))

pub draws_wanted : (key : Key) (name : List ℕ) (chance : Chance) (level : ℕ) (records : List Record)
    → RefusesDraws records (bottom_of key.secret - level) chance
    (bound_trees key name chance (bottom_of key.secret - level) chance.trees records)
draws_wanted key name chance level records =
    bound_below_refuses key name chance (bottom_of key.secret - level) chance.trees records
    (λ some. has_trees key.secret (omega (arith, some)))
