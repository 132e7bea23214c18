-- A ledger matches its records after one more record.
use Rattle.std.proofs.Common.{◌≡◌, inl, inr, ℕ, zero, suc, ◌+◌, ◌-◌, ◌<◌, ◌≤◌, Bool, true, false, cond, ◌||◌, List, [], ◌∷◌, ◌++◌}
use Rattle.std.proofs.Common.{length, drop, not, true≢false, Option, Some, None, refl, sym, ap, subst, ◌∙◌, arith}
use Rattle.std.specs.Prelude.{slice_get, is_some, nat_le, option_map, unwrap_or}
use Rattle.std.specs.Cmp.Lexicographic.{bytes_decides}
use Rattle.std.proofs.lemmas.Bool.{and_parts, cases_eq, cases_lt}
use Rattle.std.proofs.lemmas.Option.{slice_get_within}
use Rattle.std.proofs.lemmas.List.{length_push}
use Rattle.state_file.specs.declared.record.Bound.{Bound}
use Rattle.state_file.specs.declared.record.Key.{Key}
use Rattle.state_file.specs.declared.record.Record.{Record}
use Rattle.state_file.specs.declared.record.Record.TheVariants.{Key as KeyRecord, Extend as ExtendRecord, Bound as BoundRecord, Retire, Moved}
use Rattle.state_file.specs.declared.record.Secret.{Secret}
use Rattle.state_file.specs.Laws.{bottom_of, identifier_of, leaves_at}
use Rattle.sign_core.specs.Records.{are_same, binding_at, can_follow, can_follow_legal, current, has_identifier, has_moved, is_moved}
use Rattle.sign_core.specs.Ledger.{ByPlace, ByText, IsTableOf, binding_kept, kept_of, recorded_at, recorded_entry}
use Rattle.sign_core.proofs.ledgers.KeptTrees.{FollowsRetire}
use Rattle.sign_core.specs.Trees.{HasTrees}
use Rattle.sign_core.specs.Textbook.{AllHaveSizes, HasSizes}
use Rattle.sign_core.specs.declared.name_map.NameMap.{NameMap}
use Rattle.sign_core.specs.declared.ledger.RecordedTree.{RecordedTree}
use Rattle.sign_core.specs.declared.trees.Tree.{Tree}
use Rattle.sign_core.proofs.records.OneMore.{take_of_longer}
use Rattle.sign_core.proofs.records.Bindings.{binding_new, binding_other, binding_stands, binds, identifier_appended, is_of}
use Rattle.sign_core.proofs.records.Keys.{key_stands}
use Rattle.sign_core.proofs.records.Lists.{front_or_new, slice_get_front, slice_get_new}
use Rattle.sign_core.proofs.records.CanFollow.{key_stays}
use Rattle.sign_core.proofs.records.Legal.{grows}

-- ---- Extends by their places

slice_get_past : {A : Type 0} (xs : List A) (k : ℕ) → length xs ≤ k → slice_get xs k ≡ None
slice_get_past [] k beyond = refl
slice_get_past (x ∷ xs) zero beyond = absurd (omega (arith, beyond))
slice_get_past (x ∷ xs) (suc k) beyond = slice_get_past xs k (omega (arith, beyond))

slice_get_after : {A : Type 0} (xs : List A) (new : A) (k : ℕ) → length xs < k → slice_get (xs ++ new ∷ []) k ≡ None
slice_get_after [] new zero beyond = absurd (omega (arith, beyond))
slice_get_after [] new (suc k) beyond = refl
slice_get_after (x ∷ xs) new zero beyond = absurd (omega (arith, beyond))
slice_get_after (x ∷ xs) new (suc k) beyond = slice_get_after xs new k (omega (arith, beyond))

made_same : (records : List Record) (entry : Record) (place : ℕ) (found : Option Record) → place ≤ length records
    → recorded_entry (records ++ entry ∷ []) place found ≡ recorded_entry records place found
made_same records entry place (Some (ExtendRecord extend)) within =
    ap (λ l. Some (record { extend = extend; parent = unwrap_or (current (extend.level - 1) l) 0 })) (take_of_longer records (entry ∷ []) place within)
made_same records entry place (Some (KeyRecord key)) within = refl
made_same records entry place (Some (BoundRecord bound)) within = refl
made_same records entry place (Some (Retire upto)) within = refl
made_same records entry place (Some Moved) within = refl
made_same records entry place None within = refl

pub made_before : (records : List Record) (entry : Record) (place : ℕ) → place < length records
    → recorded_at (records ++ entry ∷ []) place ≡ recorded_at records place
made_before records entry place below =
    ap (recorded_entry (records ++ entry ∷ []) place) (slice_get_front records (entry ∷ []) place below)
    ∙ made_same records entry place (slice_get records place) (omega (arith, below))

pub made_after : (records : List Record) (entry : Record) (place : ℕ) → length records < place
    → recorded_at (records ++ entry ∷ []) place ≡ recorded_at records place
made_after records entry place beyond =
    ap (recorded_entry (records ++ entry ∷ []) place) (slice_get_after records entry place beyond)
    ∙ sym (ap (recorded_entry records place) (slice_get_past records place (omega (arith, beyond))))

pub made_here : (records : List Record) (entry : Record) → recorded_at (records ++ entry ∷ []) (length records) ≡ recorded_entry records (length records) (Some entry)
made_here records entry =
    ap (recorded_entry (records ++ entry ∷ []) (length records)) (slice_get_new records entry)
    ∙ made_same records entry (length records) (Some entry) (omega arith)

pub made_other : (records : List Record) (entry : Record) (place : ℕ) → ((k : ℕ) → recorded_entry records k (Some entry) ≡ None)
    → recorded_at (records ++ entry ∷ []) place ≡ recorded_at records place
made_other records entry place none = elim (cases_lt place (length records)) [
  | inl below ↦ made_before records entry place below
  | inr beyond ↦ elim (cases_eq place (length records)) [
    | inl same ↦
        subst (λ k. recorded_at (records ++ entry ∷ []) k ≡ recorded_at records k) (sym same)
        (made_here records entry ∙ none (length records)
        ∙ sym (ap (recorded_entry records (length records)) (slice_get_past records (length records) (omega arith))))
    | inr apart ↦ made_after records entry place (omega (arith, beyond, apart))
  ]
]

-- ---- bindings

kept_stays : (secret : Secret) (records more : List Record) (k : ℕ) (bound : Bound) → k ≤ length records
    → kept_of secret (records ++ more) (k, bound) ≡ kept_of secret records (k, bound)
kept_stays secret records more k bound within =
    ap (λ l. record {
      place = k;
      leaf = bound.leaf;
      randomizer = bound.randomizer;
      digest = bound.digest;
      tree = unwrap_or (current (bottom_of secret) l) 0;
    }) (take_of_longer records more k within)

kept_longer : (secret : Secret) (records more : List Record) (name : List ℕ) (found : Option (ℕ × Bound)) → binding_at records name ≡ found
    → option_map (kept_of secret (records ++ more)) found ≡ option_map (kept_of secret records) found
kept_longer secret records more name None is = refl
kept_longer secret records more name (Some (k, bound)) is =
    let (at, named, first) = binding_stands records name k bound is in
    let within : k < length records = slice_get_within records k (BoundRecord bound) at in
    ap Some (kept_stays secret records more k bound (omega (arith, within)))

pub kept_other : (secret : Secret) (records : List Record) (entry : Record) (name : List ℕ) → binds name entry ≡ None
    → binding_kept secret (records ++ entry ∷ []) name ≡ binding_kept secret records name
kept_other secret records entry name none =
    ap (option_map (kept_of secret (records ++ entry ∷ []))) (binding_other records entry name none)
    ∙ kept_longer secret records (entry ∷ []) name (binding_at records name) refl

-- a Bound of a new name becomes its binding, and every other name keeps its own
pub kept_bound : (secret : Secret) (records : List Record) (bound : Bound) (name : List ℕ) → binding_at records bound.name ≡ None
    → binding_kept secret (records ++ BoundRecord bound ∷ []) name
    ≡ cond (are_same bound.name name) (Some (kept_of secret records (length records, bound))) (binding_kept secret records name)
kept_bound secret records bound name free = by (are_same bound.name name) refl
  where
    own : binding_kept secret (records ++ BoundRecord bound ∷ []) bound.name ≡ Some (kept_of secret records (length records, bound))
    own =
        ap (option_map (kept_of secret (records ++ BoundRecord bound ∷ []))) (binding_new records bound free)
        ∙ ap Some (kept_stays secret records (BoundRecord bound ∷ []) (length records) bound (omega arith))

    by : (b : Bool) → are_same bound.name name ≡ b → binding_kept secret (records ++ BoundRecord bound ∷ []) name
        ≡ cond b (Some (kept_of secret records (length records, bound))) (binding_kept secret records name)
    by true same = ap (binding_kept secret (records ++ BoundRecord bound ∷ [])) (sym ((bytes_decides bound.name name).0 same)) ∙ own
    by false same = kept_other secret records (BoundRecord bound) name (ap (λ b. cond b (Some bound) None) same)

-- ---- identifiers

-- one more record adds its own I
pub identifier_grown : (records : List Record) (entry : Record) (identifier : List ℕ) → 0 < length records
    → has_identifier (drop 1 (records ++ entry ∷ [])) identifier
    ≡ (has_identifier (drop 1 records) identifier || is_of identifier (identifier_of entry))
identifier_grown [] entry identifier some = absurd (omega (arith, some))
identifier_grown (first ∷ rest) entry identifier some = identifier_appended rest entry identifier

pub or_none : (b : Bool) → (b || false) ≡ b
or_none true = refl
or_none false = refl

pub identifier_other : (records : List Record) (entry : Record) (identifier : List ℕ) → 0 < length records → identifier_of entry ≡ None
    → has_identifier (drop 1 (records ++ entry ∷ [])) identifier ≡ has_identifier (drop 1 records) identifier
identifier_other records entry identifier some none =
    identifier_grown records entry identifier some
    ∙ ap (λ o. has_identifier (drop 1 records) identifier || is_of identifier o) none
    ∙ or_none (has_identifier (drop 1 records) identifier)

-- ---- a record that takes no memory

pub moved_last : (records : List Record) (entry : Record) → is_moved (Some entry) ≡ has_moved (records ++ entry ∷ [])
moved_last records entry =
    let last : length records ≡ length (records ++ entry ∷ []) - 1 = omega (arith, length_push records entry) in
    sym (ap is_moved (slice_get_new records entry)) ∙ ap (λ n. is_moved (slice_get (records ++ entry ∷ []) n)) last

pub sizes_grown : (records : List Record) (entry : Record) → AllHaveSizes records → HasSizes entry → AllHaveSizes (records ++ entry ∷ [])
sizes_grown records entry sizes own k other at = elim (front_or_new records entry k other at) [
  | inl (below, is) ↦ sizes k other is
  | inr (end, same) ↦ subst HasSizes same own
]

module _ (records : List Record) (key : Key) (made : ByPlace RecordedTree) (bindings : NameMap) (identifiers : ByText ℕ)
    (levels : List (Option Tree)) (count : ℕ) (moved : Bool) (old : IsTableOf records key made bindings identifiers levels count moved)
    (entry : Record) (follows : can_follow (Some key) records entry ≡ true) where
  pub is_some_record : 0 < length records
  is_some_record = slice_get_within records 0 (KeyRecord key) (key_stands records key old.keyed)

  -- after a record that makes no tree and binds no name
  pub grown_plain : ((k : ℕ) → recorded_entry records k (Some entry) ≡ None) → ((name : List ℕ) → binds name entry ≡ None) → identifier_of entry ≡ None
      → HasSizes entry → (new_levels : List (Option Tree)) → HasTrees key.secret (records ++ entry ∷ []) new_levels
      → (new_moved : Bool) → new_moved ≡ is_moved (Some entry) → (new : List Record) → new ≡ records ++ entry ∷ []
      → IsTableOf new key made bindings identifiers new_levels (count + 1) new_moved
  grown_plain unmade unbound none own new_levels trees new_moved last new grown =
      subst (λ l. IsTableOf l key made bindings identifiers new_levels (count + 1) new_moved) (sym grown) (record {
        legal = grows records entry old.legal (ap (λ o. can_follow o records entry) old.keyed ∙ follows);
        keyed = key_stays records (entry ∷ []) is_some_record ∙ old.keyed;
        sizes = sizes_grown records entry old.sizes own;
        counted = omega (arith, old.counted, length_push records entry);
        moved_is = last ∙ moved_last records entry;
        trees_are = trees;
        recorded_are = λ place. old.recorded_are place ∙ sym (made_other records entry place unmade);
        bindings_are = λ name. old.bindings_are name ∙ sym (kept_other key.secret records entry name (unbound name));
        identifiers_are = λ identifier. old.identifiers_are identifier ∙ sym (identifier_other records entry identifier is_some_record none);
      })

pub not_means : (b : Bool) → not b ≡ true → b ≡ false
not_means true is = sym is
not_means false is = refl

some_means : (found : Option ℕ) → is_some found ≡ true → (place : ℕ) × (found ≡ Some place)
some_means None is = absurd (true≢false (sym is))
some_means (Some place) is = (place, refl)

pub grown_retire : (records : List Record) (key : Key) (made : ByPlace RecordedTree) (bindings : NameMap) (identifiers : ByText ℕ)
    (levels : List (Option Tree)) (count : ℕ) (moved : Bool) → IsTableOf records key made bindings identifiers levels count moved
    → (upto bottom : ℕ) → can_follow (Some key) records (Retire upto) ≡ true → bottom ≡ bottom_of key.secret
    → (new_levels : List (Option Tree)) → FollowsRetire levels bottom upto new_levels → (new : List Record) → new ≡ records ++ Retire upto ∷ []
    → IsTableOf new key made bindings identifiers new_levels (count + 1) moved
grown_retire records key made bindings identifiers levels count moved old upto bottom follows last new_levels trees new grown =
    let (stays, rest) = and_parts (not (has_moved records)) (can_follow_legal key records (Retire upto)) follows in
    let (there, low) = and_parts (is_some (current (bottom_of key.secret) records)) (nat_le upto (leaves_at key.secret (bottom_of key.secret))) rest in
    let (tree, at) = some_means (current (bottom_of key.secret) records) there in
    grown_plain records key made bindings identifiers levels count moved old (Retire upto) follows (λ k. refl) (λ name. refl) refl (tt) new_levels
    (trees key.secret records key tree (key_stands records key old.keyed) (sym last) (ap (λ l. current l records) last ∙ at) old.trees_are)
    moved (old.moved_is ∙ not_means (has_moved records) stays) new grown
