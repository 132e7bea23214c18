-- A ledger matches its records after an Extend or a Bound.
use Rattle.std.proofs.Common.{◌≡◌, inl, inr, ℕ, zero, suc, ◌+◌, ◌-◌, ◌^◌, ◌<◌, ◌≤◌, Bool, true, false, cond, ◌||◌, ◌&&◌, List, [], ◌∷◌, ◌++◌}
use Rattle.std.proofs.Common.{length, not, Option, Some, None, refl, sym, ap, subst, ◌∙◌, arith, eq-eqb, ne_eqb, leb-true, ltb-true}
use Rattle.std.specs.Prelude.{is_some, nat_eq, nat_le, nat_lt, unwrap_or}
use Rattle.std.proofs.Math.Nat.{pow-le-pow_right}
use Rattle.std.proofs.lemmas.Bool.{and_parts, cases_eq, cases_lt}
use Rattle.std.proofs.lemmas.List.{length_push, take_all}
use Rattle.typecodes.specs.declared.types.LmsPair.{LmsPair}
use Rattle.typecodes.specs.declared.types.XmssType.{XmssType}
use Rattle.typecodes.specs.declared.types.XmssType.TheVariants as xmss
use Rattle.typecodes.specs.Types.{height_of, xmss_height_of}
use Rattle.typecodes.proofs.Leaves.{lms_most}
use Rattle.state_file.specs.declared.record.Bound.{Bound}
use Rattle.state_file.specs.declared.record.Extend.{Extend}
use Rattle.state_file.specs.declared.record.Key.{Key}
use Rattle.state_file.specs.declared.record.Record.{Record}
use Rattle.state_file.specs.declared.record.Record.TheVariants.{Extend as ExtendRecord, Bound as BoundRecord}
use Rattle.state_file.specs.declared.record.Secret.{Secret}
use Rattle.state_file.specs.declared.record.Secret.TheVariants.{Lms, Hss, Xmss}
use Rattle.state_file.specs.Laws.{bottom_of, leaves_at, tree_leaves_at, levels_of}
use Rattle.sign_core.specs.Records.{are_same, binding_at, can_follow, can_follow_legal, current, has_identifier, has_moved, has_randomizer, is_free}
use Rattle.sign_core.specs.Ledger.{ByPlace, ByText, IsTableOf, bound_at, recorded_at, recorded_entry, of_place, of_text}
use Rattle.sign_core.specs.inner.Trees.{FollowsExtend, place_of}
use Rattle.sign_core.proofs.ledgers.KeptTrees.{FollowsBound}
use Rattle.sign_core.specs.Trees.{HasTrees, with_next}
use Rattle.sign_core.specs.Trees.{kept_at as tree_kept}
use Rattle.sign_core.specs.Textbook.{HasSizes, current_at}
use Rattle.sign_core.specs.declared.name_map.NameMap.{NameMap}
use Rattle.sign_core.specs.declared.ledger.RecordedTree.{RecordedTree}
use Rattle.sign_core.specs.declared.trees.Tree.{Tree}
use Rattle.sign_core.proofs.records.CanFollow.{follower_name, free_means, key_stays}
use Rattle.sign_core.proofs.records.Keys.{key_stands}
use Rattle.sign_core.proofs.records.Legal.{grows}
use Rattle.sign_core.proofs.ledgers.OneMore.{identifier_grown, identifier_other, is_some_record, kept_bound, made_after, made_before, made_here}
use Rattle.sign_core.proofs.ledgers.OneMore.{kept_other, made_other, moved_last, not_means, or_none, sizes_grown}

-- ---- how many leaves a tree has

height_inside : (h : ℕ) → h ≤ 25 → 2 ^ h ≤ 2 ^ 25
height_inside h most = pow-le-pow_right (omega arith) most

xmss_most : (t : XmssType) → xmss_height_of t ≤ 25
xmss_most xmss.H10 = omega arith
xmss_most xmss.H16 = omega arith
xmss_most xmss.H20 = omega arith

leaves_in_few : (levels : List LmsPair) (level : ℕ) → tree_leaves_at levels level ≤ 2 ^ 25
leaves_in_few [] level = omega arith
leaves_in_few (pair ∷ rest) zero = height_inside (height_of pair.tree) (lms_most pair.tree)
leaves_in_few (pair ∷ rest) (suc level) = leaves_in_few rest level

leaves_few : (secret : Secret) (level : ℕ) → leaves_at secret level ≤ 2 ^ 25
leaves_few (Lms secret) level = height_inside (height_of secret.pair.tree) (lms_most secret.pair.tree)
leaves_few (Hss levels identifier seed) level = leaves_in_few levels level
leaves_few (Xmss secret) level = height_inside (xmss_height_of secret.tree) (xmss_most secret.tree)

-- ---- what can follow

follows_legal : (records : List Record) (key : Key) (entry : Record) → can_follow (Some key) records entry ≡ true
    → (has_moved records ≡ false) × (can_follow_legal key records entry ≡ true)
follows_legal records key entry follows =
    let (stays, rest) = and_parts (not (has_moved records)) (can_follow_legal key records entry) follows in
    (not_means (has_moved records) stays, rest)

bound_free : (records : List Record) (key : Key) (bound : Bound) → can_follow (Some key) records (BoundRecord bound) ≡ true
    → is_free key.secret records (bottom_of key.secret) bound.leaf ≡ true
bound_free records key bound follows =
    let (stays, rest) = follows_legal records key (BoundRecord bound) follows in
    let (two, random) = and_parts
    (is_free key.secret records (bottom_of key.secret) bound.leaf && not (is_some (binding_at records bound.name)))
    (has_randomizer key.secret bound.randomizer) rest in
    (and_parts (is_free key.secret records (bottom_of key.secret) bound.leaf) (not (is_some (binding_at records bound.name))) two).0

pub bound_leaf : (records : List Record) (key : Key) (bound : Bound) → can_follow (Some key) records (BoundRecord bound) ≡ true
    → bound.leaf < 2 ^ 25
bound_leaf records key bound follows =
    let (tree, at, inside, next) = free_means key.secret records (bottom_of key.secret) bound.leaf (bound_free records key bound follows) in
    let within_limit : leaves_at key.secret (bottom_of key.secret) ≤ 2 ^ 25 = leaves_few key.secret (bottom_of key.secret) in
    omega (arith, inside, within_limit)

extend_parts : (records : List Record) (key : Key) (extend : Extend) → can_follow (Some key) records (ExtendRecord extend) ≡ true
    → (1 ≤ extend.level) × (extend.level < levels_of key.secret)
    × (is_free key.secret records (extend.level - 1) extend.parent_leaf ≡ true)
extend_parts records key extend follows =
    let (stays, rest) = follows_legal records key (ExtendRecord extend) follows in
    let (three, fresh) = and_parts
    (nat_le 1 extend.level && nat_lt extend.level (levels_of key.secret) && is_free key.secret records (extend.level - 1) extend.parent_leaf)
    (not (has_identifier records extend.identifier)) rest in
    let (two, free) = and_parts (nat_le 1 extend.level && nat_lt extend.level (levels_of key.secret))
    (is_free key.secret records (extend.level - 1) extend.parent_leaf) three in
    let (low, high) = and_parts (nat_le 1 extend.level) (nat_lt extend.level (levels_of key.secret)) two in
    (leb-true 1 extend.level low, ltb-true extend.level (levels_of key.secret) high, free)

-- an Extend that can follow has one of the lower levels, and a parent leaf below 2 ^ 25
pub extend_inside : (records : List Record) (key : Key) (extend : Extend) → can_follow (Some key) records (ExtendRecord extend) ≡ true
    → (1 ≤ extend.level) × (extend.level < levels_of key.secret) × (extend.parent_leaf < 2 ^ 25)
extend_inside records key extend follows =
    let (low, high, free) = extend_parts records key extend follows in
    let (tree, at, inside, next) = free_means key.secret records (extend.level - 1) extend.parent_leaf free in
    let within_limit : leaves_at key.secret (extend.level - 1) ≤ 2 ^ 25 = leaves_few key.secret (extend.level - 1) in
    (low, high, omega (arith, inside, within_limit))

-- ---- the tree that is current before a new record

place_with_next : (secret : Secret) (records : List Record) (found : Option ℕ) → place_of (with_next secret records found) ≡ unwrap_or found 0
place_with_next secret records None = refl
place_with_next secret records (Some place) = refl

tree_of_end : (secret : Secret) (records : List Record) (levels : List (Option Tree)) (level : ℕ) → HasTrees secret records levels → level < 8
    → place_of (tree_kept levels level) ≡ current_at level records (length records)
tree_of_end secret records levels level has within =
    ap place_of (has level within) ∙ place_with_next secret records (current level records)
    ∙ sym (ap (λ l. unwrap_or (current level l) 0) (take_all (length records) records (omega arith)))

-- ---- a Bound

pub grown_bound : (records : List Record) (key : Key) (made : ByPlace RecordedTree) (bindings : NameMap) (identifiers : ByText ℕ)
    (levels : List (Option Tree)) (count : ℕ) (moved : Bool) → IsTableOf records key made bindings identifiers levels count moved
    → (bound : Bound) (bottom tree : ℕ) → can_follow (Some key) records (BoundRecord bound) ≡ true → HasSizes (BoundRecord bound)
    → bottom ≡ bottom_of key.secret → bottom < 8 → tree ≡ place_of (tree_kept levels bottom)
    → (new_levels : List (Option Tree)) → FollowsBound levels bottom bound.leaf new_levels
    → (bound_name : List ℕ) → bound_name ≡ bound.name → (new_bindings : NameMap)
    → ((name : List ℕ) → bound_at new_bindings name ≡ cond (are_same bound_name name)
    (Some (record { place = count; leaf = bound.leaf; randomizer = bound.randomizer; digest = bound.digest; tree = tree }))
    (bound_at bindings name))
    → (new : List Record) → new ≡ records ++ BoundRecord bound ∷ []
    → IsTableOf new key made new_bindings identifiers new_levels (count + 1) moved
grown_bound records key made bindings identifiers levels count moved old bound bottom tree follows own last within tree_is new_levels trees
    bound_name named new_bindings bound_is new grown =
    let (stays, rest) = follows_legal records key (BoundRecord bound) follows in
    let (place, at, inside, next) = free_means key.secret records (bottom_of key.secret) bound.leaf (bound_free records key bound follows) in
    let some : 0 < length records = is_some_record records key made bindings identifiers levels count moved old (BoundRecord bound) follows in
    let under : tree ≡ current_at (bottom_of key.secret) records (length records) =
    tree_is ∙ tree_of_end key.secret records levels bottom old.trees_are within
    ∙ ap (λ l. current_at l records (length records)) last in
    subst (λ l. IsTableOf l key made new_bindings identifiers new_levels (count + 1) moved) (sym grown) (record {
      legal = grows records (BoundRecord bound) old.legal (ap (λ o. can_follow o records (BoundRecord bound)) old.keyed ∙ follows);
      keyed = key_stays records (BoundRecord bound ∷ []) some ∙ old.keyed;
      sizes = sizes_grown records (BoundRecord bound) old.sizes own;
      counted = omega (arith, old.counted, length_push records (BoundRecord bound));
      moved_is = old.moved_is ∙ stays ∙ moved_last records (BoundRecord bound);
      trees_are = trees key.secret records key bound place (key_stands records key old.keyed) (sym last) refl
          (ap (λ l. current l records) last ∙ at) old.trees_are;
      recorded_are = λ k. old.recorded_are k ∙ sym (made_other records (BoundRecord bound) k (λ n. refl));
      bindings_are = λ name.
          bound_is name
          ∙ (λ i. cond (are_same (named i) name)
          (Some (record { place = old.counted i; leaf = bound.leaf; randomizer = bound.randomizer; digest = bound.digest; tree = under i }))
          (old.bindings_are name i))
          ∙ sym (kept_bound key.secret records bound name (follower_name key records bound rest));
      identifiers_are = λ identifier. old.identifiers_are identifier ∙ sym (identifier_other records (BoundRecord bound) identifier some refl);
    })

-- ---- an Extend

-- an Extend is kept at its place, with the tree that was current above it
made_grown : (records : List Record) (extend : Extend) (place : ℕ)
    → recorded_at (records ++ ExtendRecord extend ∷ []) place
    ≡ cond (nat_eq (length records) place) (recorded_entry records (length records) (Some (ExtendRecord extend))) (recorded_at records place)
made_grown records extend place = elim (cases_eq (length records) place) [
  | inl same ↦
      sym (ap (recorded_at (records ++ ExtendRecord extend ∷ [])) same) ∙ made_here records (ExtendRecord extend)
      ∙ sym (ap (λ b. cond b (recorded_entry records (length records) (Some (ExtendRecord extend))) (recorded_at records place)) (eq-eqb (length records) place same))
  | inr apart ↦
      by apart
      ∙ sym (ap (λ b. cond b (recorded_entry records (length records) (Some (ExtendRecord extend))) (recorded_at records place)) (ne_eqb (length records) place apart))
]
  where
    by : (length records ≡ place → ⊥) → recorded_at (records ++ ExtendRecord extend ∷ []) place ≡ recorded_at records place
    by apart = elim (cases_lt place (length records)) [
      | inl below ↦ made_before records (ExtendRecord extend) place below
      | inr beyond ↦ made_after records (ExtendRecord extend) place (omega (arith, beyond, apart))
    ]

some_or : (b : Bool) (place : ℕ) (found : Option ℕ) → is_some (cond b (Some place) found) ≡ (is_some found || b)
some_or true place None = refl
some_or true place (Some other) = refl
some_or false place found = sym (or_none (is_some found))

pub grown_extend : (records : List Record) (key : Key) (made : ByPlace RecordedTree) (bindings : NameMap) (identifiers : ByText ℕ)
    (levels : List (Option Tree)) (count : ℕ) (moved : Bool) → IsTableOf records key made bindings identifiers levels count moved
    → (extend : Extend) (level parent : ℕ) → can_follow (Some key) records (ExtendRecord extend) ≡ true → HasSizes (ExtendRecord extend)
    → level ≡ extend.level → level - 1 < 8 → parent ≡ place_of (tree_kept levels (level - 1))
    → (new_levels : List (Option Tree)) → FollowsExtend levels level extend.parent_leaf count new_levels
    → (new_made : ByPlace RecordedTree)
    → ((place : ℕ) → of_place new_made place ≡ cond (nat_eq count place) (Some (record { extend = extend; parent = parent })) (of_place made place))
    → (new_identifiers : ByText ℕ)
    → ((identifier : List ℕ) → of_text new_identifiers identifier
    ≡ cond (are_same extend.identifier identifier) (Some count) (of_text identifiers identifier))
    → (new : List Record) → new ≡ records ++ ExtendRecord extend ∷ []
    → IsTableOf new key new_made bindings new_identifiers new_levels (count + 1) moved
grown_extend records key made bindings identifiers levels count moved old extend level parent follows own same within parent_is new_levels trees
    new_made made_is new_identifiers identifier_is new grown =
    let (stays, rest) = follows_legal records key (ExtendRecord extend) follows in
    let (low, high, free) = extend_parts records key extend follows in
    let (place, at, inside, next) = free_means key.secret records (extend.level - 1) extend.parent_leaf free in
    let some : 0 < length records = is_some_record records key made bindings identifiers levels count moved old (ExtendRecord extend) follows in
    let under : parent ≡ current_at (extend.level - 1) records (length records) =
    parent_is ∙ tree_of_end key.secret records levels (level - 1) old.trees_are within
    ∙ ap (λ l. current_at (l - 1) records (length records)) same in
    subst (λ l. IsTableOf l key new_made bindings new_identifiers new_levels (count + 1) moved) (sym grown) (record {
      legal = grows records (ExtendRecord extend) old.legal (ap (λ o. can_follow o records (ExtendRecord extend)) old.keyed ∙ follows);
      keyed = key_stays records (ExtendRecord extend ∷ []) some ∙ old.keyed;
      sizes = sizes_grown records (ExtendRecord extend) old.sizes own;
      counted = omega (arith, old.counted, length_push records (ExtendRecord extend));
      moved_is = old.moved_is ∙ stays ∙ moved_last records (ExtendRecord extend);
      trees_are = trees key.secret records key extend place (key_stands records key old.keyed) (sym old.counted) (sym same) refl
          (ap (λ l. current (l - 1) records) same ∙ at) old.trees_are;
      recorded_are = λ k.
          made_is k
          ∙ (λ i. cond (nat_eq (old.counted i) k) (Some (record { extend = extend; parent = under i })) (old.recorded_are k i))
          ∙ sym (made_grown records extend k);
      bindings_are = λ name. old.bindings_are name ∙ sym (kept_other key.secret records (ExtendRecord extend) name refl);
      identifiers_are = λ identifier.
          ap is_some (identifier_is identifier)
          ∙ some_or (are_same extend.identifier identifier) count (of_text identifiers identifier)
          ∙ ap (λ b. b || are_same extend.identifier identifier) (old.identifiers_are identifier)
          ∙ sym (identifier_grown records (ExtendRecord extend) identifier some);
    })
