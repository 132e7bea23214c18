-- Chains of trees in memory are the chains of the records.
use Rattle.std.proofs.Common.{◌≡◌, ◌∙◌, refl, sym, ap, subst, inl, inr, ℕ, zero, suc, ◌+◌, ◌-◌, ◌^◌, ◌<◌, ◌≤◌, Bool, true, false, not, List, [], ◌∷◌}
use Rattle.std.proofs.Common.{◌++◌, length, take, find, Option, Some, None, cond, arith, length-append}
use Rattle.std.specs.Prelude.{slice_get, slice_index_or, unwrap_or, Result, Ok, Err, IfErr, OnErr, OnOk}
use Rattle.std.proofs.lemmas.Bool.{cases_order}
use Rattle.std.proofs.Common.{append-nil}
use Rattle.std.proofs.lemmas.List.{append_assoc, map-append}
use Rattle.std.proofs.lemmas.Option.{same_Some, slice_get_within}
use Rattle.typecodes.specs.declared.types.LmsPair.{LmsPair}
use Rattle.typecodes.specs.Types.{height_of}
use Rattle.typecodes.specs.declared.secret.LmsSecret.{LmsSecret}
use Rattle.lms.specs.declared.signing_tree.SigningTree.{SigningTree}
use Rattle.hss.specs.declared.secret.Level.{Level}
use Rattle.hss.specs.Secret.{Signing, signing_of}
use Rattle.state_file.specs.Laws.{IsCurrent, IsLegal, leaves_at, tree_leaves_at, levels_of}
use Rattle.state_file.specs.declared.record.Extend.{Extend}
use Rattle.state_file.specs.declared.record.Key.{Key}
use Rattle.state_file.specs.declared.record.Record.{Record}
use Rattle.state_file.specs.declared.record.Record.TheVariants.{Key as KeyRecord, Extend as ExtendRecord, Bound as BoundRecord, Retire, Moved}
use Rattle.state_file.specs.declared.record.Secret.{Secret}
use Rattle.state_file.specs.declared.record.Secret.TheVariants.{Lms, Hss, Xmss}
use Rattle.sign_core.specs.declared.ledger.RecordedTree.{RecordedTree}
use Rattle.sign_core.specs.Records.{current, the_key}
use Rattle.sign_core.specs.inner.KeyTrees.{AreMade, IsMade, IsTreeAt, IsTreeBy, signings_of}
use Rattle.sign_core.specs.Ledger.{recorded_at, recorded_entry}
use Rattle.sign_core.specs.Textbook.{Trees, tree_chain, damaged_at, is_sound_at, secret_at, made_secret, current_at}
use Rattle.sign_core.specs.Textbook.{parent_signing, leaf_signing, chain_signings, trees_of}
use Rattle.sign_core.proofs.records.Chains.{got_front, got_last, named_by}
use Rattle.sign_core.proofs.records.Keys.{key_stands, legal_key}
use Rattle.sign_core.proofs.records.CurrentTrees.{before_current}

-- ---- the record of a tree

extend_in : Option Record → Option Extend
extend_in (Some (ExtendRecord extend)) = Some extend
extend_in (Some (KeyRecord key)) = None
extend_in (Some (BoundRecord bound)) = None
extend_in (Some (Retire upto)) = None
extend_in (Some Moved) = None
extend_in None = None

one_extend : (a b : Extend) → Some (ExtendRecord a) ≡ Some (ExtendRecord b) → a ≡ b
unfolding extend_in
one_extend a b same = same_Some a b (ap extend_in same)

pub made_extend : (records : List Record) (place : ℕ) (entry : Option Record) (made : RecordedTree) → recorded_entry records place entry ≡ Some made
    → (entry ≡ Some (ExtendRecord made.extend)) × (made.parent ≡ current_at (made.extend.level - 1) records place)
made_extend records place (Some (ExtendRecord extend)) made is =
    let own : RecordedTree = record { extend = extend; parent = current_at (extend.level - 1) records place } in
    let same : own ≡ made = same_Some own made is in
    (ap (λ m. Some (ExtendRecord m.extend)) same, subst (λ m. m.parent ≡ current_at (m.extend.level - 1) records place) same refl)
made_extend records place (Some (KeyRecord key)) made is = absurd (cc)
made_extend records place (Some (BoundRecord bound)) made is = absurd (cc)
made_extend records place (Some (Retire upto)) made is = absurd (cc)
made_extend records place (Some Moved) made is = absurd (cc)
made_extend records place None made is = absurd (cc)

key_or_extend : (key : Key) (extend : Extend) → Some (KeyRecord key) ≡ Some (ExtendRecord extend) → ⊥
key_or_extend key extend same = cc

pub level_made : (records : List Record) (key : Key) (level place : ℕ) (extend : Extend) → slice_get records 0 ≡ Some (KeyRecord key)
    → IsTreeAt records level place → slice_get records place ≡ Some (ExtendRecord extend) → (extend.level ≡ level) × (1 ≤ level)
level_made records key zero place extend first at stands =
    absurd (key_or_extend key extend (sym first ∙ ap (slice_get records) (sym at) ∙ stands))
level_made records key (suc level) place extend first (other, there, of_level) stands =
    (ap (λ e. e.level) (one_extend extend other (sym stands ∙ there)) ∙ of_level, omega arith)

-- ---- the tree above

pub current_stands : (records : List Record) (k level tree : ℕ) → IsCurrent records k level tree → IsTreeAt records level tree
current_stands records k zero tree is = is
current_stands records k (suc level) tree (last, above) = (last.extend, last.stands, last.of_level)

leaves_in_at : (levels : List LmsPair) (level : ℕ) (other : LmsPair) → level < length levels
    → tree_leaves_at levels level ≡ 2 ^ height_of (slice_index_or levels level other).tree
leaves_in_at [] level other within = absurd (omega (arith, within))
leaves_in_at (pair ∷ rest) zero other within = refl
leaves_in_at (pair ∷ rest) (suc level) other within = leaves_in_at rest level other (omega (arith, within))

pub leaves_of_level : (secret : Secret) (trees : Trees) (level : ℕ) → trees_of secret ≡ Some trees → level < levels_of secret
    → leaves_at secret level ≡ 2 ^ height_of (slice_index_or trees.pairs level trees.top.pair).tree
leaves_of_level (Lms secret) trees zero these within =
    ap (λ (t : Trees). 2 ^ height_of (slice_index_or t.pairs 0 t.top.pair).tree) (same_Some _ trees these)
leaves_of_level (Lms secret) trees (suc level) these within = absurd (omega (arith, within))
leaves_of_level (Hss [] identifier seed) trees level these within = absurd (cc)
leaves_of_level (Hss (pair ∷ rest) identifier seed) trees level these within =
    leaves_in_at (pair ∷ rest) level pair within
    ∙ ap (λ (t : Trees). 2 ^ height_of (slice_index_or t.pairs level t.top.pair).tree) (same_Some _ trees these)
leaves_of_level (Xmss secret) trees level these within = absurd (cc)

top_pair : (secret : Secret) (trees : Trees) → trees_of secret ≡ Some trees → trees.top.pair ≡ slice_index_or trees.pairs 0 trees.top.pair
top_pair (Lms secret) trees these =
    subst (λ (t : Trees). t.top.pair ≡ slice_index_or t.pairs 0 t.top.pair) (same_Some _ trees these) refl
top_pair (Hss [] identifier seed) trees these = absurd (cc)
top_pair (Hss (pair ∷ rest) identifier seed) trees these =
    subst (λ (t : Trees). t.top.pair ≡ slice_index_or t.pairs 0 t.top.pair) (same_Some _ trees these) refl
top_pair (Xmss secret) trees these = absurd (cc)

pub pair_at : (key : Key) (trees : Trees) (records : List Record) (level place : ℕ) → slice_get records 0 ≡ Some (KeyRecord key)
    → trees_of key.secret ≡ Some trees → IsTreeAt records level place
    → (secret_at trees records place).pair ≡ slice_index_or trees.pairs level trees.top.pair
pair_at key trees records zero place first these at =
    ap (λ r. (made_secret trees r).pair) (ap (slice_get records) at ∙ first) ∙ top_pair key.secret trees these
pair_at key trees records (suc level) place first these (extend, stands, of_level) =
    ap (λ r. (made_secret trees r).pair) stands ∙ ap (λ n. slice_index_or trees.pairs n trees.top.pair) of_level

-- The tree above an Extend's is one of the level above, and the leaf is one of its leaves.
pub parent_of : (key : Key) (trees : Trees) (records : List Record) (level place : ℕ) (extend : Extend) → IsLegal records → the_key records ≡ Some key
    → trees_of key.secret ≡ Some trees → slice_get records place ≡ Some (ExtendRecord extend) → extend.level ≡ suc level
    → IsTreeAt records level (current_at level records place)
    × (extend.parent_leaf < 2 ^ height_of (secret_at trees records (current_at level records place)).pair.tree)
parent_of key trees records level place extend legal keyed these stands of_level =
    let first = key_stands records key keyed in
    let (own, is, below, (tree, is_current), leaf) = legal.fits place (ExtendRecord extend) stands in
    let same : own ≡ level = omega (arith, is, of_level) in
    let keys : legal.key ≡ key = legal_key records key legal keyed in
    let at : IsCurrent records place level tree = subst (λ n. IsCurrent records place n tree) same is_current in
    let within : place < length records = slice_get_within records place (ExtendRecord extend) stands in
    let before : current level (take place records) ≡ Some tree = before_current records place level tree (omega (arith, within)) at in
    let tree_is : tree ≡ current_at level records place = sym (ap (λ o. unwrap_or o 0) before) in
    let there : IsTreeAt records level (current_at level records place) =
    subst (IsTreeAt records level) tree_is (current_stands records place level tree at) in
    let within_limit : level < levels_of key.secret =
    subst (λ (k : Key). level < levels_of k.secret) keys (omega (arith, of_level, below)) in
    let inside : extend.parent_leaf < leaves_at key.secret level =
    subst (λ (k : Key). extend.parent_leaf < leaves_at k.secret level) keys (subst (λ n. extend.parent_leaf < leaves_at legal.key.secret n) same leaf) in (
      there,
      subst (λ n. extend.parent_leaf < n)
          (leaves_of_level key.secret trees level these within_limit ∙ ap (λ p. 2 ^ height_of p.tree) (sym (pair_at key trees records level _ first these there)))
          inside,
    )

-- ---- the first record of a chain that isn't sound

found_front : {A : Type 0} (test : A → Bool) (xs ys : List A) (x : A) → find test xs ≡ Some x → find test (xs ++ ys) ≡ Some x
found_front test [] ys x is = absurd (cc)
found_front test (y ∷ xs) ys x is = by_test (test y) (found_front test xs ys x) is
  where
    by_test : (here : Bool) → (find test xs ≡ Some x → find test (xs ++ ys) ≡ Some x)
        → cond here (Some y) (find test xs) ≡ Some x → cond here (Some y) (find test (xs ++ ys)) ≡ Some x
    by_test true later at = at
    by_test false later at = later at

found_after : {A : Type 0} (test : A → Bool) (xs ys : List A) → find test xs ≡ None → find test (xs ++ ys) ≡ find test ys
found_after test [] ys none = refl
found_after test (y ∷ xs) ys none = by_test (test y) (found_after test xs ys) none
  where
    by_test : (here : Bool) → (find test xs ≡ None → find test (xs ++ ys) ≡ find test ys)
        → cond here (Some y) (find test xs) ≡ None → cond here (Some y) (find test (xs ++ ys)) ≡ find test ys
    by_test true later at = absurd (cc)
    by_test false later at = later at

pub top_sound : (key : Key) (records : List Record) (place : ℕ) → is_sound_at key records place ≡ true → damaged_at key 0 records place ≡ None
top_sound key records place sound = ap (λ b. cond (not b) (Some place) None) sound

pub top_damaged : (key : Key) (records : List Record) (place : ℕ) → is_sound_at key records place ≡ false → damaged_at key 0 records place ≡ Some place
top_damaged key records place damaged = ap (λ b. cond (not b) (Some place) None) damaged

pub below_sound : (key : Key) (records : List Record) (level place : ℕ) → damaged_at key level records (current_at level records place) ≡ None
    → is_sound_at key records place ≡ true → damaged_at key (suc level) records place ≡ None
below_sound key records level place above sound =
    found_after (λ k. not (is_sound_at key records k)) (tree_chain level records (current_at level records place)) (place ∷ []) above
    ∙ top_sound key records place sound

pub below_damaged : (key : Key) (records : List Record) (level place : ℕ) → damaged_at key level records (current_at level records place) ≡ None
    → is_sound_at key records place ≡ false → damaged_at key (suc level) records place ≡ Some place
below_damaged key records level place above damaged =
    found_after (λ k. not (is_sound_at key records k)) (tree_chain level records (current_at level records place)) (place ∷ []) above
    ∙ top_damaged key records place damaged

pub above_damaged : (key : Key) (records : List Record) (level place k : ℕ) → damaged_at key level records (current_at level records place) ≡ Some k
    → damaged_at key (suc level) records place ≡ Some k
above_damaged key records level place k above =
    found_front (λ j. not (is_sound_at key records j)) (tree_chain level records (current_at level records place)) (place ∷ []) k above

-- ---- the levels of a chain

pub more_made : (levels : List Level) (last : Level) → AreMade levels → IsMade last.tree → AreMade (levels ++ last ∷ [])
more_made levels last before made i other at =
    let inside : i < length (levels ++ last ∷ []) = slice_get_within (levels ++ last ∷ []) i other at in
    let count : length (levels ++ last ∷ []) ≡ length levels + 1 = length-append levels (last ∷ []) in
    elim (cases_order i (length levels)) [
      | inl same ↦ subst (λ (l : Level). IsMade l.tree) (same_Some last other (sym (got_last levels last i same) ∙ at)) made
      | inr (inl below) ↦ before i other (sym (got_front levels (last ∷ []) i below) ∙ at)
      | inr (inr beyond) ↦ absurd (omega (arith, inside, count, beyond))
    ]

-- the signing of a tree that was just made
pub tree_signs : (tree : SigningTree) (secret : LmsSecret) (leaf : ℕ) (randomizer digest : List ℕ) → IsTreeBy secret leaf tree
    → leaf_signing tree.secret tree.leaf randomizer digest ≡ leaf_signing secret leaf randomizer digest
tree_signs tree secret leaf randomizer digest by = λ i. leaf_signing (by.secret_is i) (by.leaf_is i) randomizer digest

-- ---- one more level

-- A kept Extend is the tree of its level, under the tree at its parent's place.
pub record IsUnder (trees : Trees) (records : List Record) (level place : ℕ) (made : RecordedTree) : Type 0 where
  pub stands : slice_get records place ≡ Some (ExtendRecord made.extend)
  pub some : 1 ≤ level
  pub above : current_at (level - 1) records place ≡ made.parent
  pub parent : IsTreeAt records (level - 1) made.parent
  pub inside : made.extend.parent_leaf < 2 ^ height_of (secret_at trees records made.parent).pair.tree

pub is_under : (key : Key) (trees : Trees) (records : List Record) (level place : ℕ) (made : RecordedTree) → IsLegal records → the_key records ≡ Some key
    → trees_of key.secret ≡ Some trees → IsTreeAt records level place → recorded_at records place ≡ Some made → IsUnder trees records level place made
is_under key trees records level place made legal keyed these at is =
    let (stands, parent) = made_extend records place (slice_get records place) made is in
    let (same, some) = level_made records key level place made.extend (key_stands records key keyed) at stands in
    let next : made.extend.level ≡ suc (level - 1) = omega (arith, same, some) in
    let (there, inside) = parent_of key trees records (level - 1) place made.extend legal keyed these stands next in
    let level_is : made.extend.level - 1 ≡ level - 1 = omega (arith, same) in
    let above : current_at (level - 1) records place ≡ made.parent = sym (parent ∙ ap (λ n. current_at n records place) level_is) in
    record {
      stands = stands;
      some = some;
      above = above;
      parent = subst (IsTreeAt records (level - 1)) above there;
      inside = subst (λ p. made.extend.parent_leaf < 2 ^ height_of (secret_at trees records p).pair.tree) above inside;
    }

next_level : (level : ℕ) → 1 ≤ level → suc (level - 1) ≡ level
next_level level some = omega (arith, some)

pub chain_sound : (key : Key) (trees : Trees) (records : List Record) (level place : ℕ) (made : RecordedTree) → IsUnder trees records level place made
    → damaged_at key (level - 1) records made.parent ≡ None → is_sound_at key records place ≡ true → damaged_at key level records place ≡ None
chain_sound key trees records level place made below above sound =
    subst (λ n. damaged_at key n records place ≡ None) (next_level level below.some)
    (below_sound key records (level - 1) place (ap (damaged_at key (level - 1) records) below.above ∙ above) sound)

pub chain_damaged : (key : Key) (trees : Trees) (records : List Record) (level place k : ℕ) (made : RecordedTree) → IsUnder trees records level place made
    → damaged_at key (level - 1) records made.parent ≡ None → (k ≡ place) × (is_sound_at key records place ≡ false)
    → damaged_at key level records place ≡ Some k
chain_damaged key trees records level place k made below above (here, damaged) =
    subst (λ n. damaged_at key n records place ≡ Some k) (next_level level below.some)
    (below_damaged key records (level - 1) place (ap (damaged_at key (level - 1) records) below.above ∙ above) damaged ∙ ap Some (sym here))

pub chain_damaged_above : (key : Key) (trees : Trees) (records : List Record) (level place k : ℕ) (made : RecordedTree) → IsUnder trees records level place made
    → damaged_at key (level - 1) records made.parent ≡ Some k → damaged_at key level records place ≡ Some k
chain_damaged_above key trees records level place k made below above =
    subst (λ n. damaged_at key n records place ≡ Some k) (next_level level below.some)
    (above_damaged key records (level - 1) place k (ap (damaged_at key (level - 1) records) below.above ∙ above))

-- the signings of a chain's trees, with one more level
pub signings_more : (trees : Trees) (records : List Record) (level place : ℕ) (extend : Extend) → slice_get records place ≡ Some (ExtendRecord extend)
    → chain_signings trees level records (current_at level records place) ++ named_by (secret_at trees records (current_at level records place)) extend ∷ []
    ≡ chain_signings trees (suc level) records place
signings_more trees records level place extend stands =
    let parent = current_at level records place in
    sym (ap (λ r. chain_signings trees level records parent ++ parent_signing trees records parent r) stands)

signings_of_chain : (trees : Trees) (records : List Record) (level place : ℕ) (made : RecordedTree) → IsUnder trees records level place made
    → chain_signings trees (level - 1) records made.parent ++ named_by (secret_at trees records made.parent) made.extend ∷ []
    ≡ chain_signings trees level records place
signings_of_chain trees records level place made below =
    subst (λ p. chain_signings trees (level - 1) records p ++ named_by (secret_at trees records p) made.extend ∷ [] ≡ chain_signings trees level records place)
    below.above
    (signings_more trees records (level - 1) place made.extend below.stands
    ∙ ap (λ n. chain_signings trees n records place) (next_level level below.some))

pub all_signings : (trees : Trees) (records : List Record) (level place : ℕ) (made : RecordedTree) (old above new : List Signing)
    → IsUnder trees records level place made → above ≡ old ++ chain_signings trees (level - 1) records made.parent
    → new ≡ above ++ named_by (secret_at trees records made.parent) made.extend ∷ [] → new ≡ old ++ chain_signings trees level records place
all_signings trees records level place made old above new below above_is is =
    let one = named_by (secret_at trees records made.parent) made.extend in
    is ∙ ap (λ xs. xs ++ one ∷ []) above_is ∙ append_assoc old (chain_signings trees (level - 1) records made.parent) (one ∷ [])
    ∙ ap (λ xs. old ++ xs) (signings_of_chain trees records level place made below)

-- What holds of a chain once the levels above a tree are there: whether the tree's record is sound decides.
pub record Reaches (key : Key) (trees : Trees) (records : List Record) (level place : ℕ) (old new : List Level) : Type 0 where
  pub sound : is_sound_at key records place ≡ true → damaged_at key level records place ≡ None
  pub damaged : is_sound_at key records place ≡ false → damaged_at key level records place ≡ Some place
  pub signings : signings_of new ≡ signings_of old ++ chain_signings trees level records place
  pub len : length new ≡ length old + level
  pub made : AreMade old → AreMade new

pub top_level : (records : List Record) (level place : ℕ) → IsTreeAt records level place → recorded_at records place ≡ None → level ≡ 0
top_level records zero place at none = refl
top_level records (suc level) place (extend, stands, of_level) none =
    absurd (none_some (sym none ∙ ap (recorded_entry records place) stands))
  where
    none_some : {A X : Type 0} {a : A} → None ≡ Some a → X
    none_some same = cc

-- the Key's tree has none above it
pub reaches_top : (key : Key) (trees : Trees) (records : List Record) (level place : ℕ) (above : List Level) → IsTreeAt records level place
    → recorded_at records place ≡ None → Reaches key trees records level place above above
reaches_top key trees records level place above at none =
    subst (λ n. Reaches key trees records n place above above) (sym (top_level records level place at none)) (record {
      sound = top_sound key records place;
      damaged = top_damaged key records place;
      signings = sym (append-nil (signings_of above));
      len = omega arith;
      made = λ made. made;
    })

-- an Extend's tree stands under the one whose leaf signs it
pub reaches_below : (key : Key) (trees : Trees) (records : List Record) (level place : ℕ) (made : RecordedTree) (old above : List Level) (tree : SigningTree)
    → IsUnder trees records level place made → damaged_at key (level - 1) records made.parent ≡ None
    → signings_of above ≡ signings_of old ++ chain_signings trees (level - 1) records made.parent → length above ≡ length old + (level - 1)
    → (AreMade old → AreMade above) → IsTreeBy (secret_at trees records made.parent) made.extend.parent_leaf tree
    → Reaches key trees records level place old
    (above ++ record { tree = tree; randomizer = made.extend.randomizer; digest = made.extend.digest } ∷ [])
reaches_below key trees records level place made old above tree below sound signs long are_made by =
    let extend = made.extend in
    let last : Level = record { tree = tree; randomizer = extend.randomizer; digest = extend.digest } in
    record {
      sound = chain_sound key trees records level place made below sound;
      damaged = λ damaged. chain_damaged key trees records level place place made below sound (refl, damaged);
      signings = all_signings trees records level place made (signings_of old) (signings_of above) (signings_of (above ++ last ∷ [])) below signs
          (map-append signing_of above (last ∷ [])
          ∙ ap (λ s. signings_of above ++ s ∷ [])
          (tree_signs tree (secret_at trees records made.parent) extend.parent_leaf extend.randomizer extend.digest by));
      len = omega (arith, long, below.some, length-append above (last ∷ []));
      made = λ before. more_made above last (are_made before) by.made;
    }

-- ---- answers

pub on_ok : {A E P Q : Type 0} (result : Result A E) → (P → Q) → OnOk result P → OnOk result Q
on_ok (Ok x) leads is = leads is
on_ok (Err e) leads is = is

pub on_err : {A E P Q : Type 0} (result : Result A E) → (P → Q) → OnErr result P → OnErr result Q
on_err (Ok x) leads is = is
on_err (Err e) leads is = leads is

pub if_err : {A E : Type 0} {P Q : E → Type 0} (result : Result A E) → ((e : E) → P e → Q e) → IfErr result P → IfErr result Q
if_err (Ok x) leads is = is
if_err (Err e) leads is = leads e is
