-- What `can_follow` requires of one more record, and what legal lists say of it.
use Rattle.std.proofs.Common.{◌≡◌, ◌⊎◌, inl, inr, ℕ, ◌+◌, ◌-◌, ◌<◌, ◌≤◌, Bool, true, false, not, ◌&&◌, List, [], ◌∷◌, ◌++◌}
use Rattle.std.proofs.Common.{length, take, replicate, Option, Some, None, refl, sym, ap, subst, ◌∙◌, arith, true≢false, ltb-true, lt-ltb, leb-true, le-leb}
use Rattle.std.specs.Prelude.{slice_get, is_some, nat_lt, nat_le}
use Rattle.std.specs.Cmp.Lexicographic.{bytes_decides}
use Rattle.std.proofs.lemmas.Bool.{and_parts, and_from, false_from_ne_true, not_from_false}
use Rattle.std.proofs.lemmas.Option.{none-some, same_Some, some_pair_parts, slice_get_within}
use Rattle.std.proofs.lemmas.List.{length_push, take-append-le}
use Rattle.state_file.specs.declared.record.Bound.{Bound}
use Rattle.state_file.specs.declared.record.Extend.{Extend}
use Rattle.state_file.specs.declared.record.Key.{Key}
use Rattle.state_file.specs.declared.record.Record.{Record}
use Rattle.state_file.specs.declared.record.Record.TheVariants.{Key as KeyRecord, Extend as ExtendRecord, Bound as BoundRecord, Retire, Moved}
use Rattle.state_file.specs.declared.record.Secret.{Secret}
use Rattle.state_file.specs.declared.record.Secret.TheVariants.{Lms, Hss, Xmss}
use Rattle.state_file.specs.declared.record.Version.{Version}
use Rattle.state_file.specs.declared.record.Version.TheVariants.{One, Two}
use Rattle.state_file.specs.Laws.{Fits, HasRandomizer, IsCurrent, IsLegal, Names, bottom_of, identifier_of, leaves_at, levels_of}
use Rattle.state_file.proofs.Legal.{current-all, current-front}
use Rattle.sign_core.specs.Records.{binding_at, can_follow_legal, can_move, current, has_identifier, has_moved, has_randomizer}
use Rattle.sign_core.specs.Records.{in_tree, is_free, is_moved, the_key, next_at, next_leaf, reaches}
use Rattle.sign_core.proofs.records.Parts.{next_of}
use Rattle.sign_core.proofs.records.CurrentTrees.{before_current, current_before, current_is, is_current}
use Rattle.sign_core.proofs.records.FreeLeaves.{is_next}
use Rattle.sign_core.proofs.records.Bindings.{identifier_stands, not_bound}
use Rattle.sign_core.proofs.records.Lists.{slice_get_new, slice_get_stays}

-- ---- the key and the end

pub key_first : (records : List Record) (key : Key) → slice_get records 0 ≡ Some (KeyRecord key) → the_key records ≡ Some key
key_first [] key is = absurd (none-some (KeyRecord key) is)
key_first (entry ∷ rest) key is = ap (λ e. the_key (e ∷ rest)) (same_Some entry (KeyRecord key) is)

first_alone : (entry : Record) (rest other : List Record) → the_key (entry ∷ rest) ≡ the_key (entry ∷ other)
first_alone (KeyRecord key) rest other = refl
first_alone (ExtendRecord extend) rest other = refl
first_alone (BoundRecord bound) rest other = refl
first_alone (Retire upto) rest other = refl
first_alone Moved rest other = refl

pub key_stays : (records more : List Record) → 0 < length records → the_key (records ++ more) ≡ the_key records
key_stays [] more some = absurd (omega (arith, some))
key_stays (entry ∷ rest) more some = first_alone entry (rest ++ more) rest

pub moved_means : (last : Option Record) → is_moved last ≡ true → last ≡ Some Moved
moved_means None is = absurd (true≢false (sym is))
moved_means (Some (KeyRecord key)) is = absurd (true≢false (sym is))
moved_means (Some (ExtendRecord extend)) is = absurd (true≢false (sym is))
moved_means (Some (BoundRecord bound)) is = absurd (true≢false (sym is))
moved_means (Some (Retire upto)) is = absurd (true≢false (sym is))
moved_means (Some Moved) is = refl

-- a legal list with no Moved at its end has none
pub none_moved : (records : List Record) (k : ℕ) → IsLegal records → has_moved records ≡ false → slice_get records k ≡ Some Moved → ⊥
none_moved records k legal stays is =
    let last : k ≡ length records - 1 = omega (arith, (legal.fits k Moved is).1) in
    let moved : is_moved (slice_get records (length records - 1)) ≡ true = ap (λ n. is_moved (slice_get records n)) (sym last) ∙ ap is_moved is in
    true≢false (sym moved ∙ stays)

-- ---- randomizers

randomizer_means : (secret : Secret) (randomizer : List ℕ) → has_randomizer secret randomizer ≡ true → HasRandomizer secret randomizer
randomizer_means (Lms secret) randomizer is = tt
randomizer_means (Hss levels identifier seed) randomizer is = tt
randomizer_means (Xmss secret) randomizer is = (bytes_decides randomizer (replicate 32 0)).0 is

tell_randomizer : (secret : Secret) (randomizer : List ℕ) → HasRandomizer secret randomizer → has_randomizer secret randomizer ≡ true
tell_randomizer (Lms secret) randomizer is = refl
tell_randomizer (Hss levels identifier seed) randomizer is = refl
tell_randomizer (Xmss secret) randomizer is = (bytes_decides randomizer (replicate 32 0)).1 is

-- ---- what a record reaches, and the leaf that it names

in_tree_means : (found : Option ℕ) (m tree n : ℕ) → in_tree found m ≡ Some (tree, n) → (found ≡ Some tree) × (m ≡ n)
in_tree_means None m tree n is = absurd (none-some (tree, n) is)
in_tree_means (Some other) m tree n is = let (same, number) = some_pair_parts other tree m n is in (ap Some same, number)

-- a record that names a leaf reaches the number above it
pub names_reach : (secret : Secret) (records : List Record) (k : ℕ) (entry : Record) (tree leaf : ℕ) → k ≤ length records
    → Names secret records k entry tree leaf → reaches secret (take k records) entry ≡ Some (tree, leaf + 1)
names_reach secret records k (KeyRecord key) tree leaf within names = absurd names
names_reach secret records k (ExtendRecord extend) tree leaf within (level, of, is, same) =
    let above : extend.level - 1 ≡ level = omega (arith, of) in
    let at : current (extend.level - 1) (take k records) ≡ Some tree =
    ap (λ l. current l (take k records)) above ∙ before_current records k level tree within is in
    ap (λ o. in_tree o (extend.parent_leaf + 1)) at ∙ ap (λ n. Some (tree, n + 1)) (sym same)
names_reach secret records k (BoundRecord bound) tree leaf within (is, same) =
    ap (λ o. in_tree o (bound.leaf + 1)) (before_current records k (bottom_of secret) tree within is) ∙ ap (λ n. Some (tree, n + 1)) (sym same)
names_reach secret records k (Retire upto) tree leaf within names = absurd names
names_reach secret records k Moved tree leaf within names = absurd names

pub retire_reaches : (secret : Secret) (records : List Record) (k upto tree : ℕ) → k ≤ length records
    → IsCurrent records k (bottom_of secret) tree → reaches secret (take k records) (Retire upto) ≡ Some (tree, upto)
retire_reaches secret records k upto tree within is =
    ap (λ o. in_tree o upto) (before_current records k (bottom_of secret) tree within is)

-- no other record reaches a number
pub reach_names : (key : Key) (records : List Record) (k : ℕ) (entry : Record) (tree n : ℕ) → k ≤ length records
    → Fits key records k entry → reaches key.secret (take k records) entry ≡ Some (tree, n)
    → ((leaf : ℕ) × Names key.secret records k entry tree leaf × (n ≡ leaf + 1))
    ⊎ ((entry ≡ Retire n) × IsCurrent records k (bottom_of key.secret) tree)
reach_names key records k (KeyRecord other) tree n within fits is = absurd (none-some (tree, n) is)
reach_names key records k (ExtendRecord extend) tree n within (level, of, high, parent, inside) is =
    let above : level ≡ extend.level - 1 = omega (arith, of) in
    let (at, number) = in_tree_means (current (extend.level - 1) (take k records)) (extend.parent_leaf + 1) tree n is in
    let there : current level (take k records) ≡ Some tree = ap (λ l. current l (take k records)) above ∙ at in
    inl (extend.parent_leaf, (level, of, current_before records k level tree within there, refl), sym number)
reach_names key records k (BoundRecord bound) tree n within fits is =
    let (at, number) = in_tree_means (current (bottom_of key.secret) (take k records)) (bound.leaf + 1) tree n is in
    inl (bound.leaf, (current_before records k (bottom_of key.secret) tree within at, refl), sym number)
reach_names key records k (Retire upto) tree n within fits is =
    let (at, number) = in_tree_means (current (bottom_of key.secret) (take k records)) upto tree n is in
    inr (ap Retire number, current_before records k (bottom_of key.secret) tree within at)
reach_names key records k Moved tree n within fits is = absurd (none-some (tree, n) is)

-- a leaf that is named lies below the next one
pub named_below : (secret : Secret) (records : List Record) (k : ℕ) (entry : Record) (tree leaf : ℕ) → slice_get records k ≡ Some entry
    → Names secret records k entry tree leaf → leaf < next_leaf secret records tree
named_below secret records k entry tree leaf at names =
    let within : k < length records = slice_get_within records k entry at in
    let above : leaf + 1 ≤ next_leaf secret records tree =
    (is_next secret records tree).above k (leaf + 1) entry at (names_reach secret records k entry tree leaf (omega (arith, within)) names) in
    omega (arith, above)

pub retired_below : (secret : Secret) (records : List Record) (k upto tree : ℕ) → slice_get records k ≡ Some (Retire upto)
    → IsCurrent records k (bottom_of secret) tree → upto ≤ next_leaf secret records tree
retired_below secret records k upto tree at is =
    let within : k < length records = slice_get_within records k (Retire upto) at in
    (is_next secret records tree).above k upto (Retire upto) at (retire_reaches secret records k upto tree (omega (arith, within)) is)

-- ---- free leaves

some_tree : (found : Option ℕ) → is_some found ≡ true → (tree : ℕ) × (found ≡ Some tree)
some_tree None is = absurd (true≢false (sym is))
some_tree (Some tree) is = (tree, refl)

pub free_means : (secret : Secret) (records : List Record) (level leaf : ℕ) → is_free secret records level leaf ≡ true
    → (tree : ℕ) × (current level records ≡ Some tree) × (leaf < leaves_at secret level) × (next_leaf secret records tree ≤ leaf)
free_means secret records level leaf is =
    let (two, high) = and_parts (is_some (current level records) && nat_lt leaf (leaves_at secret level)) (nat_le (next_at secret records level) leaf) is in
    let (some, low) = and_parts (is_some (current level records)) (nat_lt leaf (leaves_at secret level)) two in
    let (tree, at) = some_tree (current level records) some in
    let next : next_at secret records level ≡ next_leaf secret records tree = ap (next_of secret records) at in
    (tree, at, ltb-true leaf (leaves_at secret level) low, omega (arith, next, leb-true (next_at secret records level) leaf high))

pub tell_free : (secret : Secret) (records : List Record) (level leaf tree : ℕ) → current level records ≡ Some tree
    → leaf < leaves_at secret level → next_leaf secret records tree ≤ leaf → is_free secret records level leaf ≡ true
tell_free secret records level leaf tree at low high =
    let next : next_at secret records level ≡ next_leaf secret records tree = ap (next_of secret records) at in
    and_from (is_some (current level records) && nat_lt leaf (leaves_at secret level)) (nat_le (next_at secret records level) leaf)
    (and_from (is_some (current level records)) (nat_lt leaf (leaves_at secret level)) (ap is_some at) (lt-ltb leaf (leaves_at secret level) low))
    (le-leb (next_at secret records level) leaf (omega (arith, next, high)))

-- ---- a record that can follow

extend_means : (key : Key) (before : List Record) (extend : Extend) → can_follow_legal key before (ExtendRecord extend) ≡ true
    → (1 ≤ extend.level) × (extend.level < levels_of key.secret) × (is_free key.secret before (extend.level - 1) extend.parent_leaf ≡ true)
    × (has_identifier before extend.identifier ≡ false)
extend_means key before extend is =
    let (three, fresh) = and_parts
    (nat_le 1 extend.level && nat_lt extend.level (levels_of key.secret) && is_free key.secret before (extend.level - 1) extend.parent_leaf)
    (not (has_identifier before extend.identifier)) is in
    let (two, free) = and_parts (nat_le 1 extend.level && nat_lt extend.level (levels_of key.secret))
    (is_free key.secret before (extend.level - 1) extend.parent_leaf) three in
    let (low, high) = and_parts (nat_le 1 extend.level) (nat_lt extend.level (levels_of key.secret)) two in (
      leb-true 1 extend.level low,
      ltb-true extend.level (levels_of key.secret) high,
      free,
      not_means (has_identifier before extend.identifier) fresh,
    )
  where
    not_means : (b : Bool) → not b ≡ true → b ≡ false
    not_means true is = sym is
    not_means false is = refl

bound_means : (key : Key) (before : List Record) (bound : Bound) → can_follow_legal key before (BoundRecord bound) ≡ true
    → (is_free key.secret before (bottom_of key.secret) bound.leaf ≡ true) × (binding_at before bound.name ≡ None) × HasRandomizer key.secret bound.randomizer
bound_means key before bound is =
    let (two, random) = and_parts (is_free key.secret before (bottom_of key.secret) bound.leaf && not (is_some (binding_at before bound.name)))
    (has_randomizer key.secret bound.randomizer) is in
    let (free, new) = and_parts (is_free key.secret before (bottom_of key.secret) bound.leaf) (not (is_some (binding_at before bound.name))) two in
    (free, none_means (binding_at before bound.name) new, randomizer_means key.secret bound.randomizer random)
  where
    none_means : (found : Option (ℕ × Bound)) → not (is_some found) ≡ true → found ≡ None
    none_means None is = refl
    none_means (Some found) is = absurd (true≢false (sym is))

-- what is current at the end of a list is current at that place of a longer one
still_current : (before more : List Record) (level tree : ℕ) → current level before ≡ Some tree → IsCurrent (before ++ more) (length before) level tree
still_current before more level tree at =
    current-all before more (length before) level tree (omega arith) (current_is level before tree at)

was_current : (before more : List Record) (level tree : ℕ) → IsCurrent (before ++ more) (length before) level tree → current level before ≡ Some tree
was_current before more level tree is =
    is_current level before tree (current-front before more (length before) level tree (omega arith) is)

-- such a record fits
pub follower_fits : (key : Key) (before : List Record) (entry : Record) → can_follow_legal key before entry ≡ true
    → Fits key (before ++ entry ∷ []) (length before) entry
follower_fits key before (KeyRecord other) is = absurd (true≢false (sym is))
follower_fits key before (ExtendRecord extend) is =
    let (low, high, free, fresh) = extend_means key before extend is in
    let (tree, at, inside, next) = free_means key.secret before (extend.level - 1) extend.parent_leaf free in
    let of : extend.level ≡ extend.level - 1 + 1 = omega (arith, low) in
    (extend.level - 1, of, high, (tree, still_current before (ExtendRecord extend ∷ []) (extend.level - 1) tree at), inside)
follower_fits key before (BoundRecord bound) is =
    let (free, new, random) = bound_means key before bound is in
    let (tree, at, inside, next) = free_means key.secret before (bottom_of key.secret) bound.leaf free in
    ((tree, still_current before (BoundRecord bound ∷ []) (bottom_of key.secret) tree at), inside, random)
follower_fits key before (Retire upto) is =
    let (some, low) = and_parts (is_some (current (bottom_of key.secret) before)) (nat_le upto (leaves_at key.secret (bottom_of key.secret))) is in
    let (tree, at) = some_tree (current (bottom_of key.secret) before) some in
    ((tree, still_current before (Retire upto ∷ []) (bottom_of key.secret) tree at), leb-true upto (leaves_at key.secret (bottom_of key.secret)) low)
follower_fits key before Moved is = (moves key.version is, sym (length_push before Moved))
  where
    moves : (version : Version) → can_move version ≡ true → version ≡ One
    moves One is = refl
    moves Two is = absurd (true≢false (sym is))

same_next : (secret : Secret) (before : List Record) (level tree own leaf : ℕ) → current level before ≡ Some own → current level before ≡ Some tree
    → next_leaf secret before own ≤ leaf → next_leaf secret before tree ≤ leaf
same_next secret before level tree own leaf at there next =
    let same : own ≡ tree = same_Some own tree (sym at ∙ there) in
    subst (λ t. next_leaf secret before t ≤ leaf) same next

-- it names no leaf below the next one
pub follower_names : (key : Key) (before : List Record) (entry : Record) (tree leaf : ℕ) → can_follow_legal key before entry ≡ true
    → Names key.secret (before ++ entry ∷ []) (length before) entry tree leaf → next_leaf key.secret before tree ≤ leaf
follower_names key before (KeyRecord other) tree leaf is names = absurd names
follower_names key before (ExtendRecord extend) tree leaf is (level, of, there, same) =
    let (low, high, free, fresh) = extend_means key before extend is in
    let (own, at, inside, next) = free_means key.secret before (extend.level - 1) extend.parent_leaf free in
    let above : extend.level - 1 ≡ level = omega (arith, of) in
    let here : current level before ≡ Some own = ap (λ l. current l before) (sym above) ∙ at in
    same_next key.secret before level tree own leaf here (was_current before (ExtendRecord extend ∷ []) level tree there) (omega (arith, next, same))
follower_names key before (BoundRecord bound) tree leaf is (there, same) =
    let (free, new, random) = bound_means key before bound is in
    let (own, at, inside, next) = free_means key.secret before (bottom_of key.secret) bound.leaf free in
    same_next key.secret before (bottom_of key.secret) tree own leaf at (was_current before (BoundRecord bound ∷ []) (bottom_of key.secret) tree there)
    (omega (arith, next, same))
follower_names key before (Retire upto) tree leaf is names = absurd names
follower_names key before Moved tree leaf is names = absurd names

pub follower_identifier : (key : Key) (before : List Record) (entry : Record) (identifier : List ℕ) → can_follow_legal key before entry ≡ true
    → identifier_of entry ≡ Some identifier → has_identifier before identifier ≡ false
follower_identifier key before (KeyRecord other) identifier is own = absurd (true≢false (sym is))
follower_identifier key before (ExtendRecord extend) identifier is own =
    let (low, high, free, fresh) = extend_means key before extend is in
    subst (λ i. has_identifier before i ≡ false) (same_Some extend.identifier identifier own) fresh
follower_identifier key before (BoundRecord bound) identifier is own = absurd (none-some identifier own)
follower_identifier key before (Retire upto) identifier is own = absurd (none-some identifier own)
follower_identifier key before Moved identifier is own = absurd (none-some identifier own)

pub follower_name : (key : Key) (before : List Record) (bound : Bound) → can_follow_legal key before (BoundRecord bound) ≡ true
    → binding_at before bound.name ≡ None
follower_name key before bound is = let (free, new, random) = bound_means key before bound is in new

-- ---- the last record of a legal list

-- no leaf that the last record of a legal list names was reached before it
next_under : (before : List Record) (entry : Record) (tree leaf : ℕ) (legal : IsLegal (before ++ entry ∷ []))
    → Names legal.key.secret (before ++ entry ∷ []) (length before) entry tree leaf → next_leaf legal.key.secret before tree ≤ leaf
next_under before entry tree leaf legal names = elim ((is_next legal.key.secret before tree).least) [
  | inl none ↦ omega (arith, none)
  | inr (k, other, at, reached) ↦ by k other at reached
]
  where
    by : (k : ℕ) (other : Record) → slice_get before k ≡ Some other
        → reaches legal.key.secret (take k before) other ≡ Some (tree, next_leaf legal.key.secret before tree) → next_leaf legal.key.secret before tree ≤ leaf
    by k other at reached =
        let next : ℕ = next_leaf legal.key.secret before tree in
        let below : k < length before = slice_get_within before k other at in
        let within : k ≤ length (before ++ entry ∷ []) = omega (arith, below, length_push before entry) in
        let stands : slice_get (before ++ entry ∷ []) k ≡ Some other = slice_get_stays before (entry ∷ []) k other at in
        let same : take k (before ++ entry ∷ []) ≡ take k before = take-append-le k before (entry ∷ []) (omega (arith, below)) in
        let there : reaches legal.key.secret (take k (before ++ entry ∷ [])) other ≡ Some (tree, next) =
        ap (λ l. reaches legal.key.secret l other) same ∙ reached in
        elim (reach_names legal.key (before ++ entry ∷ []) k other tree next within (legal.fits k other stands) there) [
          | inl (earlier, named, number) ↦
              let rises : earlier < leaf =
              legal.rising k (length before) other entry tree earlier leaf below stands (slice_get_new before entry) named names in
              omega (arith, number, rises)
          | inr (retire, is) ↦
              legal.retired k (length before) next entry tree leaf below (stands ∙ ap Some retire) (slice_get_new before entry) is names
        ]

new_identifier : (before : List Record) (entry : Record) (identifier : List ℕ) → IsLegal (before ++ entry ∷ []) → identifier_of entry ≡ Some identifier
    → has_identifier before identifier ≡ false
new_identifier before entry identifier legal own = false_from_ne_true (has_identifier before identifier) (λ has.
    let (k, other, at, same) = identifier_stands before identifier has in
    legal.identifiers k (length before) other entry identifier (slice_get_within before k other at)
    (slice_get_stays before (entry ∷ []) k other at) (slice_get_new before entry) same own)

new_name : (before : List Record) (bound : Bound) → IsLegal (before ++ BoundRecord bound ∷ []) → binding_at before bound.name ≡ None
new_name before bound legal = not_bound before bound.name (λ k other at.
    legal.names k (length before) other bound (slice_get_within before k (BoundRecord other) at)
    (slice_get_stays before (BoundRecord bound ∷ []) k (BoundRecord other) at) (slice_get_new before (BoundRecord bound)))

-- the last record of a legal list can follow those before it
pub last_follows : (before : List Record) (entry : Record) (legal : IsLegal (before ++ entry ∷ [])) → 0 < length before
    → can_follow_legal legal.key before entry ≡ true
last_follows before (KeyRecord key) legal some =
    let fits : length before ≡ 0 = legal.fits (length before) (KeyRecord key) (slice_get_new before (KeyRecord key)) in
    absurd (omega (arith, some, fits))
last_follows before (ExtendRecord extend) legal some =
    let fits : Fits legal.key (before ++ ExtendRecord extend ∷ []) (length before) (ExtendRecord extend) =
    legal.fits (length before) (ExtendRecord extend) (slice_get_new before (ExtendRecord extend)) in
    let (level, of, high, (tree, is), inside) = fits in
    let next : next_leaf legal.key.secret before tree ≤ extend.parent_leaf =
    next_under before (ExtendRecord extend) tree extend.parent_leaf legal (level, of, is, refl) in
    let at : current level before ≡ Some tree = was_current before (ExtendRecord extend ∷ []) level tree is in
    let above : level ≡ extend.level - 1 = omega (arith, of) in
    let free : is_free legal.key.secret before (extend.level - 1) extend.parent_leaf ≡ true =
    subst (λ l. is_free legal.key.secret before l extend.parent_leaf ≡ true) above
    (tell_free legal.key.secret before level extend.parent_leaf tree at inside next) in
    let fresh : not (has_identifier before extend.identifier) ≡ true =
    not_from_false (has_identifier before extend.identifier) (new_identifier before (ExtendRecord extend) extend.identifier legal refl) in
    let low : nat_le 1 extend.level ≡ true = le-leb 1 extend.level (omega (arith, of)) in
    let two : (nat_le 1 extend.level && nat_lt extend.level (levels_of legal.key.secret)) ≡ true =
    and_from (nat_le 1 extend.level) (nat_lt extend.level (levels_of legal.key.secret)) low (lt-ltb extend.level (levels_of legal.key.secret) high) in
    and_from
    (nat_le 1 extend.level && nat_lt extend.level (levels_of legal.key.secret)
    && is_free legal.key.secret before (extend.level - 1) extend.parent_leaf)
    (not (has_identifier before extend.identifier))
    (and_from (nat_le 1 extend.level && nat_lt extend.level (levels_of legal.key.secret))
    (is_free legal.key.secret before (extend.level - 1) extend.parent_leaf) two free)
    fresh
last_follows before (BoundRecord bound) legal some =
    let fits : Fits legal.key (before ++ BoundRecord bound ∷ []) (length before) (BoundRecord bound) =
    legal.fits (length before) (BoundRecord bound) (slice_get_new before (BoundRecord bound)) in
    let ((tree, is), inside, random) = fits in
    let next : next_leaf legal.key.secret before tree ≤ bound.leaf =
    next_under before (BoundRecord bound) tree bound.leaf legal (is, refl) in
    let at : current (bottom_of legal.key.secret) before ≡ Some tree =
    was_current before (BoundRecord bound ∷ []) (bottom_of legal.key.secret) tree is in
    let free : is_free legal.key.secret before (bottom_of legal.key.secret) bound.leaf ≡ true =
    tell_free legal.key.secret before (bottom_of legal.key.secret) bound.leaf tree at inside next in
    let new : not (is_some (binding_at before bound.name)) ≡ true = ap (λ o. not (is_some o)) (new_name before bound legal) in
    and_from (is_free legal.key.secret before (bottom_of legal.key.secret) bound.leaf && not (is_some (binding_at before bound.name)))
    (has_randomizer legal.key.secret bound.randomizer)
    (and_from (is_free legal.key.secret before (bottom_of legal.key.secret) bound.leaf) (not (is_some (binding_at before bound.name))) free new)
    (tell_randomizer legal.key.secret bound.randomizer random)
last_follows before (Retire upto) legal some =
    let fits : Fits legal.key (before ++ Retire upto ∷ []) (length before) (Retire upto) =
    legal.fits (length before) (Retire upto) (slice_get_new before (Retire upto)) in
    let ((tree, is), low) = fits in
    let at : current (bottom_of legal.key.secret) before ≡ Some tree =
    was_current before (Retire upto ∷ []) (bottom_of legal.key.secret) tree is in
    and_from (is_some (current (bottom_of legal.key.secret) before)) (nat_le upto (leaves_at legal.key.secret (bottom_of legal.key.secret)))
    (ap is_some at) (le-leb upto (leaves_at legal.key.secret (bottom_of legal.key.secret)) low)
last_follows before Moved legal some =
    let fits : Fits legal.key (before ++ Moved ∷ []) (length before) Moved = legal.fits (length before) Moved (slice_get_new before Moved) in
    ap can_move fits.0

pub last_stays : (before : List Record) (entry : Record) → IsLegal (before ++ entry ∷ []) → has_moved before ≡ false
last_stays before entry legal = false_from_ne_true (has_moved before) (λ moved.
    let at : slice_get before (length before - 1) ≡ Some Moved = moved_means (slice_get before (length before - 1)) moved in
    let below : length before - 1 < length before = slice_get_within before (length before - 1) Moved at in
    let ends : length before - 1 + 1 ≡ length (before ++ entry ∷ []) =
    (legal.fits (length before - 1) Moved (slice_get_stays before (entry ∷ []) (length before - 1) Moved at)).1 in
    omega (arith, below, ends, length_push before entry))
