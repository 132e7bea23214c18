-- What one more record changes of the next leaf of each level.
use Rattle.std.proofs.Common.{◌≡◌, ◌≢◌, ℕ, zero, suc, ◌+◌, ◌-◌, ◌<◌, max, List, [], ◌∷◌, ◌++◌}
use Rattle.std.proofs.Common.{length, Option, Some, None, refl, sym, ap, ◌∙◌, arith}
use Rattle.std.specs.Prelude.{slice_get}
use Rattle.std.proofs.lemmas.Option.{same_Some}
use Rattle.state_file.specs.declared.record.Bound.{Bound}
use Rattle.state_file.specs.declared.record.Extend.{Extend}
use Rattle.state_file.specs.declared.record.Key.{Key}
use Rattle.state_file.specs.declared.record.Record.{Record}
use Rattle.state_file.specs.declared.record.Record.TheVariants.{Key as KeyRecord, Extend as ExtendRecord, Bound as BoundRecord, Retire, Moved}
use Rattle.state_file.specs.declared.record.Secret.{Secret}
use Rattle.state_file.specs.Laws.{IsLastExtend, bottom_of}
use Rattle.sign_core.specs.Records.{current, in_tree, next_at, reached_number, reaches}
use Rattle.sign_core.proofs.records.CurrentTrees.{current_is}
use Rattle.sign_core.proofs.records.FreeLeaves.{number_other}
use Rattle.sign_core.proofs.records.OneMore.{current_above, current_cut, current_kept, next_at_none, next_at_tree, next_kept, next_raised}

-- ---- two levels have no tree in common

extend_of : (records : List Record) (k l i m j : ℕ) → IsLastExtend records k l i → IsLastExtend records k m j → i ≡ j → l ≡ m
extend_of records k l i m j a b same =
    let one : ExtendRecord a.extend ≡ ExtendRecord b.extend =
    same_Some (ExtendRecord a.extend) (ExtendRecord b.extend) (sym a.stands ∙ ap (slice_get records) same ∙ b.stands) in
    sym a.of_level ∙ ap level_of one ∙ b.of_level
  where
    level_of : Record → ℕ
    level_of (KeyRecord key) = 0
    level_of (ExtendRecord extend) = extend.level
    level_of (BoundRecord bound) = 0
    level_of (Retire upto) = 0
    level_of Moved = 0

not_first : (records : List Record) (key : Key) (k l j : ℕ) → slice_get records 0 ≡ Some (KeyRecord key) → IsLastExtend records k (suc l) j → 0 ≢ j
not_first records key k l j first last same =
    let one : KeyRecord key ≡ ExtendRecord last.extend =
    same_Some (KeyRecord key) (ExtendRecord last.extend) (sym first ∙ ap (slice_get records) same ∙ last.stands) in
    absurd (omega (arith, ap kind one))
  where
    kind : Record → ℕ
    kind (KeyRecord key) = 0
    kind (ExtendRecord extend) = 1
    kind (BoundRecord bound) = 2
    kind (Retire upto) = 2
    kind Moved = 2

-- two levels have two current trees, in a list that begins with a Key
pub trees_apart : (records : List Record) (key : Key) (l m a b : ℕ) → slice_get records 0 ≡ Some (KeyRecord key)
    → current l records ≡ Some a → current m records ≡ Some b → l ≢ m → a ≢ b
trees_apart records key zero zero a b first is_a is_b apart same = apart refl
trees_apart records key zero (suc m) a b first is_a is_b apart same =
    let (last, parent) = current_is (suc m) records b is_b in
    not_first records key (length records) m b first last (same_Some 0 a is_a ∙ same)
trees_apart records key (suc l) zero a b first is_a is_b apart same =
    let (last, parent) = current_is (suc l) records a is_a in
    not_first records key (length records) l a first last (same_Some 0 b is_b ∙ sym same)
trees_apart records key (suc l) (suc m) a b first is_a is_b apart same =
    let (last_a, parent_a) = current_is (suc l) records a is_a in
    let (last_b, parent_b) = current_is (suc m) records b is_b in
    apart (extend_of records (length records) (suc l) a (suc m) b last_a last_b same)

-- ---- a record that reaches a number in a level's tree

-- the level's next leaf is raised to it
pub next_at_raised : (secret : Secret) (records : List Record) (entry : Record) (level tree n : ℕ) → current level records ≡ Some tree
    → current level (records ++ entry ∷ []) ≡ current level records → reaches secret records entry ≡ Some (tree, n)
    → next_at secret (records ++ entry ∷ []) level ≡ max (next_at secret records level) n
next_at_raised secret records entry level tree n is kept reached =
    next_at_tree secret (records ++ entry ∷ []) level tree (kept ∙ is)
    ∙ next_raised secret records entry tree n reached
    ∙ ap (λ m. max m n) (sym (next_at_tree secret records level tree is))

-- and every other level's next leaf stays
pub next_at_kept : (secret : Secret) (records : List Record) (key : Key) (entry : Record) (level other tree n : ℕ)
    → slice_get records 0 ≡ Some (KeyRecord key) → current level records ≡ Some tree → reaches secret records entry ≡ Some (tree, n)
    → other ≢ level → current other (records ++ entry ∷ []) ≡ current other records
    → next_at secret (records ++ entry ∷ []) other ≡ next_at secret records other
next_at_kept secret records key entry level other tree n first is reached apart kept = by (current other records) refl
  where
    by : (found : Option ℕ) → current other records ≡ found → next_at secret (records ++ entry ∷ []) other ≡ next_at secret records other
    by None none = next_at_none secret (records ++ entry ∷ []) other (kept ∙ none) ∙ sym (next_at_none secret records other none)
    by (Some own) at =
        let away : tree ≢ own = λ same. trees_apart records key other level own tree first at is apart (sym same) in
        next_at_tree secret (records ++ entry ∷ []) other own (kept ∙ at)
        ∙ next_kept secret records entry own (ap (reached_number own) reached ∙ number_other own tree n away)
        ∙ sym (next_at_tree secret records other own at)

-- ---- an Extend under a current tree

pub extend_reaches : (secret : Secret) (records : List Record) (extend : Extend) (level above : ℕ) → extend.level ≡ suc level
    → current level records ≡ Some above → reaches secret records (ExtendRecord extend) ≡ Some (above, extend.parent_leaf + 1)
extend_reaches secret records extend level above of parent =
    let same : extend.level - 1 ≡ level = omega (arith, of) in
    ap (λ l. in_tree (current l records) (extend.parent_leaf + 1)) same ∙ ap (λ o. in_tree o (extend.parent_leaf + 1)) parent

-- it takes a leaf of the level above
pub next_at_parent : (secret : Secret) (records : List Record) (extend : Extend) (level above : ℕ) → extend.level ≡ suc level
    → current level records ≡ Some above
    → next_at secret (records ++ ExtendRecord extend ∷ []) level ≡ max (next_at secret records level) (extend.parent_leaf + 1)
next_at_parent secret records extend level above of parent =
    next_at_raised secret records (ExtendRecord extend) level above (extend.parent_leaf + 1) parent
    (current_above level level records extend of (omega arith)) (extend_reaches secret records extend level above of parent)

-- leaves the levels above that as they are
pub next_at_above : (secret : Secret) (records : List Record) (key : Key) (extend : Extend) (level higher above : ℕ)
    → slice_get records 0 ≡ Some (KeyRecord key) → extend.level ≡ suc level → current level records ≡ Some above → higher < level
    → next_at secret (records ++ ExtendRecord extend ∷ []) higher ≡ next_at secret records higher
next_at_above secret records key extend level higher above first of parent under =
    next_at_kept secret records key (ExtendRecord extend) level higher above (extend.parent_leaf + 1) first parent
    (extend_reaches secret records extend level above of parent) (λ same. omega (arith, under, same))
    (current_above level higher records extend of (omega (arith, under)))

-- and ends the levels below its own
pub next_at_below : (secret : Secret) (records : List Record) (extend : Extend) (level lower : ℕ) → extend.level ≡ suc level → suc level < lower
    → next_at secret (records ++ ExtendRecord extend ∷ []) lower ≡ 0
next_at_below secret records extend level lower of under =
    next_at_none secret (records ++ ExtendRecord extend ∷ []) lower (current_cut level lower records extend of under)

-- ---- a Bound, a Retire and a Moved

pub current_bound : (level : ℕ) (records : List Record) (bound : Bound) → current level (records ++ BoundRecord bound ∷ []) ≡ current level records
current_bound level records bound = current_kept level records (BoundRecord bound) (λ l low high. refl)

pub current_retire : (level : ℕ) (records : List Record) (upto : ℕ) → current level (records ++ Retire upto ∷ []) ≡ current level records
current_retire level records upto = current_kept level records (Retire upto) (λ l low high. refl)

pub current_moved : (level : ℕ) (records : List Record) → current level (records ++ Moved ∷ []) ≡ current level records
current_moved level records = current_kept level records Moved (λ l low high. refl)

-- a Bound takes a leaf of the bottom tree
pub next_at_bound : (secret : Secret) (records : List Record) (bound : Bound) (tree : ℕ) → current (bottom_of secret) records ≡ Some tree
    → next_at secret (records ++ BoundRecord bound ∷ []) (bottom_of secret) ≡ max (next_at secret records (bottom_of secret)) (bound.leaf + 1)
next_at_bound secret records bound tree is =
    next_at_raised secret records (BoundRecord bound) (bottom_of secret) tree (bound.leaf + 1) is (current_bound (bottom_of secret) records bound)
    (ap (λ o. in_tree o (bound.leaf + 1)) is)

pub next_at_bound_other : (secret : Secret) (records : List Record) (key : Key) (bound : Bound) (level tree : ℕ)
    → slice_get records 0 ≡ Some (KeyRecord key) → current (bottom_of secret) records ≡ Some tree → level ≢ bottom_of secret
    → next_at secret (records ++ BoundRecord bound ∷ []) level ≡ next_at secret records level
next_at_bound_other secret records key bound level tree first is apart =
    next_at_kept secret records key (BoundRecord bound) (bottom_of secret) level tree (bound.leaf + 1) first is
    (ap (λ o. in_tree o (bound.leaf + 1)) is) apart (current_bound level records bound)

-- a Retire takes all leaves below its number
pub next_at_retire : (secret : Secret) (records : List Record) (upto tree : ℕ) → current (bottom_of secret) records ≡ Some tree
    → next_at secret (records ++ Retire upto ∷ []) (bottom_of secret) ≡ max (next_at secret records (bottom_of secret)) upto
next_at_retire secret records upto tree is =
    next_at_raised secret records (Retire upto) (bottom_of secret) tree upto is (current_retire (bottom_of secret) records upto)
    (ap (λ o. in_tree o upto) is)

pub next_at_retire_other : (secret : Secret) (records : List Record) (key : Key) (upto level tree : ℕ)
    → slice_get records 0 ≡ Some (KeyRecord key) → current (bottom_of secret) records ≡ Some tree → level ≢ bottom_of secret
    → next_at secret (records ++ Retire upto ∷ []) level ≡ next_at secret records level
next_at_retire_other secret records key upto level tree first is apart =
    next_at_kept secret records key (Retire upto) (bottom_of secret) level tree upto first is
    (ap (λ o. in_tree o upto) is) apart (current_retire level records upto)

pub next_at_moved : (secret : Secret) (records : List Record) (level : ℕ)
    → next_at secret (records ++ Moved ∷ []) level ≡ next_at secret records level
next_at_moved secret records level = by (current level records) refl
  where
    by : (found : Option ℕ) → current level records ≡ found → next_at secret (records ++ Moved ∷ []) level ≡ next_at secret records level
    by None none = next_at_none secret (records ++ Moved ∷ []) level (current_moved level records ∙ none) ∙ sym (next_at_none secret records level none)
    by (Some tree) at =
        next_at_tree secret (records ++ Moved ∷ []) level tree (current_moved level records ∙ at)
        ∙ next_kept secret records Moved tree refl ∙ sym (next_at_tree secret records level tree at)
