-- The trees of a key's records: which record makes a current tree, and the chain of trees above it.
use Rattle.std.proofs.Common.{◌≡◌, ◌∙◌, refl, sym, ap, subst, ◌⊎◌, inl, inr, ℕ, zero, suc, ◌+◌, ◌-◌, ◌<◌, Bool, true, false, not, List, [], ◌∷◌, ◌++◌}
use Rattle.std.proofs.Common.{length, take, find, Option, Some, None, cond, arith, length-append}
use Rattle.std.specs.Prelude.{if◌then◌else◌, nat_eq, slice_get, unwrap_or}
use Rattle.std.specs.Cmp.Lexicographic.{same_text}
use Rattle.std.proofs.lemmas.Bool.{and_parts, cases_order, eqb-true}
use Rattle.std.proofs.lemmas.List.{take-take}
use Rattle.std.proofs.lemmas.Option.{same_Some, slice_get_within}
use Rattle.lmots.specs.Key.{message_digest_of}
use Rattle.typecodes.specs.declared.secret.LmsSecret.{LmsSecret}
use Rattle.lms.specs.Secret.{public_of as lms_public_of}
use Rattle.lms.specs.Writing.{public_bytes as lms_public_bytes}
use Rattle.hss.specs.Secret.{Signing}
use Rattle.state_file.specs.declared.record.Extend.{Extend}
use Rattle.state_file.specs.declared.record.Key.{Key}
use Rattle.state_file.specs.declared.record.Record.{Record}
use Rattle.state_file.specs.declared.record.Record.TheVariants.{Key as KeyRecord, Extend as ExtendRecord, Bound as BoundRecord, Retire, Moved}
use Rattle.sign_core.specs.Records.{are_same, current, last_extend, makes, same_tree, under}
use Rattle.sign_core.specs.Textbook.{Trees, tree_chain, damaged_at, is_sound_at, is_sound_extend, is_sound_record, secret_at, made_secret, parent_signing}
use Rattle.sign_core.specs.Textbook.{chain_signings, current_at, trees_of}

-- ---- lists

pub got_in-take : {A : Type 0} (k : ℕ) (xs : List A) (i : ℕ) (x : A) → slice_get (take k xs) i ≡ Some x → (i < k) × (slice_get xs i ≡ Some x)
got_in-take zero xs i x is = absurd (cc)
got_in-take (suc k) [] i x is = absurd (cc)
got_in-take (suc k) (y ∷ ys) zero x is = (omega arith, is)
got_in-take (suc k) (y ∷ ys) (suc i) x is =
    let (inside, at) = got_in-take k ys i x is in
    (omega (arith, inside), at)

pub got_front : {A : Type 0} (xs ys : List A) (i : ℕ) → i < length xs → slice_get (xs ++ ys) i ≡ slice_get xs i
got_front [] ys i inside = absurd (omega (arith, inside))
got_front (x ∷ xs) ys zero inside = refl
got_front (x ∷ xs) ys (suc i) inside = got_front xs ys i (omega (arith, inside))

pub got_last : {A : Type 0} (xs : List A) (y : A) (i : ℕ) → i ≡ length xs → slice_get (xs ++ y ∷ []) i ≡ Some y
got_last [] y zero is = refl
got_last [] y (suc i) is = absurd (omega (arith, is))
got_last (x ∷ xs) y zero is = absurd (omega (arith, is))
got_last (x ∷ xs) y (suc i) is = got_last xs y i (omega (arith, is))

-- where a test finds nothing in two joined lists, it finds nothing in either
pub none_of_both : {A : Type 0} (test : A → Bool) (xs : List A) (y : A) → find test (xs ++ y ∷ []) ≡ None → (find test xs ≡ None) × (test y ≡ false)
none_of_both test [] y none = (refl, by_test (test y) none)
  where
    by_test : (is : Bool) → cond is (Some y) None ≡ None → is ≡ false
    by_test true without = absurd (cc)
    by_test false without = refl
none_of_both test (x ∷ xs) y none = by_test (test x) (none_of_both test xs y) none
  where
    by_test : (is : Bool) → (find test (xs ++ y ∷ []) ≡ None → (find test xs ≡ None) × (test y ≡ false))
        → cond is (Some x) (find test (xs ++ y ∷ [])) ≡ None → (cond is (Some x) (find test xs) ≡ None) × (test y ≡ false)
    by_test true later without = absurd (cc)
    by_test false later without = later without

-- ---- current trees

-- The last Extend of a level was there before, or stands among these records.
found_last : (level k : ℕ) (found : Option ℕ) (records : List Record) (j : ℕ) → last_extend level k found records ≡ Some j
    → (found ≡ Some j) ⊎ ((i : ℕ) × (extend : Extend) × (j ≡ k + i) × (slice_get records i ≡ Some (ExtendRecord extend)) × (extend.level ≡ level))
found_last level k found [] j is = inl is
found_last level k found (entry ∷ rest) j is =
    elim (found_last level (k + 1) (if makes level entry then Some k else found) rest j is) [
      | inl here ↦ by_entry entry here
      | inr later ↦ inr (suc later.0, later.1, omega (arith, later.2), later.3, later.4)
    ]
  where
    by_test : (extend : Extend) (test : Bool) → nat_eq extend.level level ≡ test → (if test then Some k else found) ≡ Some j
        → (found ≡ Some j) ⊎ ((i : ℕ) × (other : Extend) × (j ≡ k + i) × (slice_get (ExtendRecord extend ∷ rest) i ≡ Some (ExtendRecord other)) ×
        (other.level ≡ level))
    by_test extend true same here = inr (0, extend, omega (arith, same_Some k j here), refl, eqb-true extend.level level same)
    by_test extend false other here = inl here

    by_entry : (first : Record) → (if makes level first then Some k else found) ≡ Some j
        → (found ≡ Some j) ⊎ ((i : ℕ) × (extend : Extend) × (j ≡ k + i) × (slice_get (first ∷ rest) i ≡ Some (ExtendRecord extend)) × (extend.level ≡ level))
    by_entry (KeyRecord key) here = inl here
    by_entry (ExtendRecord extend) here = by_test extend (nat_eq extend.level level) refl here
    by_entry (BoundRecord bound) here = inl here
    by_entry (Retire upto) here = inl here
    by_entry Moved here = inl here

under_known : (above : List Record → Option ℕ) (records : List Record) (found : Option ℕ) (j : ℕ) → under above records found ≡ Some j
    → (found ≡ Some j) × (same_tree (above (take j records)) (above records) ≡ true)
under_known above records None j is = absurd (cc)
under_known above records (Some i) j is = by_test (same_tree (above (take i records)) (above records)) refl is
  where
    by_test : (test : Bool) → same_tree (above (take i records)) (above records) ≡ test → (if test then Some i else None) ≡ Some j
        → (Some i ≡ Some j) × (same_tree (above (take j records)) (above records) ≡ true)
    by_test true same here = (here, subst (λ n. same_tree (above (take n records)) (above records) ≡ true) (same_Some i j here) same)
    by_test false other here = absurd (cc)

same_known : (a b : Option ℕ) → same_tree a b ≡ true → a ≡ Some (unwrap_or a 0)
same_known (Some a) b same = refl
same_known None b same = absurd (cc)

-- The current tree of a level below the top: an Extend of that level made it, and then the level above had a
-- current tree.
pub record IsMade (records : List Record) (level tree : ℕ) : Type 0 where
  pub extend : Extend
  pub stands : slice_get records tree ≡ Some (ExtendRecord extend)
  pub of_level : extend.level ≡ level + 1
  pub above : current level (take tree records) ≡ Some (current_at level records tree)

pub current_made : (level k : ℕ) (records : List Record) (tree : ℕ) → current (suc level) (take k records) ≡ Some tree → (tree < k) × IsMade records level tree
current_made level k records tree is =
    let (found, same) = under_known (current level) (take k records) (last_extend (suc level) 0 None (take k records)) tree is in
    elim (found_last (suc level) 0 None (take k records) tree found) [
      | inl none ↦ absurd (cc)
      | inr (i, extend, place, stands, of_level) ↦
          let at : slice_get (take k records) tree ≡ Some (ExtendRecord extend) =
          subst (λ n. slice_get (take k records) n ≡ Some (ExtendRecord extend)) (omega (arith, place)) stands in
          let (before, here) = got_in-take k records tree (ExtendRecord extend) at in
          let front : take tree (take k records) ≡ take tree records = take-take tree k records (omega (arith, before)) in (
            before,
            record {
              extend = extend;
              stands = here;
              of_level = omega (arith, of_level);
              above = ap (current level) (sym front) ∙ same_known (current level (take tree (take k records))) (current level (take k records)) same
                  ∙ ap (λ all. Some (unwrap_or (current level all) 0)) front;
            },
          )
    ]

-- ---- what each level of a chain signs

abbrev pub named_by : LmsSecret → Extend → Signing
named_by secret extend = record { secret = secret; leaf = extend.parent_leaf; randomizer = extend.randomizer; digest = extend.digest }

-- A level signs with the leaf that an Extend of the next level names in the tree that was current then, and signs the
-- next level's public key.
pub record SignsNext (trees : Trees) (records : List Record) (level : ℕ) (x next : Signing) : Type 0 where
  pub tree : ℕ
  pub place : ℕ
  pub extend : Extend
  pub stands : slice_get records place ≡ Some (ExtendRecord extend)
  pub of_level : extend.level ≡ level + 1
  pub current : current level (take place records) ≡ Some tree
  pub is : x ≡ named_by (secret_at trees records tree) extend
  pub signed : x.digest ≡ message_digest_of x.secret.identifier x.leaf x.randomizer (lms_public_bytes (lms_public_of next.secret))

-- So do all levels above the last, and the first one's tree is the top tree.
pub record AreChained (trees : Trees) (records : List Record) (above : List Signing) (last : Signing) : Type 0 where
  pub top : (x : Signing) → slice_get (above ++ last ∷ []) 0 ≡ Some x → x.secret ≡ trees.top
  pub links : (i : ℕ) (x next : Signing) → slice_get (above ++ last ∷ []) i ≡ Some x
      → slice_get (above ++ last ∷ []) (i + 1) ≡ Some next → SignsNext trees records i x next

chained_more : (trees : Trees) (records : List Record) (above : List Signing) (s last : Signing) → AreChained trees records above s
    → SignsNext trees records (length above) s last → AreChained trees records (above ++ s ∷ []) last
chained_more trees records above s last chained link =
    let front = above ++ s ∷ [] in
    let count : length front ≡ length above + 1 = length-append above (s ∷ []) in
    record {
      top = λ x at. chained.top x (sym (got_front front (last ∷ []) 0 (omega (arith, count))) ∙ at);
      links = λ i x next at_x at_next.
          let inside : i + 1 < length (front ++ last ∷ []) = slice_get_within (front ++ last ∷ []) (i + 1) next at_next in
          let total : length (front ++ last ∷ []) ≡ length front + 1 = length-append front (last ∷ []) in
          let x_front : slice_get front i ≡ Some x = sym (got_front front (last ∷ []) i (omega (arith, inside, total))) ∙ at_x in
          elim (cases_order i (length above)) [
            | inl same ↦
                let x_is : x ≡ s = same_Some x s (sym x_front ∙ got_last above s i same) in
                let next_is : next ≡ last = same_Some next last (sym at_next ∙ got_last front last (i + 1) (omega (arith, same, count))) in
                subst (λ n. SignsNext trees records n x next) (sym same)
                (subst (λ y. SignsNext trees records (length above) y next) (sym x_is)
                (subst (λ y. SignsNext trees records (length above) s y) (sym next_is) link))
            | inr (inl below) ↦ chained.links i x next x_front (sym (got_front front (last ∷ []) (i + 1) (omega (arith, below, count))) ∙ at_next)
            | inr (inr beyond) ↦ absurd (omega (arith, inside, total, count, beyond))
          ];
    }

sound_digest : (trees : Trees) (records : List Record) (tree level : ℕ) (extend : Extend) → extend.level ≡ level + 1
    → is_sound_extend (Some trees) records tree extend ≡ true
    → extend.digest ≡ message_digest_of (secret_at trees records (current_at level records tree)).identifier extend.parent_leaf extend.randomizer
    (lms_public_bytes (lms_public_of (made_secret trees (Some (ExtendRecord extend)))))
sound_digest trees records tree level extend of_level sound =
    let made = lms_public_of (made_secret trees (Some (ExtendRecord extend))) in
    let under_level : ℕ → List ℕ =
    λ n. message_digest_of (secret_at trees records (current_at n records tree)).identifier extend.parent_leaf extend.randomizer (lms_public_bytes made) in
    let above_is : extend.level - 1 ≡ level = omega (arith, of_level) in
    let parts = and_parts (are_same extend.root made.root) (are_same extend.digest (under_level (extend.level - 1))) sound in
    same_text extend.digest (under_level (extend.level - 1)) (sym parts.1) ∙ ap under_level above_is

pub from_not : (b : Bool) → not b ≡ false → b ≡ true
from_not true is = refl
from_not false is = absurd (cc)

-- The chain of a current tree, where no record of it is damaged: each level signs the next one's key.
pub chained : (key : Key) (trees : Trees) (records : List Record) (level k tree : ℕ) (last : Signing) → trees_of key.secret ≡ Some trees
    → slice_get records 0 ≡ Some (KeyRecord key) → current level (take k records) ≡ Some tree → last.secret ≡ secret_at trees records tree
    → damaged_at key level records tree ≡ None
    → (length (chain_signings trees level records tree) ≡ level) × AreChained trees records (chain_signings trees level records tree) last
chained key trees records zero k tree last these first is last_is sound =
    let zero_is : 0 ≡ tree = same_Some 0 tree is in (
      refl,
      record {
        top = λ x at. ap (λ s. s.secret) (sym (same_Some last x at)) ∙ last_is ∙ ap (secret_at trees records) (sym zero_is) ∙ ap (made_secret trees) first;
        links = λ i x next at_x at_next. absurd (omega (arith, slice_get_within (last ∷ []) (i + 1) next at_next));
      },
    )
chained key trees records (suc level) k tree last these first is last_is sound =
    let made = (current_made level k records tree is).1 in
    let parent = current_at level records tree in
    let above = chain_signings trees level records parent in
    let s = named_by (secret_at trees records parent) made.extend in
    let (chain_sound, tree_sound) = none_of_both (λ j. not (is_sound_at key records j)) (tree_chain level records parent) tree sound in
    let (count, before) = chained key trees records level tree parent s these first made.above refl chain_sound in
    let sound_here : is_sound_extend (Some trees) records tree made.extend ≡ true =
    ap (λ t. is_sound_extend t records tree made.extend) (sym these) ∙ ap (is_sound_record key records tree) (sym made.stands)
    ∙ from_not (is_sound_at key records tree) tree_sound in
    let secret_is : last.secret ≡ made_secret trees (Some (ExtendRecord made.extend)) = last_is ∙ ap (made_secret trees) made.stands in
    let link : SignsNext trees records level s last = record {
      tree = parent;
      place = tree;
      extend = made.extend;
      stands = made.stands;
      of_level = made.of_level;
      current = made.above;
      is = refl;
      signed = sound_digest trees records tree level made.extend made.of_level sound_here
          ∙ ap (λ secret. message_digest_of s.secret.identifier s.leaf s.randomizer (lms_public_bytes (lms_public_of secret))) (sym secret_is);
    } in
    let all : above ++ parent_signing trees records parent (slice_get records tree) ≡ above ++ s ∷ [] =
    ap (λ r. above ++ parent_signing trees records parent r) made.stands in
    let more : AreChained trees records (above ++ s ∷ []) last =
    chained_more trees records above s last before (subst (λ n. SignsNext trees records n s last) (sym count) link) in
    (ap length all ∙ omega (arith, length-append above (s ∷ []), count), subst (λ levels. AreChained trees records levels last) (sym all) more)
