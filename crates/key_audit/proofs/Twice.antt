-- Given signatures that use one leaf twice, by what the index keeps of those before.
use Rattle.std.proofs.Common.{◌≡◌, ◌⊎◌, ◌∙◌, inl, inr, ℕ, zero, suc, ◌+◌, ◌^◌, ◌<◌, ◌≤◌, Bool, true, false, cond, ◌&&◌, List, [], ◌∷◌, ◌++◌, length, take, get_or, drop, Option, Some, None, Result, Ok, Err, is_err}
use Rattle.std.proofs.Common.{refl, sym, ap, ap₂, subst, arith, true≢false}
use Rattle.std.specs.Prelude.{◌≢◌, Contains, OnOk, map, slice_get}
use Rattle.std.specs.List.{range_with_len}
use Rattle.std.specs.Cmp.Lexicographic.{bytes_decides}
use Rattle.std.proofs.Math.Nat.{pow-le-pow_right}
use Rattle.std.proofs.lemmas.Bool.{and_parts, and_cases, cases_lt, cases_eq}
use Rattle.std.proofs.lemmas.List.{get_or-map, length-map}
use Rattle.std.proofs.lemmas.List.FromFn.{get_or-range_with_len, length-range_with_len}
use Rattle.std.proofs.lemmas.Option.{none-some, same_Some, slice_get-get_or}
use Rattle.std.proofs.lemmas.List.Elements.{Contains-append_left, Contains-append_right, Contains-append_cases, Contains-push_cases}
use Rattle.byteorder.specs.Endian.{big_number}
use Rattle.byteorder.specs.Numbers.{big_number-reads_back}
use Rattle.lmots.specs.Hashes.{u32str}
use Rattle.typecodes.specs.Types.{height_of, xmss_height_of}
use Rattle.typecodes.specs.declared.types.XmssType.{XmssType}
use Rattle.typecodes.specs.declared.types.XmssType.TheVariants as xmss
use Rattle.typecodes.proofs.Leaves.{lms_most}
use Rattle.typecodes.proofs.Spelling.{one_value}
use Rattle.lms.specs.Signature.{signature as lms_signature}
use Rattle.hss.specs.Signature.{key_at, message_at, signature as hss_signature, signature_at}
use Rattle.xmss.specs.Signature.{signature as xmss_signature}
use Rattle.xmss.specs.Writing.{public_bytes as xmss_public_bytes}
use Rattle.xmss.specs.Digest.{message_digest_of as m_of}
use Rattle.sign_core.specs.declared.key.AnyPublic.{AnyPublic}
use Rattle.sign_core.specs.declared.key.AnyPublic.TheVariants.{Lms, Hss, Xmss}
use Rattle.sign_core.specs.Ledger.{ByText, of_text}
use Rattle.sign_core.specs.Once.{IsOneLeaf}
use Rattle.sign_core.specs.Records.{are_same}
use Rattle.sign_core.specs.Uses.{LeafUse as Use, MakesUses, lms_use}
use Rattle.key_audit.specs.declared.given.Given.{Given}
use Rattle.key_audit.specs.declared.leaf_index.FirstUse.{FirstUse}
use Rattle.key_audit.specs.declared.uses.LeafUse.{LeafUse}
use Rattle.key_audit.specs.Given.{AreValid, IsFirstTwice, IsTwice, IsValidGiven, NoneTwice, Uses}
use Rattle.key_audit.specs.inner.LeafIndex.{AddsUses, AreKept, IsFirstConflict, IsKept, UseAt, conflict_at, conflict_of_use, use_at}
use Rattle.key_audit.specs.inner.Uses.{AreUsesOf, kept_use, leaf_bytes}

-- ---- lists

Contains-none : {X : Type 0} (x : X) → Contains [] x → ⊥
Contains-none x (k, below, is) = absurd (omega (arith, below))

Contains-only : {X : Type 0} (x y : X) → Contains (x ∷ []) y → x ≡ y
Contains-only x y has = elim (Contains-push_cases [] x y has) [
  | inl none ↦ absurd (Contains-none y none)
  | inr same ↦ same
]

Contains-map : {X Y : Type 0} (f : X → Y) (xs : List X) (x : X) → Contains xs x → Contains (map f xs) (f x)
Contains-map f xs x (k, below, is) = (k, omega (arith, below, length-map xs f), get_or-map f xs k x (f x) below ∙ ap f is)

-- an item of a mapped list was made from an item
Contains-made : {X Y : Type 0} (f : X → Y) (xs : List X) (y : Y) → Contains (map f xs) y → (x : X) × Contains xs x × (f x ≡ y)
Contains-made f [] y has = absurd (Contains-none y has)
Contains-made f (x ∷ xs) y (zero, below, is) = (x, (0, omega arith, refl), is)
Contains-made f (x ∷ xs) y (suc k, below, is) =
    let (z, (j, inside, at), made) = Contains-made f xs y (k, omega (arith, below), is) in (z, (suc j, omega (arith, inside), at), made)

in-range_below : (n i : ℕ) → Contains (range_with_len 0 n) i → i < n
in-range_below n i (k, below, is) =
    let inside : k < n = omega (arith, below, length-range_with_len 0 n) in
    let at : 0 + k ≡ i = sym (get_or-range_with_len 0 n k i inside) ∙ is in omega (arith, inside, at)

-- ---- the uses of one signature

abbrev pub AreValidBefore : AnyPublic → List Given → ℕ → Type 0
AreValidBefore public given n = (k : ℕ) (other : Given) → k < n → slice_get given k ≡ Some other → IsValidGiven public other

pub valid_more : (public : AnyPublic) (given : List Given) (n : ℕ) (each : Given) → slice_get given n ≡ Some each → IsValidGiven public each
    → AreValidBefore public given n → AreValidBefore public given (n + 1)
valid_more public given n each stands valid before k other low at = elim (cases_lt k n) [
  | inl below ↦ before k other below at
  | inr above ↦
      let end : k ≡ n = omega (arith, low, above) in
      subst (IsValidGiven public) (same_Some each other (sym stands ∙ ap (slice_get given) (sym end) ∙ at)) valid
]

pub stands_at : (given : List Given) (n : ℕ) (each : Given) → n < length given → each ≡ get_or given n each → slice_get given n ≡ Some each
stands_at given n each inside is = slice_get-get_or given n each inside ∙ ap Some (sym is)

one_uses : (public : AnyPublic) (message bytes : List ℕ) (us vs : List Use) → MakesUses public message bytes us → MakesUses public message bytes vs → us ≡ vs
one_uses (Lms key) message bytes us vs (s, p, us_are) (t, q, vs_are) =
    us_are ∙ ap (λ x. lms_use key message x ∷ []) (one_value lms_signature s t bytes p q) ∙ sym vs_are
one_uses (Hss key) message bytes us vs (s, p, us_are) (t, q, vs_are) =
    us_are
    ∙ ap (λ x. map (λ i. lms_use (key_at key.top x i) (message_at message x i) (signature_at x i)) (range_with_len 0 (length x.signed + 1)))
    (one_value hss_signature s t bytes p q) ∙ sym vs_are
one_uses (Xmss key) message bytes us vs (s, p, us_are) (t, q, vs_are) =
    us_are
    ∙ ap (λ x. record { identifier = xmss_public_bytes key; leaf = x.index; digest = m_of x.randomizer key.root x.index message } ∷ [])
    (one_value (xmss_signature key.tree) s t bytes p q) ∙ sym vs_are

below_all : (q h : ℕ) → q < 2 ^ h → h ≤ 25 → q < 2 ^ 32
below_all q h inside low =
    let within_limit : h ≤ 32 = omega (arith, low) in
    let most : 2 ^ h ≤ 2 ^ 32 = pow-le-pow_right (omega arith) within_limit in omega (arith, inside, most)

xmss_most : (t : XmssType) → xmss_height_of t ≤ 25
xmss_most xmss.H10 = omega arith
xmss_most xmss.H16 = omega arith
xmss_most xmss.H20 = omega arith

small_use : (public : AnyPublic) (given : Given) (u : Use) → IsValidGiven public given → Uses public given u → u.leaf < 2 ^ 32
small_use (Lms key) given u valid (uses, (s, spelled, are), has) =
    let (t, t_spelled, ok) = valid.verifies in
    let same : t ≡ s = one_value lms_signature t s given.signature.items t_spelled spelled in
    let is : lms_use key given.message.items s ≡ u = Contains-only _ u (subst (λ l. Contains l u) are has) in
    let leaf : t.q ≡ u.leaf = ap (λ x. x.q) same ∙ ap (λ x. x.leaf) is in
    let low : t.q < 2 ^ 32 = below_all t.q (height_of key.pair.tree) ok.leaf (lms_most key.pair.tree) in omega (arith, leaf, low)
small_use (Hss key) given u valid (uses, (s, spelled, are), has) =
    let (t, t_spelled, ok) = valid.verifies in
    let same : t ≡ s = one_value hss_signature t s given.signature.items t_spelled spelled in
    let at : ℕ → Use = λ i. lms_use (key_at key.top s i) (message_at given.message.items s i) (signature_at s i) in
    let (i, in_range, is) = Contains-made at (range_with_len 0 (length s.signed + 1)) u (subst (λ l. Contains l u) are has) in
    let inside : i < length s.signed + 1 = in-range_below (length s.signed + 1) i in_range in
    let levels : length t.signed + 1 ≡ key.levels = ok.count in
    let counted : length t.signed ≡ length s.signed = ap (λ x. length x.signed) same in
    let level = ok.levels i (omega (arith, inside, levels, counted)) in
    let leaf : (signature_at t i).q ≡ u.leaf = ap (λ x. (signature_at x i).q) same ∙ ap (λ x. x.leaf) is in
    let low : (signature_at t i).q < 2 ^ 32 = below_all (signature_at t i).q (height_of (key_at key.top t i).pair.tree) level.leaf (lms_most (key_at key.top t i).pair.tree) in
    omega (arith, leaf, low)
small_use (Xmss key) given u valid (uses, (s, spelled, are), has) =
    let (t, t_spelled, ok) = valid.verifies in
    let same : t ≡ s = one_value (xmss_signature key.tree) t s given.signature.items t_spelled spelled in
    let is = Contains-only _ u (subst (λ l. Contains l u) are has) in
    let leaf : t.index ≡ u.leaf = ap (λ x. x.index) same ∙ ap (λ (x : Use). x.leaf) is in
    let low : t.index < 2 ^ 32 = below_all t.index (xmss_height_of key.tree) ok.leaf (xmss_most key.tree) in omega (arith, leaf, low)

number_back : (u : Use) → u.leaf < 2 ^ 32 → big_number 4 (take 4 (leaf_bytes u)) ≡ u.leaf
number_back u small = big_number-reads_back 4 u.leaf [] small

one_leaf : (public : AnyPublic) (a b : Given) (u v : Use) → IsValidGiven public a → IsValidGiven public b → Uses public a u → Uses public b v
    → leaf_bytes u ≡ leaf_bytes v → IsOneLeaf u v
one_leaf public a b u v a_valid b_valid by_a by_b same = record {
  identifier = ap (drop 4) same;
  leaf = sym (number_back u (small_use public a u a_valid by_a)) ∙ ap (λ l. big_number 4 (take 4 l)) same
      ∙ number_back v (small_use public b v b_valid by_b);
}

named_alike : (u v : Use) → IsOneLeaf u v → leaf_bytes u ≡ leaf_bytes v
named_alike u v one = ap₂ (λ leaf identifier. u32str leaf ++ identifier) one.leaf one.identifier

-- ---- the uses of the signatures before one

-- A signature before place n makes this use.
pub record IsUsedBefore (public : AnyPublic) (given : List Given) (n : ℕ) (x : UseAt) : Type 0 where
  pub each : Given
  pub inside : x.place < n
  pub stands : slice_get given x.place ≡ Some each
  pub used : Use
  pub by_each : Uses public each used
  pub leaf : x.leaf ≡ leaf_bytes used
  pub digest : x.digest ≡ used.digest

-- The index is right for the signatures before place n, none of which share a leaf for different digests.
pub record Indexed (public : AnyPublic) (given : List Given) (n : ℕ) (entries : ByText FirstUse) : Type 0 where
  pub log : List UseAt
  pub sound : (x : UseAt) → Contains log x → IsUsedBefore public given n x
  pub complete : (x : UseAt) → IsUsedBefore public given n x → Contains log x
  pub kept : AreKept (Contains log) entries
  pub none : NoneTwice public given n

pub index_empty : (public : AnyPublic) (given : List Given) (entries : ByText FirstUse) → AreKept (Contains []) entries → Indexed public given 0 entries
index_empty public given entries kept = record {
  log = [];
  sound = λ x has. absurd (Contains-none x has);
  complete = λ x before. absurd (omega (arith, before.inside));
  kept = kept;
  none = λ i j apart below other twice. absurd (omega (arith, below));
}

-- the use of the signature at a place, as it is kept
use_of : ℕ → Use → UseAt
use_of i u = record { place = i; leaf = leaf_bytes u; digest = u.digest }

used_before : (public : AnyPublic) (given : List Given) (n i : ℕ) (a : Given) (u : Use) → i < n → slice_get given i ≡ Some a → Uses public a u
    → IsUsedBefore public given n (use_of i u)
unfolding use_of
used_before public given n i a u inside stands by_a = record { each = a; inside = inside; stands = stands; used = u; by_each = by_a; leaf = refl; digest = refl }

swapped : (public : AnyPublic) (given : List Given) (i j : ℕ) → IsTwice public given i j → IsTwice public given j i
swapped public given i j two = record {
  a = two.b;
  b = two.a;
  at_i = two.at_j;
  at_j = two.at_i;
  twice = record {
    first = two.twice.second;
    second = two.twice.first;
    by_a = two.twice.by_b;
    by_b = two.twice.by_a;
    leaf = record { identifier = sym two.twice.leaf.identifier; leaf = sym two.twice.leaf.leaf };
    digests = λ same. two.twice.digests (sym same);
  };
}

-- two uses of one leaf for different digests are of one signature
same_place : (public : AnyPublic) (given : List Given) (n : ℕ) (x y : UseAt) → AreValid public given → NoneTwice public given n
    → IsUsedBefore public given n x → IsUsedBefore public given n y → x.leaf ≡ y.leaf → x.digest ≢ y.digest → x.place ≡ y.place
same_place public given n x y valid none of_x of_y leaf differs = elim (cases_eq x.place y.place) [
  | inl same ↦ same
  | inr apart ↦ absurd (none x.place y.place apart of_x.inside of_y.inside (record {
    a = of_x.each;
    b = of_y.each;
    at_i = of_x.stands;
    at_j = of_y.stands;
    twice = record {
      first = of_x.used;
      second = of_y.used;
      by_a = of_x.by_each;
      by_b = of_y.by_each;
      leaf = one_leaf public of_x.each of_y.each of_x.used of_y.used (valid x.place of_x.each of_x.stands) (valid y.place of_y.each of_y.stands)
          of_x.by_each of_y.by_each (sym of_x.leaf ∙ leaf ∙ of_y.leaf);
      digests = λ same. differs (of_x.digest ∙ same ∙ sym of_y.digest);
    };
  }))
]

-- ---- another digest, by what is kept

seen : (P : UseAt → Type 0) (leaf digest : List ℕ) (o : Option FirstUse) (x : UseAt) → IsKept P leaf o → P x → x.leaf ≡ leaf → x.digest ≢ digest
    → (p : ℕ) × (conflict_of_use o digest ≡ Some p) × (p ≤ x.place)
seen P leaf digest None x kept has same differs = absurd (kept x has same)
seen P leaf digest (Some first) x kept has same differs = by (first.one_digest && are_same first.digest digest) refl where
  by : (b : Bool) → (first.one_digest && are_same first.digest digest) ≡ b → (p : ℕ) × (conflict_of_use (Some first) digest ≡ Some p) × (p ≤ x.place)
  by true is =
      let (only, alike) = and_parts first.one_digest (are_same first.digest digest) is in
      absurd (differs (kept.alike only x has same ∙ (bytes_decides first.digest digest).0 alike))
  by false is = (first.place, ap (λ b. cond b None (Some first.place)) is, kept.least x has same)

-- A use for another digest, as it is seen.
pub record IsOther (P : UseAt → Type 0) (leaf digest : List ℕ) (i : ℕ) : Type 0 where
  pub x : UseAt
  pub has : P x
  pub leaf_is : x.leaf ≡ leaf
  pub place_is : x.place ≡ i
  pub differs : x.digest ≢ digest

is_other : (P : UseAt → Type 0) (leaf digest : List ℕ) (o : Option FirstUse) (i : ℕ) → IsKept P leaf o
    → ((x y : UseAt) → P x → P y → x.leaf ≡ y.leaf → x.digest ≢ y.digest → x.place ≡ y.place)
    → conflict_of_use o digest ≡ Some i → IsOther P leaf digest i
is_other P leaf digest None i kept one at = absurd (none-some i at)
is_other P leaf digest (Some first) i kept one at = by (first.one_digest && are_same first.digest digest) refl where
  own : first.place ≡ i → first.digest ≢ digest → IsOther P leaf digest i
  own place differs = record { x = record { place = first.place; leaf = leaf; digest = first.digest }; has = kept.used; leaf_is = refl; place_is = place; differs = differs }

  mixed : first.place ≡ i → first.one_digest ≡ false → (b : Bool) → are_same first.digest digest ≡ b → IsOther P leaf digest i
  mixed place not_only true alike =
      let (y, has, leaf_is, differs) = kept.mixed not_only in
      let same : first.digest ≡ digest = (bytes_decides first.digest digest).0 alike in record {
        x = y;
        has = has;
        leaf_is = leaf_is;
        place_is = one y (record { place = first.place; leaf = leaf; digest = first.digest }) has kept.used leaf_is differs ∙ place;
        differs = λ is. differs (is ∙ sym same);
      }
  mixed place not_only false alike = own place (λ same. true≢false (sym ((bytes_decides first.digest digest).1 same) ∙ alike))

  by : (b : Bool) → (first.one_digest && are_same first.digest digest) ≡ b → IsOther P leaf digest i
  by true is = absurd (none-some i (sym (ap (λ b. cond b None (Some first.place)) is) ∙ at))
  by false is =
      let place : first.place ≡ i = same_Some first.place i (sym (ap (λ b. cond b None (Some first.place)) is) ∙ at) in
      elim (and_cases first.one_digest (are_same first.digest digest) is) [
        | inl not_only ↦ mixed place not_only (are_same first.digest digest) refl
        | inr apart ↦ own place (λ same. true≢false (sym ((bytes_decides first.digest digest).1 same) ∙ apart))
      ]

-- ---- the signature at place n

kept_among : (public : AnyPublic) (each : Given) (uses : List LeafUse) (u : Use) → AreUsesOf public each.message.items each.signature.items uses
    → Uses public each u → Contains uses (kept_use u)
kept_among public each uses u (us, makes, are) (vs, makes_too, has) =
    let same : vs ≡ us = one_uses public each.message.items each.signature.items vs us makes_too makes in
    subst (λ l. Contains l (kept_use u)) (sym are) (Contains-map kept_use us u (subst (λ l. Contains l u) same has))

among_kept : (public : AnyPublic) (each : Given) (uses : List LeafUse) (k : LeafUse) → AreUsesOf public each.message.items each.signature.items uses
    → Contains uses k → (u : Use) × Uses public each u × (kept_use u ≡ k)
among_kept public each uses k (us, makes, are) has =
    let (u, in_us, is) = Contains-made kept_use us k (subst (λ l. Contains l k) are has) in (u, (us, makes, in_us), is)

-- an earlier signature that shares a leaf is seen
twice_seen : (public : AnyPublic) (given : List Given) (n i : ℕ) (each : Given) (uses : List LeafUse) (entries : ByText FirstUse)
    → Indexed public given n entries → slice_get given n ≡ Some each → AreUsesOf public each.message.items each.signature.items uses
    → i < n → IsTwice public given i n
    → (k : LeafUse) × Contains uses k × ((p : ℕ) × (conflict_at entries k ≡ Some p) × (p ≤ i))
unfolding use_of
twice_seen public given n i each uses entries indexed stands are below two =
    let own : two.b ≡ each = same_Some two.b each (sym two.at_j ∙ stands) in
    let by_each : Uses public each two.twice.second = subst (λ g. Uses public g two.twice.second) own two.twice.by_b in
    let x : UseAt = use_of i two.twice.first in
    let has : Contains indexed.log x = indexed.complete x (used_before public given n i two.a two.twice.first below two.at_i two.twice.by_a) in (
      kept_use two.twice.second,
      kept_among public each uses two.twice.second are by_each,
      seen (Contains indexed.log) (leaf_bytes two.twice.second) two.twice.second.digest (of_text entries (leaf_bytes two.twice.second)) x
          (indexed.kept (leaf_bytes two.twice.second)) has (named_alike two.twice.first two.twice.second two.twice.leaf) two.twice.digests,
    )

pub none_twice : (public : AnyPublic) (given : List Given) (n : ℕ) (each : Given) (uses : List LeafUse) (entries : ByText FirstUse)
    → Indexed public given n entries → slice_get given n ≡ Some each → AreUsesOf public each.message.items each.signature.items uses
    → IsFirstConflict entries uses None → NoneTwice public given (n + 1)
none_twice public given n each uses entries indexed stands are least i j apart i_low j_low two = by (cases_lt i n) (cases_lt j n) where
  never : (k : ℕ) → k < n → IsTwice public given k n → ⊥
  never k below found =
      let (used, has, (p, at, low)) = twice_seen public given n k each uses entries indexed stands are below found in none-some p (sym (least used has) ∙ at)

  by : (i < n) ⊎ (n ≤ i) → (j < n) ⊎ (n ≤ j) → ⊥
  by (inl i_below) (inl j_below) = indexed.none i j apart i_below j_below two
  by (inl i_below) (inr j_above) = let end : j ≡ n = omega (arith, j_low, j_above) in never i i_below (subst (IsTwice public given i) end two)
  by (inr i_above) (inl j_below) = let end : i ≡ n = omega (arith, i_low, i_above) in never j j_below (subst (IsTwice public given j) end (swapped public given i j two))
  by (inr i_above) (inr j_above) = apart (omega (arith, i_low, i_above, j_low, j_above))

pub first_twice : (public : AnyPublic) (given : List Given) (n i : ℕ) (each : Given) (uses : List LeafUse) (entries : ByText FirstUse)
    → AreValid public given → Indexed public given n entries → slice_get given n ≡ Some each
    → AreUsesOf public each.message.items each.signature.items uses → IsFirstConflict entries uses (Some i) → IsFirstTwice public given i n
first_twice public given n i each uses entries valid indexed stands are ((k, has, at), least) =
    let (u, by_each, is) = among_kept public each uses k are has in
    let other = is_other (Contains indexed.log) k.leaf k.digest (of_text entries k.leaf) i (indexed.kept k.leaf)
    (λ x y in_x in_y. same_place public given n x y valid indexed.none (indexed.sound x in_x) (indexed.sound y in_y)) at in
    let of_x = indexed.sound other.x other.has in
    let before : other.x.place < n = of_x.inside in
    let leaf : leaf_bytes of_x.used ≡ leaf_bytes u = sym of_x.leaf ∙ other.leaf_is ∙ sym (ap (λ (l : LeafUse). l.leaf) is) in
    record {
      earlier = subst (λ m. m < n) other.place_is before;
      twice = subst (λ m. IsTwice public given m n) other.place_is (record {
        a = of_x.each;
        b = each;
        at_i = of_x.stands;
        at_j = stands;
        twice = record {
          first = of_x.used;
          second = u;
          by_a = of_x.by_each;
          by_b = by_each;
          leaf = one_leaf public of_x.each each of_x.used u (valid other.x.place of_x.each of_x.stands) (valid n each stands) of_x.by_each by_each leaf;
          digests = λ same. other.differs (of_x.digest ∙ same ∙ ap (λ (l : LeafUse). l.digest) is);
        };
      });
      first = indexed.none;
      least = λ m below two.
          let inside : i < n = subst (λ m. m < n) other.place_is before in
          let (used, in_uses, (p, seen_at, low)) = twice_seen public given n m each uses entries indexed stands are (omega (arith, below, inside)) two in
          let high : i ≤ p = least used p in_uses seen_at in
          omega (arith, below, low, high);
    }

-- ---- its uses are added

same_use : (x : UseAt) (place : ℕ) (leaf digest : List ℕ) → place ≡ x.place → leaf ≡ x.leaf → digest ≡ x.digest
    → ◌≡◌ {A = UseAt} (record { place = place; leaf = leaf; digest = digest }) x
same_use x place leaf digest p q r =
    ap (λ a. record { place = a; leaf = leaf; digest = digest }) p
    ∙ ap (λ b. record { place = x.place; leaf = b; digest = digest }) q
    ∙ ap (λ d. record { place = x.place; leaf = x.leaf; digest = d }) r

pub index_more : (public : AnyPublic) (given : List Given) (n : ℕ) (each : Given) (uses : List LeafUse) (old new : ByText FirstUse)
    → Indexed public given n old → slice_get given n ≡ Some each → AreUsesOf public each.message.items each.signature.items uses
    → IsFirstConflict old uses None
    → AddsUses n uses old new → Indexed public given (n + 1) new
index_more public given n each uses old new indexed stands are least adds = record {
  log = indexed.log ++ map (use_at n) uses;
  sound = λ x has. elim (Contains-append_cases indexed.log (map (use_at n) uses) x has) [
    | inl older ↦
        let b = indexed.sound x older in
        record { each = b.each; inside = omega (arith, b.inside); stands = b.stands; used = b.used; by_each = b.by_each; leaf = b.leaf; digest = b.digest }
    | inr added ↦
        let (k, in_uses, is) = Contains-made (use_at n) uses x added in
        let (u, by_each, kept_is) = among_kept public each uses k are in_uses in
        let place : n ≡ x.place = ap (λ (y : UseAt). y.place) is in record {
          each = each;
          inside = omega (arith, place);
          stands = ap (slice_get given) (sym place) ∙ stands;
          used = u;
          by_each = by_each;
          leaf = sym (ap (λ (y : UseAt). y.leaf) is) ∙ sym (ap (λ (l : LeafUse). l.leaf) kept_is);
          digest = sym (ap (λ (y : UseAt). y.digest) is) ∙ sym (ap (λ (l : LeafUse). l.digest) kept_is);
        }
  ];
  complete = λ x b. elim (cases_lt x.place n) [
    | inl below ↦
        Contains-append_left indexed.log (map (use_at n) uses) x
        (indexed.complete x (record { each = b.each; inside = below; stands = b.stands; used = b.used; by_each = b.by_each; leaf = b.leaf; digest = b.digest }))
    | inr above ↦
        let place : n ≡ x.place = omega (arith, above, b.inside) in
        let own : b.each ≡ each = same_Some b.each each (sym b.stands ∙ ap (slice_get given) (sym place) ∙ stands) in
        let by_each : Uses public each b.used = subst (λ g. Uses public g b.used) own b.by_each in
        let here : Contains (map (use_at n) uses) (use_at n (kept_use b.used)) =
        Contains-map (use_at n) uses (kept_use b.used) (kept_among public each uses b.used are by_each) in
        Contains-append_right indexed.log (map (use_at n) uses) x
        (subst (Contains (map (use_at n) uses)) (same_use x n (leaf_bytes b.used) b.used.digest place (sym b.leaf) (sym b.digest)) here)
  ];
  kept = adds indexed.log (λ x has. let b = indexed.sound x has in let low : x.place < n = b.inside in omega (arith, low)) indexed.kept;
  none = none_twice public given n each uses old indexed stands are least;
}

-- ---- the steps of the loop

pub uses_of_each : (public : AnyPublic) (each : Given) (message bytes : List ℕ) (uses : List LeafUse) → message ≡ each.message.items
    → bytes ≡ each.signature.items → AreUsesOf public message bytes uses → AreUsesOf public each.message.items each.signature.items uses
uses_of_each public each message bytes uses p q are =
    subst (λ m. AreUsesOf public m each.signature.items uses) p (subst (λ b. AreUsesOf public message b uses) q are)

pub was_ok : {T E P : Type 0} (r : Result T E) (failed : Bool) → failed ≡ is_err r → failed ≡ false → OnOk r P → P
was_ok (Ok x) failed is not holds = holds
was_ok (Err e) failed is not holds = absurd (true≢false (sym is ∙ not))
