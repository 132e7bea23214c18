-- The text of a spec determines it, and its levels are the parts of the text between the commas.
use Rattle.std.proofs.Common.{◌≡◌, ◌≢◌, ℕ, zero, suc, ◌+◌, ◌<◌, ◌≤◌, false, Option, List, [], ◌∷◌, ◌++◌, length, get_or, take, drop, set, map, Some, Ok, Err, Result, IfOk, IfErr, All, eqb, codes, refl, sym, ap, ap₂, ◌∙◌, lit<, arith, append_assoc, eq-eqb, ne_eqb, take_all}
use Rattle.std.specs.List.{AllByRecursion, join_with_byte, slice_split}
use Rattle.std.specs.Int.Digits.{number_from_digits}
use Rattle.std.proofs.lemmas.Bool.{false≢true}
use Rattle.std.proofs.lemmas.List.{length-map, map-append, take_more, take_more_set}
use Rattle.std.proofs.lemmas.List.Elements.{All-append, All-from_recursion, All-weaker}
use Rattle.std.proofs.lemmas.List.Splits.{slice_split_none, slice_split_at, join_with_byte-slice_split}
use Rattle.typecodes.specs.declared.types.OtsType.{OtsType}
use Rattle.typecodes.specs.declared.types.OtsType.TheVariants.{W1, W2, W4, W8}
use Rattle.typecodes.specs.declared.types.LmsType.{LmsType}
use Rattle.typecodes.specs.declared.types.LmsType.TheVariants.{H5, H10, H15, H20, H25}
use Rattle.typecodes.specs.declared.types.LmsPair.{LmsPair}
use Rattle.typecodes.specs.declared.types.XmssType.{XmssType}
use Rattle.typecodes.specs.declared.types.XmssType.TheVariants as xmss
use Rattle.typecodes.specs.declared.spec.BadSpec.{BadSpec}
use Rattle.typecodes.specs.declared.spec.Spec.{Spec}
use Rattle.typecodes.specs.declared.spec.Spec.TheVariants.{Lms, Hss, Xmss}
use Rattle.typecodes.specs.Levels.{AreLevels}
use Rattle.typecodes.specs.Types.{named, lms_types, ots_types, xmss_types}
use Rattle.typecodes.specs.Spec.{IsSpec, comma, levels_text, ots_text, pair_text, spec_text, tree_text, xmss_text}

-- ---- texts with a separator between them, a byte which none of them has

abbrev pub Lacks : ℕ → List ℕ → Type 0
Lacks c bytes = All (λ b. eqb b c ≡ false) bytes

split-join : (c : ℕ) (first : List ℕ) (parts : List (List ℕ)) → AllByRecursion (Lacks c) (first ∷ parts)
    → slice_split (λ b. eqb b c) (join_with_byte c (first ∷ parts)) ≡ first ∷ parts
split-join c first [] lack = slice_split_none (λ b. eqb b c) first lack.0
split-join c first (second ∷ parts) lack =
    slice_split_at (λ b. eqb b c) first c (join_with_byte c (second ∷ parts)) lack.0 (eq-eqb c c refl)
    ∙ ap (λ l. first ∷ l) (split-join c second parts lack.1)

-- ---- types and pairs

-- the letters and digits are above the comma and the slash
tree_high : (tree : LmsType) → AllByRecursion (λ b. 47 < b) (tree_text tree)
tree_high H5 = (lit< tt, (lit< tt, tt))
tree_high H10 = (lit< tt, (lit< tt, (lit< tt, tt)))
tree_high H15 = (lit< tt, (lit< tt, (lit< tt, tt)))
tree_high H20 = (lit< tt, (lit< tt, (lit< tt, tt)))
tree_high H25 = (lit< tt, (lit< tt, (lit< tt, tt)))

ots_high : (ots : OtsType) → AllByRecursion (λ b. 47 < b) (ots_text ots)
ots_high W1 = (lit< tt, (lit< tt, tt))
ots_high W2 = (lit< tt, (lit< tt, tt))
ots_high W4 = (lit< tt, (lit< tt, tt))
ots_high W8 = (lit< tt, (lit< tt, tt))

lacks : (c : ℕ) (bytes : List ℕ) → c ≤ 47 → AllByRecursion (λ b. 47 < b) bytes → Lacks c bytes
lacks c bytes low high =
    All-weaker (λ b. 47 < b) (λ b. eqb b c ≡ false) (λ b above. ne_eqb b c (λ e. omega arith)) bytes
    (All-from_recursion (λ b. 47 < b) bytes high)

pair_lacks : (pair : LmsPair) → Lacks comma (pair_text pair)
pair_lacks pair =
    let P : ℕ → Type 0 = λ b. eqb b comma ≡ false in
    let slash : Lacks comma (codes "/") = All-from_recursion P (codes "/") (refl, tt) in
    All-append P (tree_text pair.tree ++ codes "/") (ots_text pair.ots)
    (All-append P (tree_text pair.tree) (codes "/") (lacks comma (tree_text pair.tree) (omega arith) (tree_high pair.tree)) slash)
    (lacks comma (ots_text pair.ots) (omega arith) (ots_high pair.ots))

-- the type with a text, found by the number that its bytes make
abbrev type_of : {T : Type 0} → (T → List ℕ) → List T → List ℕ → Option T
type_of text types bytes = named (λ t. number_from_digits 256 (text t)) types (number_from_digits 256 bytes)

tree_found : (tree : LmsType) → type_of tree_text lms_types (tree_text tree) ≡ Some tree
tree_found H5 = refl
tree_found H10 = refl
tree_found H15 = refl
tree_found H20 = refl
tree_found H25 = refl

same_tree : (a b : LmsType) → tree_text a ≡ tree_text b → a ≡ b
same_tree a b same = let e = sym (tree_found a) ∙ ap (type_of tree_text lms_types) same ∙ tree_found b in cc

ots_found : (ots : OtsType) → type_of ots_text ots_types (ots_text ots) ≡ Some ots
ots_found W1 = refl
ots_found W2 = refl
ots_found W4 = refl
ots_found W8 = refl

same_ots : (a b : OtsType) → ots_text a ≡ ots_text b → a ≡ b
same_ots a b same = let e = sym (ots_found a) ∙ ap (type_of ots_text ots_types) same ∙ ots_found b in cc

xmss_found : (tree : XmssType) → type_of xmss_text xmss_types (xmss_text tree) ≡ Some tree
xmss_found xmss.H10 = refl
xmss_found xmss.H16 = refl
xmss_found xmss.H20 = refl

same_xmss : (a b : XmssType) → xmss_text a ≡ xmss_text b → a ≡ b
same_xmss a b same = let e = sym (xmss_found a) ∙ ap (type_of xmss_text xmss_types) same ∙ xmss_found b in cc

-- a pair's text, taken apart at the slash
pair_parts : (pair : LmsPair) → slice_split (λ b. eqb b 47) (pair_text pair) ≡ tree_text pair.tree ∷ ots_text pair.ots ∷ []
pair_parts pair =
    let tree = tree_text pair.tree in
    let ots = ots_text pair.ots in
    ap (slice_split (λ b. eqb b 47)) (append_assoc tree (codes "/") ots)
    ∙ split-join 47 tree (ots ∷ [])
    (lacks 47 tree (omega arith) (tree_high pair.tree), (lacks 47 ots (omega arith) (ots_high pair.ots), tt))

same_pair : (a b : LmsPair) → pair_text a ≡ pair_text b → a ≡ b
same_pair a b same =
    let e = sym (pair_parts a) ∙ ap (slice_split (λ b. eqb b 47)) same ∙ pair_parts b in
    let trees : tree_text a.tree ≡ tree_text b.tree = cc in
    let others : ots_text a.ots ≡ ots_text b.ots = cc in
    ap₂ (λ t o. record { tree = t; ots = o }) (same_tree a.tree b.tree trees) (same_ots a.ots b.ots others)

-- ---- levels

-- the parts of a text between the commas
abbrev pub parts_of : List ℕ → List (List ℕ)
parts_of text = slice_split (λ b. eqb b comma) text

pairs_lack : (levels : List LmsPair) → AllByRecursion (Lacks comma) (map pair_text levels)
pairs_lack [] = tt
pairs_lack (pair ∷ levels) = (pair_lacks pair, pairs_lack levels)

-- the parts of the text of levels are the texts of their pairs
parts_of-levels : (levels : List LmsPair) → 1 ≤ length levels → parts_of (levels_text levels) ≡ map pair_text levels
parts_of-levels [] some = absurd (omega arith)
parts_of-levels (pair ∷ levels) some = split-join comma (pair_text pair) (map pair_text levels) (pairs_lack (pair ∷ levels))

same_pairs : (a b : List LmsPair) → map pair_text a ≡ map pair_text b → a ≡ b
same_pairs [] [] same = refl
same_pairs [] (y ∷ ys) same = absurd (cc)
same_pairs (x ∷ xs) [] same = absurd (cc)
same_pairs (x ∷ xs) (y ∷ ys) same =
    let first : pair_text x ≡ pair_text y = cc in
    let rest : map pair_text xs ≡ map pair_text ys = cc in
    ap₂ (λ p ps. p ∷ ps) (same_pair x y first) (same_pairs xs ys rest)

same_levels : (a b : List LmsPair) → AreLevels a → AreLevels b → levels_text a ≡ levels_text b → a ≡ b
same_levels a b first second same =
    same_pairs a b (sym (parts_of-levels a first.0) ∙ ap parts_of same ∙ parts_of-levels b second.0)

-- the levels whose texts are all the parts of a text have this text
pub levels_spelled : (text : List ℕ) (pairs : List LmsPair) (count : ℕ) → count ≡ length (parts_of text)
    → map pair_text (take count pairs) ≡ take count (parts_of text) → text ≡ levels_text (take count pairs)
levels_spelled text pairs count all so =
    let whole : take count (parts_of text) ≡ parts_of text = take_all count (parts_of text) (omega arith) in
    sym (join_with_byte-slice_split comma text) ∙ ap (join_with_byte comma) (sym (so ∙ whole))

-- one pair more
pub pairs_more : (pairs : List LmsPair) (parts : List (List ℕ)) (count n : ℕ) (pair : LmsPair) (part : List ℕ)
    → count ≡ n → count < length pairs → (n < length parts) × (part ≡ get_or parts n part) → part ≡ pair_text pair
    → map pair_text (take count pairs) ≡ take count parts
    → map pair_text (take (count + 1) (set pairs count pair)) ≡ take (count + 1) parts
pairs_more pairs parts count n pair part at room turn is so =
    let here : part ≡ get_or parts count part = turn.1 ∙ ap (λ i. get_or parts i part) (sym at) in
    ap (map pair_text) (take_more_set pairs count pair room) ∙ map-append pair_text (take count pairs) (pair ∷ [])
    ∙ ap₂ (λ ps p. ps ++ (p ∷ [])) so (sym is ∙ here) ∙ sym (take_more parts count part (omega arith))

-- each part of the text of levels is a pair's
get_or-map : (levels : List LmsPair) (n : ℕ) (part : List ℕ) → n < length levels → ((pair : LmsPair) → part ≢ pair_text pair)
    → part ≡ get_or (map pair_text levels) n part → ⊥
get_or-map [] n part within none is = omega arith
get_or-map (pair ∷ levels) zero part within none is = none pair is
get_or-map (pair ∷ levels) (suc n) part within none is = get_or-map levels n part (omega arith) none is

pub no_levels : (text : List ℕ) (n : ℕ) (part : List ℕ) → (n < length (parts_of text)) × (part ≡ get_or (parts_of text) n part)
    → ((pair : LmsPair) → part ≢ pair_text pair) → (levels : List LmsPair) → AreLevels levels → text ≢ levels_text levels
no_levels text n part turn none levels are is =
    let parts : parts_of text ≡ map pair_text levels = ap parts_of is ∙ parts_of-levels levels are.0 in
    get_or-map levels n part (omega (arith, turn.0, ap length parts, length-map levels pair_text)) none
    (turn.1 ∙ ap (λ l. get_or l n part) parts)

-- a text of more than 8 parts is no text of levels
pub no_more_levels : (text : List ℕ) → 8 < length (parts_of text) → (levels : List LmsPair) → AreLevels levels → text ≢ levels_text levels
no_more_levels text many levels are is =
    let parts : parts_of text ≡ map pair_text levels = ap parts_of is ∙ parts_of-levels levels are.0 in
    omega (arith, ap length parts, length-map levels pair_text)

-- ---- specs

-- texts that begin apart differ
apart : (m n : ℕ) (a b : List ℕ) → get_or a 0 0 ≡ m → get_or b 0 0 ≡ n → eqb m n ≡ false → a ≢ b
apart m n a b first second differ same =
    false≢true (sym differ ∙ eq-eqb m n (sym first ∙ ap (λ l. get_or l 0 0) same ∙ second))

same_spec : (a b : Spec) → IsSpec a → IsSpec b → spec_text a ≡ spec_text b → a ≡ b
same_spec (Lms p) (Lms q) _ _ same =
    let e : pair_text p ≡ pair_text q = ap (drop 4) same in
    ap Lms (same_pair p q e)
same_spec (Hss l) (Hss m) first second same =
    let e : levels_text l ≡ levels_text m = ap (drop 4) same in
    ap Hss (same_levels l m first second e)
same_spec (Xmss t) (Xmss u) _ _ same =
    let e : xmss_text t ≡ xmss_text u = ap (drop 5) same in
    ap Xmss (same_xmss t u e)
same_spec (Lms p) (Hss l) _ _ same = absurd (apart 108 104 _ _ refl refl refl same)
same_spec (Lms p) (Xmss t) _ _ same = absurd (apart 108 120 _ _ refl refl refl same)
same_spec (Hss l) (Lms p) _ _ same = absurd (apart 104 108 _ _ refl refl refl same)
same_spec (Hss l) (Xmss t) _ _ same = absurd (apart 104 120 _ _ refl refl refl same)
same_spec (Xmss t) (Lms p) _ _ same = absurd (apart 120 108 _ _ refl refl refl same)
same_spec (Xmss t) (Hss l) _ _ same = absurd (apart 120 104 _ _ refl refl refl same)

-- so the spec of a text is the only one
pub only_spec : (text : List ℕ) (result : Result Spec BadSpec) → IfOk result (λ spec. text ≡ spec_text spec) → IfOk result IsSpec
    → IfErr result (λ _. (spec : Spec) → IsSpec spec → text ≢ spec_text spec)
    → (spec : Spec) → IsSpec spec → text ≡ spec_text spec → result ≡ Ok spec
only_spec text (Ok found) ok is err spec valid same = ap Ok (same_spec found spec is valid (sym ok ∙ same))
only_spec text (Err bad) ok is err spec valid same = absurd (err spec valid same)
