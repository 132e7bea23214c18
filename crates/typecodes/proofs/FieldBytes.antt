-- Which bytes spell the fields of a layout, one after the other.
use Rattle.std.proofs.Common.{◌≡◌, ◌∙◌, refl, sym, ap, ℕ, zero, suc, ◌<◌, ◌^◌, List, [], ◌∷◌, ◌++◌, length, get_or, Option, Some, subst, arith, append_assoc, append-nil}
use Rattle.std.specs.List.{concat}
use Rattle.byteorder.specs.Endian.{big_bytes, big_number}
use Rattle.byteorder.specs.Numbers.{big_number-reads_back}
use Rattle.typecodes.specs.declared.types.LmsType.{LmsType}
use Rattle.typecodes.specs.declared.types.LmsType.TheVariants as lms
use Rattle.typecodes.specs.declared.types.OtsType.{OtsType}
use Rattle.typecodes.specs.declared.types.OtsType.TheVariants.{W1, W2, W4, W8}
use Rattle.typecodes.specs.declared.types.XmssType.{XmssType}
use Rattle.typecodes.specs.declared.types.XmssType.TheVariants as xmss
use Rattle.typecodes.specs.Types.{lms_code, lms_types, named, ots_code, ots_types, xmss_code, xmss_types}
use Rattle.typecodes.specs.Layout.{Layout, Spells, done, ◌>>=◌}
use Rattle.typecodes.specs.Fields.{block, lms_type, number, ots_type, typed, values, xmss_type}
use Rattle.typecodes.proofs.Spelling.{from_turn}
use Rattle.typecodes.proofs.Codes.{known}

pub three_parts : (a b c : List ℕ) → a ++ (b ++ c) ≡ a ++ b ++ c
three_parts a b c = simp append_assoc

pub four_parts : (a b c d : List ℕ) → a ++ (b ++ (c ++ d)) ≡ a ++ b ++ c ++ d
four_parts a b c d = simp append_assoc

pub six_parts : (a b c d e f : List ℕ) → a ++ (b ++ (c ++ (d ++ (e ++ f)))) ≡ a ++ b ++ c ++ d ++ e ++ f
six_parts a b c d e f = simp append_assoc

-- the last field of a layout ends its bytes
pub last_field : {V W : Type 0} (first : Layout V) (next : V → Layout W) (v : V) (w : W) (bytes : List ℕ)
    → Spells first v bytes → Spells (next v) w [] → Spells (first >>= next) w bytes
last_field first next v w bytes spelled ended =
    subst (Spells (first >>= next) w) (append-nil bytes) (from_turn first next v w bytes [] spelled ended)

pub number_spelled : (x : ℕ) → x < 2 ^ 32 → Spells number x (big_bytes 4 x)
number_spelled x small =
    let whole = append-nil (big_bytes 4 x) in
    (big_bytes 4 x, [], sym whole, refl, (ap (big_number 4) (sym whole) ∙ big_number-reads_back 4 x [] small, refl))

pub block_spelled : (n : ℕ) (bytes : List ℕ) → length bytes ≡ n → Spells (block n) bytes bytes
block_spelled n bytes size = (bytes, [], sym (append-nil bytes), size, (refl, refl))

pub values_spelled : (n : ℕ) (vs : List (List ℕ)) → length vs ≡ n → ((i : ℕ) → i < n → length (get_or vs i []) ≡ 32)
    → Spells (values n) vs (concat vs)
unfolding values
values_spelled zero [] count sizes = (refl, refl)
values_spelled zero (v ∷ vs) count sizes = absurd (omega arith)
values_spelled (suc n) [] count sizes = absurd (omega arith)
values_spelled (suc n) (v ∷ vs) count sizes =
    let others = values_spelled n vs (omega arith) (λ i within. sizes (suc i) (omega arith)) in
    from_turn (block 32) (λ first. values n >>= λ rest. done (first ∷ rest)) v (v ∷ vs) v (concat vs)
    (block_spelled 32 v (sizes 0 (omega arith)))
    (last_field (values n) (λ rest. done (v ∷ rest)) vs (v ∷ vs) (concat vs) others (refl, refl))

-- the code of a type that a reader knows spells the type
pub typed_spelled : {T : Type 0} (code : T → ℕ) (types : List T) (t : T) → code t < 2 ^ 32 → named code types (code t) ≡ Some t
    → Spells (typed code types) t (big_bytes 4 (code t))
typed_spelled code types t small is =
    last_field number (λ c. known (named code types c)) (code t) t (big_bytes 4 (code t)) (number_spelled (code t) small)
    (let P : Option _ → Type 0 = λ found. Spells (known found) t [] in subst P (sym is) (refl, refl))

-- Each type of the tables is spelled by its code. Here, and in `Leaves`, a new type adds its line.
pub ots_named : (t : OtsType) → (ots_code t < 2 ^ 32) × (named ots_code ots_types (ots_code t) ≡ Some t)
ots_named W1 = (omega arith, refl)
ots_named W2 = (omega arith, refl)
ots_named W4 = (omega arith, refl)
ots_named W8 = (omega arith, refl)

pub ots_spelled : (t : OtsType) → Spells ots_type t (big_bytes 4 (ots_code t))
unfolding ots_type
ots_spelled t = typed_spelled ots_code ots_types t (ots_named t).0 (ots_named t).1

pub lms_named : (t : LmsType) → (lms_code t < 2 ^ 32) × (named lms_code lms_types (lms_code t) ≡ Some t)
lms_named lms.H5 = (omega arith, refl)
lms_named lms.H10 = (omega arith, refl)
lms_named lms.H15 = (omega arith, refl)
lms_named lms.H20 = (omega arith, refl)
lms_named lms.H25 = (omega arith, refl)

pub lms_spelled : (t : LmsType) → Spells lms_type t (big_bytes 4 (lms_code t))
unfolding lms_type
lms_spelled t = typed_spelled lms_code lms_types t (lms_named t).0 (lms_named t).1

xmss_named : (t : XmssType) → (xmss_code t < 2 ^ 32) × (named xmss_code xmss_types (xmss_code t) ≡ Some t)
xmss_named xmss.H10 = (omega arith, refl)
xmss_named xmss.H16 = (omega arith, refl)
xmss_named xmss.H20 = (omega arith, refl)

pub xmss_spelled : (t : XmssType) → Spells xmss_type t (big_bytes 4 (xmss_code t))
unfolding xmss_type
xmss_spelled t = typed_spelled xmss_code xmss_types t (xmss_named t).0 (xmss_named t).1
