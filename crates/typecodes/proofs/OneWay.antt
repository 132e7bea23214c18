-- Layouts whose values are spelled in one way, field by field.
use Rattle.std.proofs.Common.{◌≡◌, ℕ, zero, suc, ◌+◌, ◌*◌, ◌^◌, ◌<◌, inl, inr, List, [], ◌∷◌, ◌++◌, length, get_or, drop, Option, Some, None, sym, ap, ap₂, ◌∙◌, subst, arith, mul-le-mul_right}
use Rattle.std.proofs.lemmas.Bool.{cases_order}
use Rattle.std.proofs.lemmas.List.{nil_from_length}
use Rattle.byteorder.specs.Endian.{big_number}
use Rattle.byteorder.specs.Numbers.{big_from-cons, big_from-lt}
use Rattle.typecodes.specs.declared.fault.Cause.{Cause}
use Rattle.typecodes.specs.declared.fault.Cause.TheVariants.{UnknownType}
use Rattle.typecodes.specs.Types.{named, lms_code, lms_types, ots_code, ots_types, xmss_code, xmss_types}
use Rattle.typecodes.specs.Layout.{Layout, done, refuse, ◌>>=◌, Spells, AreBytes, OneSpelling, Shows}
use Rattle.typecodes.specs.Fields.{number, block, values, typed, lms_type, ots_type, xmss_type}
use Rattle.typecodes.proofs.Bytes.{AreBytes-front, AreBytes-rest}
use Rattle.typecodes.proofs.Codes.{known, named-has}
use Rattle.typecodes.proofs.Spelling.{in_turn}
use Rattle.typecodes.proofs.Values.{more_values}

-- two numbers of two digits are alike in both
same_digits : (base x y r s : ℕ) → r < base → s < base → x * base + r ≡ y * base + s → (x ≡ y) × (r ≡ s)
same_digits base x y r s r_in s_in same =
    let step = λ (a b : ℕ) (below : a < b). mul-le-mul_right {m = a + 1} {n = b} base (omega arith) in
    let digit : x ≡ y =
    elim (cases_order x y) [
      | inl e ↦ e
      | inr (inl below) ↦ absurd (omega (arith, step x y below))
      | inr (inr above) ↦ absurd (omega (arith, step y x above))
    ] in
    (digit, omega (arith, ap (λ d. d * base) digit))

-- bytes are known by their number
pub same_number : (n : ℕ) (a b : List ℕ) → length a ≡ n → length b ≡ n → AreBytes a → AreBytes b → big_number n a ≡ big_number n b → a ≡ b
same_number zero a b a_len b_len _ _ _ = nil_from_length a a_len ∙ sym (nil_from_length b b_len)
same_number (suc n) [] b a_len b_len _ _ _ = absurd (omega arith)
same_number (suc n) (x ∷ a) [] a_len b_len _ _ _ = absurd (omega arith)
same_number (suc n) (x ∷ a) (y ∷ b) a_len b_len a_bytes b_bytes same =
    let a_rest : AreBytes a = λ i. a_bytes (suc i) in
    let b_rest : AreBytes b = λ i. b_bytes (suc i) in
    let moved : x * 256 ^ n + big_number n a ≡ y * 256 ^ n + big_number n b = ap (λ r. x * 256 ^ n + r) (sym (big_from-cons 0 n x a)) ∙ same ∙ ap (λ r. y * 256 ^ n + r) (big_from-cons 0 n y b) in
    let digits = same_digits (256 ^ n) x y (big_number n a) (big_number n b) (big_from-lt 0 n a a_rest) (big_from-lt 0 n b b_rest) moved in
    ap₂ (λ d ds. d ∷ ds) digits.0 (same_number n a b (omega arith) (omega arith) a_rest b_rest digits.1)

pub one_way-done : {V : Type 0} (v : V) → OneSpelling (done v)
one_way-done v w a b _ _ first second = first.1 ∙ sym second.1

pub one_way-refuse : {V : Type 0} (back : ℕ) (cause : Cause) → OneSpelling {V = V} (refuse back cause)
one_way-refuse back cause v a b _ _ first = absurd first

pub one_way-block : (n : ℕ) → OneSpelling (block n)
one_way-block n v a b _ _ (front, rest, a_is, len, first) (front', rest', b_is, len', second) =
    a_is ∙ ap₂ (λ x y. x ++ y) (first.0 ∙ sym second.0) (first.1 ∙ sym second.1) ∙ sym b_is

pub one_way-number : OneSpelling number
one_way-number v a b a_bytes b_bytes (front, rest, a_is, len, first) (front', rest', b_is, len', second) =
    let front_bytes = AreBytes-front front rest (subst AreBytes a_is a_bytes) in
    let front_bytes' = AreBytes-front front' rest' (subst AreBytes b_is b_bytes) in
    let fronts = same_number 4 front front' len len' front_bytes front_bytes' (first.0 ∙ sym second.0) in
    a_is ∙ ap₂ (λ x y. x ++ y) fronts (first.1 ∙ sym second.1) ∙ sym b_is

-- a layout and one that follows it, where the second's values show the first's
pub one_way-bind : {V W : Type 0} (first : Layout V) (next : V → Layout W) (of : W → V) → OneSpelling first → ((v : V) → OneSpelling (next v)) → ((v : V) → Shows (next v) of v) → OneSpelling (first >>= next)
one_way-bind first next of first_one next_one shows w a b a_bytes b_bytes a_spells b_spells =
    let (v, a₁, a₂, a_is, a_first, a_next) = in_turn first next w a a_spells in
    let (u, b₁, b₂, b_is, b_first, b_next) = in_turn first next w b b_spells in
    let same : u ≡ v = sym (shows u w b₂ b_next) ∙ shows v w a₂ a_next in
    let a_parts = subst AreBytes a_is a_bytes in
    let b_parts = subst AreBytes b_is b_bytes in
    let fronts = first_one v a₁ b₁ (AreBytes-front a₁ a₂ a_parts) (AreBytes-front b₁ b₂ b_parts) a_first (subst (λ x. Spells first x b₁) same b_first) in
    let rests = next_one v w a₂ b₂ (AreBytes-rest a₁ a₂ a_parts) (AreBytes-rest b₁ b₂ b_parts) a_next (subst (λ x. Spells (next x) w b₂) same b_next) in
    a_is ∙ ap₂ (λ x y. x ++ y) fronts rests ∙ sym b_is

-- a value shows what it was made of
pub shows-done : {V X : Type 0} (v : V) (of : V → X) → Shows (done v) of (of v)
shows-done v of w bytes spelled = ap of (sym spelled.0)

-- also after another layout
pub shows-bind : {V W X : Type 0} (first : Layout V) (next : V → Layout W) (of : W → X) (x : X) → ((v : V) → Shows (next v) of x) → Shows (first >>= next) of x
shows-bind first next of x shows w bytes spelled =
    let (v, a, b, _, _, after) = in_turn first next w bytes spelled in shows v w b after

pub one_way-known : {T : Type 0} (type : Option T) → OneSpelling (known type)
one_way-known (Some t) = one_way-done t
one_way-known None = one_way-refuse 4 UnknownType

-- a type that is spelled is the one that was known
known-is : {T : Type 0} (type : Option T) (t : T) (bytes : List ℕ) → Spells (known type) t bytes → type ≡ Some t
known-is (Some u) t bytes spelled = ap Some spelled.0
known-is None t bytes spelled = absurd spelled

pub one_way-typed : {T : Type 0} (code : T → ℕ) (types : List T) → OneSpelling (typed code types)
one_way-typed code types =
    let name = λ (c : ℕ). known (named code types c) in
    one_way-bind number name code one_way-number (λ c. one_way-known (named code types c)) (λ c t bytes spelled. named-has code types c t (known-is (named code types c) t bytes spelled))

pub one_way-ots_type : OneSpelling ots_type
unfolding ots_type
one_way-ots_type = one_way-typed ots_code ots_types

pub one_way-lms_type : OneSpelling lms_type
unfolding lms_type
one_way-lms_type = one_way-typed lms_code lms_types

pub one_way-xmss_type : OneSpelling xmss_type
unfolding xmss_type
one_way-xmss_type = one_way-typed xmss_code xmss_types

pub one_way-values : (n : ℕ) → OneSpelling (values n)
unfolding values
one_way-values zero = one_way-done []
one_way-values (suc n) =
    let head = λ (all : List (List ℕ)). get_or all 0 [] in
    let tail = λ (all : List (List ℕ)). drop 1 all in
    one_way-bind (block 32) (more_values n) head (one_way-block 32) (λ first. one_way-bind (values n) (λ rest. done (first ∷ rest)) tail (one_way-values n) (λ rest. one_way-done (first ∷ rest)) (λ rest. shows-done (first ∷ rest) tail)) (λ first. shows-bind (values n) (λ rest. done (first ∷ rest)) head first (λ rest. shows-done (first ∷ rest) head))
