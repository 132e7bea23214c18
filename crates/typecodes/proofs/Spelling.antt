-- What follows from a layout alone about the bytes that spell a value and those with a fault.
use Rattle.std.proofs.Common.{◌≡◌, ℕ, ◌+◌, inl, inr, List, [], ◌++◌, length, refl, sym, ap, ap₂, ◌∙◌, subst, subst₂, arith, append_assoc, append-nil, length-append}
use Rattle.typecodes.specs.declared.fault.ReadFault.{ReadFault}
use Rattle.typecodes.specs.Layout.{Layout, done, refuse, field, ◌>>=◌, Spells, HasFault, InTurn}
use Rattle.typecodes.proofs.Bytes.{same_cut}

-- two spellings that begin one list are one, of one value
pub same_beginning : {V : Type 0} (layout : Layout V) (v w : V) (a b c d : List ℕ) → a ++ b ≡ c ++ d → Spells layout v a → Spells layout w c → (a ≡ c) × (v ≡ w)
same_beginning (done u) v w a b c d same first second = (first.1 ∙ sym second.1, sym first.0 ∙ second.0)
same_beginning (refuse back cause) v w a b c d same first second = absurd first
same_beginning (field n next) v w a b c d same (front, rest, a_is, len, first) (front', rest', c_is, len', second) =
    let whole : front ++ (rest ++ b) ≡ front' ++ (rest' ++ d) = sym (append_assoc front rest b) ∙ ap (λ x. x ++ b) (sym a_is) ∙ same ∙ ap (λ x. x ++ d) c_is ∙ append_assoc front' rest' d in
    let cut = same_cut front (rest ++ b) front' (rest' ++ d) (len ∙ sym len') whole in
    let moved = subst (λ x. Spells (next x) w rest') (sym cut.0) second in
    let after = same_beginning (next front) v w rest b rest' d cut.1 first moved in
    (a_is ∙ ap₂ (λ x y. x ++ y) cut.0 after.0 ∙ sym c_is, after.1)

pub one_value : {V : Type 0} (layout : Layout V) (v w : V) (bytes : List ℕ) → Spells layout v bytes → Spells layout w bytes → v ≡ w
one_value layout v w bytes first second = (same_beginning layout v w bytes [] bytes [] refl first second).1

pub no_longer : {V : Type 0} (layout : Layout V) (v w : V) (a b : List ℕ) → Spells layout v a → Spells layout w (a ++ b) → (b ≡ []) × (v ≡ w)
no_longer layout v w a b first second =
    let same = same_beginning layout v w a b (a ++ b) [] (sym (append-nil (a ++ b))) first second in
    (sym (same_cut a [] a b refl (append-nil a ∙ same.0)).1, same.1)

pub no_value : {V : Type 0} (layout : Layout V) (v : V) (bytes : List ℕ) (place : ℕ) (fault : ReadFault) → Spells layout v bytes → HasFault layout bytes place fault → ⊥
no_value (done u) v bytes place fault spelled faulty = omega (arith, ap length spelled.1)
no_value (refuse back cause) v bytes place fault spelled faulty = spelled
no_value (field n next) v bytes place fault (front, rest, bytes_are, len, spelled) (inl (short, _)) =
    omega (arith, ap length bytes_are, length-append front rest)
no_value (field n next) v bytes place fault (front, rest, bytes_are, len, spelled) (inr (front', rest', bytes_are', len', faulty)) =
    let cut = same_cut front rest front' rest' (len ∙ sym len') (sym bytes_are ∙ bytes_are') in
    let there = subst₂ (λ x y. Spells (next x) v y) cut.0 cut.1 spelled in
    no_value (next front') v rest' (place + n) fault there faulty

pub one_fault : {V : Type 0} (layout : Layout V) (bytes : List ℕ) (place : ℕ) (fault fault' : ReadFault) → HasFault layout bytes place fault → HasFault layout bytes place fault' → fault ≡ fault'
one_fault (done u) bytes place fault fault' first second = first.1 ∙ sym second.1
one_fault (refuse back cause) bytes place fault fault' first second = first ∙ sym second
one_fault (field n next) bytes place fault fault' (inl first) (inl second) = first.1 ∙ sym second.1
one_fault (field n next) bytes place fault fault' (inl first) (inr (front, rest, bytes_are, len, second)) =
    absurd (omega (arith, first.0, ap length bytes_are, length-append front rest))
one_fault (field n next) bytes place fault fault' (inr (front, rest, bytes_are, len, first)) (inl second) =
    absurd (omega (arith, second.0, ap length bytes_are, length-append front rest))
one_fault (field n next) bytes place fault fault' (inr (front, rest, bytes_are, len, first)) (inr (front', rest', bytes_are', len', second)) =
    let cut = same_cut front rest front' rest' (len ∙ sym len') (sym bytes_are ∙ bytes_are') in
    let there = subst₂ (λ x y. HasFault (next x) y (place + n) fault) cut.0 cut.1 first in
    one_fault (next front') rest' (place + n) fault fault' there second

-- what spells a layout and one that follows it is spelled in turn
pub in_turn : {A B : Type 0} (first : Layout A) (next : A → Layout B) (w : B) (bytes : List ℕ) → Spells (first >>= next) w bytes → InTurn first next w bytes
in_turn (done v) next w bytes spelled = (v, [], bytes, refl, (refl, refl), spelled)
in_turn (refuse back cause) next w bytes spelled = absurd spelled
in_turn (field n rest) next w bytes (front, others, bytes_are, len, spelled) =
    let (v, a, b, others_are, first, second) = in_turn (rest front) next w others spelled in
    (v, front ++ a, b, bytes_are ∙ ap (λ x. front ++ x) others_are ∙ sym (append_assoc front a b), (front, a, refl, len, first), second)

-- and back
pub from_turn : {A B : Type 0} (first : Layout A) (next : A → Layout B) (v : A) (w : B) (a b : List ℕ) → Spells first v a → Spells (next v) w b → Spells (first >>= next) w (a ++ b)
from_turn (done u) next v w a b spelled after =
    subst₂ (λ x y. Spells (next x) w (y ++ b)) (sym spelled.0) (sym spelled.1) after
from_turn (refuse back cause) next v w a b spelled after = spelled
from_turn (field n others) next v w a b (front, rest, a_is, len, spelled) after =
    (front, rest ++ b, ap (λ x. x ++ b) a_is ∙ append_assoc front rest b, len, from_turn (others front) next v w rest b spelled after)
