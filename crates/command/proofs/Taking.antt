-- How many bytes a layout takes at most; bytes after them change nothing.
use Rattle.std.proofs.Common.{◌≡◌, ◌∙◌, ℕ, zero, suc, ◌∷◌, ◌+◌, ◌*◌, ◌<◌, ◌≤◌, Bool, true, false, cond, List, [], ◌++◌, length, take, drop, Option, Some, None, refl, ap, subst, inl, inr, arith, append_assoc, length-append, length-take-le, take_all, take-append-drop}
use Rattle.std.specs.Prelude.{⊤}
use Rattle.std.proofs.lemmas.Bool.{cases_lt}
use Rattle.typecodes.specs.declared.fault.Cause.{Cause}
use Rattle.typecodes.specs.declared.fault.Cause.TheVariants.{UnknownType}
use Rattle.typecodes.specs.declared.fault.ReadFault.{ReadFault}
use Rattle.typecodes.specs.Types.{named}
use Rattle.typecodes.specs.Layout.{Layout, done, refuse, field, ◌>>=◌, Spells, HasFault}
use Rattle.typecodes.specs.Fields.{number, block, typed, values}
use Rattle.typecodes.proofs.Codes.{known}

-- The layout takes at most n bytes, and P holds of its values.
unfoldable pub TakesAtMost : {V : Type 0} → Layout V → ℕ → (V → Type 0) → Type 0
TakesAtMost (done v) n P = P v
TakesAtMost (refuse back cause) n P = ⊤
TakesAtMost (field k next) n P = (m : ℕ) × (k + m ≤ n) × ((front : List ℕ) → TakesAtMost (next front) m P)

pub most-greater : {V : Type 0} (layout : Layout V) (n more : ℕ) (P : V → Type 0) → n ≤ more → TakesAtMost layout n P → TakesAtMost layout more P
unfolding TakesAtMost
most-greater (done v) n more P le most = most
most-greater (refuse back cause) n more P le most = tt
most-greater (field k next) n more P le (m, fits, most) = (m, omega (arith, fits, le), most)

pub most-bind : {A B : Type 0} (first : Layout A) (next : A → Layout B) (a b : ℕ) (P : A → Type 0) (Q : B → Type 0)
    → TakesAtMost first a P → ((v : A) → P v → TakesAtMost (next v) b Q) → TakesAtMost (first >>= next) (a + b) Q
unfolding TakesAtMost
most-bind (done v) next a b P Q most then_most = most-greater (next v) b (a + b) Q (omega arith) (then_most v most)
most-bind (refuse back cause) next a b P Q most then_most = tt
most-bind (field k rest) next a b P Q (m, fits, most) then_most =
    (m + b, omega (arith, fits), λ front. most-bind (rest front) next m b P Q (most front) then_most)

pub most-if : {V : Type 0} (test : Bool) (chosen other : Layout V) (n : ℕ) (P : V → Type 0)
    → (test ≡ true → TakesAtMost chosen n P) → TakesAtMost other n P → TakesAtMost (cond test chosen other) n P
most-if true chosen other n P chosen_most other_most = chosen_most refl
most-if false chosen other n P chosen_most other_most = other_most

abbrev pub Any : {V : Type 0} → V → Type 0
Any v = ⊤

pub most-done : {V : Type 0} (v : V) (n : ℕ) (P : V → Type 0) → P v → TakesAtMost (done v) n P
unfolding TakesAtMost
most-done v n P holds = holds

pub most-refuse : {V : Type 0} (back : ℕ) (cause : Cause) (n : ℕ) (P : V → Type 0) → TakesAtMost (refuse back cause) n P
unfolding TakesAtMost
most-refuse back cause n P = tt

pub most-number : TakesAtMost number 4 Any
unfolding TakesAtMost
most-number = (0, omega arith, λ front. tt)

pub most-block : (n : ℕ) → TakesAtMost (block n) n Any
unfolding TakesAtMost
most-block n = (0, omega arith, λ front. tt)

most-known : {T : Type 0} (type : Option T) → TakesAtMost (known type) 0 Any
most-known (Some t) = most-done t 0 Any tt
most-known None = most-refuse 4 UnknownType 0 Any

pub most-typed : {T : Type 0} (code : T → ℕ) (types : List T) → TakesAtMost (typed code types) 4 Any
most-typed code types = most-bind number (λ c. known (named code types c)) 4 0 Any Any most-number (λ c any. most-known (named code types c))

pub most-values : (n : ℕ) → TakesAtMost (values n) (32 * n) Any
unfolding values
most-values zero = most-done [] 0 Any tt
most-values (suc n) =
    let size : 32 + (32 * n + 0) ≡ 32 * suc n = omega arith in
    subst (λ k. TakesAtMost (values (suc n)) k Any) size
    (most-bind (block 32) (λ first. values n >>= λ rest. done (first ∷ rest)) 32 (32 * n + 0) Any Any (most-block 32)
    (λ first any. most-bind (values n) (λ rest. done (first ∷ rest)) (32 * n) 0 Any Any (most-values n) (λ rest all. most-done (first ∷ rest) 0 Any tt)))

pub spells-at_most : {V : Type 0} (layout : Layout V) (n : ℕ) (P : V → Type 0) (v : V) (bytes : List ℕ)
    → TakesAtMost layout n P → Spells layout v bytes → length bytes ≤ n
unfolding TakesAtMost
spells-at_most (done w) n P v bytes most (same, none) = omega (arith, ap length none)
spells-at_most (refuse back cause) n P v bytes most spelled = absurd spelled
spells-at_most (field k next) n P v bytes (m, fits, most) (front, rest, bytes_are, len, spelled) =
    omega (arith, fits, ap length bytes_are, length-append front rest, len, spells-at_most (next front) m P v rest (most front) spelled)

-- A fault in more bytes than the layout takes stays when others follow.
fault-more : {V : Type 0} (layout : Layout V) (n : ℕ) (P : V → Type 0) (bytes more : List ℕ) (place : ℕ) (fault : ReadFault)
    → TakesAtMost layout n P → n < length bytes → HasFault layout bytes place fault → HasFault layout (bytes ++ more) place fault
unfolding TakesAtMost
fault-more (done v) n P bytes more place fault most less (some, is) = (omega (arith, less, length-append bytes more), is)
fault-more (refuse back cause) n P bytes more place fault most less is = is
fault-more (field k next) n P bytes more place fault (m, fits, most) less (inl (cut, is)) = absurd (omega (arith, fits, less, cut))
fault-more (field k next) n P bytes more place fault (m, fits, most) less (inr (front, rest, bytes_are, len, has)) =
    inr (
      front,
      rest ++ more,
      ap (λ l. l ++ more) bytes_are ∙ append_assoc front rest more,
      len,
      fault-more (next front) m P rest more (place + k) fault (most front)
          (omega (arith, fits, less, ap length bytes_are, length-append front rest, len)) has,
    )

-- So the first bytes, if more than the layout takes, decide for all: the value is the same,
pub spells-first : {V : Type 0} (layout : Layout V) (n count : ℕ) (P : V → Type 0) (v : V) (bytes : List ℕ)
    → TakesAtMost layout n P → n < count → Spells layout v (take count bytes) → Spells layout v bytes
spells-first layout n count P v bytes most less spelled = elim (cases_lt (length bytes) count) [
  | inl short ↦ subst (Spells layout v) (take_all count bytes (omega (arith, short))) spelled
  | inr long ↦ absurd (omega (arith, less, length-take-le count bytes long, spells-at_most layout n P v (take count bytes) most spelled))
]

-- and so is the fault.
pub fault-first : {V : Type 0} (layout : Layout V) (n count : ℕ) (P : V → Type 0) (bytes : List ℕ) (place : ℕ) (fault : ReadFault)
    → TakesAtMost layout n P → n < count → HasFault layout (take count bytes) place fault → HasFault layout bytes place fault
fault-first layout n count P bytes place fault most less has = elim (cases_lt (length bytes) count) [
  | inl short ↦ subst (λ l. HasFault layout l place fault) (take_all count bytes (omega (arith, short))) has
  | inr long ↦ subst (λ l. HasFault layout l place fault) (take-append-drop count bytes)
      (fault-more layout n P (take count bytes) (drop count bytes) place fault most (omega (arith, less, length-take-le count bytes long)) has)
]
