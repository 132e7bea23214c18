-- Layouts whose spellings all have the same size.
use Rattle.std.proofs.Common.{◌≡◌, ◌∙◌, ap, ap₂, arith, ℕ, ◌+◌, Bool, true, false, cond, List, length, Option, Some, None, length-append}
use Rattle.typecodes.specs.declared.fault.Cause.{Cause}
use Rattle.typecodes.specs.declared.fault.Cause.TheVariants.{UnknownType}
use Rattle.typecodes.specs.Types.{named}
use Rattle.typecodes.specs.Layout.{Layout, done, refuse, ◌>>=◌, Spells}
use Rattle.typecodes.specs.Fields.{number, block, typed}
use Rattle.typecodes.proofs.Spelling.{in_turn}
use Rattle.typecodes.proofs.Codes.{known}

-- each spelling has n bytes
abbrev pub HasSize : {V : Type 0} → Layout V → ℕ → Type 0
HasSize {V = V} layout n = (v : V) (bytes : List ℕ) → Spells layout v bytes → length bytes ≡ n

pub size-done : {V : Type 0} (v : V) → HasSize (done v) 0
size-done v w bytes spelled = ap length spelled.1

pub size-refuse : {V : Type 0} (back : ℕ) (cause : Cause) (n : ℕ) → HasSize {V = V} (refuse back cause) n
size-refuse back cause n w bytes spelled = absurd spelled

pub size-block : (n : ℕ) → HasSize (block n) n
size-block n w bytes (front, rest, bytes_are, len, spelled) =
    ap length bytes_are ∙ length-append front rest ∙ omega (arith, len, ap length spelled.1)

pub size-number : HasSize number 4
size-number w bytes (front, rest, bytes_are, len, spelled) =
    ap length bytes_are ∙ length-append front rest ∙ omega (arith, len, ap length spelled.1)

pub size-bind : {A B : Type 0} (first : Layout A) (next : A → Layout B) (m n : ℕ) → HasSize first m → ((v : A) → HasSize (next v) n) → HasSize (first >>= next) (m + n)
size-bind first next m n first_size next_size w bytes spelled =
    let (v, a, b, bytes_are, a_spelled, b_spelled) = in_turn first next w bytes spelled in
    ap length bytes_are ∙ length-append a b ∙ ap₂ (λ x y. x + y) (first_size v a a_spelled) (next_size v w b b_spelled)

pub size-if : {V : Type 0} (test : Bool) (chosen other : Layout V) (n : ℕ) → HasSize chosen n → HasSize other n → HasSize (cond test chosen other) n
size-if test chosen other n chosen_size other_size =
    elim test as (λ t. HasSize (cond t chosen other) n) [ true ↦ chosen_size | false ↦ other_size ]

size-known : {T : Type 0} (type : Option T) → HasSize (known type) 0
size-known (Some t) = size-done t
size-known None = size-refuse 4 UnknownType 0

pub size-typed : {T : Type 0} (code : T → ℕ) (types : List T) → HasSize (typed code types) 4
size-typed code types = size-bind number (λ c. known (named code types c)) 4 0 size-number (λ c. size-known (named code types c))
