-- Layouts whose values are spelled in one way, by the parts that each value shows.
use Rattle.std.proofs.Common.{◌≡◌, ℕ, Bool, true, false, cond, List, subst}
use Rattle.typecodes.specs.Layout.{Layout, done, ◌>>=◌, Spells, OneSpelling}
use Rattle.typecodes.proofs.OneWay.{one_way-bind, one_way-done}
use Rattle.typecodes.proofs.Spelling.{in_turn}

-- each value is spelled in one way, and has the parts
pub record Way {V : Type 0} (layout : Layout V) (HasParts : V → Type 0) : Type 0 where
  pub one : OneSpelling layout
  pub has : (v : V) (bytes : List ℕ) → Spells layout v bytes → HasParts v

pub way-done : {V : Type 0} (v : V) (HasParts : V → Type 0) → HasParts v → Way (done v) HasParts
way-done v HasParts parts = record {
  one = one_way-done v;
  has = λ w bytes spelled. subst HasParts spelled.0 parts;
}

-- a layout, and one that follows it, where the first one's value is a part of the whole
pub way-bind : {V W : Type 0} (first : Layout V) (next : V → Layout W) (of : W → V) (HasParts : W → Type 0)
    → OneSpelling first → ((v : V) → Way (next v) (λ w. (of w ≡ v) × HasParts w)) → Way (first >>= next) HasParts
way-bind first next of HasParts first_one ways = record {
  one = one_way-bind first next of first_one (λ v. (ways v).one) (λ v w bytes spelled. ((ways v).has w bytes spelled).0);
  has = λ w bytes spelled. let (v, a, b, _, _, after) = in_turn first next w bytes spelled in ((ways v).has w b after).1;
}

pub one_way-if : {V : Type 0} (test : Bool) (chosen other : Layout V) → OneSpelling chosen → OneSpelling other → OneSpelling (cond test chosen other)
one_way-if test chosen other chosen_one other_one =
    elim test as (λ t. OneSpelling (cond t chosen other)) [ true ↦ chosen_one | false ↦ other_one ]
