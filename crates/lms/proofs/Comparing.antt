-- What comparing two pairs of types says of them.
use Rattle.std.proofs.Common.{◌≡◌, Bool, true, false, refl, ap, ap₂, rules}
use Rattle.std.specs.Prelude.{not, ◌&&◌}
use denote.Enum.Bare.{same_true, sameb, true_same}
use Rattle.typecodes.specs.contracts.types.LmsType.{the_type as tree_type}
use Rattle.typecodes.specs.contracts.types.OtsType.{the_type as ots_type}
use Rattle.typecodes.specs.declared.types.LmsPair.{LmsPair}
use Rattle.typecodes.specs.declared.types.LmsType.{LmsType}
use Rattle.typecodes.specs.declared.types.OtsType.{OtsType}

-- if the test for a difference of two parts is false, both parts are equal
both_true : (a b : Bool) → false ≡ not (a && b) → (a ≡ true) × (b ≡ true)
both_true true true e = (refl, refl)
both_true true false e = absurd (cc)
both_true false b e = absurd (cc)

-- if the test for a difference is false, the pairs are equal
pub same_pair : (p q : LmsPair) → false ≡ not (sameb tree_type p.tree q.tree && sameb ots_type p.ots q.ots) → p ≡ q
same_pair p q e =
    let both = both_true (sameb tree_type p.tree q.tree) (sameb ots_type p.ots q.ots) e in
    let tree : p.tree ≡ q.tree = same_true tree_type (search rules) _ _ both.0 in
    let ots : p.ots ≡ q.ots = same_true ots_type (search rules) _ _ both.1 in
    let pair : LmsType → OtsType → LmsPair = λ t o. record { tree = t; ots = o } in
    ap₂ pair tree ots

-- if it is true, they differ
pub other_pair : (p q : LmsPair) → true ≡ not (sameb tree_type p.tree q.tree && sameb ots_type p.ots q.ots) → p ≡ q → ⊥
other_pair p q e same =
    let tree = true_same tree_type p.tree q.tree (ap (λ t. t.tree) same) in
    let ots = true_same ots_type p.ots q.ots (ap (λ t. t.ots) same) in
    let both : true ≡ not (true && true) = rw (tree, ots) at e in
    absurd (cc)
