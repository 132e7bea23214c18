use Rattle.std.proofs.Common.{◌≡◌, Some, None, subst, arith}
use Rattle.std.specs.Prelude.{slice_get}
use Rattle.key_audit.specs.inner.Uses.{AreUsesOf}
use Rattle.key_audit.specs.inner.LeafIndex.{AddsUses, IsFirstConflict}
use Rattle.key_audit.proofs.Twice.{first_twice, index_more, stands_at, uses_of_each, was_ok}
use Rattle.key_audit.proofs.given.check_leaves.Goals.{After-first_conflict}
use Rattle.key_audit.proofs.given.check_leaves.Goals as goal

stands : (c : After-first_conflict) → slice_get c.args.given.now c.loop-place.place ≡ Some c.index-given-place.result
stands c = stands_at c.args.given.now c.loop-place.place c.index-given-place.result (omega (arith, c.loop-place-test.true)) c.index-given-place.is

uses_are : (c : After-first_conflict) → AreUsesOf c.args.public.now c.index-given-place.result.message.items c.index-given-place.result.signature.items c.uses_of-uses.result.items
uses_are c =
    uses_of_each c.args.public.now c.index-given-place.result c.deref.result.now c.deref-in-loop-place.result.now c.uses_of-uses.result.items
    c.deref.ensures.value c.deref-in-loop-place.ensures.value c.uses_of-uses.ensures

pub returns-in-Some : goal.returns-in-Some
returns-in-Some c =
    let after = (goal.at.returns-in-Some c).After-first_conflict in (
      c.requires,
      first_twice c.args.public.now c.args.given.now c.loop-place.place c.in-Some.earlier c.index-given-place.result c.uses_of-uses.result.items
          c.loop-place.index.entries c.requires c.loop-place.invariant (stands after) (uses_are after)
          (subst (λ l. IsFirstConflict c.loop-place.index.entries l (Some c.in-Some.earlier)) c.deref-in-loop-place-2.ensures.0 c.in-Some.ensures),
    )

pub loop-place-preserved : goal.loop-place-preserved
loop-place-preserved c =
    let after = (goal.at.loop-place-preserved c).After-first_conflict in
    index_more c.args.public.now c.args.given.now c.loop-place.place c.index-given-place.result c.uses_of-uses.result.items c.loop-place.index.entries
    c.add.new.self.entries c.loop-place.invariant (stands after) (uses_are after)
    (subst (λ l. IsFirstConflict c.loop-place.index.entries l None) c.deref-in-loop-place-2.ensures.0 c.in_default.ensures)
    (subst (λ l. AddsUses c.loop-place.place l c.loop-place.index.entries c.add.new.self.entries) c.deref-in-loop-place-3.ensures.0 (was_ok c.add.result c.is_err.result c.is_err.ensures.value c.if-is_err.false c.add.ensures))

pub returns : goal.returns
returns c = (
  c.requires,
  λ i j apart low high. c.loop-place.invariant.none i j apart (omega (arith, low, c.loop-place-test.false)) (omega (arith, high, c.loop-place-test.false)),
)
