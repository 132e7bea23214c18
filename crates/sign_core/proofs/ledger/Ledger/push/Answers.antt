use Rattle.std.proofs.Common.{◌≡◌, ◌<◌, ◌++◌, ◌∷◌, [], true, ◌∙◌, ap, refl, sym, subst, arith, Some, cond}
use Rattle.std.specs.HashMap.{spare}
use Rattle.state_file.specs.declared.record.Record.{Record}
use Rattle.state_file.specs.declared.record.Record.TheVariants.{Extend as ExtendRecord, Bound as BoundRecord, Moved}
use Rattle.state_file.specs.Laws.{bottom_of}
use Rattle.sign_core.specs.declared.ledger.Binding.{Binding}
use Rattle.sign_core.specs.Records.{are_same, can_follow}
use Rattle.sign_core.specs.Ledger.{Table, TakesMemory, bound_at, spare_of}
use Rattle.sign_core.specs.Textbook.{HasSizes}
use Rattle.sign_core.proofs.ledgers.KeptTrees.{follows_bound, follows_moved, follows_retire}
use Rattle.sign_core.proofs.ledgers.Reading.{key_levels}
use Rattle.sign_core.proofs.ledgers.NameMaps.{on_ok}
use Rattle.sign_core.proofs.ledgers.Pushes.{bound_leaf, extend_inside, grown_bound, grown_extend}
use Rattle.sign_core.proofs.ledgers.OneMore.{grown_plain, grown_retire}
use Rattle.sign_core.proofs.ledger.Ledger.push.Goals.{In-Extend, In-Bound, In-Retire, In-Moved, After-from-bottom}
use Rattle.sign_core.proofs.ledger.Ledger.push.Goals as goal

-- the bottom level is one of 8
bottom_few : (c : After-from-bottom) → c.from-bottom.result < 8
bottom_few c =
    let (some, within_limit) = key_levels c.self.inside.records c.self.inside.key c.self.invariant.sizes c.self.invariant.keyed in
    omega (arith, within_limit, some, c.levels.ensures, c.from-bottom.ensures)

last : (c : After-from-bottom) → c.from-bottom.result ≡ bottom_of c.self.inside.key.secret
last c = omega (arith, c.levels.ensures, c.from-bottom.ensures)

pub overflow_sub-levels : goal.overflow_sub-levels
overflow_sub-levels c =
    let (some, within_limit) = key_levels c.self.inside.records c.self.inside.key c.self.invariant.sizes c.self.invariant.keyed in
    omega (arith, some, c.levels.ensures)

-- ---- an Extend

extend_follows : (c : In-Extend) → can_follow (Some c.self.inside.key) c.self.inside.records (ExtendRecord c.in-Extend.extend) ≡ true
extend_follows c =
    subst (λ (x : Record). can_follow (Some c.self.inside.key) c.self.inside.records x ≡ true) c.in-Extend.is
    (ap (λ (t : Table). can_follow (Some t.key) t.records c.args.entry) c.self.view_is ∙ c.requires.follows)

pub place-parent-requires : goal.place-parent-requires
place-parent-requires c =
    let (some, within_limit) = key_levels c.self.inside.records c.self.inside.key c.self.invariant.sizes c.self.invariant.keyed in
    let (low, high, leaf) = extend_inside c.self.inside.records c.self.inside.key c.in-Extend.extend
    (extend_follows (goal.at.place-parent-requires c).In-Extend) in
    omega (arith, within_limit, high, c.from-level.ensures)

pub extend-requires-clause-within_limit : goal.extend-requires-clause-within_limit
extend-requires-clause-within_limit c =
    let (some, within_limit) = key_levels c.self.inside.records c.self.inside.key c.self.invariant.sizes c.self.invariant.keyed in
    let (low, high, leaf) = extend_inside c.self.inside.records c.self.inside.key c.in-Extend.extend
    (extend_follows (goal.at.extend-requires-clause-within_limit c).In-Extend) in
    omega (arith, within_limit, high, c.from-level.ensures)

pub extend-requires-clause-leaf : goal.extend-requires-clause-leaf
extend-requires-clause-leaf c =
    let (low, high, leaf) = extend_inside c.self.inside.records c.self.inside.key c.in-Extend.extend
    (extend_follows (goal.at.extend-requires-clause-leaf c).In-Extend) in
    omega (arith, leaf)

pub invariant_of-self : goal.invariant_of-self
invariant_of-self c =
    let (some, within_limit) = key_levels c.self.inside.records c.self.inside.key c.self.invariant.sizes c.self.invariant.keyed in
    let e = c.in-Extend.extend in
    let follows = extend_follows (goal.at.invariant_of-self c).In-Extend in
    let (low, high, leaf) = extend_inside c.self.inside.records c.self.inside.key e follows in
    let takes : TakesMemory c.args.entry = subst TakesMemory (sym c.in-Extend.is) tt in
    let room : 0 < spare c.self.inside.recorded = omega (arith, c.requires.room.room takes, ap (λ (t : Table). t.spare) c.self.view_is) in
    let known : 0 < spare c.self.inside.identifiers = omega (arith, c.requires.room.room takes, ap (λ (t : Table). t.spare) c.self.view_is) in
    grown_extend c.self.inside.records c.self.inside.key c.self.inside.recorded c.self.inside.bindings c.self.inside.identifiers c.self.inside.trees.levels
    c.self.inside.count c.self.inside.moved c.self.invariant e c.from-level.result c.place-parent.result follows
    (subst HasSizes c.in-Extend.is c.requires.sizes)
    c.from-level.ensures (omega (arith, within_limit, high, c.from-level.ensures)) c.place-parent.ensures c.extend.new.self.levels c.extend.ensures c.insert.new.self
    (λ place. (on_ok c.insert.result (c.insert.ensures.succeeds room) c.insert.ensures.updates).0 place) c.insert-in-Extend.new.self
    (λ identifier. (on_ok c.insert-in-Extend.result (c.insert-in-Extend.ensures.succeeds known) c.insert-in-Extend.ensures.updates).0 identifier)
    c.push.new.self (c.push.ensures ∙ ap (λ (x : Record). c.self.inside.records ++ x ∷ []) c.in-Extend.is)

-- ---- a Bound

bound_follows : (c : In-Bound) → can_follow (Some c.self.inside.key) c.self.inside.records (BoundRecord c.in-Bound.bound) ≡ true
bound_follows c =
    subst (λ (x : Record). can_follow (Some c.self.inside.key) c.self.inside.records x ≡ true) c.in-Bound.is
    (ap (λ (t : Table). can_follow (Some t.key) t.records c.args.entry) c.self.view_is ∙ c.requires.follows)

pub place-requires : goal.place-requires
place-requires c = bottom_few (goal.at.place-requires c).After-from-bottom

pub raise-requires : goal.raise-requires
raise-requires c = bottom_few (goal.at.raise-requires c).After-from-bottom

pub overflow_add-bound : goal.overflow_add-bound
overflow_add-bound c =
    let low = bound_leaf c.self.inside.records c.self.inside.key c.in-Bound.bound (bound_follows (goal.at.overflow_add-bound c).In-Bound) in
    omega (arith, low)

pub invariant_of-self-in-Bound : goal.invariant_of-self-in-Bound
invariant_of-self-in-Bound c =
    let takes : TakesMemory c.args.entry = subst TakesMemory (sym c.in-Bound.is) tt in
    let room : 0 < spare_of c.self.inside.bindings = omega (arith, c.requires.room.room takes, ap (λ (t : Table). t.spare) c.self.view_is) in
    grown_bound c.self.inside.records c.self.inside.key c.self.inside.recorded c.self.inside.bindings c.self.inside.identifiers c.self.inside.trees.levels
    c.self.inside.count c.self.inside.moved c.self.invariant c.in-Bound.bound c.from-bottom.result c.place.result
    (bound_follows (goal.at.invariant_of-self-in-Bound c).In-Bound) (subst HasSizes c.in-Bound.is c.requires.sizes)
    (last (goal.at.invariant_of-self-in-Bound c).After-from-bottom) (bottom_few (goal.at.invariant_of-self-in-Bound c).After-from-bottom) c.place.ensures
    c.raise.new.self.levels
    (follows_bound c.self.inside.trees.levels c.raise.new.self.levels c.from-bottom.result c.in-Bound.bound.leaf c.raise.ensures) c.in-Bound.bound.name refl c.insert-in-Bound.new.self
    (λ name. c.insert-in-Bound.ensures.updates name
    ∙ ap (λ (b : Binding). cond (are_same c.in-Bound.bound.name name) (Some b) (bound_at c.self.inside.bindings name)) c.of-binding.ensures)
    c.push.new.self (c.push.ensures ∙ ap (λ (x : Record). c.self.inside.records ++ x ∷ []) c.in-Bound.is)

-- ---- a Retire

pub raise-requires-in-Retire : goal.raise-requires-in-Retire
raise-requires-in-Retire c = bottom_few (goal.at.raise-requires-in-Retire c).After-from-bottom

pub invariant_of-self-in-Retire : goal.invariant_of-self-in-Retire
invariant_of-self-in-Retire c =
    let follows = subst (λ (x : Record). can_follow (Some c.self.inside.key) c.self.inside.records x ≡ true) c.in-Retire.is
    (ap (λ (t : Table). can_follow (Some t.key) t.records c.args.entry) c.self.view_is ∙ c.requires.follows) in
    grown_retire c.self.inside.records c.self.inside.key c.self.inside.recorded c.self.inside.bindings c.self.inside.identifiers c.self.inside.trees.levels
    c.self.inside.count c.self.inside.moved c.self.invariant c.in-Retire.upto c.from-bottom.result follows
    (last (goal.at.invariant_of-self-in-Retire c).After-from-bottom) c.raise-in-Retire.new.self.levels
    (follows_retire c.self.inside.trees.levels c.raise-in-Retire.new.self.levels c.from-bottom.result c.in-Retire.upto c.raise-in-Retire.ensures)
    c.push.new.self (c.push.ensures ∙ ap (λ (x : Record). c.self.inside.records ++ x ∷ []) c.in-Retire.is)

-- ---- a Moved

pub invariant_of-self-in-Moved : goal.invariant_of-self-in-Moved
invariant_of-self-in-Moved c =
    let follows = subst (λ (x : Record). can_follow (Some c.self.inside.key) c.self.inside.records x ≡ true) c.in-Moved.is
    (ap (λ (t : Table). can_follow (Some t.key) t.records c.args.entry) c.self.view_is ∙ c.requires.follows) in
    grown_plain c.self.inside.records c.self.inside.key c.self.inside.recorded c.self.inside.bindings c.self.inside.identifiers c.self.inside.trees.levels
    c.self.inside.count c.self.inside.moved c.self.invariant Moved follows
    (λ k. refl) (λ name. refl) refl (tt) c.self.inside.trees.levels
    (follows_moved c.self.inside.key.secret c.self.inside.records c.self.inside.trees.levels c.self.invariant.trees_are) _ refl _
    (c.push.ensures ∙ ap (λ (x : Record). c.self.inside.records ++ x ∷ []) c.in-Moved.is)
