use Rattle.std.proofs.Common.{rules, ◌≡◌, ◌∙◌, [], ◌∷◌, ◌++◌, Some, ap, subst, sym, arith}
use Rattle.typecodes.specs.declared.secret.LmsSecret.{LmsSecret}
use Rattle.typecodes.specs.Types.{height_of}
use Rattle.sign_core.specs.inner.KeyTrees.{chain_trees}
use Rattle.sign_core.specs.inner.Progress.{height_at}
use Rattle.sign_core.specs.Textbook.{damaged_at}
use Rattle.sign_core.proofs.records.Heights.{height_of_tree}
use Rattle.sign_core.proofs.chains.ChainsInMemory.{IsUnder, Reaches, chain_damaged_above, is_under, reaches_below, reaches_top}
use Rattle.sign_core.proofs.calls.SignEnds.{is_none}
use Rattle.sign_core.proofs.key_trees.KeyTrees.+chain_to.Goals.{After-secret_at-secret, In-Some, in-Some+in_ok-tree, in_default}
use Rattle.sign_core.proofs.key_trees.KeyTrees.+chain_to.Goals as goal

-- an Extend's tree stands under another
under : (g : _) (t : _) (c : In-Some g t) → IsUnder (chain_trees c.args.self.now) c.args.ledger.now.records c.args.level c.args.place c.in-Some.made
under g t c =
    let a = c.args in
    let r = c.requires in
    is_under a.ledger.now.key (chain_trees a.self.now) a.ledger.now.records a.level a.place c.in-Some.made r.legal r.keyed r.trees r.stands
    (sym c.recorded_tree.ensures ∙ c.in-Some.is)

pub overflow_sub-level : goal.overflow_sub-level
overflow_sub-level g t c = (under g t (goal.at.overflow_sub-level g t c).In-Some).some

pub chain_to-requires : goal.chain_to-requires
chain_to-requires g t c κs within =
    let r = c.requires in
    let below = under g t (goal.at.chain_to-requires g t c).In-Some in
    (omega (arith, c.decreases, below.some), (within.0, (within.1, (r.legal, (r.keyed, (r.trees, (below.parent, (below.inside, (omega (arith, r.room, below.some), r.types)))))))))

pub new-requires-2-clause-of_key : goal.new-requires-2-clause-of_key
new-requires-2-clause-of_key g t c =
    let a = c.args in
    let r = c.requires in
    subst (λ (s : LmsSecret). height_at a.progress.now.spec a.level ≡ Some (height_of s.pair.tree)) (sym c.secret_at-secret.ensures)
    (height_of_tree a.ledger.now.key (chain_trees a.self.now) a.ledger.now.records a.level a.place _ r.legal r.keyed r.trees r.types r.stands)

pub returns-in_err-tree-clause-damaged : goal.returns-in_err-tree-clause-damaged
returns-in_err-tree-clause-damaged g t c =
    let a = c.args in
    let below = under g t (goal.at.returns-in_err-tree-clause-damaged g t c).In-Some in
    let at : damaged_at a.ledger.now.key a.level a.ledger.now.records a.place ≡ Some c.in_err-tree.field-0.0 =
    chain_damaged_above a.ledger.now.key (chain_trees a.self.now) a.ledger.now.records a.level a.place c.in_err-tree.field-0.0 c.in-Some.made below
    c.in_err-tree.ensures.damaged in
    search (rules, at)

pub push-requires : goal.push-requires
push-requires g t c =
    let below = under g t (goal.at.push-requires g t c).In-Some in
    (omega arith, omega (arith, c.in_ok-tree.ensures.len, c.requires.room, below.some))

-- what the levels above give, whichever tree it is
reached : (g : _) (t : _) (c : After-secret_at-secret g t) → Reaches c.args.ledger.now.key (chain_trees c.args.self.now) c.args.ledger.now.records c.args.level
    c.args.place c.args.above.now.items c.match-recorded_tree.above.items
reached g t c =
    let a = c.args in
    let r = c.requires in
    let l = a.ledger.now in
    let T = chain_trees a.self.now in
    elim c.match-recorded_tree.branch [
      | in-Some+in_ok-tree w ↦
          let chain = w.in_ok-tree.ensures in
          subst (Reaches l.key T l.records a.level a.place a.above.now.items) (ap (λ last. w.chain_to.new.above.items ++ last ∷ []) (sym w.new.ensures)
          ∙ sym w.push.ensures.items ∙ ap (λ xs. xs.items) (sym w.above-is))
          (reaches_below l.key T l.records a.level a.place w.in-Some.made a.above.now.items w.chain_to.new.above.items w.in_ok-tree.tree
          (is_under l.key T l.records a.level a.place w.in-Some.made r.legal r.keyed r.trees r.stands (sym c.recorded_tree.ensures ∙ w.in-Some.is))
          chain.sound chain.signings chain.len chain.made chain.tree)
      | in_default w ↦
          subst (Reaches l.key T l.records a.level a.place a.above.now.items) (ap (λ xs. xs.items) (sym w.above-is))
          (reaches_top l.key T l.records a.level a.place a.above.now.items r.stands
          (sym c.recorded_tree.ensures ∙ is_none c.recorded_tree.result w.in_default.not-Some))
    ]

pub returns-then-not-is_sound-clause-damaged : goal.returns-then-not-is_sound-clause-damaged
returns-then-not-is_sound-clause-damaged g t c =
    (reached g t (goal.at.returns-then-not-is_sound-clause-damaged g t c).After-secret_at-secret).damaged (sym c.is_sound.ensures ∙ c.if-not-is_sound.true)

pub returns-clause-sound : goal.returns-clause-sound
returns-clause-sound g t c =
    (reached g t (goal.at.returns-clause-sound g t c).After-secret_at-secret).sound (sym c.is_sound.ensures ∙ c.if-not-is_sound.false)

pub returns-clause-signings : goal.returns-clause-signings
returns-clause-signings g t c =
    (reached g t (goal.at.returns-clause-signings g t c).After-secret_at-secret).signings

pub returns-clause-len : goal.returns-clause-len
returns-clause-len g t c =
    (reached g t (goal.at.returns-clause-len g t c).After-secret_at-secret).len

pub returns-clause-made : goal.returns-clause-made
returns-clause-made g t c =
    (reached g t (goal.at.returns-clause-made g t c).After-secret_at-secret).made
