use Rattle.std.proofs.Common.{◌≡◌, ◌∙◌, ◌-◌, Some, ap, subst, sym, arith}
use Rattle.sign_core.specs.Caches.{HasCaches, cache_at}
use Rattle.sign_core.specs.Textbook.{trees_of}
use Rattle.sign_core.specs.inner.Caches.{RenewsDownTo}
use Rattle.sign_core.specs.inner.KeyTrees.{MakesTrees, chain_trees}
use Rattle.sign_core.proofs.records.Heights.{height_of_xmss}
use Rattle.sign_core.proofs.chains.KeptCaches.{kept_level, lacks_level, on_err, on_ok}
use Rattle.sign_core.proofs.chains.BegunCaches.{both_err}
use Rattle.sign_core.proofs.chains.ChainsInMemory.{IsUnder, is_under, top_level}
use Rattle.sign_core.proofs.calls.SignEnds.{is_none}
use Rattle.sign_core.proofs.chains.LostCaches.{loses_level}
use Rattle.sign_core.proofs.chains.RenewedCaches.{not_xmss, renews_level, renews_same, renews_xmss}
use Rattle.sign_core.proofs.caches.Caches.+keep_trees.Goals.{In-Some, in-Some+in_ok-keep_trees, in_default}
use Rattle.sign_core.proofs.caches.Caches.+keep_trees.Goals as goal

-- an Extend's tree stands under another
under : (g : _) (t : _) (c : In-Some g t) → IsUnder (chain_trees c.in-Chain.trees) c.args.ledger.now.records c.args.level c.args.place c.in-Some.made
under g t c =
    let a = c.args in
    let r = c.requires in
    is_under a.ledger.now.key (chain_trees c.in-Chain.trees) a.ledger.now.records a.level a.place c.in-Some.made r.legal r.keyed
    (subst (MakesTrees a.ledger.now.key.secret) c.in-Chain.is r.trees) r.stands (sym c.recorded_tree.ensures ∙ c.in-Some.is)

pub overflow_sub-level : goal.overflow_sub-level
overflow_sub-level g t c = (under g t (goal.at.overflow_sub-level g t c).In-Some).some

pub keep_trees-requires : goal.keep_trees-requires
keep_trees-requires g t c κs within =
    let r = c.requires in
    let below = under g t (goal.at.keep_trees-requires g t c).In-Some in
    (omega (arith, c.decreases, below.some), (within.0, (within.1, (r.legal, (r.keyed, (r.trees, (omega (arith, r.within_limit), (below.parent, r.types))))))))

pub new-requires-clause-of_key : goal.new-requires-clause-of_key
new-requires-clause-of_key g t c =
    height_of_xmss _ _ _ (subst (MakesTrees c.args.ledger.now.key.secret) c.in-Xmss.is c.requires.trees) c.requires.types

pub returns-clause-kept : goal.returns-clause-kept
returns-clause-kept g t c =
    let a = c.args in
    let l = a.ledger.now in
    let T = chain_trees c.in-Chain.trees in
    let these : trees_of l.key.secret ≡ Some T = subst (MakesTrees l.key.secret) c.in-Chain.is c.requires.trees in
    elim c.match-recorded_tree.branch [
      | in-Some+in_ok-keep_trees w ↦
          on_ok c.keep_current.result
          (kept_level l.key T l.records a.level a.before w.keep_trees.new.self c.keep_current.new.self these (λ some. w.in_ok-keep_trees.ensures.kept)
          (λ k other. c.keep_current.ensures.others k other ∙ ap (λ x. cache_at x.levels k) w.self-is))
          c.keep_current.ensures.there
      | in_default w ↦
          let top = top_level l.records a.level a.place c.requires.stands (sym c.recorded_tree.ensures ∙ is_none c.recorded_tree.result w.in_default.not-Some) in
          on_ok c.keep_current.result
          (kept_level l.key T l.records a.level a.before a.self.now c.keep_current.new.self these (λ some. absurd (omega (arith, some, top)))
          (λ k other. c.keep_current.ensures.others k other ∙ ap (λ x. cache_at x.levels k) w.self-is))
          c.keep_current.ensures.there
    ]

pub returns-clause-lacking : goal.returns-clause-lacking
returns-clause-lacking g t c =
    let a = c.args in
    let l = a.ledger.now in
    let T = chain_trees c.in-Chain.trees in
    let these : trees_of l.key.secret ≡ Some T = subst (MakesTrees l.key.secret) c.in-Chain.is c.requires.trees in
    elim c.match-recorded_tree.branch [
      | in-Some+in_ok-keep_trees w ↦
          let below = (is_under l.key T l.records a.level a.place w.in-Some.made c.requires.legal c.requires.keyed these c.requires.stands
          (sym c.recorded_tree.ensures ∙ w.in-Some.is)).some in
          on_err c.keep_current.result
          (lacks_level l.key T l.records a.level a.before a.self.now c.match-recorded_tree.self these
          (ap (λ x. cache_at x.levels a.level) w.self-is ∙ w.keep_trees.ensures.others a.level (omega (arith, below))))
          c.keep_current.ensures.lacking
      | in_default w ↦
          on_err c.keep_current.result
          (lacks_level l.key T l.records a.level a.before a.self.now c.match-recorded_tree.self these (ap (λ x. cache_at x.levels a.level) w.self-is))
          c.keep_current.ensures.lacking
    ]

pub returns-clause-loses : goal.returns-clause-loses
returns-clause-loses g t c =
    let a = c.args in
    let l = a.ledger.now in
    let T = chain_trees c.in-Chain.trees in
    let these : trees_of l.key.secret ≡ Some T = subst (MakesTrees l.key.secret) c.in-Chain.is c.requires.trees in
    let others = c.keep_current.ensures.others in
    elim c.match-recorded_tree.branch [
      | in-Some+in_ok-keep_trees w ↦
          let below = (is_under l.key T l.records a.level a.place w.in-Some.made c.requires.legal c.requires.keyed these c.requires.stands
          (sym c.recorded_tree.ensures ∙ w.in-Some.is)).some in
          both_err c.keep_current.result
          (λ lacks none. loses_level l.key T l.records a.level a.before a.self.now c.match-recorded_tree.self c.keep_current.new.self these
          (λ some. subst (HasCaches l.key l.records (Some (a.level - 1)) a.before) (sym w.self-is) w.in_ok-keep_trees.ensures.kept)
          (λ k low. ap (λ x. cache_at x.levels k) w.self-is ∙ w.keep_trees.ensures.others k (omega (arith, below, low)))
          (ap (λ x. x.xmss) w.self-is ∙ not_xmss l.key T a.self.now w.keep_trees.new.self these w.in_ok-keep_trees.ensures.renews.xmss)
          lacks none others c.keep_current.ensures.xmss)
          c.keep_current.ensures.lacking c.keep_current.ensures.none
      | in_default w ↦
          let top = top_level l.records a.level a.place c.requires.stands (sym c.recorded_tree.ensures ∙ is_none c.recorded_tree.result w.in_default.not-Some) in
          both_err c.keep_current.result
          (λ lacks none. loses_level l.key T l.records a.level a.before a.self.now c.match-recorded_tree.self c.keep_current.new.self these
          (λ some. absurd (omega (arith, some, top)))
          (λ k low. ap (λ x. cache_at x.levels k) w.self-is)
          (ap (λ x. x.xmss) w.self-is)
          lacks none others c.keep_current.ensures.xmss)
          c.keep_current.ensures.lacking c.keep_current.ensures.none
    ]

pub returns-in-Xmss-clause-renews : goal.returns-in-Xmss-clause-renews
returns-in-Xmss-clause-renews g t c =
    let a = c.args in
    on_ok c.keep_xmss.result (λ there. renews_xmss a.ledger.now.key a.ledger.now.records a.level _ a.self.now c.keep_xmss.new.self
    (subst (MakesTrees a.ledger.now.key.secret) c.in-Xmss.is c.requires.trees) c.keep_xmss.ensures.levels
    (there ∙ ap Some c.new.ensures.secret)) c.keep_xmss.ensures.there

pub returns-clause-renews : goal.returns-clause-renews
returns-clause-renews g t c =
    let a = c.args in
    let l = a.ledger.now in
    let T = chain_trees c.in-Chain.trees in
    let these : trees_of l.key.secret ≡ Some T = subst (MakesTrees l.key.secret) c.in-Chain.is c.requires.trees in
    elim c.match-recorded_tree.branch [
      | in-Some+in_ok-keep_trees w ↦
          let below = (is_under l.key T l.records a.level a.place w.in-Some.made c.requires.legal c.requires.keyed these c.requires.stands
          (sym c.recorded_tree.ensures ∙ w.in-Some.is)).some in
          on_ok c.keep_current.result
          (renews_level l.key T l.records a.level a.self.now c.match-recorded_tree.self c.keep_current.new.self these
          (subst (RenewsDownTo l.key l.records (a.level - 1) a.self.now) (sym w.self-is) w.in_ok-keep_trees.ensures.renews)
          (ap (λ x. cache_at x.levels a.level) w.self-is ∙ w.keep_trees.ensures.others a.level (omega (arith, below)))
          c.keep_current.ensures.others c.keep_current.ensures.xmss)
          c.keep_current.ensures.made
      | in_default w ↦
          on_ok c.keep_current.result
          (renews_level l.key T l.records a.level a.self.now c.match-recorded_tree.self c.keep_current.new.self these
          (renews_same l.key l.records (a.level - 1) a.self.now c.match-recorded_tree.self w.self-is) (ap (λ x. cache_at x.levels a.level) w.self-is)
          c.keep_current.ensures.others c.keep_current.ensures.xmss)
          c.keep_current.ensures.made
    ]
