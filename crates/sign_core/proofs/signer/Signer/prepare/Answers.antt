use Rattle.std.proofs.Common.{◌≡◌, ◌∙◌, ◌<◌, ℕ, List, Some, length, inl, inr, refl, ap, subst, sym, true≢false}
use Rattle.state_file.specs.declared.record.Key.{Key}
use Rattle.state_file.specs.declared.record.Record.{Record}
use Rattle.sign_core.specs.Caches.{Cached, LosesCache}
use Rattle.sign_core.specs.Records.{free_at, the_key, types_of}
use Rattle.sign_core.proofs.chains.BegunCaches.{on_any}
use Rattle.sign_core.proofs.chains.BindingChains.{same_key}
use Rattle.sign_core.proofs.chains.CurrentChain.{has_free, not_free, tree_stands}
use Rattle.sign_core.proofs.records.Heights.{types_are}
use Rattle.sign_core.proofs.chains.KeptCaches.{on_err, on_ok}
use Rattle.sign_core.proofs.chains.RenewedCaches.{keeps_same_caches, refused_alone}
use Rattle.sign_core.specs.inner.Caches.{RenewsDownTo}
use Rattle.sign_core.proofs.signer.Signer.prepare.Goals as goal

pub unreachable-requires : goal.unreachable-requires
unreachable-requires g c =
    let i = c.self.inside.ledger in
    let l = c.reserve.new.self in
    let kept : the_key c.args.self.now.records ≡ Some i.key = ap (λ w. the_key w.records) (sym c.self.view_is) ∙ c.self.invariant.1 in
    let free : 0 < free_at l.key.secret l.records c.args.level =
    subst (λ (x : Key × List Record). 0 < free_at x.0.secret x.1 c.args.level)
    (λ j. (sym c.reserve.ensures.key j, (ap (λ w. w.records) (sym c.self.view_is) ∙ sym c.reserve.ensures.records) j)) (c.requires.free i.key kept) in
    not_free l.key.secret l.records c.args.level c.current.result c.current.ensures c.in_default.is free

pub keep_trees-requires-clause-types : goal.keep_trees-requires-clause-types
keep_trees-requires-clause-types g c =
    let i = c.self.inside.ledger in
    let kept : the_key c.args.self.now.records ≡ Some i.key = ap (λ w. the_key w.records) (sym c.self.view_is) ∙ c.self.invariant.1 in
    types_are (the_key c.args.self.now.records) i.key c.args.progress.now.spec c.requires.types kept ∙ ap (λ (k : Key). types_of k.secret) (sym c.reserve.ensures.key)

pub keep_trees-requires-clause-stands : goal.keep_trees-requires-clause-stands
keep_trees-requires-clause-stands g c =
    let i = c.self.inside.ledger in
    let l = c.reserve.new.self in
    let kept : the_key c.args.self.now.records ≡ Some i.key = ap (λ w. the_key w.records) (sym c.self.view_is) ∙ c.self.invariant.1 in
    let free : 0 < free_at l.key.secret l.records c.args.level =
    subst (λ (x : Key × List Record). 0 < free_at x.0.secret x.1 c.args.level)
    (λ j. (sym c.reserve.ensures.key j, (ap (λ w. w.records) (sym c.self.view_is) ∙ sym c.reserve.ensures.records) j)) (c.requires.free i.key kept) in
    let has = has_free l.key.secret l.records c.args.level c.current.result c.in-Some.field-0 c.current.ensures c.in-Some.is free in
    tree_stands l.records c.args.level c.in-Some.field-0.place has.current_is

-- ---- the caches where it is refused

pub returns-then-from-clause-loses : goal.returns-then-from-clause-loses
returns-then-from-clause-loses g c key keyed = inl refl

pub returns-in_err-make_room-clause-loses : goal.returns-in_err-make_room-clause-loses
returns-in_err-make_room-clause-loses g c = on_any c.from_residual.result (λ key keyed. inl refl)

pub returns-in_err-map_err-clause-loses : goal.returns-in_err-map_err-clause-loses
returns-in_err-map_err-clause-loses g c =
    on_any c.from_residual-in_err-map_err.result (λ key keyed. inl (ap (λ w. w.cached) c.self.view_is))

pub returns-clause-loses : goal.returns-clause-loses
returns-clause-loses g c =
    let i = c.self.inside.ledger in
    let l = c.reserve.new.self in
    let kept : the_key c.args.self.now.records ≡ Some i.key = ap (λ w. the_key w.records) (sym c.self.view_is) ∙ c.self.invariant.1 in
    on_err c.keep_trees.result (λ loses key keyed.
    let own : l.key ≡ key = c.reserve.ensures.key ∙ same_key c.args.self.now.records i.key key kept keyed in
    let records : l.records ≡ c.args.self.now.records = c.reserve.ensures.records ∙ ap (λ w. w.records) c.self.view_is in
    let count : c.len-count.result ≡ length c.args.self.now.records = c.len-count.ensures ∙ ap length records in
    inr (subst (λ (x : Key × List Record × ℕ × Cached). LosesCache x.0 x.1 c.args.level x.2 x.3 c.keep_trees.new.self)
    (λ j. (own j, records j, count j, ap (λ w. w.cached) c.self.view_is j)) loses))
    c.keep_trees.ensures.loses

-- ---- the caches that it keeps

pub returns-clause-renews : goal.returns-clause-renews
returns-clause-renews g c =
    let i = c.self.inside.ledger in
    let l = c.reserve.new.self in
    let kept : the_key c.args.self.now.records ≡ Some i.key = ap (λ w. the_key w.records) (sym c.self.view_is) ∙ c.self.invariant.1 in
    on_ok c.keep_trees.result (λ renews key keyed.
    let own : l.key ≡ key = c.reserve.ensures.key ∙ same_key c.args.self.now.records i.key key kept keyed in
    let records : l.records ≡ c.args.self.now.records = c.reserve.ensures.records ∙ ap (λ w. w.records) c.self.view_is in
    subst (λ (x : Key × List Record × Cached). RenewsDownTo x.0 x.1 c.args.level x.2 c.keep_trees.new.self)
    (λ j. (own j, records j, ap (λ w. w.cached) c.self.view_is j)) renews)
    c.keep_trees.ensures.renews

pub returns-then-from-clause-kept : goal.returns-then-from-clause-kept
returns-then-from-clause-kept g c key keyed other = keeps_same_caches key c.args.self.now.records _ _ refl

pub returns-in_err-make_room-clause-kept : goal.returns-in_err-make_room-clause-kept
returns-in_err-make_room-clause-kept g c =
    on_any c.from_residual.result (λ key keyed other. keeps_same_caches key c.args.self.now.records _ _ refl)

pub returns-in_err-map_err-clause-kept : goal.returns-in_err-map_err-clause-kept
returns-in_err-map_err-clause-kept g c =
    on_any c.from_residual-in_err-map_err.result
    (λ key keyed other. keeps_same_caches key c.args.self.now.records _ _ (ap (λ w. w.cached) c.self.view_is))

pub returns-clause-kept : goal.returns-clause-kept
returns-clause-kept g c =
    refused_alone c.keep_trees.result c.keep_trees.ensures.fault (λ comes key keyed other. absurd (true≢false (sym comes ∙ other)))
