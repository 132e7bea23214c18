use Rattle.std.proofs.Common.{rules, ◌≡◌, ◌∙◌, ◌-◌, ◌<◌, ◌^◌, ◌∷◌, [], ◌++◌, length, None, Some, Ok, Err, refl, sym, ap, subst, arith, true}
use Rattle.std.specs.Prelude.{OnErr}
use Rattle.state_file.specs.Laws.{bottom_of}
use Rattle.state_file.specs.declared.record.Bound.{Bound}
use Rattle.state_file.specs.declared.record.Key.{Key}
use Rattle.state_file.specs.declared.record.Record.TheVariants.{Bound as BoundRecord}
use Rattle.sign_core.specs.declared.fault.SignFault.TheVariants.{MessageRead}
use Rattle.sign_core.specs.Records.{binding_at, free_at, has_moved, the_key, next_at}
use Rattle.sign_core.specs.Signer.{view_of}
use Rattle.sign_core.specs.Signing.{answered_value}
use Rattle.sign_core.specs.Textbook.{digest_at, textbook_signature}
use Rattle.sign_core.specs.Trees.{tree_at}
use Rattle.sign_core.specs.inner.KeyTrees.{MakesTrees}
use Rattle.sign_core.specs.inner.Signing.{BindsNext, BindsBelow, IsRandomizer}
use Rattle.sign_core.proofs.calls.AppendMoments.{levels_range}
use Rattle.sign_core.proofs.calls.AddedRecords.{added_records}
use Rattle.sign_core.proofs.chains.BegunCaches.{added_none, on_any}
use Rattle.sign_core.proofs.calls.BindEnds.{bound_added, bound_follows, bound_next, kept_last, tree_at_end, undrawn, unread_bound}
use Rattle.sign_core.proofs.records.Bindings.{binding_new}
use Rattle.sign_core.proofs.chains.BindingChains.{same_key}
use Rattle.sign_core.proofs.chains.CurrentChain.{has_free, not_free}
use Rattle.sign_core.proofs.calls.SignEnds.{is_none}
use Rattle.sign_core.proofs.signer.Signer.bind.Goals as goal

pub overflow_sub-bottom : goal.overflow_sub-bottom
overflow_sub-bottom g c = (levels_range _ _ _ c.key.ensures.sizes c.key.ensures.first c.levels-bottom.ensures).0

pub current-requires : goal.current-requires
current-requires g c =
    let (some, within_limit) = levels_range _ _ _ c.key.ensures.sizes c.key.ensures.first c.levels-bottom.ensures in
    omega (arith, within_limit, some)

pub unreachable-requires : goal.unreachable-requires
unreachable-requires g c =
    let v = c.args.self.now in
    let i = c.self.inside in
    let K = i.ledger.key in
    let records = i.ledger.records in
    let kept : the_key v.records ≡ Some K = ap (λ w. the_key w.records) (sym c.self.view_is) ∙ c.self.invariant.1 in
    let level : c.levels-bottom.result - 1 ≡ bottom_of K.secret =
    ap (λ n. n - 1) c.levels-bottom.ensures ∙ ap (λ (k : Key). bottom_of k.secret) c.key.ensures.key in
    let free : 0 < free_at K.secret records (bottom_of K.secret) =
    subst (λ w. 0 < free_at K.secret w.records (bottom_of K.secret)) (sym c.self.view_is) (c.requires.free K kept) in
    not_free K.secret records (bottom_of K.secret) c.current.result (c.current.ensures ∙ ap (tree_at K.secret records) level)
    (is_none c.current.result c.in_default.not-Some) free

pub digest-requires : goal.digest-requires
digest-requires g c = subst (λ (k : Key). MakesTrees k.secret c.of-trees.result) c.key.ensures.key c.of-trees.ensures

pub returns-in_err-randomizer-clause-step : goal.returns-in_err-randomizer-clause-step
returns-in_err-randomizer-clause-step g c key keyed =
    let v = c.args.self.now in
    let i = c.self.inside in
    let K = i.ledger.key in
    let records = i.ledger.records in
    let kept : the_key v.records ≡ Some K = ap (λ w. the_key w.records) (sym c.self.view_is) ∙ c.self.invariant.1 in
    let level : c.levels-bottom.result - 1 ≡ bottom_of K.secret =
    ap (λ n. n - 1) c.levels-bottom.ensures ∙ ap (λ (k : Key). bottom_of k.secret) c.key.ensures.key in
    let free : 0 < free_at K.secret records (bottom_of K.secret) =
    subst (λ w. 0 < free_at K.secret w.records (bottom_of K.secret)) (sym c.self.view_is) (c.requires.free K kept) in
    let own : K ≡ key = same_key v.records K key kept keyed in
    let opened : i.is_open ≡ true = ap (λ w. w.is_open) c.self.view_is ∙ c.requires.ready.is_open in
    let trees : MakesTrees key.secret c.of-trees.result = subst (λ (k : Key). MakesTrees k.secret c.of-trees.result) (c.key.ensures.key ∙ own) c.of-trees.ensures in
    let answer : c.from_residual.result ≡ Err c.in_err-randomizer.field-0.0 = search rules in
    subst (λ a. BindsNext g.S.Store g.R.Source g.M.Message c.args.name.now v (view_of i.store c.draw_randomizer.new.random i.ledger i.caches i.is_open)
    c.args.message.now c.args.message.now a key) (sym answer)
    (subst (λ w. BindsBelow g.S.Store g.R.Source g.M.Message c.args.name.now 0 w (view_of i.store c.draw_randomizer.new.random i.ledger i.caches i.is_open)
    c.args.message.now c.args.message.now (Err c.in_err-randomizer.field-0.0) key) c.self.view_is
    (undrawn g.S.Store g.R.Source g.M.Message c.args.name.now i.store i.random c.draw_randomizer.new.random i.ledger i.is_open c.args.message.now
    c.args.message.now key c.in_err-randomizer.field-0.0 opened (c.self.invariant.0.tied opened) refl
    (λ left honest running since. g.met.S.Store.leaves_nothing_else i.store left honest running since) (c.in_err-randomizer.ensures key.secret trees)))

pub returns-in_err-digest-clause-step : goal.returns-in_err-digest-clause-step
returns-in_err-digest-clause-step g c key keyed =
    let v = c.args.self.now in
    let i = c.self.inside in
    let K = i.ledger.key in
    let records = i.ledger.records in
    let kept : the_key v.records ≡ Some K = ap (λ w. the_key w.records) (sym c.self.view_is) ∙ c.self.invariant.1 in
    let level : c.levels-bottom.result - 1 ≡ bottom_of K.secret =
    ap (λ n. n - 1) c.levels-bottom.ensures ∙ ap (λ (k : Key). bottom_of k.secret) c.key.ensures.key in
    let free : 0 < free_at K.secret records (bottom_of K.secret) =
    subst (λ w. 0 < free_at K.secret w.records (bottom_of K.secret)) (sym c.self.view_is) (c.requires.free K kept) in
    let has = has_free K.secret records (bottom_of K.secret) c.current.result c.in-Some.tree (c.current.ensures ∙ ap (tree_at K.secret records) level) c.in-Some.is
    free in
    let trees : MakesTrees K.secret c.of-trees.result = subst (λ (k : Key). MakesTrees k.secret c.of-trees.result) c.key.ensures.key c.of-trees.ensures in
    let own : K ≡ key = same_key v.records K key kept keyed in
    let opened : i.is_open ≡ true = ap (λ w. w.is_open) c.self.view_is ∙ c.requires.ready.is_open in
    let at = tree_at_end records (bottom_of K.secret) c.in-Some.tree.place has.current_is in
    let drawn = subst (λ (k : Key). IsRandomizer k.secret (g.R.Source.failures i.random) (g.R.Source.failures c.draw_randomizer.new.random)
    (g.R.Source.upcoming i.random) (g.R.Source.upcoming c.draw_randomizer.new.random) c.in_ok-randomizer.randomizer) own
    (c.in_ok-randomizer.ensures K.secret trees) in
    let answer : c.from_residual-in_err-digest.result ≡ Err c.in_err-digest.field-0.0 = search rules in
    subst (λ a. BindsNext g.S.Store g.R.Source g.M.Message c.args.name.now v (view_of i.store c.draw_randomizer.new.random i.ledger i.caches i.is_open)
    c.args.message.now c.digest.new.message a key) (sym (answer ∙ ap Err c.in_err-digest.ensures.fault))
    (subst (λ w. BindsBelow g.S.Store g.R.Source g.M.Message c.args.name.now 0 w (view_of i.store c.draw_randomizer.new.random i.ledger i.caches i.is_open)
    c.args.message.now c.digest.new.message (Err MessageRead) key) c.self.view_is
    (unread_bound g.S.Store g.R.Source g.M.Message c.args.name.now i.store i.random c.draw_randomizer.new.random i.ledger i.is_open c.args.message.now
    c.digest.new.message key c.in_ok-randomizer.randomizer opened (c.self.invariant.0.tied opened)
    (λ left honest running since. g.met.S.Store.leaves_nothing_else i.store left honest running since) drawn
    (c.in_err-digest.ensures.digest (length records) at)))

pub add-requires-clause-follows : goal.add-requires-clause-follows
add-requires-clause-follows g c =
    let v = c.args.self.now in
    let i = c.self.inside in
    let K = i.ledger.key in
    let records = i.ledger.records in
    let kept : the_key v.records ≡ Some K = ap (λ w. the_key w.records) (sym c.self.view_is) ∙ c.self.invariant.1 in
    let level : c.levels-bottom.result - 1 ≡ bottom_of K.secret =
    ap (λ n. n - 1) c.levels-bottom.ensures ∙ ap (λ (k : Key). bottom_of k.secret) c.key.ensures.key in
    let free : 0 < free_at K.secret records (bottom_of K.secret) =
    subst (λ w. 0 < free_at K.secret w.records (bottom_of K.secret)) (sym c.self.view_is) (c.requires.free K kept) in
    let has = has_free K.secret records (bottom_of K.secret) c.current.result c.in-Some.tree (c.current.ensures ∙ ap (tree_at K.secret records) level) c.in-Some.is
    free in
    let trees : MakesTrees K.secret c.of-trees.result = subst (λ (k : Key). MakesTrees k.secret c.of-trees.result) c.key.ensures.key c.of-trees.ensures in
    bound_follows records K c.in-Some.tree.place c.args.name.now _ c.self.invariant.1 (ap (λ w. has_moved w.records) c.self.view_is ∙ c.requires.ready.stays)
    has.current_is has.leaf_is has.free refl (ap (λ w. binding_at w.records c.args.name.now) c.self.view_is ∙ c.requires.unbound)
    (c.in_ok-randomizer.ensures K.secret trees).fits

pub add-requires-clause-within_limit : goal.add-requires-clause-within_limit
add-requires-clause-within_limit g c =
    subst (λ w. length w.records < g.S.Store.most w.store) (sym c.self.view_is) (omega (arith, c.requires.ready.within_limit))

pub add-requires-clause-counted : goal.add-requires-clause-counted
add-requires-clause-counted g c =
    subst (λ w. length w.records < 2 ^ 32 - 1) (sym c.self.view_is) (omega (arith, c.requires.ready.counted))

pub add-requires-clause-room : goal.add-requires-clause-room
add-requires-clause-room g c takes = subst (λ w. 0 < w.spare) (sym c.self.view_is) (omega (arith, c.requires.ready.room))

pub returns-in_err-add-clause-step : goal.returns-in_err-add-clause-step
returns-in_err-add-clause-step g c key keyed =
    let v = c.args.self.now in
    let i = c.self.inside in
    let K = i.ledger.key in
    let records = i.ledger.records in
    let kept : the_key v.records ≡ Some K = ap (λ w. the_key w.records) (sym c.self.view_is) ∙ c.self.invariant.1 in
    let level : c.levels-bottom.result - 1 ≡ bottom_of K.secret =
    ap (λ n. n - 1) c.levels-bottom.ensures ∙ ap (λ (k : Key). bottom_of k.secret) c.key.ensures.key in
    let free : 0 < free_at K.secret records (bottom_of K.secret) =
    subst (λ w. 0 < free_at K.secret w.records (bottom_of K.secret)) (sym c.self.view_is) (c.requires.free K kept) in
    let has = has_free K.secret records (bottom_of K.secret) c.current.result c.in-Some.tree (c.current.ensures ∙ ap (tree_at K.secret records) level) c.in-Some.is
    free in
    let trees : MakesTrees K.secret c.of-trees.result = subst (λ (k : Key). MakesTrees k.secret c.of-trees.result) c.key.ensures.key c.of-trees.ensures in
    let own : K ≡ key = same_key v.records K key kept keyed in
    let opened : i.is_open ≡ true = ap (λ w. w.is_open) c.self.view_is ∙ c.requires.ready.is_open in
    let at = tree_at_end records (bottom_of K.secret) c.in-Some.tree.place has.current_is in
    let (text, whole, digest) = c.in_ok-digest.ensures.digest (length records) at in
    let bound : Bound = record {
      name = c.args.name.now;
      leaf = c.in-Some.tree.next;
      randomizer = c.in_ok-randomizer.randomizer;
      digest = c.in_ok-digest.digest;
    } in
    let sig = textbook_signature key (records ++ BoundRecord bound ∷ []) (length records) bound in
    let leaf = subst (λ (k : Key). c.in-Some.tree.next ≡ next_at k.secret records (bottom_of k.secret)) own has.leaf_is in
    let is = bound_next records key c.args.name.now bound text refl leaf
    (subst (λ (k : Key). c.in_ok-digest.digest ≡ digest_at k records (length records) c.in-Some.tree.next c.in_ok-randomizer.randomizer text) own digest) in
    let drawn = subst (λ (k : Key). IsRandomizer k.secret (g.R.Source.failures i.random) (g.R.Source.failures c.draw_randomizer.new.random)
    (g.R.Source.upcoming i.random) (g.R.Source.upcoming c.draw_randomizer.new.random) c.in_ok-randomizer.randomizer) own
    (c.in_ok-randomizer.ensures K.secret trees) in
    let answer : c.from_residual-in_err-add.result ≡ Err c.in_err-add.field-0.0 = search rules in
    subst (λ a. BindsNext g.S.Store g.R.Source g.M.Message c.args.name.now v c.add.new.self c.args.message.now c.digest.new.message a key) (sym answer)
    (subst (λ w. BindsBelow g.S.Store g.R.Source g.M.Message c.args.name.now 0 w c.add.new.self c.args.message.now c.digest.new.message
    (Err c.in_err-add.field-0.0) key) c.self.view_is
    (bound_added g.S.Store g.R.Source g.M.Message c.args.name.now i.store i.random c.draw_randomizer.new.random i.ledger i.is_open c.args.message.now
    c.digest.new.message key c.add.new.self bound text c.add.result _ opened drawn whole is c.add.ensures.adds
    (ap (λ a. answered_value a sig) (sym c.in_err-add.was))))

pub returns-clause-step : goal.returns-clause-step
returns-clause-step g c key keyed =
    let v = c.args.self.now in
    let i = c.self.inside in
    let K = i.ledger.key in
    let records = i.ledger.records in
    let kept : the_key v.records ≡ Some K = ap (λ w. the_key w.records) (sym c.self.view_is) ∙ c.self.invariant.1 in
    let level : c.levels-bottom.result - 1 ≡ bottom_of K.secret =
    ap (λ n. n - 1) c.levels-bottom.ensures ∙ ap (λ (k : Key). bottom_of k.secret) c.key.ensures.key in
    let free : 0 < free_at K.secret records (bottom_of K.secret) =
    subst (λ w. 0 < free_at K.secret w.records (bottom_of K.secret)) (sym c.self.view_is) (c.requires.free K kept) in
    let has = has_free K.secret records (bottom_of K.secret) c.current.result c.in-Some.tree (c.current.ensures ∙ ap (tree_at K.secret records) level) c.in-Some.is
    free in
    let trees : MakesTrees K.secret c.of-trees.result = subst (λ (k : Key). MakesTrees k.secret c.of-trees.result) c.key.ensures.key c.of-trees.ensures in
    let own : K ≡ key = same_key v.records K key kept keyed in
    let opened : i.is_open ≡ true = ap (λ w. w.is_open) c.self.view_is ∙ c.requires.ready.is_open in
    let at = tree_at_end records (bottom_of K.secret) c.in-Some.tree.place has.current_is in
    let (text, whole, digest) = c.in_ok-digest.ensures.digest (length records) at in
    let bound : Bound = record {
      name = c.args.name.now;
      leaf = c.in-Some.tree.next;
      randomizer = c.in_ok-randomizer.randomizer;
      digest = c.in_ok-digest.digest;
    } in
    let sig = textbook_signature key (records ++ BoundRecord bound ∷ []) (length records) bound in
    let leaf = subst (λ (k : Key). c.in-Some.tree.next ≡ next_at k.secret records (bottom_of k.secret)) own has.leaf_is in
    let is = bound_next records key c.args.name.now bound text refl leaf
    (subst (λ (k : Key). c.in_ok-digest.digest ≡ digest_at k records (length records) c.in-Some.tree.next c.in_ok-randomizer.randomizer text) own digest) in
    let drawn = subst (λ (k : Key). IsRandomizer k.secret (g.R.Source.failures i.random) (g.R.Source.failures c.draw_randomizer.new.random)
    (g.R.Source.upcoming i.random) (g.R.Source.upcoming c.draw_randomizer.new.random) c.in_ok-randomizer.randomizer) own
    (c.in_ok-randomizer.ensures K.secret trees) in
    let grown = added_records g.S.Store (view_of i.store c.draw_randomizer.new.random i.ledger i.caches i.is_open) c.add.new.self (BoundRecord bound) c.add.result
    c.in_ok-add.field-0 c.add.ensures.adds c.in_ok-add.was in
    let binds_below = bound_added g.S.Store g.R.Source g.M.Message c.args.name.now i.store i.random c.draw_randomizer.new.random i.ledger i.is_open
    c.args.message.now c.digest.new.message key c.add.new.self bound text c.add.result (Ok sig) opened drawn whole is c.add.ensures.adds
    (ap (λ a. answered_value a sig) (sym c.in_ok-add.was)) in
    let unbound : binding_at records c.args.name.now ≡ None = ap (λ w. binding_at w.records c.args.name.now) c.self.view_is ∙ c.requires.unbound in
    subst (λ w. BindsNext g.S.Store g.R.Source g.M.Message c.args.name.now w c.add.new.self c.args.message.now c.digest.new.message (Ok c.of.result) key) c.self.view_is (
      bound,
      binds_below,
      record {
        grown = grown;
        named = ap (λ l. binding_at l c.args.name.now) grown ∙ binding_new records bound unbound;
        kept = kept_last K key records c.add.new.self.records c.in-Some.tree.place c.len-place.result bound has.current_is c.len-place.ensures grown own
            ∙ sym c.of.ensures;
      },
    )

pub returns-in_err-add-clause-stays : goal.returns-in_err-add-clause-stays
returns-in_err-add-clause-stays g c =
    let i = c.self.inside in
    let bound : Bound = record {
      name = c.args.name.now;
      leaf = c.in-Some.tree.next;
      randomizer = c.in_ok-randomizer.randomizer;
      digest = c.in_ok-digest.digest;
    } in
    let none = added_none g.S.Store (view_of i.store c.draw_randomizer.new.random i.ledger i.caches i.is_open) c.add.new.self (BoundRecord bound)
    c.add.result c.add.ensures.adds in
    let stays = subst (λ r. OnErr r (c.add.new.self.records ≡ i.ledger.records)) c.in_err-add.was none in
    on_any c.from_residual-in_err-add.result (stays ∙ ap (λ w. w.records) c.self.view_is)
