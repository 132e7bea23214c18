use Rattle.std.specs.Prelude.{OnErr}
use Rattle.std.proofs.Common.{rules, ◌≡◌, ◌≢◌, ◌∙◌, ℕ, ◌+◌, true, false, List, [], ◌∷◌, ◌++◌, Some, Err, refl, sym, ap, subst, arith, add-one}
use Rattle.lmots.specs.Key.{message_digest_of}
use Rattle.lms.specs.Secret.{rooted_public, root_of_secret}
use Rattle.typecodes.specs.declared.secret.LmsSecret.{LmsSecret}
use Rattle.typecodes.specs.declared.types.LmsPair.{LmsPair}
use Rattle.typecodes.specs.Types.{height_of}
use Rattle.lms.specs.Writing.{public_bytes}
use Rattle.state_file.specs.Laws.{levels_of}
use Rattle.state_file.specs.declared.record.Extend.{Extend}
use Rattle.state_file.specs.declared.record.Key.{Key}
use Rattle.state_file.specs.declared.record.Record.{Record}
use Rattle.state_file.specs.declared.record.Record.TheVariants.{Extend as ExtendRecord}
use Rattle.sign_core.specs.declared.fault.SignFault.{SignFault}
use Rattle.sign_core.specs.declared.fault.SignFault.TheVariants.{OutOfMemory}
use Rattle.sign_core.specs.Caches.{Cached, HasAll, HasLevel, cache_at}
use Rattle.sign_core.specs.Signing.{answered_value}
use Rattle.sign_core.specs.Records.{has_moved, the_key}
use Rattle.sign_core.specs.inner.Caches.{HasBegunTo, KeepsDownTo, RenewsDownTo}
use Rattle.sign_core.specs.inner.KeyTrees.{MakesTrees, chain_trees}
use Rattle.sign_core.specs.inner.Progress.{height_at}
use Rattle.sign_core.specs.Signer.{View, view_of}
use Rattle.sign_core.specs.inner.Signing.{Extends, Stands}
use Rattle.sign_core.proofs.calls.AppendMoments.{levels_range}
use Rattle.sign_core.proofs.chains.BegunCaches.{added_none, begun_tree, on_any}
use Rattle.sign_core.proofs.calls.AddedRecords.{added_records}
use Rattle.sign_core.proofs.chains.BindingChains.{same_key}
use Rattle.sign_core.proofs.chains.CurrentChain.{has_free, not_free}
use Rattle.sign_core.proofs.calls.ExtendEnds.{Rests, drawn_below, undrawn, ungrown}
use Rattle.sign_core.proofs.records.Heights.{height_of_level, types_are}
use Rattle.sign_core.proofs.chains.KeptCaches.{begun_secret, has_begun, keeps_begun, keeps_same, on_err}
use Rattle.sign_core.proofs.chains.RenewedCaches.{at_ok, begun_renews}
use Rattle.sign_core.proofs.calls.SignEnds.{is_none}
use Rattle.sign_core.proofs.chains.StandingChain.{can_extend, entry_is, if_added, no_chain, stands_below}
use Rattle.sign_core.proofs.records.Unchanged.{key_stays}
use Rattle.sign_core.proofs.signer.Signer.extend.Goals as goal

pub current-requires : goal.current-requires
current-requires g c =
    let i = c.self.inside in
    let kept : the_key c.args.self.now.records ≡ Some i.ledger.key = ap (λ w. the_key w.records) (sym c.self.view_is) ∙ c.self.invariant.1 in
    let most = (levels_range i.ledger.records i.ledger.key (levels_of i.ledger.key.secret) c.self.invariant.0.sizes c.self.invariant.1 refl).1 in
    omega (arith, c.requires.below i.ledger.key kept, most)

pub unreachable-requires : goal.unreachable-requires
unreachable-requires g c =
    let i = c.self.inside in
    let kept : the_key c.args.self.now.records ≡ Some i.ledger.key = ap (λ w. the_key w.records) (sym c.self.view_is) ∙ c.self.invariant.1 in
    let stands = subst (λ w. Stands w.records c.args.level i.ledger.key) (sym c.self.view_is) (c.requires.stands i.ledger.key kept) in
    not_free i.ledger.key.secret i.ledger.records c.args.level c.current.result c.current.ensures (is_none c.current.result c.in_default.not-Some) stands.free

pub unreachable-requires-in_default-of : goal.unreachable-requires-in_default-of
unreachable-requires-in_default-of g c =
    let i = c.self.inside in
    let kept : the_key c.args.self.now.records ≡ Some i.ledger.key = ap (λ w. the_key w.records) (sym c.self.view_is) ∙ c.self.invariant.1 in
    no_chain i.ledger.key.secret c.of.result c.args.level
    (subst (λ (k : Key). MakesTrees k.secret c.of.result) c.key.ensures.key c.of.ensures) (c.requires.below i.ledger.key kept) c.in_default-of.not-Chain

pub overflow_add-below : goal.overflow_add-below
overflow_add-below g c =
    let i = c.self.inside in
    let kept : the_key c.args.self.now.records ≡ Some i.ledger.key = ap (λ w. the_key w.records) (sym c.self.view_is) ∙ c.self.invariant.1 in
    let most = (levels_range i.ledger.records i.ledger.key (levels_of i.ledger.key.secret) c.self.invariant.0.sizes c.self.invariant.1 refl).1 in
    omega (arith, c.requires.below i.ledger.key kept, most)

pub new-asked-requires-clause-within_limit : goal.new-asked-requires-clause-within_limit
new-asked-requires-clause-within_limit g c =
    let i = c.self.inside in
    let kept : the_key c.args.self.now.records ≡ Some i.ledger.key = ap (λ w. the_key w.records) (sym c.self.view_is) ∙ c.self.invariant.1 in
    let most = (levels_range i.ledger.records i.ledger.key (levels_of i.ledger.key.secret) c.self.invariant.0.sizes c.self.invariant.1 refl).1 in
    omega (arith, c.requires.below i.ledger.key kept, most)

pub new-asked-requires-clause-of_key : goal.new-asked-requires-clause-of_key
new-asked-requires-clause-of_key g c =
    let K = c.self.inside.ledger.key in
    let T = chain_trees c.in-Chain.chain in
    let below : ℕ = c.args.level + 1 in
    let kept : the_key c.args.self.now.records ≡ Some K = ap (λ w. the_key w.records) (sym c.self.view_is) ∙ c.self.invariant.1 in
    let these = subst (MakesTrees K.secret) c.in-Chain.is (subst (λ (k : Key). MakesTrees k.secret c.of.result) c.key.ensures.key c.of.ensures) in
    ap (λ s. height_at s below) (types_are (the_key c.args.self.now.records) K c.args.progress.now.spec c.requires.types kept) ∙ height_of_level K.secret T below these (c.requires.below K kept)
    ∙ ap (λ (pair : LmsPair). Some (height_of pair.tree)) (sym (c.in_ok-secret.ensures.4 ∙ c.pair.ensures))

pub returns-in_err-secret-clause-step : goal.returns-in_err-secret-clause-step
returns-in_err-secret-clause-step g c key keyed =
    let a = c.args in
    let i = c.self.inside in
    let kept : the_key a.self.now.records ≡ Some i.ledger.key = ap (λ w. the_key w.records) (sym c.self.view_is) ∙ c.self.invariant.1 in
    let these = subst (MakesTrees key.secret) c.in-Chain.is (subst (λ (k : Key). MakesTrees k.secret c.of.result)
    (c.key.ensures.key ∙ same_key a.self.now.records i.ledger.key key kept keyed) c.of.ensures) in
    let fault : SignFault = c.in_err-secret.field-0.0 in
    let failed : c.from_residual.result ≡ Err fault = search rules in
    let answer : Err fault ≡ answered_value c.from_residual.result [] = ap (λ r. answered_value r []) (sym failed) in
    let opened : i.is_open ≡ true = ap (λ w. w.is_open) c.self.view_is ∙ c.requires.ready.is_open in
    let rests : Rests g.S.Store (view_of i.store i.random i.ledger i.caches i.is_open) = record {
      is_open = opened;
      tied = c.self.invariant.0.tied opened;
      leaves = λ left honest running since. g.met.S.Store.leaves_nothing_else i.store left honest running since;
    } in
    subst (λ (w : View g.row.S.Denot g.row.R.Denot).
    Extends g.S.Store g.R.Source (a.level + 1) w (view_of i.store c.draw_tree.new.random i.ledger i.caches i.is_open)
    (answered_value c.from_residual.result []) key) c.self.view_is
    (undrawn g.S.Store g.R.Source (a.level + 1) key (chain_trees c.in-Chain.chain) these c.pair.result
    (view_of i.store i.random i.ledger i.caches i.is_open) c.draw_tree.new.random fault (answered_value c.from_residual.result []) rests answer
    c.in_err-secret.ensures)

pub returns-in_err-root-clause-step : goal.returns-in_err-root-clause-step
returns-in_err-root-clause-step g c key keyed =
    let a = c.args in
    let i = c.self.inside in
    let kept : the_key a.self.now.records ≡ Some i.ledger.key = ap (λ w. the_key w.records) (sym c.self.view_is) ∙ c.self.invariant.1 in
    let these = subst (MakesTrees key.secret) c.in-Chain.is (subst (λ (k : Key). MakesTrees k.secret c.of.result)
    (c.key.ensures.key ∙ same_key a.self.now.records i.ledger.key key kept keyed) c.of.ensures) in
    let fault : SignFault = c.in_err-root.field-0.0 in
    let failed : c.from_residual-in_err-root.result ≡ Err fault = search rules in
    let answer : Err OutOfMemory ≡ answered_value c.from_residual-in_err-root.result [] =
    sym (ap Err c.in_err-root.ensures.fault) ∙ ap (λ r. answered_value r []) (sym failed) in
    let opened : i.is_open ≡ true = ap (λ w. w.is_open) c.self.view_is ∙ c.requires.ready.is_open in
    let rests : Rests g.S.Store (view_of i.store i.random i.ledger i.caches i.is_open) = record {
      is_open = opened;
      tied = c.self.invariant.0.tied opened;
      leaves = λ left honest running since. g.met.S.Store.leaves_nothing_else i.store left honest running since;
    } in
    subst (λ (w : View g.row.S.Denot g.row.R.Denot).
    Extends g.S.Store g.R.Source (a.level + 1) w (view_of i.store c.draw_tree.new.random i.ledger i.caches i.is_open)
    (answered_value c.from_residual-in_err-root.result []) key) c.self.view_is
    (ungrown g.S.Store g.R.Source (a.level + 1) key (chain_trees c.in-Chain.chain) these
    (view_of i.store i.random i.ledger i.caches i.is_open) c.draw_tree.new.random c.pair.result (c.in_ok-secret.secret, c.in_ok-secret.randomizer) (answered_value c.from_residual-in_err-root.result []) rests
    answer c.in_ok-secret.ensures)

pub add_tree-requires-clause-within : goal.add_tree-requires-clause-within
add_tree-requires-clause-within g c =
    let i = c.self.inside in
    let kept : the_key c.args.self.now.records ≡ Some i.ledger.key = ap (λ w. the_key w.records) (sym c.self.view_is) ∙ c.self.invariant.1 in
    let most = (levels_range i.ledger.records i.ledger.key (levels_of i.ledger.key.secret) c.self.invariant.0.sizes c.self.invariant.1 refl).1 in
    omega (arith, c.requires.below i.ledger.key kept, most)

pub add_tree-requires-clause-follows : goal.add_tree-requires-clause-follows
add_tree-requires-clause-follows g c =
    let a = c.args in
    let i = c.self.inside in
    let K = i.ledger.key in
    let kept : the_key a.self.now.records ≡ Some K = ap (λ w. the_key w.records) (sym c.self.view_is) ∙ c.self.invariant.1 in
    let stands = subst (λ w. Stands w.records a.level K) (sym c.self.view_is) (c.requires.stands K kept) in
    let stays : has_moved i.ledger.records ≡ false = ap (λ w. has_moved w.records) c.self.view_is ∙ c.requires.ready.stays in
    let has = has_free K.secret i.ledger.records a.level c.current.result c.in-Some.parent c.current.ensures c.in-Some.is stands.free in
    can_extend K i.ledger.records a.level (record {
      level = a.level + 1;
      parent_leaf = c.in-Some.parent.next;
      identifier = c.in_ok-secret.secret.identifier;
      seed = c.in_ok-secret.secret.seed;
      randomizer = c.in_ok-secret.randomizer;
      digest = c.message_digest-digest.result;
      root = c.in_ok-root.root;
    }) c.self.invariant.1 stays stands.free refl (c.requires.below K kept) has.leaf_is c.in_ok-secret.ensures.3

pub returns-clause-step : goal.returns-clause-step
returns-clause-step g c key keyed =
    let a = c.args in
    let i = c.self.inside in
    let K = i.ledger.key in
    let T = chain_trees c.in-Chain.chain in
    let seeds : LmsSecret × List ℕ = (c.in_ok-secret.secret, c.in_ok-secret.randomizer) in
    let kept : the_key a.self.now.records ≡ Some K = ap (λ w. the_key w.records) (sym c.self.view_is) ∙ c.self.invariant.1 in
    let own : K ≡ key = same_key a.self.now.records K key kept keyed in
    let these = subst (MakesTrees K.secret) c.in-Chain.is (subst (λ (k : Key). MakesTrees k.secret c.of.result) c.key.ensures.key c.of.ensures) in
    let stands = subst (λ w. Stands w.records a.level K) (sym c.self.view_is) (c.requires.stands K kept) in
    let has = has_free K.secret i.ledger.records a.level c.current.result c.in-Some.parent c.current.ensures c.in-Some.is stands.free in
    let entry = entry_is K T i.ledger.records a.level c.in-Some.parent.place c.in-Some.parent.next c.secret_at-signer.result
    seeds.0
    (rooted_public seeds.0 c.in_ok-root.root) (record {
      level = a.level + 1;
      parent_leaf = c.in-Some.parent.next;
      identifier = seeds.0.identifier;
      seed = seeds.0.seed;
      randomizer = seeds.1;
      digest = c.message_digest-digest.result;
      root = c.in_ok-root.root;
    }) has c.secret_at-signer.ensures refl refl refl refl
    (ap (rooted_public seeds.0) (c.in_ok-root.ensures.root ∙ ap root_of_secret c.new-asked.ensures.secret))
    (c.message_digest-digest.ensures ∙ ap (message_digest_of c.secret_at-signer.result.identifier c.in-Some.parent.next c.in_ok-secret.randomizer) (c.to_bytes-public.ensures.bytes ∙ ap public_bytes c.of-2.ensures))
    refl (c.in_ok-secret.ensures.4 ∙ c.pair.ensures) in
    let step = drawn_below g.S.Store g.R.Source K T i.store i.random c.draw_tree.new.random i.ledger i.is_open a.self.now c.add_tree.new.self (a.level + 1) c.pair.result seeds _
    c.add_tree.result c.self.view_is c.requires.ready.is_open these entry c.in_ok-secret.ensures c.add_tree.ensures.adds in
    subst (λ (k : Key). Extends g.S.Store g.R.Source (a.level + 1) a.self.now c.add_tree.new.self (answered_value c.add_tree.result []) k) own step

pub returns-clause-stands : goal.returns-clause-stands
returns-clause-stands g c =
    let a = c.args in
    let i = c.self.inside in
    let K = i.ledger.key in
    let T = chain_trees c.in-Chain.chain in
    let seeds : LmsSecret × List ℕ = (c.in_ok-secret.secret, c.in_ok-secret.randomizer) in
    let kept : the_key a.self.now.records ≡ Some K = ap (λ w. the_key w.records) (sym c.self.view_is) ∙ c.self.invariant.1 in
    let these = subst (MakesTrees K.secret) c.in-Chain.is (subst (λ (k : Key). MakesTrees k.secret c.of.result) c.key.ensures.key c.of.ensures) in
    let stands = subst (λ w. Stands w.records a.level K) (sym c.self.view_is) (c.requires.stands K kept) in
    let has = has_free K.secret i.ledger.records a.level c.current.result c.in-Some.parent c.current.ensures c.in-Some.is stands.free in
    let extend : Extend = record {
      level = a.level + 1;
      parent_leaf = c.in-Some.parent.next;
      identifier = seeds.0.identifier;
      seed = seeds.0.seed;
      randomizer = seeds.1;
      digest = c.message_digest-digest.result;
      root = c.in_ok-root.root;
    } in
    let entry = entry_is K T i.ledger.records a.level c.in-Some.parent.place c.in-Some.parent.next c.secret_at-signer.result
    seeds.0
    (rooted_public seeds.0 c.in_ok-root.root) extend has c.secret_at-signer.ensures refl refl refl refl
    (ap (rooted_public seeds.0) (c.in_ok-root.ensures.root ∙ ap root_of_secret c.new-asked.ensures.secret))
    (c.message_digest-digest.ensures ∙ ap (message_digest_of c.secret_at-signer.result.identifier c.in-Some.parent.next c.in_ok-secret.randomizer) (c.to_bytes-public.ensures.bytes ∙ ap public_bytes c.of-2.ensures))
    refl (c.in_ok-secret.ensures.4 ∙ c.pair.ensures) in
    let after = stands_below K T i.ledger.records a.level seeds.0.identifier seeds.0.seed seeds.1 c.self.invariant.1 these stands (c.requires.below K kept) in
    if_added c.add_tree.result (λ x is key keyed.
    let grown : c.add_tree.new.self.records ≡ i.ledger.records ++ ExtendRecord extend ∷ [] =
    added_records g.S.Store (view_of i.store c.draw_tree.new.random i.ledger i.caches i.is_open) c.add_tree.new.self (ExtendRecord extend) c.add_tree.result x
    c.add_tree.ensures.adds is in
    let still : the_key c.add_tree.new.self.records ≡ Some K = ap the_key grown ∙ key_stays i.ledger.records (ExtendRecord extend ∷ []) K c.self.invariant.1 in
    subst (Stands c.add_tree.new.self.records (a.level + 1)) (same_key c.add_tree.new.self.records K key still keyed)
    (subst (λ (l : List Record). Stands l (a.level + 1) K) (sym (grown ∙ ap (λ e. i.ledger.records ++ e ∷ []) entry)) after))

pub returns-in_err-secret-clause-keeps : goal.returns-in_err-secret-clause-keeps
returns-in_err-secret-clause-keeps g c = keeps_same c.args.level _ _ (ap (λ w. w.cached) c.self.view_is)

pub returns-in_err-root-clause-keeps : goal.returns-in_err-root-clause-keeps
returns-in_err-root-clause-keeps g c = keeps_same c.args.level _ _ (ap (λ w. w.cached) c.self.view_is)

pub returns-clause-keeps : goal.returns-clause-keeps
returns-clause-keeps g c =
    subst (λ (x : Cached). KeepsDownTo c.args.level x c.add_tree.new.self.cached) (ap (λ w. w.cached) c.self.view_is)
    (keeps_begun c.args.level (c.args.level + 1) c.self.inside.caches c.add_tree.new.self.cached (omega arith) c.add_tree.ensures.others c.add_tree.ensures.xmss)

pub returns-clause-caches : goal.returns-clause-caches
returns-clause-caches g c =
    let a = c.args in
    let i = c.self.inside in
    let K = i.ledger.key in
    let T = chain_trees c.in-Chain.chain in
    let secret = c.in_ok-secret.secret in
    let kept : the_key a.self.now.records ≡ Some K = ap (λ w. the_key w.records) (sym c.self.view_is) ∙ c.self.invariant.1 in
    let these = subst (MakesTrees K.secret) c.in-Chain.is (subst (λ (k : Key). MakesTrees k.secret c.of.result) c.key.ensures.key c.of.ensures) in
    let stands = subst (λ w. Stands w.records a.level K) (sym c.self.view_is) (c.requires.stands K kept) in
    let has = has_free K.secret i.ledger.records a.level c.current.result c.in-Some.parent c.current.ensures c.in-Some.is stands.free in
    let extend : Extend = record {
      level = a.level + 1;
      parent_leaf = c.in-Some.parent.next;
      identifier = secret.identifier;
      seed = secret.seed;
      randomizer = c.in_ok-secret.randomizer;
      digest = c.message_digest-digest.result;
      root = c.in_ok-root.root;
    } in
    let keeps = keeps_begun a.level (a.level + 1) i.caches c.add_tree.new.self.cached (omega arith) c.add_tree.ensures.others c.add_tree.ensures.xmss in
    if_added c.add_tree.result (λ x is key keyed all.
    let grown : c.add_tree.new.self.records ≡ i.ledger.records ++ ExtendRecord extend ∷ [] =
    added_records g.S.Store (view_of i.store c.draw_tree.new.random i.ledger i.caches i.is_open) c.add_tree.new.self (ExtendRecord extend) c.add_tree.result x
    c.add_tree.ensures.adds is in
    let there = subst (λ (x : ℕ × LmsSecret). HasLevel c.add_tree.new.self.cached x.0 x.1)
    (λ j. (
      add-one a.level j,
      (c.in_ok-root.ensures.cache ∙ c.new-asked.ensures.secret
          ∙ sym (begun_secret T i.ledger.records extend secret refl refl (c.in_ok-secret.ensures.4 ∙ c.pair.ensures))) j,
    )) (at_ok c.add_tree.result x is c.add_tree.ensures.there) in
    let own : K ≡ key = same_key a.self.now.records K key kept keyed in
    let before : HasAll K i.ledger.records a.level i.caches = subst (λ w. HasAll K w.records a.level w.cached) (sym c.self.view_is)
    (subst (λ (k : Key). HasAll k a.self.now.records a.level a.self.now.cached) (sym own) all) in
    let after = has_begun K T i.ledger.records a.level c.in-Some.parent.place extend i.caches c.add_tree.new.self.cached these c.self.invariant.1 (add-one a.level)
    has.current_is keeps there before in
    subst (λ (y : Key × List Record × ℕ). HasAll y.0 y.1 y.2 c.add_tree.new.self.cached)
    (λ j. (own j, sym grown j, sym (add-one a.level) j)) after)

pub returns-clause-stays : goal.returns-clause-stays
returns-clause-stays g c =
    let i = c.self.inside in
    let extend : Extend = record {
      level = c.args.level + 1;
      parent_leaf = c.in-Some.parent.next;
      identifier = c.in_ok-secret.secret.identifier;
      seed = c.in_ok-secret.secret.seed;
      randomizer = c.in_ok-secret.randomizer;
      digest = c.message_digest-digest.result;
      root = c.in_ok-root.root;
    } in
    subst (λ (l : List Record). OnErr c.add_tree.result (c.add_tree.new.self.records ≡ l)) (ap (λ w. w.records) c.self.view_is)
    (added_none g.S.Store (view_of i.store c.draw_tree.new.random i.ledger i.caches i.is_open) c.add_tree.new.self (ExtendRecord extend)
    c.add_tree.result c.add_tree.ensures.adds)

pub returns-clause-begun : goal.returns-clause-begun
returns-clause-begun g c =
    let a = c.args in
    let i = c.self.inside in
    let K = i.ledger.key in
    let T = chain_trees c.in-Chain.chain in
    let secret = c.in_ok-secret.secret in
    let kept : the_key a.self.now.records ≡ Some K = ap (λ w. the_key w.records) (sym c.self.view_is) ∙ c.self.invariant.1 in
    let these = subst (MakesTrees K.secret) c.in-Chain.is (subst (λ (k : Key). MakesTrees k.secret c.of.result) c.key.ensures.key c.of.ensures) in
    let stands = subst (λ w. Stands w.records a.level K) (sym c.self.view_is) (c.requires.stands K kept) in
    let has = has_free K.secret i.ledger.records a.level c.current.result c.in-Some.parent c.current.ensures c.in-Some.is stands.free in
    let extend : Extend = record {
      level = a.level + 1;
      parent_leaf = c.in-Some.parent.next;
      identifier = secret.identifier;
      seed = secret.seed;
      randomizer = c.in_ok-secret.randomizer;
      digest = c.message_digest-digest.result;
      root = c.in_ok-root.root;
    } in
    let keeps = keeps_begun a.level (a.level + 1) i.caches c.add_tree.new.self.cached (omega arith) c.add_tree.ensures.others c.add_tree.ensures.xmss in
    if_added c.add_tree.result (λ x is key keyed start begun.
    let grown : c.add_tree.new.self.records ≡ i.ledger.records ++ ExtendRecord extend ∷ [] =
    added_records g.S.Store (view_of i.store c.draw_tree.new.random i.ledger i.caches i.is_open) c.add_tree.new.self (ExtendRecord extend) c.add_tree.result x
    c.add_tree.ensures.adds is in
    let there = subst (λ (x : ℕ × LmsSecret). HasLevel c.add_tree.new.self.cached x.0 x.1)
    (λ j. (
      add-one a.level j,
      (c.in_ok-root.ensures.cache ∙ c.new-asked.ensures.secret
          ∙ sym (begun_secret T i.ledger.records extend secret refl refl (c.in_ok-secret.ensures.4 ∙ c.pair.ensures))) j,
    )) (at_ok c.add_tree.result x is c.add_tree.ensures.there) in
    let own : K ≡ key = same_key a.self.now.records K key kept keyed in
    let before : HasBegunTo K i.ledger.records a.level start i.caches = subst (λ w. HasBegunTo K w.records a.level start w.cached) (sym c.self.view_is)
    (subst (λ (k : Key). HasBegunTo k a.self.now.records a.level start a.self.now.cached) (sym own) begun) in
    let after = begun_tree K T i.ledger.records a.level c.in-Some.parent.place start extend i.caches c.add_tree.new.self.cached these c.self.invariant.1 (add-one a.level)
    has.current_is keeps there before in
    subst (λ (y : Key × List Record × ℕ). HasBegunTo y.0 y.1 y.2 start c.add_tree.new.self.cached)
    (λ j. (own j, sym grown j, sym (add-one a.level) j)) after)

pub returns-clause-renews : goal.returns-clause-renews
returns-clause-renews g c =
    let a = c.args in
    let i = c.self.inside in
    let K = i.ledger.key in
    let T = chain_trees c.in-Chain.chain in
    let secret = c.in_ok-secret.secret in
    let kept : the_key a.self.now.records ≡ Some K = ap (λ w. the_key w.records) (sym c.self.view_is) ∙ c.self.invariant.1 in
    let these = subst (MakesTrees K.secret) c.in-Chain.is (subst (λ (k : Key). MakesTrees k.secret c.of.result) c.key.ensures.key c.of.ensures) in
    let stands = subst (λ w. Stands w.records a.level K) (sym c.self.view_is) (c.requires.stands K kept) in
    let has = has_free K.secret i.ledger.records a.level c.current.result c.in-Some.parent c.current.ensures c.in-Some.is stands.free in
    let extend : Extend = record {
      level = a.level + 1;
      parent_leaf = c.in-Some.parent.next;
      identifier = secret.identifier;
      seed = secret.seed;
      randomizer = c.in_ok-secret.randomizer;
      digest = c.message_digest-digest.result;
      root = c.in_ok-root.root;
    } in
    if_added c.add_tree.result (λ x is key keyed first renews.
    let grown : c.add_tree.new.self.records ≡ i.ledger.records ++ ExtendRecord extend ∷ [] =
    added_records g.S.Store (view_of i.store c.draw_tree.new.random i.ledger i.caches i.is_open) c.add_tree.new.self (ExtendRecord extend) c.add_tree.result x
    c.add_tree.ensures.adds is in
    let there = subst (λ (x : ℕ × LmsSecret). HasLevel c.add_tree.new.self.cached x.0 x.1)
    (λ j. (
      add-one a.level j,
      (c.in_ok-root.ensures.cache ∙ c.new-asked.ensures.secret
          ∙ sym (begun_secret T i.ledger.records extend secret refl refl (c.in_ok-secret.ensures.4 ∙ c.pair.ensures))) j,
    )) (at_ok c.add_tree.result x is c.add_tree.ensures.there) in
    let own : K ≡ key = same_key a.self.now.records K key kept keyed in
    let before : RenewsDownTo K i.ledger.records a.level first i.caches = subst (λ w. RenewsDownTo K w.records a.level first w.cached) (sym c.self.view_is)
    (subst (λ (k : Key). RenewsDownTo k a.self.now.records a.level first a.self.now.cached) (sym own) renews) in
    let after = begun_renews K T i.ledger.records a.level c.in-Some.parent.place extend first i.caches c.add_tree.new.self.cached these c.self.invariant.1
    (add-one a.level) has.current_is (subst (λ n. (k : ℕ) → k ≢ n → cache_at c.add_tree.new.self.cached.levels k ≡ cache_at i.caches.levels k)
    (add-one a.level) c.add_tree.ensures.others) c.add_tree.ensures.xmss there before in
    subst (λ (y : Key × List Record × ℕ). RenewsDownTo y.0 y.1 y.2 first c.add_tree.new.self.cached)
    (λ j. (own j, sym grown j, sym (add-one a.level) j)) after)

pub returns-in_err-secret-clause-stays_cached : goal.returns-in_err-secret-clause-stays_cached
returns-in_err-secret-clause-stays_cached g c = on_any c.from_residual.result (ap (λ w. w.cached) c.self.view_is)

pub returns-in_err-root-clause-stays_cached : goal.returns-in_err-root-clause-stays_cached
returns-in_err-root-clause-stays_cached g c = on_any c.from_residual-in_err-root.result (ap (λ w. w.cached) c.self.view_is)

pub returns-clause-stays_cached : goal.returns-clause-stays_cached
returns-clause-stays_cached g c = on_err c.add_tree.result (λ same. same ∙ ap (λ w. w.cached) c.self.view_is) c.add_tree.ensures.stays
