use Rattle.std.proofs.Common.{◌≡◌, ◌∙◌, None, Some, ap, sym, subst, arith}
use Rattle.std.specs.Prelude.{length, IfErr, OnOk}
use Rattle.state_file.specs.declared.record.Secret.TheVariants.{Xmss}
use Rattle.state_file.specs.Laws.{levels_of}
use Rattle.sign_core.specs.inner.KeyTrees.{MakesTrees, chain_trees}
use Rattle.sign_core.specs.Textbook.{damaged_at, current_at}
use Rattle.sign_core.proofs.chains.BindingChains.{key_chain}
use Rattle.sign_core.proofs.chains.CurrentChain.{has_free, leaf_inside, not_free, tree_stands}
use Rattle.sign_core.proofs.records.Heights.{height_of_xmss}
use Rattle.sign_core.proofs.calls.SignEnds.{is_none}
use Rattle.sign_core.proofs.secret_trees.SecretTrees.check_current.Goals as goal

pub unreachable-requires : goal.unreachable-requires
unreachable-requires g c =
    let l = c.args.ledger.now in
    not_free l.key.secret l.records c.args.level c.current.result c.current.ensures (is_none c.current.result c.in_default.not-Some) c.requires.free

pub chain_to-requires-clause-stands : goal.chain_to-requires-clause-stands
chain_to-requires-clause-stands g c =
    let l = c.args.ledger.now in
    let has = has_free l.key.secret l.records c.args.level c.current.result c.in-Some.tree c.current.ensures c.in-Some.is c.requires.free in
    tree_stands l.records c.args.level c.in-Some.tree.place has.current_is

pub chain_to-requires-clause-inside : goal.chain_to-requires-clause-inside
chain_to-requires-clause-inside g c =
    let l = c.args.ledger.now in
    let has = has_free l.key.secret l.records c.args.level c.current.result c.in-Some.tree c.current.ensures c.in-Some.is c.requires.free in
    let these = subst (MakesTrees l.key.secret) c.in-Chain.is c.requires.trees in
    leaf_inside l.key (chain_trees c.in-Chain.trees) l.records c.args.level c.in-Some.tree.place c.in-Some.tree.next
    (c.key-key.ensures.first ∙ ap Some c.key-key.ensures.key) these c.requires.level has

pub new-asked-requires-clause-of_key : goal.new-asked-requires-clause-of_key
new-asked-requires-clause-of_key g c =
    height_of_xmss _ _ _ (subst (MakesTrees c.args.ledger.now.key.secret) c.in-Xmss.is c.requires.trees) c.requires.types

pub returns-in-Xmss-clause-sound : goal.returns-in-Xmss-clause-sound
returns-in-Xmss-clause-sound g c =
    let l = c.args.ledger.now in
    let of_key = subst (MakesTrees l.key.secret) c.in-Xmss.is c.requires.trees in
    let keyed = c.key-key.ensures.first ∙ ap Some c.key-key.ensures.key in
    let top : 0 ≡ c.args.level = omega (arith, c.requires.level, ap levels_of of_key) in
    subst (λ n. OnOk c.xmss_path.result (damaged_at l.key n l.records (current_at n l.records (length l.records)) ≡ None)) top
    (key_chain l.records l.key (λ d. OnOk c.xmss_path.result (d ≡ None)) keyed
    (λ rest. c.xmss_path.ensures.sound l.key rest (of_key ∙ ap Xmss (sym c.new-asked.ensures.secret)) (ap (λ own. own.root) (sym c.key-key.ensures.key))))

pub returns-in-Xmss-clause-damaged : goal.returns-in-Xmss-clause-damaged
returns-in-Xmss-clause-damaged g c =
    let l = c.args.ledger.now in
    let of_key = subst (MakesTrees l.key.secret) c.in-Xmss.is c.requires.trees in
    let keyed = c.key-key.ensures.first ∙ ap Some c.key-key.ensures.key in
    let top : 0 ≡ c.args.level = omega (arith, c.requires.level, ap levels_of of_key) in
    subst (λ n. IfErr c.xmss_path.result (λ k. damaged_at l.key n l.records (current_at n l.records (length l.records)) ≡ Some k)) top
    (key_chain l.records l.key (λ d. IfErr c.xmss_path.result (λ k. d ≡ Some k)) keyed
    (λ rest. c.xmss_path.ensures.damaged l.key rest (of_key ∙ ap Xmss (sym c.new-asked.ensures.secret)) (ap (λ own. own.root) (sym c.key-key.ensures.key))))
