use Rattle.std.proofs.Common.{rules, ℕ, List, ◌<◌, ◌^◌, ◌≡◌, ◌∙◌, ◌-◌, [], ◌∷◌, ◌++◌, None, Some, sym, ap, subst, arith}
use Rattle.std.specs.Prelude.{length}
use Rattle.state_file.specs.Laws.{bottom_of}
use Rattle.state_file.specs.declared.record.Key.{Key}
use Rattle.typecodes.specs.declared.secret.XmssSecret.{XmssSecret}
use Rattle.typecodes.specs.Types.{xmss_height_of}
use Rattle.hss.specs.declared.secret.Level.{Level}
use Rattle.xmss.specs.Secret.{leaf_path}
use Rattle.state_file.specs.declared.record.Secret.TheVariants.{Xmss}
use Rattle.sign_core.specs.Signer.{signature_size}
use Rattle.sign_core.specs.inner.KeyTrees.{AreMade, IsTreeAt, MakesTrees, signings_of, chain_trees}
use Rattle.sign_core.specs.inner.Signing.{WritesChain, pairs_of}
use Rattle.sign_core.specs.Textbook.{damaged_at, chain_signings, trees_of}
use Rattle.sign_core.proofs.chains.BindingChains.{links_pairs}
use Rattle.sign_core.proofs.records.Heights.{height_of_xmss}
use Rattle.sign_core.proofs.ledgers.Reading.{key_levels}
use Rattle.sign_core.proofs.chains.ChainsInMemory.{more_made, tree_signs}
use Rattle.sign_core.proofs.calls.RepeatEnds.{bound_chain, bound_xmss_leaf, links_bound, links_signs, none_made, xmss_bound_chain, xmss_bound_signed}
use Rattle.sign_core.proofs.secret_trees.SecretTrees.write_bound.Goals as goal

-- ---- LMS and HSS

pub overflow_sub-level : goal.overflow_sub-level
overflow_sub-level g c =
    let some = (key_levels c.args.ledger.now.records c.key-key.result.now c.key-key.ensures.sizes c.key-key.ensures.first).0 in
    omega (arith, some, c.levels-level.ensures)

pub chain_to-requires-clause-trees : goal.chain_to-requires-clause-trees
chain_to-requires-clause-trees g c = subst (MakesTrees c.args.ledger.now.key.secret) c.in-Chain.is c.requires.trees

pub chain_to-requires-clause-stands : goal.chain_to-requires-clause-stands
chain_to-requires-clause-stands g c =
    let own = c.key-key.result.now in
    let L = c.args.ledger.now.records in
    let these = subst (λ (k : Key). trees_of k.secret ≡ Some (chain_trees c.in-Chain.trees)) (sym c.key-key.ensures.key)
    (subst (MakesTrees c.args.ledger.now.key.secret) c.in-Chain.is c.requires.trees) in
    let (name, kept) = c.requires.kept own c.key-key.ensures.first in
    subst (λ n. IsTreeAt L (n - 1) c.args.binding.now.tree) (sym c.levels-level.ensures)
    (bound_chain own (chain_trees c.in-Chain.trees) L name c.args.binding.now c.key-key.ensures.legal c.key-key.ensures.first these kept).0

pub chain_to-requires-clause-inside : goal.chain_to-requires-clause-inside
chain_to-requires-clause-inside g c =
    let own = c.key-key.result.now in
    let L = c.args.ledger.now.records in
    let these = subst (λ (k : Key). trees_of k.secret ≡ Some (chain_trees c.in-Chain.trees)) (sym c.key-key.ensures.key)
    (subst (MakesTrees c.args.ledger.now.key.secret) c.in-Chain.is c.requires.trees) in
    let (name, kept) = c.requires.kept own c.key-key.ensures.first in
    (bound_chain own (chain_trees c.in-Chain.trees) L name c.args.binding.now c.key-key.ensures.legal c.key-key.ensures.first these kept).1

pub chain_to-requires-clause-room : goal.chain_to-requires-clause-room
chain_to-requires-clause-room g c =
    let (some, within_limit) = key_levels c.args.ledger.now.records c.key-key.result.now c.key-key.ensures.sizes c.key-key.ensures.first in
    omega (arith, some, within_limit, c.levels-level.ensures, ap length c.new-above.ensures)

pub write_chain-requires-clause-made : goal.write_chain-requires-clause-made
write_chain-requires-clause-made g c =
    let made = c.in_ok-tree-in-Chain.ensures.made (subst AreMade (sym c.new-above.ensures) none_made) in
    let bottom : Level = record { tree = c.in_ok-tree-in-Chain.tree; randomizer = c.args.binding.now.randomizer; digest = c.args.binding.now.digest } in
    subst (λ (last : Level). AreMade (c.deref.result.now ++ last ∷ [])) (sym c.new-last.ensures)
    (subst (λ (l : List Level). AreMade (l ++ bottom ∷ [])) (sym c.deref.ensures.0)
    (more_made c.chain_to.new.above.items bottom made c.in_ok-tree-in-Chain.ensures.tree.made))

pub write_chain-requires-clause-within_limit : goal.write_chain-requires-clause-within_limit
write_chain-requires-clause-within_limit g c =
    let (some, within_limit) = key_levels c.args.ledger.now.records c.key-key.result.now c.key-key.ensures.sizes c.key-key.ensures.first in
    omega (arith, some, within_limit, ap length c.deref.ensures.0, c.in_ok-tree-in-Chain.ensures.len, c.levels-level.ensures, ap length c.new-above.ensures)

pub write_chain-requires-clause-trees : goal.write_chain-requires-clause-trees
write_chain-requires-clause-trees g c =
    let these = subst (λ (k : Key). trees_of k.secret ≡ Some (chain_trees c.in-Chain.trees)) (sym c.key-key.ensures.key)
    (subst (MakesTrees c.args.ledger.now.key.secret) c.in-Chain.is c.requires.trees) in
    (chain_trees c.in-Chain.trees, these)

pub write_chain-requires-clause-room : goal.write_chain-requires-clause-room
write_chain-requires-clause-room g c = c.requires.room ∙ ap (λ (k : Key). signature_size k.secret) (sym c.key-key.ensures.key)

pub write_chain-requires-clause-pairs : goal.write_chain-requires-clause-pairs
write_chain-requires-clause-pairs g c other others =
    let own = c.key-key.result.now in
    let L = c.args.ledger.now.records in
    let T = chain_trees c.in-Chain.trees in
    let these = subst (λ (k : Key). trees_of k.secret ≡ Some T) (sym c.key-key.ensures.key)
    (subst (MakesTrees c.args.ledger.now.key.secret) c.in-Chain.is c.requires.trees) in
    let (name, kept) = c.requires.kept own c.key-key.ensures.first in
    let bottom : Level = record { tree = c.in_ok-tree-in-Chain.tree; randomizer = c.args.binding.now.randomizer; digest = c.args.binding.now.digest } in
    subst (λ (last : Level). pairs_of (c.deref.result.now ++ last ∷ []) ≡ other.pairs) (sym c.new-last.ensures)
    (links_pairs L own T other (c.levels-level.result - 1) c.args.binding.now.tree (c.deref.result.now ++ bottom ∷ []) _ c.key-key.ensures.legal c.key-key.ensures.first these others
    (bound_chain own T L name c.args.binding.now c.key-key.ensures.legal c.key-key.ensures.first these kept).0 (ap (λ n. n - 1) c.levels-level.ensures)
    (links_signs c.deref.result.now bottom _ (ap signings_of c.deref.ensures.0 ∙ c.in_ok-tree-in-Chain.ensures.signings
    ∙ ap (λ (l : List Level). signings_of l ++ chain_signings T (c.levels-level.result - 1) L c.args.binding.now.tree) c.new-above.ensures))
    c.in_ok-tree-in-Chain.ensures.tree.secret_is)

pub returns-in_err-tree-in-Chain-clause-damaged : goal.returns-in_err-tree-in-Chain-clause-damaged
returns-in_err-tree-in-Chain-clause-damaged g c =
    let l = c.args.ledger.now in
    let level = ap (λ n. n - 1) c.levels-level.ensures ∙ ap (λ (k : Key). bottom_of k.secret) c.key-key.ensures.key in
    let damaged = subst (λ n. damaged_at l.key n l.records c.args.binding.now.tree ≡ Some c.in_err-tree-in-Chain.field-0.0) level c.in_err-tree-in-Chain.ensures.damaged in
    search (rules, damaged)

pub returns-in_ok-tree-in-Chain-clause-sound : goal.returns-in_ok-tree-in-Chain-clause-sound
returns-in_ok-tree-in-Chain-clause-sound g c =
    let l = c.args.ledger.now in
    let level = ap (λ n. n - 1) c.levels-level.ensures ∙ ap (λ (k : Key). bottom_of k.secret) c.key-key.ensures.key in
    subst (λ n. damaged_at l.key n l.records c.args.binding.now.tree ≡ None) level c.in_ok-tree-in-Chain.ensures.sound

pub returns-in_ok-tree-in-Chain-clause-signature : goal.returns-in_ok-tree-in-Chain-clause-signature
returns-in_ok-tree-in-Chain-clause-signature g c k bound is =
    let l = c.args.ledger.now in
    let b = c.args.binding.now in
    let T = chain_trees c.in-Chain.trees in
    let these = subst (MakesTrees l.key.secret) c.in-Chain.is c.requires.trees in
    let level = ap (λ n. n - 1) c.levels-level.ensures ∙ ap (λ (k : Key). bottom_of k.secret) c.key-key.ensures.key in
    let bottom : Level = record { tree = c.in_ok-tree-in-Chain.tree; randomizer = b.randomizer; digest = b.digest } in
    let above = chain_signings T (c.levels-level.result - 1) l.records b.tree in
    let signs = links_signs c.deref.result.now bottom above (ap signings_of c.deref.ensures.0 ∙ c.in_ok-tree-in-Chain.ensures.signings
    ∙ ap (λ (l : List Level). signings_of l ++ above) c.new-above.ensures)
    ∙ ap (λ s. above ++ s ∷ []) (tree_signs c.in_ok-tree-in-Chain.tree _ _ b.randomizer b.digest c.in_ok-tree-in-Chain.ensures.tree) in
    subst (λ (k : Key). WritesChain k.secret (c.deref.result.now ++ bottom ∷ []) c.write_chain.new.into) c.key-key.ensures.key
    (subst (λ (last : Level). WritesChain c.key-key.result.now.secret (c.deref.result.now ++ last ∷ []) c.write_chain.new.into) c.new-last.ensures c.write_chain.ensures)
    T l.records k bound
    (l.key, c.key-key.ensures.first ∙ ap Some c.key-key.ensures.key) these
    (links_bound T l.records (c.levels-level.result - 1) l.key.secret k bound b _ level is signs)

-- ---- XMSS

pub new-request-requires-clause-of_key : goal.new-request-requires-clause-of_key
new-request-requires-clause-of_key g c =
    height_of_xmss _ _ _ (subst (MakesTrees c.args.ledger.now.key.secret) c.in-Xmss.is c.requires.trees) c.requires.types

pub xmss_path-requires-clause-inside : goal.xmss_path-requires-clause-inside
xmss_path-requires-clause-inside g c =
    let l = c.args.ledger.now in
    let of_key = subst (MakesTrees l.key.secret) c.in-Xmss.is c.requires.trees in
    let keyed = c.key-key.ensures.first ∙ ap Some c.key-key.ensures.key in
    subst (λ (p : XmssSecret × ℕ). p.1 < 2 ^ xmss_height_of p.0.tree) (λ i. (sym c.new-request.ensures.secret i, sym c.new-request.ensures.leaf i))
    (bound_xmss_leaf l.key l.records _ c.args.binding.now _ c.key-key.ensures.legal keyed of_key (c.requires.kept l.key keyed).1)

pub write_signature-requires-clause-inside : goal.write_signature-requires-clause-inside
write_signature-requires-clause-inside g c =
    let l = c.args.ledger.now in
    let of_key = subst (MakesTrees l.key.secret) c.in-Xmss.is c.requires.trees in
    let keyed = c.key-key.ensures.first ∙ ap Some c.key-key.ensures.key in
    bound_xmss_leaf l.key l.records _ c.args.binding.now _ c.key-key.ensures.legal keyed of_key (c.requires.kept l.key keyed).1

pub write_signature-requires-clause-room : goal.write_signature-requires-clause-room
write_signature-requires-clause-room g c =
    let l = c.args.ledger.now in
    let of_key = subst (MakesTrees l.key.secret) c.in-Xmss.is c.requires.trees in
    c.requires.room ∙ ap signature_size of_key

pub returns-in_err-xmss_path-in-Xmss-clause-damaged : goal.returns-in_err-xmss_path-in-Xmss-clause-damaged
returns-in_err-xmss_path-in-Xmss-clause-damaged g c =
    let l = c.args.ledger.now in
    let of_key = subst (MakesTrees l.key.secret) c.in-Xmss.is c.requires.trees in
    let keyed = c.key-key.ensures.first ∙ ap Some c.key-key.ensures.key in
    let damaged = xmss_bound_chain l.records l.key _ _ c.args.binding.now (λ d. d ≡ Some c.in_err-xmss_path-in-Xmss.field-0.0) keyed of_key (c.requires.kept l.key keyed).1
    (λ rest. c.in_err-xmss_path-in-Xmss.ensures.damaged l.key rest (of_key ∙ ap Xmss (sym c.new-request.ensures.secret)) (ap (λ own. own.root) (sym c.key-key.ensures.key))) in
    search (rules, damaged)

pub returns-in_ok-xmss_path-in-Xmss-clause-sound : goal.returns-in_ok-xmss_path-in-Xmss-clause-sound
returns-in_ok-xmss_path-in-Xmss-clause-sound g c =
    let l = c.args.ledger.now in
    let of_key = subst (MakesTrees l.key.secret) c.in-Xmss.is c.requires.trees in
    let keyed = c.key-key.ensures.first ∙ ap Some c.key-key.ensures.key in
    xmss_bound_chain l.records l.key _ _ c.args.binding.now (λ d. d ≡ None) keyed of_key (c.requires.kept l.key keyed).1
    (λ rest. c.in_ok-xmss_path-in-Xmss.ensures.sound l.key rest (of_key ∙ ap Xmss (sym c.new-request.ensures.secret)) (ap (λ own. own.root) (sym c.key-key.ensures.key)))

pub returns-in_ok-xmss_path-in-Xmss-clause-signature : goal.returns-in_ok-xmss_path-in-Xmss-clause-signature
returns-in_ok-xmss_path-in-Xmss-clause-signature g c k bound is =
    let l = c.args.ledger.now in
    let of_key = subst (MakesTrees l.key.secret) c.in-Xmss.is c.requires.trees in
    xmss_bound_signed l.records l.key _ k bound c.args.binding.now _ of_key is (c.write_signature.ensures.textbook (c.xmss_path.ensures.path ∙ (λ i. leaf_path (c.new-request.ensures.secret i) (c.new-request.ensures.leaf i))))
