use Rattle.std.proofs.Common.{rules, ◌∙◌, Some, ap, subst, sym}
use Rattle.typecodes.specs.Message.{Digests}
use Rattle.sign_core.specs.Textbook.{digest_at}
use Rattle.sign_core.specs.inner.KeyTrees.{MakesTrees}
use Rattle.sign_core.proofs.chains.BindingChains.{tree_digest, xmss_tree_digest}
use Rattle.sign_core.proofs.secret_trees.SecretTrees.digest.Goals.{in-Chain, in-Xmss}
use Rattle.sign_core.proofs.secret_trees.SecretTrees.digest.Goals as goal

pub returns-clause-digest : goal.returns-clause-digest
returns-clause-digest g c k at =
    let l = c.args.ledger.now in
    let m = g.M.Message in
    let q = digest_at l.key l.records k c.args.leaf c.args.randomizer.now in
    let old = c.args.message.now in
    let read : Digests m.transition m.remaining q c.match-self.digest old c.match-self.message = elim c.match-self.branch [
      | in-Chain w ↦
          let these = subst (MakesTrees l.key.secret) w.in-Chain.is c.requires in
          let is = tree_digest l.records l.key _ c.args.place k c.args.leaf _ c.args.randomizer.now (c.key-key.ensures.first ∙ ap Some c.key-key.ensures.key)
          these at (ap (λ s. s.identifier) w.secret_at.ensures) in
          let own = w.message_digest_from-digest in
          subst (λ after. Digests m.transition m.remaining q c.match-self.digest old after) (sym w.message-is)
          (subst (λ answer. Digests m.transition m.remaining q answer old own.new.message) (sym w.digest-is)
          (subst (λ f. Digests m.transition m.remaining f own.result old own.new.message) is own.ensures))
      | in-Xmss w ↦
          let of_key = subst (MakesTrees l.key.secret) w.in-Xmss.is c.requires in
          let is = xmss_tree_digest l.records l.key _ k c.args.leaf _ _ c.args.randomizer.now of_key w.randomizer-randomizer.ensures
          (ap (λ own. own.root) c.key-key.ensures.key) in
          let own = w.message_digest_from-digest-in-Xmss in
          subst (λ after. Digests m.transition m.remaining q c.match-self.digest old after) (sym w.message-is)
          (subst (λ answer. Digests m.transition m.remaining q answer old own.new.message) (sym w.digest-is)
          (subst (λ f. Digests m.transition m.remaining f own.result old own.new.message) is own.ensures))
    ] in
    search rules
