use Rattle.std.proofs.Common.{◌≡◌, ◌∙◌, ap, sym}
use Rattle.winternitz.proofs.Ends.{are_ends, same_ends}
use Rattle.wots_plus.specs.Key.{ends_of_signature, public_hash}
use Rattle.wots_plus.proofs.key.Wots.public_from_signature.Goals as goal

pub returns : goal.returns
returns c =
    let seed = c.args.self.now.seed.now.key in
    let leaf = c.args.self.now.leaf in
    let value : c.l_tree.result ≡ public_hash seed leaf (ends_of_signature seed leaf c.args.digest.now c.args.values.now)
    = c.l_tree.ensures.value ∙ ap (public_hash _ _) c.ends_from_signature-ends.ensures in
    record {
      value = value;
      only = λ ends are. value ∙ ap (public_hash _ _) (sym (same_ends _ _ _ _ ends are));
      ends_exist = (_, are_ends _ _ _ _, value);
    }
