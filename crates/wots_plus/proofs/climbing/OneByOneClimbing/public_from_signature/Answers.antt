use Rattle.std.proofs.Common.{◌≡◌, ◌∙◌, ap, sym}
use Rattle.winternitz.proofs.Ends.{are_ends, same_ends}
use Rattle.wots_plus.specs.Key.{ends_of_signature, public_hash}
use Rattle.wots_plus.proofs.climbing.OneByOneClimbing.public_from_signature.Goals as goal

pub returns : goal.returns
returns c =
    let seed = c.args.key.now.seed.now.key in
    let leaf = c.args.key.now.leaf in
    let value : c.l_tree_by.result ≡ public_hash seed leaf (ends_of_signature seed leaf c.args.digest.now c.args.values.now)
    = c.l_tree_by.ensures.value ∙ ap (public_hash _ _) c.ends_one_by_one.ensures in
    record {
      value = value;
      only = λ ends are. value ∙ ap (public_hash _ _) (sym (same_ends _ _ _ _ ends are));
      ends_exist = (_, are_ends _ _ _ _, value);
    }
