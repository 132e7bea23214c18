use Rattle.std.proofs.Common.{◌∙◌, ◌++◌, sym, ap}
use Rattle.std.proofs.lemmas.List.Concat.{concat_is}
use Rattle.sha2.specs.Sha256.{sha256}
use Rattle.lmots.specs.Hashes.{public_separator, u16str, u32str}
use Rattle.lmots.proofs.key.LmOts.hash_of_ends.Goals as goal

pub returns : goal.returns
returns c =
    let key = c.args.self.now in
    c.finalize.ensures _ (c.update.ensures _ c.hasher-hasher.ensures)
    ∙ ap (λ ends. sha256 ((key.identifier ++ u32str key.leaf ++ u16str public_separator) ++ ends)) (c.as_flattened.ensures.value ∙ sym (concat_is c.args.ends.now))
