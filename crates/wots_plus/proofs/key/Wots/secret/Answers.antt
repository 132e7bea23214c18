use Rattle.std.proofs.Common.{◌∙◌, ap, ◌++◌}
use Rattle.sha2.specs.Sha256.{sha256}
use Rattle.wots_plus.specs.Hashes.{to_byte}
use Rattle.wots_plus.proofs.key.Wots.secret.Goals as goal

pub returns : goal.returns
returns c =
    c.finalize.ensures _ (c.update-2.ensures _ (c.update.ensures _ c.keyed-hasher.ensures))
    ∙ ap (λ address. sha256 (to_byte 4 32 ++ c.args.secret_seed.now ++ c.args.self.now.seed.now.key ++ address)) c.step_address.ensures
