use Rattle.std.proofs.Common.{◌≡◌, ◌∙◌, ap, subst, arith, length}
use Rattle.sha2.specs.Hashers.{Holds256}
use Rattle.sha2.specs.Sha256.{sha256}
use Rattle.lmots.proofs.Ends.{fed_none, fed_more, fed_all}
use Rattle.lmots.proofs.climbing.hash_of_climbed.Goals as goal

pub loop-chain-init : goal.loop-chain-init
loop-chain-init c = subst (Holds256 c.hasher-hasher.result) (fed_none _ _) c.hasher-hasher.ensures

pub loop-chain-preserved : goal.loop-chain-preserved
loop-chain-preserved c =
    subst (Holds256 c.update.new.self) (fed_more _ _ c.loop-chain.chain c.climb-end.result (cc))
    (c.update.ensures _ c.loop-chain.invariant)

pub returns : goal.returns
returns c =
    let all : c.loop-chain.chain ≡ length c.args.digits.now = omega arith in
    c.finalize.ensures _ c.loop-chain.invariant ∙ ap sha256 (fed_all _ _ _ _ all)
