use Rattle.std.proofs.Common.{◌≡◌, ◌∙◌, ◌+◌, ◌*◌, [], ap, arith, slice_index, slice_index_or, take}
use Rattle.std.proofs.lemmas.List.{get_or-replicate}
use Rattle.sha2.specs.Sha256.{sha256}
use Rattle.typecodes.specs.Types.{chains_of}
use Rattle.winternitz.specs.Lanes.{lanes}
use Rattle.lmots.proofs.Messages.{message_more, message_none, message_until}
use Rattle.lmots.proofs.lane_keys.LaneKeys.public_hashes.Goals as goal

pub loop-chain-init : goal.loop-chain-init
loop-chain-init c = λ j low.
    let self = c.args.self.now in
    c.messages-messages.ensures j low ∙ message_none self.identifier (slice_index self.leaves j) c.args.ots c.args.seed.now

pub loop-chain-preserved : goal.loop-chain-preserved
loop-chain-preserved c = λ j low.
    let self = c.args.self.now in
    let more : 22 + 32 * (c.loop-chain.chain + 1) ≡ 22 + 32 * c.loop-chain.chain + 32 = omega arith in
    message_more self.identifier (slice_index self.leaves j) c.args.ots c.args.seed.now c.loop-chain.chain c.greatest_digit.result _ _ _
    (c.loop-chain.invariant j low)
    (ap (λ n. take n (slice_index_or c.append.new.messages j [])) more ∙ c.append.ensures j low)
    (c.ends-ends.ensures j low c.args.seed.now (c.in_words-seeds.ensures j low ∙ get_or-replicate lanes j c.args.seed.now [] low))
    c.greatest_digit.ensures

pub returns : goal.returns
returns c = λ j low.
    let self = c.args.self.now in
    let q = slice_index self.leaves j in
    let done : c.from-count.result ≡ c.loop-chain.chain = omega arith in
    let count : c.loop-chain.chain ≡ chains_of c.args.ots = omega (arith, c.from-count.ensures, c.chains.ensures.value) in
    c.sha256_in_lanes.ensures j low
    ∙ ap sha256 (ap (λ n. take (22 + 32 * n) (slice_index_or c.loop-chain.messages j [])) done
    ∙ c.loop-chain.invariant j low
    ∙ ap (message_until self.identifier q c.args.ots c.args.seed.now) count)
