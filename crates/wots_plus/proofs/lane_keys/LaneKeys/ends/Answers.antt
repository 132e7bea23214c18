use Rattle.std.proofs.Common.{◌∙◌, arith, rules, slice_index}
use Rattle.wots_plus.specs.Key.{chain_value}
use Rattle.wots_plus.specs.inner.LaneKeys.{BeginsPrivateValues}
use Rattle.wots_plus.proofs.Rows.{lane_is, row_more}
use Rattle.wots_plus.proofs.lane_keys.LaneKeys.ends.Goals as goal

pub loop-chain-preserved : goal.loop-chain-preserved
loop-chain-preserved c =
    let key = c.args.self.now in
    let begun : BeginsPrivateValues c.args.secret.now c.in_each-first.result = record {
      is_block = c.first_state.ensures.is_block;
      state = λ j low. c.in_each-first.ensures j low ∙ c.first_state.ensures.state;
    } in
    record {
      long = search rules;
      each = row_more (λ j k. chain_value key.seed.now.key (slice_index key.leaves j) c.args.secret.now k 15) _ _ c.loop-chain.chain (omega arith)
          c.loop-chain.invariant.each (c.ends_of_chain.ensures c.args.secret.now begun);
    }

pub returns : goal.returns
returns c = λ j low.
    let key = c.args.self.now in
    lane_is (λ k. chain_value key.seed.now.key (slice_index key.leaves j) c.args.secret.now k 15) _ j 67 c.loop-chain.invariant.long
    (λ k within. c.loop-chain.invariant.each j low k (omega arith))
