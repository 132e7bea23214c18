use Rattle.std.proofs.Common.{◌≡◌, ◌∙◌, sym, ap, [], ◌∷◌, get_or, length, slice_index, take, arith}
use Rattle.std.proofs.lemmas.List.{length-map, length-take-le, take_all, take-append-le}
use Rattle.wots_plus.specs.LTree.{at_height, l_tree_join}
use Rattle.wots_plus.specs.inner.LaneKeys.{in_lane}
use Rattle.wots_plus.proofs.LTree.{height_more, height_none, root_is}
use Rattle.wots_plus.proofs.Rows.{one_row}
use Rattle.wots_plus.proofs.lane_keys.LaneKeys.l_trees.Goals as goal

pub loop-count-init : goal.loop-count-init
loop-count-init c = record {
  replaced = λ j low. ap (in_lane j) (take_all (length c.args.rows.now) c.args.rows.now (omega arith)) ∙ height_none _ _;
  non_empty = c.requires.non_empty;
  shrinks = omega arith;
}

pub loop-count-preserved : goal.loop-count-preserved
loop-count-preserved c =
    let front : length (take c.loop-count.count c.loop-count.rows) ≡ c.loop-count.count =
    length-take-le c.loop-count.count c.loop-count.rows (omega arith) in
    record {
      replaced = λ j low. ap (in_lane j) (take-append-le c.join_neighbours-count.result c.join_neighbours-count.new.rows _ (omega arith))
          ∙ height_more _ _ _ _ _ (c.loop-count.invariant.replaced j low) (c.join_neighbours-count.ensures.values j low);
      non_empty = omega arith;
      shrinks = omega arith;
    }

pub returns : goal.returns
returns c = λ j low.
    let join = l_tree_join c.args.self.now.seed.now.key (slice_index c.args.self.now.leaves j) in
    let long = length-map c.args.rows.now (λ row. get_or row j []) in
    let left : at_height join (in_lane j c.args.rows.now) c.loop-count.height ≡ get_or (get_or c.loop-count.rows 0 []) j [] ∷ []
    = sym (c.loop-count.invariant.replaced j low) ∙ one_row j c.loop-count.count c.loop-count.rows (omega arith) (omega arith) in
    root_is join _ c.loop-count.height _ (omega arith) left
