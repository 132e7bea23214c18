use Rattle.std.proofs.Common.{◌≡◌, ◌∙◌, sym, [], ◌∷◌, get_or, length, take, arith}
use Rattle.std.proofs.lemmas.List.{length-take-le, take_all, take-append-le}
use Rattle.wots_plus.specs.LTree.{at_height, l_tree_join}
use Rattle.wots_plus.proofs.LTree.{height_more, height_none, one_left, one_root, root_is}
use Rattle.wots_plus.proofs.key.Wots.l_tree_by.Goals as goal

pub loop-count-init : goal.loop-count-init
loop-count-init g c = record {
  replaced = take_all (length c.args.values.now) c.args.values.now (omega arith) ∙ height_none _ _;
  non_empty = c.requires.non_empty;
  shrinks = omega arith;
}

pub loop-count-preserved : goal.loop-count-preserved
loop-count-preserved g c =
    let front : length (take c.loop-count.count c.loop-count.values) ≡ c.loop-count.count =
    length-take-le c.loop-count.count c.loop-count.values (omega arith) in
    record {
      replaced = take-append-le c.join_neighbours-count.result c.join_neighbours-count.new.values _ (omega arith)
          ∙ height_more _ _ _ _ _ c.loop-count.invariant.replaced c.join_neighbours-count.ensures.values;
      non_empty = omega arith;
      shrinks = omega arith;
    }

pub returns : goal.returns
returns g c =
    let left : at_height (l_tree_join c.args.self.now.seed.now.key c.args.self.now.leaf) c.args.values.now c.loop-count.height ≡ get_or c.loop-count.values 0 [] ∷ []
    = sym c.loop-count.invariant.replaced ∙ one_left c.loop-count.count c.loop-count.values (omega arith) (omega arith) in
    record {
      value = root_is _ _ _ _ (omega arith) left;
      root = (c.loop-count.height, left);
      only = λ root is. one_root _ _ _ root (c.loop-count.height, left) is;
    }
