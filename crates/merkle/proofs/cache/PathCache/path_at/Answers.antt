use Rattle.std.proofs.Common.{arith, sym, ap, subst, ◌∙◌, ◌≡◌, ◌<◌, ◌-◌, ◌+◌, ◌^◌, ◌/◌, length, ℕ}
use Rattle.std.proofs.Math.Nat.{div-eq_of_lt}
use Rattle.merkle.specs.Nodes.{part_nodes}
use Rattle.merkle.specs.Cache.{block_height, block_nodes}
use Rattle.merkle.proofs.Kept.{block_count, whole_path, upper_count}
use Rattle.merkle.proofs.Reading.{read_below}
use Rattle.merkle.proofs.cache.PathCache.path_at.Goals as goal

pub read_path-requires-clause-whole : goal.read_path-requires-clause-whole
read_path-requires-clause-whole g c =
    let height = c.args.self.now.height in
    let same : c.self.inside.height ≡ height = ap (λ v. v.height) c.self.view_is in
    let long : length c.split_at_mut-lower.result.0.now ≡ block_height height
    = c.split_at_mut-lower.ensures.front_len ∙ c.from.ensures ∙ ap block_height same in
    block_count _ _ height c.block_of-index.result c.deref.result.now
    (c.deref.ensures.value ∙ ap (λ v. v.block) c.self-2.view_is ∙ c.make_block.ensures.nodes.block_kept)
    ∙ ap (λ n. 2 ^ (n + 1)) (sym long)

pub read_path-requires-2-clause-whole : goal.read_path-requires-2-clause-whole
read_path-requires-2-clause-whole g c =
    let height = c.args.self.now.height in
    let same : c.self.inside.height ≡ height = ap (λ v. v.height) c.self.view_is in
    let below : c.from.result ≡ block_height height = c.from.ensures ∙ ap block_height same in
    let long : length c.split_at_mut-lower.result.1.now ≡ height - block_height height = omega arith in
    upper_count _ _ height c.deref-2.result.now
    (c.deref-2.ensures.value ∙ ap (λ v. v.upper) c.self-2.view_is ∙ c.make_block.ensures.nodes.upper_kept)
    ∙ ap (λ n. 2 ^ (n + 1)) (sym long)

pub returns-clause-value : goal.returns-clause-value
returns-clause-value g c =
    let leaf = g.T.TreeHash.leaf_of c.args.self.now.tree in
    let join = g.T.NodeHash.join_of c.args.self.now.tree in
    let height = c.args.self.now.height in
    let b = block_height height in
    let index = c.block_of-index.result in
    let same : c.self.inside.height ≡ height = ap (λ v. v.height) c.self.view_is in
    let below : c.from.result ≡ b = c.from.ensures ∙ ap block_height same in
    let at : index ≡ c.args.q / 2 ^ b
    = c.block_of-index.ensures.index ∙ ap (λ h. c.args.q / 2 ^ block_height h) same in
    let P : ℕ → Type 0 = λ h. index < 2 ^ (h - block_height h) in
    let first : index / 2 ^ (height - b) ≡ 0 = div-eq_of_lt (subst P same c.block_of-index.ensures.is_block) in
    let lower_long : length c.split_at_mut-lower.result.0.now ≡ b = omega arith in
    let upper_long : length c.split_at_mut-lower.result.1.now ≡ height - b = omega arith in
    whole_path leaf join height c.args.q index c.read_path.new.into c.read_path-2.new.into
    (read_below leaf join 0 _ b c.args.q c.deref.result.now c.read_path.new.into lower_long
    (c.read_path.ensures leaf join 0)
    (c.deref.ensures.value ∙ ap (λ v. v.block) c.self-2.view_is ∙ c.make_block.ensures.nodes.block_kept
    ∙ ap (block_nodes leaf join height) at))
    (read_below leaf join b _ (height - b) index c.deref-2.result.now c.read_path-2.new.into upper_long
    (c.read_path-2.ensures leaf join b)
    (c.deref-2.ensures.value ∙ ap (λ v. v.upper) c.self-2.view_is ∙ c.make_block.ensures.nodes.upper_kept
    ∙ ap (part_nodes leaf join b (height - b)) (sym first)))
    at
