use Rattle.std.proofs.Common.{sym, ap, subst, ◌∙◌, ◌≡◌, ◌<◌, ◌-◌, ◌/◌, ◌^◌, ℕ}
use Rattle.merkle.specs.Cache.{block_height}
use Rattle.merkle.proofs.Kept.{index_inside}
use Rattle.merkle.proofs.cache.block_of.Goals as goal

pub returns-clause-is_block : goal.returns-clause-is_block
returns-clause-is_block c =
    let power : c.pow.result ≡ 2 ^ block_height c.args.height = c.pow.ensures ∙ ap (λ n. 2 ^ n) c.from.ensures in
    let P : ℕ → Type 0 = λ p. c.args.q / p < 2 ^ (c.args.height - block_height c.args.height) in
    subst P (sym power) (index_inside c.args.height c.args.q c.requires.is_leaf)
