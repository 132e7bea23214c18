use Rattle.std.proofs.Common.{◌∙◌, ◌<◌, ◌^◌, ap, sym, subst}
use Rattle.key_audit.specs.Signatures.{below_2_64}
use Rattle.key_audit.proofs.NamesLeft.{all_levels, one_level, too_many}
use Rattle.key_audit.proofs.signatures.names_left.Goals as goal

pub returns-in_err-names : goal.returns-in_err-names
returns-in_err-names c =
    c.from_residual.ensures
    ∙ sym (ap below_2_64 c.loop-level.invariant.0
    ∙ too_many c.args.spec.now c.loop-level.names c.tree_leaves_at.result c.args.left.now c.loop-level.level c.loop-level-test.true
    c.tree_leaves_at.ensures (c.in_err-names.ensures))

pub loop-level-preserved : goal.loop-level-preserved
loop-level-preserved c =
    let (low, is) = c.in_ok-names.ensures in (
      c.loop-level.invariant.0
          ∙ one_level c.args.spec.now c.loop-level.names c.tree_leaves_at.result c.in_ok-names.names c.args.left.now c.loop-level.level
          c.loop-level-test.true c.tree_leaves_at.ensures is,
      subst (λ n. n < 2 ^ 64) (sym is) low,
    )

pub returns : goal.returns
returns c =
    sym (ap below_2_64 c.loop-level.invariant.0
    ∙ all_levels c.args.spec.now c.loop-level.names c.args.left.now c.loop-level.level c.loop-level-test.false c.loop-level.invariant.1)
