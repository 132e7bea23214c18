use Rattle.std.proofs.Common.{◌∙◌, ◌+◌, ap, arith, take_all}
use Rattle.key_audit.specs.Listing.{names_among}
use Rattle.key_audit.proofs.Listed.{names_more}
use Rattle.key_audit.proofs.listing.count_names.Goals as goal

pub loop-entry-preserved : goal.loop-entry-preserved
loop-entry-preserved c =
    let e = c.entry-item.result in
    let i = c.loop-entry.entry-index in (
      ap (λ n. c.loop-entry.names + n) c.name_count-names.ensures.value
          ∙ names_more c.args.entries.now i e c.loop-entry.names (omega (arith, c.loop-entry-test.true)) c.entry-item.is c.loop-entry.invariant.0,
      omega (arith, c.loop-entry.invariant.1, c.name_count-names.ensures.at_most_1),
    )

pub returns : goal.returns
returns c =
    c.loop-entry.invariant.0 ∙ ap names_among (take_all c.loop-entry.entry-index c.args.entries.now (omega (arith, c.loop-entry-test.false)))
