use Rattle.std.proofs.Common.{◌∙◌, sym}
use Rattle.command.proofs.LowercaseLines.{other_line, no_line, same_line, lowercase_line}
use Rattle.command.proofs.line_fault.has_lowercase_line.Goals.{else-before-eq10-via-then-before-eq10+else-is_ascii_lowercase, else-before-eq10-via-else-before-eq10}
use Rattle.command.proofs.line_fault.has_lowercase_line.Goals as goal

pub returns-then-is_ascii_lowercase : goal.returns-then-is_ascii_lowercase
returns-then-is_ascii_lowercase c =
    lowercase_line c.args.text.now c.loop-byte.byte-index c.loop-byte.before c.loop-byte-test.true c.if-before-eq10.true
    (sym c.is_ascii_lowercase.ensures.value ∙ c.if-is_ascii_lowercase.true)
    ∙ sym c.loop-byte.invariant

pub loop-byte-preserved : goal.loop-byte-preserved
loop-byte-preserved c =
    elim c.else-before-eq10.branch [
      | else-before-eq10-via-then-before-eq10+else-is_ascii_lowercase w ↦
          c.loop-byte.invariant
          ∙ other_line c.args.text.now c.loop-byte.byte-index c.loop-byte.before c.loop-byte-test.true
          (sym w.is_ascii_lowercase.ensures.value ∙ w.if-is_ascii_lowercase.false)
      | else-before-eq10-via-else-before-eq10 w ↦
          c.loop-byte.invariant
          ∙ same_line c.args.text.now c.loop-byte.byte-index c.loop-byte.before c.loop-byte-test.true w.if-before-eq10.false
    ]

pub returns : goal.returns
returns c =
    sym (c.loop-byte.invariant ∙ no_line c.args.text.now c.loop-byte.byte-index c.loop-byte.before c.loop-byte-test.false)
