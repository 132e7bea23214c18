use Rattle.std.proofs.Common.{◌∙◌, sym, rules, arith, ap₂, ◌+◌, ◌*◌, ◌≤◌}
use Rattle.command.proofs.Numbers.{all_digits, no_digit, one_digit, some_text, too_great}
use Rattle.command.proofs.number.read_number.Goals as goal

pub returns-then-not-is_ascii_digit : goal.returns-then-not-is_ascii_digit
returns-then-not-is_ascii_digit c =
    sym (some_text c.args.most c.args.text.now (λ none. omega (arith, none, c.loop-byte-test.true)) ∙ c.loop-byte.invariant.0
    ∙ no_digit c.args.most c.loop-byte.number c.args.text.now c.loop-byte.byte-index c.loop-byte-test.true
    (sym c.is_ascii_digit.ensures.value ∙ c.if-not-is_ascii_digit.true))

pub returns-then-longer-from : goal.returns-then-longer-from
returns-then-longer-from c =
    sym (some_text c.args.most c.args.text.now (λ none. omega (arith, none, c.loop-byte-test.true)) ∙ c.loop-byte.invariant.0
    ∙ too_great c.args.most c.loop-byte.number (c.from.result * 10 + c.from-in-loop-byte.result) c.args.text.now c.loop-byte.byte-index
    c.loop-byte-test.true (sym c.is_ascii_digit.ensures.value ∙ c.if-not-is_ascii_digit.false)
    (ap₂ (λ a b. a * 10 + b) c.from.ensures c.from-in-loop-byte.ensures)
    (omega (arith, c.if-longer-from.true, c.from-in-loop-byte-2.ensures)))

pub loop-byte-preserved : goal.loop-byte-preserved
loop-byte-preserved c =
    let below : c.from.result * 10 + c.from-in-loop-byte.result ≤ c.args.most = omega (arith, c.if-longer-from.false, c.from-in-loop-byte-2.ensures) in (
      c.loop-byte.invariant.0
          ∙ one_digit c.args.most c.loop-byte.number (c.from.result * 10 + c.from-in-loop-byte.result) c.args.text.now c.loop-byte.byte-index
          c.loop-byte-test.true (sym c.is_ascii_digit.ensures.value ∙ c.if-not-is_ascii_digit.false)
          (ap₂ (λ a b. a * 10 + b) c.from.ensures c.from-in-loop-byte.ensures) below,
      below,
    )

pub returns : goal.returns
returns c =
    sym (some_text c.args.most c.args.text.now (λ none. search (rules, none)) ∙ c.loop-byte.invariant.0
    ∙ all_digits c.args.most c.loop-byte.number c.args.text.now c.loop-byte.byte-index c.loop-byte-test.false)
