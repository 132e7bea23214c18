use Rattle.std.proofs.Common.{◌≡◌, ◌∙◌, set, length-set, rules, lit<, arith, length, IfErr, Result, Ok, Err}
use Rattle.std.proofs.lemmas.Iterator.Consumers.{YieldsList-turn, YieldsList-end}
use Rattle.std.proofs.lemmas.Iterator.Splits.{YieldsList-from_str_split}
use Rattle.std.proofs.lemmas.List.{length_push}
use Rattle.typecodes.proofs.SpecTexts.{parts_of, pairs_more, no_levels, no_more_levels, levels_spelled}
use Rattle.typecodes.proofs.spec.parse_levels.Goals as goal

pub returns-then-count-eq8-clause-err : goal.returns-then-count-eq8-clause-err
returns-then-count-eq8-clause-err c = λ levels are is.
    let turn = YieldsList-turn (YieldsList-from_str_split 44 c.args.text.now (lit< tt) (cc) (cc) (cc)) c.loop-pair.yielded _ c.loop-pair.yielded_by _ _ c.in-Some.pair c.in-Some.is c.next.ensures.steps in
    no_more_levels c.args.text.now (omega arith) levels are is

in_any : {T E P : Type 0} (result : Result T E) → P → IfErr result (λ _. P)
in_any (Ok x) holds = tt
in_any (Err e) holds = holds

pub returns-in_err-pairs-clause-err : goal.returns-in_err-pairs-clause-err
returns-in_err-pairs-clause-err c =
    let turn = YieldsList-turn (YieldsList-from_str_split 44 c.args.text.now (lit< tt) (cc) (cc) (cc)) c.loop-pair.yielded _ c.loop-pair.yielded_by _ _ c.in-Some.pair c.in-Some.is c.next.ensures.steps in
    in_any _ (no_levels c.args.text.now _ c.in-Some.pair.now turn c.in_err-pairs.ensures.err)

pub loop-pair-preserved : goal.loop-pair-preserved
loop-pair-preserved c =
    let turn = YieldsList-turn (YieldsList-from_str_split 44 c.args.text.now (lit< tt) (cc) (cc) (cc)) c.loop-pair.yielded _ c.loop-pair.yielded_by _ _ c.in-Some.pair c.in-Some.is c.next.ensures.steps in
    let eight : length (set c.loop-pair.pairs c.loop-pair.count c.in_ok-pairs.field-0) ≡ 8 = length-set _ _ _ ∙ c.loop-pair.invariant.0 in
    let pushed = length_push c.loop-pair.yielded c.in-Some.pair in
    (eight, omega arith, omega arith, pairs_more _ (parts_of c.args.text.now) _ _ _ c.in-Some.pair.now c.loop-pair.invariant.1 (omega arith) turn c.in_ok-pairs.ensures.ok c.loop-pair.invariant.3)

pub returns-clause-ok : goal.returns-clause-ok
returns-clause-ok c =
    let ended = YieldsList-end (YieldsList-from_str_split 44 c.args.text.now (lit< tt) (cc) (cc) (cc)) c.loop-pair.yielded _ c.loop-pair.yielded_by _ _ c.in-None.is c.next.ensures.steps in
    let same = levels_spelled c.args.text.now _ _ (c.loop-pair.invariant.1 ∙ ended.1) c.loop-pair.invariant.3 in
    search rules
