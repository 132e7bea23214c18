use Rattle.std.proofs.Common.{◌≡◌, ◌+◌, ◌-◌, ◌++◌, Ok, Err, arith, ap, sym, ◌∙◌, rules, take, length-set}
use Rattle.std.proofs.lemmas.List.{take_more_set}
use Rattle.typecodes.specs.Cursor.{and_then, read}
use Rattle.state_file.specs.Slot.{pair_field, pairs}
use Rattle.state_file.proofs.Pairs.{gives-fault, pairs-all_of, pairs-fault_of, pairs-next_of}
use Rattle.state_file.proofs.slot.secret.read_pairs.Goals as goal

pub returns-in_err-all-clause-read : goal.returns-in_err-all-clause-read
returns-in_err-all-clause-read c =
    let h = c.loop-i.invariant in
    let fault = ap (λ b. read pair_field b.now c.loop-i.cursor.place) (sym h.bytes) ∙ c.in_err-all.ensures.read in
    let answer : c.from_residual.result ≡ Err c.in_err-all.field-0.0 = search rules in
    gives-fault _ _ _ _ answer (h.found ∙ pairs-fault_of c.args.count c.loop-i.i _ _ (take c.loop-i.i c.loop-i.all) _ (omega (arith, c.from-i-end.ensures, c.loop-i-test.true)) fault)

pub loop-i-preserved : goal.loop-i-preserved
loop-i-preserved c =
    let h = c.loop-i.invariant in
    let pair = c.in_ok-all.field-0 in
    let found = ap (λ b. read pair_field b.now c.loop-i.cursor.place) (sym h.bytes) ∙ c.in_ok-all.ensures.read in record {
      place = omega (arith, c.in_ok-all.ensures.passes.len, h.place);
      bytes = c.read_pair.ensures.passes.bytes ∙ h.bytes;
      size = length-set c.loop-i.all c.loop-i.i pair ∙ h.size;
      found = h.found
          ∙ pairs-next_of c.args.count c.loop-i.i _ _ _ (take c.loop-i.i c.loop-i.all) pair (omega (arith, c.from-i-end.ensures, c.loop-i-test.true)) found
          ∙ ap (λ before. and_then (read (pairs (c.args.count - (c.loop-i.i + 1))) c.args.cursor.now.bytes.now c.read_pair.new.cursor.place) (λ rest. Ok (before ++ rest.0, rest.1)))
          (sym (take_more_set c.loop-i.all c.loop-i.i pair (omega (arith, h.size, c.requires.at_most_8, c.from-i-end.ensures, c.loop-i-test.true))));
    }

pub returns-clause-read : goal.returns-clause-read
returns-clause-read c =
    let h = c.loop-i.invariant in
    let all : c.loop-i.i ≡ c.args.count = omega (arith, c.from-i-end.ensures, c.loop-i-test.false, c.loop-i.auto.i-end) in
    h.found ∙ pairs-all_of c.args.count c.loop-i.i _ _ (take c.loop-i.i c.loop-i.all) (omega arith)
    ∙ ap (λ i. Ok (take i c.loop-i.all, c.loop-i.cursor.place)) all
