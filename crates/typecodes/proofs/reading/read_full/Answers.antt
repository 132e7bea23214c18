use Rattle.std.proofs.Common.{◌≡◌, ◌∙◌, ◌+◌, ◌-◌, ◌++◌, rules, arith, length, take, sym, ap, subst, le_refl, Err}
use Rattle.std.proofs.lemmas.Slice.{take-put_mid_below}
use Rattle.std.specs.Io.KnownBytes.{Consumes}
use Rattle.std.proofs.KnownBytes.{Consumes-trans}
use borrow.Rule.Slice.PartMut.{put_mid}
use Rattle.typecodes.proofs.Written.{slice_range-put_mid, take_split}
use Rattle.typecodes.proofs.Messages.{gives-more}
use Rattle.typecodes.proofs.Filling.{asking-ends, asking-fails, asking-more, filling-ends, filling-fails}
use Rattle.typecodes.proofs.reading.read_full.Goals as goal

pub returns-in_err-n-clause-reads : goal.returns-in_err-n-clause-reads
returns-in_err-n-clause-reads g c =
    let answer : c.from_residual.result ≡ Err c.in_err-n.field-0.0 = search rules in
    rw answer (filling-fails c.loop-at.at c.loop-at.buffer _ _ _ _ (take-put_mid_below _ _ _ _ _ (le_refl _) c.loop-at.invariant.within) (search rules)
    g.M.Message.transition g.M.Message.remaining c.in_err-n.field-0.0 (search rules) c.loop-at.invariant.bytes c.loop-at.invariant.gives
    c.in_err-n.ensures.transition c.in_err-n.ensures.bytes)

pub returns-in_err-n-clause-requests : goal.returns-in_err-n-clause-requests
returns-in_err-n-clause-requests g c =
    let answer : c.from_residual.result ≡ Err c.in_err-n.field-0.0 = search rules in
    rw answer (asking-fails c.loop-at.at c.loop-at.buffer _ _ _ _ (take-put_mid_below _ _ _ _ _ (le_refl _) c.loop-at.invariant.within) (search rules)
    g.M.Message.request c.in_err-n.field-0.0 (search rules) c.loop-at.invariant.asks (search rules))

pub returns-then-n-eq0-clause-reads : goal.returns-then-n-eq0-clause-reads
returns-then-n-eq0-clause-reads g c =
    filling-ends c.loop-at.at c.loop-at.buffer _ _ _ _ (take-put_mid_below _ _ _ _ _ (le_refl _) c.loop-at.invariant.within) (search rules)
    g.M.Message.transition g.M.Message.remaining (take c.in_ok-n.n c.read_into.new.buffer) (search rules) (ap (λ n. take n c.read_into.new.buffer) c.if-n-eq0.true)
    c.loop-at.invariant.bytes c.loop-at.invariant.gives c.in_ok-n.ensures.transition c.in_ok-n.ensures.bytes.0
    (c.in_ok-n.ensures.bytes.1 c.if-n-eq0.true (search rules))

pub returns-then-n-eq0-clause-requests : goal.returns-then-n-eq0-clause-requests
returns-then-n-eq0-clause-requests g c =
    asking-ends c.loop-at.at c.loop-at.buffer _ _ _ _ (take-put_mid_below _ _ _ _ _ (le_refl _) c.loop-at.invariant.within) (search rules)
    g.M.Message.request (take c.in_ok-n.n c.read_into.new.buffer) (search rules) (ap (λ n. take n c.read_into.new.buffer) c.if-n-eq0.true)
    c.loop-at.invariant.asks (search rules)

pub loop-at-preserved : goal.loop-at-preserved
loop-at-preserved g c =
    let from = c.loop-at.at in
    let room = length c.loop-at.buffer - from in
    let within = c.loop-at.invariant.within in
    let front : take from (put_mid from room c.loop-at.buffer c.read_into.new.buffer) ≡ take from c.loop-at.buffer =
    take-put_mid_below _ _ _ _ _ (le_refl _) within in
    let part = slice_range-put_mid from room c.in_ok-n.n c.loop-at.buffer c.read_into.new.buffer within c.in_ok-n.ensures.bound.0 in
    let whole = ap (λ l. take from c.loop-at.buffer ++ l) (sym part)
    ∙ take_split from (from + c.in_ok-n.n) c.loop-at.buffer (put_mid from room c.loop-at.buffer c.read_into.new.buffer) (omega arith) front in
    record {
      size = search rules;
      within = search rules;
      bytes = subst (Consumes _ _) whole (Consumes-trans _ _ _ _ _ c.loop-at.invariant.bytes c.in_ok-n.ensures.bytes.0);
      gives = gives-more _ _ _ _ _ _ _ c.loop-at.invariant.gives c.in_ok-n.ensures.transition whole (search rules);
      asks = asking-more from c.loop-at.buffer _ _ _ _ front (search rules) g.M.Message.request c.in_ok-n.n c.read_into.new.buffer (search rules) (search rules) (search rules)
          whole c.loop-at.invariant.asks (search rules);
    }
