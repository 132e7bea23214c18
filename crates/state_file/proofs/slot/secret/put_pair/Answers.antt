use Rattle.std.proofs.Common.{ℕ, List, subst, arith}
use Rattle.typecodes.specs.Fields.{lms_type, number, ots_type}
use Rattle.state_file.specs.Slot.{pair_field}
use Rattle.state_file.specs.inner.Fields.{AppendsSpelling}
use Rattle.state_file.proofs.Written.{writes-bind, writes-done, writes-lms_type, writes-ots_type}
use Rattle.state_file.proofs.slot.secret.put_pair.Goals as goal

pub returns : goal.returns
unfolding pair_field
returns c =
    let pair = c.args.pair in
    let Coded : List ℕ → List ℕ → ℕ → Type 0 = λ old new n. AppendsSpelling number n old new in
    let tree = subst (Coded c.args.out.now.items c.put_number.new.out.items) c.code.ensures.value c.put_number.ensures.writes in
    let ots = subst (Coded c.put_number.new.out.items c.put_number-2.new.out.items) c.code-2.ensures.value c.put_number-2.ensures.writes in record {
      writes =
          writes-bind lms_type _ pair.tree pair _ _ _ (writes-lms_type pair.tree _ _ tree)
          (writes-bind ots_type _ pair.ots pair _ _ _ (writes-ots_type pair.ots _ _ ots)
          (writes-done pair _));
      len = omega arith;
    }
