use Rattle.std.proofs.Common.{ℕ, [], ◌∷◌, subst, arith}
use Rattle.typecodes.specs.Fields.{block, number, xmss_type}
use Rattle.state_file.specs.declared.record.Secret.{Secret}
use Rattle.state_file.specs.declared.record.Secret.TheVariants.{Xmss}
use Rattle.state_file.specs.Slot.{exactly, xmss_fields, zeros}
use Rattle.state_file.specs.inner.Fields.{AppendsSpelling}
use Rattle.state_file.proofs.Written.{writes-bind, writes-done, writes-xmss_type}
use Rattle.state_file.proofs.slot.secret.put_xmss.Goals as goal

pub returns : goal.returns
unfolding xmss_fields
returns c =
    let secret : Secret = Xmss c.args.secret.now in
    let Coded : ℕ → Type 0 = λ n. AppendsSpelling number n c.put_exactly.new.out.items c.put_number.new.out.items in
    let tree = subst Coded c.code.ensures.value c.put_number.ensures.writes in record {
      writes =
          writes-bind (exactly 1 (1 ∷ [])) _ tt secret _ _ _ c.put_exactly.ensures.writes
          (writes-bind xmss_type _ c.args.secret.now.tree secret _ _ _ (writes-xmss_type c.args.secret.now.tree _ _ tree)
          (writes-bind (zeros 60) _ tt secret _ _ _ c.put_zeros.ensures.writes
          (writes-bind (zeros 16) _ tt secret _ _ _ c.put_zeros-2.ensures.writes
          (writes-bind (block 32) _ c.args.secret.now.secret_seed secret _ _ _ c.put_array.ensures.writes
          (writes-bind (block 32) _ c.args.secret.now.prf_key secret _ _ _ c.put_array-2.ensures.writes
          (writes-bind (block 32) _ c.args.secret.now.public_seed secret _ _ _ c.put_array-3.ensures.writes
          (writes-done secret _)))))));
      len = omega arith;
    }
