use Rattle.std.proofs.Common.{ℕ, subst, arith}
use Rattle.typecodes.specs.Fields.{block}
use Rattle.state_file.specs.declared.record.Record.{Record}
use Rattle.state_file.specs.declared.record.Record.TheVariants.{Key}
use Rattle.state_file.specs.Slot.{byte, exactly, key_fields, magic, secret_fields, version_field, zeros}
use Rattle.state_file.specs.inner.Slot.{scheme_of}
use Rattle.state_file.specs.inner.Fields.{AppendsSpelling}
use Rattle.state_file.proofs.Written.{writes-bind, writes-done}
use Rattle.state_file.proofs.slot.key.put_key.Goals as goal

pub returns : goal.returns
unfolding key_fields
returns c =
    let entry : Record = Key c.args.key.now in
    let Coded : ℕ → Type 0 = λ n. AppendsSpelling byte n c.put_version.new.out.items c.put_byte.new.out.items in
    let scheme = subst Coded c.scheme.ensures c.put_byte.ensures.writes in record {
      writes =
          writes-bind (exactly 8 magic) _ tt entry _ _ _ c.put_exactly.ensures.writes
          (writes-bind (version_field c.args.key.now.version) _ tt entry _ _ _ c.put_version.ensures.writes
          (writes-bind byte _ (scheme_of c.args.key.now.secret) entry _ _ _ scheme
          (writes-bind (secret_fields (scheme_of c.args.key.now.secret)) _ c.args.key.now.secret entry _ _ _ c.put_secret.ensures.writes
          (writes-bind (block 32) _ c.args.key.now.root entry _ _ _ c.put_array.ensures.writes
          (writes-bind (zeros 2) _ tt entry _ _ _ c.put_zeros.ensures.writes
          (writes-done entry _))))));
      len = omega arith;
    }
