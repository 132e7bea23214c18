use Rattle.std.proofs.Common.{ℕ, ◌-◌, ◌∙◌, subst, arith}
use Rattle.typecodes.specs.Layout.{Layout, done, ◌>>=◌}
use Rattle.typecodes.specs.Fields.{block, number}
use Rattle.state_file.specs.declared.record.Record.{Record}
use Rattle.state_file.specs.declared.record.Record.TheVariants.{Bound}
use Rattle.state_file.specs.Slot.{bound_fields, name_field, name_most, zeros}
use Rattle.state_file.specs.inner.Fields.{AppendsSpelling}
use Rattle.state_file.proofs.Written.{writes-bind, writes-done}
use Rattle.state_file.proofs.slot.bound.put_bound.Goals as goal

pub returns : goal.returns
unfolding bound_fields
returns c =
    let entry : Record = Bound c.args.bound.now in
    let most = name_most c.args.version in
    let after_leaf : ℕ → Layout Record = λ leaf.
    block 32 >>= λ randomizer. block 32 >>= λ digest. zeros (153 - most) >>= λ rest. done (Bound (record { name = c.args.bound.now.name; leaf = leaf; randomizer = randomizer; digest = digest })) in
    let Named : ℕ → Type 0 = λ n. AppendsSpelling (name_field n) c.args.bound.now.name c.args.out.now.items c.put_name.new.out.items in
    let Rest : ℕ → Type 0 = λ n. AppendsSpelling (zeros (153 - n)) tt c.put_array-2.new.out.items c.put_zeros.new.out.items in
    let name = subst Named c.name_most-most.ensures.value c.put_name.ensures.writes in
    let rest = subst Rest (c.from.ensures ∙ c.name_most-most.ensures.value) c.put_zeros.ensures.writes in record {
      writes =
          writes-bind (name_field most) _ c.args.bound.now.name entry _ _ _ name
          (writes-bind number after_leaf c.args.bound.now.leaf entry _ _ _ c.put_number.ensures.writes
          (writes-bind (block 32) _ c.args.bound.now.randomizer entry _ _ _ c.put_array.ensures.writes
          (writes-bind (block 32) _ c.args.bound.now.digest entry _ _ _ c.put_array-2.ensures.writes
          (writes-bind (zeros (153 - most)) _ tt entry _ _ _ rest
          (writes-done entry _)))));
      len = omega (arith, c.from.ensures);
    }
