use Rattle.std.proofs.Common.{rules, ◌≡◌, ◌∙◌, ◌≤◌, ℕ, ◌-◌, List, Some, Ok, Err, refl, sym, ap, subst, arith, true≢false}
use Rattle.std.specs.Prelude.{length, vec_capacity}
use Rattle.std.proofs.lemmas.List.{take_at}
use Rattle.state_file.specs.Laws.{bottom_of}
use Rattle.state_file.specs.declared.record.Key.{Key}
use Rattle.state_file.specs.declared.record.Record.{Record}
use Rattle.sign_core.specs.declared.fault.SignFault.TheVariants.{Changed}
use Rattle.sign_core.specs.declared.ledger.Binding.{Binding}
use Rattle.sign_core.specs.Caches.{Cached, HasCaches, KeepsOrRenews, LacksCache, LosesCache}
use Rattle.sign_core.specs.Records.{the_key, types_of}
use Rattle.sign_core.specs.Signer.{is_before_repeat, is_fault, is_out_of_memory, signature_size, state_of}
use Rattle.sign_core.specs.inner.KeyTrees.{IsTreeAt, MakesTrees}
use Rattle.sign_core.specs.Signing.{IsPrepared, UnderKey, is_unprepared}
use Rattle.sign_core.specs.inner.Signing.{IsBindingOf, Repeats}
use Rattle.sign_core.specs.Textbook.{damaged_at}
use Rattle.sign_core.proofs.calls.Capacities.{capacity_grows, capacity_stays}
use Rattle.sign_core.proofs.chains.BindingChains.{same_key}
use Rattle.sign_core.proofs.records.Heights.{types_are}
use Rattle.sign_core.proofs.chains.KeptCaches.{bound_stands, made_bound, refused_bound}
use Rattle.sign_core.proofs.ledgers.Reading.{key_levels}
use Rattle.sign_core.proofs.calls.RepeatEnds.{changed, damaged, fault_of, found_chain, found_digest, found_kept, found_signature, is_found, lacks_cache, lacks_room, linked_ok, given_back, same_size, signed, unread}
use Rattle.sign_core.proofs.chains.LostCaches.{leaves_as_they_were, leaves_bound, leaves_other}
use Rattle.sign_core.proofs.chains.RenewedCaches.{keeps_or_renews, keeps_same_caches}
use Rattle.sign_core.proofs.signer.Signer.repeat.Goals as goal

pub overflow_sub-bottom : goal.overflow_sub-bottom
overflow_sub-bottom g c =
    let some = (key_levels c.self.inside.ledger.records c.key.result.now c.key.ensures.sizes c.key.ensures.first).0 in
    omega (arith, some, c.levels-bottom.ensures)

pub digest-requires : goal.digest-requires
digest-requires g c = subst (λ (k : Key). MakesTrees k.secret c.of-trees.result) c.key.ensures.key c.of-trees.ensures

pub returns-in_err-digest-clause-step : goal.returns-in_err-digest-clause-step
returns-in_err-digest-clause-step g c key keyed name kept =
    let v = c.args.self.now in
    let L = c.self.inside.ledger in
    let b = c.args.binding.now in
    let records = ap (λ w. w.records) c.self.view_is in
    let found = is_found key v.records name b kept in
    let own_is = same_key v.records c.key.result.now key (ap (λ w. the_key w.records) (sym c.self.view_is) ∙ c.key.ensures.first) keyed in
    let own = sym c.key.ensures.key ∙ own_is in
    let at = ap (λ (k : Binding). k.tree) (found_kept L.key key L.records v.records name b found own records) in
    let answer : c.from_residual.result ≡ Err c.in_err-digest.field-0.0 = search rules in
    subst (λ y. Repeats g.M.Message (state_of v) v.cached c.args.message.now c.digest.new.message (vec_capacity c.args.out.now) y key name)
    (given_back c.from_residual.result _ _ (answer ∙ ap Err c.in_err-digest.ensures.fault))
    (unread g.M.Message v c.args.message.now c.digest.new.message (vec_capacity c.args.out.now) key name b found (c.in_err-digest.ensures.digest found.place at))

pub returns-in_err-digest-clause-capacity : goal.returns-in_err-digest-clause-capacity
returns-in_err-digest-clause-capacity g c = capacity_stays _ _

pub returns-then-ne-clause-step : goal.returns-then-ne-clause-step
returns-then-ne-clause-step g c key keyed name kept =
    let v = c.args.self.now in
    let L = c.self.inside.ledger in
    let b = c.args.binding.now in
    let records = ap (λ w. w.records) c.self.view_is in
    let found = is_found key v.records name b kept in
    let own_is = same_key v.records c.key.result.now key (ap (λ w. the_key w.records) (sym c.self.view_is) ∙ c.key.ensures.first) keyed in
    let own = sym c.key.ensures.key ∙ own_is in
    let at = ap (λ (k : Binding). k.tree) (found_kept L.key key L.records v.records name b found own records) in
    let (text, whole, is) = c.in_ok-digest.ensures.digest found.place at in
    let digest = found_digest L.key key L.records v.records name b found own records text c.in_ok-digest.digest is in
    changed g.M.Message v c.args.message.now c.digest.new.message (vec_capacity c.args.out.now) key name b found text c.in_ok-digest.digest whole digest
    (sym c.ne.ensures ∙ c.if-ne.true)

pub returns-then-ne-clause-capacity : goal.returns-then-ne-clause-capacity
returns-then-ne-clause-capacity g c = capacity_stays _ _

pub returns-in_err-make_room-clause-step : goal.returns-in_err-make_room-clause-step
returns-in_err-make_room-clause-step g c key keyed name kept =
    let v = c.args.self.now in
    let L = c.self.inside.ledger in
    let b = c.args.binding.now in
    let records = ap (λ w. w.records) c.self.view_is in
    let found = is_found key v.records name b kept in
    let own_is = same_key v.records c.key.result.now key (ap (λ w. the_key w.records) (sym c.self.view_is) ∙ c.key.ensures.first) keyed in
    let own = sym c.key.ensures.key ∙ own_is in
    let at = ap (λ (k : Binding). k.tree) (found_kept L.key key L.records v.records name b found own records) in
    let (text, whole, is) = c.in_ok-digest.ensures.digest found.place at in
    let digest = found_digest L.key key L.records v.records name b found own records text c.in_ok-digest.digest is in
    let answer : c.from_residual-in_err-make_room.result ≡ Err c.in_err-make_room.field-0.0 = search rules in
    subst (λ y. Repeats g.M.Message (state_of v) v.cached c.args.message.now c.digest.new.message (vec_capacity c.args.out.now) y key name)
    (given_back c.from_residual-in_err-make_room.result _ _ (answer ∙ ap Err c.in_err-make_room.ensures.refused))
    (lacks_room g.M.Message v c.args.message.now c.digest.new.message (vec_capacity c.args.out.now) key name b found text c.in_ok-digest.digest whole digest
    (sym c.ne.ensures ∙ c.if-ne.false) (same_size c.key.result.now key _ own_is c.in_err-make_room.ensures.full))

pub returns-in_err-make_room-clause-capacity : goal.returns-in_err-make_room-clause-capacity
returns-in_err-make_room-clause-capacity g c =
    capacity_grows _ c.key.result.now _ _ (ap (λ w. the_key w.records) (sym c.self.view_is) ∙ c.key.ensures.first)
    c.make_room.ensures.capacity c.make_room.ensures.most

pub keep_trees-requires-clause-trees : goal.keep_trees-requires-clause-trees
keep_trees-requires-clause-trees g c = subst (λ (k : Key). MakesTrees k.secret c.of-trees.result) c.key.ensures.key c.of-trees.ensures

pub keep_trees-requires-clause-within_limit : goal.keep_trees-requires-clause-within_limit
keep_trees-requires-clause-within_limit g c =
    let (some, within_limit) = key_levels c.self.inside.ledger.records c.key.result.now c.key.ensures.sizes c.key.ensures.first in
    omega (arith, some, within_limit, c.levels-bottom.ensures)

pub returns-in_err-keep_trees-clause-step : goal.returns-in_err-keep_trees-clause-step
returns-in_err-keep_trees-clause-step g c key keyed name kept =
    let v = c.args.self.now in
    let L = c.self.inside.ledger in
    let b = c.args.binding.now in
    let records = ap (λ w. w.records) c.self.view_is in
    let found = is_found key v.records name b kept in
    let own_is = same_key v.records c.key.result.now key (ap (λ w. the_key w.records) (sym c.self.view_is) ∙ c.key.ensures.first) keyed in
    let own = sym c.key.ensures.key ∙ own_is in
    let at = ap (λ (k : Binding). k.tree) (found_kept L.key key L.records v.records name b found own records) in
    let (text, whole, is) = c.in_ok-digest.ensures.digest found.place at in
    let digest = found_digest L.key key L.records v.records name b found own records text c.in_ok-digest.digest is in
    let bottom : c.levels-bottom.result - 1 ≡ bottom_of key.secret =
    ap (λ n. n - 1) c.levels-bottom.ensures ∙ ap (λ (k : Key). bottom_of k.secret) own_is in
    let lacking : LacksCache key v.records (Some (bottom_of key.secret)) b.place v.cached =
    subst (λ (x : Key × List Record × ℕ × Cached). LacksCache x.0 x.1 (Some x.2) b.place x.3)
    (λ i. (own i, records i, bottom i, ap (λ w. w.cached) c.self.view_is i))
    c.in_err-keep_trees.ensures.lacking in
    let answer : c.from_residual-in_err-keep_trees.result ≡ Err c.in_err-keep_trees.field-0.0 = search rules in
    subst (λ y. Repeats g.M.Message (state_of v) v.cached c.args.message.now c.digest.new.message (vec_capacity c.args.out.now) y key name)
    (given_back c.from_residual-in_err-keep_trees.result _ _ (answer ∙ ap Err c.in_err-keep_trees.ensures.fault))
    (lacks_cache g.M.Message v c.args.message.now c.digest.new.message (vec_capacity c.args.out.now) key name b found text c.in_ok-digest.digest whole digest
    (sym c.ne.ensures ∙ c.if-ne.false) lacking)

pub returns-in_err-keep_trees-clause-capacity : goal.returns-in_err-keep_trees-clause-capacity
returns-in_err-keep_trees-clause-capacity g c =
    capacity_grows _ c.key.result.now _ _ (ap (λ w. the_key w.records) (sym c.self.view_is) ∙ c.key.ensures.first)
    c.make_room.ensures.capacity c.make_room.ensures.most

pub keep_trees-requires-clause-types : goal.keep_trees-requires-clause-types
keep_trees-requires-clause-types g c =
    let keyed = ap (λ w. the_key w.records) (sym c.self.view_is) ∙ c.key.ensures.first in
    types_are (the_key c.args.self.now.records) c.key.result.now c.args.progress.now.spec c.requires.types keyed
    ∙ ap (λ (k : Key). types_of k.secret) c.key.ensures.key

pub write_bound-requires-clause-types : goal.write_bound-requires-clause-types
write_bound-requires-clause-types g c =
    let keyed = ap (λ w. the_key w.records) (sym c.self.view_is) ∙ c.key.ensures.first in
    types_are (the_key c.args.self.now.records) c.key.result.now c.args.progress.now.spec c.requires.types keyed
    ∙ ap (λ (k : Key). types_of k.secret) c.key.ensures.key

pub write_bound-requires-clause-trees : goal.write_bound-requires-clause-trees
write_bound-requires-clause-trees g c = subst (λ (k : Key). MakesTrees k.secret c.of-trees.result) c.key.ensures.key c.of-trees.ensures

pub write_bound-requires-clause-room : goal.write_bound-requires-clause-room
write_bound-requires-clause-room g c = let same = ap (λ (k : Key). signature_size k.secret) c.key.ensures.key in search (rules, same)

pub write_bound-requires-clause-kept : goal.write_bound-requires-clause-kept
write_bound-requires-clause-kept g c =
    subst (λ w. UnderKey w.records (λ key. (name : List ℕ) × IsBindingOf w.records c.args.binding.now key name)) (sym c.self.view_is) c.requires.kept

pub returns-in_err-map_err-clause-step : goal.returns-in_err-map_err-clause-step
returns-in_err-map_err-clause-step g c key keyed name kept =
    let v = c.args.self.now in
    let L = c.self.inside.ledger in
    let b = c.args.binding.now in
    let records = ap (λ w. w.records) c.self.view_is in
    let found = is_found key v.records name b kept in
    let own_is = same_key v.records c.key.result.now key (ap (λ w. the_key w.records) (sym c.self.view_is) ∙ c.key.ensures.first) keyed in
    let own = sym c.key.ensures.key ∙ own_is in
    let at = ap (λ (k : Binding). k.tree) (found_kept L.key key L.records v.records name b found own records) in
    let (text, whole, is) = c.in_ok-digest.ensures.digest found.place at in
    let digest = found_digest L.key key L.records v.records name b found own records text c.in_ok-digest.digest is in
    let answer : c.from_residual-in_err-map_err.result ≡ Err c.in_err-map_err.field-0.0 = search rules in
    let (slot, of_place, chain) = fault_of c.write_bound.result c.map_err.result c.in_err-map_err.field-0.0
    (λ k. damaged_at L.key (bottom_of L.key.secret) L.records b.tree ≡ Some k) c.map_err.ensures.cases c.in_err-map_err.was c.write_bound.ensures.damaged in
    subst (λ y. Repeats g.M.Message (state_of v) v.cached c.args.message.now c.digest.new.message (vec_capacity c.args.out.now) y key name)
    (given_back c.from_residual-in_err-map_err.result _ _ (answer ∙ ap Err of_place))
    (damaged g.M.Message v c.args.message.now c.digest.new.message (vec_capacity c.args.out.now) key name b found text c.in_ok-digest.digest slot whole digest
    (sym c.ne.ensures ∙ c.if-ne.false) (sym (found_chain L.key key L.records v.records name b found own records) ∙ chain))

pub returns-in_err-map_err-clause-capacity : goal.returns-in_err-map_err-clause-capacity
returns-in_err-map_err-clause-capacity g c =
    capacity_grows _ c.key.result.now _ _ (ap (λ w. the_key w.records) (sym c.self.view_is) ∙ c.key.ensures.first)
    c.make_room.ensures.capacity c.make_room.ensures.most

pub returns-clause-step : goal.returns-clause-step
returns-clause-step g c key keyed name kept =
    let v = c.args.self.now in
    let L = c.self.inside.ledger in
    let b = c.args.binding.now in
    let records = ap (λ w. w.records) c.self.view_is in
    let found = is_found key v.records name b kept in
    let own_is = same_key v.records c.key.result.now key (ap (λ w. the_key w.records) (sym c.self.view_is) ∙ c.key.ensures.first) keyed in
    let own = sym c.key.ensures.key ∙ own_is in
    let at = ap (λ (k : Binding). k.tree) (found_kept L.key key L.records v.records name b found own records) in
    let (text, whole, is) = c.in_ok-digest.ensures.digest found.place at in
    let digest = found_digest L.key key L.records v.records name b found own records text c.in_ok-digest.digest is in
    let fits : length c.write_bound.new.out ≡ c.make_room.new.out.len = search rules in
    let sound = linked_ok c.write_bound.result c.map_err.result _ _ c.map_err.ensures.cases c.in_ok-map_err.was c.write_bound.ensures.sound in
    let made = linked_ok c.write_bound.result c.map_err.result _ _ c.map_err.ensures.cases c.in_ok-map_err.was c.write_bound.ensures.signature found.place found.bound
    (found_kept L.key key L.records v.records name b found own records) in
    signed g.M.Message v c.args.message.now c.digest.new.message (vec_capacity c.args.out.now) key name b found text c.in_ok-digest.digest _ whole digest
    (sym c.ne.ensures ∙ c.if-ne.false) (sym (found_chain L.key key L.records v.records name b found own records) ∙ sound)
    (take_at c.write_bound.new.out _ c.make_room.new.out.len fits ∙ made ∙ found_signature L.key key L.records v.records name b found own records)

pub returns-clause-capacity : goal.returns-clause-capacity
returns-clause-capacity g c =
    capacity_grows _ c.key.result.now _ _ (ap (λ w. the_key w.records) (sym c.self.view_is) ∙ c.key.ensures.first)
    c.make_room.ensures.capacity c.make_room.ensures.most

-- ---- the caches that it makes

pub keep_trees-requires-clause-keyed : goal.keep_trees-requires-clause-keyed
keep_trees-requires-clause-keyed g c = c.key.ensures.first ∙ ap Some c.key.ensures.key

pub keep_trees-requires-clause-stands : goal.keep_trees-requires-clause-stands
keep_trees-requires-clause-stands g c =
    let K = c.key.result.now in
    let L = c.self.inside.ledger.records in
    let keyed : the_key c.args.self.now.records ≡ Some K = ap (λ w. the_key w.records) (sym c.self.view_is) ∙ c.key.ensures.first in
    let (name, kept) = c.requires.kept K keyed in
    subst (λ n. IsTreeAt L n c.args.binding.now.tree) (ap (λ n. n - 1) (sym c.levels-bottom.ensures))
    (bound_stands K c.of-trees.result L name c.args.binding.now c.of-trees.ensures c.key.ensures.legal c.key.ensures.first
    (subst (λ w. IsBindingOf w.records c.args.binding.now K name) (sym c.self.view_is) kept))

pub returns-in_err-digest-clause-caches : goal.returns-in_err-digest-clause-caches
returns-in_err-digest-clause-caches g c key keyed name kept =
    let v = c.args.self.now in
    let b = c.args.binding.now in
    let answer : c.from_residual.result ≡ Err c.in_err-digest.field-0.0 = search rules in
    refused_bound key v.records name b _ _ c.from_residual.result c.in_err-digest.field-0.0 (is_found key v.records name b kept) answer
    (ap (is_unprepared is_before_repeat) c.in_err-digest.ensures.fault)

pub returns-then-ne-clause-caches : goal.returns-then-ne-clause-caches
returns-then-ne-clause-caches g c key keyed name kept =
    let v = c.args.self.now in
    let b = c.args.binding.now in
    refused_bound key v.records name b _ _ (Err Changed) Changed (is_found key v.records name b kept) refl refl

pub returns-in_err-make_room-clause-caches : goal.returns-in_err-make_room-clause-caches
returns-in_err-make_room-clause-caches g c key keyed name kept =
    let v = c.args.self.now in
    let b = c.args.binding.now in
    let answer : c.from_residual-in_err-make_room.result ≡ Err c.in_err-make_room.field-0.0 = search rules in
    refused_bound key v.records name b _ _ c.from_residual-in_err-make_room.result c.in_err-make_room.field-0.0 (is_found key v.records name b kept) answer
    (ap (is_unprepared is_before_repeat) c.in_err-make_room.ensures.refused)

pub returns-in_err-keep_trees-clause-caches : goal.returns-in_err-keep_trees-clause-caches
returns-in_err-keep_trees-clause-caches g c key keyed name kept =
    let v = c.args.self.now in
    let b = c.args.binding.now in
    let answer : c.from_residual-in_err-keep_trees.result ≡ Err c.in_err-keep_trees.field-0.0 = search rules in
    refused_bound key v.records name b _ _ c.from_residual-in_err-keep_trees.result c.in_err-keep_trees.field-0.0 (is_found key v.records name b kept) answer
    (ap (is_unprepared is_before_repeat) c.in_err-keep_trees.ensures.fault)

pub returns-in_err-map_err-clause-caches : goal.returns-in_err-map_err-clause-caches
returns-in_err-map_err-clause-caches g c key keyed name kept =
    let v = c.args.self.now in
    let b = c.args.binding.now in
    let own_is = same_key v.records c.key.result.now key (ap (λ w. the_key w.records) (sym c.self.view_is) ∙ c.key.ensures.first) keyed in
    let own = sym c.key.ensures.key ∙ own_is in
    let records = ap (λ w. w.records) c.self.view_is in
    let bottom : c.levels-bottom.result - 1 ≡ bottom_of key.secret =
    ap (λ n. n - 1) c.levels-bottom.ensures ∙ ap (λ (k : Key). bottom_of k.secret) own_is in
    let prepared : IsPrepared key v.records (Some (bottom_of key.secret)) b.place c.keep_trees.new.self (vec_capacity c.make_room.new.out) = record {
      room = subst (λ (k : Key). signature_size k.secret ≤ vec_capacity c.make_room.new.out) own_is c.in_ok-make_room.ensures.reserved;
      caches = subst (λ (x : Key × List Record × ℕ). HasCaches x.0 x.1 (Some x.2) b.place c.keep_trees.new.self) (λ i. (own i, records i, bottom i))
          c.in_ok-keep_trees.ensures.kept;
    } in
    made_bound key v.records name b _ _ c.from_residual-in_err-map_err.result (is_found key v.records name b kept)
    (subst (λ x. IsPrepared key v.records (Some (bottom_of key.secret)) b.place x (vec_capacity c.make_room.new.out)) (sym c.write_bound.ensures.caches) prepared)

pub returns-clause-caches : goal.returns-clause-caches
returns-clause-caches g c key keyed name kept =
    let v = c.args.self.now in
    let b = c.args.binding.now in
    let own_is = same_key v.records c.key.result.now key (ap (λ w. the_key w.records) (sym c.self.view_is) ∙ c.key.ensures.first) keyed in
    let own = sym c.key.ensures.key ∙ own_is in
    let records = ap (λ w. w.records) c.self.view_is in
    let bottom : c.levels-bottom.result - 1 ≡ bottom_of key.secret =
    ap (λ n. n - 1) c.levels-bottom.ensures ∙ ap (λ (k : Key). bottom_of k.secret) own_is in
    let prepared : IsPrepared key v.records (Some (bottom_of key.secret)) b.place c.keep_trees.new.self (vec_capacity c.make_room.new.out) = record {
      room = subst (λ (k : Key). signature_size k.secret ≤ vec_capacity c.make_room.new.out) own_is c.in_ok-make_room.ensures.reserved;
      caches = subst (λ (x : Key × List Record × ℕ). HasCaches x.0 x.1 (Some x.2) b.place c.keep_trees.new.self) (λ i. (own i, records i, bottom i))
          c.in_ok-keep_trees.ensures.kept;
    } in
    made_bound key v.records name b _ _ _ (is_found key v.records name b kept)
    (subst (λ x. IsPrepared key v.records (Some (bottom_of key.secret)) b.place x (vec_capacity c.make_room.new.out)) (sym c.write_bound.ensures.caches) prepared)

-- ---- the caches that it leaves where memory is refused

pub returns-in_err-digest-clause-refused : goal.returns-in_err-digest-clause-refused
returns-in_err-digest-clause-refused g c key keyed name kept =
    let v = c.args.self.now in
    leaves_as_they_were key v.records _ _ v.cached v.cached c.from_residual.result refl

pub returns-then-ne-clause-refused : goal.returns-then-ne-clause-refused
returns-then-ne-clause-refused g c key keyed name kept =
    let v = c.args.self.now in
    leaves_as_they_were {A = Unit {0}} key v.records _ _ v.cached v.cached (Err Changed) refl

pub returns-in_err-make_room-clause-refused : goal.returns-in_err-make_room-clause-refused
returns-in_err-make_room-clause-refused g c key keyed name kept =
    let v = c.args.self.now in
    leaves_as_they_were key v.records _ _ v.cached v.cached c.from_residual-in_err-make_room.result refl

pub returns-in_err-keep_trees-clause-refused : goal.returns-in_err-keep_trees-clause-refused
returns-in_err-keep_trees-clause-refused g c key keyed name kept =
    let v = c.args.self.now in
    let b = c.args.binding.now in
    let own_is = same_key v.records c.key.result.now key (ap (λ w. the_key w.records) (sym c.self.view_is) ∙ c.key.ensures.first) keyed in
    let own = sym c.key.ensures.key ∙ own_is in
    let records = ap (λ w. w.records) c.self.view_is in
    let bottom : c.levels-bottom.result - 1 ≡ bottom_of key.secret =
    ap (λ n. n - 1) c.levels-bottom.ensures ∙ ap (λ (k : Key). bottom_of k.secret) own_is in
    let loses : LosesCache key v.records (bottom_of key.secret) b.place v.cached c.keep_trees.new.self =
    subst (λ (x : Key × List Record × ℕ × Cached). LosesCache x.0 x.1 x.2 b.place x.3 c.keep_trees.new.self)
    (λ i. (own i, records i, bottom i, ap (λ w. w.cached) c.self.view_is i))
    c.in_err-keep_trees.ensures.loses in
    leaves_bound key v.records _ name b v.cached c.keep_trees.new.self c.from_residual-in_err-keep_trees.result
    (is_found key v.records name b kept) loses

pub returns-in_err-map_err-clause-refused : goal.returns-in_err-map_err-clause-refused
returns-in_err-map_err-clause-refused g c key keyed name kept =
    let L = c.self.inside.ledger in
    let answer : c.from_residual-in_err-map_err.result ≡ Err c.in_err-map_err.field-0.0 = search rules in
    let (slot, of_place, chain) = fault_of c.write_bound.result c.map_err.result c.in_err-map_err.field-0.0
    (λ k. damaged_at L.key (bottom_of L.key.secret) L.records c.args.binding.now.tree ≡ Some k) c.map_err.ensures.cases c.in_err-map_err.was c.write_bound.ensures.damaged in
    leaves_other key c.args.self.now.records _ _ _ c.write_bound.new.caches c.from_residual-in_err-map_err.result
    (ap (is_fault is_out_of_memory) (answer ∙ ap Err of_place))

pub returns-clause-refused : goal.returns-clause-refused
returns-clause-refused g c key keyed name kept = leaves_other key c.args.self.now.records _ _ c.args.self.now.cached c.write_bound.new.caches (Ok tt) refl

-- ---- the caches that it keeps

pub returns-in_err-digest-clause-kept : goal.returns-in_err-digest-clause-kept
returns-in_err-digest-clause-kept g c key keyed other = keeps_same_caches key c.args.self.now.records _ _ refl

pub returns-then-ne-clause-kept : goal.returns-then-ne-clause-kept
returns-then-ne-clause-kept g c key keyed other = keeps_same_caches key c.args.self.now.records _ _ refl

pub returns-in_err-make_room-clause-kept : goal.returns-in_err-make_room-clause-kept
returns-in_err-make_room-clause-kept g c key keyed other = keeps_same_caches key c.args.self.now.records _ _ refl

pub returns-in_err-keep_trees-clause-kept : goal.returns-in_err-keep_trees-clause-kept
returns-in_err-keep_trees-clause-kept g c key keyed other =
    let answer : c.from_residual-in_err-keep_trees.result ≡ Err c.in_err-keep_trees.field-0.0 = search rules in
    let comes = ap (is_fault is_out_of_memory) (answer ∙ ap Err c.in_err-keep_trees.ensures.fault) in
    absurd (true≢false (sym comes ∙ other))

pub returns-in_err-map_err-clause-kept : goal.returns-in_err-map_err-clause-kept
returns-in_err-map_err-clause-kept g c key keyed other =
    let v = c.args.self.now in
    let own_is = same_key v.records c.key.result.now key (ap (λ w. the_key w.records) (sym c.self.view_is) ∙ c.key.ensures.first) keyed in
    let own = sym c.key.ensures.key ∙ own_is in
    subst (λ (x : Key × List Record × Cached × Cached). KeepsOrRenews x.0 x.1 x.2 x.3)
    (λ i. (own i, ap (λ w. w.records) c.self.view_is i, ap (λ w. w.cached) c.self.view_is i, sym c.write_bound.ensures.caches i))
    (keeps_or_renews _ _ _ _ _ c.in_ok-keep_trees.ensures.renews)

pub returns-clause-kept : goal.returns-clause-kept
returns-clause-kept g c key keyed other =
    let v = c.args.self.now in
    let own_is = same_key v.records c.key.result.now key (ap (λ w. the_key w.records) (sym c.self.view_is) ∙ c.key.ensures.first) keyed in
    let own = sym c.key.ensures.key ∙ own_is in
    subst (λ (x : Key × List Record × Cached × Cached). KeepsOrRenews x.0 x.1 x.2 x.3)
    (λ i. (own i, ap (λ w. w.records) c.self.view_is i, ap (λ w. w.cached) c.self.view_is i, sym c.write_bound.ensures.caches i))
    (keeps_or_renews _ _ _ _ _ c.in_ok-keep_trees.ensures.renews)
