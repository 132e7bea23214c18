use Rattle.std.proofs.Common.{List, ℕ, rules, ◌≡◌, ◌∙◌, Result, Err, true, false, ap, refl, sym, subst, ◌<◌, ◌-◌, None, Some, length, arith}
use Rattle.std.specs.Prelude.{vec_capacity}
use Rattle.std.proofs.lemmas.List.{take_at}
use Rattle.state_file.specs.Laws.{bottom_of, levels_of}
use Rattle.state_file.specs.declared.record.Key.{Key}
use Rattle.state_file.specs.declared.record.Record.{Record}
use Rattle.sign_core.specs.Caches.{Cached, HasAll, HasBegun, KeepsOrRenews}
use Rattle.sign_core.specs.Ledger.{binding_kept, kept_of}
use Rattle.sign_core.specs.Progress.{types_of_key}
use Rattle.sign_core.specs.Records.{binding_at, deepest, is_long, the_key}
use Rattle.sign_core.specs.Signer.{IsSigner, KeepsForRepeat, Signs, is_before_caches, is_before_repeat, view_of}
use Rattle.sign_core.specs.Signing.{IsPrepared, KeepsCaches, LeavesCaches, UnderKey, answered_value, is_unprepared}
use Rattle.sign_core.specs.Textbook.{damaged_at, current_at}
use Rattle.sign_core.specs.declared.fault.SignFault.{SignFault}
use Rattle.sign_core.specs.declared.fault.SignFault.TheVariants.{Damaged, LongName}
use Rattle.sign_core.specs.inner.Caches.{HasBegunTo, KeepsDownTo, RenewsDownTo}
use Rattle.sign_core.specs.inner.KeyTrees.{MakesTrees}
use Rattle.sign_core.specs.inner.Signing.{CanBind, BindsBelow, IsBindingOf, Stands}
use Rattle.sign_core.proofs.chains.BegunCaches.{none_begun, none_begun_to}
use Rattle.sign_core.proofs.chains.BindingChains.{same_key}
use Rattle.sign_core.proofs.records.Heights.{types_are}
use Rattle.sign_core.proofs.chains.KeptCaches.{anyway, made_new, never_bound, on_ok, prepared_later, refused_early, refused_new, stays_has}
use Rattle.sign_core.proofs.records.FreeLeaves.{deepest_is}
use Rattle.sign_core.proofs.ledgers.Reading.{key_levels}
use Rattle.sign_core.proofs.calls.RefusedCalls.{same_kind}
use Rattle.sign_core.proofs.calls.RepeatEnds.{fault_of, linked_ok}
use Rattle.sign_core.proofs.calls.SignEnds.{binds_signs, can_bind, damaged_binds, deepest_after, exhausted_signs, binds_below_binds, none_fault, some_level, hindered_signs, long_signs, none_mapped, repeats_signs, unprepared_signs, is_none}
use Rattle.sign_core.proofs.chains.LostCaches.{leaves_as_they_were, leaves_new, loses_new}
use Rattle.sign_core.proofs.chains.RenewedCaches.{keeps_same_caches, renews_stay}
use Rattle.sign_core.proofs.signer.Signer.sign_into.Goals as goal

pub returns-in_err-check_open-clause-step : goal.returns-in_err-check_open-clause-step
returns-in_err-check_open-clause-step g c =
    let v = c.args.self.now in
    let answer : c.from_residual.result ≡ Err c.in_err-check_open.field-0.0 = search rules in
    subst (λ a. Signs g.S.Store g.R.Source g.M.Message v v c.args.name.now c.args.message.now c.args.message.now (vec_capacity c.args.out.now)
    (answered_value a c.args.out.now.items)) (sym answer)
    (hindered_signs g.S.Store g.R.Source g.M.Message v c.args.name.now c.args.message.now (vec_capacity c.args.out.now) c.self.inside.ledger.key
    c.in_err-check_open.field-0.0 (subst (IsSigner g.S.Store) c.self.view_is c.self.invariant.0)
    (λ left honest running since. g.met.S.Store.leaves_nothing_else v.store left honest running since)
    (ap (λ w. the_key w.records) (sym c.self.view_is) ∙ c.self.invariant.1) c.in_err-check_open.ensures.refused)

pub returns-in-Some-clause-step : goal.returns-in-Some-clause-step
returns-in-Some-clause-step g c =
    let v = c.args.self.now in
    let key = c.self.inside.ledger.key in
    let keyed = ap (λ w. the_key w.records) (sym c.self.view_is) ∙ c.self.invariant.1 in
    let is : IsBindingOf v.records c.in-Some.binding key c.args.name.now =
    ap (λ w. binding_kept key.secret w.records c.args.name.now) (sym c.self.view_is) ∙ sym c.find.ensures ∙ c.in-Some.is in
    let new = c.repeat.new.self in
    let answered = answered_value c.repeat.result c.repeat.new.out.items in
    let keeps = subst (KeepsForRepeat v new) (sym (same_kind is_before_repeat c.repeat.result c.repeat.new.out.items)) c.repeat.ensures.keeps in
    repeats_signs g.S.Store g.R.Source g.M.Message v new c.args.name.now c.args.message.now c.repeat.new.message (vec_capacity c.args.out.now) key
    c.in-Some.binding answered (subst (IsSigner g.S.Store) c.self.view_is c.self.invariant.0)
    (λ left honest running since. g.met.S.Store.leaves_nothing_else v.store left honest running since)
    keyed c.in_ok-check_open.ensures.open c.in_ok-check_open.ensures.stays is (c.repeat.ensures.step key keyed c.args.name.now is) keeps

pub returns-then-as_bytes-from-clause-step : goal.returns-then-as_bytes-from-clause-step
returns-then-as_bytes-from-clause-step g c =
    let v = c.args.self.now in
    let key = c.self.inside.ledger.key in
    let keyed = ap (λ w. the_key w.records) (sym c.self.view_is) ∙ c.self.invariant.1 in
    let unbound = none_mapped (kept_of key.secret v.records) (binding_at v.records c.args.name.now)
    (ap (λ w. binding_kept key.secret w.records c.args.name.now) (sym c.self.view_is) ∙ sym c.find.ensures ∙ is_none c.find.result c.in_default.not-Some) in
    let long : is_long key c.args.name.now ≡ true = subst (λ k. is_long k c.args.name.now ≡ true) c.key.ensures.key (search rules) in
    long_signs g.S.Store g.R.Source g.M.Message v c.args.name.now c.args.message.now (vec_capacity c.args.out.now) key
    (subst (IsSigner g.S.Store) c.self.view_is c.self.invariant.0)
    (λ left honest running since. g.met.S.Store.leaves_nothing_else v.store left honest running since)
    keyed c.in_ok-check_open.ensures.open c.in_ok-check_open.ensures.stays unbound long

pub returns-in_err-level-clause-step : goal.returns-in_err-level-clause-step
returns-in_err-level-clause-step g c =
    let unbound = none_mapped (kept_of c.self.inside.ledger.key.secret c.args.self.now.records) (binding_at c.args.self.now.records c.args.name.now)
    (ap (λ w. binding_kept c.self.inside.ledger.key.secret w.records c.args.name.now) (sym c.self.view_is) ∙ sym c.find.ensures ∙ is_none c.find.result c.in_default.not-Some) in
    let short : UnderKey c.args.self.now.records (λ key. is_long key c.args.name.now ≡ false) = λ key keyed. subst (λ k. is_long k c.args.name.now ≡ false)
    (c.key.ensures.key ∙ same_key c.args.self.now.records c.self.inside.ledger.key key (ap (λ w. the_key w.records) (sym c.self.view_is) ∙ c.self.invariant.1) keyed) (search rules) in
    let v = c.args.self.now in
    let key = c.self.inside.ledger.key in
    let (none, is) = none_fault c.deepest.result c.in_err-level.field-0.0 (sym c.ok_or.ensures.value ∙ c.in_err-level.was) in
    let answer : c.from_residual-in_err-level.result ≡ Err c.in_err-level.field-0.0 = search rules in
    subst (λ a. Signs g.S.Store g.R.Source g.M.Message v v c.args.name.now c.args.message.now c.args.message.now (vec_capacity c.args.out.now)
    (answered_value a c.args.out.now.items)) (sym (answer ∙ ap Err is))
    (exhausted_signs g.S.Store g.R.Source g.M.Message v c.args.name.now c.args.message.now (vec_capacity c.args.out.now) key
    (subst (IsSigner g.S.Store) c.self.view_is c.self.invariant.0)
    (λ left honest running since. g.met.S.Store.leaves_nothing_else v.store left honest running since)
    (ap (λ w. the_key w.records) (sym c.self.view_is) ∙ c.self.invariant.1) c.in_ok-check_open.ensures.open c.in_ok-check_open.ensures.stays unbound
    (short key (ap (λ w. the_key w.records) (sym c.self.view_is) ∙ c.self.invariant.1))
    (ap (λ w. deepest key.secret w.records) (sym c.self.view_is) ∙ sym c.deepest.ensures ∙ none))

pub prepare-requires-clause-level : goal.prepare-requires-clause-level
prepare-requires-clause-level g c key keyed =
    let v = c.args.self.now in
    let i = c.self.inside.ledger in
    let own : i.key ≡ key = same_key v.records i.key key (ap (λ w. the_key w.records) (sym c.self.view_is) ∙ c.self.invariant.1) keyed in
    let some = some_level c.deepest.result c.in_ok-level.level (sym c.ok_or.ensures.value ∙ c.in_ok-level.was) in
    subst (λ k. c.in_ok-level.level < levels_of k.secret) own
    ((deepest_is i.key.secret i.records c.in_ok-level.level (sym c.deepest.ensures ∙ some)).0)

pub returns-in_err-prepare-clause-step : goal.returns-in_err-prepare-clause-step
returns-in_err-prepare-clause-step g c =
    let unbound = none_mapped (kept_of c.self.inside.ledger.key.secret c.args.self.now.records) (binding_at c.args.self.now.records c.args.name.now)
    (ap (λ w. binding_kept c.self.inside.ledger.key.secret w.records c.args.name.now) (sym c.self.view_is) ∙ sym c.find.ensures ∙ is_none c.find.result c.in_default.not-Some) in
    let short : UnderKey c.args.self.now.records (λ key. is_long key c.args.name.now ≡ false) = λ key keyed. subst (λ k. is_long k c.args.name.now ≡ false)
    (c.key.ensures.key ∙ same_key c.args.self.now.records c.self.inside.ledger.key key (ap (λ w. the_key w.records) (sym c.self.view_is) ∙ c.self.invariant.1) keyed) (search rules) in
    let v = c.args.self.now in
    let key = c.self.inside.ledger.key in
    let keyed = ap (λ w. the_key w.records) (sym c.self.view_is) ∙ c.self.invariant.1 in
    let some = some_level c.deepest.result c.in_ok-level.level (sym c.ok_or.ensures.value ∙ c.in_ok-level.was) in
    let made = c.in_err-prepare.ensures.room key keyed in
    let answer : c.from_residual-in_err-prepare.result ≡ Err c.in_err-prepare.field-0.0 = search rules in
    subst (λ a. Signs g.S.Store g.R.Source g.M.Message v c.prepare.new.self c.args.name.now c.args.message.now c.args.message.now
    (vec_capacity c.args.out.now) (answered_value a c.prepare.new.out.items)) (sym answer)
    (unprepared_signs g.S.Store g.R.Source g.M.Message v c.prepare.new.self c.args.name.now c.args.message.now (vec_capacity c.args.out.now)
    (length c.prepare.new.out.items) c.in_ok-level.level key c.in_err-prepare.field-0.0
    (subst (IsSigner g.S.Store) c.self.view_is c.self.invariant.0)
    (λ left honest running since. g.met.S.Store.leaves_nothing_else v.store left honest running since)
    keyed c.in_ok-check_open.ensures.open c.in_ok-check_open.ensures.stays unbound (short key keyed)
    (ap (λ w. deepest key.secret w.records) (sym c.self.view_is) ∙ sym c.deepest.ensures ∙ some) made.keeps
    made.caches made.spare made.does)

pub check_current-requires-clause-trees : goal.check_current-requires-clause-trees
check_current-requires-clause-trees g c = subst (λ (k : Key). MakesTrees k.secret c.of-trees.result) c.key-2.ensures.key c.of-trees.ensures

pub check_current-requires-clause-level : goal.check_current-requires-clause-level
check_current-requires-clause-level g c =
    let first = c.self.inside.ledger in
    let i = c.self-2.inside.ledger in
    let keyed = ap (λ w. the_key w.records) (sym c.self.view_is) ∙ c.self.invariant.1 in
    let some = some_level c.deepest.result c.in_ok-level.level (sym c.ok_or.ensures.value ∙ c.in_ok-level.was) in
    let made = c.in_ok-prepare.ensures.room first.key keyed in
    let records : i.records ≡ first.records = ap (λ w. w.records) c.self-2.view_is ∙ made.keeps.records ∙ ap (λ w. w.records) (sym c.self.view_is) in
    (deepest_is i.key.secret i.records c.in_ok-level.level
    (deepest_after first.records i.records first.key i.key c.in_ok-level.level records c.self.invariant.1 c.self-2.invariant.1 (sym c.deepest.ensures ∙ some))).0

pub check_current-requires-clause-within_limit : goal.check_current-requires-clause-within_limit
check_current-requires-clause-within_limit g c =
    let first = c.self.inside.ledger in
    let i = c.self-2.inside.ledger in
    let keyed = ap (λ w. the_key w.records) (sym c.self.view_is) ∙ c.self.invariant.1 in
    let some = some_level c.deepest.result c.in_ok-level.level (sym c.ok_or.ensures.value ∙ c.in_ok-level.was) in
    let within = (deepest_is first.key.secret first.records c.in_ok-level.level (sym c.deepest.ensures ∙ some)).0 in
    let within_limit = (key_levels first.records first.key c.self.invariant.0.sizes c.self.invariant.1).1 in
    omega (arith, within, within_limit)

pub check_current-requires-clause-free : goal.check_current-requires-clause-free
check_current-requires-clause-free g c =
    let first = c.self.inside.ledger in
    let i = c.self-2.inside.ledger in
    let keyed = ap (λ w. the_key w.records) (sym c.self.view_is) ∙ c.self.invariant.1 in
    let some = some_level c.deepest.result c.in_ok-level.level (sym c.ok_or.ensures.value ∙ c.in_ok-level.was) in
    let made = c.in_ok-prepare.ensures.room first.key keyed in
    let records : i.records ≡ first.records = ap (λ w. w.records) c.self-2.view_is ∙ made.keeps.records ∙ ap (λ w. w.records) (sym c.self.view_is) in
    (deepest_is i.key.secret i.records c.in_ok-level.level
    (deepest_after first.records i.records first.key i.key c.in_ok-level.level records c.self.invariant.1 c.self-2.invariant.1 (sym c.deepest.ensures ∙ some))).1

pub check_current-requires-clause-types : goal.check_current-requires-clause-types
check_current-requires-clause-types g c =
    let v = c.args.self.now in
    let first = c.self.inside.ledger in
    let i = c.self-2.inside.ledger in
    let keyed = ap (λ w. the_key w.records) (sym c.self.view_is) ∙ c.self.invariant.1 in
    let made = c.in_ok-prepare.ensures.room first.key keyed in
    let still : the_key v.records ≡ Some i.key =
    ap the_key (sym made.keeps.records) ∙ ap (λ w. the_key w.records) (sym c.self-2.view_is) ∙ c.self-2.invariant.1 in
    types_are (the_key v.records) i.key c.args.progress.now.spec c.requires.types still

pub returns-in_err-map_err-clause-step : goal.returns-in_err-map_err-clause-step
returns-in_err-map_err-clause-step g c =
    let unbound = none_mapped (kept_of c.self.inside.ledger.key.secret c.args.self.now.records) (binding_at c.args.self.now.records c.args.name.now)
    (ap (λ w. binding_kept c.self.inside.ledger.key.secret w.records c.args.name.now) (sym c.self.view_is) ∙ sym c.find.ensures ∙ is_none c.find.result c.in_default.not-Some) in
    let short : UnderKey c.args.self.now.records (λ key. is_long key c.args.name.now ≡ false) = λ key keyed. subst (λ k. is_long k c.args.name.now ≡ false)
    (c.key.ensures.key ∙ same_key c.args.self.now.records c.self.inside.ledger.key key (ap (λ w. the_key w.records) (sym c.self.view_is) ∙ c.self.invariant.1) keyed) (search rules) in
    let v = c.args.self.now in
    let key = c.self.inside.ledger.key in
    let keyed = ap (λ w. the_key w.records) (sym c.self.view_is) ∙ c.self.invariant.1 in
    let some = some_level c.deepest.result c.in_ok-level.level (sym c.ok_or.ensures.value ∙ c.in_ok-level.was) in
    let made = c.in_ok-prepare.ensures.room key keyed in
    let mid = c.prepare.new.self in
    let still = ap the_key made.keeps.records ∙ keyed in
    let whole = c.self-2.inside in
    let i = whole.ledger in
    let same = ap (λ x. view_of whole.store whole.random whole.ledger x whole.is_open) c.check_current.ensures.caches ∙ c.self-2.view_is in
    let own : i.key ≡ key = same_key mid.records i.key key (ap (λ w. the_key w.records) (sym c.self-2.view_is) ∙ c.self-2.invariant.1) still in
    let answer : c.from_residual-in_err-map_err.result ≡ Err c.in_err-map_err.field-0.0 = search rules in
    let (slot, is, damaged) = fault_of c.check_current.result c.map_err.result c.in_err-map_err.field-0.0
    (λ k. damaged_at i.key c.in_ok-level.level i.records (current_at c.in_ok-level.level i.records (length i.records)) ≡ Some k)
    c.map_err.ensures.cases c.in_err-map_err.was c.check_current.ensures.damaged in
    let here = subst (λ k. damaged_at k c.in_ok-level.level mid.records (current_at c.in_ok-level.level mid.records (length mid.records)) ≡ Some slot) own
    (subst (λ w. damaged_at i.key c.in_ok-level.level w.records (current_at c.in_ok-level.level w.records (length w.records)) ≡ Some slot) c.self-2.view_is damaged) in
    subst (λ w. Signs g.S.Store g.R.Source g.M.Message v w c.args.name.now c.args.message.now c.args.message.now (vec_capacity c.args.out.now)
    (answered_value c.from_residual-in_err-map_err.result c.prepare.new.out.items)) (sym same)
    (subst (λ a. Signs g.S.Store g.R.Source g.M.Message v mid c.args.name.now c.args.message.now c.args.message.now (vec_capacity c.args.out.now)
    (answered_value a c.prepare.new.out.items)) (sym (answer ∙ ap Err is))
    (binds_signs g.S.Store g.R.Source g.M.Message v mid mid c.args.name.now c.args.message.now c.args.message.now (vec_capacity c.args.out.now)
    c.in_ok-level.level key (Err (Damaged slot)) keyed c.in_ok-check_open.ensures.open c.in_ok-check_open.ensures.stays unbound (short key keyed)
    (ap (λ w. deepest key.secret w.records) (sym c.self.view_is) ∙ sym c.deepest.ensures ∙ some) made.keeps made.spare made.does.0
    (damaged_binds g.S.Store g.R.Source g.M.Message mid c.args.name.now c.args.message.now c.in_ok-level.level key slot
    (subst (IsSigner g.S.Store) c.self-2.view_is c.self-2.invariant.0)
    (λ left honest running since. g.met.S.Store.leaves_nothing_else mid.store left honest running since) here)))

pub bind_below-requires-clause-can : goal.bind_below-requires-clause-can
bind_below-requires-clause-can g c =
    let unbound = none_mapped (kept_of c.self.inside.ledger.key.secret c.args.self.now.records) (binding_at c.args.self.now.records c.args.name.now)
    (ap (λ w. binding_kept c.self.inside.ledger.key.secret w.records c.args.name.now) (sym c.self.view_is) ∙ sym c.find.ensures ∙ is_none c.find.result c.in_default.not-Some) in
    let short : UnderKey c.args.self.now.records (λ key. is_long key c.args.name.now ≡ false) = λ key keyed. subst (λ k. is_long k c.args.name.now ≡ false)
    (c.key.ensures.key ∙ same_key c.args.self.now.records c.self.inside.ledger.key key (ap (λ w. the_key w.records) (sym c.self.view_is) ∙ c.self.invariant.1) keyed) (search rules) in
    let v = c.args.self.now in
    let mid = c.prepare.new.self in
    let whole = c.self-2.inside in
    let keyed = ap (λ w. the_key w.records) (sym c.self.view_is) ∙ c.self.invariant.1 in
    let made = c.in_ok-prepare.ensures.room c.self.inside.ledger.key keyed in
    let same = ap (λ x. view_of whole.store whole.random whole.ledger x whole.is_open) c.check_current.ensures.caches ∙ c.self-2.view_is in
    let can = can_bind g.S.Store.most v mid c.args.name.now c.in_ok-level.level (length c.deref_mut.result.now) (vec_capacity c.args.out.now)
    (length c.prepare.new.out.items) _ made.keeps unbound short c.in_ok-prepare.ensures.room (ap length c.deref_mut.ensures.value) in
    subst (λ w. UnderKey w.records (λ key. CanBind (g.S.Store.most w.store) (levels_of key.secret - c.in_ok-level.level) c.args.name.now
    (length c.deref_mut.result.now) w)) (sym same) can

pub bind_below-requires-clause-stands : goal.bind_below-requires-clause-stands
bind_below-requires-clause-stands g c key keyed =
    let first = c.self.inside.ledger in
    let i = c.self-2.inside.ledger in
    let start = ap (λ w. the_key w.records) (sym c.self.view_is) ∙ c.self.invariant.1 in
    let some = some_level c.deepest.result c.in_ok-level.level (sym c.ok_or.ensures.value ∙ c.in_ok-level.was) in
    let made = c.in_ok-prepare.ensures.room first.key start in
    let records : i.records ≡ first.records = ap (λ w. w.records) c.self-2.view_is ∙ made.keeps.records ∙ ap (λ w. w.records) (sym c.self.view_is) in
    let deepest = deepest_is i.key.secret i.records c.in_ok-level.level
    (deepest_after first.records i.records first.key i.key c.in_ok-level.level records c.self.invariant.1 c.self-2.invariant.1 (sym c.deepest.ensures ∙ some)) in
    let sound = linked_ok c.check_current.result c.map_err.result _ _ c.map_err.ensures.cases c.in_ok-map_err.was c.check_current.ensures.sound in
    subst (Stands i.records c.in_ok-level.level) (same_key i.records i.key key c.self-2.invariant.1 keyed)
    (record { inside = deepest.0; free = deepest.1; sound = sound })

pub bind_below-requires-clause-types : goal.bind_below-requires-clause-types
bind_below-requires-clause-types g c =
    let first = c.self.inside.ledger in
    let keyed = ap (λ w. the_key w.records) (sym c.self.view_is) ∙ c.self.invariant.1 in
    let made = c.in_ok-prepare.ensures.room first.key keyed in
    ap (λ w. types_of_key (the_key w.records)) c.self-2.view_is ∙ ap (λ l. types_of_key (the_key l)) made.keeps.records ∙ c.requires.types

pub returns-clause-step : goal.returns-clause-step
returns-clause-step g c =
    let unbound = none_mapped (kept_of c.self.inside.ledger.key.secret c.args.self.now.records) (binding_at c.args.self.now.records c.args.name.now)
    (ap (λ w. binding_kept c.self.inside.ledger.key.secret w.records c.args.name.now) (sym c.self.view_is) ∙ sym c.find.ensures ∙ is_none c.find.result c.in_default.not-Some) in
    let short : UnderKey c.args.self.now.records (λ key. is_long key c.args.name.now ≡ false) = λ key keyed. subst (λ k. is_long k c.args.name.now ≡ false)
    (c.key.ensures.key ∙ same_key c.args.self.now.records c.self.inside.ledger.key key (ap (λ w. the_key w.records) (sym c.self.view_is) ∙ c.self.invariant.1) keyed) (search rules) in
    let v = c.args.self.now in
    let key = c.self.inside.ledger.key in
    let keyed = ap (λ w. the_key w.records) (sym c.self.view_is) ∙ c.self.invariant.1 in
    let some = some_level c.deepest.result c.in_ok-level.level (sym c.ok_or.ensures.value ∙ c.in_ok-level.was) in
    let made = c.in_ok-prepare.ensures.room key keyed in
    let mid = c.prepare.new.self in
    let still = ap the_key made.keeps.records ∙ keyed in
    let whole = c.self-2.inside in
    let i = whole.ledger in
    let same = ap (λ x. view_of whole.store whole.random whole.ledger x whole.is_open) c.check_current.ensures.caches ∙ c.self-2.view_is in
    let own : i.key ≡ key = same_key mid.records i.key key (ap (λ w. the_key w.records) (sym c.self-2.view_is) ∙ c.self-2.invariant.1) still in
    let sound = linked_ok c.check_current.result c.map_err.result _ _ c.map_err.ensures.cases c.in_ok-map_err.was c.check_current.ensures.sound in
    let here = subst (λ k. damaged_at k c.in_ok-level.level mid.records (current_at c.in_ok-level.level mid.records (length mid.records)) ≡ None) own
    (subst (λ w. damaged_at i.key c.in_ok-level.level w.records (current_at c.in_ok-level.level w.records (length w.records)) ≡ None) c.self-2.view_is sound) in
    let at = ap (λ w. deepest key.secret w.records) (sym c.self.view_is) ∙ sym c.deepest.ensures ∙ some in
    let binds = binds_below_binds g.S.Store g.R.Source g.M.Message mid c.bind_below.new.self c.args.name.now c.args.message.now c.bind_below.new.message c.in_ok-level.level key
    (answered_value c.bind_below.result c.bind_below.new.out) here
    (subst (λ w. UnderKey w.records (λ key. BindsBelow g.S.Store g.R.Source g.M.Message c.args.name.now
    (bottom_of key.secret - c.in_ok-level.level) w c.bind_below.new.self c.args.message.now c.bind_below.new.message
    (answered_value c.bind_below.result c.bind_below.new.out) key)) same c.bind_below.ensures.step key still)
    made.does.0.is_open (deepest_is key.secret v.records c.in_ok-level.level at).0 in
    let fits : length c.bind_below.new.out ≡ c.prepare.new.out.len = search rules in
    subst (λ xs. Signs g.S.Store g.R.Source g.M.Message v c.bind_below.new.self c.args.name.now c.args.message.now c.bind_below.new.message
    (vec_capacity c.args.out.now) (answered_value c.bind_below.result xs)) (sym (take_at c.bind_below.new.out _ c.prepare.new.out.len fits))
    (binds_signs g.S.Store g.R.Source g.M.Message v mid c.bind_below.new.self c.args.name.now c.args.message.now c.bind_below.new.message
    (vec_capacity c.args.out.now) c.in_ok-level.level key (answered_value c.bind_below.result c.bind_below.new.out) keyed c.in_ok-check_open.ensures.open c.in_ok-check_open.ensures.stays
    unbound (short key keyed) at made.keeps made.spare made.does.0 binds)

-- ---- the caches that it makes

pub prepare-requires-clause-free : goal.prepare-requires-clause-free
prepare-requires-clause-free g c key keyed =
    let v = c.args.self.now in
    let i = c.self.inside.ledger in
    let own : i.key ≡ key = same_key v.records i.key key (ap (λ w. the_key w.records) (sym c.self.view_is) ∙ c.self.invariant.1) keyed in
    let some = some_level c.deepest.result c.in_ok-level.level (sym c.ok_or.ensures.value ∙ c.in_ok-level.was) in
    let at : deepest key.secret v.records ≡ Some c.in_ok-level.level = subst (λ (k : Key). deepest k.secret v.records ≡ Some c.in_ok-level.level) own
    (ap (λ w. deepest i.key.secret w.records) (sym c.self.view_is) ∙ sym c.deepest.ensures ∙ some) in
    (deepest_is key.secret v.records c.in_ok-level.level at).1

pub returns-in_err-check_open-clause-caches : goal.returns-in_err-check_open-clause-caches
returns-in_err-check_open-clause-caches g c key keyed =
    let v = c.args.self.now in
    let answer : c.from_residual.result ≡ Err c.in_err-check_open.field-0.0 = search rules in
    refused_early key v.records _ _ _ c.from_residual.result c.in_err-check_open.field-0.0 answer c.in_err-check_open.ensures.early
    c.in_err-check_open.ensures.early_repeat

pub returns-in-Some-clause-caches : goal.returns-in-Some-clause-caches
returns-in-Some-clause-caches g c other others =
    let v = c.args.self.now in
    let key = c.self.inside.ledger.key in
    let keyed = ap (λ w. the_key w.records) (sym c.self.view_is) ∙ c.self.invariant.1 in
    let own : key ≡ other = same_key v.records key other keyed others in
    let is : IsBindingOf v.records c.in-Some.binding key c.args.name.now =
    ap (λ w. binding_kept key.secret w.records c.args.name.now) (sym c.self.view_is) ∙ sym c.find.ensures ∙ c.in-Some.is in
    c.repeat.ensures.caches other others c.args.name.now (subst (λ (k : Key). IsBindingOf v.records c.in-Some.binding k c.args.name.now) own is)

pub returns-then-as_bytes-from-clause-caches : goal.returns-then-as_bytes-from-clause-caches
returns-then-as_bytes-from-clause-caches g c key keyed =
    let v = c.args.self.now in
    let unbound = none_mapped (kept_of c.self.inside.ledger.key.secret v.records) (binding_at v.records c.args.name.now)
    (ap (λ w. binding_kept c.self.inside.ledger.key.secret w.records c.args.name.now) (sym c.self.view_is) ∙ sym c.find.ensures ∙ is_none c.find.result c.in_default.not-Some) in
    refused_new key v.records (binding_at v.records c.args.name.now) _ _ (Err LongName) LongName unbound refl refl

pub returns-in_err-level-clause-caches : goal.returns-in_err-level-clause-caches
returns-in_err-level-clause-caches g c key keyed =
    let v = c.args.self.now in
    let unbound = none_mapped (kept_of c.self.inside.ledger.key.secret v.records) (binding_at v.records c.args.name.now)
    (ap (λ w. binding_kept c.self.inside.ledger.key.secret w.records c.args.name.now) (sym c.self.view_is) ∙ sym c.find.ensures ∙ is_none c.find.result c.in_default.not-Some) in
    let (none, is) = none_fault c.deepest.result c.in_err-level.field-0.0 (sym c.ok_or.ensures.value ∙ c.in_err-level.was) in
    let answer : c.from_residual-in_err-level.result ≡ Err c.in_err-level.field-0.0 = search rules in
    refused_new key v.records (binding_at v.records c.args.name.now) _ _ c.from_residual-in_err-level.result c.in_err-level.field-0.0 unbound answer
    (ap (is_unprepared is_before_caches) is)

pub returns-in_err-prepare-clause-caches : goal.returns-in_err-prepare-clause-caches
returns-in_err-prepare-clause-caches g c key keyed =
    let v = c.args.self.now in
    let unbound = none_mapped (kept_of c.self.inside.ledger.key.secret v.records) (binding_at v.records c.args.name.now)
    (ap (λ w. binding_kept c.self.inside.ledger.key.secret w.records c.args.name.now) (sym c.self.view_is) ∙ sym c.find.ensures ∙ is_none c.find.result c.in_default.not-Some) in
    let answer : c.from_residual-in_err-prepare.result ≡ Err c.in_err-prepare.field-0.0 = search rules in
    refused_new key v.records (binding_at v.records c.args.name.now) _ _ c.from_residual-in_err-prepare.result c.in_err-prepare.field-0.0 unbound answer
    c.in_err-prepare.ensures.refused

pub returns-in_err-map_err-clause-caches : goal.returns-in_err-map_err-clause-caches
returns-in_err-map_err-clause-caches g c key keyed =
    let v = c.args.self.now in
    let unbound = none_mapped (kept_of c.self.inside.ledger.key.secret v.records) (binding_at v.records c.args.name.now)
    (ap (λ w. binding_kept c.self.inside.ledger.key.secret w.records c.args.name.now) (sym c.self.view_is) ∙ sym c.find.ensures ∙ is_none c.find.result c.in_default.not-Some) in
    let some = some_level c.deepest.result c.in_ok-level.level (sym c.ok_or.ensures.value ∙ c.in_ok-level.was) in
    let own = same_key v.records c.self.inside.ledger.key key (ap (λ w. the_key w.records) (sym c.self.view_is) ∙ c.self.invariant.1) keyed in
    let at : deepest key.secret v.records ≡ Some c.in_ok-level.level = subst (λ (k : Key). deepest k.secret v.records ≡ Some c.in_ok-level.level) own
    (ap (λ w. deepest c.self.inside.ledger.key.secret w.records) (sym c.self.view_is) ∙ sym c.deepest.ensures ∙ some) in
    let whole = c.self-2.inside in
    let same = ap (λ x. view_of whole.store whole.random whole.ledger x whole.is_open) c.check_current.ensures.caches ∙ c.self-2.view_is in
    made_new key v.records (binding_at v.records c.args.name.now) c.in_ok-level.level _ _ c.from_residual-in_err-map_err.result unbound at
    (subst (λ w. IsPrepared key v.records (Some c.in_ok-level.level) (length v.records) w.cached (vec_capacity c.prepare.new.out)) (sym same)
    (c.in_ok-prepare.ensures.prepared key keyed))

pub returns-clause-caches : goal.returns-clause-caches
returns-clause-caches g c key keyed =
    let v = c.args.self.now in
    let unbound = none_mapped (kept_of c.self.inside.ledger.key.secret v.records) (binding_at v.records c.args.name.now)
    (ap (λ w. binding_kept c.self.inside.ledger.key.secret w.records c.args.name.now) (sym c.self.view_is) ∙ sym c.find.ensures ∙ is_none c.find.result c.in_default.not-Some) in
    let some = some_level c.deepest.result c.in_ok-level.level (sym c.ok_or.ensures.value ∙ c.in_ok-level.was) in
    let own = same_key v.records c.self.inside.ledger.key key (ap (λ w. the_key w.records) (sym c.self.view_is) ∙ c.self.invariant.1) keyed in
    let at : deepest key.secret v.records ≡ Some c.in_ok-level.level = subst (λ (k : Key). deepest k.secret v.records ≡ Some c.in_ok-level.level) own
    (ap (λ w. deepest c.self.inside.ledger.key.secret w.records) (sym c.self.view_is) ∙ sym c.deepest.ensures ∙ some) in
    let whole = c.self-2.inside in
    let same = ap (λ x. view_of whole.store whole.random whole.ledger x whole.is_open) c.check_current.ensures.caches ∙ c.self-2.view_is in
    made_new key v.records (binding_at v.records c.args.name.now) c.in_ok-level.level _ _ _ unbound at
    (prepared_later key v.records c.in_ok-level.level (length v.records) c.prepare.new.self.cached c.bind_below.new.self.cached _
    (c.in_ok-prepare.ensures.prepared key keyed)
    (subst (λ w. KeepsDownTo c.in_ok-level.level w.cached c.bind_below.new.self.cached) same c.bind_below.ensures.keeps))

pub returns-in-Some-clause-signed : goal.returns-in-Some-clause-signed
returns-in-Some-clause-signed g c = anyway c.repeat.result (λ key keyed none.
    let v = c.args.self.now in
    let own = c.self.inside.ledger.key in
    let is : IsBindingOf v.records c.in-Some.binding own c.args.name.now =
    ap (λ w. binding_kept own.secret w.records c.args.name.now) (sym c.self.view_is) ∙ sym c.find.ensures ∙ c.in-Some.is in
    absurd (never_bound own v.records c.args.name.now c.in-Some.binding is none))

pub returns-clause-signed : goal.returns-clause-signed
returns-clause-signed g c = on_ok c.bind_below.result (λ rest key keyed none.
    let v = c.args.self.now in
    let mid = c.prepare.new.self in
    let made = c.in_ok-prepare.ensures.room key keyed in
    let whole = c.self-2.inside in
    let same = ap (λ x. view_of whole.store whole.random whole.ledger x whole.is_open) c.check_current.ensures.caches ∙ c.self-2.view_is in
    let all : HasAll key mid.records c.in_ok-level.level mid.cached = subst (λ (l : List Record). HasAll key l c.in_ok-level.level mid.cached)
    (sym made.keeps.records) (c.in_ok-prepare.ensures.prepared key keyed).caches in
    subst (λ w. UnderKey w.records (λ k. HasAll k w.records c.in_ok-level.level w.cached
    → HasAll k c.bind_below.new.self.records (bottom_of k.secret) c.bind_below.new.self.cached)) same rest key (ap the_key made.keeps.records ∙ keyed) all)
    c.bind_below.ensures.caches

-- ---- the caches of new trees

pub returns-in_err-check_open-clause-begun : goal.returns-in_err-check_open-clause-begun
returns-in_err-check_open-clause-begun g c key keyed = none_begun key c.args.self.now.records c.args.self.now.records c.args.self.now.cached keyed refl

pub returns-in-Some-clause-begun : goal.returns-in-Some-clause-begun
returns-in-Some-clause-begun g c key keyed =
    none_begun key c.args.self.now.records c.repeat.new.self.records c.repeat.new.self.cached keyed
    (ap (λ w. w.records) c.repeat.ensures.keeps.but_caches)

pub returns-then-as_bytes-from-clause-begun : goal.returns-then-as_bytes-from-clause-begun
returns-then-as_bytes-from-clause-begun g c key keyed = none_begun key c.args.self.now.records c.args.self.now.records c.args.self.now.cached keyed refl

pub returns-in_err-level-clause-begun : goal.returns-in_err-level-clause-begun
returns-in_err-level-clause-begun g c key keyed = none_begun key c.args.self.now.records c.args.self.now.records c.args.self.now.cached keyed refl

pub returns-in_err-prepare-clause-begun : goal.returns-in_err-prepare-clause-begun
returns-in_err-prepare-clause-begun g c key keyed =
    none_begun key c.args.self.now.records c.prepare.new.self.records c.prepare.new.self.cached keyed (c.in_err-prepare.ensures.room key keyed).keeps.records

pub returns-in_err-map_err-clause-begun : goal.returns-in_err-map_err-clause-begun
returns-in_err-map_err-clause-begun g c key keyed =
    let v = c.args.self.now in
    let mid = c.prepare.new.self in
    let whole = c.self-2.inside in
    let same = ap (λ x. view_of whole.store whole.random whole.ledger x whole.is_open) c.check_current.ensures.caches ∙ c.self-2.view_is in
    subst (λ w. HasBegun key w.records (length v.records) w.cached) (sym same)
    (none_begun key v.records mid.records mid.cached keyed (c.in_ok-prepare.ensures.room key keyed).keeps.records)

pub returns-clause-begun : goal.returns-clause-begun
returns-clause-begun g c key keyed =
    let v = c.args.self.now in
    let mid = c.prepare.new.self in
    let level = c.in_ok-level.level in
    let made = c.in_ok-prepare.ensures.room key keyed in
    let whole = c.self-2.inside in
    let same = ap (λ x. view_of whole.store whole.random whole.ledger x whole.is_open) c.check_current.ensures.caches ∙ c.self-2.view_is in
    let none : HasBegunTo key mid.records level (length v.records) mid.cached = subst (λ (l : List Record). HasBegunTo key l level (length v.records) mid.cached)
    (sym made.keeps.records) (none_begun_to key v.records level mid.cached keyed) in
    subst (λ w. UnderKey w.records (λ k. (start : ℕ) → HasBegunTo k w.records level start w.cached
    → HasBegun k c.bind_below.new.self.records start c.bind_below.new.self.cached)) same c.bind_below.ensures.begun key (ap the_key made.keeps.records ∙ keyed)
    (length v.records) none

-- ---- the caches that it leaves where memory is refused

pub returns-in_err-check_open-clause-refused : goal.returns-in_err-check_open-clause-refused
returns-in_err-check_open-clause-refused g c key keyed =
    let v = c.args.self.now in
    leaves_as_they_were key v.records _ (binding_at v.records c.args.name.now) v.cached v.cached c.from_residual.result refl

pub returns-in-Some-clause-refused : goal.returns-in-Some-clause-refused
returns-in-Some-clause-refused g c other others =
    let v = c.args.self.now in
    let key = c.self.inside.ledger.key in
    let keyed = ap (λ w. the_key w.records) (sym c.self.view_is) ∙ c.self.invariant.1 in
    let own : key ≡ other = same_key v.records key other keyed others in
    let is : IsBindingOf v.records c.in-Some.binding key c.args.name.now =
    ap (λ w. binding_kept key.secret w.records c.args.name.now) (sym c.self.view_is) ∙ sym c.find.ensures ∙ c.in-Some.is in
    c.repeat.ensures.refused other others c.args.name.now (subst (λ (k : Key). IsBindingOf v.records c.in-Some.binding k c.args.name.now) own is)

pub returns-then-as_bytes-from-clause-refused : goal.returns-then-as_bytes-from-clause-refused
returns-then-as_bytes-from-clause-refused g c key keyed =
    let v = c.args.self.now in
    leaves_as_they_were key v.records _ (binding_at v.records c.args.name.now) v.cached v.cached (Err LongName) refl

pub returns-in_err-level-clause-refused : goal.returns-in_err-level-clause-refused
returns-in_err-level-clause-refused g c key keyed =
    let v = c.args.self.now in
    leaves_as_they_were key v.records _ (binding_at v.records c.args.name.now) v.cached v.cached c.from_residual-in_err-level.result refl

pub returns-in_err-prepare-clause-refused : goal.returns-in_err-prepare-clause-refused
returns-in_err-prepare-clause-refused g c key keyed =
    let v = c.args.self.now in
    let unbound = none_mapped (kept_of c.self.inside.ledger.key.secret v.records) (binding_at v.records c.args.name.now)
    (ap (λ w. binding_kept c.self.inside.ledger.key.secret w.records c.args.name.now) (sym c.self.view_is) ∙ sym c.find.ensures ∙ is_none c.find.result c.in_default.not-Some) in
    let some = some_level c.deepest.result c.in_ok-level.level (sym c.ok_or.ensures.value ∙ c.in_ok-level.was) in
    let own = same_key v.records c.self.inside.ledger.key key (ap (λ w. the_key w.records) (sym c.self.view_is) ∙ c.self.invariant.1) keyed in
    let at : deepest key.secret v.records ≡ Some c.in_ok-level.level = subst (λ (k : Key). deepest k.secret v.records ≡ Some c.in_ok-level.level) own
    (ap (λ w. deepest c.self.inside.ledger.key.secret w.records) (sym c.self.view_is) ∙ sym c.deepest.ensures ∙ some) in
    loses_new key v.records c.prepare.new.self.records (binding_at v.records c.args.name.now) c.in_ok-level.level v.cached c.prepare.new.self.cached
    c.from_residual-in_err-prepare.result unbound at (c.in_err-prepare.ensures.loses key keyed)

pub returns-in_err-map_err-clause-refused : goal.returns-in_err-map_err-clause-refused
returns-in_err-map_err-clause-refused g c key keyed =
    let v = c.args.self.now in
    let mid = c.prepare.new.self in
    let unbound = none_mapped (kept_of c.self.inside.ledger.key.secret v.records) (binding_at v.records c.args.name.now)
    (ap (λ w. binding_kept c.self.inside.ledger.key.secret w.records c.args.name.now) (sym c.self.view_is) ∙ sym c.find.ensures ∙ is_none c.find.result c.in_default.not-Some) in
    let some = some_level c.deepest.result c.in_ok-level.level (sym c.ok_or.ensures.value ∙ c.in_ok-level.was) in
    let own = same_key v.records c.self.inside.ledger.key key (ap (λ w. the_key w.records) (sym c.self.view_is) ∙ c.self.invariant.1) keyed in
    let at : deepest key.secret v.records ≡ Some c.in_ok-level.level = subst (λ (k : Key). deepest k.secret v.records ≡ Some c.in_ok-level.level) own
    (ap (λ w. deepest c.self.inside.ledger.key.secret w.records) (sym c.self.view_is) ∙ sym c.deepest.ensures ∙ some) in
    let whole = c.self-2.inside in
    let same = ap (λ x. view_of whole.store whole.random whole.ledger x whole.is_open) c.check_current.ensures.caches ∙ c.self-2.view_is in
    subst (λ w. LeavesCaches key v.records w.records (binding_at v.records c.args.name.now) v.cached w.cached c.from_residual-in_err-map_err.result) (sym same)
    (leaves_new key v.records mid.records (binding_at v.records c.args.name.now) c.in_ok-level.level v.cached mid.cached
    c.from_residual-in_err-map_err.result unbound at (c.in_ok-prepare.ensures.prepared key keyed).caches
    (renews_stay key v.records mid.records c.in_ok-level.level v.cached mid.cached mid.cached (c.in_ok-prepare.ensures.room key keyed).keeps.records refl
    (c.in_ok-prepare.ensures.renews key keyed)))

pub returns-clause-refused : goal.returns-clause-refused
returns-clause-refused g c key keyed =
    let v = c.args.self.now in
    let mid = c.prepare.new.self in
    let made = c.in_ok-prepare.ensures.room key keyed in
    let unbound = none_mapped (kept_of c.self.inside.ledger.key.secret v.records) (binding_at v.records c.args.name.now)
    (ap (λ w. binding_kept c.self.inside.ledger.key.secret w.records c.args.name.now) (sym c.self.view_is) ∙ sym c.find.ensures ∙ is_none c.find.result c.in_default.not-Some) in
    let some = some_level c.deepest.result c.in_ok-level.level (sym c.ok_or.ensures.value ∙ c.in_ok-level.was) in
    let own = same_key v.records c.self.inside.ledger.key key (ap (λ w. the_key w.records) (sym c.self.view_is) ∙ c.self.invariant.1) keyed in
    let at : deepest key.secret v.records ≡ Some c.in_ok-level.level = subst (λ (k : Key). deepest k.secret v.records ≡ Some c.in_ok-level.level) own
    (ap (λ w. deepest c.self.inside.ledger.key.secret w.records) (sym c.self.view_is) ∙ sym c.deepest.ensures ∙ some) in
    let whole = c.self-2.inside in
    let same = ap (λ x. view_of whole.store whole.random whole.ledger x whole.is_open) c.check_current.ensures.caches ∙ c.self-2.view_is in
    let later = stays_has key v.records c.in_ok-level.level (length v.records) c.prepare.new.self.cached c.bind_below.new.self.cached
    (subst (λ w. KeepsDownTo c.in_ok-level.level w.cached c.bind_below.new.self.cached) same c.bind_below.ensures.keeps)
    (c.in_ok-prepare.ensures.prepared key keyed).caches in
    let renews : RenewsDownTo key mid.records c.in_ok-level.level v.cached mid.cached =
    subst (λ (l : List Record). RenewsDownTo key l c.in_ok-level.level v.cached mid.cached) (sym made.keeps.records) (c.in_ok-prepare.ensures.renews key keyed) in
    let keeps = subst (λ w. UnderKey w.records (λ k. (first : Cached) → RenewsDownTo k w.records c.in_ok-level.level first w.cached
    → KeepsOrRenews k c.bind_below.new.self.records first c.bind_below.new.self.cached)) same c.bind_below.ensures.renews key
    (ap the_key made.keeps.records ∙ keyed) v.cached renews in
    leaves_new key v.records c.bind_below.new.self.records (binding_at v.records c.args.name.now) c.in_ok-level.level v.cached c.bind_below.new.self.cached
    c.bind_below.result unbound at later keeps

-- ---- the caches that it keeps

pub returns-in_err-check_open-clause-kept : goal.returns-in_err-check_open-clause-kept
returns-in_err-check_open-clause-kept g c key keyed other = keeps_same_caches key c.args.self.now.records _ _ refl

pub returns-in-Some-clause-kept : goal.returns-in-Some-clause-kept
returns-in-Some-clause-kept g c key keyed =
    let v = c.args.self.now in
    subst (λ (l : List Record). KeepsCaches key l v.cached c.repeat.new.self.cached c.repeat.result)
    (ap (λ w. w.records) (sym c.repeat.ensures.keeps.but_caches)) (c.repeat.ensures.kept key keyed)

pub returns-then-as_bytes-from-clause-kept : goal.returns-then-as_bytes-from-clause-kept
returns-then-as_bytes-from-clause-kept g c key keyed other = keeps_same_caches key c.args.self.now.records _ _ refl

pub returns-in_err-level-clause-kept : goal.returns-in_err-level-clause-kept
returns-in_err-level-clause-kept g c key keyed other = keeps_same_caches key c.args.self.now.records _ _ refl

pub returns-in_err-prepare-clause-kept : goal.returns-in_err-prepare-clause-kept
returns-in_err-prepare-clause-kept g c key keyed =
    let v = c.args.self.now in
    let answer : c.from_residual-in_err-prepare.result ≡ Err c.in_err-prepare.field-0.0 = search rules in
    subst (λ (r : Result (Unit {0}) SignFault). KeepsCaches key c.prepare.new.self.records v.cached c.prepare.new.self.cached r) (sym answer)
    (subst (λ (l : List Record). KeepsCaches {A = Unit {0}} key l v.cached c.prepare.new.self.cached (Err c.in_err-prepare.field-0.0))
    (sym (c.in_err-prepare.ensures.room key keyed).keeps.records) (c.in_err-prepare.ensures.kept key keyed))

pub returns-in_err-map_err-clause-kept : goal.returns-in_err-map_err-clause-kept
returns-in_err-map_err-clause-kept g c key keyed =
    let v = c.args.self.now in
    let mid = c.prepare.new.self in
    let whole = c.self-2.inside in
    let same = ap (λ x. view_of whole.store whole.random whole.ledger x whole.is_open) c.check_current.ensures.caches ∙ c.self-2.view_is in
    subst (λ w. KeepsCaches key w.records v.cached w.cached c.from_residual-in_err-map_err.result) (sym same)
    (λ other. renews_stay key v.records mid.records c.in_ok-level.level v.cached mid.cached mid.cached (c.in_ok-prepare.ensures.room key keyed).keeps.records refl
    (c.in_ok-prepare.ensures.renews key keyed))

pub returns-clause-kept : goal.returns-clause-kept
returns-clause-kept g c key keyed other =
    let v = c.args.self.now in
    let mid = c.prepare.new.self in
    let level = c.in_ok-level.level in
    let made = c.in_ok-prepare.ensures.room key keyed in
    let whole = c.self-2.inside in
    let same = ap (λ x. view_of whole.store whole.random whole.ledger x whole.is_open) c.check_current.ensures.caches ∙ c.self-2.view_is in
    let renews : RenewsDownTo key mid.records level v.cached mid.cached = subst (λ (l : List Record). RenewsDownTo key l level v.cached mid.cached)
    (sym made.keeps.records) (c.in_ok-prepare.ensures.renews key keyed) in
    subst (λ w. UnderKey w.records (λ k. (first : Cached) → RenewsDownTo k w.records level first w.cached
    → KeepsOrRenews k c.bind_below.new.self.records first c.bind_below.new.self.cached)) same c.bind_below.ensures.renews key
    (ap the_key made.keeps.records ∙ keyed) v.cached renews
