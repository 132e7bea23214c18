use Rattle.std.proofs.Common.{rules, ◌≡◌, ◌≤◌, ◌+◌, false, Some, None, Ok, Err, inl, inr, length, refl, sym, subst, arith}
use Rattle.sign_core.specs.inner.Signer.{IsTakenUp, LoadsRecord}
use Rattle.sign_core.specs.Signer.{LoadsAll}
use Rattle.state_file.specs.Store.{is_key}
use Rattle.sign_core.proofs.calls.OpenEnds.{all_taken, all_tied, end_found, key_refused, key_taken, none_loaded, none_there, taken, unloaded, untaken}
use Rattle.sign_core.proofs.signer.load_all.Goals as goal

pub returns-in_err-key-clause-loads : goal.returns-in_err-key-clause-loads
returns-in_err-key-clause-loads g c =
    let answer : c.from_residual.result ≡ Err c.in_err-key.field-0.0 = search rules in
    let store = c.args.store.now in
    let start = none_loaded g.S.Store store (λ left honest running since. g.met.S.Store.leaves_nothing_else store left honest running since) in
    subst (λ a. LoadsAll g.S.Store store c.load_at.new.store (IsTakenUp a)) (sym answer)
    (unloaded g.S.Store store store c.load_at.new.store _ 0 _ start c.in_err-key.ensures)

pub returns-in-Some-clause-loads : goal.returns-in-Some-clause-loads
returns-in-Some-clause-loads g c =
    let store = c.args.store.now in
    let loads : LoadsRecord g.S.Store store c.load_at.new.store 0 (Ok (Some c.in-Some.field-0)) =
    subst (λ found. LoadsRecord g.S.Store store c.load_at.new.store 0 (Ok found)) c.in-Some.is c.in_ok-key.ensures in
    let other : is_key c.in-Some.field-0 ≡ false = search rules in
    key_refused g.S.Store store c.load_at.new.store c.in-Some.field-0 None
    (λ left honest running since. g.met.S.Store.leaves_nothing_else store left honest running since) loads (λ _. other)

pub returns-in-None-clause-loads : goal.returns-in-None-clause-loads
returns-in-None-clause-loads g c =
    let store = c.args.store.now in
    let loads : LoadsRecord g.S.Store store c.load_at.new.store 0 (Ok None) =
    subst (λ found. LoadsRecord g.S.Store store c.load_at.new.store 0 (Ok found)) c.in-None.is c.in_ok-key.ensures in
    none_there g.S.Store store c.load_at.new.store (λ left honest running since. g.met.S.Store.leaves_nothing_else store left honest running since) loads

pub loop-slot-init : goal.loop-slot-init
loop-slot-init g c =
    key_taken g.S.Store c.args.store.now c.load_at.new.store c.new-ledger.result _
    (λ left honest running since. g.met.S.Store.leaves_nothing_else c.args.store.now left honest running since)
    (search rules) (search rules) c.new-ledger.ensures.key c.new-ledger.ensures.records

pub returns-in_err-entry-clause-loads : goal.returns-in_err-entry-clause-loads
returns-in_err-entry-clause-loads g c =
    let answer : c.from_residual-in_err-entry.result ≡ Err c.in_err-entry.field-0.0 = search rules in
    subst (λ a. LoadsAll g.S.Store c.args.store.now c.load_at-in-loop-slot.new.store (IsTakenUp a)) (sym answer)
    (unloaded g.S.Store c.args.store.now c.loop-slot.store c.load_at-in-loop-slot.new.store _ c.loop-slot.slot _ c.loop-slot.invariant.loaded c.in_err-entry.ensures)

pub take_up-requires : goal.take_up-requires
take_up-requires g c = omega (arith, c.loop-slot.invariant.loaded.begins.same_length, c.loop-slot-test.true, c.limit-slot-end.type_inv)

pub returns-in_err-take_up-in-Some-2-clause-loads : goal.returns-in_err-take_up-in-Some-2-clause-loads
returns-in_err-take_up-in-Some-2-clause-loads g c =
    let answer : c.from_residual-in_err-take_up-in-Some-2.result ≡ Err c.in_err-take_up-in-Some-2.field-0.0 = search rules in
    let loads : LoadsRecord g.S.Store c.loop-slot.store c.load_at-in-loop-slot.new.store c.loop-slot.slot (Ok (Some c.in-Some-2.entry)) =
    subst (λ found. LoadsRecord g.S.Store c.loop-slot.store c.load_at-in-loop-slot.new.store c.loop-slot.slot (Ok found)) c.in-Some-2.is c.in_ok-entry.ensures in
    subst (λ a. LoadsAll g.S.Store c.args.store.now c.load_at-in-loop-slot.new.store (IsTakenUp a)) (sym answer)
    (untaken g.S.Store c.args.store.now c.loop-slot.store c.load_at-in-loop-slot.new.store c.loop-slot.ledger c.take_up.new.ledger c.loop-slot.slot c.in-Some-2.entry _
    c.loop-slot.invariant loads c.in_err-take_up-in-Some-2.ensures)

pub returns-in-None-2-clause-loads : goal.returns-in-None-2-clause-loads
returns-in-None-2-clause-loads g c =
    let loads : LoadsRecord g.S.Store c.loop-slot.store c.load_at-in-loop-slot.new.store c.loop-slot.slot (Ok None) =
    subst (λ found. LoadsRecord g.S.Store c.loop-slot.store c.load_at-in-loop-slot.new.store c.loop-slot.slot (Ok found)) c.in-None-2.is c.in_ok-entry.ensures in
    let ended = end_found g.S.Store c.args.store.now c.loop-slot.store c.load_at-in-loop-slot.new.store c.loop-slot.ledger c.loop-slot.slot c.loop-slot.invariant loads in
    all_taken g.S.Store c.args.store.now c.load_at-in-loop-slot.new.store c.loop-slot.ledger c.loop-slot.slot (c.loop-slot.slot + 1) ended.0 ended.1 (inl refl)

pub returns-in-None-2-clause-tied : goal.returns-in-None-2-clause-tied
returns-in-None-2-clause-tied g c =
    let loads : LoadsRecord g.S.Store c.loop-slot.store c.load_at-in-loop-slot.new.store c.loop-slot.slot (Ok None) =
    subst (λ found. LoadsRecord g.S.Store c.loop-slot.store c.load_at-in-loop-slot.new.store c.loop-slot.slot (Ok found)) c.in-None-2.is c.in_ok-entry.ensures in
    let ended = end_found g.S.Store c.args.store.now c.loop-slot.store c.load_at-in-loop-slot.new.store c.loop-slot.ledger c.loop-slot.slot c.loop-slot.invariant loads in
    all_tied g.S.Store c.args.store.now c.load_at-in-loop-slot.new.store c.loop-slot.ledger c.loop-slot.slot (c.loop-slot.slot + 1) ended.0 ended.1

pub loop-slot-preserved : goal.loop-slot-preserved
loop-slot-preserved g c =
    let loads : LoadsRecord g.S.Store c.loop-slot.store c.load_at-in-loop-slot.new.store c.loop-slot.slot (Ok (Some c.in-Some-2.entry)) =
    subst (λ found. LoadsRecord g.S.Store c.loop-slot.store c.load_at-in-loop-slot.new.store c.loop-slot.slot (Ok found)) c.in-Some-2.is c.in_ok-entry.ensures in
    taken g.S.Store c.args.store.now c.loop-slot.store c.load_at-in-loop-slot.new.store c.loop-slot.ledger c.take_up.new.ledger c.loop-slot.slot c.in-Some-2.entry
    c.loop-slot.invariant loads c.in_ok-take_up-in-Some-2.ensures

pub returns-clause-loads : goal.returns-clause-loads
returns-clause-loads g c =
    let loaded : LoadsRecord g.S.Store c.args.store.now c.load_at.new.store 0 (Ok c.in_ok-key.field-0) = c.in_ok-key.ensures in
    let within_limit = g.met.S.Store.within_limit c.args.store.now in
    let end : length (g.S.Store.list c.args.store.now) ≤ c.loop-slot.slot =
    omega (arith, within_limit, loaded.most, c.limit-slot-end.ensures, c.loop-slot-test.false) in
    let most : c.loop-slot.slot ≡ g.S.Store.most c.args.store.now =
    omega (arith, within_limit, loaded.most, c.limit-slot-end.ensures, c.loop-slot-test.false, c.loop-slot.invariant.loaded.begins.inside) in
    all_taken g.S.Store c.args.store.now c.loop-slot.store c.loop-slot.ledger c.loop-slot.slot c.loop-slot.slot c.loop-slot.invariant end (inr (refl, most))

pub returns-clause-tied : goal.returns-clause-tied
returns-clause-tied g c =
    let loaded : LoadsRecord g.S.Store c.args.store.now c.load_at.new.store 0 (Ok c.in_ok-key.field-0) = c.in_ok-key.ensures in
    let within_limit = g.met.S.Store.within_limit c.args.store.now in
    let end : length (g.S.Store.list c.args.store.now) ≤ c.loop-slot.slot =
    omega (arith, within_limit, loaded.most, c.limit-slot-end.ensures, c.loop-slot-test.false) in
    all_tied g.S.Store c.args.store.now c.loop-slot.store c.loop-slot.ledger c.loop-slot.slot c.loop-slot.slot c.loop-slot.invariant end
