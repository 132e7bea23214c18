use Rattle.std.proofs.Common.{rules, ◌≡◌, ◌≢◌, ◌∙◌, ◌<◌, Ok, Err, false, length, true, ap, subst, sym, arith}
use Rattle.state_file.specs.declared.store.StoreFault.TheVariants.{OutOfMemory}
use Rattle.sign_core.specs.declared.fault.SignFault.TheVariants.{OutOfMemory as NoMemory, StoreFailed}
use Rattle.sign_core.proofs.calls.StoreFaults.{IsAppended}
use Rattle.sign_core.proofs.calls.AppendMoments.{adds_in_failed, adds_in_ok, adds_in_refused, signer_grown}
use Rattle.sign_core.proofs.signer.Signer.add.Goals as goal

pub returns-then-eq-clause-adds : goal.returns-then-eq-clause-adds
returns-then-eq-clause-adds g c =
    let i = c.self.inside in
    let was : i.is_open ≡ true = ap (λ w. w.is_open) c.self.view_is ∙ c.requires.open in
    let tied = c.self.invariant.0.tied was in
    let running : g.S.Store.stopped i.store ≡ false = tied.running in
    let within : length i.ledger.records < g.S.Store.most i.store =
    subst (λ w. length w.records < g.S.Store.most w.store) (sym c.self.view_is) c.requires.within_limit in
    let room : length (g.S.Store.list i.store) < g.S.Store.most i.store = omega (arith, tied.same_length, within) in
    let same : c.in-Err.fault ≡ OutOfMemory = search rules in
    let appended : IsAppended {A = Unit {0}} g.S.Store i.store c.append.new.self c.args.entry (Err NoMemory) = search (rules, running, room, same) in
    adds_in_refused g.S.Store i.store c.append.new.self i.random i.ledger i.is_open c.args.entry c.args.self.now c.self.view_is c.self.invariant.0 c.requires.open
    appended

pub returns-in-Err-clause-adds : goal.returns-in-Err-clause-adds
returns-in-Err-clause-adds g c =
    let i = c.self.inside in
    let was : i.is_open ≡ true = ap (λ w. w.is_open) c.self.view_is ∙ c.requires.open in
    let tied = c.self.invariant.0.tied was in
    let running : g.S.Store.stopped i.store ≡ false = tied.running in
    let within : length i.ledger.records < g.S.Store.most i.store =
    subst (λ w. length w.records < g.S.Store.most w.store) (sym c.self.view_is) c.requires.within_limit in
    let room : length (g.S.Store.list i.store) < g.S.Store.most i.store = omega (arith, tied.same_length, within) in
    let other : c.in-Err.fault ≢ OutOfMemory = search rules in
    let appended : IsAppended {A = Unit {0}} g.S.Store i.store c.append.new.self c.args.entry (Err StoreFailed) = search (rules, running, room, other) in
    adds_in_failed g.S.Store i.store c.append.new.self i.random i.ledger i.is_open c.args.entry c.args.self.now c.self.view_is c.self.invariant.0 c.requires.open
    appended

pub invariant_of-self-2 : goal.invariant_of-self-2
invariant_of-self-2 g c =
    let i = c.self.inside in
    let was : i.is_open ≡ true = ap (λ w. w.is_open) c.self.view_is ∙ c.requires.open in
    let tied = c.self.invariant.0.tied was in
    let running : g.S.Store.stopped i.store ≡ false = tied.running in
    let within : length i.ledger.records < g.S.Store.most i.store =
    subst (λ w. length w.records < g.S.Store.most w.store) (sym c.self.view_is) c.requires.within_limit in
    let room : length (g.S.Store.list i.store) < g.S.Store.most i.store = omega (arith, tied.same_length, within) in
    let appended : IsAppended {A = Unit {0}} g.S.Store i.store c.append.new.self c.args.entry (Ok tt) = search (rules, running, room) in
    signer_grown g.S.Store i.store c.append.new.self i.random i.ledger c.push.new.self i.is_open c.args.entry c.args.self.now c.self.view_is
    c.self.invariant.0 c.self.invariant.1
    c.requires.open c.requires.follows c.requires.sizes
    appended
    c.push.ensures.grows

pub returns-clause-adds : goal.returns-clause-adds
returns-clause-adds g c =
    let i = c.self.inside in
    let was : i.is_open ≡ true = ap (λ w. w.is_open) c.self.view_is ∙ c.requires.open in
    let tied = c.self.invariant.0.tied was in
    let running : g.S.Store.stopped i.store ≡ false = tied.running in
    let within : length i.ledger.records < g.S.Store.most i.store =
    subst (λ w. length w.records < g.S.Store.most w.store) (sym c.self.view_is) c.requires.within_limit in
    let room : length (g.S.Store.list i.store) < g.S.Store.most i.store = omega (arith, tied.same_length, within) in
    let appended : IsAppended {A = Unit {0}} g.S.Store i.store c.append.new.self c.args.entry (Ok tt) = search (rules, running, room) in
    adds_in_ok g.S.Store i.store c.append.new.self i.random i.ledger c.push.new.self i.is_open c.args.entry c.args.self.now c.self.view_is c.self.invariant.0
    c.requires.open
    appended
    c.push.ensures.grows
