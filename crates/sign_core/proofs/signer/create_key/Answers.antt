use Rattle.std.proofs.Common.{rules, ◌≡◌, ◌∙◌, ◌∷◌, ◌++◌, ◌<◌, List, [], Ok, Err, false, length, refl, sym, ap, subst, arith}
use Rattle.state_file.specs.declared.record.Record.{Record}
use Rattle.state_file.specs.declared.record.Record.TheVariants.{Key as KeyRecord}
use Rattle.sign_core.specs.inner.Signer.{IsTakenUp}
use Rattle.sign_core.proofs.calls.StoreFaults.{IsAppended}
use Rattle.sign_core.specs.Signer.{MakesKey}
use Rattle.sign_core.specs.World.{new_key}
use Rattle.sign_core.proofs.calls.AppendMoments.{follows_none}
use Rattle.sign_core.proofs.calls.CreateEnds.{looked, made, undrawn, unmade}
use Rattle.sign_core.proofs.signer.create_key.Goals as goal

pub returns-in_err-load_first-clause-makes : goal.returns-in_err-load_first-clause-makes
returns-in_err-load_first-clause-makes g c =
    let answer : c.from_residual.result ≡ Err c.in_err-load_first.field-0.0 = search rules in
    subst (λ a. MakesKey g.S.Store g.R.Source c.args.version c.args.spec.now c.args.store.now c.load_first.new.store c.args.random.now c.args.random.now (IsTakenUp a)) (sym answer)
    (looked g.S.Store g.R.Source c.args.version c.args.spec.now _ _ c.args.random.now _ c.in_err-load_first.ensures)

pub returns-in_err-secret-clause-makes : goal.returns-in_err-secret-clause-makes
returns-in_err-secret-clause-makes g c =
    let answer : c.from_residual-in_err-secret.result ≡ Err c.in_err-secret.field-0.0 = search rules in
    subst (λ a. MakesKey g.S.Store g.R.Source c.args.version c.args.spec.now c.args.store.now c.load_first.new.store c.args.random.now c.draw_secret.new.random (IsTakenUp a)) (sym answer)
    (undrawn g.S.Store g.R.Source c.args.version c.args.spec.now _ _ _ _ _ c.in_ok-load_first.ensures c.in_err-secret.ensures.draws)

pub returns-in_err-map_err-clause-makes : goal.returns-in_err-map_err-clause-makes
returns-in_err-map_err-clause-makes g c =
    let answer : c.from_residual-in_err-map_err.result ≡ Err c.in_err-map_err.field-0.0 = search rules in
    let key = new_key c.args.version c.in_ok-secret.secret in
    let made : c.copied.result ≡ key = c.copied.ensures ∙ ap (λ r. record { version = c.args.version; secret = c.in_ok-secret.secret; root = r }) c.root_of-root.ensures in
    let old = c.load_first.new.store in
    let running : g.S.Store.stopped old ≡ false = c.in_ok-load_first.ensures.stopped ∙ c.in_ok-load_first.ensures.finds.0 in
    let room : length (g.S.Store.list old) < g.S.Store.most old =
    omega (arith, ap length c.in_ok-load_first.ensures.list, c.in_ok-load_first.ensures.finds.1, c.in_ok-load_first.ensures.most, c.requires) in
    let appended : IsAppended {A = Unit {0}} g.S.Store old c.append.new.self (KeyRecord c.copied.result) (Err c.in_err-map_err.field-0.0) =
    search (rules, running, room) in
    subst (λ a. MakesKey g.S.Store g.R.Source c.args.version c.args.spec.now c.args.store.now c.append.new.self c.args.random.now c.draw_secret.new.random (IsTakenUp a)) (sym answer)
    (unmade g.S.Store g.R.Source c.args.version c.args.spec.now _ _ _ _ _ c.in_ok-secret.secret _ c.in_ok-secret.ensures.draws (record {
      looked = c.in_ok-load_first.ensures;
      appended = subst (λ k. IsAppended {A = Unit {0}} g.S.Store old c.append.new.self (KeyRecord k) (Err c.in_err-map_err.field-0.0)) made appended;
    }))

pub returns-clause-makes : goal.returns-clause-makes
returns-clause-makes g c =
    let key = new_key c.args.version c.in_ok-secret.secret in
    let rooted : record { version = c.args.version; secret = c.in_ok-secret.secret; root = c.root_of-root.result } ≡ key =
    ap (λ r. record { version = c.args.version; secret = c.in_ok-secret.secret; root = r }) c.root_of-root.ensures in
    let old = c.load_first.new.store in
    let running : g.S.Store.stopped old ≡ false = c.in_ok-load_first.ensures.stopped ∙ c.in_ok-load_first.ensures.finds.0 in
    let room : length (g.S.Store.list old) < g.S.Store.most old =
    omega (arith, ap length c.in_ok-load_first.ensures.list, c.in_ok-load_first.ensures.finds.1, c.in_ok-load_first.ensures.most, c.requires) in
    let appended : IsAppended {A = Unit {0}} g.S.Store old c.append.new.self (KeyRecord c.copied.result) (Ok tt) = search (rules, running, room) in
    made g.S.Store g.R.Source c.args.version c.args.spec.now _ _ _ _ _ c.in_ok-secret.secret c.new.result
    (c.new.ensures.records ∙ ap (λ k. KeyRecord k ∷ []) rooted) c.in_ok-secret.ensures.spec c.in_ok-secret.ensures.draws (record {
      looked = c.in_ok-load_first.ensures;
      appended = subst (λ k. IsAppended {A = Unit {0}} g.S.Store old c.append.new.self (KeyRecord k) (Ok tt)) (c.copied.ensures ∙ rooted) appended;
    })

no_record : (records : List Record) → length records ≡ 0 → records ≡ []
no_record [] none = refl
no_record (entry ∷ rest) none = absurd (omega (arith, none))

pub returns-clause-tied : goal.returns-clause-tied
returns-clause-tied g c =
    let old = c.load_first.new.store in
    let none = ap length c.in_ok-load_first.ensures.list ∙ c.in_ok-load_first.ensures.finds.1 in
    let running : g.S.Store.stopped old ≡ false = c.in_ok-load_first.ensures.stopped ∙ c.in_ok-load_first.ensures.finds.0 in
    let room : length (g.S.Store.list old) < g.S.Store.most old = omega (arith, none, c.in_ok-load_first.ensures.most, c.requires) in
    let appended : IsAppended {A = Unit {0}} g.S.Store old c.append.new.self (KeyRecord c.copied.result) (Ok tt) = search (rules, running, room) in
    let one : g.S.Store.list c.append.new.self ≡ c.new.result.records =
    appended.stored.0 ∙ ap (λ l. l ++ KeyRecord c.copied.result ∷ []) (no_record (g.S.Store.list old) none)
    ∙ ap (λ k. KeyRecord k ∷ []) c.copied.ensures ∙ sym c.new.ensures.records in
    record { running = appended.stored.1; same_length = ap length one; same = λ honest. one }

pub append-requires : goal.append-requires
append-requires g c honest = follows_none _ c.copied.result (ap length c.in_ok-load_first.ensures.list ∙ c.in_ok-load_first.ensures.finds.1)
