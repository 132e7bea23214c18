use Rattle.std.proofs.Common.{rules, ◌≡◌, ◌∙◌, Ok, Err, ap, sym, subst, refl, arith}
use Rattle.sign_core.specs.declared.fault.SignFault.TheVariants.{RetireRange}
use Rattle.sign_core.specs.Records.{the_key}
use Rattle.sign_core.specs.Signer.{IsSigner, Retires, state_of}
use Rattle.sign_core.proofs.calls.RetireEnds.{done_step, hindered_retires, left_retires, range_step}
use Rattle.sign_core.proofs.signer.Signer.retire.Goals as goal

pub returns-in_err-check_open : goal.returns-in_err-check_open
returns-in_err-check_open g c =
    let v = c.args.self.now in
    let answer : c.from_residual.result ≡ Err c.in_err-check_open.field-0.0 = search rules in
    subst (Retires g.S.Store v v c.args.upto) (sym answer)
    (hindered_retires g.S.Store v c.args.upto c.self.inside.ledger.key _ (subst (IsSigner g.S.Store) c.self.view_is c.self.invariant.0) (λ left honest running
    since. g.met.S.Store.leaves_nothing_else v.store left honest running since)
    (ap (λ w. the_key w.records) (sym c.self.view_is) ∙ c.self.invariant.1) c.in_err-check_open.ensures.refused)

pub returns-then-upto-leaves : goal.returns-then-upto-leaves
returns-then-upto-leaves g c =
    let v = c.args.self.now in
    let keyed = ap (λ w. the_key w.records) (sym c.self.view_is) ∙ c.self.invariant.1 in
    let bottom = c.bottom-next.ensures c.self.inside.ledger.key keyed in
    let opened = c.in_ok-check_open.ensures.open in
    let stays = c.in_ok-check_open.ensures.stays in
    let past = c.if-upto-leaves.true in
    left_retires g.S.Store v c.args.upto (Err RetireRange) (subst (IsSigner g.S.Store) c.self.view_is c.self.invariant.0) (λ left honest running since.
    g.met.S.Store.leaves_nothing_else v.store left honest running since)
    (λ fate. range_step _ (state_of v) c.args.upto fate c.self.inside.ledger.key keyed opened stays (omega (arith, bottom.1, past))) (λ n. refl) (λ n. refl)

pub returns-then-upto-next : goal.returns-then-upto-next
returns-then-upto-next g c =
    let v = c.args.self.now in
    let keyed = ap (λ w. the_key w.records) (sym c.self.view_is) ∙ c.self.invariant.1 in
    let bottom = c.bottom-next.ensures c.self.inside.ledger.key keyed in
    let opened = c.in_ok-check_open.ensures.open in
    let stays = c.in_ok-check_open.ensures.stays in
    let past = c.if-upto-leaves.false in
    let done = c.if-upto-next.true in
    left_retires g.S.Store v c.args.upto (Ok tt) (subst (IsSigner g.S.Store) c.self.view_is c.self.invariant.0) (λ left honest running since.
    g.met.S.Store.leaves_nothing_else v.store left honest running since)
    (λ fate. done_step _ (state_of v) c.args.upto fate c.self.inside.ledger.key keyed opened stays (omega (arith, bottom.1, past)) (omega (
      arith,
      bottom.0,
      done,
    ))) (λ n. refl) (λ n. refl)
