use Rattle.std.proofs.Common.{rules, ◌≡◌, [], ◌∷◌, Ok, Err, refl, sym, ap}
use Rattle.typecodes.specs.declared.spec.Spec.TheVariants.{Lms, Hss, Xmss}
use Rattle.state_file.specs.declared.record.Secret.TheVariants as secret
use Rattle.sign_core.proofs.calls.SecretDraws.{all_drawn, draw_stops, draws_along, more_drawn, none_drawn}
use Rattle.sign_core.proofs.signer.draw_secret.Goals as goal

pub returns-in_err-draw-in-Lms-2-clause-draws : goal.returns-in_err-draw-in-Lms-2-clause-draws
returns-in_err-draw-in-Lms-2-clause-draws g c =
    let r = g.R.Source in
    let drawn_1 = more_drawn r c.args.random.now c.args.random.now c.draw.new.random [] c.in_ok-draw-in-Lms.field-0 (none_drawn r c.args.random.now)
    c.in_ok-draw-in-Lms.ensures.drawn in
    let answer : c.from_residual-in_err-draw-in-Lms-2.result ≡ Err c.in_err-draw-in-Lms-2.field-0.0 = search rules in
    draws_along r _ _ (Lms c.in-Lms.pair) _ _ _ (sym c.in-Lms.is) (sym answer)
    (draw_stops r (Lms c.in-Lms.pair) _ _ _ _ _ drawn_1 (c.in_ok-draw-in-Lms.ensures.field.0, c.in_ok-draw-in-Lms.ensures.field.1, tt) refl c.in_err-draw-in-Lms-2.ensures.drawn)

pub returns-in_ok-draw-in-Lms-2-clause-draws : goal.returns-in_ok-draw-in-Lms-2-clause-draws
returns-in_ok-draw-in-Lms-2-clause-draws g c =
    let r = g.R.Source in
    let drawn_1 = more_drawn r c.args.random.now c.args.random.now c.draw.new.random [] c.in_ok-draw-in-Lms.field-0 (none_drawn r c.args.random.now)
    c.in_ok-draw-in-Lms.ensures.drawn in
    let drawn_2 = more_drawn r c.args.random.now c.draw.new.random c.draw-in-Lms.new.random (c.in_ok-draw-in-Lms.field-0 ∷ []) c.in_ok-draw-in-Lms-2.field-0 drawn_1
    c.in_ok-draw-in-Lms-2.ensures.drawn in
    draws_along r _ _ (Lms c.in-Lms.pair) _ _ _ (sym c.in-Lms.is) (ap (λ own. Ok (secret.Lms own)) (sym c.new.ensures))
    (all_drawn r (Lms c.in-Lms.pair) _ _ _ _ drawn_2 (c.in_ok-draw-in-Lms.ensures.field.0, c.in_ok-draw-in-Lms.ensures.field.1, (c.in_ok-draw-in-Lms-2.ensures.field.0, c.in_ok-draw-in-Lms-2.ensures.field.1, tt)) refl)

pub returns-in_err-draw-in-Hss-2-clause-draws : goal.returns-in_err-draw-in-Hss-2-clause-draws
returns-in_err-draw-in-Hss-2-clause-draws g c =
    let r = g.R.Source in
    let drawn_1 = more_drawn r c.args.random.now c.args.random.now c.draw-in-Hss.new.random [] c.in_ok-draw-in-Hss.field-0 (none_drawn r c.args.random.now)
    c.in_ok-draw-in-Hss.ensures.drawn in
    let answer : c.from_residual-in_err-draw-in-Hss-2.result ≡ Err c.in_err-draw-in-Hss-2.field-0.0 = search rules in
    draws_along r _ _ (Hss c.in-Hss.levels) _ _ _ (sym c.in-Hss.is) (sym answer)
    (draw_stops r (Hss c.in-Hss.levels) _ _ _ _ _ drawn_1 (c.in_ok-draw-in-Hss.ensures.field.0, c.in_ok-draw-in-Hss.ensures.field.1, tt) refl c.in_err-draw-in-Hss-2.ensures.drawn)

pub returns-in_ok-draw-in-Hss-2-clause-draws : goal.returns-in_ok-draw-in-Hss-2-clause-draws
returns-in_ok-draw-in-Hss-2-clause-draws g c =
    let r = g.R.Source in
    let drawn_1 = more_drawn r c.args.random.now c.args.random.now c.draw-in-Hss.new.random [] c.in_ok-draw-in-Hss.field-0 (none_drawn r c.args.random.now)
    c.in_ok-draw-in-Hss.ensures.drawn in
    let drawn_2 = more_drawn r c.args.random.now c.draw-in-Hss.new.random c.draw-in-Hss-2.new.random (c.in_ok-draw-in-Hss.field-0 ∷ []) c.in_ok-draw-in-Hss-2.field-0 drawn_1
    c.in_ok-draw-in-Hss-2.ensures.drawn in
    draws_along r _ _ (Hss c.in-Hss.levels) _ _ _ (sym c.in-Hss.is) (λ i. Ok (secret.Hss (sym c.copied.ensures i) c.in_ok-draw-in-Hss.field-0 c.in_ok-draw-in-Hss-2.field-0))
    (all_drawn r (Hss c.in-Hss.levels) _ _ _ _ drawn_2 (c.in_ok-draw-in-Hss.ensures.field.0, c.in_ok-draw-in-Hss.ensures.field.1, (c.in_ok-draw-in-Hss-2.ensures.field.0, c.in_ok-draw-in-Hss-2.ensures.field.1, tt)) refl)

pub returns-in_err-draw-in-Xmss-2-clause-draws : goal.returns-in_err-draw-in-Xmss-2-clause-draws
returns-in_err-draw-in-Xmss-2-clause-draws g c =
    let r = g.R.Source in
    let drawn_1 = more_drawn r c.args.random.now c.args.random.now c.draw-in-Xmss.new.random [] c.in_ok-draw-in-Xmss.field-0 (none_drawn r c.args.random.now)
    c.in_ok-draw-in-Xmss.ensures.drawn in
    let answer : c.from_residual-in_err-draw-in-Xmss-2.result ≡ Err c.in_err-draw-in-Xmss-2.field-0.0 = search rules in
    draws_along r _ _ (Xmss c.in-Xmss.tree) _ _ _ (sym c.in-Xmss.is) (sym answer)
    (draw_stops r (Xmss c.in-Xmss.tree) _ _ _ _ _ drawn_1 (c.in_ok-draw-in-Xmss.ensures.field.0, c.in_ok-draw-in-Xmss.ensures.field.1, tt) refl c.in_err-draw-in-Xmss-2.ensures.drawn)

pub returns-in_err-draw-in-Xmss-3-clause-draws : goal.returns-in_err-draw-in-Xmss-3-clause-draws
returns-in_err-draw-in-Xmss-3-clause-draws g c =
    let r = g.R.Source in
    let drawn_1 = more_drawn r c.args.random.now c.args.random.now c.draw-in-Xmss.new.random [] c.in_ok-draw-in-Xmss.field-0 (none_drawn r c.args.random.now)
    c.in_ok-draw-in-Xmss.ensures.drawn in
    let drawn_2 = more_drawn r c.args.random.now c.draw-in-Xmss.new.random c.draw-in-Xmss-2.new.random (c.in_ok-draw-in-Xmss.field-0 ∷ []) c.in_ok-draw-in-Xmss-2.field-0 drawn_1
    c.in_ok-draw-in-Xmss-2.ensures.drawn in
    let answer : c.from_residual-in_err-draw-in-Xmss-3.result ≡ Err c.in_err-draw-in-Xmss-3.field-0.0 = search rules in
    draws_along r _ _ (Xmss c.in-Xmss.tree) _ _ _ (sym c.in-Xmss.is) (sym answer)
    (draw_stops r (Xmss c.in-Xmss.tree) _ _ _ _ _ drawn_2 (c.in_ok-draw-in-Xmss.ensures.field.0, c.in_ok-draw-in-Xmss.ensures.field.1, (c.in_ok-draw-in-Xmss-2.ensures.field.0, c.in_ok-draw-in-Xmss-2.ensures.field.1, tt)) refl c.in_err-draw-in-Xmss-3.ensures.drawn)

pub returns-in_ok-draw-in-Xmss-3-clause-draws : goal.returns-in_ok-draw-in-Xmss-3-clause-draws
returns-in_ok-draw-in-Xmss-3-clause-draws g c =
    let r = g.R.Source in
    let drawn_1 = more_drawn r c.args.random.now c.args.random.now c.draw-in-Xmss.new.random [] c.in_ok-draw-in-Xmss.field-0 (none_drawn r c.args.random.now)
    c.in_ok-draw-in-Xmss.ensures.drawn in
    let drawn_2 = more_drawn r c.args.random.now c.draw-in-Xmss.new.random c.draw-in-Xmss-2.new.random (c.in_ok-draw-in-Xmss.field-0 ∷ []) c.in_ok-draw-in-Xmss-2.field-0 drawn_1
    c.in_ok-draw-in-Xmss-2.ensures.drawn in
    let drawn_3 = more_drawn r c.args.random.now c.draw-in-Xmss-2.new.random c.draw-in-Xmss-3.new.random (c.in_ok-draw-in-Xmss.field-0 ∷ c.in_ok-draw-in-Xmss-2.field-0 ∷ []) c.in_ok-draw-in-Xmss-3.field-0 drawn_2
    c.in_ok-draw-in-Xmss-3.ensures.drawn in
    draws_along r _ _ (Xmss c.in-Xmss.tree) _ _ _ (sym c.in-Xmss.is) refl
    (all_drawn r (Xmss c.in-Xmss.tree) _ _ _ _ drawn_3 (c.in_ok-draw-in-Xmss.ensures.field.0, c.in_ok-draw-in-Xmss.ensures.field.1, (c.in_ok-draw-in-Xmss-2.ensures.field.0, c.in_ok-draw-in-Xmss-2.ensures.field.1, (c.in_ok-draw-in-Xmss-3.ensures.field.0, c.in_ok-draw-in-Xmss-3.ensures.field.1, tt))) refl)
