use Rattle.std.proofs.Common.{ℕ, List, Ok, subst, vec_capacity}
use Rattle.sign_core.specs.Records.{binding_at}
use Rattle.sign_core.specs.Serving.{SettlesCaches}
use Rattle.sign_core.proofs.serving.ask.Goals as goal

pub returns-in-Ok-sign_telling-clause-caches : goal.returns-in-Ok-sign_telling-clause-caches
returns-in-Ok-sign_telling-clause-caches g c =
    let old = c.args.signer.now in
    let new = c.sign_telling.new.self in
    let settles : SettlesCaches old.records new.records (binding_at old.records c.in-Ok.name) old.cached new.cached (vec_capacity c.sign_telling.new.out) (Ok tt) = record {
      made = c.in-Ok-sign_telling.ensures.caches;
      refused = c.in-Ok-sign_telling.ensures.refused;
      signed = c.in-Ok-sign_telling.ensures.signed;
      begun = c.in-Ok-sign_telling.ensures.begun;
      kept = c.in-Ok-sign_telling.ensures.kept;
    } in
    subst (λ (n : List ℕ). SettlesCaches old.records new.records (binding_at old.records n) old.cached new.cached (vec_capacity c.sign_telling.new.out) (Ok tt))
    c.in-Ok.ensures.value settles
