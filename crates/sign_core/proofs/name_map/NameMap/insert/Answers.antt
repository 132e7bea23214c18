use Rattle.std.proofs.Common.{◌<◌, ◌∙◌, ap, arith, cond, length, refl, Some}
use Rattle.std.specs.HashMap.{spare}
use Rattle.sign_core.specs.Records.{are_same}
use Rattle.sign_core.specs.Ledger.{of_text, short_text}
use Rattle.sign_core.proofs.ledgers.NameMaps.{on_ok, short_bound}
use Rattle.sign_core.proofs.name_map.NameMap.insert.Goals as goal

pub returns-then-bytes-le22-clause-updates : goal.returns-then-bytes-le22-clause-updates
returns-then-bytes-le22-clause-updates c =
    let room : 0 < spare c.args.self.now.short = omega (arith, c.requires) in
    let keyed = c.short_text.ensures ∙ ap short_text c.as_bytes-bytes.ensures.value in
    short_bound c.args.self.now (record { short = c.insert.new.self; long = c.args.self.now.long }) c.args.name.now
    c.args.binding
    (omega (arith, c.if-bytes-le22.true, ap length c.as_bytes-bytes.ensures.value))
    (λ text. (on_ok c.insert.result (c.insert.ensures.succeeds room) c.insert.ensures.updates).0 text
    ∙ ap (λ k. cond (are_same k text) (Some c.args.binding) (of_text c.args.self.now.short text)) keyed)
    refl
