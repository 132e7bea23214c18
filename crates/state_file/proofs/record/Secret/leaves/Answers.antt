use Rattle.std.proofs.Common.{rules, ◌≡◌, ◌^◌, ◌<◌, ◌∙◌, ap, sym, length}
use Rattle.std.specs.Prelude.{slice_index_or}
use Rattle.typecodes.specs.declared.types.LmsPair.{LmsPair}
use Rattle.typecodes.specs.Types.{height_of}
use Rattle.state_file.specs.Laws.{leaves_at}
use Rattle.state_file.proofs.Levels.{leaves_of_level}
use Rattle.state_file.proofs.record.Secret.leaves.Goals as goal

pub returns-in-Some : goal.returns-in-Some
returns-in-Some c =
    let pair = c.in-Some.pair.now in
    let found : pair ≡ slice_index_or c.in-Hss.levels c.args.level pair =
    c.in-Some.ensures.lookup.1 ∙ ap (λ i. slice_index_or c.as_slice.result.now i pair) c.from.ensures
    ∙ ap (λ l. slice_index_or l c.args.level pair) c.as_slice.ensures.value in
    let inside : c.args.level < length c.in-Hss.levels = search rules in
    c.leaves_of-in-Some.ensures ∙ ap (λ h. 2 ^ h) c.height-in-Some.ensures.value ∙ ap (λ (p : LmsPair). 2 ^ height_of p.tree) found
    ∙ sym (leaves_of_level c.in-Hss.levels c.args.level pair inside) ∙ ap (λ s. leaves_at s c.args.level) (sym c.in-Hss.is)
