use Rattle.std.proofs.Common.{◌≡◌, ◌∙◌, ◌++◌, ◌∷◌, [], length, ap, sym, arith}
use Rattle.std.specs.Prelude.{map}
use Rattle.std.specs.List.{range_with_len}
use Rattle.std.proofs.lemmas.List.FromFn.{length-map-range_with_len, map-range_with_len_more}
use Rattle.std.proofs.lemmas.Option.{same_Some}
use Rattle.state_file.specs.Laws.{levels_of}
use Rattle.sign_core.specs.Ledger.{Table}
use Rattle.sign_core.specs.Records.{free_at, free_counts, the_key}
use Rattle.sign_core.proofs.ledgers.Reading.{key_levels}
use Rattle.sign_core.proofs.ledger.Ledger.left.Goals as goal

pub loop-level-init : goal.loop-level-init
loop-level-init c = c.new-counts.ensures

pub push-requires : goal.push-requires
push-requires c =
    let (some, within_limit) = key_levels c.self.inside.records c.self.inside.key c.self.invariant.sizes c.self.invariant.keyed in
    let many : length c.loop-level.counts.items ≡ c.loop-level.level =
    ap length c.loop-level.invariant ∙ length-map-range_with_len _ 0 c.loop-level.level in
    omega (arith, many, within_limit, c.levels-level-end.ensures, c.loop-level-test.true)

pub loop-level-preserved : goal.loop-level-preserved
loop-level-preserved c =
    c.push.ensures.items ∙ (λ j. c.loop-level.invariant j ++ c.free_leaves.ensures j ∷ [])
    ∙ sym (map-range_with_len_more (free_at c.args.self.now.key.secret c.args.self.now.records) 0 c.loop-level.level c.loop-level.level (omega arith))

pub returns : goal.returns
returns c = λ key keyed.
    let same : c.args.self.now.key ≡ key =
    sym (ap (λ (t : Table). t.key) c.self.view_is) ∙ same_Some _ _ (sym c.self.invariant.keyed ∙ ap (λ (t : Table). the_key t.records) c.self.view_is ∙ keyed) in
    let all : c.loop-level.level ≡ levels_of c.args.self.now.key.secret =
    omega (arith, c.levels-level-end.ensures, ap (λ (t : Table). levels_of t.key.secret) c.self.view_is, c.loop-level-test.false, c.loop-level.auto.level-end) in
    c.loop-level.invariant ∙ ap (λ n. map (free_at c.args.self.now.key.secret c.args.self.now.records) (range_with_len 0 n)) all
    ∙ (λ j. free_counts (same j).secret c.args.self.now.records)
