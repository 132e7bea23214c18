use Rattle.std.proofs.Common.{arith, sym, ap, ◌∙◌, ◌≡◌, length, ◌-◌, ◌*◌, ◌^◌, ◌/◌, ◌%◌, ◌≢◌, refl}
use Rattle.std.specs.Prelude.{drop}
use Rattle.std.proofs.lemmas.List.{length-take, length-drop}
use Rattle.merkle.proofs.Listing.{half_long, half_some}
use Rattle.merkle.proofs.Reading.{even_first, even_second, odd_first, odd_second, first_half, second_half, path_more}
use Rattle.merkle.proofs.Reading.{read_below, length_below}
use Rattle.merkle.proofs.nodes.+read_path.Goals as goal

pub overflow_sub-into : goal.overflow_sub-into
overflow_sub-into t c = half_some _ _ c.requires.whole (omega arith)

pub overflow_sub-into-else-over-eq0 : goal.overflow_sub-into-else-over-eq0
overflow_sub-into-else-over-eq0 t c = half_some _ _ c.requires.whole (omega arith)

pub bounds-right-half : goal.bounds-right-half
bounds-right-half t c =
    let some = half_some (length c.args.nodes.now) (length c.args.into.now) c.requires.whole (omega arith) in
    let half = length c.args.nodes.now / 2 in
    omega (arith, length-take (2 * half - half) (drop half c.args.nodes.now), length-drop half c.args.nodes.now)

pub bounds-left-half : goal.bounds-left-half
bounds-left-half t c =
    let some = half_some (length c.args.nodes.now) (length c.args.into.now) c.requires.whole (omega arith) in
    let half = length c.args.nodes.now / 2 in
    omega (arith, length-take half c.args.nodes.now)

pub returns-then-over-eq0 : goal.returns-then-over-eq0
returns-then-over-eq0 t c = λ leaf join base nodes_are.
    let depth = length c.args.into.now in
    let over = c.args.i / 2 ^ (depth - 1) in
    let nodes = c.args.nodes.now in
    let n = length nodes / 2 - 1 in
    let long = half_long (length nodes) depth c.requires.whole (omega arith) in
    let some = half_some (length nodes) depth c.requires.whole (omega arith) in
    let even : over % 2 ≡ 0 = ap (λ p. c.args.i / p % 2) (sym c.pow.ensures) ∙ c.if-over-eq0.true in
    path_more leaf join base depth c.args.i n _ c.read_path.new.into c.args.into.now (omega arith) refl (omega arith)
    (second_half leaf join base depth (c.args.i / 2 ^ depth) _ nodes (omega arith) nodes_are
    (even_second c.args.i depth over (omega arith) refl even))
    (read_below leaf join base _ (depth - 1) c.args.i _ c.read_path.new.into
    (length_below c.args.into.now (depth - 1) _ (omega arith))
    (c.read_path.ensures leaf join base)
    (first_half leaf join base depth (c.args.i / 2 ^ depth) _ nodes (omega arith) nodes_are
    (even_first c.args.i depth over (omega arith) refl even)))

pub returns-else-over-eq0 : goal.returns-else-over-eq0
returns-else-over-eq0 t c = λ leaf join base nodes_are.
    let depth = length c.args.into.now in
    let over = c.args.i / 2 ^ (depth - 1) in
    let nodes = c.args.nodes.now in
    let n = length nodes / 2 - 1 in
    let long = half_long (length nodes) depth c.requires.whole (omega arith) in
    let some = half_some (length nodes) depth c.requires.whole (omega arith) in
    let odd : over % 2 ≢ 0 = λ e. c.if-over-eq0.false (ap (λ p. c.args.i / p % 2) c.pow.ensures ∙ e) in
    path_more leaf join base depth c.args.i n _ c.read_path-else-over-eq0.new.into c.args.into.now (omega arith) refl
    (omega arith)
    (first_half leaf join base depth (c.args.i / 2 ^ depth) _ nodes (omega arith) nodes_are
    (odd_first c.args.i depth over (omega arith) refl odd))
    (read_below leaf join base _ (depth - 1) c.args.i _ c.read_path-else-over-eq0.new.into
    (length_below c.args.into.now (depth - 1) _ (omega arith))
    (c.read_path-else-over-eq0.ensures leaf join base)
    (second_half leaf join base depth (c.args.i / 2 ^ depth) _ nodes (omega arith) nodes_are
    (odd_second c.args.i depth over (omega arith) refl odd)))
