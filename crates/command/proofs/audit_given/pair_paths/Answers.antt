use Rattle.std.proofs.Common.{rules, ◌+◌, ◌*◌, ◌/◌, ◌<◌, length, refl, sym, arith}
use Rattle.std.proofs.lemmas.List.{length-map}
use Rattle.command.specs.AuditGiven.{pair_of}
use Rattle.command.proofs.Pairs.{odd_has_none, pairs_none, pairs_taken}
use Rattle.command.proofs.audit_given.pair_paths.Goals as goal

pub returns-then-paths-ne0 : goal.returns-then-paths-ne0
returns-then-paths-ne0 c =
    let size = length-map c.args.paths.now (λ path. path.now) in
    sym (odd_has_none _ (length c.args.paths.now / 2) (omega (arith, size)))

pub loop-i-init : goal.loop-i-init
loop-i-init c = pairs_none pair_of _ (search rules)

pub loop-i-preserved : goal.loop-i-preserved
loop-i-preserved c =
    let within : 2 * c.loop-i.i + 1 < length c.args.paths.now = omega arith in
    pairs_taken (λ path. path.now) pair_of c.args.paths.now c.loop-i.files.items _ c.loop-i.i _ _ within refl c.in_ok-push.ensures.items c.loop-i.invariant
