use Rattle.std.proofs.Common.{ap, arith}
use Rattle.state_file.specs.Laws.{levels_of}
use Rattle.sign_core.specs.Ledger.{Table}
use Rattle.sign_core.proofs.ledgers.Reading.{deepest_found, deepest_nowhere, none_free_up}
use Rattle.sign_core.proofs.ledger.Ledger.deepest.Goals as goal

pub loop-level-init : goal.loop-level-init
loop-level-init c = λ below after within.
    absurd (omega (arith, after, within, c.levels-level.ensures, ap (λ (t : Table). levels_of t.key.secret) c.self.view_is))

pub returns-then-free_leaves-gt0 : goal.returns-then-free_leaves-gt0
returns-then-free_leaves-gt0 c =
    deepest_found c.args.self.now.key.secret c.args.self.now.records c.loop-level.level c.loop-level-test.true
    (omega (arith, c.loop-level.auto.level, c.levels-level.ensures, ap (λ (t : Table). levels_of t.key.secret) c.self.view_is))
    (omega (arith, c.if-free_leaves-gt0.true, c.free_leaves.ensures)) c.loop-level.invariant

pub loop-level-preserved : goal.loop-level-preserved
loop-level-preserved c =
    none_free_up c.args.self.now.key.secret c.args.self.now.records c.loop-level.level (omega (arith, c.if-free_leaves-gt0.false, c.free_leaves.ensures))
    c.loop-level.invariant

pub returns : goal.returns
returns c =
    deepest_nowhere c.args.self.now.key.secret c.args.self.now.records
    (λ below after within. c.loop-level.invariant below (omega (arith, c.loop-level-test.false)) within)
