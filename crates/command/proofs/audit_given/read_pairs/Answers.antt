use Rattle.std.proofs.Common.{◌≡◌, ◌∙◌, ◌<◌, ◌++◌, ◌∷◌, [], ◌+◌, rules, arith, length, refl}
use Rattle.command.specs.AuditGiven.{pair_of}
use Rattle.command.proofs.PairsReading.{handed_on, next_fails, no_room, one_more_of, reads_none, reads_one_more, same_failure, same_pair, stands_at}
use Rattle.command.proofs.audit_given.read_pairs.Goals as goal

pub loop-pair-init : goal.loop-pair-init
loop-pair-init g c =
    let none : c.new-given.result.items ≡ [] = search rules in
    (reads_none (g.D.Folder.content c.args.folder.now) _ _ none, λ path. refl)

pub returns-in_err-read : goal.returns-in_err-read
returns-in_err-read g c =
    let k = c.loop-pair.pair-index in
    let within : k < length c.args.files.now = search rules in
    handed_on _ _ c.from_residual.result c.in_err-read.field-0.0 c.from_residual.ensures.1
    (next_fails (g.D.Folder.content c.args.folder.now) pair_of c.args.files.now k c.loop-pair.given.items _ _ _ _ _ c.loop-pair.invariant.0 (stands_at pair_of c.args.files.now k _ within)
    (same_failure (g.D.Folder.content c.args.folder.now) (g.D.Folder.content c.loop-pair.folder) _ _ _ _ c.loop-pair.invariant.1 c.in_err-read.ensures.reads))

pub loop-pair-preserved : goal.loop-pair-preserved
loop-pair-preserved g c =
    let k = c.loop-pair.pair-index in
    let within : k < length c.args.files.now = search rules in
    let grown : c.push.new.self.items ≡ c.loop-pair.given.items ++ c.in_ok-read.read ∷ [] = search rules in
    let read = same_pair (g.D.Folder.content c.args.folder.now) (g.D.Folder.content c.loop-pair.folder) _ c.in_ok-read.read _ _ c.loop-pair.invariant.1 c.in_ok-read.ensures.reads in
    let all = reads_one_more (g.D.Folder.content c.args.folder.now) _ _ _ c.in_ok-read.read _ _ _ c.loop-pair.invariant.0 read in (
      one_more_of (g.D.Folder.content c.args.folder.now) pair_of c.args.files.now k _ _ _ _ _ within grown all,
      λ path. c.in_ok-read.ensures.content path ∙ c.loop-pair.invariant.1 path,
    )

pub returns-then-is_err : goal.returns-then-is_err
returns-then-is_err g c =
    let k = c.loop-pair.pair-index in
    let within : k < length c.args.files.now = search rules in
    let read = same_pair (g.D.Folder.content c.args.folder.now) (g.D.Folder.content c.loop-pair.folder) _ c.in_ok-read.read _ _ c.loop-pair.invariant.1 c.in_ok-read.ensures.reads in
    let all = reads_one_more (g.D.Folder.content c.args.folder.now) _ _ _ c.in_ok-read.read _ _ _ c.loop-pair.invariant.0 read in
    let given = c.loop-pair.given.items ++ c.in_ok-read.read ∷ [] in
    no_room (g.D.Folder.content c.args.folder.now) pair_of c.args.files.now (k + 1) given _ _ _
    (one_more_of (g.D.Folder.content c.args.folder.now) pair_of c.args.files.now k _ given given _ _ within refl all) (omega arith) refl
