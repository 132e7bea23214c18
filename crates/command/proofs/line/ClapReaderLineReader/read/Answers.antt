use Rattle.std.proofs.Common.{rules, ◌∙◌, ap, map}
use Rattle.clap.specs.Words.{kind_of}
use Rattle.command.specs.Line.{task_of}
use Rattle.command.specs.LineFault.{line_faults}
use Rattle.command.proofs.Accepting.{is_line_of, no_line_faults, same_task, task_has_no_faults}
use Rattle.command.proofs.Finding.{only_memory}
use Rattle.command.proofs.AuditLines.{length_fits, shown_line}
use Rattle.command.proofs.line.ClapReaderLineReader.read.Goals.{in-OutOfMemory, in_default}
use Rattle.command.proofs.line.ClapReaderLineReader.read.Goals as goal

pub returns-in-Ok-clause-requests : goal.returns-in-Ok-clause-requests
returns-in-Ok-clause-requests g c task line =
    same_task (map g.S.AsStr.text c.args.words.now) (task_of c.in-Ok.request) task c.in-Ok.ensures.found line

pub returns-in-Ok-clause-ok : goal.returns-in-Ok-clause-ok
returns-in-Ok-clause-ok g c =
    no_line_faults (map g.S.AsStr.text c.args.words.now) (task_of c.in-Ok.request) c.in-Ok.ensures.ok c.in-Ok.ensures.found

pub returns-in-Ok-clause-accepts : goal.returns-in-Ok-clause-accepts
returns-in-Ok-clause-accepts g c texts =
    is_line_of (map g.S.AsStr.text c.args.words.now) (task_of c.in-Ok.request) c.in-Ok.ensures.ok c.in-Ok.ensures.found texts

pub returns-in-Err-2-clause-requests : goal.returns-in-Err-2-clause-requests
returns-in-Err-2-clause-requests g c task line =
    let words = map g.S.AsStr.text c.args.words.now in
    let memory = only_memory (line_faults words) c.in-Err-2.error (task_has_no_faults words task line) c.in-Err-2.ensures.err in
    elim c.match-matches.branch [
      | in-OutOfMemory w ↦ absurd (let same = w.matches-is in let other = c.if-matches.false in cc)
      | in_default w ↦ absurd (w.in_default.not-OutOfMemory (c.kind.ensures ∙ ap kind_of c.in-Err-2.error-is ∙ memory))
    ]

pub returns-in-Ok-clause-shown : goal.returns-in-Ok-clause-shown
returns-in-Ok-clause-shown g c task line = shown_line (map g.S.AsStr.text c.args.words.now) task (length_fits g.S.AsStr.text c.args.words.now (search rules)) line

pub returns-in-Err-clause-shown : goal.returns-in-Err-clause-shown
returns-in-Err-clause-shown g c task line = shown_line (map g.S.AsStr.text c.args.words.now) task (length_fits g.S.AsStr.text c.args.words.now (search rules)) line

pub returns-in-Err-2-clause-shown : goal.returns-in-Err-2-clause-shown
returns-in-Err-2-clause-shown g c task line = shown_line (map g.S.AsStr.text c.args.words.now) task (length_fits g.S.AsStr.text c.args.words.now (search rules)) line
