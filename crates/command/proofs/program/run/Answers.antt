use Rattle.std.proofs.Common.{◌≡◌, inl, sym}
use Rattle.command.specs.Line.{task_of}
use Rattle.command.specs.Streams.{output_seen, streams, taken}
use Rattle.command.proofs.ServeLines.{errors_kept, nothing_of_fault, replies_of_task}
use Rattle.command.proofs.program.run.Goals as goal

pub returns-in-Ok-clause-runs : goal.returns-in-Ok-clause-runs
returns-in-Ok-clause-runs g c =
    inl (c.in-Ok.ensures.ok, (task_of c.in-Ok.request, c.in-Ok.ensures.finds, c.in-Ok.ensures.accepts, c.fulfil.ensures.reports))

pub returns-in-Ok-clause-requests : goal.returns-in-Ok-clause-requests
returns-in-Ok-clause-requests g c task line =
    let same : task ≡ task_of c.in-Ok.request = sym (c.in-Ok.ensures.requests task line) in inl (rw same c.fulfil.ensures.reports)

pub returns-in-Ok-clause-replies : goal.returns-in-Ok-clause-replies
returns-in-Ok-clause-replies g c texts asks =
    let errors = taken g.E.Write.contents g.E.Output.failures in
    replies_of_task _ _ _ _ (output_seen g.O.Write.contents g.O.Output.failures) _ _ (task_of c.in-Ok.request) _ _
    (streams c.args.input.now c.args.output.now (errors c.args.errors.now))
    (streams c.fulfil.new.input c.fulfil.new.output (errors c.fulfil.new.errors)) c.fulfil.result c.in-Ok.ensures.finds asks c.fulfil.ensures.reports

pub returns-in-Err-clause-replies : goal.returns-in-Err-clause-replies
returns-in-Err-clause-replies g c texts asks =
    inl (nothing_of_fault _ c.begins_with_serve.result c.in-Err.fault _ _ _ _ _ c.begins_with_serve.ensures texts asks c.in-Err.ensures.err c.explain.ensures.explains)

pub returns-in-Err-clause-accepted : goal.returns-in-Err-clause-accepted
returns-in-Err-clause-accepted g c none =
    errors_kept _ c.begins_with_serve.result c.in-Err.fault _ _ _ _ _ c.begins_with_serve.ensures none c.in-Err.ensures.err c.explain.ensures.explains

pub returns-in-Ok-clause-notes : goal.returns-in-Ok-clause-notes
returns-in-Ok-clause-notes g c = inl c.fulfil.ensures.notes
