use Rattle.std.proofs.Common.{◌≡◌, ◌∙◌, inl, inr, refl, length, take, ap, rules}
use Rattle.std.specs.IoError.{error_kind}
use Rattle.command.proofs.Contents.{failed_read, first_of}
use Rattle.command.proofs.Deciding.{decisive_is}
use Rattle.command.proofs.Judging.{judgement_answers}
use Rattle.command.proofs.MessageReading.{message-stays, noted-message}
use Rattle.command.proofs.Reading.{fills_same}
use Rattle.command.proofs.verify.judge_files.Goals as goal

pub returns-in_err-key-clause-answers : goal.returns-in_err-key-clause-answers
returns-in_err-key-clause-answers g c = failed_read _ _ _ (error_kind c.in_err-key.field-0.0) c.from_residual.result c.from_residual.ensures.1

pub returns-in_err-n-clause-answers : goal.returns-in_err-n-clause-answers
returns-in_err-n-clause-answers g c = failed_read _ _ _ (error_kind c.in_err-n.field-0.0) c.from_residual-in_err-n.result c.from_residual-in_err-n.ensures.1

pub returns-clause-answers : goal.returns-clause-answers
returns-clause-answers g c =
    let buffer = c.read_into.new.buffer in
    let size : length buffer ≡ 74989 = search rules in
    let (p, p_fits, reads, p_reads) = c.in_ok-key.ensures.reads in
    let (s, s_fits, s_is) = first_of 74989 c.in_ok-n.n _ _ buffer size c.in_ok-n.ensures.within c.in_ok-n.ensures.bytes c.in_ok-n.ensures.end in
    let (m, m_fits, judged, leaves) = c.judge-answer.ensures.judges p s reads (inr (s_is ∙ ap (λ n. take n s) decisive_is)) in
    (p, m, s, p_fits, m_fits, s_fits, judgement_answers p m s c.judge-answer.result judged)

pub returns-clause-order : goal.returns-clause-order
returns-clause-order g c =
    let buffer = c.read_into.new.buffer in
    let size : length buffer ≡ 74989 = search rules in
    let s = take c.in_ok-n.n buffer in
    let (p, p_fits, reads, p_reads) = c.in_ok-key.ensures.reads in
    let fills = fills_same _ _ _ s _ _ (size ∙ decisive_is) c.in_ok-n.ensures.trace in
    let (m, m_fits, judged, leaves) = c.judge-answer.ensures.judges p s reads (inl refl) in
    let folder = message-stays _ _ (λ reader. reader.folder.ghost_name) (λ old outcome new step. step.0) _ _ _ _ _ leaves in
    let message = noted-message _ _ (λ reader. g.D.File.OpenFile.role reader.file.now) (λ reader. g.D.Traced.trace reader.folder.now)
    (record { role = λ old outcome new step. step.2; trace = λ old outcome new step. step.3 }) _ _ _ _ _ leaves in
    inr (inr (p, s, g.D.Traced.trace c.read_key.new.folder, g.D.Traced.trace c.read_into.new.folder, p_reads, fills, (m, judged, search rules)))
