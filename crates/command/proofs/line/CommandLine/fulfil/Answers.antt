use Rattle.std.proofs.Common.{inl, refl}
use Rattle.command.proofs.line.CommandLine.fulfil.Goals as goal

pub returns-in-Sign-clause-notes : goal.returns-in-Sign-clause-notes
returns-in-Sign-clause-notes g c = inl c.report-in-Sign.ensures.notes

pub returns-in-Verify-clause-notes : goal.returns-in-Verify-clause-notes
returns-in-Verify-clause-notes g c = inl c.report-in-Verify.ensures.notes

pub returns-in-Migrate-clause-reports : goal.returns-in-Migrate-clause-reports
returns-in-Migrate-clause-reports g c =
    rw c.in-Migrate.is (c.answer-in-Migrate.result, c.answer-in-Migrate.ensures, c.report-in-Migrate.ensures.reports, refl, refl)
