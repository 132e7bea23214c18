use Rattle.std.proofs.Common.{◌≡◌, ◌∙◌, [], length, arith, refl, ap, sym, Err}
use Rattle.std.specs.IoError.{error_kind}
use Rattle.command.specs.Files.{FailsToRead}
use Rattle.command.proofs.Reading.{rest_ended, rest_endless, rest_failed, too_large, via}
use Rattle.command.proofs.files.count_rest.Goals as goal

pub returns-in-Ok-clause-counts : goal.returns-in-Ok-clause-counts
returns-in-Ok-clause-counts g c =
    let (bytes, fits, counts, short, reads) = rest_ended _ _ _ _ _ _ _ _ _ c.in-Ok.is c.read_rest.ensures.reads in
    (bytes, fits, counts [] (λ within_limit. refl) (omega (arith, short)), reads)

pub returns-in-Ok-clause-bound : goal.returns-in-Ok-clause-bound
returns-in-Ok-clause-bound g c =
    let (bytes, fits, counts, short, reads) = rest_ended _ _ _ _ _ _ _ _ _ c.in-Ok.is c.read_rest.ensures.reads in
    let is : c.read_rest.new.taker.bytes ≡ length bytes = counts [] (λ within_limit. refl) (omega (arith, short)) in
    omega (arith, short, is)

pub returns-in-Err-Failed-clause-counts : goal.returns-in-Err-Failed-clause-counts
returns-in-Err-Failed-clause-counts g c =
    via (λ e. FailsToRead (g.D.File.OpenFile.role c.args.file.now) (error_kind e) (g.D.Traced.trace c.args.folder.now) (g.D.Traced.trace c.read_rest.new.folder))
    c.in-Err-Failed.error _ (rest_failed _ _ _ _ _ _ _ _ _ (c.in-Err-Failed.is ∙ ap Err c.in-Err-Failed.field-0-is) c.read_rest.ensures.reads) (sym c.in-Err-Failed.error-is)

pub returns-in-Err-TooLong-clause-counts : goal.returns-in-Err-TooLong-clause-counts
returns-in-Err-TooLong-clause-counts g c =
    rest_endless _ _ _ _ _ _ _ _ _ (c.in-Err-TooLong.is ∙ ap Err c.in-Err-TooLong.field-0-is) c.read_rest.ensures.reads (too_large _ c.from.ensures)
