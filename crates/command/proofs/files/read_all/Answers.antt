use Rattle.std.proofs.Common.{rules, ◌∙◌, inl, inr, refl, ap, Err}
use Rattle.std.specs.IoError.{error_kind}
use Rattle.std.specs.declared.io.ErrorKind.TheVariants.{FileTooLarge}
use Rattle.command.proofs.Reading.{kept_all, rest_endless, rest_failed, rest_refused, too_large}
use Rattle.command.proofs.files.read_all.Goals as goal

pub returns-in-Ok-clause-reads : goal.returns-in-Ok-clause-reads
returns-in-Ok-clause-reads g c = kept_all _ _ _ (λ kept. kept.bytes.items) _ _ _ _ _ _ (search rules) (λ old bytes new took. took) c.in-Ok.is c.read_rest.ensures.reads

pub returns-in-Err-Failed-clause-reads : goal.returns-in-Err-Failed-clause-reads
returns-in-Err-Failed-clause-reads g c =
    let fails = rest_failed _ _ _ _ _ _ _ _ _ (c.in-Err-Failed.is ∙ ap Err c.in-Err-Failed.field-0-is) c.read_rest.ensures.reads in
    inl (error_kind c.in-Err-Failed.error, search rules, fails)

pub returns-in-Err-TooLong-clause-reads : goal.returns-in-Err-TooLong-clause-reads
returns-in-Err-TooLong-clause-reads g c =
    inl (FileTooLarge, refl, rest_endless _ _ _ _ _ _ _ _ _ (c.in-Err-TooLong.is ∙ ap Err c.in-Err-TooLong.field-0-is) c.read_rest.ensures.reads (too_large _ refl))

pub returns-clause-reads : goal.returns-clause-reads
returns-clause-reads g c =
    inr (refl, rest_refused _ _ _ _ _ _ _ _ _ (c.in-Err-Refused.is ∙ ap Err c.in-Err-Refused.field-0-is) c.read_rest.ensures.reads (λ old piece new some. some))
