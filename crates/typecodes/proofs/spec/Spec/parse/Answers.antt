use Rattle.std.proofs.Common.{rules}
use Rattle.typecodes.proofs.SpecTexts.{only_spec}
use Rattle.typecodes.proofs.spec.Spec.parse.Goals as goal

pub returns-in-Some-strip_prefix-clause-unique : goal.returns-in-Some-strip_prefix-clause-unique
returns-in-Some-strip_prefix-clause-unique c = only_spec c.args.text.now _ (search rules) (search rules) tt
