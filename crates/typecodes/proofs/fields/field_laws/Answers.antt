use Rattle.typecodes.proofs.Codes.{named-has, named-none, none-named}
use Rattle.typecodes.proofs.OneWay.{one_way-block, one_way-number, one_way-typed, one_way-values}
use Rattle.typecodes.proofs.fields.field_laws.Goals as goal

pub returns-clause-number : goal.returns-clause-number
returns-clause-number g c = one_way-number

pub returns-clause-values : goal.returns-clause-values
returns-clause-values g c = one_way-values

pub returns-clause-typed : goal.returns-clause-typed
returns-clause-typed g c = one_way-typed

pub returns-clause-block : goal.returns-clause-block
returns-clause-block g c = one_way-block

pub returns-clause-named : goal.returns-clause-named
returns-clause-named g c = named-has

pub returns-clause-unnamed : goal.returns-clause-unnamed
returns-clause-unnamed g c = λ code types c. (named-none code types c, none-named code types c)
