use Rattle.std.proofs.Common.{sym, subst}
use Rattle.typecodes.specs.Layout.{Spells, sequenced}
use Rattle.typecodes.proofs.OneWay.{one_way-bind}
use Rattle.typecodes.proofs.Read.{read-bind}
use Rattle.typecodes.proofs.Readers.{reads-from_gives}
use Rattle.typecodes.proofs.Spelling.{from_turn, in_turn}
use Rattle.typecodes.proofs.layout.following_laws.Goals as goal

pub returns-clause-in_turn : goal.returns-clause-in_turn
returns-clause-in_turn g c =
    λ first next w bytes.
    (in_turn first next w bytes, λ (v, a, b, bytes_are, spelled, after). subst (Spells (sequenced first next) w) (sym bytes_are) (from_turn first next v w a b spelled after))

pub returns-clause-read_on : goal.returns-clause-read_on
returns-clause-read_on g c = read-bind

pub returns-clause-one_spelling : goal.returns-clause-one_spelling
returns-clause-one_spelling g c = one_way-bind

pub returns-clause-reader : goal.returns-clause-reader
returns-clause-reader g c = reads-from_gives
