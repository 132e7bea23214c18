-- What a view of a signature's bytes shows.
use Rattle.lms.specs.declared.signature.LmsSigView.{LmsSigView}
use denote.Bor.{Bor}
use Rattle.std.specs.Prelude.{ℕ, List}
use Rattle.typecodes.specs.declared.types.LmsPair.{LmsPair}
use Rattle.lms.specs.Signature.{Signature}

abbrev pub signature_of : LmsSigView → Signature
signature_of view = record {
  pair = view.pair;
  q = view.q;
  randomizer = view.randomizer.now;
  chains = view.chains.now;
  path = view.path.now;
}

abbrev pub pair_of : LmsSigView → LmsPair
pair_of view = view.pair

-- the bytes that spell the signature, as they were lent
abbrev pub lent_of : LmsSigView → Bor (List ℕ)
lent_of view = view.bytes

-- and as a list
abbrev pub bytes_of : LmsSigView → List ℕ
bytes_of view = view.bytes.now
