-- What a view of a signature's bytes shows.
use denote.Bor.{Bor}
use Rattle.std.specs.Prelude.{ℕ, List}
use Rattle.typecodes.specs.declared.types.XmssType.{XmssType}
use Rattle.xmss.specs.declared.signature.XmssSigView.{XmssSigView}
use Rattle.xmss.specs.Signature.{Signature}

abbrev pub signature_of : XmssSigView → Signature
signature_of view = record {
  index = view.index;
  randomizer = view.randomizer.now;
  chains = view.chains.now;
  path = view.path.now;
}

abbrev pub tree_of : XmssSigView → XmssType
tree_of view = view.tree

-- its bytes, as borrowed
abbrev pub lent_of : XmssSigView → Bor (List ℕ)
lent_of view = view.bytes

abbrev pub bytes_of : XmssSigView → List ℕ
bytes_of view = view.bytes.now
