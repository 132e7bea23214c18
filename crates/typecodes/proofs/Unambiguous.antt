-- A layout whose values are spelled in one way is unambiguous.
use Rattle.typecodes.specs.Layout.{IsUnambiguous, Layout, OneSpelling}
use Rattle.typecodes.proofs.Spelling.{no_longer, one_value}

pub unambiguous : {V : Type 0} (layout : Layout V) → OneSpelling layout → IsUnambiguous layout
unambiguous layout one = record {
  one_spelling = one;
  one_value = one_value layout;
  no_longer = λ v w a b first second. (no_longer layout v w a b first second).0;
}
