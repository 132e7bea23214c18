-- The words of an address, by its type (RFC 8391 2.5).
use Rattle.std.specs.Prelude.{ℕ, List}
use Rattle.wots_plus.specs.declared.address.Address.{Address}
use Rattle.wots_plus.specs.declared.address.Address.TheVariants.{OneTime, LTree, HashTree}
use Rattle.wots_plus.specs.Address.{words}

abbrev pub words_of : Address → ℕ → List ℕ
words_of (OneTime leaf chain hash) mask = words 0 leaf chain hash mask
words_of (LTree leaf height index) mask = words 1 leaf height index mask
words_of (HashTree height index) mask = words 2 0 height index mask
