-- Public keys and signatures have one spelling.
use Rattle.std.proofs.Common.{◌≡◌, ◌^◌, ℕ, true, false, cond, refl, sym, nat_lt}
use Rattle.typecodes.specs.declared.fault.Cause.TheVariants.{LeafOutOfRange}
use Rattle.typecodes.specs.declared.types.XmssType.{XmssType}
use Rattle.typecodes.specs.Types.{xmss_height_of}
use Rattle.typecodes.specs.Layout.{done, refuse, Spells, OneSpelling, Shows}
use Rattle.typecodes.specs.Fields.{number, block, values, xmss_type}
use Rattle.typecodes.proofs.OneWay.{one_way-bind, one_way-block, one_way-done, one_way-number, one_way-refuse, one_way-values, one_way-xmss_type}
use Rattle.typecodes.proofs.Ways.{Way, way-bind, way-done, one_way-if}
use Rattle.xmss.specs.Signature.{leaf_index, signature}
use Rattle.xmss.specs.Key.{public_key}
use Rattle.xmss.proofs.After.{after_chains, after_index, after_randomizer, after_root, after_seed, after_tree, checked}

pub one_way-public_key : OneSpelling public_key
unfolding public_key
one_way-public_key =
    let way : Way public_key (λ _. Unit {0}) =
    way-bind xmss_type after_tree (λ key. key.tree) _ one_way-xmss_type (λ tree.
    way-bind (block 32) (after_root tree) (λ key. key.root) _ (one_way-block 32) (λ root.
    way-bind (block 32) (after_seed tree root) (λ key. key.seed) _ (one_way-block 32) (λ seed.
    way-done _ _ (refl, (refl, (refl, tt)))))) in
    way.one

-- an accepted index is the one that was read
checked_shows : (h index : ℕ) → Shows (checked h index) (λ i. i) index
checked_shows h index v bytes =
    elim (nat_lt index (2 ^ h)) as (λ leaf. Spells (cond leaf (done index) (refuse 4 LeafOutOfRange)) v bytes → v ≡ index) [
      | true ↦ λ spelled. sym spelled.0
      | false ↦ λ spelled. absurd spelled
    ]

one_way-leaf_index : (h : ℕ) → OneSpelling (leaf_index h)
unfolding leaf_index
one_way-leaf_index h =
    one_way-bind number (checked h) (λ index. index) one_way-number
    (λ index. one_way-if (nat_lt index (2 ^ h)) (done index) (refuse 4 LeafOutOfRange) (one_way-done index) (one_way-refuse 4 LeafOutOfRange))
    (checked_shows h)

pub one_way-signature : (tree : XmssType) → OneSpelling (signature tree)
unfolding signature
one_way-signature tree =
    let h = xmss_height_of tree in
    let way : Way (signature tree) (λ _. Unit {0}) =
    way-bind (leaf_index h) (after_index tree) (λ s. s.index) _ (one_way-leaf_index h) (λ index.
    way-bind (block 32) (after_randomizer tree index) (λ s. s.randomizer) _ (one_way-block 32) (λ randomizer.
    way-bind (values 67) (after_chains tree index randomizer) (λ s. s.chains) _ (one_way-values 67) (λ chains.
    way-bind (values h) (λ path. done (record { index = index; randomizer = randomizer; chains = chains; path = path })) (λ s. s.path) _ (one_way-values h) (λ path.
    way-done _ _ (refl, (refl, (refl, (refl, tt)))))))) in
    way.one
