-- Public keys and signatures are spelled in one way.
use Rattle.std.proofs.Common.{ℕ, ◌^◌, refl, nat_lt}
use Rattle.typecodes.specs.declared.fault.Cause.TheVariants.{LeafOutOfRange}
use Rattle.typecodes.specs.declared.types.OtsType.{OtsType}
use Rattle.typecodes.specs.declared.types.LmsType.{LmsType}
use Rattle.typecodes.specs.Types.{chains_of, height_of}
use Rattle.typecodes.specs.Layout.{OneSpelling, done, refuse}
use Rattle.typecodes.specs.Fields.{number, block, values, ots_type, lms_type}
use Rattle.typecodes.proofs.OneWay.{one_way-block, one_way-number, one_way-ots_type, one_way-lms_type, one_way-refuse, one_way-values}
use Rattle.typecodes.proofs.Ways.{Way, way-bind, way-done, one_way-if}
use Rattle.lms.specs.Key.{public_key}
use Rattle.lms.specs.Signature.{signature, type_end}
use Rattle.lms.proofs.After.{after_chains, after_identifier, after_q, after_key_tree, after_ots, after_randomizer, after_root, after_tree, after_types, path_at}

pub one_way-public_key : OneSpelling public_key
unfolding public_key
one_way-public_key =
    let way : Way public_key (λ _. Unit {0}) =
    way-bind lms_type after_key_tree (λ key. key.pair.tree) _ one_way-lms_type (λ tree.
    way-bind ots_type (after_types tree) (λ key. key.pair.ots) _ one_way-ots_type (λ ots.
    way-bind (block 16) (after_identifier tree ots) (λ key. key.identifier) _ (one_way-block 16) (λ identifier.
    way-bind (block 32) (after_root tree ots identifier) (λ key. key.root) _ (one_way-block 32) (λ root.
    way-done _ _ (refl, (refl, (refl, (refl, tt)))))))) in
    way.one

one_way-path : (q : ℕ) (ots : OtsType) (tree : LmsType) → OneSpelling (path_at q ots tree)
one_way-path q ots tree =
    one_way-if (nat_lt q (2 ^ height_of tree)) (values (height_of tree)) (refuse (type_end ots) LeafOutOfRange)
    (one_way-values (height_of tree)) (one_way-refuse (type_end ots) LeafOutOfRange)

pub one_way-signature : OneSpelling signature
unfolding signature
one_way-signature =
    let way : Way signature (λ _. Unit {0}) =
    way-bind number after_q (λ s. s.q) _ one_way-number (λ q.
    way-bind ots_type (after_ots q) (λ s. s.pair.ots) _ one_way-ots_type (λ ots.
    way-bind (block 32) (after_randomizer q ots) (λ s. s.randomizer) _ (one_way-block 32) (λ randomizer.
    way-bind (values (chains_of ots)) (after_chains q ots randomizer) (λ s. s.chains) _ (one_way-values (chains_of ots)) (λ chains.
    way-bind lms_type (after_tree q ots randomizer chains) (λ s. s.pair.tree) _ one_way-lms_type (λ tree.
    way-bind (path_at q ots tree) (λ path. done (record { pair = record { tree = tree; ots = ots }; q = q; randomizer = randomizer; chains = chains; path = path })) (λ s. s.path) _ (one_way-path q ots tree) (λ path.
    way-done _ _ (refl, (refl, (refl, (refl, (refl, (refl, tt)))))))))))) in
    way.one
