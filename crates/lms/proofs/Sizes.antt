-- How many bytes the spelling of a public key has.
use Rattle.typecodes.specs.Types.{lms_code, lms_types, ots_code, ots_types}
use Rattle.typecodes.specs.Fields.{block, lms_type, ots_type}
use Rattle.typecodes.proofs.Sizes.{HasSize, size-bind, size-block, size-done, size-typed}
use Rattle.lms.specs.Key.{public_key}
use Rattle.lms.proofs.After.{after_identifier, after_key_tree, after_root, after_types}

pub size-public_key : HasSize public_key 56
unfolding public_key lms_type ots_type
size-public_key =
    size-bind lms_type after_key_tree 4 52 (size-typed lms_code lms_types) (λ tree.
    size-bind ots_type (after_types tree) 4 48 (size-typed ots_code ots_types) (λ ots.
    size-bind (block 16) (after_identifier tree ots) 16 32 (size-block 16) (λ identifier.
    size-bind (block 32) (after_root tree ots identifier) 32 0 (size-block 32) (λ root. size-done _))))
