-- What follows each field of a public key and of a signature in this crate's layouts. xmss has such a file for its own.
use Rattle.std.proofs.Common.{ℕ, ◌^◌, List}
use Rattle.std.specs.Prelude.{nat_lt, if◌then◌else◌}
use Rattle.typecodes.specs.declared.fault.Cause.TheVariants.{LeafOutOfRange}
use Rattle.typecodes.specs.declared.types.OtsType.{OtsType}
use Rattle.typecodes.specs.declared.types.LmsType.{LmsType}
use Rattle.typecodes.specs.Types.{chains_of, height_of}
use Rattle.typecodes.specs.Layout.{Layout, done, refuse, ◌>>=◌}
use Rattle.typecodes.specs.Fields.{block, lms_type, ots_type, values}
use Rattle.lms.specs.declared.key.LmsPublic.{LmsPublic}
use Rattle.lms.specs.Signature.{Signature, type_end}

-- of a public key
abbrev pub after_root : LmsType → OtsType → List ℕ → List ℕ → Layout LmsPublic
after_root tree ots identifier root =
    done (record { pair = record { tree = tree; ots = ots }; identifier = identifier; root = root })

abbrev pub after_identifier : LmsType → OtsType → List ℕ → Layout LmsPublic
after_identifier tree ots identifier = block 32 >>= after_root tree ots identifier

abbrev pub after_types : LmsType → OtsType → Layout LmsPublic
after_types tree ots = block 16 >>= after_identifier tree ots

abbrev pub after_key_tree : LmsType → Layout LmsPublic
after_key_tree tree = ots_type >>= after_types tree

-- of a signature
abbrev pub path_at : ℕ → OtsType → LmsType → Layout (List (List ℕ))
path_at q ots tree =
    if nat_lt q (2 ^ height_of tree) then values (height_of tree) else refuse (type_end ots) LeafOutOfRange

abbrev pub after_tree : ℕ → OtsType → List ℕ → List (List ℕ) → LmsType → Layout Signature
after_tree q ots randomizer chains tree = path_at q ots tree
    >>= λ path. done (record { pair = record { tree = tree; ots = ots }; q = q; randomizer = randomizer; chains = chains; path = path })

abbrev pub after_chains : ℕ → OtsType → List ℕ → List (List ℕ) → Layout Signature
after_chains q ots randomizer chains = lms_type >>= after_tree q ots randomizer chains

abbrev pub after_randomizer : ℕ → OtsType → List ℕ → Layout Signature
after_randomizer q ots randomizer = values (chains_of ots) >>= after_chains q ots randomizer

abbrev pub after_ots : ℕ → OtsType → Layout Signature
after_ots q ots = block 32 >>= after_randomizer q ots

abbrev pub after_q : ℕ → Layout Signature
after_q q = ots_type >>= after_ots q
