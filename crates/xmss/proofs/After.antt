-- The rest of this crate's layouts after each field. lms has such a file for its own.
use Rattle.std.proofs.Common.{ℕ, ◌^◌, List, nat_lt, if◌then◌else◌}
use Rattle.typecodes.specs.declared.fault.Cause.TheVariants.{LeafOutOfRange}
use Rattle.typecodes.specs.declared.types.XmssType.{XmssType}
use Rattle.typecodes.specs.Types.{xmss_height_of}
use Rattle.typecodes.specs.Layout.{Layout, done, refuse, ◌>>=◌}
use Rattle.typecodes.specs.Fields.{block, values}
use Rattle.xmss.specs.declared.key.XmssPublic.{XmssPublic}
use Rattle.xmss.specs.Signature.{Signature}

abbrev pub after_seed : XmssType → List ℕ → List ℕ → Layout XmssPublic
after_seed tree root seed = done (record { tree = tree; root = root; seed = seed })

abbrev pub after_root : XmssType → List ℕ → Layout XmssPublic
after_root tree root = block 32 >>= after_seed tree root

abbrev pub after_tree : XmssType → Layout XmssPublic
after_tree tree = block 32 >>= after_root tree

-- an index is refused unless it is a leaf's
abbrev pub checked : ℕ → ℕ → Layout ℕ
checked h index = if nat_lt index (2 ^ h) then done index else refuse 4 LeafOutOfRange

abbrev pub after_chains : XmssType → ℕ → List ℕ → List (List ℕ) → Layout Signature
after_chains tree index randomizer chains =
    values (xmss_height_of tree) >>= λ path. done (record { index = index; randomizer = randomizer; chains = chains; path = path })

abbrev pub after_randomizer : XmssType → ℕ → List ℕ → Layout Signature
after_randomizer tree index randomizer = values 67 >>= after_chains tree index randomizer

abbrev pub after_index : XmssType → ℕ → Layout Signature
after_index tree index = block 32 >>= after_randomizer tree index
