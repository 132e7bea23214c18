-- The lengths of public keys in bytes.
use Rattle.std.proofs.Common.{ℕ, cond, nat_le}
use Rattle.std.specs.Prelude.{◌&&◌}
use Rattle.typecodes.specs.declared.fault.Cause.TheVariants.{LevelCount}
use Rattle.typecodes.specs.Types.{xmss_code, xmss_types}
use Rattle.typecodes.specs.Layout.{Layout, done, refuse, ◌>>=◌}
use Rattle.typecodes.specs.Fields.{number, block, xmss_type}
use Rattle.typecodes.proofs.Sizes.{HasSize, size-bind, size-block, size-done, size-if, size-number, size-refuse, size-typed}
use Rattle.lms.specs.declared.key.LmsPublic.{LmsPublic}
use Rattle.hss.specs.declared.key.HssPublic.{HssPublic}
use Rattle.lms.specs.Key.{public_key as lms_public_key}
use Rattle.lms.proofs.Sizes.{size-public_key as size-lms_key}
use Rattle.hss.specs.Key.{level_number, public_key as hss_public_key}
use Rattle.xmss.specs.Key.{public_key as xmss_public_key}
use Rattle.xmss.proofs.After.{after_root, after_seed, after_tree}

size-xmss_type : HasSize xmss_type 4
unfolding xmss_type
size-xmss_type = size-typed xmss_code xmss_types

tested : ℕ → ℕ → ℕ → Layout ℕ
tested low high n = cond (nat_le low n && nat_le n high) (done n) (refuse 4 LevelCount)

size-level_number : (low high : ℕ) → HasSize (level_number low high) 4
unfolding level_number tested
size-level_number low high =
    size-bind number (tested low high) 4 0 size-number (λ n.
    size-if (nat_le low n && nat_le n high) (done n) (refuse 4 LevelCount) 0 (size-done n) (size-refuse 4 LevelCount 0))

-- what follows each field of an HSS key
of_top : ℕ → LmsPublic → Layout HssPublic
of_top levels top = done (record { levels = levels; top = top })

of_levels : ℕ → Layout HssPublic
of_levels levels = lms_public_key >>= of_top levels

pub size-hss_key : HasSize hss_public_key 60
unfolding hss_public_key of_levels of_top
size-hss_key =
    size-bind (level_number 1 8) of_levels 4 56 (size-level_number 1 8) (λ levels.
    size-bind lms_public_key (of_top levels) 56 0 size-lms_key (λ top.
    size-done (record { levels = levels; top = top })))

pub size-xmss_key : HasSize xmss_public_key 68
unfolding xmss_public_key
size-xmss_key =
    size-bind xmss_type after_tree 4 64 size-xmss_type (λ tree.
    size-bind (block 32) (after_root tree) 32 32 (size-block 32) (λ root.
    size-bind (block 32) (after_seed tree root) 32 0 (size-block 32) (λ seed.
    size-done (record { tree = tree; root = root; seed = seed }))))
