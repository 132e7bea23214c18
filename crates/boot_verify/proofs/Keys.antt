-- The lengths of keys' spellings, and that bytes spell at most one key.
use Rattle.std.proofs.Common.{◌≡◌, ◌∙◌, sym, ap, arith, ℕ, List, length, cond, nat_le, inl, inr}
use Rattle.std.specs.Prelude.{◌&&◌}
use Rattle.typecodes.proofs.Spelling.{no_value, one_value}
use Rattle.boot_verify.specs.declared.key.Key.{Key}
use Rattle.boot_verify.specs.declared.key.Key.TheVariants.{Lms, Hss, Xmss}
use Rattle.boot_verify.specs.Key.{KeyHasFault, SpellsKey}
use Rattle.typecodes.specs.declared.fault.ReadFault.{ReadFault}
use Rattle.typecodes.specs.declared.fault.Cause.TheVariants.{LevelCount}
use Rattle.typecodes.specs.Types.{xmss_code, xmss_types}
use Rattle.typecodes.specs.Layout.{Layout, done, refuse, ◌>>=◌}
use Rattle.typecodes.specs.Fields.{number, block, xmss_type}
use Rattle.typecodes.proofs.Sizes.{HasSize, size-bind, size-block, size-done, size-if, size-number, size-refuse, size-typed}
use Rattle.lms.specs.declared.key.LmsPublic.{LmsPublic}
use Rattle.hss.specs.declared.key.HssPublic.{HssPublic}
use Rattle.lms.specs.Key.{public_key as lms_public_key}
use Rattle.lms.proofs.Sizes.{size-public_key as size-lms_key}
use Rattle.hss.specs.Key.{level_number, public_key as hss_public_key}
use Rattle.xmss.specs.Key.{public_key as xmss_public_key}
use Rattle.xmss.proofs.After.{after_root, after_seed, after_tree}

pub size-xmss_type : HasSize xmss_type 4
unfolding xmss_type
size-xmss_type = size-typed xmss_code xmss_types

-- a number of levels, refused out of bounds
tested : ℕ → ℕ → ℕ → Layout ℕ
tested low high n = cond (nat_le low n && nat_le n high) (done n) (refuse 4 LevelCount)

pub size-level_number : (low high : ℕ) → HasSize (level_number low high) 4
unfolding level_number tested
size-level_number low high =
    size-bind number (tested low high) 4 0 size-number (λ n.
    size-if (nat_le low n && nat_le n high) (done n) (refuse 4 LevelCount) 0 (size-done n) (size-refuse 4 LevelCount 0))

-- the rest of an HSS key's layout after each field
unfoldable pub of_top : ℕ → LmsPublic → Layout HssPublic
of_top levels top = done (record { levels = levels; top = top })

unfoldable pub of_levels : ℕ → Layout HssPublic
of_levels levels = lms_public_key >>= of_top levels

pub size-hss_key : HasSize hss_public_key 60
unfolding hss_public_key of_levels of_top
size-hss_key =
    size-bind (level_number 1 8) of_levels 4 56 (size-level_number 1 8) (λ levels.
    size-bind lms_public_key (of_top levels) 56 0 size-lms_key (λ top.
    size-done (record { levels = levels; top = top })))

pub size-xmss_key : HasSize xmss_public_key 68
unfolding xmss_public_key
size-xmss_key =
    size-bind xmss_type after_tree 4 64 size-xmss_type (λ tree.
    size-bind (block 32) (after_root tree) 32 32 (size-block 32) (λ root.
    size-bind (block 32) (after_seed tree root) 32 0 (size-block 32) (λ seed.
    size-done (record { tree = tree; root = root; seed = seed }))))

-- a list doesn't have two lengths
apart : {A : Type 0} (m n k : ℕ) → k ≡ m → k ≡ n → (m ≡ n → ⊥) → A
apart m n k is_m is_n differs = absurd (differs (sym is_m ∙ is_n))

pub one_key : (key other : Key) (bytes : List ℕ) → SpellsKey key bytes → SpellsKey other bytes → key ≡ other
one_key (Lms a) (Lms b) bytes first second = ap Lms (one_value lms_public_key a b bytes first second)
one_key (Lms a) (Hss b) bytes first second = apart 56 60 (length bytes) (size-lms_key a bytes first) (size-hss_key b bytes second) (λ e. omega (arith, e))
one_key (Lms a) (Xmss b) bytes first second = apart 56 68 (length bytes) (size-lms_key a bytes first) (size-xmss_key b bytes second) (λ e. omega (arith, e))
one_key (Hss a) (Lms b) bytes first second = apart 60 56 (length bytes) (size-hss_key a bytes first) (size-lms_key b bytes second) (λ e. omega (arith, e))
one_key (Hss a) (Hss b) bytes first second = ap Hss (one_value hss_public_key a b bytes first second)
one_key (Hss a) (Xmss b) bytes first second = apart 60 68 (length bytes) (size-hss_key a bytes first) (size-xmss_key b bytes second) (λ e. omega (arith, e))
one_key (Xmss a) (Lms b) bytes first second = apart 68 56 (length bytes) (size-xmss_key a bytes first) (size-lms_key b bytes second) (λ e. omega (arith, e))
one_key (Xmss a) (Hss b) bytes first second = apart 68 60 (length bytes) (size-xmss_key a bytes first) (size-hss_key b bytes second) (λ e. omega (arith, e))
one_key (Xmss a) (Xmss b) bytes first second = ap Xmss (one_value xmss_public_key a b bytes first second)

-- spellings of keys have 56, 60 or 68 bytes
pub not_none : (key : Key) (bytes : List ℕ) → SpellsKey key bytes → (length bytes ≡ 56 → ⊥) → (length bytes ≡ 60 → ⊥) → (length bytes ≡ 68 → ⊥) → ⊥
not_none (Lms key) bytes spelled not_lms not_hss not_xmss = not_lms (size-lms_key key bytes spelled)
not_none (Hss key) bytes spelled not_lms not_hss not_xmss = not_hss (size-hss_key key bytes spelled)
not_none (Xmss key) bytes spelled not_lms not_hss not_xmss = not_xmss (size-xmss_key key bytes spelled)

pub no_fault : (key : Key) (bytes : List ℕ) (fault : ReadFault) → SpellsKey key bytes → KeyHasFault bytes fault → ⊥
no_fault (Lms key) bytes fault spelled (inl (len, faulty)) = no_value lms_public_key key bytes 0 fault spelled faulty
no_fault (Lms key) bytes fault spelled (inr (inl (len, faulty))) = apart 56 60 (length bytes) (size-lms_key key bytes spelled) len (λ e. omega (arith, e))
no_fault (Lms key) bytes fault spelled (inr (inr (len, faulty))) = apart 56 68 (length bytes) (size-lms_key key bytes spelled) len (λ e. omega (arith, e))
no_fault (Hss key) bytes fault spelled (inl (len, faulty)) = apart 60 56 (length bytes) (size-hss_key key bytes spelled) len (λ e. omega (arith, e))
no_fault (Hss key) bytes fault spelled (inr (inl (len, faulty))) = no_value hss_public_key key bytes 0 fault spelled faulty
no_fault (Hss key) bytes fault spelled (inr (inr (len, faulty))) = apart 60 68 (length bytes) (size-hss_key key bytes spelled) len (λ e. omega (arith, e))
no_fault (Xmss key) bytes fault spelled (inl (len, faulty)) = apart 68 56 (length bytes) (size-xmss_key key bytes spelled) len (λ e. omega (arith, e))
no_fault (Xmss key) bytes fault spelled (inr (inl (len, faulty))) = apart 68 60 (length bytes) (size-xmss_key key bytes spelled) len (λ e. omega (arith, e))
no_fault (Xmss key) bytes fault spelled (inr (inr (len, faulty))) = no_value xmss_public_key key bytes 0 fault spelled faulty
