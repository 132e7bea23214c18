-- The index of a leaf, read from 4 bytes: name `leaf_index` in the `using` of its reader.
use Rattle.std.proofs.Common.{◌≡◌, ℕ, ◌*◌, ◌%◌, ◌^◌, ◌<◌, ◌≤◌, nat_lt, true, false, arith}
use Rattle.std.proofs.Math.Nat.{pow-le-pow_right}
use Rattle.std.proofs.lemmas.Bool.{lt-ltb, le-ltb}
use Rattle.std.proofs.lemmas.Nat.{one_shl}
use Rattle.typecodes.specs.declared.types.LmsType.{LmsType}
use Rattle.typecodes.specs.declared.types.LmsType.TheVariants as lms
use Rattle.typecodes.specs.declared.types.XmssType.{XmssType}
use Rattle.typecodes.specs.declared.types.XmssType.TheVariants as xmss
use Rattle.typecodes.specs.Types.{height_of, xmss_height_of}

-- an index below the shifted 1 is a leaf
pub leaf-inside : (index h : ℕ) → h ≤ 25 → index < 1 * 2 ^ h % 2 ^ 32 → nat_lt index (2 ^ h) ≡ true
leaf-inside index h most below = lt-ltb index (2 ^ h) (omega (arith, one_shl h 32 (omega arith)))

-- any other is none
pub leaf-beyond : (index h : ℕ) → h ≤ 25 → 1 * 2 ^ h % 2 ^ 32 ≤ index → nat_lt index (2 ^ h) ≡ false
leaf-beyond index h most above = le-ltb index (2 ^ h) (omega (arith, one_shl h 32 (omega arith)))

-- an index below 2 ^ 25 fits into 4 bytes
index_small : (h index : ℕ) → h ≤ 25 → index < 2 ^ h → index < 2 ^ 32
index_small h index most inside =
    let wider : 2 ^ h ≤ 2 ^ 25 = pow-le-pow_right (omega arith) most in
    omega arith

-- so does a leaf's, since no tree is higher
pub lms_most : (t : LmsType) → height_of t ≤ 25
lms_most lms.H5 = omega arith
lms_most lms.H10 = omega arith
lms_most lms.H15 = omega arith
lms_most lms.H20 = omega arith
lms_most lms.H25 = omega arith

pub lms_leaf_small : (t : LmsType) (q : ℕ) → q < 2 ^ height_of t → q < 2 ^ 32
lms_leaf_small t q inside = index_small (height_of t) q (lms_most t) inside

xmss_most : (t : XmssType) → xmss_height_of t ≤ 25
xmss_most xmss.H10 = omega arith
xmss_most xmss.H16 = omega arith
xmss_most xmss.H20 = omega arith

pub xmss_leaf_small : (t : XmssType) (index : ℕ) → index < 2 ^ xmss_height_of t → index < 2 ^ 32
xmss_leaf_small t index inside = index_small (xmss_height_of t) index (xmss_most t) inside

pub ruleset leaf_index = (leaf-inside, leaf-beyond)
