-- The types of the profile and their numbers: RFC 8554 4.1, table 1, and 5.1, table 2; RFC 8391 5.3, table 2, and
-- the codes of its XDR formats. All are for SHA-256 with n = 32.
use Rattle.std.specs.Prelude.{◌≡◌, ◌==◌, ℕ, ◌+◌, ◌*◌, ◌⊎◌, List, [], ◌∷◌, Option, find}
use Rattle.typecodes.specs.declared.types.OtsType.{OtsType}
use Rattle.typecodes.specs.declared.types.OtsType.TheVariants.{W1, W2, W4, W8}
use Rattle.typecodes.specs.declared.types.LmsType.{LmsType}
use Rattle.typecodes.specs.declared.types.LmsType.TheVariants.{H5, H10, H15, H20, H25}
use Rattle.typecodes.specs.declared.types.LmsPair.{LmsPair}
use Rattle.typecodes.specs.declared.types.XmssType.{XmssType}
use Rattle.typecodes.specs.declared.types.XmssType.TheVariants as xmss

-- the bits of a Winternitz digit
abbrev pub IsWidth : ℕ → Type 0
IsWidth w = (w ≡ 1) ⊎ (w ≡ 2) ⊎ (w ≡ 4) ⊎ (w ≡ 8)

-- the type in this list that has the code
abbrev pub named : {T : Type 0} → (T → ℕ) → List T → ℕ → Option T
named code types c = find (λ t. code t == c) types

-- ---- one-time signatures

abbrev pub ots_code : OtsType → ℕ
ots_code W1 = 1
ots_code W2 = 2
ots_code W4 = 3
ots_code W8 = 4

-- w
abbrev pub width_of : OtsType → ℕ
width_of W1 = 1
width_of W2 = 2
width_of W4 = 4
width_of W8 = 8

-- p
abbrev pub chains_of : OtsType → ℕ
chains_of W1 = 265
chains_of W2 = 133
chains_of W4 = 67
chains_of W8 = 34

-- a code, a randomizer and a value for each chain
abbrev pub signature_len_of : OtsType → ℕ
signature_len_of t = 4 + 32 + 32 * chains_of t

abbrev pub ots_types : List OtsType
ots_types = W1 ∷ W2 ∷ W4 ∷ W8 ∷ []

abbrev pub ots_of_code : ℕ → Option OtsType
ots_of_code c = named ots_code ots_types c

-- ---- trees

abbrev pub lms_code : LmsType → ℕ
lms_code H5 = 5
lms_code H10 = 6
lms_code H15 = 7
lms_code H20 = 8
lms_code H25 = 9

-- h
abbrev pub height_of : LmsType → ℕ
height_of H5 = 5
height_of H10 = 10
height_of H15 = 15
height_of H20 = 20
height_of H25 = 25

-- Requirement: SP 800-208 4, lms sets
abbrev pub lms_types : List LmsType
lms_types = H5 ∷ H10 ∷ H15 ∷ H20 ∷ H25 ∷ []

abbrev pub lms_of_code : ℕ → Option LmsType
lms_of_code c = named lms_code lms_types c

-- ---- pairs of both

-- a leaf's index, a one-time signature, the tree's code and a node of each height below the root
abbrev pub lms_signature_len_of : LmsPair → ℕ
lms_signature_len_of pair = 8 + signature_len_of pair.ots + 32 * height_of pair.tree

-- ---- XMSS, w = 16

-- len = len_1 + len_2 = 64 + 3: WOTS+ has a chain for each digit of a digest and of its checksum (RFC 8391 3.1.1)
abbrev pub wots_chains : ℕ
wots_chains = 67

-- XMSS-SHA2_10_256, XMSS-SHA2_16_256, XMSS-SHA2_20_256
abbrev pub xmss_code : XmssType → ℕ
xmss_code xmss.H10 = 1
xmss_code xmss.H16 = 2
xmss_code xmss.H20 = 3

-- h
abbrev pub xmss_height_of : XmssType → ℕ
xmss_height_of xmss.H10 = 10
xmss_height_of xmss.H16 = 16
xmss_height_of xmss.H20 = 20

-- Requirement: SP 800-208 5, xmss sets
abbrev pub xmss_types : List XmssType
xmss_types = xmss.H10 ∷ xmss.H16 ∷ xmss.H20 ∷ []

abbrev pub xmss_of_code : ℕ → Option XmssType
xmss_of_code c = named xmss_code xmss_types c

-- a leaf's index, a randomizer, a value for each chain, and a node of each height below the root
abbrev pub xmss_signature_len_of : XmssType → ℕ
xmss_signature_len_of t = 4 + 32 + 32 * wots_chains + 32 * xmss_height_of t
