-- The fields that layouts are made of (RFC 8554 3.1 and 3.2: numbers are big-endian).
use Rattle.std.specs.Prelude.{ℕ, zero, suc, List, [], ◌∷◌}
use Rattle.std.specs.Option.{option_map_or}
use Rattle.std.specs.Simd.{first_chunks}
use Rattle.byteorder.specs.Endian.{big_number}
use Rattle.typecodes.specs.declared.fault.Cause.TheVariants.{UnknownType}
use Rattle.typecodes.specs.declared.types.OtsType.{OtsType}
use Rattle.typecodes.specs.declared.types.LmsType.{LmsType}
use Rattle.typecodes.specs.declared.types.XmssType.{XmssType}
use Rattle.typecodes.specs.Types.{named, ots_code, ots_types, lms_code, lms_types, xmss_code, xmss_types}
use Rattle.typecodes.specs.Layout.{Layout, done, refuse, field, ◌>>=◌}

-- a number of 4 bytes
abbrev pub number : Layout ℕ
number = field 4 (λ bytes. done (big_number 4 bytes))

abbrev pub block : ℕ → Layout (List ℕ)
block n = field n done

-- n values of 32 bytes, each a field of its own
unfoldable pub values : ℕ → Layout (List (List ℕ))
values zero = done []
values (suc n) = do
  first ← block 32
  rest ← values n
  done (first ∷ rest)

-- the first n values of 32 bytes in the bytes
abbrev pub first_values : ℕ → List ℕ → List (List ℕ)
first_values n bytes = first_chunks 32 n bytes

-- a type of a table, by its code in 4 bytes
abbrev pub typed : {T : Type 0} → (T → ℕ) → List T → Layout T
typed code types = number >>= λ c. option_map_or done (named code types c) (refuse 4 UnknownType)

-- a type of one-time signatures, of LMS trees, and of XMSS
unfoldable pub ots_type : Layout OtsType
ots_type = typed ots_code ots_types

unfoldable pub lms_type : Layout LmsType
lms_type = typed lms_code lms_types

unfoldable pub xmss_type : Layout XmssType
xmss_type = typed xmss_code xmss_types
