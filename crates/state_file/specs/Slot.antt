-- Slots: bytes 1 to 223 of one spell a record, by a kind and the fields of that kind.
use Rattle.std.specs.Prelude.{◌≡◌, ℕ, zero, suc, ◌-◌, ◌*◌, ◌≤◌, Bool, ◌==◌, ◌&&◌, List, [], ◌∷◌, length, nat_le}
use Rattle.std.specs.Prelude.{if◌then◌else◌}
use Rattle.std.specs.List.{list_all}
use Rattle.std.specs.Cmp.Lexicographic.{pointwise}
use Rattle.byteorder.specs.Endian.{big_bytes, big_number}
use Rattle.typecodes.specs.declared.fault.Cause.TheVariants.{UnknownType}
use Rattle.typecodes.specs.declared.types.LmsPair.{LmsPair}
use Rattle.typecodes.specs.Layout.{Layout, done, refuse, field, ◌>>=◌}
use Rattle.typecodes.specs.Fields.{number, block, lms_type, ots_type, xmss_type}
use Rattle.state_file.specs.declared.record.Record.{Record}
use Rattle.state_file.specs.declared.record.Record.TheVariants.{Key as KeyRecord, Extend as ExtendRecord}
use Rattle.state_file.specs.declared.record.Record.TheVariants.{Bound as BoundRecord, Retire, Moved}
use Rattle.state_file.specs.declared.record.Secret.{Secret}
use Rattle.state_file.specs.declared.record.Secret.TheVariants.{Lms, Hss, Xmss}
use Rattle.state_file.specs.declared.record.Version.{Version}
use Rattle.state_file.specs.declared.record.Version.TheVariants.{One, Two}

-- ---- fields

-- The n bytes before this place spell no record. The cause in this fault says nothing.
abbrev pub no_record : {V : Type 0} → ℕ → Layout V
no_record n = refuse n UnknownType

-- the value, if the n bytes before this place pass a test
abbrev pub only_if : {V : Type 0} → Bool → ℕ → V → Layout V
only_if test n value = if test then done value else no_record n

unfoldable pub byte : Layout ℕ
byte = field 1 (λ bytes. done (big_number 1 bytes))

unfoldable pub bounded_byte : ℕ → ℕ → Layout ℕ
bounded_byte least most = byte >>= λ n. only_if (nat_le least n && nat_le n most) 1 n

unfoldable pub exactly : ℕ → List ℕ → Layout (Unit {0})
exactly n bytes = block n >>= λ read. only_if (pointwise (λ a b. a == b) read bytes) n tt

unfoldable pub zeros : ℕ → Layout (Unit {0})
zeros n = block n >>= λ bytes. only_if (list_all (λ b. b == 0) bytes) n tt

-- ---- a Key

-- HBSSTATE
abbrev pub magic : List ℕ
magic = 0x48 ∷ 0x42 ∷ 0x53 ∷ 0x53 ∷ 0x54 ∷ 0x41 ∷ 0x54 ∷ 0x45 ∷ []

abbrev pub version_code : Version → ℕ
version_code One = 1
version_code Two = 2

abbrev pub versions : List Version
versions = One ∷ Two ∷ []

-- a version, by its code in 2 bytes
unfoldable pub version_field : Version → Layout (Unit {0})
version_field version = exactly 2 (big_bytes 2 (version_code version))

-- a pair, as two codes
unfoldable pub pair_field : Layout LmsPair
pair_field = do
  tree ← lms_type
  ots ← ots_type
  done (record { tree = tree; ots = ots })

unfoldable pub pairs : ℕ → Layout (List LmsPair)
pairs zero = done []
pairs (suc n) = do
  first ← pair_field
  rest ← pairs n
  done (first ∷ rest)

-- the number of levels, 1 to 8, their pairs, and zeros up to the eighth
unfoldable pub levels_field : Layout (List LmsPair)
levels_field = do
  count ← bounded_byte 1 8
  levels ← pairs count
  rest ← zeros (64 - 8 * count)
  done levels

-- An LMS secret: 1 level, its pair, zeros for seven pairs, I, SEED, zeros for SK_PRF and the public SEED.
unfoldable pub lms_fields : Layout Secret
lms_fields = do
  level ← exactly 1 (1 ∷ [])
  pair ← pair_field
  others ← zeros 56
  identifier ← block 16
  seed ← block 32
  seeds ← zeros 64
  done (Lms (record { pair = pair; identifier = identifier; seed = seed }))

-- An HSS secret: the levels, the top tree's I and SEED, zeros for SK_PRF and the public SEED.
unfoldable pub hss_fields : Layout Secret
hss_fields = do
  levels ← levels_field
  identifier ← block 16
  seed ← block 32
  seeds ← zeros 64
  done (Hss levels identifier seed)

-- An XMSS secret: 1 level, its code, zeros for a one-time code and seven pairs, zeros for I, the secret seed, SK_PRF
-- and the public SEED.
unfoldable pub xmss_fields : Layout Secret
xmss_fields = do
  level ← exactly 1 (1 ∷ [])
  tree ← xmss_type
  others ← zeros 60
  identifier ← zeros 16
  secret_seed ← block 32
  prf_key ← block 32
  public_seed ← block 32
  done (Xmss (record { tree = tree; secret_seed = secret_seed; prf_key = prf_key; public_seed = public_seed }))

-- by the scheme: 1 LMS, 2 HSS, 3 XMSS
abbrev pub secret_fields : ℕ → Layout Secret
secret_fields scheme =
    if scheme == 1 then lms_fields
    else (if scheme == 2 then hss_fields
    else (if scheme == 3 then xmss_fields
    else no_record 1))

unfoldable pub key_fields : Version → Layout Record
key_fields version = do
  begins ← exactly 8 magic
  code ← version_field version
  scheme ← byte
  secret ← secret_fields scheme
  root ← block 32
  rest ← zeros 2
  done (KeyRecord (record { version = version; secret = secret; root = root }))

-- ---- the other kinds

abbrev pub after_parent_leaf : (level parent_leaf : ℕ) → Layout Record
after_parent_leaf level parent_leaf = do
  identifier ← block 16
  seed ← block 32
  randomizer ← block 32
  digest ← block 32
  root ← block 32
  rest ← zeros 73
  done (ExtendRecord (record {
    level = level;
    parent_leaf = parent_leaf;
    identifier = identifier;
    seed = seed;
    randomizer = randomizer;
    digest = digest;
    root = root;
  }))

unfoldable pub extend_fields : Layout Record
extend_fields = do
  level ← byte
  parent_leaf ← number
  after_parent_leaf level parent_leaf

-- each byte is a visible character of ASCII
abbrev pub are_visible : List ℕ → Bool
are_visible bytes = list_all (λ b. nat_le 0x21 b && nat_le b 0x7e) bytes

-- the greatest length of a name
abbrev pub name_most : Version → ℕ
name_most One = 64
name_most Two = 128

-- a name of 1 to `most` visible characters: its length, its bytes, and zeros up to `most`
unfoldable pub name_field : ℕ → Layout (List ℕ)
name_field most = do
  count ← bounded_byte 1 most
  bytes ← block count
  name ← only_if (are_visible bytes) count bytes
  rest ← zeros (most - count)
  done name

-- a Bound: the name, the leaf, C and Q
unfoldable pub bound_fields : Version → Layout Record
bound_fields version = do
  name ← name_field (name_most version)
  leaf ← number
  randomizer ← block 32
  digest ← block 32
  rest ← zeros (153 - name_most version)
  done (BoundRecord (record { name = name; leaf = leaf; randomizer = randomizer; digest = digest }))

-- a Retire: leaves below this number are retired
unfoldable pub retire_fields : Layout Record
retire_fields = do
  upto ← number
  rest ← zeros 218
  done (Retire upto)

-- a Moved: the new version, which is 2
unfoldable pub moved_fields : Layout Record
moved_fields = do
  version ← exactly 2 (0 ∷ 2 ∷ [])
  rest ← zeros 220
  done Moved

-- ---- all kinds

-- by the kind: 1 Key, 2 Extend, 3 Bound, 4 Retire, 5 Moved
abbrev pub fields_of : Version → ℕ → Layout Record
fields_of version kind =
    if kind == 1 then key_fields version
    else (if kind == 2 then extend_fields
    else (if kind == 3 then bound_fields version
    else (if kind == 4 then retire_fields
    else (if kind == 5 then moved_fields
    else no_record 1))))

-- bytes 1 to 223 of a slot, in a version
unfoldable pub slot_record : Version → Layout Record
slot_record version = byte >>= fields_of version

-- ---- the version of a file

-- the version of a file that begins with this record; 1 if it is no Key
abbrev pub version_begun : Record → Version
version_begun (KeyRecord key) = key.version
version_begun (ExtendRecord extend) = One
version_begun (BoundRecord bound) = One
version_begun (Retire upto) = One
version_begun Moved = One

-- the version of a file of these records, which its Key says; 1 without a Key
abbrev pub file_version : List Record → Version
file_version [] = One
file_version (entry ∷ rest) = version_begun entry

-- A file of this version can hold the record: a Key has this version, and a name isn't too long.
abbrev pub FitsVersion : Version → Record → Type 0
FitsVersion version (KeyRecord key) = key.version ≡ version
FitsVersion version (ExtendRecord extend) = Unit {0}
FitsVersion version (BoundRecord bound) = length bound.name ≤ name_most version
FitsVersion version (Retire upto) = Unit {0}
FitsVersion version Moved = Unit {0}
