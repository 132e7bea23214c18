-- What a slot's bytes show of its record: the kind, how a Key begins, and the version.
use Rattle.std.proofs.Common.{◌≡◌, ℕ, Bool, true, false, cond, List, [], ◌∷◌, ◌++◌, Some, refl, sym, ap, ◌∙◌, subst}
use Rattle.std.proofs.Common.{arith, eqb-true, append-nil}
use Rattle.std.specs.Prelude.{◌-◌, ◌==◌, if◌then◌else◌}
use Rattle.std.specs.Cmp.Lexicographic.{bytes_decides, pointwise}
use Rattle.byteorder.specs.Endian.{big_bytes, big_number}
use Rattle.typecodes.specs.Layout.{Layout, done, field, ◌>>=◌, Spells, Shows}
use Rattle.typecodes.specs.Fields.{block}
use Rattle.typecodes.specs.Types.{named}
use Rattle.typecodes.proofs.OneWay.{shows-bind}
use Rattle.typecodes.proofs.Spelling.{in_turn}
use Rattle.state_file.specs.declared.record.Key.{Key}
use Rattle.state_file.specs.declared.record.Record.{Record}
use Rattle.state_file.specs.declared.record.Record.TheVariants.{Key as KeyRecord}
use Rattle.state_file.specs.declared.record.Version.{Version}
use Rattle.state_file.specs.File.{SpellsRecords, begins_key, fields_at, version_of}
use Rattle.state_file.specs.declared.record.Version.TheVariants.{One, Two}
use Rattle.state_file.specs.Slot.{bound_fields, byte, exactly, extend_fields, fields_of, key_fields, magic, name_field}
use Rattle.state_file.specs.Slot.{moved_fields, name_most, only_if, retire_fields, secret_fields, slot_record, versions}
use Rattle.state_file.specs.Slot.{version_begun, version_code, version_field, file_version, zeros}
use Rattle.state_file.specs.inner.Slot.{kind_of}

-- ---- kinds

-- every value that the layout spells is of this kind
pub record OfKind {V X : Type 0} (of : V → X) (layout : Layout V) (kind : X) : Type 0 where
  pub shows : Shows layout of kind

pub kind-field : {V X : Type 0} {of : V → X} (n : ℕ) (kind : X) (next : List ℕ → Layout V)
    → ((bytes : List ℕ) → OfKind of (next bytes) kind) → OfKind of (field n next) kind
kind-field n kind next all = record { shows = λ v bytes (front, rest, _, _, spelled). (all front).shows v rest spelled }

pub kind-bind : {V W X : Type 0} {of : W → X} (first : Layout V) (kind : X) (next : V → Layout W)
    → ((v : V) → OfKind of (next v) kind) → OfKind of (first >>= next) kind
kind-bind {of = of} first kind next all = record { shows = shows-bind first next of kind (λ v. (all v).shows) }

pub kind-done : {V X : Type 0} {of : V → X} (kind : X) (v : V) → of v ≡ kind → OfKind of (done v) kind
kind-done {of = of} kind v is = record { shows = λ w bytes spelled. ap of (sym spelled.0) ∙ is }

kind-key : (version : Version) → OfKind kind_of (key_fields version) 1
unfolding key_fields
kind-key version =
    kind-bind (exactly 8 magic) 1 _ (λ begins. kind-bind (version_field version) 1 _
    (λ code. kind-bind byte 1 _ (λ scheme.
    kind-bind (secret_fields scheme) 1 _ (λ secret. kind-field 32 1 _
    (λ root. kind-bind (zeros 2) 1 _ (λ rest. kind-done 1 _ refl))))))

-- a Key has its file's version
version-key : (version : Version) → OfKind version_begun (key_fields version) version
unfolding key_fields
version-key version =
    kind-bind (exactly 8 magic) version _ (λ begins. kind-bind (version_field version) version _
    (λ code. kind-bind byte version _ (λ scheme.
    kind-bind (secret_fields scheme) version _
    (λ secret. kind-field 32 version _ (λ root. kind-bind (zeros 2) version _ (λ rest. kind-done version _ refl))))))

kind-extend : OfKind kind_of extend_fields 2
unfolding extend_fields
kind-extend =
    kind-bind byte 2 _ (λ level. kind-field 4 2 _ (λ parent_leaf. kind-field 16 2 _ (λ identifier.
    kind-field 32 2 _ (λ seed. kind-field 32 2 _ (λ randomizer. kind-field 32 2 _ (λ digest. kind-field 32 2 _ (λ root.
    kind-bind (zeros 73) 2 _ (λ rest. kind-done 2 _ refl))))))))

kind-bound : (version : Version) → OfKind kind_of (bound_fields version) 3
unfolding bound_fields
kind-bound version =
    kind-bind (name_field (name_most version)) 3 _ (λ name. kind-field 4 3 _ (λ leaf. kind-field 32 3 _ (λ randomizer.
    kind-field 32 3 _ (λ digest. kind-bind (zeros (153 - name_most version)) 3 _ (λ rest. kind-done 3 _ refl)))))

kind-retire : OfKind kind_of retire_fields 4
unfolding retire_fields
kind-retire = kind-field 4 4 _ (λ upto. kind-bind (zeros 218) 4 _ (λ rest. kind-done 4 _ refl))

kind-moved : OfKind kind_of moved_fields 5
unfolding moved_fields
kind-moved = kind-bind (exactly 2 (0 ∷ 2 ∷ [])) 5 _ (λ version. kind-bind (zeros 220) 5 _ (λ rest. kind-done 5 _ refl))

-- one of two layouts, by a number
pub shows-if : {V : Type 0} (of : V → ℕ) (kind n : ℕ) (chosen other : Layout V) → Shows chosen of n
    → Shows other of kind → Shows (if kind == n then chosen else other) of kind
shows-if of kind n chosen other chosen_shows other_shows =
    elim (kind == n) as (λ test. kind == n ≡ test → Shows (cond test chosen other) of kind) [
      | true ↦ λ same. subst (Shows chosen of) (sym (eqb-true kind n same)) chosen_shows
      | false ↦ λ _. other_shows
    ] refl

pub fields-show : (version : Version) (kind : ℕ) → Shows (fields_of version kind) kind_of kind
fields-show version kind =
    shows-if kind_of kind 1 _ _ (kind-key version).shows
    (shows-if kind_of kind 2 _ _ kind-extend.shows
    (shows-if kind_of kind 3 _ _ (kind-bound version).shows
    (shows-if kind_of kind 4 _ _ kind-retire.shows (shows-if kind_of kind 5 _ _ kind-moved.shows
    (λ v bytes spelled. absurd spelled)))))

-- ---- single fields

pub byte-is : (n : ℕ) (bytes : List ℕ) → Spells byte n bytes → bytes ≡ n ∷ []
unfolding byte
byte-is n bytes ([], rest, is, len, spelled) = absurd (omega (arith, len))
byte-is n bytes (x ∷ [], rest, is, len, spelled) =
    let same : x ≡ n = omega (arith, spelled.0) in
    is ∙ ap (λ l. x ∷ l) spelled.1 ∙ ap (λ m. m ∷ []) same
byte-is n bytes (x ∷ y ∷ more, rest, is, len, spelled) = absurd (omega (arith, len))

pub only_if-is : {V : Type 0} (test : Bool) (n : ℕ) (v w : V) (bytes : List ℕ) → Spells (only_if test n v) w bytes
    → (test ≡ true) × (bytes ≡ [])
only_if-is true n v w bytes spelled = (refl, spelled.1)
only_if-is false n v w bytes spelled = absurd spelled

pub exactly-is : (n : ℕ) (expected bytes : List ℕ) (u : Unit {0}) → Spells (exactly n expected) u bytes
    → bytes ≡ expected
unfolding exactly
exactly-is n expected bytes u (front, rest, is, len, spelled) =
    let (same, nothing) = only_if-is (pointwise (λ a b. a == b) front expected) n tt u rest spelled in
    is ∙ ap (λ l. front ++ l) nothing ∙ append-nil front ∙ (bytes_decides front expected).0 same

pub version-is : (version : Version) (bytes : List ℕ) (u : Unit {0}) → Spells (version_field version) u bytes
    → bytes ≡ big_bytes 2 (version_code version)
unfolding version_field
version-is version bytes u spelled = exactly-is 2 (big_bytes 2 (version_code version)) bytes u spelled

version_known : (version : Version) (rest : List ℕ)
    → named version_code versions (big_number 2 (big_bytes 2 (version_code version) ++ rest)) ≡ Some version
version_known One rest = refl
version_known Two rest = refl

-- ---- Keys

-- what follows the magic and the version
abbrev after_version : Version → Unit {0} → Layout Record
after_version version _ = do
  scheme ← byte
  secret ← secret_fields scheme
  root ← block 32
  rest ← zeros 2
  done (KeyRecord (record { version = version; secret = secret; root = root }))

abbrev after_magic : Version → Unit {0} → Layout Record
after_magic version _ = version_field version >>= after_version version

-- a record's kind, and what follows it
pub record-parts : (version : Version) (entry : Record) (fields : List ℕ) → Spells (slot_record version) entry fields
    → (rest : List ℕ) × (fields ≡ kind_of entry ∷ rest) × Spells (fields_of version (kind_of entry)) entry rest
unfolding slot_record
record-parts version entry fields spelled =
    let (kind, a, b, is, kind_spelled, after) = in_turn byte (fields_of version) entry fields spelled in
    let same : kind_of entry ≡ kind = fields-show version kind entry b after in
    let bytes : fields ≡ kind_of entry ∷ b =
    is ∙ ap (λ l. l ++ b) (byte-is kind a kind_spelled) ∙ ap (λ n. n ∷ b) (sym same) in
    (b, bytes, subst (λ n. Spells (fields_of version n) entry b) (sym same) after)

-- a Key's fields begin with its kind, the magic and the file's version, which is its own
pub key-begins : (version : Version) (key : Key) (fields : List ℕ) → Spells (slot_record version) (KeyRecord key) fields
    → (begins_key fields ≡ true) × (version_of fields ≡ Some version) × (key.version ≡ version)
unfolding key_fields
key-begins version key fields spelled =
    let (rest, is, after) = record-parts version (KeyRecord key) fields spelled in
    let (u, a, b, rest_is, magic_spelled, from_version) = in_turn (exactly 8 magic) (after_magic version)
    (KeyRecord key) rest after in
    let (code, w, others, b_is, code_spelled, _) = in_turn (version_field version) (after_version version)
    (KeyRecord key) b from_version in
    let coded : b ≡ big_bytes 2 (version_code version) ++ others = b_is ∙ ap (λ l. l ++ others)
    (version-is version w code code_spelled) in
    let bytes : fields ≡ 1 ∷ (magic ++ (big_bytes 2 (version_code version) ++ others)) = is ∙ ap (λ l. 1 ∷ l)
    (rest_is ∙ ap (λ l. l ++ b) (exactly-is 8 magic a u magic_spelled) ∙ ap (λ l. magic ++ l) coded) in
    let own = (version-key version).shows (KeyRecord key) rest after in
    (ap begins_key bytes, ap version_of bytes ∙ version_known version others, own)

pub spelled_version : (records : List Record) (content : List ℕ) → SpellsRecords content records
    → version_of (fields_at content 0) ≡ Some (file_version records)
spelled_version records content is =
    let first = is.holds 0 (KeyRecord is.first.0) is.first.1 in
    (key-begins (file_version records) is.first.0 (fields_at content 0) first.spelled).1
