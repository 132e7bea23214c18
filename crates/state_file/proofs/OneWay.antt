-- Records have one spelling.
use Rattle.std.proofs.Common.{◌≡◌, ℕ, zero, suc, ◌-◌, ◌*◌, Bool, true, false, List, [], ◌∷◌, ◌++◌, length, get_or, drop, refl, sym, ap, ap₂, ◌∙◌, arith, eqb-true, nat_le}
use Rattle.std.specs.Prelude.{◌==◌, ◌&&◌}
use Rattle.std.specs.List.{list_all}
use Rattle.std.proofs.lemmas.Bool.{and_parts}
use Rattle.byteorder.specs.Endian.{big_bytes}
use Rattle.typecodes.specs.declared.fault.Cause.TheVariants.{UnknownType}
use Rattle.typecodes.specs.declared.types.LmsPair.{LmsPair}
use Rattle.typecodes.specs.declared.types.LmsType.TheVariants.{H5}
use Rattle.typecodes.specs.declared.types.OtsType.TheVariants.{W1}
use Rattle.typecodes.specs.declared.types.XmssType.{XmssType}
use Rattle.typecodes.specs.declared.types.XmssType.TheVariants.{H10 as X10}
use Rattle.typecodes.specs.Layout.{Layout, done, ◌>>=◌, Spells, OneSpelling, Shows}
use Rattle.typecodes.specs.Fields.{block, lms_type, number, ots_type, xmss_type}
use Rattle.typecodes.proofs.OneWay.{one_way-bind, one_way-block, one_way-done, one_way-lms_type, one_way-number, one_way-ots_type, one_way-refuse, one_way-xmss_type, shows-bind, shows-done}
use Rattle.typecodes.proofs.Spelling.{in_turn}
use Rattle.typecodes.proofs.Ways.{Way, one_way-if, way-bind, way-done}
use Rattle.state_file.specs.declared.record.Record.{Record}
use Rattle.state_file.specs.declared.record.Record.TheVariants.{Key as KeyRecord, Extend as ExtendRecord, Bound as BoundRecord, Retire, Moved}
use Rattle.state_file.specs.declared.record.Secret.{Secret}
use Rattle.state_file.specs.declared.record.Secret.TheVariants.{Lms, Hss, Xmss}
use Rattle.state_file.specs.declared.record.Version.{Version}
use Rattle.state_file.specs.Slot.{after_parent_leaf, are_visible, bound_fields, byte, bounded_byte, exactly}
use Rattle.state_file.specs.Slot.{extend_fields, fields_of, hss_fields, key_fields, levels_field, lms_fields, magic}
use Rattle.state_file.specs.Slot.{moved_fields, name_field, name_most, no_record, only_if, pair_field, pairs}
use Rattle.state_file.specs.Slot.{retire_fields, secret_fields, slot_record, version_code, version_field, xmss_fields}
use Rattle.state_file.specs.Slot.{zeros}
use Rattle.state_file.specs.inner.Slot.{kind_of, scheme_of}
use Rattle.state_file.specs.inner.Shown.{byte-is, exactly-is, fields-show, only_if-is, OfKind, kind-bind, kind-done}
use Rattle.state_file.specs.inner.Shown.{shows-if}
use Rattle.state_file.specs.inner.Shown.{kind-field}

scheme-lms : OfKind scheme_of lms_fields 1
unfolding lms_fields
scheme-lms =
    kind-bind (exactly 1 (1 ∷ [])) 1 _ (λ level. kind-bind pair_field 1 _ (λ pair. kind-bind (zeros 56) 1 _ (λ others.
    kind-field 16 1 _ (λ identifier. kind-field 32 1 _
    (λ seed. kind-bind (zeros 64) 1 _ (λ seeds. kind-done 1 _ refl))))))

scheme-hss : OfKind scheme_of hss_fields 2
unfolding hss_fields
scheme-hss =
    kind-bind levels_field 2 _ (λ levels. kind-field 16 2 _
    (λ identifier. kind-field 32 2 _ (λ seed. kind-bind (zeros 64) 2 _ (λ seeds. kind-done 2 _ refl))))

scheme-xmss : OfKind scheme_of xmss_fields 3
unfolding xmss_fields
scheme-xmss =
    kind-bind (exactly 1 (1 ∷ [])) 3 _ (λ level. kind-bind xmss_type 3 _
    (λ tree. kind-bind (zeros 60) 3 _ (λ others. kind-bind (zeros 16) 3 _ (λ identifier.
    kind-field 32 3 _ (λ secret_seed. kind-field 32 3 _
    (λ prf_key. kind-field 32 3 _ (λ public_seed. kind-done 3 _ refl)))))))

pub schemes-show : (scheme : ℕ) → Shows (secret_fields scheme) scheme_of scheme
schemes-show scheme =
    shows-if scheme_of scheme 1 _ _ scheme-lms.shows
    (shows-if scheme_of scheme 2 _ _ scheme-hss.shows
    (shows-if scheme_of scheme 3 _ _ scheme-xmss.shows (λ v bytes spelled. absurd spelled)))

-- ---- fields

one_way-byte : OneSpelling byte
one_way-byte n a b _ _ first second = byte-is n a first ∙ sym (byte-is n b second)

one_way-exactly : (n : ℕ) (expected : List ℕ) → OneSpelling (exactly n expected)
one_way-exactly n expected u a b _ _ first second = exactly-is n expected a u first ∙ sym (exactly-is n expected b u second)

one_way-only_if : {V : Type 0} (test : Bool) (n : ℕ) (v : V) → OneSpelling (only_if test n v)
one_way-only_if test n v = one_way-if test (done v) (no_record n) (one_way-done v) (one_way-refuse n UnknownType)

shows-only_if : {V X : Type 0} (test : Bool) (n : ℕ) (v : V) (of : V → X) → Shows (only_if test n v) of (of v)
shows-only_if true n v of w bytes spelled = ap of (sym spelled.0)
shows-only_if false n v of w bytes spelled = absurd spelled

one_way-bounded_byte : (least most : ℕ) → OneSpelling (bounded_byte least most)
unfolding bounded_byte
one_way-bounded_byte least most =
    one_way-bind byte (λ n. only_if (nat_le least n && nat_le n most) 1 n) (λ n. n) one_way-byte
    (λ n. one_way-only_if (nat_le least n && nat_le n most) 1 n) (λ n. shows-only_if (nat_le least n && nat_le n most) 1 n (λ m. m))

same_zeros : (a b : List ℕ) → length a ≡ length b → list_all (λ x. x == 0) a ≡ true → list_all (λ x. x == 0) b ≡ true → a ≡ b
same_zeros [] [] len _ _ = refl
same_zeros [] (y ∷ b) len _ _ = absurd (omega (arith, len))
same_zeros (x ∷ a) [] len _ _ = absurd (omega (arith, len))
same_zeros (x ∷ a) (y ∷ b) len first second =
    let (x_is, rest_a) = and_parts _ _ first in
    let (y_is, rest_b) = and_parts _ _ second in
    ap₂ (λ z l. z ∷ l) (eqb-true x 0 x_is ∙ sym (eqb-true y 0 y_is)) (same_zeros a b (omega (arith, len)) rest_a rest_b)

one_way-zeros : (n : ℕ) → OneSpelling (zeros n)
unfolding zeros
one_way-zeros n u a b _ _ (front, rest, a_is, len, first) (front', rest', b_is, len', second) =
    let (all, nothing) = only_if-is (list_all (λ x. x == 0) front) n tt u rest first in
    let (all', nothing') = only_if-is (list_all (λ x. x == 0) front') n tt u rest' second in
    a_is ∙ ap₂ (λ x y. x ++ y) (same_zeros front front' (len ∙ sym len') all all') (nothing ∙ sym nothing') ∙ sym b_is

one_way-version : (version : Version) → OneSpelling (version_field version)
unfolding version_field
one_way-version version = one_way-exactly 2 (big_bytes 2 (version_code version))

-- ---- pairs

one_way-pair : OneSpelling pair_field
unfolding pair_field
one_way-pair =
    let way : Way pair_field (λ _. Unit {0}) =
    way-bind lms_type _ (λ pair. pair.tree) _ one_way-lms_type (λ tree.
    way-bind ots_type _ (λ pair. pair.ots) _ one_way-ots_type (λ ots.
    way-done _ _ (refl, (refl, tt)))) in
    way.one

a_pair : LmsPair
a_pair = record { tree = H5; ots = W1 }

one_way-pairs : (n : ℕ) → OneSpelling (pairs n)
unfolding pairs
one_way-pairs zero = one_way-done []
one_way-pairs (suc n) =
    let head = λ (all : List LmsPair). get_or all 0 a_pair in
    let tail = λ (all : List LmsPair). drop 1 all in
    let after = λ (first : LmsPair). pairs n >>= λ rest. done (first ∷ rest) in
    one_way-bind pair_field after head one_way-pair
    (λ first. one_way-bind (pairs n) (λ rest. done (first ∷ rest)) tail (one_way-pairs n) (λ rest. one_way-done (first ∷ rest)) (λ rest. shows-done (first ∷ rest) tail))
    (λ first. shows-bind (pairs n) (λ rest. done (first ∷ rest)) head first (λ rest. shows-done (first ∷ rest) head))

pairs-length : (n : ℕ) (all : List LmsPair) (bytes : List ℕ) → Spells (pairs n) all bytes → length all ≡ n
unfolding pairs
pairs-length zero all bytes spelled = ap length (sym spelled.0)
pairs-length (suc n) all bytes spelled =
    let (first, a, b, _, _, after) = in_turn pair_field (λ first. pairs n >>= λ rest. done (first ∷ rest)) all bytes spelled in
    let (rest, c, d, _, others, end) = in_turn (pairs n) (λ rest. done (first ∷ rest)) all b after in
    ap length (sym end.0) ∙ ap suc (pairs-length n rest c others)

after_levels : ℕ → List LmsPair → Layout (List LmsPair)
after_levels count levels = zeros (64 - 8 * count) >>= λ rest. done levels

after_count : ℕ → Layout (List LmsPair)
after_count count = pairs count >>= after_levels count

one_way-levels : OneSpelling levels_field
unfolding levels_field after_levels after_count
one_way-levels =
    one_way-bind (bounded_byte 1 8) after_count length (one_way-bounded_byte 1 8)
    (λ count. one_way-bind (pairs count) (after_levels count) (λ all. all) (one_way-pairs count)
    (λ levels. one_way-bind (zeros (64 - 8 * count)) (λ rest. done levels) (λ _. tt) (one_way-zeros (64 - 8 * count)) (λ rest. one_way-done levels) (λ rest. shows-done levels (λ _. tt)))
    (λ levels. shows-bind (zeros (64 - 8 * count)) (λ rest. done levels) (λ all. all) levels (λ rest. shows-done levels (λ all. all))))
    (λ count levels bytes spelled.
    let (all, a, b, _, of_count, after) = in_turn (pairs count) (after_levels count) levels bytes spelled in
    let same : levels ≡ all = shows-bind (zeros (64 - 8 * count)) (λ rest. done all) (λ l. l) all (λ rest. shows-done all (λ l. l)) levels b after in
    ap length same ∙ pairs-length count all a of_count)

-- ---- names

after_visible : (most count : ℕ) → List ℕ → Layout (List ℕ)
after_visible most count name = zeros (most - count) >>= λ rest. done name

after_name : (most count : ℕ) → List ℕ → Layout (List ℕ)
after_name most count bytes = only_if (are_visible bytes) count bytes >>= after_visible most count

after_length : (most count : ℕ) → Layout (List ℕ)
after_length most count = block count >>= after_name most count

shows-visible : (most count : ℕ) (name : List ℕ) → Shows (after_visible most count name) (λ v. v) name
unfolding after_visible
shows-visible most count name = shows-bind (zeros (most - count)) (λ rest. done name) (λ v. v) name (λ rest. shows-done name (λ v. v))

shows-name : (most count : ℕ) (bytes : List ℕ) → Shows (after_name most count bytes) (λ v. v) bytes
unfolding after_name
shows-name most count bytes v all spelled =
    let (name, a, b, _, first, after) = in_turn (only_if (are_visible bytes) count bytes) (after_visible most count) v all spelled in
    shows-visible most count name v b after ∙ shows-only_if (are_visible bytes) count bytes (λ w. w) name a first

one_way-visible : (most count : ℕ) (name : List ℕ) → OneSpelling (after_visible most count name)
unfolding after_visible
one_way-visible most count name =
    one_way-bind (zeros (most - count)) (λ rest. done name) (λ _. tt) (one_way-zeros (most - count)) (λ rest. one_way-done name) (λ rest. shows-done name (λ _. tt))

one_way-named : (most count : ℕ) (bytes : List ℕ) → OneSpelling (after_name most count bytes)
unfolding after_name
one_way-named most count bytes =
    one_way-bind (only_if (are_visible bytes) count bytes) (after_visible most count) (λ v. v) (one_way-only_if (are_visible bytes) count bytes)
    (one_way-visible most count) (shows-visible most count)

one_way-name : (most : ℕ) → OneSpelling (name_field most)
unfolding name_field after_length after_name after_visible
one_way-name most =
    one_way-bind (bounded_byte 1 most) (after_length most) length (one_way-bounded_byte 1 most)
    (λ count. one_way-bind (block count) (after_name most count) (λ v. v) (one_way-block count) (one_way-named most count) (shows-name most count))
    (λ count name bytes spelled.
    let (all, a, b, _, (front, _, _, len, (same, _)), after) = in_turn (block count) (after_name most count) name bytes spelled in
    ap length (shows-name most count all name b after ∙ sym same) ∙ len)

-- ---- secrets

pair_in : Secret → LmsPair
pair_in (Lms secret) = secret.pair
pair_in (Hss levels identifier seed) = a_pair
pair_in (Xmss secret) = a_pair

all_levels : Secret → List LmsPair
all_levels (Lms secret) = []
all_levels (Hss levels identifier seed) = levels
all_levels (Xmss secret) = []

tree_in : Secret → XmssType
tree_in (Lms secret) = X10
tree_in (Hss levels identifier seed) = X10
tree_in (Xmss secret) = secret.tree

-- the first, second and third block of a secret's bytes
first_bytes_at : Secret → List ℕ
first_bytes_at (Lms secret) = secret.identifier
first_bytes_at (Hss levels identifier seed) = identifier
first_bytes_at (Xmss secret) = secret.secret_seed

second_in : Secret → List ℕ
second_in (Lms secret) = secret.seed
second_in (Hss levels identifier seed) = seed
second_in (Xmss secret) = secret.prf_key

third_in : Secret → List ℕ
third_in (Lms secret) = []
third_in (Hss levels identifier seed) = []
third_in (Xmss secret) = secret.public_seed

one_way-lms : OneSpelling lms_fields
unfolding lms_fields pair_in first_bytes_at second_in
one_way-lms =
    let way : Way lms_fields (λ _. Unit {0}) =
    way-bind (exactly 1 (1 ∷ [])) _ (λ _. tt) _ (one_way-exactly 1 (1 ∷ [])) (λ level.
    way-bind pair_field _ pair_in _ one_way-pair (λ pair.
    way-bind (zeros 56) _ (λ _. tt) _ (one_way-zeros 56) (λ others.
    way-bind (block 16) _ first_bytes_at _ (one_way-block 16) (λ identifier.
    way-bind (block 32) _ second_in _ (one_way-block 32) (λ seed.
    way-bind (zeros 64) _ (λ _. tt) _ (one_way-zeros 64) (λ seeds.
    way-done _ _ (refl, (refl, (refl, (refl, (refl, (refl, tt)))))))))))) in
    way.one

one_way-hss : OneSpelling hss_fields
unfolding hss_fields all_levels first_bytes_at second_in
one_way-hss =
    let way : Way hss_fields (λ _. Unit {0}) =
    way-bind levels_field _ all_levels _ one_way-levels (λ levels.
    way-bind (block 16) _ first_bytes_at _ (one_way-block 16) (λ identifier.
    way-bind (block 32) _ second_in _ (one_way-block 32) (λ seed.
    way-bind (zeros 64) _ (λ _. tt) _ (one_way-zeros 64) (λ seeds.
    way-done _ _ (refl, (refl, (refl, (refl, tt)))))))) in
    way.one

one_way-xmss : OneSpelling xmss_fields
unfolding xmss_fields tree_in first_bytes_at second_in third_in
one_way-xmss =
    let way : Way xmss_fields (λ _. Unit {0}) =
    way-bind (exactly 1 (1 ∷ [])) _ (λ _. tt) _ (one_way-exactly 1 (1 ∷ [])) (λ level.
    way-bind xmss_type _ tree_in _ one_way-xmss_type (λ tree.
    way-bind (zeros 60) _ (λ _. tt) _ (one_way-zeros 60) (λ others.
    way-bind (zeros 16) _ (λ _. tt) _ (one_way-zeros 16) (λ identifier.
    way-bind (block 32) _ first_bytes_at _ (one_way-block 32) (λ secret_seed.
    way-bind (block 32) _ second_in _ (one_way-block 32) (λ prf_key.
    way-bind (block 32) _ third_in _ (one_way-block 32) (λ public_seed.
    way-done _ _ (refl, (refl, (refl, (refl, (refl, (refl, (refl, tt)))))))))))))) in
    way.one

one_way-secret : (scheme : ℕ) → OneSpelling (secret_fields scheme)
one_way-secret scheme =
    one_way-if (scheme == 1) _ _ one_way-lms (one_way-if (scheme == 2) _ _ one_way-hss (one_way-if (scheme == 3) _ _ one_way-xmss (one_way-refuse 1 UnknownType)))

-- ---- records

no_secret : Secret
no_secret = Lms (record { pair = a_pair; identifier = []; seed = [] })

secret_in : Record → Secret
secret_in (KeyRecord key) = key.secret
secret_in (ExtendRecord extend) = no_secret
secret_in (BoundRecord bound) = no_secret
secret_in (Retire upto) = no_secret
secret_in Moved = no_secret

root_of_secret : Record → List ℕ
root_of_secret (KeyRecord key) = key.root
root_of_secret (ExtendRecord extend) = extend.root
root_of_secret (BoundRecord bound) = []
root_of_secret (Retire upto) = []
root_of_secret Moved = []

level_at : Record → ℕ
level_at (KeyRecord key) = 0
level_at (ExtendRecord extend) = extend.level
level_at (BoundRecord bound) = 0
level_at (Retire upto) = 0
level_at Moved = 0

-- the parent leaf, the leaf, or the number below which leaves are retired
leaf_in : Record → ℕ
leaf_in (KeyRecord key) = 0
leaf_in (ExtendRecord extend) = extend.parent_leaf
leaf_in (BoundRecord bound) = bound.leaf
leaf_in (Retire upto) = upto
leaf_in Moved = 0

identifier_of_secret : Record → List ℕ
identifier_of_secret (KeyRecord key) = []
identifier_of_secret (ExtendRecord extend) = extend.identifier
identifier_of_secret (BoundRecord bound) = []
identifier_of_secret (Retire upto) = []
identifier_of_secret Moved = []

seed_in : Record → List ℕ
seed_in (KeyRecord key) = []
seed_in (ExtendRecord extend) = extend.seed
seed_in (BoundRecord bound) = []
seed_in (Retire upto) = []
seed_in Moved = []

randomizer_in : Record → List ℕ
randomizer_in (KeyRecord key) = []
randomizer_in (ExtendRecord extend) = extend.randomizer
randomizer_in (BoundRecord bound) = bound.randomizer
randomizer_in (Retire upto) = []
randomizer_in Moved = []

digest_at : Record → List ℕ
digest_at (KeyRecord key) = []
digest_at (ExtendRecord extend) = extend.digest
digest_at (BoundRecord bound) = bound.digest
digest_at (Retire upto) = []
digest_at Moved = []

name_in : Record → List ℕ
name_in (KeyRecord key) = []
name_in (ExtendRecord extend) = []
name_in (BoundRecord bound) = bound.name
name_in (Retire upto) = []
name_in Moved = []

-- what follows each field of a Key
after_secret : Version → Secret → Layout Record
after_secret version secret = do
  root ← block 32
  rest ← zeros 2
  done (KeyRecord (record { version = version; secret = secret; root = root }))

after_scheme : Version → ℕ → Layout Record
after_scheme version scheme = secret_fields scheme >>= after_secret version

after_version : Version → Layout Record
after_version version = byte >>= after_scheme version

way-secret : (version : Version) (secret : Secret) → Way (after_secret version secret) (λ entry. secret_in entry ≡ secret)
unfolding after_secret secret_in root_of_secret
way-secret version secret =
    way-bind (block 32) _ root_of_secret _ (one_way-block 32) (λ root.
    way-bind (zeros 2) _ (λ _. tt) _ (one_way-zeros 2) (λ rest.
    way-done _ _ (refl, (refl, refl))))

way-scheme : (version : Version) (scheme : ℕ) → Way (after_scheme version scheme) (λ entry. scheme_of (secret_in entry) ≡ scheme)
unfolding after_scheme
way-scheme version scheme = record {
  one = one_way-bind (secret_fields scheme) (after_secret version) secret_in (one_way-secret scheme) (λ secret. (way-secret version secret).one)
      (λ secret entry bytes spelled. (way-secret version secret).has entry bytes spelled);
  has = λ entry bytes spelled.
      let (secret, a, b, _, of_scheme, after) = in_turn (secret_fields scheme) (after_secret version) entry bytes spelled in
      ap scheme_of ((way-secret version secret).has entry b after) ∙ schemes-show scheme secret a of_scheme;
}

one_way-key : (version : Version) → OneSpelling (key_fields version)
unfolding key_fields after_version after_scheme after_secret
one_way-key version =
    let way : Way (key_fields version) (λ _. Unit {0}) =
    way-bind (exactly 8 magic) (λ _. version_field version >>= λ _. after_version version) (λ _. tt) _ (one_way-exactly 8 magic) (λ begins.
    way-bind (version_field version) (λ _. after_version version) (λ _. tt) (λ entry. (tt ≡ begins) × Unit {0}) (one_way-version version) (λ code.
    let inner : Way (after_version version) (λ _. Unit {0}) =
    way-bind byte (after_scheme version) (λ entry. scheme_of (secret_in entry)) _ one_way-byte (λ scheme.
    let of_scheme = way-scheme version scheme in
    record { one = of_scheme.one; has = λ entry bytes spelled. (of_scheme.has entry bytes spelled, tt) }) in
    record { one = inner.one; has = λ entry bytes spelled. (refl, (refl, tt)) })) in
    way.one

one_way-extend : OneSpelling extend_fields
unfolding extend_fields level_at leaf_in identifier_of_secret seed_in randomizer_in digest_at root_of_secret
one_way-extend =
    let way : Way extend_fields (λ _. Unit {0}) =
    way-bind byte _ level_at _ one_way-byte (λ level.
    way-bind number (after_parent_leaf level) leaf_in _ one_way-number (λ parent_leaf.
    way-bind (block 16) _ identifier_of_secret _ (one_way-block 16) (λ identifier.
    way-bind (block 32) _ seed_in _ (one_way-block 32) (λ seed.
    way-bind (block 32) _ randomizer_in _ (one_way-block 32) (λ randomizer.
    way-bind (block 32) _ digest_at _ (one_way-block 32) (λ digest.
    way-bind (block 32) _ root_of_secret _ (one_way-block 32) (λ root.
    way-bind (zeros 73) _ (λ _. tt) _ (one_way-zeros 73) (λ rest.
    way-done _ _ (refl, (refl, (refl, (refl, (refl, (refl, (refl, (refl, tt)))))))))))))))) in
    way.one

after_leaf : Version → List ℕ → ℕ → Layout Record
after_leaf version name leaf = do
  randomizer ← block 32
  digest ← block 32
  rest ← zeros (153 - name_most version)
  done (BoundRecord (record { name = name; leaf = leaf; randomizer = randomizer; digest = digest }))

one_way-bound : (version : Version) → OneSpelling (bound_fields version)
unfolding bound_fields after_leaf name_in leaf_in randomizer_in digest_at
one_way-bound version =
    let way : Way (bound_fields version) (λ _. Unit {0}) =
    way-bind (name_field (name_most version)) _ name_in _ (one_way-name (name_most version)) (λ name.
    way-bind number (after_leaf version name) leaf_in _ one_way-number (λ leaf.
    way-bind (block 32) _ randomizer_in _ (one_way-block 32) (λ randomizer.
    way-bind (block 32) _ digest_at _ (one_way-block 32) (λ digest.
    way-bind (zeros (153 - name_most version)) _ (λ _. tt) _ (one_way-zeros (153 - name_most version)) (λ rest.
    way-done _ _ (refl, (refl, (refl, (refl, (refl, tt)))))))))) in
    way.one

one_way-retire : OneSpelling retire_fields
unfolding retire_fields leaf_in
one_way-retire =
    let way : Way retire_fields (λ _. Unit {0}) =
    way-bind number (λ upto. zeros 218 >>= λ rest. done (Retire upto)) leaf_in _ one_way-number (λ upto.
    way-bind (zeros 218) _ (λ _. tt) _ (one_way-zeros 218) (λ rest.
    way-done _ _ (refl, (refl, tt)))) in
    way.one

one_way-moved : OneSpelling moved_fields
unfolding moved_fields
one_way-moved =
    let way : Way moved_fields (λ _. Unit {0}) =
    way-bind (exactly 2 (0 ∷ 2 ∷ [])) _ (λ _. tt) _ (one_way-exactly 2 (0 ∷ 2 ∷ [])) (λ version.
    way-bind (zeros 220) _ (λ _. tt) _ (one_way-zeros 220) (λ rest.
    way-done _ _ (refl, (refl, tt)))) in
    way.one

one_way-fields : (version : Version) (kind : ℕ) → OneSpelling (fields_of version kind)
one_way-fields version kind =
    one_way-if (kind == 1) _ _ (one_way-key version) (one_way-if (kind == 2) _ _ one_way-extend (one_way-if (kind == 3) _ _ (one_way-bound version)
    (one_way-if (kind == 4) _ _ one_way-retire (one_way-if (kind == 5) _ _ one_way-moved (one_way-refuse 1 UnknownType)))))

pub one_way-slot_record : (version : Version) → OneSpelling (slot_record version)
unfolding slot_record
one_way-slot_record version = one_way-bind byte (fields_of version) kind_of one_way-byte (one_way-fields version) (fields-show version)
