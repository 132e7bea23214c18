-- A public key that was read from bytes is spelled by these alone.
use Rattle.std.proofs.Common.{◌≡◌, ◌∙◌, refl, sym, ap, ap₂, ℕ, zero, suc, ◌-◌, ◌<◌, ◌≤◌, ◌^◌, List, [], ◌++◌, length, take, drop, Option, Some, None, Ok, subst, arith, append-nil, take_at}
use Rattle.std.proofs.lemmas.List.{take-append-drop}
use Rattle.typecodes.specs.Types.{lms_code, lms_types, named, ots_code, ots_types}
use Rattle.typecodes.specs.Layout.{Spells, AreBytes}
use Rattle.typecodes.specs.Fields.{block, lms_type, number, ots_type, typed}
use Rattle.typecodes.specs.Cursor.{read}
use Rattle.typecodes.proofs.Bytes.{AreBytes-front, AreBytes-rest}
use Rattle.typecodes.proofs.Codes.{known, named-has}
use Rattle.typecodes.proofs.OneWay.{one_way-number}
use Rattle.typecodes.proofs.Read.{read-stands}
use Rattle.typecodes.proofs.Spelling.{in_turn}
use Rattle.lmots.specs.Hashes.{u32str}
use Rattle.lms.specs.declared.key.LmsPublic.{LmsPublic}
use Rattle.lms.specs.Key.{public_key as lms_public_key}
use Rattle.lms.specs.Writing.{public_bytes as lms_public_bytes}
use Rattle.lms.proofs.After.{after_identifier, after_key_tree, after_root, after_types}
use Rattle.typecodes.proofs.FieldBytes.{four_parts, lms_named, number_spelled, ots_named}

u32-bytes : (c : ℕ) → AreBytes (u32str c)
u32-bytes c zero = omega arith
u32-bytes c (suc zero) = omega arith
u32-bytes c (suc (suc zero)) = omega arith
u32-bytes c (suc (suc (suc zero))) = omega arith
u32-bytes c (suc (suc (suc (suc i)))) = omega arith

-- a type that its code named takes no more bytes
known-is : {T : Type 0} (found : Option T) (t : T) (bytes : List ℕ) → Spells (known found) t bytes → (found ≡ Some t) × (bytes ≡ [])
known-is (Some u) t bytes spelled = (ap Some spelled.0, spelled.1)
known-is None t bytes spelled = absurd spelled

-- a type is spelled by its code alone
typed-bytes : {T : Type 0} (code : T → ℕ) (types : List T) (t : T) (bytes : List ℕ) → code t < 2 ^ 32 → AreBytes bytes → Spells (typed code types) t bytes → bytes ≡ u32str (code t)
typed-bytes code types t bytes small are spelled =
    let (c, a, b, bytes_are, a_spelled, b_spelled) = in_turn number (λ c. known (named code types c)) t bytes spelled in
    let (found, b_is) = known-is (named code types c) t b b_spelled in
    let code_is : code t ≡ c = named-has code types c t found in
    let a_is : a ≡ u32str c = one_way-number c a (u32str c) (AreBytes-front a b (subst AreBytes bytes_are are)) (u32-bytes c) a_spelled (number_spelled c (subst (λ c. c < 2 ^ 32) code_is small)) in
    bytes_are ∙ ap (λ b. a ++ b) b_is ∙ append-nil a ∙ a_is ∙ ap u32str (sym code_is)

block-bytes : (n : ℕ) (v bytes : List ℕ) → Spells (block n) v bytes → bytes ≡ v
block-bytes n v bytes (front, rest, bytes_are, len, ended) = bytes_are ∙ ap (λ rest. front ++ rest) ended.1 ∙ append-nil front ∙ ended.0

-- the bytes that spell a key are its bytes
public-spelled : (key : LmsPublic) (bytes : List ℕ) → AreBytes bytes → Spells lms_public_key key bytes → bytes ≡ lms_public_bytes key
unfolding lms_public_key lms_type ots_type
public-spelled key bytes are spelled =
    let (tree, a, b, bytes_are, a_spelled, b_spelled) = in_turn lms_type after_key_tree key bytes spelled in
    let parts = subst AreBytes bytes_are are in
    let (ots, c, d, b_is, c_spelled, d_spelled) = in_turn ots_type (after_types tree) key b b_spelled in
    let rest = subst AreBytes b_is (AreBytes-rest a b parts) in
    let (identifier, e, f, d_is, e_spelled, f_spelled) = in_turn (block 16) (after_identifier tree ots) key d d_spelled in
    let (root, g, h, f_is, g_spelled, ended) = in_turn (block 32) (after_root tree ots identifier) key f f_spelled in
    let a_is = typed-bytes lms_code lms_types tree a (lms_named tree).0 (AreBytes-front a b parts) a_spelled in
    let c_is = typed-bytes ots_code ots_types ots c (ots_named ots).0 (AreBytes-front c d rest) c_spelled in
    let f_ends : f ≡ root = f_is ∙ ap₂ (λ g h. g ++ h) (block-bytes 32 root g g_spelled) ended.1 ∙ append-nil root in
    let d_ends : d ≡ identifier ++ root = d_is ∙ ap₂ (λ e f. e ++ f) (block-bytes 16 identifier e e_spelled) f_ends in
    let b_ends : b ≡ u32str (ots_code ots) ++ (identifier ++ root) = b_is ∙ ap₂ (λ c d. c ++ d) c_is d_ends in
    let all : bytes ≡ u32str (lms_code tree) ++ (u32str (ots_code ots) ++ (identifier ++ root)) = bytes_are ∙ ap₂ (λ a b. a ++ b) a_is b_ends in
    let made : LmsPublic = record { pair = record { tree = tree; ots = ots }; identifier = identifier; root = root } in
    all ∙ four_parts (u32str (lms_code tree)) (u32str (ots_code ots)) identifier root ∙ ap lms_public_bytes {x = made} {y = key} ended.0

-- So the bytes between the places where a key begins and ends are its bytes.
pub public-read : (key : LmsPublic) (bytes : List ℕ) (place end : ℕ) → place ≤ length bytes → AreBytes bytes → read lms_public_key bytes place ≡ Ok (key, end)
    → take (end - place) (drop place bytes) ≡ lms_public_bytes key
public-read key bytes place end within are found =
    let (a, after, rest_is, end_is, spelled) = read-stands lms_public_key key bytes place end within found in
    let size : end - place ≡ length a = omega (arith, end_is) in
    let part : take (end - place) (drop place bytes) ≡ a = ap₂ take size rest_is ∙ take_at a after (length a) refl in
    let whole : AreBytes (take place bytes ++ (a ++ after)) =
    subst AreBytes (sym (take-append-drop place bytes) ∙ ap (λ rest. take place bytes ++ rest) rest_is) are in
    part ∙ public-spelled key a (AreBytes-front a after (AreBytes-rest (take place bytes) (a ++ after) whole)) spelled
