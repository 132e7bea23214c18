-- Where a key's root stands in its bytes, and what a computed root tells.
use Rattle.std.proofs.Common.{◌≡◌, ◌∙◌, refl, sym, ap, subst, ℕ, ◌-◌, inl, inr, List, ◌++◌, append-nil, length, take, drop, nat_eq, if◌then◌else◌, take_at, Ok, Err}
use Rattle.std.proofs.lemmas.List.{drop-drop, drop_at}
use Rattle.std.specs.Prelude.{◌≢◌, ◌↔◌}
use Rattle.typecodes.specs.declared.refusal.Refusal.{Refusal}
use Rattle.typecodes.specs.declared.refusal.Refusal.TheVariants.{MessageRead}
use Rattle.typecodes.specs.Layout.{Layout, Spells, ◌>>=◌}
use Rattle.typecodes.specs.Fields.{block, lms_type, ots_type, xmss_type}
use Rattle.typecodes.specs.Types.{lms_code, lms_types, ots_code, ots_types}
use Rattle.typecodes.proofs.Sizes.{HasSize, size-block, size-typed}
use Rattle.typecodes.proofs.Spelling.{in_turn}
use Rattle.lms.specs.declared.key.LmsPublic.{LmsPublic}
use Rattle.lms.specs.Key.{public_key as lms_public_key}
use Rattle.lms.proofs.After.{after_identifier, after_key_tree, after_root as after_lms_root, after_types}
use Rattle.lms.proofs.Sizes.{size-public_key as size-lms_key}
use Rattle.hss.specs.declared.key.HssPublic.{HssPublic}
use Rattle.hss.specs.Key.{level_number, public_key as hss_public_key}
use Rattle.xmss.specs.declared.key.XmssPublic.{XmssPublic}
use Rattle.xmss.specs.Key.{public_key as xmss_public_key}
use Rattle.xmss.proofs.After.{after_root, after_seed, after_tree}
use Rattle.boot_verify.specs.declared.key.Key.{Key}
use Rattle.boot_verify.specs.declared.key.Key.TheVariants.{Lms, Hss, Xmss}
use Rattle.boot_verify.specs.Key.{IsSignature, SpellsKey}
use Rattle.boot_verify.specs.inner.Key.{KeyGivesRoot, key_root}
use Rattle.boot_verify.specs.Answer.{GivesExactly, GivesRoot, IsSigned, RefusesKey, ready, root_of, verdict_answer}
use Rattle.boot_verify.proofs.Answers.{refused_spells_none}
use Rattle.boot_verify.proofs.Keys.{of_levels, of_top, one_key, size-hss_key, size-level_number, size-xmss_key, size-xmss_type}

-- ---- where the root stands

-- a layout's bytes without its first field, which has n bytes
past : {A B : Type 0} (first : Layout A) (next : A → Layout B) (w : B) (bytes : List ℕ) (n : ℕ) → HasSize first n → Spells (first >>= next) w bytes
    → (v : A) × (rest : List ℕ) × (drop n bytes ≡ rest) × Spells (next v) w rest
past first next w bytes n size spelled =
    let (v, a, b, bytes_are, a_spelled, b_spelled) = in_turn first next w bytes spelled in
    (v, b, ap (drop n) bytes_are ∙ drop_at a b n (size v a a_spelled), b_spelled)

block-bytes : (n : ℕ) (v bytes : List ℕ) → Spells (block n) v bytes → bytes ≡ v
block-bytes n v bytes (front, rest, bytes_are, len, ended) = bytes_are ∙ ap (λ rest. front ++ rest) ended.1 ∙ append-nil front ∙ ended.0

-- the first field of n bytes
front : {B : Type 0} (n : ℕ) (next : List ℕ → Layout B) (w : B) (bytes : List ℕ) → Spells (block n >>= next) w bytes
    → (v : List ℕ) × (rest : List ℕ) × (take n bytes ≡ v) × Spells (next v) w rest
front n next w bytes spelled =
    let (v, a, b, bytes_are, a_spelled, b_spelled) = in_turn (block n) next w bytes spelled in
    (v, b, ap (take n) bytes_are ∙ take_at a b n (size-block n v a a_spelled) ∙ block-bytes n v a a_spelled, b_spelled)

same_root : (made key : LmsPublic) → made ≡ key → made.root ≡ key.root
same_root made key same = ap (λ key. key.root) same

lms_root : (key : LmsPublic) (bytes : List ℕ) → Spells lms_public_key key bytes → take 32 (drop 24 bytes) ≡ key.root
unfolding lms_public_key lms_type ots_type
lms_root key bytes spelled =
    let (tree, b, b_is, b_spelled) = past lms_type after_key_tree key bytes 4 (size-typed lms_code lms_types) spelled in
    let (ots, d, d_is, d_spelled) = past ots_type (after_types tree) key b 4 (size-typed ots_code ots_types) b_spelled in
    let (identifier, f, f_is, f_spelled) = past (block 16) (after_identifier tree ots) key d 16 (size-block 16) d_spelled in
    let (root, h, root_is, ended) = front 32 (after_lms_root tree ots identifier) key f f_spelled in
    let at : drop 24 bytes ≡ f =
    sym (drop-drop 16 8 bytes) ∙ ap (drop 16) (sym (drop-drop 4 4 bytes) ∙ ap (drop 4) b_is ∙ d_is) ∙ f_is in
    ap (take 32) at ∙ root_is ∙ same_root _ key ended.0

hss_root : (key : HssPublic) (bytes : List ℕ) → Spells hss_public_key key bytes → take 32 (drop 28 bytes) ≡ key.top.root
unfolding hss_public_key of_levels of_top
hss_root key bytes spelled =
    let (levels, b, b_is, b_spelled) = past (level_number 1 8) of_levels key bytes 4 (size-level_number 1 8) spelled in
    let (top, c, d, b_are, c_spelled, ended) = in_turn lms_public_key (of_top levels) key b b_spelled in
    let only : b ≡ c = b_are ∙ ap (λ d. c ++ d) ended.1 ∙ append-nil c in
    let at : drop 28 bytes ≡ drop 24 c = sym (drop-drop 24 4 bytes) ∙ ap (drop 24) (b_is ∙ only) in
    ap (take 32) at ∙ lms_root top c c_spelled ∙ ap (λ key. key.top.root) ended.0

xmss_root : (key : XmssPublic) (bytes : List ℕ) → Spells xmss_public_key key bytes → take 32 (drop 4 bytes) ≡ key.root
unfolding xmss_public_key xmss_type
xmss_root key bytes spelled =
    let (tree, b, b_is, b_spelled) = past xmss_type after_tree key bytes 4 size-xmss_type spelled in
    let (root, d, root_is, d_spelled) = front 32 (after_root tree) key b b_spelled in
    let (seed, f, f_is, ended) = front 32 (λ seed. after_seed tree root seed) key d d_spelled in
    ap (take 32) b_is ∙ root_is ∙ ap (λ key. key.root) ended.0

-- the place in a key of this length
at_length : (public : List ℕ) (n : ℕ) → length public ≡ n → root_of public ≡ take 32 (drop (if nat_eq n 68 then 4 else n - 32) public)
at_length public n len = ap (λ n. take 32 (drop (if nat_eq n 68 then 4 else n - 32) public)) len

root_is : (key : Key) (public : List ℕ) → SpellsKey key public → root_of public ≡ key_root key
root_is (Lms key) public spelled = at_length public 56 (size-lms_key key public spelled) ∙ lms_root key public spelled
root_is (Hss key) public spelled = at_length public 60 (size-hss_key key public spelled) ∙ hss_root key public spelled
root_is (Xmss key) public spelled = at_length public 68 (size-xmss_key key public spelled) ∙ xmss_root key public spelled

-- ---- what a computed root tells

of_key : (key : Key) (message bytes root : List ℕ) → KeyGivesRoot key message bytes (Ok root) → (root ≡ key_root key) ↔ IsSignature key message bytes
of_key (Lms key) message bytes root exact = exact
of_key (Hss key) message bytes root exact = exact
of_key (Xmss key) message bytes root exact = exact

of_no_root : (key : Key) (message bytes : List ℕ) (refusal : Refusal) → KeyGivesRoot key message bytes (Err refusal) → IsSignature key message bytes → ⊥
of_no_root (Lms key) message bytes refusal never = never
of_no_root (Hss key) message bytes refusal never = never
of_no_root (Xmss key) message bytes refusal never = never

-- what is signed under the key of these bytes is signed under the key that they spell
by_key : (key : Key) (public message bytes : List ℕ) → SpellsKey key public → IsSigned public message bytes → IsSignature key message bytes
by_key key public message bytes spelled (other, spelled_too, signs) =
    subst (λ key. IsSignature key message bytes) (one_key other key public spelled_too spelled) signs

-- a computed root is the key's exactly where the signature is valid
exact_root : (key : Key) (public message bytes root : List ℕ) → SpellsKey key public → KeyGivesRoot key message bytes (Ok root)
    → (root ≡ root_of public) ↔ IsSigned public message bytes
exact_root key public message bytes root spelled gives =
    let is = root_is key public spelled in
    let exact = of_key key message bytes root gives in (
      λ same. (key, spelled, exact.0 (same ∙ is)),
      λ signed. exact.1 (by_key key public message bytes spelled signed) ∙ sym is,
    )

pub gives_exactly : (key : Key) (public message bytes old root : List ℕ) → SpellsKey key public → KeyGivesRoot key message bytes (Ok root)
    → GivesExactly public message bytes old root
gives_exactly key public message bytes old root spelled gives = λ other. exact_root key public message bytes root spelled gives

pub gives_root : (key : Key) (public message bytes old root : List ℕ) (answer : ℕ) → SpellsKey key public → KeyGivesRoot key message bytes (Ok root)
    → answer ≡ ready → GivesRoot public message bytes old root answer
gives_root key public message bytes old root answer spelled gives is = inl (is, exact_root key public message bytes root spelled gives)

-- nothing is signed where no root is given
unsigned : (key : Key) (public message bytes : List ℕ) (refusal : Refusal) → SpellsKey key public → KeyGivesRoot key message bytes (Err refusal)
    → IsSigned public message bytes → ⊥
unsigned key public message bytes refusal spelled gives signed = of_no_root key message bytes refusal gives (by_key key public message bytes spelled signed)

pub refuses_root : (key : Key) (public message bytes old : List ℕ) (refusal : Refusal) (answer : ℕ) → SpellsKey key public
    → KeyGivesRoot key message bytes (Err refusal) → refusal ≢ MessageRead → answer ≡ verdict_answer (Err refusal)
    → GivesRoot public message bytes old old answer
refuses_root key public message bytes old refusal answer spelled gives read is =
    inr (refl, unsigned key public message bytes refusal spelled gives, inr (refusal, read, is))

-- bytes that spell no key have signed nothing
key_unsigned : (public message bytes : List ℕ) (answer : ℕ) → RefusesKey public answer → IsSigned public message bytes → ⊥
key_unsigned public message bytes answer refused (key, spelled, signs) = refused_spells_none public answer key refused spelled

pub refuses_key : (public message bytes old : List ℕ) (answer : ℕ) → RefusesKey public answer → GivesRoot public message bytes old old answer
refuses_key public message bytes old answer refused = inr (refl, key_unsigned public message bytes answer refused, inl refused)

-- what was in the room stays, where the signature isn't valid
stays : (public message bytes old : List ℕ) → (IsSigned public message bytes → ⊥) → GivesExactly public message bytes old old
stays public message bytes old never = λ other. (λ same. absurd (other same), λ signed. absurd (never signed))

pub stays_refused : (key : Key) (public message bytes old : List ℕ) (refusal : Refusal) → SpellsKey key public → KeyGivesRoot key message bytes (Err refusal)
    → GivesExactly public message bytes old old
stays_refused key public message bytes old refusal spelled gives =
    stays public message bytes old (unsigned key public message bytes refusal spelled gives)

pub stays_without_key : (public message bytes old : List ℕ) (answer : ℕ) → RefusesKey public answer → GivesExactly public message bytes old old
stays_without_key public message bytes old answer refused = stays public message bytes old (key_unsigned public message bytes answer refused)
