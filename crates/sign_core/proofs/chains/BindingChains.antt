-- The chain of trees above a binding, and a binding under XMSS: its digest, its leaf and the types of its trees.
use Rattle.std.proofs.Common.{◌≡◌, ◌∙◌, refl, sym, ap, subst, ℕ, zero, suc, ◌+◌, ◌-◌, ◌^◌, ◌<◌, ◌≤◌, List, [], ◌∷◌, ◌++◌, length, take, map}
use Rattle.std.proofs.Common.{Option, Some, arith}
use Rattle.std.specs.Prelude.{slice_get, slice_index_or, unwrap_or}
use Rattle.std.proofs.Math.Seq.{take-length}
use Rattle.std.proofs.lemmas.List.{map-append}
use Rattle.std.proofs.lemmas.Option.{same_Some, slice_get_within}
use Rattle.typecodes.specs.declared.types.LmsPair.{LmsPair}
use Rattle.typecodes.specs.Types.{height_of, xmss_height_of}
use Rattle.lmots.specs.Key.{message_digest_of}
use Rattle.typecodes.specs.declared.secret.LmsSecret.{LmsSecret}
use Rattle.hss.specs.Secret.{Signing}
use Rattle.typecodes.specs.declared.secret.XmssSecret.{XmssSecret}
use Rattle.xmss.specs.Digest.{message_digest_of as xmss_message_digest_of}
use Rattle.xmss.specs.Secret.{digest_at as xmss_digest_at, randomizer_at}
use Rattle.xmss.specs.Writing.{signature_bytes as xmss_signature_bytes, textbook as xmss_textbook}
use Rattle.state_file.specs.Laws.{IsCurrent, IsLegal, bottom_of, leaves_at, levels_of}
use Rattle.state_file.specs.declared.record.Bound.{Bound}
use Rattle.state_file.specs.declared.record.Key.{Key}
use Rattle.state_file.specs.declared.record.Record.{Record}
use Rattle.state_file.specs.declared.record.Record.TheVariants.{Key as KeyRecord, Extend as ExtendRecord, Bound as BoundRecord, Retire, Moved}
use Rattle.state_file.specs.declared.record.Secret.{Secret}
use Rattle.state_file.specs.declared.record.Secret.TheVariants.{Lms, Hss, Xmss}
use Rattle.hss.specs.declared.secret.Level.{Level}
use Rattle.sign_core.specs.Records.{current, the_key}
use Rattle.sign_core.specs.inner.KeyTrees.{IsTreeAt, signings_of}
use Rattle.sign_core.specs.Signing.{IsXmssKey}
use Rattle.sign_core.specs.inner.Signing.{pairs_of}
use Rattle.sign_core.specs.Textbook.{Trees, damaged_at, digest_at, any_digest, secret_at, made_secret, textbook_signature, any_signature}
use Rattle.sign_core.proofs.records.Parts.{digest_under}
use Rattle.sign_core.specs.Textbook.{parent_signing, chain_signings, current_at, trees_of}
use Rattle.sign_core.proofs.records.Keys.{key_stands, legal_key}
use Rattle.sign_core.proofs.chains.ChainsInMemory.{current_stands, leaves_of_level, pair_at, parent_of}
use Rattle.sign_core.proofs.records.CurrentTrees.{before_current}

-- ---- keys

pub same_key : (records : List Record) (a b : Key) → the_key records ≡ Some a → the_key records ≡ Some b → a ≡ b
same_key records a b is_a is_b = same_Some a b (sym is_a ∙ is_b)

pub key_and_rest : (records : List Record) (key : Key) → the_key records ≡ Some key → (rest : List Record) × (records ≡ KeyRecord key ∷ rest)
key_and_rest [] key is = absurd (cc)
key_and_rest (KeyRecord first ∷ rest) key is = (rest, ap (λ k. KeyRecord k ∷ rest) (same_Some first key is))
key_and_rest (ExtendRecord extend ∷ rest) key is = absurd (cc)
key_and_rest (BoundRecord bound ∷ rest) key is = absurd (cc)
key_and_rest (Retire upto ∷ rest) key is = absurd (cc)
key_and_rest (Moved ∷ rest) key is = absurd (cc)

-- the chain of the key's tree needs only its record
pub key_chain : (records : List Record) (key : Key) (P : Option ℕ → Type 0) → the_key records ≡ Some key
    → ((rest : List Record) → P (damaged_at key 0 (KeyRecord key ∷ rest) 0)) → P (damaged_at key 0 records 0)
key_chain records key P keyed each =
    let (rest, whole) = key_and_rest records key keyed in
    subst P (ap (λ l. damaged_at key 0 l 0) (sym whole)) (each rest)

-- the leaf of a binding is one of the bottom level's
pub leaf_inside : (records : List Record) (key : Key) (k : ℕ) (bound : Bound) → IsLegal records → the_key records ≡ Some key
    → slice_get records k ≡ Some (BoundRecord bound) → bound.leaf < leaves_at key.secret (bottom_of key.secret)
leaf_inside records key k bound legal keyed at =
    let (has_tree, inside, randomizer) = legal.fits k (BoundRecord bound) at in
    subst (λ (own : Key). bound.leaf < leaves_at own.secret (bottom_of own.secret)) (legal_key records key legal keyed) inside

-- ---- the trees of a key

-- a key with LMS trees has a level, and a type for each
pub levels_typed : (secret : Secret) (trees : Trees) → trees_of secret ≡ Some trees → (1 ≤ levels_of secret) × (length trees.pairs ≡ levels_of secret)
levels_typed (Lms secret) trees these = (omega arith, ap (λ (t : Trees). length t.pairs) (sym (same_Some _ trees these)))
levels_typed (Hss [] identifier seed) trees these = absurd (cc)
levels_typed (Hss (pair ∷ rest) identifier seed) trees these = (omega arith, ap (λ (t : Trees). length t.pairs) (sym (same_Some _ trees these)))
levels_typed (Xmss secret) trees these = absurd (cc)

pub all_pairs : (secret : Secret) (trees : Trees) → trees_of secret ≡ Some trees → take (bottom_of secret + 1) trees.pairs ≡ trees.pairs
all_pairs secret trees these =
    let (some, typed) = levels_typed secret trees these in
    let count : bottom_of secret + 1 ≡ length trees.pairs = omega (arith, some, typed) in
    ap (λ n. take n trees.pairs) count ∙ take-length trees.pairs

-- ---- the tree of a binding

-- The tree that was current before a binding stands at the bottom level, and the binding's leaf is one of its leaves.
pub bound_tree : (records : List Record) (key : Key) (trees : Trees) (k : ℕ) (bound : Bound) → IsLegal records → the_key records ≡ Some key
    → trees_of key.secret ≡ Some trees → slice_get records k ≡ Some (BoundRecord bound)
    → IsTreeAt records (bottom_of key.secret) (current_at (bottom_of key.secret) records k)
    × (bound.leaf < 2 ^ height_of (secret_at trees records (current_at (bottom_of key.secret) records k)).pair.tree)
bound_tree records key trees k bound legal keyed these at =
    let first = key_stands records key keyed in
    let bottom = bottom_of key.secret in
    let ((tree, is_current), inside, randomizer) = legal.fits k (BoundRecord bound) at in
    let here : IsCurrent records k bottom tree =
    subst (λ (own : Key). IsCurrent records k (bottom_of own.secret) tree) (legal_key records key legal keyed) is_current in
    let within : k < length records = slice_get_within records k (BoundRecord bound) at in
    let before : current bottom (take k records) ≡ Some tree = before_current records k bottom tree (omega (arith, within)) here in
    let tree_is : tree ≡ current_at bottom records k = sym (ap (λ o. unwrap_or o 0) before) in
    let there : IsTreeAt records bottom (current_at bottom records k) = subst (IsTreeAt records bottom) tree_is (current_stands records k bottom tree here) in
    let (some, typed) = levels_typed key.secret trees these in
    let within_limit : bottom < levels_of key.secret = omega (arith, some) in (
      there,
      subst (λ n. bound.leaf < n)
          (leaves_of_level key.secret trees bottom these within_limit ∙ ap (λ p. 2 ^ height_of p.tree) (sym (pair_at key trees records bottom _ first these there)))
          (leaf_inside records key k bound legal keyed at),
    )

pub leaf_digest : (records : List Record) (key : Key) (trees : Trees) (k leaf : ℕ) (randomizer text : List ℕ) → the_key records ≡ Some key
    → trees_of key.secret ≡ Some trees
    → digest_at key records k leaf randomizer text
    ≡ message_digest_of (secret_at trees records (current_at (bottom_of key.secret) records k)).identifier leaf randomizer text
leaf_digest records key trees k leaf randomizer text keyed these = by_secret key.secret these (key_stands records key keyed)
  where
    by_secret : (secret : Secret) → trees_of secret ≡ Some trees → slice_get records 0 ≡ Some (KeyRecord key)
        → any_digest secret key.root records k leaf randomizer text
        ≡ message_digest_of (secret_at trees records (current_at (bottom_of secret) records k)).identifier leaf randomizer text
    by_secret (Lms secret) these first =
        let digest : LmsSecret → List ℕ = λ s. message_digest_of s.identifier leaf randomizer text in
        let top : trees.top ≡ secret = ap (λ (t : Trees). t.top) (sym (same_Some _ trees these)) in
        sym (ap (λ r. digest (made_secret trees r)) first ∙ ap digest top)
    by_secret (Hss levels identifier seed) these first =
        ap (λ t. digest_under t records (current_at (length levels - 1) records k) leaf randomizer text) these
    by_secret (Xmss secret) these first = absurd (cc)

-- ---- the types of a chain's trees

pair_of : Signing → LmsPair
pair_of signing = signing.secret.pair

take_one_more : {A : Type 0} (xs : List A) (k : ℕ) (other : A) → k < length xs → take k xs ++ slice_index_or xs k other ∷ [] ≡ take (suc k) xs
take_one_more [] k other within = absurd (omega (arith, within))
take_one_more (x ∷ xs) zero other within = refl
take_one_more (x ∷ xs) (suc k) other within = ap (λ l. x ∷ l) (take_one_more xs k other (omega (arith, within)))

-- the signings of a chain's trees have the types of their levels
signings_pairs : (records : List Record) (key : Key) (trees : Trees) (level place : ℕ) → IsLegal records → the_key records ≡ Some key
    → trees_of key.secret ≡ Some trees → IsTreeAt records level place → level < length trees.pairs
    → map pair_of (chain_signings trees level records place) ≡ take level trees.pairs
unfolding pair_of
signings_pairs records key trees zero place legal keyed these at within_limit = refl
signings_pairs records key trees (suc level) place legal keyed these (extend, stands, of_level) within_limit =
    let parent = current_at level records place in
    let (there, inside) = parent_of key trees records level place extend legal keyed these stands of_level in
    let above = chain_signings trees level records parent in
    let pair = (secret_at trees records parent).pair in
    map-append pair_of above (parent_signing trees records parent (slice_get records place))
    ∙ ap (λ r. map pair_of above ++ map pair_of (parent_signing trees records parent r)) stands
    ∙ ap (λ l. l ++ pair ∷ []) (signings_pairs records key trees level parent legal keyed these there (omega (arith, within_limit)))
    ∙ ap (λ p. take level trees.pairs ++ p ∷ []) (pair_at key trees records level parent (key_stands records key keyed) these there)
    ∙ take_one_more trees.pairs level trees.top.pair (omega (arith, within_limit))

pairs_of_links : (links : List Level) → pairs_of links ≡ map pair_of (signings_of links)
unfolding pair_of
pairs_of_links [] = refl
pairs_of_links (link ∷ links) = ap (λ l. link.tree.secret.pair ∷ l) (pairs_of_links links)

-- links that sign as a chain of trees does, down to the bottom, have the types of the levels
pub links_pairs : (records : List Record) (key : Key) (trees other : Trees) (level place : ℕ) (links : List Level) (last : Signing) → IsLegal records
    → the_key records ≡ Some key → trees_of key.secret ≡ Some trees → trees_of key.secret ≡ Some other → IsTreeAt records (bottom_of key.secret) place
    → level ≡ bottom_of key.secret → signings_of links ≡ chain_signings trees level records place ++ last ∷ [] → last.secret ≡ secret_at trees records place
    → pairs_of links ≡ other.pairs
unfolding pair_of
links_pairs records key trees other level place links last legal keyed these others at level_is signs secret =
    let bottom = bottom_of key.secret in
    let (some, typed) = levels_typed key.secret trees these in
    let within_limit : bottom < length trees.pairs = omega (arith, some, typed) in
    let count : suc bottom ≡ bottom + 1 = omega arith in
    pairs_of_links links ∙ ap (map pair_of) signs ∙ ap (λ n. map pair_of (chain_signings trees n records place ++ last ∷ [])) level_is
    ∙ map-append pair_of (chain_signings trees bottom records place) (last ∷ [])
    ∙ ap (λ l. l ++ last.secret.pair ∷ []) (signings_pairs records key trees bottom place legal keyed these at within_limit)
    ∙ ap (λ (s : LmsSecret). take bottom trees.pairs ++ s.pair ∷ []) secret
    ∙ ap (λ p. take bottom trees.pairs ++ p ∷ []) (pair_at key trees records bottom place (key_stands records key keyed) these at)
    ∙ take_one_more trees.pairs bottom trees.top.pair within_limit ∙ ap (λ n. take n trees.pairs) count ∙ all_pairs key.secret trees these
    ∙ ap (λ (t : Trees). t.pairs) (same_Some trees other (sym these ∙ others))

-- ---- XMSS

pub xmss_leaf_inside : (records : List Record) (key : Key) (secret : XmssSecret) (k : ℕ) (bound : Bound) → IsLegal records → the_key records ≡ Some key
    → IsXmssKey secret key → slice_get records k ≡ Some (BoundRecord bound) → bound.leaf < 2 ^ xmss_height_of secret.tree
xmss_leaf_inside records key secret k bound legal keyed is at =
    subst (λ s. bound.leaf < leaves_at s (bottom_of s)) is (leaf_inside records key k bound legal keyed at)

pub xmss_leaf_digest : (records : List Record) (key : Key) (secret : XmssSecret) (k leaf : ℕ) (randomizer text : List ℕ) → IsXmssKey secret key
    → digest_at key records k leaf randomizer text ≡ xmss_digest_at secret key.root leaf text
xmss_leaf_digest records key secret k leaf randomizer text is = ap (λ s. any_digest s key.root records k leaf randomizer text) is

pub xmss_signed : (records : List Record) (key : Key) (secret : XmssSecret) (k : ℕ) (bound : Bound) → IsXmssKey secret key
    → textbook_signature key records k bound ≡ xmss_signature_bytes (xmss_textbook secret bound.leaf bound.digest)
xmss_signed records key secret k bound is = ap (λ s. any_signature s records k bound) is

-- the chain of an XMSS key is its tree alone
pub xmss_damaged : (records : List Record) (key : Key) (secret : XmssSecret) (k : ℕ) → IsXmssKey secret key
    → damaged_at key (bottom_of key.secret) records (current_at (bottom_of key.secret) records k) ≡ damaged_at key 0 records 0
xmss_damaged records key secret k is = ap (λ s. damaged_at key (bottom_of s) records (current_at (bottom_of s) records k)) is

-- ---- digests by the tree of a place

-- Q
pub tree_digest : (records : List Record) (key : Key) (trees : Trees) (place k leaf : ℕ) (identifier randomizer : List ℕ) → the_key records ≡ Some key
    → trees_of key.secret ≡ Some trees → current_at (bottom_of key.secret) records k ≡ place → identifier ≡ (secret_at trees records place).identifier
    → message_digest_of identifier leaf randomizer ≡ digest_at key records k leaf randomizer
tree_digest records key trees place k leaf identifier randomizer keyed these at is =
    (λ i. message_digest_of (is i) leaf randomizer)
    ∙ (λ i. message_digest_of (secret_at trees records (sym at i)).identifier leaf randomizer)
    ∙ (λ i text. sym (leaf_digest records key trees k leaf randomizer text keyed these) i)

-- M'
pub xmss_tree_digest : (records : List Record) (key : Key) (secret : XmssSecret) (k leaf : ℕ) (made root randomizer : List ℕ) → IsXmssKey secret key
    → made ≡ randomizer_at secret.prf_key leaf → root ≡ key.root → xmss_message_digest_of made root leaf ≡ digest_at key records k leaf randomizer
xmss_tree_digest records key secret k leaf made root randomizer of_key is same =
    (λ i. xmss_message_digest_of (is i) (same i) leaf)
    ∙ (λ i text. sym (xmss_leaf_digest records key secret k leaf randomizer text of_key) i)
