-- A record names each leaf that a textbook signature uses, with the digest that it signs.
use Rattle.std.proofs.Common.{◌≡◌, ◌∙◌, refl, sym, ap, subst, inl, inr, ℕ, zero, suc, ◌+◌, ◌-◌, ◌<◌, ◌≤◌, List, [], ◌∷◌, length, take, map, get_or}
use Rattle.std.proofs.Common.{length-append, Some, None, arith}
use Rattle.std.specs.Prelude.{Contains, slice_get}
use Rattle.std.specs.List.{range_with_len}
use Rattle.std.proofs.lemmas.Bool.{cases_order}
use Rattle.std.proofs.lemmas.List.{get_or-map, get_or_append_left, get_or_at, length-map}
use Rattle.std.proofs.lemmas.List.FromFn.{get_or-map-range_with_len, length-map-range_with_len}
use Rattle.std.proofs.lemmas.Option.{same_Some, slice_get-get_or, slice_get_within}
use Rattle.typecodes.specs.declared.types.LmsPair.{LmsPair}
use Rattle.typecodes.specs.declared.secret.LmsSecret.{LmsSecret}
use Rattle.typecodes.specs.declared.secret.XmssSecret.{XmssSecret}
use Rattle.typecodes.proofs.Unambiguous.{unambiguous}
use Rattle.lmots.specs.Key.{message_digest_of}
use Rattle.lms.specs.declared.key.LmsPublic.{LmsPublic}
use Rattle.lms.specs.Signature.{Signature as LmsSignature, signature as lms_signature}
use Rattle.lms.specs.Secret.{public_of as lms_public_of, rooted_public as lms_rooted_public}
use Rattle.lms.specs.Writing.{public_bytes as lms_public_bytes, signature_bytes as lms_signature_bytes, textbook as lms_textbook}
use Rattle.lms.proofs.OneWay.{one_way-signature as lms_one_way}
use Rattle.xmss.specs.Signature.{signature as xmss_signature}
use Rattle.xmss.specs.Writing.{public_bytes as xmss_public_bytes, signature_bytes as xmss_signature_bytes, textbook as xmss_textbook}
use Rattle.xmss.specs.declared.key.XmssPublic.{XmssPublic}
use Rattle.xmss.proofs.OneWay.{one_way-signature as xmss_one_way}
use Rattle.xmss.proofs.TextbookBytes.{textbook_spelled as xmss_textbook_spelled}
use Rattle.hss.specs.Secret.{Signing}
use Rattle.hss.specs.Signature.{Signature as HssSignature, key_at, message_at, signature as hss_signature, signature_at as hss_signature_at}
use Rattle.hss.specs.SignedKey.{SignedKey}
use Rattle.hss.specs.Writing.{level_at, all_levels, signature_bytes as hss_signature_bytes, textbook as hss_textbook}
use Rattle.hss.proofs.Making.{signed-at, signed-count}
use Rattle.hss.proofs.OneWay.{one_way-signature as hss_one_way}
use Rattle.hss.proofs.Sized.{textbook-spelled as hss_textbook_spelled}
use Rattle.state_file.specs.Laws.{IsLegal, Names, bottom_of, identifier_of}
use Rattle.state_file.specs.declared.record.Bound.{Bound}
use Rattle.state_file.specs.declared.record.Key.{Key}
use Rattle.state_file.specs.declared.record.Record.{Record}
use Rattle.state_file.specs.declared.record.Record.TheVariants.{Key as KeyRecord, Extend as ExtendRecord, Bound as BoundRecord, Retire, Moved}
use Rattle.state_file.specs.declared.record.Secret.{Secret}
use Rattle.state_file.specs.declared.record.Secret.TheVariants.{Lms, Hss, Xmss}
use Rattle.state_file.specs.declared.record.Version.{Version}
use Rattle.sign_core.specs.declared.key.AnyPublic.{AnyPublic}
use Rattle.sign_core.specs.declared.key.AnyPublic.TheVariants.{Lms as AnyLms, Hss as AnyHss, Xmss as AnyXmss}
use Rattle.sign_core.specs.Records.{current}
use Rattle.sign_core.specs.Headline.{IsBoundTo, IsLast}
use Rattle.sign_core.specs.Headline.{LeafUse, MakesUses, lms_use, xmss_use}
use Rattle.sign_core.specs.Textbook.{AllHaveSizes, AreSound, Trees, damaged_at, lms_secret, any_public, any_public_of, secret_at, made_secret}
use Rattle.sign_core.specs.Textbook.{textbook_signature, chain_signings, current_at, digest_at}
use Rattle.sign_core.proofs.records.Chains.{SignsNext, current_made}
use Rattle.sign_core.proofs.records.CurrentTrees.{current_before}
use Rattle.sign_core.proofs.records.ValidSignatures.{AreLevelsOf, IsSoundlyBound, hss_levels, hss_trees, key_with, soundly_bound, undamaged}
use Rattle.sign_core.proofs.records.TextbookSpelling.{textbook_spelled}
use Rattle.sign_core.specs.inner.KeyTrees.{signing_of_bound}

-- ---- uses and records

-- what a record signs by the leaf that it names
abbrev pub SignsDigest : Record → (digest : List ℕ) → Type 0
SignsDigest (KeyRecord key) digest = ⊥
SignsDigest (ExtendRecord extend) digest = digest ≡ extend.digest
SignsDigest (BoundRecord bound) digest = digest ≡ bound.digest
SignsDigest (Retire upto) digest = ⊥
SignsDigest Moved digest = ⊥

-- the tree at this place has this I; an XMSS tree is the Key's
abbrev pub IsTreeOf : Secret → List Record → (tree : ℕ) → (identifier : List ℕ) → Type 0
IsTreeOf (Lms own) records tree identifier = (made : Record) × (slice_get records tree ≡ Some made) × (identifier_of made ≡ Some identifier)
IsTreeOf (Hss levels top seed) records tree identifier = (made : Record) × (slice_get records tree ≡ Some made) × (identifier_of made ≡ Some identifier)
IsTreeOf (Xmss own) records tree identifier = tree ≡ 0

-- A use of the leaf that the record at this place names, and of what it signs.
pub record IsUseOf (key : Key) (records : List Record) (place : ℕ) (use_made : LeafUse) : Type 0 where
  pub entry : Record
  pub stands : slice_get records place ≡ Some entry
  pub tree : ℕ
  pub names : Names key.secret records place entry tree use_made.leaf
  pub of_tree : IsTreeOf key.secret records tree use_made.identifier
  pub signs : SignsDigest entry use_made.digest

-- Each of these uses is a record's, and the last one the record's at place k.
record AreUsesOf (key : Key) (records : List Record) (k : ℕ) (uses : List LeafUse) : Type 0 where
  each : (u : LeafUse) → Contains uses u → (place : ℕ) × IsUseOf key records place u
  last : (u : LeafUse) → IsLast u uses → IsUseOf key records k u

-- ---- lists of uses

use_at : (f : ℕ → LeafUse) (n i : ℕ) (other : LeafUse) → i < n → get_or (map f (range_with_len 0 n)) i other ≡ f i
use_at f n i other inside = get_or-map-range_with_len f 0 n i i other inside (omega arith)

of_levels : (key : Key) (records : List Record) (k n : ℕ) (f : ℕ → LeafUse) (uses : List LeafUse) → uses ≡ map f (range_with_len 0 (n + 1))
    → ((i : ℕ) → i < n → (place : ℕ) × IsUseOf key records place (f i)) → IsUseOf key records k (f n) → AreUsesOf key records k uses
of_levels key records k n f uses are above bottom =
    let count : length uses ≡ n + 1 = ap length are ∙ length-map-range_with_len f 0 (n + 1) in
    record {
      each = λ u (i, within, at).
          let same : f i ≡ u = sym (use_at f (n + 1) i u (omega (arith, within, count))) ∙ ap (λ us. get_or us i u) (sym are) ∙ at in
          elim (cases_order i n) [
            | inl is_last ↦ (k, subst (IsUseOf key records k) (ap f (sym is_last) ∙ same) bottom)
            | inr (inl below) ↦ let (place, is) = above i below in (place, subst (IsUseOf key records place) same is)
            | inr (inr beyond) ↦ absurd (omega (arith, within, count, beyond))
          ];
      last = λ u (front, are_too).
          let long : length front ≡ n = omega (arith, count, ap length are_too, length-append front (u ∷ [])) in
          let same : f n ≡ u = sym (use_at f (n + 1) n u (omega arith)) ∙ ap (λ us. get_or us n u) (sym are ∙ are_too) ∙ get_or_at front u [] u n long in
          subst (IsUseOf key records k) same bottom;
    }

of_one : (key : Key) (records : List Record) (k : ℕ) (x : LeafUse) (uses : List LeafUse) → uses ≡ x ∷ [] → IsUseOf key records k x
    → AreUsesOf key records k uses
of_one key records k x uses are is =
    of_levels key records k 0 (λ i. x) uses are (λ i below. absurd (omega (arith, below))) is

-- ---- LMS

lms_uses : (records : List Record) (version : Version) (secret : LmsSecret) (root message : List ℕ) (k : ℕ) (bound : Bound) (uses : List LeafUse)
    → IsSoundlyBound records (key_with version (Lms secret) root) message k bound
    → MakesUses (AnyLms (lms_rooted_public secret root)) message (textbook_signature (key_with version (Lms secret) root) records k bound) uses
    → AreUsesOf (key_with version (Lms secret) root) records k uses
lms_uses records version secret root message k bound uses is (s, spelled, are) =
    let key = key_with version (Lms secret) root in
    let public = lms_rooted_public secret root in
    let t = lms_textbook secret bound.leaf bound.randomizer bound.digest in
    let (has_tree, inside, randomizer) = is.fits k (BoundRecord bound) is.stands in
    let t_spelled = textbook_spelled secret bound.leaf bound.randomizer bound.digest inside (is.sizes k (BoundRecord bound) is.stands).0 in
    let same : s ≡ t = (unambiguous lms_signature lms_one_way).one_value s t (lms_signature_bytes t) spelled t_spelled in
    of_one key records k (lms_use public message t) uses (are ∙ ap (λ s. lms_use public message s ∷ []) same) (record {
      entry = BoundRecord bound;
      stands = is.stands;
      tree = 0;
      names = (refl, refl);
      of_tree = (KeyRecord key, is.first, refl);
      signs = sym is.digest;
    })

-- ---- XMSS

xmss_uses : (records : List Record) (version : Version) (secret : XmssSecret) (root message : List ℕ) (k : ℕ) (bound : Bound)
    (uses : List LeafUse)
    → IsSoundlyBound records (key_with version (Xmss secret) root) message k bound
    → MakesUses (AnyXmss (record { tree = secret.tree; root = root; seed = secret.public_seed })) message
    (textbook_signature (key_with version (Xmss secret) root) records k bound) uses
    → AreUsesOf (key_with version (Xmss secret) root) records k uses
xmss_uses records version secret root message k bound uses is (s, spelled, are) =
    let key = key_with version (Xmss secret) root in
    let public : XmssPublic = record { tree = secret.tree; root = root; seed = secret.public_seed } in
    let t = xmss_textbook secret bound.leaf bound.digest in
    let (has_tree, inside, randomizer) = is.fits k (BoundRecord bound) is.stands in
    let same : s ≡ t = (unambiguous (xmss_signature secret.tree) (xmss_one_way secret.tree)).one_value s t (xmss_signature_bytes t) spelled
    (xmss_textbook_spelled secret bound.leaf bound.digest inside) in
    of_one key records k (xmss_use public message t) uses (are ∙ ap (λ s. xmss_use public message s ∷ []) same) (record {
      entry = BoundRecord bound;
      stands = is.stands;
      tree = 0;
      names = (refl, refl);
      of_tree = refl;
      signs = sym is.digest;
    })

-- its tree is named by the public key
pub xmss_named : (public : XmssPublic) (message bytes : List ℕ) (uses : List LeafUse) (u : LeafUse) → MakesUses (AnyXmss public) message bytes uses
    → Contains uses u → u.identifier ≡ xmss_public_bytes public
xmss_named public message bytes uses u (s, spelled, are) (i, inside, at) =
    let only : get_or (xmss_use public message s ∷ []) i u ≡ u = ap (λ us. get_or us i u) (sym are) ∙ at in
    let first : i ≡ 0 = omega (arith, inside, ap length are) in
    ap (λ v. v.identifier) (sym only ∙ ap (λ n. get_or (xmss_use public message s ∷ []) n u) first)

-- ---- HSS

signature_of : Signing → LmsSignature
signature_of level = lms_textbook level.secret level.leaf level.randomizer level.digest

key_of : Signing → LmsPublic
key_of level = lms_public_of level.secret

use_by : Signing → LeafUse
use_by level = record { identifier = level.secret.identifier; leaf = level.leaf; digest = level.digest }

signature_here : (above : List Signing) (bottom : Signing) (i : ℕ) → i < length above + 1
    → hss_signature_at (hss_textbook above bottom) i ≡ signature_of (level_at above bottom i)
unfolding signature_of key_of
signature_here above bottom i inside =
    let signed = (hss_textbook above bottom).signed in
    let signature_in : SignedKey → LmsSignature = λ one. one.signature in
    let count : length signed ≡ length above = signed-count signature_of key_of above bottom in
    let long : length (map signature_in signed) ≡ length above = length-map signed signature_in ∙ count in
    elim (cases_order i (length above)) [
      | inl same ↦ get_or_at (map signature_in signed) (signature_of bottom) [] (signature_of bottom) i (long ∙ sym same)
          ∙ ap signature_of (sym (get_or_at above bottom [] bottom i (sym same)))
      | inr (inl below) ↦
          let one : SignedKey = record { signature = signature_of (level_at above bottom i); key = key_of (level_at above bottom (i + 1)) } in
          get_or_append_left (map signature_in signed) (signature_of bottom ∷ []) (signature_of bottom) i (omega (arith, below, long))
          ∙ get_or-map signature_in signed i one (signature_of bottom) (omega (arith, below, count))
          ∙ ap signature_in (signed-at signature_of key_of above bottom i one below)
      | inr (inr beyond) ↦ absurd (omega (arith, inside, beyond))
    ]

-- the I of a level's key, below the top
below_top : (above : List Signing) (bottom : Signing) (top : LmsPublic) (i : ℕ) → i < length above
    → (key_at top (hss_textbook above bottom) (suc i)).identifier ≡ (level_at above bottom (i + 1)).secret.identifier
unfolding signature_of key_of
below_top above bottom top i below =
    let signed = (hss_textbook above bottom).signed in
    let the_key : SignedKey → LmsPublic = λ one. one.key in
    let count : length signed ≡ length above = signed-count signature_of key_of above bottom in
    let one : SignedKey = record { signature = signature_of (level_at above bottom i); key = key_of (level_at above bottom (i + 1)) } in
    ap (λ (key : LmsPublic). key.identifier)
    (get_or-map the_key signed i one top (omega (arith, below, count)) ∙ ap the_key (signed-at signature_of key_of above bottom i one below))

identifier_here : (above : List Signing) (bottom : Signing) (top : LmsPublic) (i : ℕ) → i < length above + 1
    → top.identifier ≡ (level_at above bottom 0).secret.identifier
    → (key_at top (hss_textbook above bottom) i).identifier ≡ (level_at above bottom i).secret.identifier
identifier_here above bottom top zero inside is = is
identifier_here above bottom top (suc i) inside is =
    let next : i + 1 ≡ suc i = omega arith in
    below_top above bottom top i (omega (arith, inside)) ∙ ap (λ n. (level_at above bottom n).secret.identifier) next

-- the use that a level of the textbook signature makes
use_here : (trees : Trees) (records : List Record) (above : List Signing) (bottom : Signing) (message : List ℕ) (top : LmsPublic) (i : ℕ)
    → AreLevelsOf trees records above bottom message → top.identifier ≡ trees.top.identifier → i < length above + 1
    → lms_use (key_at top (hss_textbook above bottom) i) (message_at message (hss_textbook above bottom) i)
    (hss_signature_at (hss_textbook above bottom) i) ≡ use_by (level_at above bottom i)
unfolding signature_of use_by
use_here trees records above bottom message top i levels top_is inside =
    let t = hss_textbook above bottom in
    let level = level_at above bottom i in
    let signed = message_at message t i in
    let first : top.identifier ≡ (level_at above bottom 0).secret.identifier = top_is
    ∙ ap (λ secret. secret.identifier)
    (sym (levels.chained.top (level_at above bottom 0)
    (slice_get-get_or (all_levels above bottom) 0 bottom (omega (arith, length-append above (bottom ∷ [])))))) in
    let with_parts : List ℕ → ℕ → List ℕ → LeafUse = λ identifier leaf digest. record { identifier = identifier; leaf = leaf; digest = digest } in
    ap (lms_use (key_at top t i) signed) (signature_here above bottom i inside)
    ∙ ap (λ identifier. with_parts identifier level.leaf (message_digest_of identifier level.leaf level.randomizer signed))
    (identifier_here above bottom top i inside first)
    ∙ ap (with_parts level.secret.identifier level.leaf) (sym (levels.signs.digests i inside))

-- ---- trees of HSS keys

-- a current tree's I is its secret's
tree_of : (trees : Trees) (records : List Record) (key : Key) (identifier : List ℕ) (level k tree : ℕ) → slice_get records 0 ≡ Some (KeyRecord key)
    → identifier_of (KeyRecord key) ≡ Some trees.top.identifier → current level (take k records) ≡ Some tree
    → identifier ≡ (secret_at trees records tree).identifier
    → (made : Record) × (slice_get records tree ≡ Some made) × (identifier_of made ≡ Some identifier)
tree_of trees records key identifier zero k tree first key_is is named =
    let zero_is : 0 ≡ tree = same_Some 0 tree is in
    let at : slice_get records tree ≡ Some (KeyRecord key) = ap (slice_get records) (sym zero_is) ∙ first in
    (KeyRecord key, at, key_is ∙ ap Some (sym (named ∙ ap (λ r. (made_secret trees r).identifier) at)))
tree_of trees records key identifier (suc level) k tree first key_is is named =
    let made = (current_made level k records tree is).1 in
    (ExtendRecord made.extend, made.stands, ap Some (sym (named ∙ ap (λ r. (made_secret trees r).identifier) made.stands)))

-- The use of a level above the bottom is the Extend's that makes the next level's tree.
link_use : (trees : Trees) (records : List Record) (key : Key) (level : ℕ) (x next : Signing) → slice_get records 0 ≡ Some (KeyRecord key)
    → identifier_of (KeyRecord key) ≡ Some trees.top.identifier
    → ((tree : ℕ) (identifier : List ℕ) → ((made : Record) × (slice_get records tree ≡ Some made) × (identifier_of made ≡ Some identifier))
    → IsTreeOf key.secret records tree identifier)
    → (link : SignsNext trees records level x next) → IsUseOf key records link.place (use_by x)
unfolding use_by
link_use trees records key level x next first key_is has_tree link =
    let within : link.place ≤ length records = omega (arith, slice_get_within records link.place (ExtendRecord link.extend) link.stands) in
    record {
      entry = ExtendRecord link.extend;
      stands = link.stands;
      tree = link.tree;
      names = (level, link.of_level, current_before records link.place level link.tree within link.current, ap (λ (s : Signing). s.leaf) link.is);
      of_tree = has_tree link.tree x.secret.identifier
          (tree_of trees records key x.secret.identifier level link.place link.tree first key_is link.current
          (ap (λ (s : Signing). s.secret.identifier) link.is));
      signs = ap (λ (s : Signing). s.digest) link.is;
    }

hss_uses : (records : List Record) (version : Version) (pair : LmsPair) (rest : List LmsPair) (identifier seed root message : List ℕ) (k : ℕ) (bound : Bound)
    (uses : List LeafUse)
    → IsSoundlyBound records (key_with version (Hss (pair ∷ rest) identifier seed) root) message k bound
    → MakesUses (AnyHss (record { levels = length (pair ∷ rest); top = lms_rooted_public (lms_secret pair identifier seed) root })) message
    (textbook_signature (key_with version (Hss (pair ∷ rest) identifier seed) root) records k bound) uses
    → AreUsesOf (key_with version (Hss (pair ∷ rest) identifier seed) root) records k uses
unfolding use_by signature_of key_of
hss_uses records version pair rest identifier seed root message k bound uses is (s, spelled, are) =
    let key = key_with version (Hss (pair ∷ rest) identifier seed) root in
    let trees = hss_trees pair rest identifier seed in
    let top = lms_rooted_public (lms_secret pair identifier seed) root in
    let level = length (pair ∷ rest) - 1 in
    let tree = current_at level records k in
    let above = chain_signings trees level records tree in
    let bottom = signing_of_bound trees records tree bound in
    let levels = hss_levels records version pair rest identifier seed root message k bound is in
    let t = hss_textbook above bottom in
    let t_spelled = hss_textbook_spelled above bottom (omega (arith, levels.count, levels.within_limit)) levels.sized in
    let same : s ≡ t = (unambiguous hss_signature hss_one_way).one_value s t (hss_signature_bytes t) spelled t_spelled in
    let recorded_entry : HssSignature → ℕ → LeafUse = λ s i. lms_use (key_at top s i) (message_at message s i) (hss_signature_at s i) in
    let count : length t.signed ≡ length above = signed-count signature_of key_of above bottom in
    let all : uses ≡ map (recorded_entry t) (range_with_len 0 (length above + 1)) = are
    ∙ ap (λ s. map (recorded_entry s) (range_with_len 0 (length s.signed + 1))) same ∙ ap (λ n. map (recorded_entry t) (range_with_len 0 (n + 1))) count in
    let own : (tree : ℕ) (identifier : List ℕ) → ((made : Record) × (slice_get records tree ≡ Some made) × (identifier_of made ≡ Some identifier))
    → IsTreeOf key.secret records tree identifier =
    λ tree identifier made. made in
    let count_levels : length (all_levels above bottom) ≡ length above + 1 = length-append above (bottom ∷ []) in
    let last : level_at above bottom (length above) ≡ bottom = get_or_at above bottom [] bottom (length above) refl in
    let within : k ≤ length records = omega (arith, slice_get_within records k (BoundRecord bound) is.stands) in
    of_levels key records k (length above) (recorded_entry t) uses all
    (λ i below.
    let x = level_at above bottom i in
    let next = level_at above bottom (i + 1) in
    let link = levels.chained.links i x next (slice_get-get_or (all_levels above bottom) i bottom (omega (arith, below, count_levels)))
    (slice_get-get_or (all_levels above bottom) (i + 1) bottom (omega (arith, below, count_levels))) in
    let use_is = use_here trees records above bottom message top i levels refl (omega (arith, below)) in
    (link.place, subst (IsUseOf key records link.place) (sym use_is) (link_use trees records key i x next is.first refl own link)))
    (subst (IsUseOf key records k) (sym (use_here trees records above bottom message top (length above) levels refl (omega arith) ∙ ap use_by last)) (record {
      entry = BoundRecord bound;
      stands = is.stands;
      tree = tree;
      names = (current_before records k level tree within is.current, refl);
      of_tree = tree_of trees records key (secret_at trees records tree).identifier level k tree is.first refl is.current refl;
      signs = refl;
    }))

-- ---- every scheme

uses_by : (records : List Record) (version : Version) (secret : Secret) (root message : List ℕ) (k : ℕ) (bound : Bound) (public : AnyPublic)
    (uses : List LeafUse)
    → IsSoundlyBound records (key_with version secret root) message k bound → any_public secret root ≡ Some public
    → MakesUses public message (textbook_signature (key_with version secret root) records k bound) uses
    → AreUsesOf (key_with version secret root) records k uses
uses_by records version (Lms secret) root message k bound public uses is is_public makes =
    lms_uses records version secret root message k bound uses is
    (subst (λ p. MakesUses p message (textbook_signature (key_with version (Lms secret) root) records k bound) uses)
    (sym (same_Some (AnyLms (lms_rooted_public secret root)) public is_public)) makes)
uses_by records version (Hss [] identifier seed) root message k bound public uses is is_public makes = absurd (cc)
uses_by records version (Hss (pair ∷ rest) identifier seed) root message k bound public uses is is_public makes =
    hss_uses records version pair rest identifier seed root message k bound uses is
    (subst (λ p. MakesUses p message (textbook_signature (key_with version (Hss (pair ∷ rest) identifier seed) root) records k bound) uses)
    (sym (same_Some (AnyHss (record { levels = length (pair ∷ rest); top = lms_rooted_public (lms_secret pair identifier seed) root })) public is_public)) makes)
uses_by records version (Xmss secret) root message k bound public uses is is_public makes =
    xmss_uses records version secret root message k bound uses is
    (subst (λ p. MakesUses p message (textbook_signature (key_with version (Xmss secret) root) records k bound) uses)
    (sym (same_Some (AnyXmss (record { tree = secret.tree; root = root; seed = secret.public_seed })) public is_public)) makes)

-- Over legal records where the chain of its trees is sound, each use of a binding's textbook signature is a record's ..
pub use_checked : (records : List Record) (key : Key) (name message : List ℕ) (k : ℕ) (bound : Bound) (public : AnyPublic) (uses : List LeafUse) (u : LeafUse)
    → IsLegal records → AllHaveSizes records → IsBoundTo records key name message k bound
    → damaged_at key (bottom_of key.secret) records (current_at (bottom_of key.secret) records k) ≡ None → any_public_of key ≡ Some public
    → MakesUses public message (textbook_signature key records k bound) uses → Contains uses u
    → (place : ℕ) × IsUseOf key records place u
use_checked records key name message k bound public uses u legal sizes is sound is_public makes there =
    (uses_by records key.version key.secret key.root message k bound public uses
    (soundly_bound records key name message k bound legal sizes is sound) is_public makes).each u there

-- .. and the last one is the binding's.
pub last_checked : (records : List Record) (key : Key) (name message : List ℕ) (k : ℕ) (bound : Bound) (public : AnyPublic) (uses : List LeafUse) (u : LeafUse)
    → IsLegal records → AllHaveSizes records → IsBoundTo records key name message k bound
    → damaged_at key (bottom_of key.secret) records (current_at (bottom_of key.secret) records k) ≡ None → any_public_of key ≡ Some public
    → MakesUses public message (textbook_signature key records k bound) uses → IsLast u uses
    → IsUseOf key records k u
last_checked records key name message k bound public uses u legal sizes is sound is_public makes last =
    (uses_by records key.version key.secret key.root message k bound public uses
    (soundly_bound records key name message k bound legal sizes is sound) is_public makes).last u last

-- The same over sound records.
pub use_recorded : (records : List Record) (key : Key) (name message : List ℕ) (k : ℕ) (bound : Bound) (public : AnyPublic) (uses : List LeafUse) (u : LeafUse)
    → AreSound records → AllHaveSizes records → IsBoundTo records key name message k bound → any_public_of key ≡ Some public
    → MakesUses public message (textbook_signature key records k bound) uses → Contains uses u
    → (place : ℕ) × IsUseOf key records place u
use_recorded records key name message k bound public uses u sound sizes is is_public makes there =
    let undamaged_here = undamaged records key (bottom_of key.secret) (current_at (bottom_of key.secret) records k) sound is.keyed in
    use_checked records key name message k bound public uses u sound.legal sizes is undamaged_here is_public makes there

pub last_recorded : (records : List Record) (key : Key) (name message : List ℕ) (k : ℕ) (bound : Bound) (public : AnyPublic) (uses : List LeafUse) (u : LeafUse)
    → AreSound records → AllHaveSizes records → IsBoundTo records key name message k bound → any_public_of key ≡ Some public
    → MakesUses public message (textbook_signature key records k bound) uses → IsLast u uses
    → IsUseOf key records k u
last_recorded records key name message k bound public uses u sound sizes is is_public makes last =
    let undamaged_here = undamaged records key (bottom_of key.secret) (current_at (bottom_of key.secret) records k) sound is.keyed in
    last_checked records key name message k bound public uses u sound.legal sizes is undamaged_here is_public makes last

-- ---- the digest of any text

last_is : (n : ℕ) (f : ℕ → LeafUse) (uses : List LeafUse) (u : LeafUse) → uses ≡ map f (range_with_len 0 (n + 1)) → IsLast u uses → f n ≡ u
last_is n f uses u are (front, are_too) =
    let count : length uses ≡ n + 1 = ap length are ∙ length-map-range_with_len f 0 (n + 1) in
    let long : length front ≡ n = omega (arith, count, ap length are_too, length-append front (u ∷ [])) in
    sym (use_at f (n + 1) n u (omega arith)) ∙ ap (λ us. get_or us n u) (sym are ∙ are_too) ∙ get_or_at front u [] u n long

lms_last : (records : List Record) (version : Version) (secret : LmsSecret) (root message text : List ℕ) (k : ℕ) (bound : Bound) (uses : List LeafUse)
    (u : LeafUse) → IsSoundlyBound records (key_with version (Lms secret) root) message k bound
    → MakesUses (AnyLms (lms_rooted_public secret root)) text (textbook_signature (key_with version (Lms secret) root) records k bound) uses
    → IsLast u uses → u.digest ≡ digest_at (key_with version (Lms secret) root) records k bound.leaf bound.randomizer text
lms_last records version secret root message text k bound uses u is (s, spelled, are) last =
    let public = lms_rooted_public secret root in
    let t = lms_textbook secret bound.leaf bound.randomizer bound.digest in
    let (has_tree, inside, randomizer) = is.fits k (BoundRecord bound) is.stands in
    let t_spelled = textbook_spelled secret bound.leaf bound.randomizer bound.digest inside (is.sizes k (BoundRecord bound) is.stands).0 in
    let same : s ≡ t = (unambiguous lms_signature lms_one_way).one_value s t (lms_signature_bytes t) spelled t_spelled in
    ap (λ (v : LeafUse). v.digest) (sym (last_is 0 (λ i. lms_use public text t) uses u (are ∙ ap (λ s. lms_use public text s ∷ []) same) last))

xmss_last : (records : List Record) (version : Version) (secret : XmssSecret) (root message text : List ℕ) (k : ℕ) (bound : Bound) (uses : List LeafUse)
    (u : LeafUse) → IsSoundlyBound records (key_with version (Xmss secret) root) message k bound
    → MakesUses (AnyXmss (record { tree = secret.tree; root = root; seed = secret.public_seed })) text
    (textbook_signature (key_with version (Xmss secret) root) records k bound) uses
    → IsLast u uses → u.digest ≡ digest_at (key_with version (Xmss secret) root) records k bound.leaf bound.randomizer text
xmss_last records version secret root message text k bound uses u is (s, spelled, are) last =
    let public : XmssPublic = record { tree = secret.tree; root = root; seed = secret.public_seed } in
    let t = xmss_textbook secret bound.leaf bound.digest in
    let (has_tree, inside, randomizer) = is.fits k (BoundRecord bound) is.stands in
    let same : s ≡ t = (unambiguous (xmss_signature secret.tree) (xmss_one_way secret.tree)).one_value s t (xmss_signature_bytes t) spelled
    (xmss_textbook_spelled secret bound.leaf bound.digest inside) in
    ap (λ (v : LeafUse). v.digest) (sym (last_is 0 (λ i. xmss_use public text t) uses u (are ∙ ap (λ s. xmss_use public text s ∷ []) same) last))

-- the bottom level of a textbook signature signs the text itself
bottom_digest : (above : List Signing) (bottom : Signing) (text : List ℕ) (top : LmsPublic) → top.identifier ≡ (level_at above bottom 0).secret.identifier
    → (lms_use (key_at top (hss_textbook above bottom) (length above)) (message_at text (hss_textbook above bottom) (length above))
    (hss_signature_at (hss_textbook above bottom) (length above))).digest
    ≡ message_digest_of bottom.secret.identifier bottom.leaf bottom.randomizer text
unfolding signature_of key_of
bottom_digest above bottom text top first =
    let t = hss_textbook above bottom in
    let n = length above in
    let key = key_at top t n in
    let bytes_in : SignedKey → List ℕ = λ one. lms_public_bytes one.key in
    let long : length (map bytes_in t.signed) ≡ n = length-map t.signed bytes_in ∙ signed-count signature_of key_of above bottom in
    let is_text : message_at text t n ≡ text = get_or_at (map bytes_in t.signed) text [] text n long in
    let last : level_at above bottom n ≡ bottom = get_or_at above bottom [] bottom n refl in
    ap (λ s. (lms_use key (message_at text t n) s).digest) (signature_here above bottom n (omega arith) ∙ ap signature_of last)
    ∙ ap (λ identifier. message_digest_of identifier bottom.leaf bottom.randomizer (message_at text t n))
    (identifier_here above bottom top n (omega arith) first ∙ ap (λ (l : Signing). l.secret.identifier) last)
    ∙ ap (message_digest_of bottom.secret.identifier bottom.leaf bottom.randomizer) is_text

hss_last : (records : List Record) (version : Version) (pair : LmsPair) (rest : List LmsPair) (identifier seed root message text : List ℕ) (k : ℕ)
    (bound : Bound) (uses : List LeafUse) (u : LeafUse)
    → IsSoundlyBound records (key_with version (Hss (pair ∷ rest) identifier seed) root) message k bound
    → MakesUses (AnyHss (record { levels = length (pair ∷ rest); top = lms_rooted_public (lms_secret pair identifier seed) root })) text
    (textbook_signature (key_with version (Hss (pair ∷ rest) identifier seed) root) records k bound) uses
    → IsLast u uses → u.digest ≡ digest_at (key_with version (Hss (pair ∷ rest) identifier seed) root) records k bound.leaf bound.randomizer text
unfolding signature_of key_of
hss_last records version pair rest identifier seed root message text k bound uses u is (s, spelled, are) last =
    let trees = hss_trees pair rest identifier seed in
    let top = lms_rooted_public (lms_secret pair identifier seed) root in
    let level = length (pair ∷ rest) - 1 in
    let tree = current_at level records k in
    let above = chain_signings trees level records tree in
    let bottom = signing_of_bound trees records tree bound in
    let levels = hss_levels records version pair rest identifier seed root message k bound is in
    let t = hss_textbook above bottom in
    let t_spelled = hss_textbook_spelled above bottom (omega (arith, levels.count, levels.within_limit)) levels.sized in
    let same : s ≡ t = (unambiguous hss_signature hss_one_way).one_value s t (hss_signature_bytes t) spelled t_spelled in
    let recorded_entry : HssSignature → ℕ → LeafUse = λ s i. lms_use (key_at top s i) (message_at text s i) (hss_signature_at s i) in
    let count : length t.signed ≡ length above = signed-count signature_of key_of above bottom in
    let all : uses ≡ map (recorded_entry t) (range_with_len 0 (length above + 1)) = are
    ∙ ap (λ s. map (recorded_entry s) (range_with_len 0 (length s.signed + 1))) same ∙ ap (λ n. map (recorded_entry t) (range_with_len 0 (n + 1))) count in
    let first : top.identifier ≡ (level_at above bottom 0).secret.identifier = ap (λ (secret : LmsSecret). secret.identifier)
    (sym (levels.chained.top (level_at above bottom 0)
    (slice_get-get_or (all_levels above bottom) 0 bottom (omega (arith, length-append above (bottom ∷ [])))))) in
    ap (λ (v : LeafUse). v.digest) (sym (last_is (length above) (recorded_entry t) uses u all last)) ∙ bottom_digest above bottom text top first

last_by : (records : List Record) (version : Version) (secret : Secret) (root message text : List ℕ) (k : ℕ) (bound : Bound) (public : AnyPublic)
    (uses : List LeafUse) (u : LeafUse)
    → IsSoundlyBound records (key_with version secret root) message k bound → any_public secret root ≡ Some public
    → MakesUses public text (textbook_signature (key_with version secret root) records k bound) uses
    → IsLast u uses → u.digest ≡ digest_at (key_with version secret root) records k bound.leaf bound.randomizer text
last_by records version (Lms secret) root message text k bound public uses u is is_public makes =
    lms_last records version secret root message text k bound uses u is
    (subst (λ p. MakesUses p text (textbook_signature (key_with version (Lms secret) root) records k bound) uses)
    (sym (same_Some (AnyLms (lms_rooted_public secret root)) public is_public)) makes)
last_by records version (Hss [] identifier seed) root message text k bound public uses u is is_public makes = absurd (cc)
last_by records version (Hss (pair ∷ rest) identifier seed) root message text k bound public uses u is is_public makes =
    hss_last records version pair rest identifier seed root message text k bound uses u is
    (subst (λ p. MakesUses p text (textbook_signature (key_with version (Hss (pair ∷ rest) identifier seed) root) records k bound) uses)
    (sym (same_Some (AnyHss (record { levels = length (pair ∷ rest); top = lms_rooted_public (lms_secret pair identifier seed) root })) public is_public)) makes)
last_by records version (Xmss secret) root message text k bound public uses u is is_public makes =
    xmss_last records version secret root message text k bound uses u is
    (subst (λ p. MakesUses p text (textbook_signature (key_with version (Xmss secret) root) records k bound) uses)
    (sym (same_Some (AnyXmss (record { tree = secret.tree; root = root; seed = secret.public_seed })) public is_public)) makes)

-- The last use of a binding's textbook signature signs, of any text, the digest under the bound leaf and C.
pub last_digest : (records : List Record) (key : Key) (name message text : List ℕ) (k : ℕ) (bound : Bound) (public : AnyPublic) (uses : List LeafUse)
    (u : LeafUse) → AreSound records → AllHaveSizes records → IsBoundTo records key name message k bound → any_public_of key ≡ Some public
    → MakesUses public text (textbook_signature key records k bound) uses → IsLast u uses
    → u.digest ≡ digest_at key records k bound.leaf bound.randomizer text
last_digest records key name message text k bound public uses u sound sizes is is_public makes =
    let undamaged_here = undamaged records key (bottom_of key.secret) (current_at (bottom_of key.secret) records k) sound is.keyed in
    last_by records key.version key.secret key.root message text k bound public uses u
    (soundly_bound records key name message k bound sound.legal sizes is undamaged_here) is_public makes
