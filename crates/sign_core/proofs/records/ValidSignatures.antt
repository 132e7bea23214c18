-- The textbook signature of a binding is valid where the chain of its trees is sound.
use Rattle.std.proofs.Common.{◌≡◌, ◌∙◌, refl, sym, ap, subst, ℕ, zero, suc, ◌+◌, ◌-◌, ◌<◌, ◌≤◌, ◌^◌, Bool, true, false, not, List, [], ◌∷◌, length}
use Rattle.std.proofs.Common.{take, find, cond, length-append, Some, None, Ok, arith}
use Rattle.std.specs.Prelude.{slice_get, slice_index_or, unwrap_or}
use Rattle.std.specs.Cmp.Lexicographic.{same_text}
use Rattle.std.proofs.lemmas.Option.{same_Some, slice_get-get_or, slice_get_within}
use Rattle.typecodes.specs.declared.types.LmsPair.{LmsPair}
use Rattle.typecodes.specs.declared.secret.LmsSecret.{LmsSecret}
use Rattle.typecodes.specs.declared.secret.XmssSecret.{XmssSecret}
use Rattle.typecodes.specs.Types.{height_of}
use Rattle.lms.specs.Secret.{leaf_path as lms_leaf_path, public_of as lms_public_of, rooted_public as lms_rooted_public}
use Rattle.lms.specs.declared.key.LmsPublic.{LmsPublic}
use Rattle.hss.specs.Secret.{Signing}
use Rattle.lms.specs.Writing.{textbook as lms_textbook}
use Rattle.lms.specs.Verification.{IsValid as IsLmsValid}
use Rattle.lms.proofs.Signing.{signed_valid as lms_signed_valid}
use Rattle.xmss.specs.declared.key.XmssPublic.{XmssPublic}
use Rattle.xmss.specs.Secret.{digest_at as xmss_digest_at, leaf_path as xmss_leaf_path, public_of as xmss_public_of}
use Rattle.xmss.specs.Verification.{IsValid as IsXmssValid}
use Rattle.xmss.specs.Writing.{textbook as xmss_textbook}
use Rattle.xmss.proofs.Signing.{signed_valid as xmss_signed_valid}
use Rattle.hss.specs.declared.key.HssPublic.{HssPublic}
use Rattle.hss.specs.Verification.{IsValid as IsHssValid}
use Rattle.hss.specs.Writing.{AreSized, AreSigning, level_at, all_levels, public_of as hss_public_of, textbook as hss_textbook}
use Rattle.hss.proofs.Making.{textbook_valid as hss_textbook_valid}
use Rattle.hss.proofs.Sized.{textbook-spelled as hss_textbook_spelled}
use Rattle.state_file.specs.Laws.{Fits, IsLegal, bottom_of, tree_leaves_at}
use Rattle.state_file.specs.declared.record.Bound.{Bound}
use Rattle.state_file.specs.declared.record.Key.{Key}
use Rattle.state_file.specs.declared.record.Record.{Record}
use Rattle.state_file.specs.declared.record.Record.TheVariants.{Key as KeyRecord, Bound as BoundRecord}
use Rattle.state_file.specs.declared.record.Secret.{Secret}
use Rattle.state_file.specs.declared.record.Version.{Version}
use Rattle.state_file.specs.declared.record.Secret.TheVariants.{Lms, Hss, Xmss}
use Rattle.sign_core.specs.declared.key.AnyPublic.{AnyPublic}
use Rattle.sign_core.specs.declared.key.AnyPublic.TheVariants.{Lms as AnyLms, Hss as AnyHss, Xmss as AnyXmss}
use Rattle.sign_core.specs.Records.{current, the_key}
use Rattle.sign_core.specs.Headline.{IsBoundTo, IsValidUnder}
use Rattle.sign_core.specs.Key.{KeyVerdict}
use Rattle.sign_core.specs.Textbook.{AllHaveSizes, AreSound, Trees, tree_chain, damaged_at, digest_at, is_sound_at, is_sound_record}
use Rattle.sign_core.specs.Textbook.{lms_secret, any_public, any_public_of, key_root, textbook_signature, chain_signings, current_at}
use Rattle.sign_core.proofs.records.Bindings.{binding_stands}
use Rattle.sign_core.proofs.records.Keys.{key_stands, legal_key}
use Rattle.sign_core.proofs.records.CurrentTrees.{before_current}
use Rattle.sign_core.proofs.records.Chains.{AreChained, chained, current_made, none_of_both, from_not}
use Rattle.sign_core.proofs.records.Textbook.{HasTrees, bound_sized, chain_signs, link_sized}
use Rattle.sign_core.proofs.records.TextbookSpelling.{textbook_spelled}
use Rattle.xmss.proofs.TextbookBytes.{textbook_spelled as xmss_textbook_spelled}
use Rattle.sign_core.specs.inner.KeyTrees.{signing_of_bound}

-- ---- what is known of a binding

-- A chain begins with the key, so that the key is sound.
top_sound : (key : Key) (records : List Record) (level k tree : ℕ) → current level (take k records) ≡ Some tree → damaged_at key level records tree ≡ None
    → is_sound_at key records 0 ≡ true
top_sound key records zero k tree is sound =
    from_not (is_sound_at key records 0)
    (ap (λ n. not (is_sound_at key records n)) (same_Some 0 tree is) ∙ (none_of_both (λ j. not (is_sound_at key records j)) [] tree sound).1)
top_sound key records (suc level) k tree is sound =
    let parent = current_at level records tree in
    let (chain_sound, tree_sound) = none_of_both (λ j. not (is_sound_at key records j)) (tree_chain level records parent) tree sound in
    top_sound key records level tree parent (current_made level k records tree is).1.above chain_sound

-- A name is bound over legal records to a digest of the message, and the chain of its trees is sound.
pub record IsSoundlyBound (records : List Record) (key : Key) (message : List ℕ) (k : ℕ) (bound : Bound) : Type 0 where
  pub first : slice_get records 0 ≡ Some (KeyRecord key)
  pub stands : slice_get records k ≡ Some (BoundRecord bound)
  pub fits : (j : ℕ) (entry : Record) → slice_get records j ≡ Some entry → Fits key records j entry
  pub sizes : AllHaveSizes records
  pub current : current (bottom_of key.secret) (take k records) ≡ Some (current_at (bottom_of key.secret) records k)
  pub sound : damaged_at key (bottom_of key.secret) records (current_at (bottom_of key.secret) records k) ≡ None
  pub root : key.root ≡ key_root key.secret
  pub digest : bound.digest ≡ digest_at key records k bound.leaf bound.randomizer message

pub soundly_bound : (records : List Record) (key : Key) (name message : List ℕ) (k : ℕ) (bound : Bound) → IsLegal records → AllHaveSizes records
    → IsBoundTo records key name message k bound → damaged_at key (bottom_of key.secret) records (current_at (bottom_of key.secret) records k) ≡ None
    → IsSoundlyBound records key message k bound
soundly_bound records key name message k bound legal sizes is sound =
    let bottom = bottom_of key.secret in
    let first = key_stands records key is.keyed in
    let stands = (binding_stands records name k bound is.named).0 in
    let fits : (j : ℕ) (entry : Record) → slice_get records j ≡ Some entry → Fits key records j entry =
    λ j entry at. subst (λ own. Fits own records j entry) (legal_key records key legal is.keyed) (legal.fits j entry at) in
    let (has_tree, inside, randomizer) = fits k (BoundRecord bound) stands in
    let found = before_current records k bottom has_tree.0 (omega (arith, slice_get_within records k (BoundRecord bound) stands)) has_tree.1 in
    let here : current bottom (take k records) ≡ Some (current_at bottom records k) = found ∙ ap (λ found. Some (unwrap_or found 0)) (sym found) in
    let sound_key : is_sound_record key records 0 (Some (KeyRecord key)) ≡ true =
    ap (is_sound_record key records 0) (sym first) ∙ top_sound key records bottom k (current_at bottom records k) here sound in
    record {
      first = first;
      stands = stands;
      fits = fits;
      sizes = sizes;
      current = here;
      sound = sound;
      root = same_text key.root (key_root key.secret) (sym sound_key);
      digest = sym is.digest;
    }

abbrev pub key_with : Version → Secret → List ℕ → Key
key_with version secret root = record { version = version; secret = secret; root = root }

-- ---- LMS

lms_checked : (records : List Record) (version : Version) (secret : LmsSecret) (root message : List ℕ) (k : ℕ) (bound : Bound)
    → IsSoundlyBound records (key_with version (Lms secret) root) message k bound
    → IsValidUnder (AnyLms (lms_rooted_public secret root)) message (textbook_signature (key_with version (Lms secret) root) records k bound)
lms_checked records version secret root message k bound is =
    let (has_tree, inside, randomizer) = is.fits k (BoundRecord bound) is.stands in
    let s = lms_textbook secret bound.leaf bound.randomizer bound.digest in
    let valid : IsLmsValid (lms_public_of secret) message s =
    lms_signed_valid secret bound.leaf bound.randomizer message bound.digest (lms_leaf_path secret bound.leaf) inside is.digest refl in (
      s,
      textbook_spelled secret bound.leaf bound.randomizer bound.digest inside (is.sizes k (BoundRecord bound) is.stands).0,
      subst (λ r. IsLmsValid (lms_rooted_public secret r) message s) (sym is.root) valid,
    )

-- ---- XMSS

xmss_checked : (records : List Record) (version : Version) (secret : XmssSecret) (root message : List ℕ) (k : ℕ) (bound : Bound)
    → IsSoundlyBound records (key_with version (Xmss secret) root) message k bound
    → IsValidUnder (AnyXmss (record { tree = secret.tree; root = root; seed = secret.public_seed })) message
    (textbook_signature (key_with version (Xmss secret) root) records k bound)
xmss_checked records version secret root message k bound is =
    let (has_tree, inside, randomizer) = is.fits k (BoundRecord bound) is.stands in
    let s = xmss_textbook secret bound.leaf bound.digest in
    let with_root : List ℕ → XmssPublic = λ r. record { tree = secret.tree; root = r; seed = secret.public_seed } in
    let digest = is.digest ∙ ap (λ r. xmss_digest_at secret r bound.leaf message) is.root in
    let valid : IsXmssValid (xmss_public_of secret) message s =
    xmss_signed_valid secret bound.leaf message bound.digest (xmss_leaf_path secret bound.leaf) inside digest refl in
    (s, xmss_textbook_spelled secret bound.leaf bound.digest inside, subst (λ r. IsXmssValid (with_root r) message s) (sym is.root) valid)

-- ---- HSS

abbrev pub hss_trees : LmsPair → List LmsPair → (identifier seed : List ℕ) → Trees
hss_trees pair rest identifier seed = record { top = lms_secret pair identifier seed; pairs = pair ∷ rest }

leaf_in : (pairs : List LmsPair) (level n : ℕ) (other : LmsPair) → n < tree_leaves_at pairs level → n < 2 ^ height_of (slice_index_or pairs level other).tree
leaf_in [] level n other inside = absurd (omega (arith, inside))
leaf_in (pair ∷ rest) zero n other inside = inside
leaf_in (pair ∷ rest) (suc level) n other inside = leaf_in rest level n other inside

pub hss_has_trees : (records : List Record) (version : Version) (pair : LmsPair) (rest : List LmsPair) (identifier seed root message : List ℕ) (k : ℕ)
    (bound : Bound)
    → IsSoundlyBound records (key_with version (Hss (pair ∷ rest) identifier seed) root) message k bound
    → HasTrees (key_with version (Hss (pair ∷ rest) identifier seed) root) (hss_trees pair rest identifier seed) records
hss_has_trees records version pair rest identifier seed root message k bound is =
    let key = key_with version (Hss (pair ∷ rest) identifier seed) root in
    record {
      these = refl;
      first = is.first;
      identifier = (is.sizes 0 (KeyRecord key) is.first).0.0;
      pairs = refl;
      leaves = λ level n inside. leaf_in (pair ∷ rest) level n pair inside;
      fits = is.fits;
      sizes = is.sizes;
    }

-- The levels of an HSS key's signature, as many as the key's. The first is the top tree's, each signs the next one's
-- key and the last the message, and their fields have their sizes.
pub record AreLevelsOf (trees : Trees) (records : List Record) (above : List Signing) (bottom : Signing) (message : List ℕ) : Type 0 where
  pub count : length above + 1 ≡ length trees.pairs
  pub within_limit : length trees.pairs ≤ 8
  pub chained : AreChained trees records above bottom
  pub sized : AreSized above bottom
  pub signs : AreSigning above bottom message

pub hss_levels : (records : List Record) (version : Version) (pair : LmsPair) (rest : List LmsPair) (identifier seed root message : List ℕ) (k : ℕ)
    (bound : Bound)
    → IsSoundlyBound records (key_with version (Hss (pair ∷ rest) identifier seed) root) message k bound
    → let trees = hss_trees pair rest identifier seed in let level = length (pair ∷ rest) - 1 in let tree = current_at level records k in
    AreLevelsOf trees records (chain_signings trees level records tree) (signing_of_bound trees records tree bound) message
hss_levels records version pair rest identifier seed root message k bound is =
    let key = key_with version (Hss (pair ∷ rest) identifier seed) root in
    let trees = hss_trees pair rest identifier seed in
    let has = hss_has_trees records version pair rest identifier seed root message k bound is in
    let level = length (pair ∷ rest) - 1 in
    let tree = current_at level records k in
    let bottom = signing_of_bound trees records tree bound in
    let (some, within_limit) = (is.sizes 0 (KeyRecord key) is.first).0.2 in
    let (count, links) = chained key trees records level k tree bottom refl is.first is.current refl is.sound in
    let (sized, signs) = chain_signs trees records (chain_signings trees level records tree) bottom message (link_sized key trees records has)
    (bound_sized key trees records has k tree bound is.stands is.current) is.digest links in
    record { count = omega (arith, count, some); within_limit = within_limit; chained = links; sized = sized; signs = signs }

hss_public_is : (trees : Trees) (records : List Record) (above : List Signing) (bottom : Signing) (message : List ℕ) (levels : ℕ) (public : LmsPublic)
    → length above + 1 ≡ levels → lms_public_of trees.top ≡ public → AreChained trees records above bottom
    → IsHssValid (hss_public_of above bottom) message (hss_textbook above bottom)
    → IsHssValid (record { levels = levels; top = public }) message (hss_textbook above bottom)
hss_public_is trees records above bottom message levels public count is links valid =
    let s = hss_textbook above bottom in
    let with_parts : ℕ → LmsPublic → HssPublic = λ n top. record { levels = n; top = top } in
    let inside : 0 < length (all_levels above bottom) = omega (arith, length-append above (bottom ∷ [])) in
    let top : (level_at above bottom 0).secret ≡ trees.top = links.top (level_at above bottom 0) (slice_get-get_or (all_levels above bottom) 0 bottom inside) in
    subst (λ key. IsHssValid (with_parts levels key) message s) (ap lms_public_of top ∙ is)
    (subst (λ n. IsHssValid (with_parts n (lms_public_of (level_at above bottom 0).secret)) message s) count valid)

hss_checked : (records : List Record) (version : Version) (pair : LmsPair) (rest : List LmsPair) (identifier seed root message : List ℕ) (k : ℕ) (bound : Bound)
    → IsSoundlyBound records (key_with version (Hss (pair ∷ rest) identifier seed) root) message k bound
    → IsValidUnder (AnyHss (record { levels = length (pair ∷ rest); top = lms_rooted_public (lms_secret pair identifier seed) root })) message
    (textbook_signature (key_with version (Hss (pair ∷ rest) identifier seed) root) records k bound)
hss_checked records version pair rest identifier seed root message k bound is =
    let trees = hss_trees pair rest identifier seed in
    let level = length (pair ∷ rest) - 1 in
    let tree = current_at level records k in
    let above = chain_signings trees level records tree in
    let bottom = signing_of_bound trees records tree bound in
    let levels = hss_levels records version pair rest identifier seed root message k bound is in
    let public : lms_public_of trees.top ≡ lms_rooted_public (lms_secret pair identifier seed) root = ap (lms_rooted_public (lms_secret pair identifier seed)) (sym is.root) in (
      hss_textbook above bottom,
      hss_textbook_spelled above bottom (omega (arith, levels.count, levels.within_limit)) levels.sized,
      hss_public_is trees records above bottom message (length (pair ∷ rest)) (lms_rooted_public (lms_secret pair identifier seed) root) levels.count public levels.chained
          (hss_textbook_valid above bottom message levels.signs),
    )

-- ---- every scheme

checked_by : (records : List Record) (version : Version) (secret : Secret) (root message : List ℕ) (k : ℕ) (bound : Bound) (public : AnyPublic)
    → IsSoundlyBound records (key_with version secret root) message k bound → any_public secret root ≡ Some public
    → IsValidUnder public message (textbook_signature (key_with version secret root) records k bound)
checked_by records version (Lms secret) root message k bound public is is_public =
    subst (λ p. IsValidUnder p message
    (textbook_signature (key_with version (Lms secret) root) records k bound))
    (same_Some (AnyLms (lms_rooted_public secret root)) public is_public) (lms_checked records version secret root message k bound is)
checked_by records version (Hss [] identifier seed) root message k bound public is is_public = absurd (cc)
checked_by records version (Hss (pair ∷ rest) identifier seed) root message k bound public is is_public =
    subst (λ p. IsValidUnder p message (textbook_signature (key_with version (Hss (pair ∷ rest) identifier seed) root) records k bound))
    (same_Some (AnyHss (record { levels = length (pair ∷ rest); top = lms_rooted_public (lms_secret pair identifier seed) root })) public is_public)
    (hss_checked records version pair rest identifier seed root message k bound is)
checked_by records version (Xmss secret) root message k bound public is is_public =
    subst (λ p. IsValidUnder p message (textbook_signature (key_with version (Xmss secret) root) records k bound))
    (same_Some (AnyXmss (record { tree = secret.tree; root = root; seed = secret.public_seed })) public is_public)
    (xmss_checked records version secret root message k bound is)

pub checked : (records : List Record) (key : Key) (name message : List ℕ) (k : ℕ) (bound : Bound) (public : AnyPublic) → IsLegal records → AllHaveSizes records
    → IsBoundTo records key name message k bound → damaged_at key (bottom_of key.secret) records (current_at (bottom_of key.secret) records k) ≡ None
    → any_public_of key ≡ Some public → IsValidUnder public message (textbook_signature key records k bound)
checked records key name message k bound public legal sizes is sound is_public =
    checked_by records key.version key.secret key.root message k bound public (soundly_bound records key name message k bound legal sizes is sound) is_public

none_passes : {A : Type 0} (test : A → Bool) (xs : List A) → ((x : A) → test x ≡ false) → find test xs ≡ None
none_passes test [] none = refl
none_passes test (x ∷ xs) none = ap (λ b. cond b (Some x) (find test xs)) (none x) ∙ none_passes test xs none

pub undamaged : (records : List Record) (key : Key) (level tree : ℕ) → AreSound records → the_key records ≡ Some key → damaged_at key level records tree ≡ None
undamaged records key level tree sound keyed =
    let same : sound.key ≡ key = same_Some sound.key key (sym sound.keyed ∙ keyed) in
    none_passes (λ k. not (is_sound_at key records k)) (tree_chain level records tree)
    (λ k. ap not (subst (λ own. is_sound_at own records k ≡ true) same (sound.sound k)))

pub all_valid : (records : List Record) (key : Key) (name message : List ℕ) (k : ℕ) (bound : Bound) (public : AnyPublic) → AreSound records
    → AllHaveSizes records
    → IsBoundTo records key name message k bound → any_public_of key ≡ Some public → IsValidUnder public message (textbook_signature key records k bound)
all_valid records key name message k bound public sound sizes is is_public =
    checked records key name message k bound public sound.legal sizes is
    (undamaged records key (bottom_of key.secret) (current_at (bottom_of key.secret) records k) sound is.keyed) is_public

-- ---- what verification accepts

-- A signature is valid exactly where verification answers Ok.
pub accepts : {A : Type 0} (public : AnyPublic) (message bytes : List ℕ) (answer : A) → IsValidUnder public message bytes
    → KeyVerdict public message bytes (Ok answer)
accepts (AnyLms key) message bytes answer valid = valid
accepts (AnyHss key) message bytes answer valid = valid
accepts (AnyXmss key) message bytes answer valid = valid

pub accepted : {A : Type 0} (public : AnyPublic) (message bytes : List ℕ) (answer : A) → KeyVerdict public message bytes (Ok answer)
    → IsValidUnder public message bytes
accepted (AnyLms key) message bytes answer valid = valid
accepted (AnyHss key) message bytes answer valid = valid
accepted (AnyXmss key) message bytes answer valid = valid
