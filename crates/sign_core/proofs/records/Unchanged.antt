-- What records determine stays when more records follow.
use Rattle.std.proofs.Common.{◌≡◌, ◌∙◌, refl, sym, ap, ap₂, ℕ, zero, suc, ◌+◌, ◌-◌, ◌<◌, ◌≤◌, ◌⊎◌, inl, inr, Bool, true, false, List, [], ◌∷◌, ◌++◌}
use Rattle.std.proofs.Common.{length, take, Option, Some, None, arith}
use Rattle.std.specs.Prelude.{◌&&◌, if◌then◌else◌, slice_get, unwrap_or}
use Rattle.std.proofs.lemmas.List.{length-take-le, length_push, take-append-le}
use Rattle.state_file.specs.declared.record.Bound.{Bound}
use Rattle.state_file.specs.declared.record.Extend.{Extend}
use Rattle.state_file.specs.declared.record.Key.{Key}
use Rattle.state_file.specs.declared.record.Record.{Record}
use Rattle.state_file.specs.declared.record.Record.TheVariants.{Key as KeyRecord, Extend as ExtendRecord, Bound as BoundRecord, Retire, Moved}
use Rattle.state_file.specs.declared.record.Secret.{Secret}
use Rattle.state_file.specs.declared.record.Secret.TheVariants.{Lms, Hss, Xmss}
use Rattle.typecodes.specs.declared.secret.LmsSecret.{LmsSecret}
use Rattle.lms.specs.Secret.{public_of}
use Rattle.lms.specs.Writing.{public_bytes}
use Rattle.lmots.specs.Key.{message_digest_of}
use Rattle.hss.specs.Secret.{Signing}
use Rattle.hss.specs.Writing.{signature_bytes, textbook}
use Rattle.sign_core.proofs.records.Lists.{slice_get_front, slice_get_new}
use Rattle.sign_core.specs.Records.{are_same, current, has_moved, is_moved, the_key, last_extend, makes}
use Rattle.sign_core.specs.Records.{same_tree, under}
use Rattle.sign_core.specs.Textbook.{Trees, digest_at, any_digest, is_sound_at, is_sound_extend, is_sound_record}
use Rattle.sign_core.proofs.records.Parts.{digest_under, hss_signature_under}
use Rattle.sign_core.specs.Textbook.{secret_at, made_secret}
use Rattle.sign_core.specs.Textbook.{textbook_signature, any_signature, parent_signing, chain_signings, current_at, trees_of}

-- ---- places

pub old_or_new : {A : Type 0} (xs : List A) (new : A) (k : ℕ) (x : A) → slice_get (xs ++ new ∷ []) k ≡ Some x → (slice_get xs k ≡ Some x) ⊎ (new ≡ x)
old_or_new [] new zero x is = inr (cc)
old_or_new [] new (suc k) x is = absurd (cc)
old_or_new (first ∷ xs) new zero x is = inl is
old_or_new (first ∷ xs) new (suc k) x is = old_or_new xs new k x is

-- ---- which tree is current

made_low : (test : Bool) (k n : ℕ) (found : Option ℕ) (tree : ℕ) → (if test then Some k else found) ≡ Some tree → (found ≡ Some tree) ⊎ (tree < k + suc n)
made_low true k n found tree is = let same : k ≡ tree = cc in inr (omega (arith, same))
made_low false k n found tree is = inl is

last_low : (level k : ℕ) (found : Option ℕ) (records : List Record) (tree : ℕ) → last_extend level k found records ≡ Some tree
    → (found ≡ Some tree) ⊎ (tree < k + length records)
last_low level k found [] tree is = inl is
last_low level k found (entry ∷ rest) tree is = elim (last_low level (k + 1) (if makes level entry then Some k else found) rest tree is) [
  | inl same ↦ made_low (makes level entry) k (length rest) found tree same
  | inr low ↦ inr (omega (arith, low))
]

chosen : (test : Bool) (j tree : ℕ) → (if test then Some j else None) ≡ Some tree → j ≡ tree
chosen true j tree is = cc
chosen false j tree is = absurd (cc)

under_low : (above : List Record → Option ℕ) (records : List Record) (found : Option ℕ) (tree : ℕ) → under above records found ≡ Some tree → found ≡ Some tree
under_low above records None tree is = absurd (cc)
under_low above records (Some j) tree is = ap Some (chosen (same_tree (above (take j records)) (above records)) j tree is)

-- a current tree is the Key's, or stands among the records
pub current_low : (level : ℕ) (records : List Record) (tree : ℕ) → current level records ≡ Some tree → (tree ≡ 0) ⊎ (tree < length records)
current_low zero records tree is = inl (let same : 0 ≡ tree = cc in sym same)
current_low (suc level) records tree is =
    elim (last_low (suc level) 0 None records tree (under_low (current level) records (last_extend (suc level) 0 None records) tree is)) [
      | inl none ↦ absurd (cc)
      | inr low ↦ inr (omega (arith, low))
    ]

low_or : (found : Option ℕ) (n m : ℕ) → 0 < m → n ≤ m → ((tree : ℕ) → found ≡ Some tree → (tree ≡ 0) ⊎ (tree < n)) → unwrap_or found 0 < m
low_or None n m some within each = some
low_or (Some tree) n m some within each = elim (each tree refl) [ inl same ↦ omega (arith, same, some) | inr low ↦ omega (arith, low, within) ]

-- a tree before a place stands among the records
pub tree_low : (level : ℕ) (records : List Record) (k : ℕ) → 0 < length records → k ≤ length records → current_at level records k < length records
tree_low level records k some within =
    let size : length (take k records) ≤ length records = omega (arith, length-take-le k records within, within) in
    low_or (current level (take k records)) (length (take k records)) (length records) some size (current_low level (take k records))

pub before_stays : (level : ℕ) (xs ys : List Record) (k : ℕ) → k ≤ length xs → current_at level (xs ++ ys) k ≡ current_at level xs k
before_stays level xs ys k within = ap (λ records. unwrap_or (current level records) 0) (take-append-le k xs ys within)

-- ---- secrets and signatures

pub secret_stays : (trees : Trees) (xs ys : List Record) (tree : ℕ) → tree < length xs → secret_at trees (xs ++ ys) tree ≡ secret_at trees xs tree
secret_stays trees xs ys tree low = ap (made_secret trees) (slice_get_front xs ys tree low)

secret_before_stays : (trees : Trees) (xs ys : List Record) (level k : ℕ) → 0 < length xs → k ≤ length xs
    → secret_at trees (xs ++ ys) (current_at level (xs ++ ys) k) ≡ secret_at trees xs (current_at level xs k)
secret_before_stays trees xs ys level k some within =
    ap (secret_at trees (xs ++ ys)) (before_stays level xs ys k within) ∙ secret_stays trees xs ys (current_at level xs k) (tree_low level xs k some within)

signing_stays : (trees : Trees) (xs ys : List Record) (parent : ℕ) (found : Option Record) → parent < length xs
    → parent_signing trees (xs ++ ys) parent found ≡ parent_signing trees xs parent found
signing_stays trees xs ys parent (Some (ExtendRecord extend)) low =
    let signing : LmsSecret → List Signing = λ secret. record {
      secret = secret;
      leaf = extend.parent_leaf;
      randomizer = extend.randomizer;
      digest = extend.digest;
    } ∷ [] in
    ap signing (secret_stays trees xs ys parent low)
signing_stays trees xs ys parent (Some (KeyRecord key)) low = refl
signing_stays trees xs ys parent (Some (BoundRecord bound)) low = refl
signing_stays trees xs ys parent (Some (Retire upto)) low = refl
signing_stays trees xs ys parent (Some Moved) low = refl
signing_stays trees xs ys parent None low = refl

pub signings_stay : (trees : Trees) (level : ℕ) (xs ys : List Record) (tree : ℕ) → tree < length xs
    → chain_signings trees level (xs ++ ys) tree ≡ chain_signings trees level xs tree
signings_stay trees zero xs ys tree low = refl
signings_stay trees (suc level) xs ys tree low =
    let parent = current_at level xs tree in
    let inside : parent < length xs = tree_low level xs tree (omega (arith, low)) (omega (arith, low)) in
    let all : ℕ → List Signing = λ p. chain_signings trees level (xs ++ ys) p ++ parent_signing trees (xs ++ ys) p (slice_get (xs ++ ys) tree) in
    ap all (before_stays level xs ys tree (omega (arith, low)))
    ∙ ap₂ (λ above own. above ++ own) (signings_stay trees level xs ys parent inside)
    (ap (parent_signing trees (xs ++ ys) parent) (slice_get_front xs ys tree low) ∙ signing_stays trees xs ys parent (slice_get xs tree) inside)

bound_signing : LmsSecret → Bound → Signing
bound_signing secret bound = record { secret = secret; leaf = bound.leaf; randomizer = bound.randomizer; digest = bound.digest }

hss_stays : (trees : Option Trees) (xs ys : List Record) (level tree : ℕ) (bound : Bound) → tree < length xs
    → hss_signature_under trees (xs ++ ys) level tree bound ≡ hss_signature_under trees xs level tree bound
hss_stays None xs ys level tree bound low = refl
hss_stays (Some trees) xs ys level tree bound low =
    let bottom : LmsSecret → Signing = λ secret. record { secret = secret; leaf = bound.leaf; randomizer = bound.randomizer; digest = bound.digest } in
    ap₂ (λ above secret. signature_bytes (textbook above (bottom secret))) (signings_stay trees level xs ys tree low) (secret_stays trees xs ys tree low)

signature_by_stays : (secret : Secret) (xs ys : List Record) (k : ℕ) (bound : Bound) → 0 < length xs → k ≤ length xs
    → any_signature secret (xs ++ ys) k bound ≡ any_signature secret xs k bound
signature_by_stays (Lms secret) xs ys k bound some within = refl
signature_by_stays (Xmss secret) xs ys k bound some within = refl
signature_by_stays (Hss levels identifier seed) xs ys k bound some within =
    let bottom = length levels - 1 in
    let trees = trees_of (Hss levels identifier seed) in
    ap (λ tree. hss_signature_under trees (xs ++ ys) bottom tree bound) (before_stays bottom xs ys k within)
    ∙ hss_stays trees xs ys bottom (current_at bottom xs k) bound (tree_low bottom xs k some within)

pub signature_stays : (key : Key) (xs ys : List Record) (k : ℕ) (bound : Bound) → 0 < length xs → k ≤ length xs
    → textbook_signature key (xs ++ ys) k bound ≡ textbook_signature key xs k bound
signature_stays key = signature_by_stays key.secret

digest_under_stays : (trees : Option Trees) (xs ys : List Record) (tree leaf : ℕ) (randomizer message : List ℕ) → tree < length xs
    → digest_under trees (xs ++ ys) tree leaf randomizer message ≡ digest_under trees xs tree leaf randomizer message
digest_under_stays None xs ys tree leaf randomizer message low = refl
digest_under_stays (Some trees) xs ys tree leaf randomizer message low =
    ap (λ secret. message_digest_of secret.identifier leaf randomizer message) (secret_stays trees xs ys tree low)

digest_by_stays : (secret : Secret) (root : List ℕ) (xs ys : List Record) (k leaf : ℕ) (randomizer message : List ℕ) → 0 < length xs → k ≤ length xs
    → any_digest secret root (xs ++ ys) k leaf randomizer message ≡ any_digest secret root xs k leaf randomizer message
digest_by_stays (Lms secret) root xs ys k leaf randomizer message some within = refl
digest_by_stays (Xmss secret) root xs ys k leaf randomizer message some within = refl
digest_by_stays (Hss levels identifier seed) root xs ys k leaf randomizer message some within =
    let bottom = length levels - 1 in
    let trees = trees_of (Hss levels identifier seed) in
    ap (λ tree. digest_under trees (xs ++ ys) tree leaf randomizer message) (before_stays bottom xs ys k within)
    ∙ digest_under_stays trees xs ys (current_at bottom xs k) leaf randomizer message (tree_low bottom xs k some within)

pub digest_stays : (key : Key) (xs ys : List Record) (k leaf : ℕ) (randomizer message : List ℕ) → 0 < length xs → k ≤ length xs
    → digest_at key (xs ++ ys) k leaf randomizer message ≡ digest_at key xs k leaf randomizer message
digest_stays key = digest_by_stays key.secret key.root

-- ---- what is sound

-- an Extend before the end, and one right at the end
pub extend_stays : (trees : Option Trees) (xs ys : List Record) (k : ℕ) (extend : Extend) → 0 < length xs → k ≤ length xs
    → is_sound_extend trees (xs ++ ys) k extend ≡ is_sound_extend trees xs k extend
extend_stays None xs ys k extend some within = refl
extend_stays (Some trees) xs ys k extend some within =
    let made = public_of (made_secret trees (Some (ExtendRecord extend))) in
    let test : LmsSecret → Bool = λ parent.
    are_same extend.root made.root && are_same extend.digest
    (message_digest_of parent.identifier extend.parent_leaf extend.randomizer (public_bytes made)) in
    ap test (secret_before_stays trees xs ys (extend.level - 1) k some within)

pub record_stays : (key : Key) (xs ys : List Record) (k : ℕ) (found : Option Record) → 0 < length xs → k ≤ length xs
    → is_sound_record key (xs ++ ys) k found ≡ is_sound_record key xs k found
record_stays key xs ys k (Some (KeyRecord own)) some within = refl
record_stays key xs ys k (Some (ExtendRecord extend)) some within = extend_stays (trees_of key.secret) xs ys k extend some within
record_stays key xs ys k (Some (BoundRecord bound)) some within = refl
record_stays key xs ys k (Some (Retire upto)) some within = refl
record_stays key xs ys k (Some Moved) some within = refl
record_stays key xs ys k None some within = refl

pub sound_stays : (key : Key) (xs ys : List Record) (k : ℕ) → k < length xs → is_sound_at key (xs ++ ys) k ≡ is_sound_at key xs k
sound_stays key xs ys k low =
    ap (is_sound_record key (xs ++ ys) k) (slice_get_front xs ys k low) ∙ record_stays key xs ys k (slice_get xs k) (omega (arith, low)) (omega (arith, low))

-- ---- the key and the last record

pub key_stays : (xs ys : List Record) (key : Key) → the_key xs ≡ Some key → the_key (xs ++ ys) ≡ Some key
key_stays [] ys key is = absurd (cc)
key_stays (KeyRecord first ∷ rest) ys key is = is
key_stays (ExtendRecord extend ∷ rest) ys key is = absurd (cc)
key_stays (BoundRecord bound ∷ rest) ys key is = absurd (cc)
key_stays (Retire upto ∷ rest) ys key is = absurd (cc)
key_stays (Moved ∷ rest) ys key is = absurd (cc)

pub some_keyed : (records : List Record) (key : Key) → the_key records ≡ Some key → 0 < length records
some_keyed [] key is = absurd (cc)
some_keyed (first ∷ rest) key is = omega arith

pub last_is : (xs : List Record) (entry : Record) → has_moved (xs ++ entry ∷ []) ≡ is_moved (Some entry)
last_is xs entry =
    let place : length (xs ++ entry ∷ []) - 1 ≡ length xs = omega (arith, length_push xs entry) in
    ap is_moved (ap (slice_get (xs ++ entry ∷ [])) place ∙ slice_get_new xs entry)
