-- A migration keeps trees, leaves, names and signatures: none of them depends on the version, or on a Moved at the end.
use Rattle.std.proofs.Common.{◌≡◌, ◌≢◌, ◌∙◌, refl, sym, ap, ap₂, subst, ℕ, zero, suc, ◌+◌, ◌-◌, ◌<◌, ◌≤◌, ◌⊎◌, inl, inr, Bool, true, false, not, ◌&&◌}
use Rattle.std.proofs.Common.{List, [], ◌∷◌, ◌++◌, length, take, map, Option, Some, None, arith}
use Rattle.std.specs.Prelude.{fold, find, if◌then◌else◌, is_some, max, nat_lt, nat_le, slice_get, unwrap_or}
use Rattle.std.proofs.lemmas.Bool.{cases_lt, cases_Bool, and_parts, and_from, not_from_false}
use Rattle.std.proofs.lemmas.List.{length_push, take_all}
use Rattle.std.proofs.lemmas.Option.{same_Some, slice_get_within}
use Rattle.state_file.specs.Carried.{carried, in_version, unmoved, with_moved}
use Rattle.state_file.specs.Laws.{IsLegal, bottom_of, identifier_of, leaves_at, levels_of}
use Rattle.state_file.specs.declared.record.Bound.{Bound}
use Rattle.state_file.specs.declared.record.Extend.{Extend}
use Rattle.state_file.specs.declared.record.Key.{Key}
use Rattle.state_file.specs.declared.record.Record.{Record}
use Rattle.state_file.specs.declared.record.Record.TheVariants.{Key as KeyRecord, Extend as ExtendRecord, Bound as BoundRecord, Retire, Moved}
use Rattle.state_file.specs.declared.record.Secret.{Secret}
use Rattle.state_file.specs.declared.record.Secret.TheVariants.{Lms, Hss, Xmss}
use Rattle.state_file.specs.declared.record.Version.{Version}
use Rattle.state_file.specs.declared.record.Version.TheVariants.{Two}
use Rattle.state_file.proofs.Legal.{legal_beginning}
use Rattle.typecodes.specs.declared.secret.LmsSecret.{LmsSecret}
use Rattle.lms.specs.Secret.{public_of}
use Rattle.lms.specs.Writing.{public_bytes}
use Rattle.lmots.specs.Key.{message_digest_of}
use Rattle.hss.specs.Secret.{Signing}
use Rattle.hss.specs.Writing.{signature_bytes, textbook}
use Rattle.sign_core.specs.Headline.{IsRecorded}
use Rattle.sign_core.specs.Records.{are_same, binding_at, can_follow, can_follow_legal, can_move, has_randomizer, current, has_identifier, has_moved, next_illegal, in_tree}
use Rattle.sign_core.specs.Records.{is_free, is_moved, the_key, last_extend, next_at, next_leaf, reached_number, reached_numbers, reaches, same_tree, under}
use Rattle.sign_core.proofs.records.Parts.{migrated_key, next_of}
use Rattle.sign_core.specs.Textbook.{AllHaveSizes, AreSound, HasSizes, Trees, digest_at, any_digest, is_sound_at, is_sound_extend}
use Rattle.sign_core.proofs.records.Parts.{digest_under, hss_signature_under}
use Rattle.sign_core.specs.Textbook.{is_sound_record, secret_at, made_secret, textbook_signature, any_signature, parent_signing, chain_signings, current_at, trees_of}
use Rattle.sign_core.specs.World.{Handed, Migration, State, carried_over, closed_state, left_alone, migrated, migrated_list, sealed}
use Rattle.sign_core.proofs.records.Bindings.{binding_other, binding_stands, is_of}
use Rattle.sign_core.proofs.records.CanFollow.{key_stays as key_of_front, moved_means, none_moved}
use Rattle.sign_core.proofs.records.FirstIllegal.{legal_from_none, none_from_legal}
use Rattle.sign_core.proofs.records.Lists.{slice_get_stays, take_with_next}
use Rattle.sign_core.proofs.law.KeptByEvents.{IsKept, kept_grown, sound_with}
use Rattle.sign_core.proofs.records.Unchanged.{digest_stays, signature_stays, sound_stays}

abbrev pub NoMoved : List Record → Type 0
NoMoved records = (k : ℕ) (entry : Record) → slice_get records k ≡ Some entry → entry ≢ Moved

-- ---- another version of the Key at the head

abbrev pub key_in_version : Version → Key → Key
key_in_version version key = record { version = version; secret = key.secret; root = key.root }

module _ (version : Version) (key : Key) where
  -- the records of either version
  abbrev new_list : List Record → List Record
  new_list rest = KeyRecord (key_in_version version key) ∷ rest

  abbrev old_list : List Record → List Record
  old_list rest = KeyRecord key ∷ rest

  taken_head : (level : ℕ) (rest : List Record) → ((tail : List Record) → current level (new_list tail) ≡ current level (old_list tail)) → (k : ℕ)
      → current level (take k (new_list rest)) ≡ current level (take k (old_list rest))
  taken_head level rest same zero = refl
  taken_head level rest same (suc k) = same (take k rest)

  under_head : (level : ℕ) (rest : List Record) → ((tail : List Record) → current level (new_list tail) ≡ current level (old_list tail))
      → (found : Option ℕ) → under (current level) (new_list rest) found ≡ under (current level) (old_list rest) found
  under_head level rest same None = refl
  under_head level rest same (Some j) =
      ap₂ (λ above here. if same_tree above here then Some j else None) (taken_head level rest same j) (same rest)

  current_head : (level : ℕ) (rest : List Record) → current level (new_list rest) ≡ current level (old_list rest)
  current_head zero rest = refl
  current_head (suc level) rest = under_head level rest (λ tail. current_head level tail) (last_extend (suc level) 0 None (old_list rest))

  current_taken : (level k : ℕ) (rest : List Record) → current level (take k (new_list rest)) ≡ current level (take k (old_list rest))
  current_taken level k rest = taken_head level rest (current_head level) k

  before_head : (level : ℕ) (rest : List Record) (k : ℕ) → current_at level (new_list rest) k ≡ current_at level (old_list rest) k
  before_head level rest k = ap (λ tree. unwrap_or tree 0) (current_taken level k rest)

  -- ---- leaves

  reaches_head : (secret : Secret) (rest : List Record) (k : ℕ) (entry : Record)
      → reaches secret (take k (new_list rest)) entry ≡ reaches secret (take k (old_list rest)) entry
  reaches_head secret rest k (KeyRecord other) = refl
  reaches_head secret rest k (ExtendRecord extend) = ap (λ tree. in_tree tree (extend.parent_leaf + 1)) (current_taken (extend.level - 1) k rest)
  reaches_head secret rest k (BoundRecord bound) = ap (λ tree. in_tree tree (bound.leaf + 1)) (current_taken (bottom_of secret) k rest)
  reaches_head secret rest k (Retire upto) = ap (λ tree. in_tree tree upto) (current_taken (bottom_of secret) k rest)
  reaches_head secret rest k Moved = refl

  numbers_head : (secret : Secret) (rest : List Record) (tree k : ℕ) (tail : List Record)
      → reached_numbers secret (new_list rest) tree k tail ≡ reached_numbers secret (old_list rest) tree k tail
  numbers_head secret rest tree k [] = refl
  numbers_head secret rest tree k (entry ∷ tail) =
      ap₂ (λ n numbers. reached_number tree n ∷ numbers) (reaches_head secret rest k entry) (numbers_head secret rest tree (k + 1) tail)

  next_head : (secret : Secret) (rest : List Record) (tree : ℕ) → next_leaf secret (new_list rest) tree ≡ next_leaf secret (old_list rest) tree
  next_head secret rest tree = ap (λ numbers. fold max 0 (0 ∷ numbers)) (numbers_head secret rest tree 1 rest)

  next_of_head : (secret : Secret) (rest : List Record) (found : Option ℕ) → next_of secret (new_list rest) found ≡ next_of secret (old_list rest) found
  next_of_head secret rest None = refl
  next_of_head secret rest (Some tree) = next_head secret rest tree

  next_at_head : (secret : Secret) (rest : List Record) (level : ℕ) → next_at secret (new_list rest) level ≡ next_at secret (old_list rest) level
  next_at_head secret rest level =
      ap (next_of secret (new_list rest)) (current_head level rest) ∙ next_of_head secret rest (current level (old_list rest))

  free_head : (secret : Secret) (rest : List Record) (level leaf : ℕ) → is_free secret (new_list rest) level leaf ≡ is_free secret (old_list rest) level leaf
  free_head secret rest level leaf =
      ap₂ (λ tree next. is_some tree && nat_lt leaf (leaves_at secret level) && nat_le next leaf) (current_head level rest) (next_at_head secret rest level)

  -- ---- which records can be added

  found_head : {A : Type 0} (test : Bool) (x y : A) (found : Option A) → is_some (if test then Some x else found) ≡ is_some (if test then Some y else found)
  found_head true x y found = refl
  found_head false x y found = refl

  identifier_head : (rest : List Record) (identifier : List ℕ) → has_identifier (new_list rest) identifier ≡ has_identifier (old_list rest) identifier
  identifier_head rest identifier =
      found_head (is_of identifier (identifier_of (KeyRecord key))) (KeyRecord (key_in_version version key)) (KeyRecord key)
      (find (λ entry. is_of identifier (identifier_of entry)) rest)

  moved_head : (rest : List Record) → has_moved (new_list rest) ≡ has_moved (old_list rest)
  moved_head [] = refl
  moved_head (entry ∷ rest) =
      let place : length (new_list (entry ∷ rest)) - 1 ≡ suc (length rest) = omega arith in
      let same : length (old_list (entry ∷ rest)) - 1 ≡ suc (length rest) = omega arith in
      ap (λ n. is_moved (slice_get (new_list (entry ∷ rest)) n)) place ∙ sym (ap (λ n. is_moved (slice_get (old_list (entry ∷ rest)) n)) same)

  follow_head : (rest : List Record) (entry : Record) → (entry ≢ Moved)
      → can_follow_legal (key_in_version version key) (new_list rest) entry ≡ can_follow_legal key (old_list rest) entry
  follow_head rest (KeyRecord other) stays = refl
  follow_head rest (ExtendRecord extend) stays =
      ap₂ (λ free has. nat_le 1 extend.level && nat_lt extend.level (levels_of key.secret) && free && not has)
      (free_head key.secret rest (extend.level - 1) extend.parent_leaf) (identifier_head rest extend.identifier)
  follow_head rest (BoundRecord bound) stays =
      ap (λ free. free && not (is_some (binding_at (old_list rest) bound.name)) && has_randomizer key.secret bound.randomizer)
      (free_head key.secret rest (bottom_of key.secret) bound.leaf)
  follow_head rest (Retire upto) stays =
      ap (λ tree. is_some tree && nat_le upto (leaves_at key.secret (bottom_of key.secret))) (current_head (bottom_of key.secret) rest)
  follow_head rest Moved stays = absurd (stays refl)

  can_follow_head : (rest : List Record) (entry : Record) → (entry ≢ Moved)
      → can_follow (Some (key_in_version version key)) (new_list rest) entry ≡ can_follow (Some key) (old_list rest) entry
  can_follow_head rest entry stays = ap₂ (λ moved can. not moved && can) (moved_head rest) (follow_head rest entry stays)

  illegal_head : (rest : List Record) (k : ℕ) (tail : List Record) → NoMoved tail
      → next_illegal (new_list rest) (suc k) tail ≡ next_illegal (old_list rest) (suc k) tail
  illegal_head rest k [] none = refl
  illegal_head rest k (entry ∷ tail) none =
      let next : suc (k + 1) ≡ suc k + 1 = omega arith in
      ap₂ (λ follows later. if follows then later else Some (suc k)) (can_follow_head (take k rest) entry (none 0 entry refl))
      (subst (λ n. next_illegal (new_list rest) n tail ≡ next_illegal (old_list rest) n tail) next
      (illegal_head rest (k + 1) tail (λ i other at. none (suc i) other at)))

  legal_head : (rest : List Record) → NoMoved rest → IsLegal (old_list rest) → IsLegal (new_list rest)
  legal_head rest none legal =
      legal_from_none (new_list rest) (omega arith) (illegal_head rest 0 rest none ∙ none_from_legal (old_list rest) legal)

  -- ---- secrets, signatures and what is sound

  secret_by_head : (trees : Trees) (rest : List Record) (tree : ℕ) → secret_at trees (new_list rest) tree ≡ secret_at trees (old_list rest) tree
  secret_by_head trees rest zero = refl
  secret_by_head trees rest (suc tree) = refl

  secret_before_head : (trees : Trees) (rest : List Record) (level k : ℕ)
      → secret_at trees (new_list rest) (current_at level (new_list rest) k) ≡ secret_at trees (old_list rest) (current_at level (old_list rest) k)
  secret_before_head trees rest level k =
      ap (secret_at trees (new_list rest)) (before_head level rest k) ∙ secret_by_head trees rest (current_at level (old_list rest) k)

  signing_found : (trees : Trees) (rest : List Record) (parent : ℕ) (found : Option Record)
      → parent_signing trees (new_list rest) parent found ≡ parent_signing trees (old_list rest) parent found
  signing_found trees rest parent (Some (ExtendRecord extend)) =
      let signing : LmsSecret → List Signing = λ secret. record {
        secret = secret;
        leaf = extend.parent_leaf;
        randomizer = extend.randomizer;
        digest = extend.digest;
      } ∷ [] in
      ap signing (secret_by_head trees rest parent)
  signing_found trees rest parent (Some (KeyRecord other)) = refl
  signing_found trees rest parent (Some (BoundRecord bound)) = refl
  signing_found trees rest parent (Some (Retire upto)) = refl
  signing_found trees rest parent (Some Moved) = refl
  signing_found trees rest parent None = refl

  signing_at : (trees : Trees) (rest : List Record) (parent tree : ℕ)
      → parent_signing trees (new_list rest) parent (slice_get (new_list rest) tree) ≡ parent_signing trees (old_list rest) parent (slice_get (old_list rest) tree)
  signing_at trees rest parent zero = refl
  signing_at trees rest parent (suc tree) = signing_found trees rest parent (slice_get rest tree)

  signings_head : (trees : Trees) (level : ℕ) (rest : List Record) (tree : ℕ)
      → chain_signings trees level (new_list rest) tree ≡ chain_signings trees level (old_list rest) tree
  signings_head trees zero rest tree = refl
  signings_head trees (suc level) rest tree =
      let parent = current_at level (old_list rest) tree in
      let all : ℕ → List Signing = λ p. chain_signings trees level (new_list rest) p ++ parent_signing trees (new_list rest) p (slice_get (new_list rest) tree) in
      ap all (before_head level rest tree)
      ∙ ap₂ (λ above own. above ++ own) (signings_head trees level rest parent) (signing_at trees rest parent tree)

  hss_head : (trees : Option Trees) (rest : List Record) (level tree : ℕ) (bound : Bound)
      → hss_signature_under trees (new_list rest) level tree bound ≡ hss_signature_under trees (old_list rest) level tree bound
  hss_head None rest level tree bound = refl
  hss_head (Some trees) rest level tree bound =
      let bottom : LmsSecret → Signing = λ secret. record { secret = secret; leaf = bound.leaf; randomizer = bound.randomizer; digest = bound.digest } in
      ap₂ (λ above secret. signature_bytes (textbook above (bottom secret))) (signings_head trees level rest tree) (secret_by_head trees rest tree)

  signature_head : (secret : Secret) (rest : List Record) (k : ℕ) (bound : Bound)
      → any_signature secret (new_list rest) k bound ≡ any_signature secret (old_list rest) k bound
  signature_head (Lms secret) rest k bound = refl
  signature_head (Xmss secret) rest k bound = refl
  signature_head (Hss levels identifier seed) rest k bound =
      let bottom = length levels - 1 in
      let trees = trees_of (Hss levels identifier seed) in
      ap (λ tree. hss_signature_under trees (new_list rest) bottom tree bound) (before_head bottom rest k)
      ∙ hss_head trees rest bottom (current_at bottom (old_list rest) k) bound

  digest_found : (trees : Option Trees) (rest : List Record) (tree leaf : ℕ) (randomizer message : List ℕ)
      → digest_under trees (new_list rest) tree leaf randomizer message ≡ digest_under trees (old_list rest) tree leaf randomizer message
  digest_found None rest tree leaf randomizer message = refl
  digest_found (Some trees) rest tree leaf randomizer message =
      ap (λ secret. message_digest_of secret.identifier leaf randomizer message) (secret_by_head trees rest tree)

  digest_head : (secret : Secret) (root : List ℕ) (rest : List Record) (k leaf : ℕ) (randomizer message : List ℕ)
      → any_digest secret root (new_list rest) k leaf randomizer message ≡ any_digest secret root (old_list rest) k leaf randomizer message
  digest_head (Lms secret) root rest k leaf randomizer message = refl
  digest_head (Xmss secret) root rest k leaf randomizer message = refl
  digest_head (Hss levels identifier seed) root rest k leaf randomizer message =
      let bottom = length levels - 1 in
      let trees = trees_of (Hss levels identifier seed) in
      ap (λ tree. digest_under trees (new_list rest) tree leaf randomizer message) (before_head bottom rest k)
      ∙ digest_found trees rest (current_at bottom (old_list rest) k) leaf randomizer message

  extend_head : (trees : Option Trees) (rest : List Record) (k : ℕ) (extend : Extend)
      → is_sound_extend trees (new_list rest) k extend ≡ is_sound_extend trees (old_list rest) k extend
  extend_head None rest k extend = refl
  extend_head (Some trees) rest k extend =
      let made = public_of (made_secret trees (Some (ExtendRecord extend))) in
      let test : LmsSecret → Bool = λ parent.
      are_same extend.root made.root && are_same extend.digest
      (message_digest_of parent.identifier extend.parent_leaf extend.randomizer (public_bytes made)) in
      ap test (secret_before_head trees rest (extend.level - 1) k)

  sound_found : (rest : List Record) (k : ℕ) (found : Option Record)
      → is_sound_record (key_in_version version key) (new_list rest) k found ≡ is_sound_record key (old_list rest) k found
  sound_found rest k (Some (KeyRecord own)) = refl
  sound_found rest k (Some (ExtendRecord extend)) = extend_head (trees_of key.secret) rest k extend
  sound_found rest k (Some (BoundRecord bound)) = refl
  sound_found rest k (Some (Retire upto)) = refl
  sound_found rest k (Some Moved) = refl
  sound_found rest k None = refl

  sound_head : (rest : List Record) (k : ℕ) → is_sound_at (key_in_version version key) (new_list rest) k ≡ is_sound_at key (old_list rest) k
  sound_head rest zero = refl
  sound_head rest (suc k) = sound_found rest (suc k) (slice_get rest k)

  -- ---- all of them

  sizes_head : (rest : List Record) → AllHaveSizes (old_list rest) → AllHaveSizes (new_list rest)
  sizes_head rest sizes zero entry at = subst HasSizes (same_Some _ entry at) (sizes 0 (KeyRecord key) refl)
  sizes_head rest sizes (suc k) entry at = sizes (suc k) entry at

  recorded_head : (rest : List Record) (x : Handed) → IsRecorded (old_list rest) x → IsRecorded (new_list rest) x
  recorded_head rest x is =
      let same : key ≡ is.key = same_Some key is.key is.is_bound.keyed in
      record {
        key = key_in_version version key;
        k = is.k;
        bound = is.bound;
        is_bound = record {
          keyed = refl;
          named = is.is_bound.named;
          digest = digest_head key.secret key.root rest is.k is.bound.leaf is.bound.randomizer x.message
              ∙ ap (λ own. digest_at own (old_list rest) is.k is.bound.leaf is.bound.randomizer x.message) same ∙ is.is_bound.digest;
        };
        signature = is.signature ∙ sym (ap (λ own. textbook_signature own (old_list rest) is.k is.bound) same) ∙ sym (signature_head key.secret rest is.k is.bound);
      }

  sound_whole : (rest : List Record) → NoMoved rest → AreSound (old_list rest) → AreSound (new_list rest)
  sound_whole rest none sound =
      let same : sound.key ≡ key = same_Some sound.key key (sym sound.keyed) in
      record {
        legal = legal_head rest none sound.legal;
        key = key_in_version version key;
        keyed = refl;
        sound = λ k. sound_head rest k ∙ ap (λ own. is_sound_at own (old_list rest) k) (sym same) ∙ sound.sound k;
      }

  kept_head : (rest : List Record) (handed : List Handed) → NoMoved rest → IsKept (old_list rest) handed → IsKept (new_list rest) handed
  kept_head rest handed none kept = record {
    ground = inr (sound_whole rest none (sound_with (old_list rest) handed key kept refl));
    sizes = sizes_head rest kept.sizes;
    recorded = λ x there. recorded_head rest x (kept.recorded x there);
  }

-- ---- a Moved at the end

pub front_of : (records : List Record) → has_moved records ≡ true → (front : List Record) × (records ≡ front ++ Moved ∷ []) × (unmoved records ≡ front)
front_of records moved =
    let last : slice_get records (length records - 1) ≡ Some Moved = moved_means (slice_get records (length records - 1)) moved in
    let within : length records - 1 < length records = slice_get_within records (length records - 1) Moved last in
    let front = take (length records - 1) records in (
      front,
      sym (take_all (suc (length records - 1)) records (omega (arith, within))) ∙ take_with_next records (length records - 1) Moved last,
      ap (λ test. if test then front else records) moved,
    )

past_none : {A : Type 0} (xs : List A) (k : ℕ) → length xs ≤ k → slice_get xs k ≡ None
past_none [] k past = refl
past_none (x ∷ xs) zero past = absurd (omega (arith, past))
past_none (x ∷ xs) (suc k) past = past_none xs k (omega (arith, past))

module _ (front : List Record) (some : 0 < length front) where
  sound_front : AreSound (front ++ Moved ∷ []) → AreSound front
  sound_front sound = record {
    legal = legal_beginning front (Moved ∷ []) some sound.legal;
    key = sound.key;
    keyed = sym (key_of_front front (Moved ∷ []) some) ∙ sound.keyed;
    sound = λ k. elim (cases_lt k (length front)) [
      | inl low ↦ sym (sound_stays sound.key front (Moved ∷ []) k low) ∙ sound.sound k
      | inr past ↦ ap (is_sound_record sound.key front k) (past_none front k past)
    ];
  }

  recorded_front : (x : Handed) → IsRecorded (front ++ Moved ∷ []) x → IsRecorded front x
  recorded_front x is =
      let named : binding_at front x.name ≡ Some (is.k, is.bound) = sym (binding_other front Moved x.name refl) ∙ is.is_bound.named in
      let low : is.k < length front = slice_get_within front is.k (BoundRecord is.bound) (binding_stands front x.name is.k is.bound named).0 in
      let within : is.k ≤ length front = omega (arith, low) in
      record {
        key = is.key;
        k = is.k;
        bound = is.bound;
        is_bound = record {
          keyed = sym (key_of_front front (Moved ∷ []) some) ∙ is.is_bound.keyed;
          named = named;
          digest = sym (digest_stays is.key front (Moved ∷ []) is.k is.bound.leaf is.bound.randomizer x.message some within) ∙ is.is_bound.digest;
        };
        signature = is.signature ∙ signature_stays is.key front (Moved ∷ []) is.k is.bound some within;
      }

  sizes_front : AllHaveSizes (front ++ Moved ∷ []) → AllHaveSizes front
  sizes_front sizes k entry at = sizes k entry (slice_get_stays front (Moved ∷ []) k entry at)

  kept_front : (handed : List Handed) (key : Key) → the_key (front ++ Moved ∷ []) ≡ Some key → IsKept (front ++ Moved ∷ []) handed → IsKept front handed
  kept_front handed key keyed kept = record {
    ground = inr (sound_front (sound_with (front ++ Moved ∷ []) handed key kept keyed));
    sizes = sizes_front kept.sizes;
    recorded = λ x there. recorded_front x (kept.recorded x there);
  }

-- ---- records that are carried over

list_of_key : (records : List Record) (key : Key) → the_key records ≡ Some key → (rest : List Record) × (records ≡ KeyRecord key ∷ rest)
list_of_key [] key is = absurd (cc)
list_of_key (KeyRecord own ∷ rest) key is = (rest, ap (λ k. KeyRecord k ∷ rest) (same_Some own key is))
list_of_key (ExtendRecord extend ∷ rest) key is = absurd (cc)
list_of_key (BoundRecord bound ∷ rest) key is = absurd (cc)
list_of_key (Retire upto ∷ rest) key is = absurd (cc)
list_of_key (Moved ∷ rest) key is = absurd (cc)

-- only a Key has a version
same_mapped : (version : Version) (rest : List Record) → ((k : ℕ) (other : Key) → slice_get rest k ≡ Some (KeyRecord other) → ⊥)
    → map (in_version version) rest ≡ rest
same_mapped version [] none = refl
same_mapped version (entry ∷ rest) none =
    ap₂ (λ e l. e ∷ l) (own entry (λ other is. none 0 other (ap Some is))) (same_mapped version rest (λ k other at. none (suc k) other at))
  where
    own : (entry : Record) → ((other : Key) → entry ≡ KeyRecord other → ⊥) → in_version version entry ≡ entry
    own (KeyRecord key) never = absurd (never key refl)
    own (ExtendRecord extend) never = refl
    own (BoundRecord bound) never = refl
    own (Retire upto) never = refl
    own Moved never = refl

-- A legal list is a Key and what follows it, and perhaps a Moved.
pub record IsCarried (records : List Record) (key : Key) : Type 0 where
  pub rest : List Record
  pub none : NoMoved rest
  pub legal : IsLegal (KeyRecord key ∷ rest)
  pub is : (records ≡ KeyRecord key ∷ rest) ⊎ (records ≡ (KeyRecord key ∷ rest) ++ Moved ∷ [])
  pub carried_is : carried records ≡ KeyRecord (key_in_version Two key) ∷ rest

carried_front : (records front : List Record) (key : Key) → IsLegal front → the_key front ≡ Some key → NoMoved front → unmoved records ≡ front
    → (records ≡ front) ⊎ (records ≡ front ++ Moved ∷ []) → IsCarried records key
unfolding carried
carried_front records front key legal keyed none same is =
    let (rest, list) = list_of_key front key keyed in
    let whole : IsLegal (KeyRecord key ∷ rest) = subst IsLegal list legal in
    let only : (k : ℕ) (other : Key) → slice_get rest k ≡ Some (KeyRecord other) → ⊥ = λ k other at.
    let first : suc k ≡ 0 = whole.fits (suc k) (KeyRecord other) at in omega (arith, first) in
    record {
      rest = rest;
      none = λ k entry at. none (suc k) entry (ap (λ l. slice_get l (suc k)) list ∙ at);
      legal = whole;
      is = elim is as (λ u. (records ≡ KeyRecord key ∷ rest) ⊎ (records ≡ (KeyRecord key ∷ rest) ++ Moved ∷ [])) [
        | inl alone ↦ inl (alone ∙ list)
        | inr more ↦ inr (more ∙ ap (λ l. l ++ Moved ∷ []) list)
      ];
      carried_is = ap (map (in_version Two)) (same ∙ list) ∙ ap (λ l. KeyRecord (key_in_version Two key) ∷ l) (same_mapped Two rest only);
    }

pub is_carried : (records : List Record) (key : Key) → IsLegal records → the_key records ≡ Some key → IsCarried records key
is_carried records key legal keyed = elim (cases_Bool (has_moved records)) [
  | inl moved ↦ by_front moved (front_of records moved)
  | inr stays ↦
      carried_front records records key legal keyed (λ k entry at same. none_moved records k legal stays (at ∙ ap Some same))
      (ap (λ test. if test then take (length records - 1) records else records) stays) (inl refl)
]
  where
    by_front : has_moved records ≡ true → (front : List Record) × (records ≡ front ++ Moved ∷ []) × (unmoved records ≡ front) → IsCarried records key
    by_front moved (front, is, same) =
        let whole : IsLegal (front ++ Moved ∷ []) = subst IsLegal is legal in
        let some : 0 < length front = some_front front key (sym (ap the_key is) ∙ keyed) in
        carried_front records front key (legal_beginning front (Moved ∷ []) some whole)
        (sym (key_of_front front (Moved ∷ []) some) ∙ sym (ap the_key is) ∙ keyed)
        (λ k entry at equal.
        let end : k + 1 ≡ length (front ++ Moved ∷ []) = (whole.fits k Moved (slice_get_stays front (Moved ∷ []) k Moved (at ∙ ap Some equal))).1 in
        let low : k < length front = slice_get_within front k entry at in
        omega (arith, end, low, length_push front Moved))
        same (inr is)
      where
        some_front : (front : List Record) (key : Key) → the_key (front ++ Moved ∷ []) ≡ Some key → 0 < length front
        some_front [] key keyed = absurd (cc)
        some_front (entry ∷ rest) key keyed = omega arith

pub legal_carried : (records : List Record) (key : Key) → IsCarried records key → IsLegal (carried records)
legal_carried records key is = subst IsLegal (sym is.carried_is) (legal_head Two key is.rest is.none is.legal)

pub key_carried : (records : List Record) (key : Key) → IsCarried records key → the_key (carried records) ≡ Some (key_in_version Two key)
key_carried records key is = ap the_key is.carried_is

pub sizes_carried : (records : List Record) (key : Key) → IsCarried records key → AllHaveSizes records → AllHaveSizes (carried records)
sizes_carried records key is sizes =
    subst AllHaveSizes (sym is.carried_is) (sizes_head Two key is.rest (elim is.is as (λ u. AllHaveSizes (KeyRecord key ∷ is.rest)) [
      | inl alone ↦ subst AllHaveSizes alone sizes
      | inr more ↦ sizes_front (KeyRecord key ∷ is.rest) (omega arith) (subst AllHaveSizes more sizes)
    ]))

kept_carried : (records : List Record) (handed : List Handed) (key : Key) → IsKept records handed → the_key records ≡ Some key → IsKept (carried records) handed
kept_carried records handed key kept keyed =
    let is = is_carried records key (sound_with records handed key kept keyed).legal keyed in
    subst (λ l. IsKept l handed) (sym is.carried_is) (kept_head Two key is.rest handed is.none
    (elim is.is as (λ u. IsKept (KeyRecord key ∷ is.rest) handed) [
      | inl alone ↦ subst (λ l. IsKept l handed) alone kept
      | inr more ↦
          kept_front (KeyRecord key ∷ is.rest) (omega arith) handed key (sym (ap the_key more) ∙ keyed) (subst (λ l. IsKept l handed) more kept)
    ]))

-- ---- any migration

pub moved_can : (key : Key) (records : List Record) → has_moved records ≡ false → can_move key.version ≡ true → can_follow (Some key) records Moved ≡ true
moved_can key records stays moves = and_from (not (has_moved records)) (can_move key.version) (not_from_false (has_moved records) stays) moves

kept_sealed : (records : List Record) (handed : List Handed) (key : Key) → IsKept records handed → the_key records ≡ Some key → can_move key.version ≡ true
    → IsKept (with_moved records) handed
kept_sealed records handed key kept keyed moves = elim (cases_Bool (has_moved records)) as (λ u. IsKept (with_moved records) handed) [
  | inl moved ↦ subst (λ l. IsKept l handed) (sym (ap (λ test. if test then records else records ++ Moved ∷ []) moved)) kept
  | inr stays ↦
      subst (λ l. IsKept l handed) (sym (ap (λ test. if test then records else records ++ Moved ∷ []) stays))
      (kept_grown records handed key Moved kept keyed (moved_can key records stays moves) refl tt)
]

kept_to : (records : List Record) (handed : List Handed) (key : Key) (fate : Migration) → IsKept records handed → the_key records ≡ Some key
    → can_move key.version ≡ true → IsKept (migrated_list records fate) handed
kept_to records handed key left_alone kept keyed moves = kept
kept_to records handed key sealed kept keyed moves = kept_sealed records handed key kept keyed moves
kept_to records handed key carried_over kept keyed moves = kept_carried records handed key kept keyed

state_choice : (P : List Record → Type 0) (test : Bool) (x y : State) → (test ≡ true → P x.records) → P y.records → P (if test then x else y).records
state_choice P true x y first second = first refl
state_choice P false x y first second = second

-- what holds of the old records, and of all that a migration may leave, holds after it
pub migrated_has : (P : List Record → Type 0) (state : State) (fate : Migration) → P state.records
    → ((key : Key) → the_key state.records ≡ Some key → can_move key.version ≡ true → P (migrated_list state.records fate)) → P (migrated state fate).records
migrated_has P state fate was each = by (the_key state.records) refl
  where
    by : (found : Option Key) → the_key state.records ≡ found → P (migrated_key state fate found).records
    by None keyed = was
    by (Some key) keyed =
        state_choice P (can_move key.version && not state.is_open) (closed_state (migrated_list state.records fate)) state
        (λ both. each key keyed (and_parts (can_move key.version) (not state.is_open) both).0) was

pub kept_migrated : (state : State) (handed : List Handed) (fate : Migration) → IsKept state.records handed → IsKept (migrated state fate).records handed
kept_migrated state handed fate kept =
    migrated_has (λ records. IsKept records handed) state fate kept (λ key keyed moves. kept_to state.records handed key fate kept keyed moves)
