-- Each end of a repeat is a step of the world, on a bound name.
use Rattle.std.proofs.Common.{◌≡◌, ◌∙◌, refl, sym, ap, ap₂, subst, inl, inr, ℕ, ◌<◌, Bool, true, false, List, [], ◌∷◌, ◌++◌}
use Rattle.std.proofs.Common.{Option, Some, None, Result, Ok, Err, MatchResult, IfErr, OnOk, IsErrAnd, true≢false, ◌^◌}
use Rattle.std.specs.Prelude.{not, option_map, slice_get, if◌then◌else◌}
use Rattle.std.specs.Cmp.Lexicographic.{bytes_decides}
use Rattle.std.proofs.lemmas.List.{map-append}
use Rattle.std.proofs.lemmas.Option.{same_Some}
use Rattle.typecodes.specs.declared.message.Message as message
use Rattle.typecodes.specs.Types.{height_of, xmss_height_of}
use Rattle.hss.specs.Secret.{Signing, signing_of}
use Rattle.typecodes.specs.declared.secret.XmssSecret.{XmssSecret}
use Rattle.xmss.specs.Writing.{signature_bytes as xmss_signature_bytes, textbook as xmss_textbook}
use Rattle.typecodes.specs.Message.{CantBeRead, ReadWhole}
use Rattle.state_file.specs.Laws.{IsLegal, bottom_of}
use Rattle.state_file.specs.declared.record.Bound.{Bound}
use Rattle.state_file.specs.declared.record.Key.{Key}
use Rattle.state_file.specs.declared.record.Record.{Record}
use Rattle.state_file.specs.declared.record.Record.TheVariants.{Key as KeyRecord, Bound as BoundRecord}
use Rattle.state_file.specs.declared.record.Secret.{Secret}
use Rattle.sign_core.specs.declared.fault.SignFault.{SignFault}
use Rattle.sign_core.specs.declared.fault.SignFault.TheVariants.{Changed, Damaged, MessageRead, OutOfMemory}
use Rattle.sign_core.specs.declared.ledger.Binding.{Binding}
use Rattle.hss.specs.declared.secret.Level.{Level}
use Rattle.sign_core.specs.inner.KeyTrees.{AreMade, IsTreeAt, signings_of, signing_of_bound}
use Rattle.sign_core.specs.Records.{are_same, binding_at, the_key}
use Rattle.sign_core.specs.Caches.{Cached, LacksCache}
use Rattle.sign_core.specs.Signer.{View, is_before_repeat, is_fault, signature_size, state_of}
use Rattle.sign_core.specs.inner.Signing.{IsBindingOf, Repeats, repeat_chance}
use Rattle.sign_core.specs.Signing.{IsXmssKey, answered_value}
use Rattle.sign_core.specs.Ledger.{kept_of}
use Rattle.sign_core.specs.World.{Outcome, State, refused}
use Rattle.sign_core.specs.inner.Cases.{requested_binding}
use Rattle.sign_core.proofs.steps.Cases.{repeated_sound}
use Rattle.sign_core.specs.Textbook.{Trees, damaged_at, digest_at, secret_at, textbook_signature, leaf_signing, chain_signings, current_at, trees_of}
use Rattle.sign_core.proofs.records.Bindings.{binding_stands}
use Rattle.sign_core.proofs.calls.RefusedCalls.{never_such}
use Rattle.sign_core.proofs.chains.BindingChains.{bound_tree, key_chain, xmss_damaged, xmss_leaf_inside, xmss_signed}

-- ---- what is kept of a name

-- A name's binding, with its record.
pub record IsFound (key : Key) (records : List Record) (name : List ℕ) (binding : Binding) : Type 0 where
  pub place : ℕ
  pub bound : Bound
  pub found : binding_at records name ≡ Some (place, bound)
  pub stands : slice_get records place ≡ Some (BoundRecord bound)
  pub is : kept_of key.secret records (place, bound) ≡ binding

found_in : (secret : Secret) (records : List Record) (binding : Binding) (found : Option (ℕ × Bound)) → option_map (kept_of secret records) found ≡ Some binding
    → (place : ℕ) × (bound : Bound) × (found ≡ Some (place, bound)) × (kept_of secret records (place, bound) ≡ binding)
found_in secret records binding None is = absurd (cc)
found_in secret records binding (Some (place, bound)) is = (place, bound, refl, same_Some (kept_of secret records (place, bound)) binding is)

pub is_found : (key : Key) (records : List Record) (name : List ℕ) (binding : Binding) → IsBindingOf records binding key name → IsFound key records name binding
is_found key records name binding is =
    let (place, bound, found, kept) = found_in key.secret records binding (binding_at records name) is in
    record { place = place; bound = bound; found = found; stands = (binding_stands records name place bound found).0; is = kept }

-- ---- the ends of a repeat

-- a repeat whose message was read, by what is found
abbrev judged : State → Key → (k : ℕ) → Bound → (same has_room : Bool) → (damaged : Option ℕ) → Outcome (List ℕ)
judged state key k bound same has_room damaged =
    if not same then refused state Changed
    else (if not has_room then refused state OutOfMemory else repeated_sound state key k bound damaged)

module _ {S R M : Type 0} (m : message.Ghosts M) (view : View S R) (before after : M) (capacity : ℕ) (key : Key) (name : List ℕ) (binding : Binding)
    (found : IsFound key view.records name binding) where
  pub unread : {cached : Cached} → CantBeRead m.transition before after → Repeats m (state_of view) cached before after capacity (Err MessageRead) key name
  unread fails = record {
    has_room = true;
    given = None;
    step = λ limit. ap (λ f. (requested_binding limit (state_of view) key name (repeat_chance true None) f).answer) found.found;
    message = fails;
    room = λ k bound at lacking. absurd (true≢false lacking);
  }

  -- the message was read, and the leaf signs this digest for it
  abbrev IsDigest : (text digest : List ℕ) → Type 0
  IsDigest text digest = digest_at key view.records found.place found.bound.leaf found.bound.randomizer text ≡ digest

  step_judged : (limit : ℕ) (has_room : Bool) (text digest : List ℕ) (same : Bool) (damaged : Option ℕ) → IsDigest text digest
      → are_same digest binding.digest ≡ same
      → damaged_at key (bottom_of key.secret) view.records (current_at (bottom_of key.secret) view.records found.place) ≡ damaged
      → (requested_binding limit (state_of view) key name (repeat_chance has_room (Some text)) (binding_at view.records name)).answer
      ≡ (judged (state_of view) key found.place found.bound same has_room damaged).answer
  step_judged limit has_room text digest same damaged is compared chain =
      ap (λ f. (requested_binding limit (state_of view) key name (repeat_chance has_room (Some text)) f).answer) found.found
      ∙ ap₂ (λ b d. (judged (state_of view) key found.place found.bound b has_room d).answer)
      (ap₂ are_same is (ap (λ (kept : Binding). kept.digest) found.is) ∙ compared) chain

  not_same : (same : Bool) → not same ≡ true → same ≡ false
  not_same true is = absurd (true≢false (sym is))
  not_same false is = refl

  is_same : (same : Bool) → not same ≡ false → same ≡ true
  is_same true is = refl
  is_same false is = absurd (true≢false is)

  pub changed : {cached : Cached} (text digest : List ℕ) → ReadWhole m.transition m.remaining text before after → IsDigest text digest
      → not (are_same digest binding.digest) ≡ true → Repeats m (state_of view) cached before after capacity (Err Changed) key name
  changed text digest whole is differs = record {
    has_room = true;
    given = Some text;
    step = λ limit. step_judged limit true text digest false _ is (not_same _ differs) refl;
    message = whole;
    room = λ k bound at lacking. absurd (true≢false lacking);
  }

  pub lacks_room : {cached : Cached} (text digest : List ℕ) → ReadWhole m.transition m.remaining text before after → IsDigest text digest
      → not (are_same digest binding.digest) ≡ false → capacity < signature_size key.secret
      → Repeats m (state_of view) cached before after capacity (Err OutOfMemory) key name
  lacks_room text digest whole is same lacking = record {
    has_room = false;
    given = Some text;
    step = λ limit. step_judged limit false text digest true _ is (is_same _ same) refl;
    message = whole;
    room = λ k bound at none. inl lacking;
  }

  -- the cache of a current tree is missing that stood before the binding
  pub lacks_cache : {cached : Cached} (text digest : List ℕ) → ReadWhole m.transition m.remaining text before after → IsDigest text digest
      → not (are_same digest binding.digest) ≡ false
      → LacksCache key view.records (Some (bottom_of key.secret)) binding.place cached
      → Repeats m (state_of view) cached before after capacity (Err OutOfMemory) key name
  lacks_cache {cached = cached} text digest whole is same lacking = record {
    has_room = false;
    given = Some text;
    step = λ limit. step_judged limit false text digest true _ is (is_same _ same) refl;
    message = whole;
    room = λ k bound at none.
        let here : found.place ≡ k = ap (λ (p : ℕ × Bound). p.0) (same_Some _ _ (sym found.found ∙ at)) in
        inr (subst (λ n. LacksCache key view.records (Some (bottom_of key.secret)) n cached)
        (sym (ap (λ (kept : Binding). kept.place) found.is) ∙ here) lacking);
  }

  pub damaged : {cached : Cached} (text digest : List ℕ) (slot : ℕ) → ReadWhole m.transition m.remaining text before after → IsDigest text digest
      → not (are_same digest binding.digest) ≡ false
      → damaged_at key (bottom_of key.secret) view.records (current_at (bottom_of key.secret) view.records found.place) ≡ Some slot
      → Repeats m (state_of view) cached before after capacity (Err (Damaged slot)) key name
  damaged text digest slot whole is same chain = record {
    has_room = true;
    given = Some text;
    step = λ limit. step_judged limit true text digest true _ is (is_same _ same) chain;
    message = whole;
    room = λ k bound at lacking. absurd (true≢false lacking);
  }

  pub signed : {cached : Cached} (text digest bytes : List ℕ) → ReadWhole m.transition m.remaining text before after → IsDigest text digest
      → not (are_same digest binding.digest) ≡ false
      → damaged_at key (bottom_of key.secret) view.records (current_at (bottom_of key.secret) view.records found.place) ≡ None
      → bytes ≡ textbook_signature key view.records found.place found.bound
      → Repeats m (state_of view) cached before after capacity (Ok bytes) key name
  signed text digest bytes whole is same chain made = record {
    has_room = true;
    given = Some text;
    step = λ limit. step_judged limit true text digest true _ is (is_same _ same) chain ∙ ap Ok (sym made);
    message = whole;
    room = λ k bound at lacking. absurd (true≢false lacking);
  }

-- a digest equal to the recorded one is the binding's
pub recorded_digest : (key : Key) (records : List Record) (name : List ℕ) (binding : Binding) (found : IsFound key records name binding) (digest : List ℕ)
    → not (are_same digest binding.digest) ≡ false → digest ≡ found.bound.digest
recorded_digest key records name binding found digest same =
    (bytes_decides digest binding.digest).0 (means_same (are_same digest binding.digest) same) ∙ sym (ap (λ (kept : Binding). kept.digest) found.is)
  where
    means_same : (same : Bool) → not same ≡ false → same ≡ true
    means_same true is = refl
    means_same false is = absurd (true≢false is)

pub same_size : (own key : Key) (capacity : ℕ) → own ≡ key → capacity < signature_size own.secret → capacity < signature_size key.secret
same_size own key capacity is = subst (λ (k : Key). capacity < signature_size k.secret) is

-- ---- what answers a place as a fault

-- a refusal is the answer, whatever the value
pub given_back : {A B : Type 0} (answer : Result A SignFault) (value : B) (fault : SignFault) → answer ≡ Err fault → Err fault ≡ answered_value answer value
given_back answer value fault is = ap (λ a. answered_value a value) (sym is)

-- the fault is `Damaged` of a place with P
pub fault_of : {A : Type 0} (linked : Result A ℕ) (mapped : Result A SignFault) (fault : SignFault) (P : ℕ → Type 0)
    → MatchResult linked (λ x. mapped ≡ Ok x) (λ k. IsErrAnd mapped (λ e. e ≡ Damaged k)) → mapped ≡ Err fault → IfErr linked P
    → (k : ℕ) × (fault ≡ Damaged k) × P k
fault_of (Ok x) mapped fault P cases was is = absurd (cc)
fault_of (Err k) mapped fault P cases was is = (k, subst (λ r. IsErrAnd r (λ e. e ≡ Damaged k)) was cases, is)

-- Such an answer comes after caches were made.
pub damaged_after_caches : {A B X : Type 0} (linked : Result A ℕ) (mapped : Result A SignFault) (fault : SignFault) (answer : Result B SignFault)
    → MatchResult linked (λ x. mapped ≡ Ok x) (λ k. IsErrAnd mapped (λ e. e ≡ Damaged k)) → mapped ≡ Err fault → answer ≡ Err fault
    → is_fault is_before_repeat answer ≡ true → X
damaged_after_caches (Ok x) mapped fault answer cases was is early = absurd (cc)
damaged_after_caches (Err k) mapped fault answer cases was is early =
    let of_place : fault ≡ Damaged k = subst (λ r. IsErrAnd r (λ e. e ≡ Damaged k)) was cases in
    never_such is_before_repeat answer (Damaged k) (is ∙ ap Err of_place) refl early

-- an Ok was an Ok before its faults were mapped
pub linked_ok : {A : Type 0} (linked : Result A ℕ) (mapped : Result A SignFault) (x : A) (P : Type 0)
    → MatchResult linked (λ y. mapped ≡ Ok y) (λ k. IsErrAnd mapped (λ e. e ≡ Damaged k)) → mapped ≡ Ok x → OnOk linked P → P
linked_ok (Ok y) mapped x P cases was is = is
linked_ok (Err k) mapped x P cases was is = absurd (subst (λ r. IsErrAnd r (λ e. e ≡ Damaged k)) was cases)

-- ---- XMSS

-- the leaf is one of the tree's
pub bound_xmss_leaf : (key : Key) (records : List Record) (name : List ℕ) (binding : Binding) (secret : XmssSecret) → IsLegal records → the_key records ≡ Some key
    → IsXmssKey secret key → IsBindingOf records binding key name → binding.leaf < 2 ^ xmss_height_of secret.tree
bound_xmss_leaf key records name binding secret legal keyed of_key kept =
    let found = is_found key records name binding kept in
    subst (λ (b : Binding). b.leaf < 2 ^ xmss_height_of secret.tree) found.is
    (xmss_leaf_inside records key secret found.place found.bound legal keyed of_key found.stands)

-- the key's chain, by all records
xmss_chain : (records : List Record) (key : Key) (secret : XmssSecret) (k : ℕ) (P : Option ℕ → Type 0) → the_key records ≡ Some key → IsXmssKey secret key
    → ((rest : List Record) → P (damaged_at key 0 (KeyRecord key ∷ rest) 0))
    → P (damaged_at key (bottom_of key.secret) records (current_at (bottom_of key.secret) records k))
xmss_chain records key secret k P keyed of_key each =
    subst P (sym (xmss_damaged records key secret k of_key)) (key_chain records key P keyed each)

-- the same for the tree of a binding
pub xmss_bound_chain : (records : List Record) (key : Key) (secret : XmssSecret) (name : List ℕ) (binding : Binding) (P : Option ℕ → Type 0)
    → the_key records ≡ Some key → IsXmssKey secret key → IsBindingOf records binding key name
    → ((rest : List Record) → P (damaged_at key 0 (KeyRecord key ∷ rest) 0))
    → P (damaged_at key (bottom_of key.secret) records binding.tree)
xmss_bound_chain records key secret name binding P keyed of_key kept each =
    let found = is_found key records name binding kept in
    subst (λ (b : Binding). P (damaged_at key (bottom_of key.secret) records b.tree)) found.is
    (xmss_chain records key secret found.place P keyed of_key each)

-- the signature of a binding
pub xmss_bound_signed : (records : List Record) (key : Key) (secret : XmssSecret) (k : ℕ) (bound : Bound) (binding : Binding) (bytes : List ℕ) → IsXmssKey secret key
    → kept_of key.secret records (k, bound) ≡ binding → bytes ≡ xmss_signature_bytes (xmss_textbook secret binding.leaf binding.digest)
    → bytes ≡ textbook_signature key records k bound
xmss_bound_signed records key secret k bound binding bytes of_key is made =
    made ∙ ap (λ (b : Binding). xmss_signature_bytes (xmss_textbook secret b.leaf b.digest)) (sym is) ∙ sym (xmss_signed records key secret k bound of_key)

-- ---- LMS and HSS

-- the tree of a binding stands at the bottom, and the leaf is one of its leaves
pub bound_chain : (key : Key) (trees : Trees) (records : List Record) (name : List ℕ) (binding : Binding) → IsLegal records → the_key records ≡ Some key
    → trees_of key.secret ≡ Some trees → IsBindingOf records binding key name
    → IsTreeAt records (bottom_of key.secret) binding.tree × (binding.leaf < 2 ^ height_of (secret_at trees records binding.tree).pair.tree)
bound_chain key trees records name binding legal keyed these kept =
    let found = is_found key records name binding kept in
    let (at, inside) = bound_tree records key trees found.place found.bound legal keyed these found.stands in (
      subst (λ (b : Binding). IsTreeAt records (bottom_of key.secret) b.tree) found.is at,
      subst (λ (b : Binding). b.leaf < 2 ^ height_of (secret_at trees records b.tree).pair.tree) found.is inside,
    )

pub links_signs : (above : List Level) (last : Level) (rest : List Signing) → signings_of above ≡ rest
    → signings_of (above ++ last ∷ []) ≡ rest ++ signing_of last ∷ []
links_signs above last rest signs = map-append signing_of above (last ∷ []) ∙ ap (λ l. l ++ signing_of last ∷ []) signs

-- links that sign as a binding's chain does
pub links_bound : (trees : Trees) (records : List Record) (level : ℕ) (secret : Secret) (k : ℕ) (bound : Bound) (binding : Binding) (signings : List Signing)
    → level ≡ bottom_of secret → kept_of secret records (k, bound) ≡ binding
    → signings ≡ chain_signings trees level records binding.tree
    ++ leaf_signing (secret_at trees records binding.tree) binding.leaf binding.randomizer binding.digest ∷ []
    → signings ≡ chain_signings trees (bottom_of secret) records (current_at (bottom_of secret) records k)
    ++ signing_of_bound trees records (current_at (bottom_of secret) records k) bound ∷ []
links_bound trees records level secret k bound binding signings level_is is signs =
    signs
    ∙ ap (λ n. chain_signings trees n records binding.tree
    ++ leaf_signing (secret_at trees records binding.tree) binding.leaf binding.randomizer binding.digest ∷ []) level_is
    ∙ ap (λ (b : Binding). chain_signings trees (bottom_of secret) records b.tree
    ++ leaf_signing (secret_at trees records b.tree) b.leaf b.randomizer b.digest ∷ []) (sym is)

pub none_made : AreMade []
none_made i link at = absurd (cc)

-- ---- by the ledger's key and records

module _ (own key : Key) (ledger records : List Record) (name : List ℕ) (binding : Binding) (found : IsFound key records name binding) (own_is : own ≡ key)
    (same_records : ledger ≡ records) where
  -- the binding is kept there
  pub found_kept : kept_of own.secret ledger (found.place, found.bound) ≡ binding
  found_kept = ap₂ (λ (k : Key) l. kept_of k.secret l (found.place, found.bound)) own_is same_records ∙ found.is

  -- What was read is what the leaf signs.
  pub found_digest : (text digest : List ℕ) → digest ≡ digest_at own ledger found.place binding.leaf binding.randomizer text
      → digest_at key records found.place found.bound.leaf found.bound.randomizer text ≡ digest
  found_digest text digest is =
      ap (λ (kept : Binding). digest_at key records found.place kept.leaf kept.randomizer text) found.is
      ∙ ap₂ (λ (k : Key) l. digest_at k l found.place binding.leaf binding.randomizer text) (sym own_is) (sym same_records) ∙ sym is

  -- the chain of the tree that is kept is that of the one before the binding
  pub found_chain : damaged_at own (bottom_of own.secret) ledger binding.tree
      ≡ damaged_at key (bottom_of key.secret) records (current_at (bottom_of key.secret) records found.place)
  found_chain =
      ap₂ (λ (k : Key) l. damaged_at k (bottom_of k.secret) l binding.tree) own_is same_records
      ∙ ap (damaged_at key (bottom_of key.secret) records) (sym (ap (λ (kept : Binding). kept.tree) found.is))

  -- It is its signature, too.
  pub found_signature : textbook_signature own ledger found.place found.bound ≡ textbook_signature key records found.place found.bound
  found_signature = ap₂ (λ (k : Key) l. textbook_signature k l found.place found.bound) own_is same_records
