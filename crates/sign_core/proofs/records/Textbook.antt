-- The levels of a textbook signature: what each signs, and that their fields have their sizes.
use Rattle.std.proofs.Common.{◌≡◌, ◌∙◌, refl, sym, ap, subst, inl, inr, ℕ, zero, suc, ◌+◌, ◌<◌, ◌^◌, List, [], ◌∷◌, length, take, map, Some, arith}
use Rattle.std.proofs.Common.{length-append}
use Rattle.std.specs.Prelude.{slice_get, slice_index_or}
use Rattle.std.proofs.lemmas.Bool.{cases_order}
use Rattle.std.proofs.lemmas.List.{get_or-map, get_or_append_left, get_or_at, length-map}
use Rattle.std.proofs.lemmas.Option.{same_Some, slice_get-get_or}
use Rattle.typecodes.specs.Types.{height_of}
use Rattle.lmots.specs.Key.{message_digest_of}
use Rattle.lms.specs.declared.key.LmsPublic.{LmsPublic}
use Rattle.lms.specs.Signature.{Signature as LmsSignature}
use Rattle.lms.specs.Secret.{public_of as lms_public_of}
use Rattle.lms.specs.Writing.{public_bytes as lms_public_bytes, textbook as lms_textbook}
use Rattle.hss.specs.Secret.{Signing}
use Rattle.hss.specs.Signature.{message_at}
use Rattle.hss.specs.SignedKey.{SignedKey}
use Rattle.hss.specs.Writing.{AreSized, IsSized, AreSigning, level_at, all_levels, textbook}
use Rattle.hss.proofs.Making.{signed-at, signed-count}
use Rattle.state_file.specs.Laws.{Fits, bottom_of, leaves_at}
use Rattle.state_file.specs.declared.record.Bound.{Bound}
use Rattle.state_file.specs.declared.record.Key.{Key}
use Rattle.state_file.specs.declared.record.Record.{Record}
use Rattle.state_file.specs.declared.record.Record.TheVariants.{Key as KeyRecord, Extend as ExtendRecord, Bound as BoundRecord}
use Rattle.sign_core.specs.Records.{current}
use Rattle.sign_core.specs.Textbook.{AllHaveSizes, Trees, secret_at, made_secret, trees_of}
use Rattle.sign_core.proofs.records.Chains.{AreChained, SignsNext, chained, current_made}
use Rattle.sign_core.specs.inner.KeyTrees.{signing_of_bound}

-- ---- what the levels of a textbook signature sign

signature_of : Signing → LmsSignature
signature_of level = lms_textbook level.secret level.leaf level.randomizer level.digest

key_of : Signing → LmsPublic
key_of level = lms_public_of level.secret

-- a level above the bottom signs the next level's key
message_above : (above : List Signing) (bottom : Signing) (message : List ℕ) (i : ℕ) → i < length above
    → message_at message (textbook above bottom) i ≡ lms_public_bytes (lms_public_of (level_at above bottom (i + 1)).secret)
unfolding signature_of key_of
message_above above bottom message i inside =
    let signed = (textbook above bottom).signed in
    let key_bytes : SignedKey → List ℕ = λ one. lms_public_bytes one.key in
    let one : SignedKey = record { signature = signature_of (level_at above bottom i); key = key_of (level_at above bottom (i + 1)) } in
    let count : length signed ≡ length above = signed-count signature_of key_of above bottom in
    let within : i < length (map key_bytes signed) = omega (arith, inside, count, length-map signed key_bytes) in
    get_or_append_left (map key_bytes signed) (message ∷ []) message i within
    ∙ get_or-map key_bytes signed i one message (omega (arith, inside, count))
    ∙ ap key_bytes (signed-at signature_of key_of above bottom i one inside)

-- and the bottom level the message
message_bottom : (above : List Signing) (bottom : Signing) (message : List ℕ) → message_at message (textbook above bottom) (length above) ≡ message
unfolding signature_of key_of
message_bottom above bottom message =
    let signed = (textbook above bottom).signed in
    let key_bytes : SignedKey → List ℕ = λ one. lms_public_bytes one.key in
    get_or_at (map key_bytes signed) message [] message (length above) (length-map signed key_bytes ∙ signed-count signature_of key_of above bottom)

-- ---- trees of legal records

-- The records of a key with LMS trees: each fits, and its fields have their sizes.
pub record HasTrees (key : Key) (trees : Trees) (records : List Record) : Type 0 where
  pub these : trees_of key.secret ≡ Some trees
  pub first : slice_get records 0 ≡ Some (KeyRecord key)
  pub identifier : length trees.top.identifier ≡ 16
  pub pairs : trees.top.pair ≡ slice_index_or trees.pairs 0 trees.top.pair
  pub leaves : (level n : ℕ) → n < leaves_at key.secret level → n < 2 ^ height_of (slice_index_or trees.pairs level trees.top.pair).tree
  pub fits : (k : ℕ) (entry : Record) → slice_get records k ≡ Some entry → Fits key records k entry
  pub sizes : AllHaveSizes records

module _ (key : Key) (trees : Trees) (records : List Record) (has : HasTrees key trees records) where
  -- a level's tree has the level's types
  tree_pair : (level k tree : ℕ) → current level (take k records) ≡ Some tree
      → (secret_at trees records tree).pair ≡ slice_index_or trees.pairs level trees.top.pair
  tree_pair zero k tree is = ap (λ n. (secret_at trees records n).pair) (sym (same_Some 0 tree is)) ∙ ap (λ r. (made_secret trees r).pair) has.first ∙ has.pairs
  tree_pair (suc level) k tree is =
      let made = (current_made level k records tree is).1 in
      ap (λ r. (made_secret trees r).pair) made.stands ∙ ap (λ n. slice_index_or trees.pairs n trees.top.pair) (omega (arith, made.of_level))

  tree_identifier : (level k tree : ℕ) → current level (take k records) ≡ Some tree → length (secret_at trees records tree).identifier ≡ 16
  tree_identifier zero k tree is =
      ap (λ n. length (secret_at trees records n).identifier) (sym (same_Some 0 tree is)) ∙ ap (λ r. length (made_secret trees r).identifier) has.first
      ∙ has.identifier
  tree_identifier (suc level) k tree is =
      let made = (current_made level k records tree is).1 in
      ap (λ r. length (made_secret trees r).identifier) made.stands ∙ (has.sizes tree (ExtendRecord made.extend) made.stands).0

  -- a leaf below the number of a level's leaves is one of its current tree
  tree_leaf : (level k tree n : ℕ) → current level (take k records) ≡ Some tree → n < leaves_at key.secret level
      → n < 2 ^ height_of (secret_at trees records tree).pair.tree
  tree_leaf level k tree n is inside = subst (λ pair. n < 2 ^ height_of pair.tree) (sym (tree_pair level k tree is)) (has.leaves level n inside)

  -- the signing of a level above the bottom has its sizes
  pub link_sized : (level : ℕ) (x next : Signing) → SignsNext trees records level x next → IsSized x
  link_sized level x next link =
      let sizes = has.sizes link.place (ExtendRecord link.extend) link.stands in
      let (own, is_own, within, has_tree, inside) = has.fits link.place (ExtendRecord link.extend) link.stands in
      let same : own ≡ level = omega (arith, is_own, link.of_level) in
      subst IsSized (sym link.is) (record {
        identifier = tree_identifier level link.place link.tree link.current;
        randomizer = sizes.2;
        inside = tree_leaf level link.place link.tree link.extend.parent_leaf link.current
            (subst (λ n. link.extend.parent_leaf < leaves_at key.secret n) same inside);
      })

  -- and so has a binding's
  pub bound_sized : (k tree : ℕ) (bound : Bound) → slice_get records k ≡ Some (BoundRecord bound) → current (bottom_of key.secret) (take k records) ≡ Some tree
      → IsSized (signing_of_bound trees records tree bound)
  bound_sized k tree bound stands is =
      let (has_tree, inside, randomizer) = has.fits k (BoundRecord bound) stands in
      record {
        identifier = tree_identifier (bottom_of key.secret) k tree is;
        randomizer = (has.sizes k (BoundRecord bound) stands).0;
        inside = tree_leaf (bottom_of key.secret) k tree bound.leaf is inside;
      }

-- Levels that sign one another's keys, and at the bottom the message's digest, sign as the textbook does.
pub chain_signs : (trees : Trees) (records : List Record) (above : List Signing) (bottom : Signing) (message : List ℕ)
    → ((level : ℕ) (x next : Signing) → SignsNext trees records level x next → IsSized x) → IsSized bottom
    → bottom.digest ≡ message_digest_of bottom.secret.identifier bottom.leaf bottom.randomizer message
    → AreChained trees records above bottom → AreSized above bottom × AreSigning above bottom message
chain_signs trees records above bottom message sized bottom_sized digest chained =
    let levels = all_levels above bottom in
    let count : length levels ≡ length above + 1 = length-append above (bottom ∷ []) in
    let last : level_at above bottom (length above) ≡ bottom = get_or_at above bottom [] bottom (length above) refl in
    let link : (i : ℕ) → i < length above → SignsNext trees records i (level_at above bottom i) (level_at above bottom (i + 1)) =
    λ i inside. chained.links i (level_at above bottom i) (level_at above bottom (i + 1)) (slice_get-get_or levels i bottom (omega (arith, inside, count)))
    (slice_get-get_or levels (i + 1) bottom (omega (arith, inside, count))) in
    let each_sized : AreSized above bottom = λ i inside.
    elim (cases_order i (length above)) [
      | inl same ↦ subst IsSized (sym (ap (level_at above bottom) same ∙ last)) bottom_sized
      | inr (inl below) ↦ sized i (level_at above bottom i) (level_at above bottom (i + 1)) (link i below)
      | inr (inr beyond) ↦ absurd (omega (arith, inside, beyond))
    ] in
    let any_digest : Signing → List ℕ → Type 0 = λ level signed. level.digest ≡ message_digest_of level.secret.identifier level.leaf level.randomizer signed in (
      each_sized,
      record {
        leaves = λ i inside. (each_sized i inside).inside;
        digests = λ i inside.
            elim (cases_order i (length above)) [
              | inl same ↦ subst (λ n. any_digest (level_at above bottom n) (message_at message (textbook above bottom) n)) (sym same)
                  (subst (λ level. any_digest level (message_at message (textbook above bottom) (length above))) (sym last)
                  (subst (any_digest bottom) (sym (message_bottom above bottom message)) digest))
              | inr (inl below) ↦ subst (any_digest (level_at above bottom i)) (sym (message_above above bottom message i below)) (link i below).signed
              | inr (inr beyond) ↦ absurd (omega (arith, inside, beyond))
            ];
      },
    )
