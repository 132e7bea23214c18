-- Over any legal records, the chain by which a new name signs stands: each tree begun for it is sound.
use Rattle.std.proofs.Common.{◌≡◌, ◌∙◌, refl, sym, ap, subst, ℕ, zero, suc, ◌-◌, ◌<◌, inl, inr, Bool, true, false, List, [], ◌∷◌, ◌++◌}
use Rattle.std.proofs.Common.{length, find, cond, Option, Some, None, arith}
use Rattle.std.specs.Prelude.{not, slice_index_or, unwrap_or}
use Rattle.std.proofs.lemmas.List.{take_all}
use Rattle.state_file.specs.Laws.{IsLegal, bottom_of, levels_of}
use Rattle.state_file.specs.declared.record.Bound.{Bound}
use Rattle.state_file.specs.declared.record.Key.{Key}
use Rattle.state_file.specs.declared.record.Record.{Record}
use Rattle.state_file.specs.declared.record.Record.TheVariants.{Bound as BoundRecord, Extend as ExtendRecord}
use Rattle.sign_core.specs.Records.{binding_at, can_follow, current, free_at, has_identifier, has_moved, has_randomizer, the_key, next_at}
use Rattle.sign_core.specs.Events.{AreFields, tree_sizes}
use Rattle.sign_core.specs.Headline.{IsBoundTo}
use Rattle.sign_core.specs.World.{extend_record}
use Rattle.sign_core.specs.Textbook.{AllHaveSizes, HasSizes, Trees, tree_chain, damaged_at, is_sound_at, is_sound_extend, is_sound_record}
use Rattle.sign_core.specs.Textbook.{lms_secret, current_at, trees_of}
use Rattle.sign_core.proofs.records.OneMore.{current_new, next_new}
use Rattle.sign_core.proofs.records.Bindings.{binding_new, binding_other}
use Rattle.sign_core.proofs.records.Chains.{none_of_both}
use Rattle.sign_core.proofs.records.Legal.{grows}
use Rattle.sign_core.proofs.records.Lists.{slice_get_new}
use Rattle.sign_core.proofs.law.KeptByRequests.{bound_can, extend_can, extend_of, extend_sizes, extend_sound, free_anew, free_current, free_named}
use Rattle.sign_core.proofs.records.Sizes.{digest_size, key_has_sizes}
use Rattle.sign_core.proofs.records.Unchanged.{before_stays, digest_stays, key_stays, last_is, old_or_new, record_stays, some_keyed, sound_stays, tree_low}
use Rattle.sign_core.proofs.records.Parts.{new_bound}

-- The key's records are legal, and their parts have their sizes.
pub record AreOf (key : Key) (records : List Record) : Type 0 where
  pub legal : IsLegal records
  pub sizes : AllHaveSizes records
  pub keyed : the_key records ≡ Some key

-- one more record that can follow and has its sizes
pub of_grown : (key : Key) (records : List Record) (entry : Record) → AreOf key records → can_follow (Some key) records entry ≡ true → HasSizes entry
    → AreOf key (records ++ entry ∷ [])
of_grown key records entry are can sized = record {
  legal = grows records entry are.legal (subst (λ own. can_follow own records entry ≡ true) (sym are.keyed) can);
  sizes = λ k x at. elim (old_or_new records entry k x at) [ inl old ↦ are.sizes k x old | inr same ↦ subst HasSizes same sized ];
  keyed = key_stays records (entry ∷ []) key are.keyed;
}

-- ---- chains that stay sound

none_of_more : {A : Type 0} (test : A → Bool) (xs : List A) (y : A) → find test xs ≡ None → test y ≡ false → find test (xs ++ y ∷ []) ≡ None
none_of_more test [] y none last = ap (λ b. cond b (Some y) None) last
none_of_more test (x ∷ xs) y none last =
    let (first, rest) = apart (test x) x (find test xs) none in
    ap (λ b. cond b (Some x) (find test (xs ++ y ∷ []))) first ∙ none_of_more test xs y rest last
  where
    apart : {A : Type 0} (b : Bool) (x : A) (later : Option A) → cond b (Some x) later ≡ None → (b ≡ false) × (later ≡ None)
    apart true x later is = absurd (cc)
    apart false x later is = (refl, is)

pub chain_stays : (key : Key) (level : ℕ) (xs ys : List Record) (tree : ℕ) → tree < length xs → damaged_at key level xs tree ≡ None
    → damaged_at key level (xs ++ ys) tree ≡ None
chain_stays key zero xs ys tree low sound =
    let (none, last) = none_of_both (λ k. not (is_sound_at key xs k)) [] tree sound in
    none_of_more (λ k. not (is_sound_at key (xs ++ ys) k)) [] tree refl (ap not (sound_stays key xs ys tree low) ∙ last)
chain_stays key (suc level) xs ys tree low sound =
    let parent = current_at level xs tree in
    let (above, last) = none_of_both (λ k. not (is_sound_at key xs k)) (tree_chain level xs parent) tree sound in
    let inside : parent < length xs = tree_low level xs tree (omega (arith, low)) (omega (arith, low)) in
    let still = subst (λ p. damaged_at key level (xs ++ ys) p ≡ None) (sym (before_stays level xs ys tree (omega (arith, low))))
    (chain_stays key level xs ys parent inside above) in
    none_of_more (λ k. not (is_sound_at key (xs ++ ys) k)) (tree_chain level (xs ++ ys) (current_at level (xs ++ ys) tree)) tree still
    (ap not (sound_stays key xs ys tree low) ∙ last)

-- the tree that was current at the end
pub chain_at_end : (key : Key) (level : ℕ) (records : List Record) (entry : Record) → 0 < length records
    → damaged_at key level records (current_at level records (length records)) ≡ None
    → damaged_at key level (records ++ entry ∷ []) (current_at level (records ++ entry ∷ []) (length records)) ≡ None
chain_at_end key level records entry some sound =
    subst (λ tree. damaged_at key level (records ++ entry ∷ []) tree ≡ None) (sym (before_stays level records (entry ∷ []) (length records) (omega arith)))
    (chain_stays key level records (entry ∷ []) (current_at level records (length records))
    (tree_low level records (length records) some (omega arith)) sound)

-- ---- a request under way

-- `below` levels still need a new tree; the level above them has a free leaf, and its chain of trees is sound.
pub record IsStanding (key : Key) (name : List ℕ) (below : ℕ) (records : List Record) : Type 0 where
  pub are : AreOf key records
  pub stays : has_moved records ≡ false
  pub unbound : binding_at records name ≡ None
  pub inside : below < levels_of key.secret
  pub free : 0 < free_at key.secret records (bottom_of key.secret - below)
  pub sound : let level = bottom_of key.secret - below in damaged_at key level records (current_at level records (length records)) ≡ None

pub new_chain : (key : Key) (above : ℕ) (records : List Record) (entry : Record) → 0 < length records
    → damaged_at key above records (current_at above records (length records)) ≡ None
    → is_sound_record key records (length records) (Some entry) ≡ true → current (suc above) (records ++ entry ∷ []) ≡ Some (length records)
    → (let all = records ++ entry ∷ [] in damaged_at key (suc above) all (current_at (suc above) all (length all)) ≡ None)
new_chain key above records entry some sound new now =
    let all = records ++ entry ∷ [] in
    let tree : current_at (suc above) all (length all) ≡ length records =
    ap (λ xs. unwrap_or (current (suc above) xs) 0) (take_all (length all) all (omega arith)) ∙ ap (λ found. unwrap_or found 0) now in
    let own : is_sound_at key all (length records) ≡ true =
    ap (is_sound_record key all (length records)) (slice_get_new records entry)
    ∙ record_stays key records (entry ∷ []) (length records) (Some entry) some (omega arith) ∙ new in
    subst (λ t. damaged_at key (suc above) all t ≡ None) (sym tree)
    (none_of_more (λ k. not (is_sound_at key all k)) (tree_chain above all (current_at above all (length records))) (length records)
    (chain_at_end key above records entry some sound) (ap not own))

-- one new tree: the level below stands
pub extend_stands : (key : Key) (name : List ℕ) (below : ℕ) (records : List Record) (trees : Trees) (identifier seed randomizer : List ℕ)
    → IsStanding key name (suc below) records → trees_of key.secret ≡ Some trees
    → AreFields tree_sizes (identifier ∷ seed ∷ randomizer ∷ []) → has_identifier records identifier ≡ false
    → (let level = bottom_of key.secret - below in
    let secret = lms_secret (slice_index_or trees.pairs level trees.top.pair) identifier seed in
    IsStanding key name below (records ++ extend_record trees records level secret randomizer (next_at key.secret records (level - 1)) ∷ []))
unfolding extend_of
extend_stands key name below records trees identifier seed randomizer ready are fields new =
    let level = bottom_of key.secret - below in
    let leaf = next_at key.secret records (level - 1) in
    let secret = lms_secret (slice_index_or trees.pairs level trees.top.pair) identifier seed in
    let extend = extend_of trees records level secret randomizer leaf in
    let entry = ExtendRecord extend in
    let inside = ready.inside in
    let some = some_keyed records key ready.are.keyed in
    let parent : bottom_of key.secret - suc below ≡ level - 1 = omega (arith, inside) in
    let own : level ≡ suc (level - 1) = omega (arith, inside) in
    let within : level < levels_of key.secret = omega (arith, inside) in
    let free : 0 < free_at key.secret records (level - 1) = subst (λ l. 0 < free_at key.secret records l) parent ready.free in
    let can = extend_can key records extend ready.stays (omega (arith, own)) within (free_named key.secret records (level - 1) free) new in
    let sound = ap (λ t. is_sound_extend t records (length records) extend) are ∙ extend_sound trees records level leaf identifier seed randomizer in
    let sized = extend_sizes trees records level leaf secret randomizer fields.0 fields.2.0 fields.2.2.0 in
    let (tree, above) = free_current key.secret records (level - 1) free in
    let first = current_new (level - 1) tree records extend own above in
    let now = ap (λ l. current l (records ++ entry ∷ [])) own ∙ first in
    let whole = new_chain key (level - 1) records entry some
    (subst (λ l. damaged_at key l records (current_at l records (length records)) ≡ None) parent ready.sound) sound first in
    record {
      are = of_grown key records entry ready.are can sized;
      stays = last_is records entry;
      unbound = binding_other records entry name refl ∙ ready.unbound;
      inside = omega (arith, inside);
      free = free_anew key.secret (records ++ entry ∷ []) level (length records) within now (next_new key.secret records entry some);
      sound = subst (λ l. let all = records ++ entry ∷ [] in damaged_at key l all (current_at l all (length all)) ≡ None) (sym own) whole;
    }

-- ---- the binding

-- The name's binding to a message stands, and the chain of its trees is sound.
pub record IsSoundBinding (key : Key) (name message : List ℕ) (records : List Record) (bound : Bound) : Type 0 where
  pub are : AreOf key (records ++ BoundRecord bound ∷ [])
  pub is_bound : IsBoundTo (records ++ BoundRecord bound ∷ []) key name message (length records) bound
  pub sound : let all = records ++ BoundRecord bound ∷ [] in let bottom = bottom_of key.secret in
      damaged_at key bottom all (current_at bottom all (length records)) ≡ None

pub bound_stands : (key : Key) (name message randomizer : List ℕ) (records : List Record) → IsStanding key name 0 records
    → length randomizer ≡ 32 → has_randomizer key.secret randomizer ≡ true
    → IsSoundBinding key name message records (new_bound key records name (next_at key.secret records (bottom_of key.secret)) randomizer message)
bound_stands key name message randomizer records ready size fits =
    let bottom = bottom_of key.secret in
    let leaf = next_at key.secret records bottom in
    let bound = new_bound key records name leaf randomizer message in
    let entry = BoundRecord bound in
    let some = some_keyed records key ready.are.keyed in
    let here : bottom - 0 ≡ bottom = omega arith in
    let free : 0 < free_at key.secret records bottom = subst (λ l. 0 < free_at key.secret records l) here ready.free in
    let can = bound_can key records bound ready.stays (free_named key.secret records bottom free) ready.unbound fits in
    let secret_sized = key_has_sizes records key ready.are.sizes ready.are.keyed in
    let sized : HasSizes entry = (size, digest_size key.secret key.root records (length records) leaf randomizer message secret_sized) in
    record {
      are = of_grown key records entry ready.are can sized;
      is_bound = record {
        keyed = key_stays records (entry ∷ []) key ready.are.keyed;
        named = binding_new records bound ready.unbound;
        digest = digest_stays key records (entry ∷ []) (length records) leaf randomizer message some (omega arith);
      };
      sound = chain_at_end key bottom records entry some
          (subst (λ l. damaged_at key l records (current_at l records (length records)) ≡ None) here ready.sound);
    }
