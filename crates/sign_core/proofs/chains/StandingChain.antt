-- The current trees down to a level with a free leaf, and one more Extend below them.
use Rattle.std.proofs.Common.{◌≡◌, ◌∙◌, ap, ap₂, sym, subst, ℕ, suc, ◌+◌, ◌-◌, ◌<◌, true, false, List, [], ◌∷◌, ◌++◌, length, Some, None, arith, add-one, refl}
use Rattle.std.specs.Prelude.{slice_index_or, unwrap_or, OnOk, Result, Ok, Err}
use Rattle.std.proofs.Math.Seq.{take-length}
use Rattle.lmots.specs.Key.{message_digest_of}
use Rattle.lms.specs.declared.key.LmsPublic.{LmsPublic}
use Rattle.typecodes.specs.declared.secret.LmsSecret.{LmsSecret}
use Rattle.lms.specs.Secret.{public_of}
use Rattle.lms.specs.Writing.{public_bytes}
use Rattle.state_file.specs.Laws.{levels_of}
use Rattle.state_file.specs.declared.record.Extend.{Extend}
use Rattle.state_file.specs.declared.record.Key.{Key}
use Rattle.state_file.specs.declared.record.Record.{Record}
use Rattle.state_file.specs.declared.record.Record.TheVariants.{Extend as ExtendRecord}
use Rattle.state_file.specs.declared.record.Secret.{Secret}
use Rattle.sign_core.specs.declared.key_trees.KeyTrees.{KeyTrees}
use Rattle.sign_core.specs.declared.secret_trees.SecretTrees.{SecretTrees}
use Rattle.sign_core.specs.declared.secret_trees.SecretTrees.TheVariants.{Chain, Xmss as XmssTree}
use Rattle.sign_core.specs.declared.fault.SignFault.{SignFault}
use Rattle.sign_core.specs.Records.{can_follow, current, free_at, has_identifier, has_moved, is_free, the_key, next_at}
use Rattle.sign_core.specs.inner.KeyTrees.{MakesTrees}
use Rattle.sign_core.specs.inner.Signing.{Stands}
use Rattle.sign_core.specs.Textbook.{Trees, damaged_at, is_sound_extend, lms_secret, secret_at, current_at, trees_of}
use Rattle.sign_core.proofs.records.OneMore.{current_new, next_new}
use Rattle.sign_core.proofs.chains.CurrentChain.{HasFree}
use Rattle.sign_core.proofs.steps.NewRecords.{next_extend}
use Rattle.sign_core.proofs.law.KeptByRequests.{extend_can, extend_of, extend_sound, free_anew, free_current, free_named}
use Rattle.sign_core.proofs.law.SoundChains.{new_chain}
use Rattle.sign_core.proofs.records.Unchanged.{some_keyed}

-- a key with a level below the top isn't one of XMSS
pub no_chain : (secret : Secret) (trees : SecretTrees) (level : ℕ) → MakesTrees secret trees → level + 1 < levels_of secret
    → ((chain : KeyTrees) → trees ≡ Chain chain → ⊥) → ⊥
no_chain secret (Chain trees) level made below other = other trees refl
no_chain secret (XmssTree own) level made below other = let one = ap levels_of made in omega (arith, one, below)

-- ---- the record of one level more

-- the tree that is current at the end of the records
before_end : (level : ℕ) (records : List Record) (tree : ℕ) → current level records ≡ Some tree → current_at level records (length records) ≡ tree
before_end level records tree is = ap (λ l. unwrap_or (current level l) 0) (take-length records) ∙ ap (λ o. unwrap_or o 0) is

-- The Extend that the next leaf of a level's current tree signs is the record of the world.
pub entry_is : (key : Key) (trees : Trees) (records : List Record) (level place leaf : ℕ) (parent : LmsSecret) (secret : LmsSecret) (public : LmsPublic)
    (extend : Extend) → HasFree key.secret records level place leaf → parent ≡ secret_at trees records place
    → extend.level ≡ level + 1 → extend.parent_leaf ≡ leaf → extend.identifier ≡ secret.identifier → extend.seed ≡ secret.seed
    → public ≡ public_of secret → extend.digest ≡ message_digest_of parent.identifier leaf extend.randomizer (public_bytes public)
    → extend.root ≡ public.root
    → secret.pair ≡ slice_index_or trees.pairs (level + 1) trees.top.pair
    → ExtendRecord extend ≡ next_extend key trees records (level + 1) secret.identifier secret.seed extend.randomizer
entry_is key trees records level place leaf parent secret public extend has parent_is of_level leaf_is identifier seed made digest root pair =
    let down : level ≡ level + 1 - 1 = omega arith in
    let named : lms_secret (slice_index_or trees.pairs (level + 1) trees.top.pair) secret.identifier secret.seed ≡ secret =
    λ i. record { pair = sym pair i; identifier = secret.identifier; seed = secret.seed } in
    let own : public ≡ public_of (lms_secret (slice_index_or trees.pairs (level + 1) trees.top.pair) secret.identifier secret.seed) =
    made ∙ sym (ap public_of named) in
    let above : parent ≡ secret_at trees records (current_at (level + 1 - 1) records (length records)) =
    parent_is ∙ ap (secret_at trees records) (sym (before_end level records place has.current_is)
    ∙ ap (λ n. current_at n records (length records)) down) in
    let next : leaf ≡ next_at key.secret records (level + 1 - 1) = has.leaf_is ∙ ap (next_at key.secret records) down in
    let digest_is : extend.digest ≡ message_digest_of (secret_at trees records (current_at (level + 1 - 1) records (length records))).identifier
    (next_at key.secret records (level + 1 - 1)) extend.randomizer
    (public_bytes (public_of (lms_secret (slice_index_or trees.pairs (level + 1) trees.top.pair) secret.identifier secret.seed))) =
    digest ∙ (λ i. message_digest_of (above i).identifier (next i) extend.randomizer (public_bytes (own i))) in
    let from : extend.root ≡ (public_of (lms_secret (slice_index_or trees.pairs (level + 1) trees.top.pair) secret.identifier secret.seed)).root =
    root ∙ ap (λ p. p.root) own in
    λ i. ExtendRecord (record {
      level = of_level i;
      parent_leaf = (leaf_is ∙ next) i;
      identifier = identifier i;
      seed = seed i;
      randomizer = extend.randomizer;
      digest = digest_is i;
      root = from i;
    })

pub can_extend : (key : Key) (records : List Record) (level : ℕ) (extend : Extend) → the_key records ≡ Some key → has_moved records ≡ false
    → 0 < free_at key.secret records level → extend.level ≡ level + 1 → level + 1 < levels_of key.secret
    → extend.parent_leaf ≡ next_at key.secret records level → has_identifier records extend.identifier ≡ false
    → can_follow (the_key records) records (ExtendRecord extend) ≡ true
can_extend key records level extend keyed stays free of_level below leaf fresh =
    let down : extend.level - 1 ≡ level = omega (arith, of_level) in
    let named : is_free key.secret records (extend.level - 1) extend.parent_leaf ≡ true =
    ap₂ (is_free key.secret records) down leaf ∙ free_named key.secret records level free in
    ap (λ k. can_follow k records (ExtendRecord extend)) keyed
    ∙ extend_can key records extend stays (omega (arith, of_level)) (omega (arith, of_level, below)) named fresh

-- ---- one level more

-- The new tree's leaves are free, and the chain down to it is sound.
pub stands_below : (key : Key) (trees : Trees) (records : List Record) (level : ℕ) (identifier seed randomizer : List ℕ) → the_key records ≡ Some key
    → trees_of key.secret ≡ Some trees → Stands records level key → level + 1 < levels_of key.secret
    → Stands (records ++ next_extend key trees records (level + 1) identifier seed randomizer ∷ []) (level + 1) key
unfolding extend_of
stands_below key trees records level identifier seed randomizer keyed these stands inside =
    let leaf = next_at key.secret records (level + 1 - 1) in
    let secret = lms_secret (slice_index_or trees.pairs (level + 1) trees.top.pair) identifier seed in
    let extend = extend_of trees records (level + 1) secret randomizer leaf in
    let entry = ExtendRecord extend in
    let some = some_keyed records key keyed in
    let own : level + 1 ≡ suc level = add-one level in
    let (tree, above) = free_current key.secret records level stands.free in
    let first = current_new level tree records extend own above in
    let now = ap (λ l. current l (records ++ entry ∷ [])) own ∙ first in
    let sound = ap (λ t. is_sound_extend t records (length records) extend) these ∙ extend_sound trees records (level + 1) leaf identifier seed randomizer in
    let whole = new_chain key level records entry some stands.sound sound first in
    record {
      inside = inside;
      free = free_anew key.secret (records ++ entry ∷ []) (level + 1) (length records) inside now (next_new key.secret records entry some);
      sound = subst (λ l. let all = records ++ entry ∷ [] in damaged_at key l all (current_at l all (length all)) ≡ None) (sym own) whole;
    }

-- what holds of an append that is acknowledged
pub if_added : {P : Type 0} (added : Result (Unit {0}) SignFault) → ((x : Unit {0}) → added ≡ Ok x → P) → OnOk added P
if_added (Ok x) then = then x refl
if_added (Err fault) then = tt
