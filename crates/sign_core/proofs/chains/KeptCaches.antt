-- Which caches of current trees are there: level by level, and after a step that leaves those of the higher levels.
use Rattle.std.proofs.Common.{◌≡◌, ◌∙◌, ◌≢◌, ◌⊎◌, ℕ, ◌+◌, ◌-◌, ◌<◌, ◌≤◌, Bool, true, false, List, [], ◌∷◌, ◌++◌, length, suc, Option, None, Some, Result, Ok, Err, inl, inr, sym, ap, subst, arith, true≢false}
use Rattle.std.proofs.lemmas.Option.{same_Some}
use Rattle.std.specs.Prelude.{OnErr, OnOk, slice_index_or}
use Rattle.std.proofs.lemmas.Bool.Decides.{eqb_tells}
use Rattle.state_file.specs.Laws.{IsLegal, bottom_of}
use Rattle.state_file.specs.declared.record.Bound.{Bound}
use Rattle.state_file.specs.declared.record.Key.{Key}
use Rattle.state_file.specs.declared.record.Extend.{Extend}
use Rattle.state_file.specs.declared.record.Record.{Record}
use Rattle.state_file.specs.declared.record.Record.TheVariants.{Bound as BoundRecord, Extend as ExtendRecord}
use Rattle.state_file.specs.declared.record.Secret.{Secret}
use Rattle.state_file.specs.declared.record.Secret.TheVariants.{Xmss}
use Rattle.typecodes.specs.declared.secret.LmsSecret.{LmsSecret}
use Rattle.typecodes.specs.declared.secret.XmssSecret.{XmssSecret}
use Rattle.sign_core.specs.Caches.{Cached, HasCaches, HasLevel, LacksCache, LacksLevel, LacksOwn, cache_at}
use Rattle.sign_core.specs.Records.{binding_at, current, deepest, the_key}
use Rattle.sign_core.specs.Signer.{is_before_caches, is_before_repeat, is_fault}
use Rattle.sign_core.specs.Signing.{IsPrepared, MakesCaches, is_unprepared}
use Rattle.sign_core.specs.Textbook.{Trees, current_at, made_secret, secret_at, trees_of}
use Rattle.sign_core.specs.Trees.{with_next}
use Rattle.sign_core.specs.declared.fault.SignFault.{SignFault}
use Rattle.sign_core.specs.declared.secret_trees.SecretTrees.{SecretTrees}
use Rattle.sign_core.specs.declared.secret_trees.SecretTrees.TheVariants.{Chain, Xmss as XmssTree}
use Rattle.sign_core.specs.declared.ledger.Binding.{Binding}
use Rattle.sign_core.specs.declared.trees.Tree.{Tree}
use Rattle.sign_core.specs.inner.Caches.{HasOwn, KeepsDownTo}
use Rattle.sign_core.specs.inner.KeyTrees.{IsTreeAt, MakesTrees, chain_trees}
use Rattle.sign_core.specs.inner.Signing.{IsBindingOf}
use Rattle.sign_core.proofs.records.OneMore.{current_above, current_new}
use Rattle.sign_core.proofs.records.Lists.{slice_get_new}
use Rattle.sign_core.proofs.records.NextLeaves.{current_bound}
use Rattle.sign_core.proofs.calls.RepeatEnds.{IsFound, bound_chain, is_found}
use Rattle.sign_core.proofs.records.Unchanged.{current_low, secret_stays, some_keyed}

pub no_tree : (secret : Secret) (records : List Record) (found : Option ℕ) → with_next secret records found ≡ None → (tree : ℕ) → found ≡ Some tree → ⊥
no_tree secret records None is tree some = cc
no_tree secret records (Some k) is tree some = cc

pub its_tree : (secret : Secret) (records : List Record) (found : Option ℕ) (kept : Tree) → with_next secret records found ≡ Some kept
    → (tree : ℕ) → found ≡ Some tree → kept.place ≡ tree
its_tree secret records None kept is tree some = absurd cc
its_tree secret records (Some k) kept is tree some = cc

pub on_ok : {A E : Type 0} {P Q : Type 0} (answer : Result A E) → (P → Q) → OnOk answer P → OnOk answer Q
on_ok (Ok x) to on = to on
on_ok (Err e) to on = on

-- ---- level by level

one_tree : (key : Key) (trees : Trees) (secret : XmssSecret) → trees_of key.secret ≡ Some trees → key.secret ≡ Xmss secret → ⊥
one_tree key trees secret these of_key = let none = sym (ap trees_of of_key) ∙ these in cc

pub kept_xmss : (key : Key) (records : List Record) (level before : ℕ) (secret : XmssSecret) (new : Cached) → key.secret ≡ Xmss secret
    → new.xmss ≡ Some secret → HasCaches key records (Some level) before new
kept_xmss key records level before secret new of_key there (inl lacks) = one_tree key lacks.trees secret lacks.of_key of_key
kept_xmss key records level before secret new of_key there (inr lacks) =
    let same : Xmss secret ≡ Xmss lacks.secret = sym of_key ∙ lacks.of_key in
    lacks.lacks (there ∙ cc)

pub is_level : (a b : ℕ) → (a ≡ b) ⊎ (a ≢ b)
is_level a b = elim (eqb_tells a b) [ inl (_, same) ↦ inl same | inr (_, other) ↦ inr other ]

by_level : (key : Key) (trees : Trees) (records : List Record) (level before : ℕ) (mid new : Cached) → trees_of key.secret ≡ Some trees
    → (1 ≤ level → HasCaches key records (Some (level - 1)) before mid) → HasOwn trees records level before new
    → ((k : ℕ) → k ≢ level → cache_at new.levels k ≡ cache_at mid.levels k) → (lacks : LacksLevel key records level before new)
    → (lacks.level ≡ level) ⊎ (lacks.level ≢ level) → ⊥
by_level key trees records level before mid new these above own others lacks (inl same) =
    let of_key : lacks.trees ≡ trees = let both = sym lacks.of_key ∙ these in cc in
    lacks.lacks (subst (λ (t : Trees). HasLevel new lacks.level (secret_at t records lacks.tree)) (sym of_key)
    (subst (λ n. HasLevel new n (secret_at trees records lacks.tree)) (sym same)
    (own lacks.tree (subst (λ n. current n records ≡ Some lacks.tree) same lacks.is_current) lacks.earlier)))
by_level key trees records level before mid new these above own others lacks (inr other) =
    above (omega (arith, lacks.down_to, other)) (inl (record {
      trees = lacks.trees;
      of_key = lacks.of_key;
      level = lacks.level;
      down_to = omega (arith, lacks.down_to, other);
      tree = lacks.tree;
      is_current = lacks.is_current;
      earlier = lacks.earlier;
      lacks = λ has. lacks.lacks (others lacks.level other ∙ has);
    }))

pub kept_level : (key : Key) (trees : Trees) (records : List Record) (level before : ℕ) (mid new : Cached) → trees_of key.secret ≡ Some trees
    → (1 ≤ level → HasCaches key records (Some (level - 1)) before mid)
    → ((k : ℕ) → k ≢ level → cache_at new.levels k ≡ cache_at mid.levels k)
    → HasOwn trees records level before new → HasCaches key records (Some level) before new
kept_level key trees records level before mid new these above others own (inl lacks) =
    by_level key trees records level before mid new these above own others lacks (is_level lacks.level level)
kept_level key trees records level before mid new these above others own (inr lacks) = one_tree key trees lacks.secret these lacks.of_key

pub lacks_level : (key : Key) (trees : Trees) (records : List Record) (level before : ℕ) (old mid : Cached) → trees_of key.secret ≡ Some trees
    → cache_at mid.levels level ≡ cache_at old.levels level → LacksOwn trees records level before mid → LacksCache key records (Some level) before old
lacks_level key trees records level before old mid these same lacks = inl (record {
  trees = trees;
  of_key = these;
  level = level;
  down_to = omega arith;
  tree = lacks.tree;
  is_current = lacks.is_current;
  earlier = lacks.earlier;
  lacks = λ there. lacks.lacks (same ∙ there);
})

pub on_err : {A E : Type 0} {P Q : Type 0} (answer : Result A E) → (P → Q) → OnErr answer P → OnErr answer Q
on_err (Ok x) to on = on
on_err (Err e) to on = to on

-- ---- caches that stay

pub stays_has : (key : Key) (records : List Record) (level before : ℕ) (old new : Cached) → KeepsDownTo level old new
    → HasCaches key records (Some level) before old → HasCaches key records (Some level) before new
stays_has key records level before old new keeps has (inl lacks) =
    has (inl (record {
      trees = lacks.trees;
      of_key = lacks.of_key;
      level = lacks.level;
      down_to = lacks.down_to;
      tree = lacks.tree;
      is_current = lacks.is_current;
      earlier = lacks.earlier;
      lacks = λ there. lacks.lacks (keeps.levels lacks.level lacks.down_to ∙ there);
    }))
stays_has key records level before old new keeps has (inr lacks) =
    has (inr (record {
      secret = lacks.secret;
      of_key = lacks.of_key;
      lacks = λ there. lacks.lacks (keeps.xmss ∙ there);
    }))

pub keeps_same : (level : ℕ) (old new : Cached) → new ≡ old → KeepsDownTo level old new
keeps_same level old new same = record {
  levels = λ k down. ap (λ (x : Cached). cache_at x.levels k) same;
  xmss = ap (λ (x : Cached). x.xmss) same;
}

pub keeps_begun : (level begun : ℕ) (old new : Cached) → level < begun
    → ((k : ℕ) → k ≢ begun → cache_at new.levels k ≡ cache_at old.levels k) → new.xmss ≡ old.xmss → KeepsDownTo level old new
keeps_begun level begun old new below others xmss = record {
  levels = λ k down. others k (λ same. absurd (omega (arith, below, down, same)));
  xmss = xmss;
}

pub keeps_below : (level : ℕ) (old mid new : Cached) → KeepsDownTo level old mid → KeepsDownTo (level + 1) mid new → KeepsDownTo level old new
keeps_below level old mid new first second = record {
  levels = λ k down. second.levels k (omega (arith, down)) ∙ first.levels k down;
  xmss = second.xmss ∙ first.xmss;
}

-- ---- all caches, after one more record

-- a tree that is current stands among the records
pub stands_low : (records : List Record) (key : Key) (level tree : ℕ) → the_key records ≡ Some key → current level records ≡ Some tree → tree < length records
stands_low records key level tree keyed is =
    elim (current_low level records tree is) [ inl top ↦ omega (arith, top, some_keyed records key keyed) | inr low ↦ low ]

by_begun : (key : Key) (trees : Trees) (records : List Record) (level above : ℕ) (extend : Extend) (old new : Cached) → trees_of key.secret ≡ Some trees
    → the_key records ≡ Some key → extend.level ≡ suc level → current level records ≡ Some above → KeepsDownTo level old new
    → HasLevel new (suc level) (secret_at trees (records ++ ExtendRecord extend ∷ []) (length records))
    → HasCaches key records (Some level) (length records) old
    → (lacks : LacksLevel key (records ++ ExtendRecord extend ∷ []) (suc level) (length (records ++ ExtendRecord extend ∷ [])) new)
    → (lacks.level ≡ suc level) ⊎ (lacks.level ≢ suc level) → ⊥
by_begun key trees records level above extend old new these keyed of_level is keeps there has lacks (inl same) =
    let all = records ++ ExtendRecord extend ∷ [] in
    let of_key : lacks.trees ≡ trees = let both = sym lacks.of_key ∙ these in cc in
    let at : current (suc level) all ≡ Some lacks.tree = subst (λ n. current n all ≡ Some lacks.tree) same lacks.is_current in
    let place : lacks.tree ≡ length records = same_Some _ _ (sym at ∙ current_new level above records extend of_level is) in
    lacks.lacks (subst (λ (x : ℕ × Trees × ℕ). HasLevel new x.0 (secret_at x.1 all x.2)) (λ i. (sym same i, sym of_key i, sym place i)) there)
by_begun key trees records level above extend old new these keyed of_level is keeps there has lacks (inr other) =
    let all = records ++ ExtendRecord extend ∷ [] in
    let low : lacks.level ≤ level = omega (arith, lacks.down_to, other) in
    let at : current lacks.level records ≡ Some lacks.tree = sym (current_above level lacks.level records extend of_level low) ∙ lacks.is_current in
    let within = stands_low records key lacks.level lacks.tree keyed at in
    has (inl (record {
      trees = lacks.trees;
      of_key = lacks.of_key;
      level = lacks.level;
      down_to = low;
      tree = lacks.tree;
      is_current = at;
      earlier = within;
      lacks = λ has_old. lacks.lacks (keeps.levels lacks.level low ∙ has_old
          ∙ ap Some (sym (secret_stays lacks.trees records (ExtendRecord extend ∷ []) lacks.tree within)));
    }))

pub has_begun : (key : Key) (trees : Trees) (records : List Record) (level above : ℕ) (extend : Extend) (old new : Cached) → trees_of key.secret ≡ Some trees
    → the_key records ≡ Some key → extend.level ≡ suc level → current level records ≡ Some above → KeepsDownTo level old new
    → HasLevel new (suc level) (secret_at trees (records ++ ExtendRecord extend ∷ []) (length records))
    → HasCaches key records (Some level) (length records) old
    → HasCaches key (records ++ ExtendRecord extend ∷ []) (Some (suc level)) (length (records ++ ExtendRecord extend ∷ [])) new
has_begun key trees records level above extend old new these keyed of_level is keeps there has (inl lacks) =
    by_begun key trees records level above extend old new these keyed of_level is keeps there has lacks (is_level lacks.level (suc level))
has_begun key trees records level above extend old new these keyed of_level is keeps there has (inr lacks) =
    one_tree key trees lacks.secret these lacks.of_key

pub has_bound : (key : Key) (records : List Record) (level : ℕ) (bound : Bound) (cached : Cached) → the_key records ≡ Some key
    → HasCaches key records (Some level) (length records) cached
    → HasCaches key (records ++ BoundRecord bound ∷ []) (Some level) (length (records ++ BoundRecord bound ∷ [])) cached
has_bound key records level bound cached keyed has (inl lacks) =
    let at : current lacks.level records ≡ Some lacks.tree = sym (current_bound lacks.level records bound) ∙ lacks.is_current in
    let within = stands_low records key lacks.level lacks.tree keyed at in
    has (inl (record {
      trees = lacks.trees;
      of_key = lacks.of_key;
      level = lacks.level;
      down_to = lacks.down_to;
      tree = lacks.tree;
      is_current = at;
      earlier = within;
      lacks = λ there. lacks.lacks (there ∙ ap Some (sym (secret_stays lacks.trees records (BoundRecord bound ∷ []) lacks.tree within)));
    }))
has_bound key records level bound cached keyed has (inr lacks) = has (inr lacks)

-- the secret of a tree that was just begun
pub begun_secret : (trees : Trees) (records : List Record) (extend : Extend) (secret : LmsSecret) → extend.identifier ≡ secret.identifier
    → extend.seed ≡ secret.seed → secret.pair ≡ slice_index_or trees.pairs extend.level trees.top.pair
    → secret_at trees (records ++ ExtendRecord extend ∷ []) (length records) ≡ secret
begun_secret trees records extend secret identifier seed pair =
    ap (made_secret trees) (slice_get_new records (ExtendRecord extend))
    ∙ (λ i. record { pair = sym pair i; identifier = identifier i; seed = seed i })

pub anyway : {A E : Type 0} {P : Type 0} (answer : Result A E) → P → OnOk answer P
anyway (Ok x) holds = holds
anyway (Err e) holds = tt

-- ---- what a request makes, by its answer

refused : {A : Type 0} (early : SignFault → Bool) (answer : Result A SignFault) (fault : SignFault) → answer ≡ Err fault
    → is_unprepared early fault ≡ true → is_fault (is_unprepared early) answer ≡ false → ⊥
refused early answer fault failed comes other = true≢false (sym comes ∙ sym (ap (is_fault (is_unprepared early)) failed) ∙ other)

pub refused_early : {A : Type 0} (key : Key) (records : List Record) (found : Option (ℕ × Bound)) (cached : Cached) (room : ℕ)
    (answer : Result A SignFault) (fault : SignFault) → answer ≡ Err fault → is_unprepared is_before_caches fault ≡ true
    → is_unprepared is_before_repeat fault ≡ true → MakesCaches key records found cached room answer
refused_early key records None cached room answer fault failed new bound = λ other. absurd (refused is_before_caches answer fault failed new other)
refused_early key records (Some (k, bound)) cached room answer fault failed new repeat =
    λ other. absurd (refused is_before_repeat answer fault failed repeat other)

pub refused_new : {A : Type 0} (key : Key) (records : List Record) (found : Option (ℕ × Bound)) (cached : Cached) (room : ℕ)
    (answer : Result A SignFault) (fault : SignFault) → found ≡ None → answer ≡ Err fault → is_unprepared is_before_caches fault ≡ true
    → MakesCaches key records found cached room answer
refused_new key records found cached room answer fault none failed early =
    subst (λ f. MakesCaches key records f cached room answer) (sym none) (λ other. absurd (refused is_before_caches answer fault failed early other))

pub made_new : {A : Type 0} (key : Key) (records : List Record) (found : Option (ℕ × Bound)) (level : ℕ) (cached : Cached) (room : ℕ)
    (answer : Result A SignFault) → found ≡ None → deepest key.secret records ≡ Some level
    → IsPrepared key records (Some level) (length records) cached room → MakesCaches key records found cached room answer
made_new key records found level cached room answer none at prepared =
    subst (λ f. MakesCaches key records f cached room answer) (sym none)
    (λ other. subst (λ l. IsPrepared key records l (length records) cached room) (sym at) prepared)

pub refused_bound : {A : Type 0} (key : Key) (records : List Record) (name : List ℕ) (binding : Binding) (cached : Cached) (room : ℕ)
    (answer : Result A SignFault) (fault : SignFault) → IsFound key records name binding → answer ≡ Err fault
    → is_unprepared is_before_repeat fault ≡ true → MakesCaches key records (binding_at records name) cached room answer
refused_bound key records name binding cached room answer fault found failed early =
    subst (λ f. MakesCaches key records f cached room answer) (sym found.found) (λ other. absurd (refused is_before_repeat answer fault failed early other))

pub made_bound : {A : Type 0} (key : Key) (records : List Record) (name : List ℕ) (binding : Binding) (cached : Cached) (room : ℕ)
    (answer : Result A SignFault) → IsFound key records name binding
    → IsPrepared key records (Some (bottom_of key.secret)) binding.place cached room
    → MakesCaches key records (binding_at records name) cached room answer
made_bound key records name binding cached room answer found prepared =
    subst (λ f. MakesCaches key records f cached room answer) (sym found.found)
    (λ other. subst (λ n. IsPrepared key records (Some (bottom_of key.secret)) n cached room)
    (sym (ap (λ (kept : Binding). kept.place) found.is)) prepared)

pub never_bound : (key : Key) (records : List Record) (name : List ℕ) (binding : Binding) → IsBindingOf records binding key name
    → binding_at records name ≡ None → ⊥
never_bound key records name binding is none = let found = (is_found key records name binding is).found in cc

-- the tree of a binding stands at the bottom, in any scheme
pub bound_stands : (key : Key) (trees : SecretTrees) (records : List Record) (name : List ℕ) (binding : Binding) → MakesTrees key.secret trees
    → IsLegal records → the_key records ≡ Some key → IsBindingOf records binding key name → IsTreeAt records (bottom_of key.secret) binding.tree
bound_stands key (Chain trees) records name binding these legal keyed kept = (bound_chain key (chain_trees trees) records name binding legal keyed these kept).0
bound_stands key (XmssTree secret) records name binding of_key legal keyed kept =
    let found = is_found key records name binding kept in
    let top : binding.tree ≡ 0 = sym (ap (λ (b : Binding). b.tree) found.is) ∙ ap (λ s. current_at (bottom_of s) records found.place) of_key in
    subst (λ s. IsTreeAt records (bottom_of s) binding.tree) (sym of_key) top

pub prepared_later : (key : Key) (records : List Record) (level before : ℕ) (old new : Cached) (room : ℕ)
    → IsPrepared key records (Some level) before old room → KeepsDownTo level old new → IsPrepared key records (Some level) before new room
prepared_later key records level before old new room prepared keeps = record {
  room = prepared.room;
  caches = stays_has key records level before old new keeps prepared.caches;
}
