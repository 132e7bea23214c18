-- After a request each level has the cache that it had, or its current tree's.
use Rattle.std.proofs.Common.{◌≡◌, ◌∙◌, ◌≢◌, ◌⊎◌, ℕ, ◌-◌, ◌≤◌, true, List, [], ◌∷◌, ◌++◌, length, suc, None, Some, Result, Ok, Err, inl, inr, sym, ap, subst, arith}
use Rattle.std.specs.Prelude.{IfErr, OnErr, OnOk}
use Rattle.state_file.specs.declared.record.Bound.{Bound}
use Rattle.state_file.specs.declared.record.Extend.{Extend}
use Rattle.state_file.specs.declared.record.Key.{Key}
use Rattle.state_file.specs.declared.record.Record.{Record}
use Rattle.state_file.specs.declared.record.Record.TheVariants.{Bound as BoundRecord, Extend as ExtendRecord}
use Rattle.state_file.specs.declared.record.Secret.TheVariants.{Xmss}
use Rattle.typecodes.specs.declared.secret.XmssSecret.{XmssSecret}
use Rattle.sign_core.specs.Caches.{Cached, HasCurrent, HasLevel, HasRenewed, HasXmss, KeepsOrRenews, cache_at}
use Rattle.sign_core.specs.Records.{current, the_key}
use Rattle.sign_core.specs.Signer.{is_fault, is_out_of_memory}
use Rattle.sign_core.specs.Textbook.{Trees, secret_at, trees_of}
use Rattle.sign_core.specs.declared.fault.SignFault.{SignFault}
use Rattle.sign_core.specs.declared.fault.SignFault.TheVariants.{OutOfMemory}
use Rattle.sign_core.specs.inner.Caches.{RenewsDownTo}
use Rattle.sign_core.proofs.records.OneMore.{current_above, current_new}
use Rattle.sign_core.proofs.chains.KeptCaches.{is_level, stands_low}
use Rattle.sign_core.proofs.records.NextLeaves.{current_bound}
use Rattle.sign_core.proofs.records.Unchanged.{secret_stays}

pub at_ok : {A E : Type 0} {P : Type 0} (answer : Result A E) (x : A) → answer ≡ Ok x → OnOk answer P → P
at_ok {P = P} answer x is on = subst (λ a. OnOk a P) is on

-- ---- a cache that stays

renewed_stays : (key : Key) (records : List Record) (level : ℕ) (old new : Cached) → cache_at new.levels level ≡ cache_at old.levels level
    → HasRenewed key records level old → HasRenewed key records level new
renewed_stays key records level old new same (trees, these, (tree, is, has)) = (trees, these, (tree, is, same ∙ has))

xmss_stays : (key : Key) (first old new : Cached) → new.xmss ≡ old.xmss → (old.xmss ≡ first.xmss) ⊎ HasXmss key old
    → (new.xmss ≡ first.xmss) ⊎ HasXmss key new
xmss_stays key first old new same (inl stays) = inl (same ∙ stays)
xmss_stays key first old new same (inr (secret, of_key, has)) = inr (secret, of_key, same ∙ has)

pub renews_same : (key : Key) (records : List Record) (lowest : ℕ) (old new : Cached) → new ≡ old → RenewsDownTo key records lowest old new
renews_same key records lowest old new same = record {
  levels = λ k. inl (ap (λ (x : Cached). cache_at x.levels k) same);
  xmss = inl (ap (λ (x : Cached). x.xmss) same);
}

pub keeps_same_caches : (key : Key) (records : List Record) (old new : Cached) → new ≡ old → KeepsOrRenews key records old new
keeps_same_caches key records old new same = record {
  levels = λ k. inl (ap (λ (x : Cached). cache_at x.levels k) same);
  xmss = inl (ap (λ (x : Cached). x.xmss) same);
}

pub keeps_or_renews : (key : Key) (records : List Record) (lowest : ℕ) (old new : Cached) → RenewsDownTo key records lowest old new
    → KeepsOrRenews key records old new
keeps_or_renews key records lowest old new renews = record {
  levels = λ k. elim (renews.levels k) [ inl same ↦ inl same | inr (low, has) ↦ inr has ];
  xmss = renews.xmss;
}

-- neither caches nor records changed since
pub renews_stay : (key : Key) (records later : List Record) (lowest : ℕ) (first old new : Cached) → later ≡ records → new ≡ old
    → RenewsDownTo key records lowest first old → KeepsOrRenews key later first new
renews_stay key records later lowest first old new same_records same renews =
    subst (λ (x : List Record × Cached). KeepsOrRenews key x.0 first x.1) (λ i. (sym same_records i, sym same i))
    (keeps_or_renews key records lowest first old renews)

-- ---- level by level

at_level : (key : Key) (trees : Trees) (records : List Record) (level k : ℕ) (old mid new : Cached) → trees_of key.secret ≡ Some trees
    → RenewsDownTo key records (level - 1) old mid → cache_at mid.levels level ≡ cache_at old.levels level
    → ((k : ℕ) → k ≢ level → cache_at new.levels k ≡ cache_at mid.levels k)
    → (cache_at new.levels level ≡ cache_at mid.levels level) ⊎ HasCurrent trees records level new → (k ≡ level) ⊎ (k ≢ level)
    → (cache_at new.levels k ≡ cache_at old.levels k) ⊎ ((k ≤ level) × HasRenewed key records k new)
at_level key trees records level k old mid new these above still others (inl stays) (inl same) =
    inl (subst (λ n. cache_at new.levels n ≡ cache_at old.levels n) (sym same) (stays ∙ still))
at_level key trees records level k old mid new these above still others (inr has) (inl same) =
    inr (omega (arith, same), subst (λ n. HasRenewed key records n new) (sym same) (trees, these, has))
at_level key trees records level k old mid new these above still others own (inr other) = elim (above.levels k) [
  | inl stays ↦ inl (others k other ∙ stays)
  | inr (low, has) ↦ inr (omega (arith, low), renewed_stays key records k mid new (others k other) has)
]

pub renews_level : (key : Key) (trees : Trees) (records : List Record) (level : ℕ) (old mid new : Cached) → trees_of key.secret ≡ Some trees
    → RenewsDownTo key records (level - 1) old mid → cache_at mid.levels level ≡ cache_at old.levels level
    → ((k : ℕ) → k ≢ level → cache_at new.levels k ≡ cache_at mid.levels k) → new.xmss ≡ mid.xmss
    → (cache_at new.levels level ≡ cache_at mid.levels level) ⊎ HasCurrent trees records level new
    → RenewsDownTo key records level old new
renews_level key trees records level old mid new these above still others xmss own = record {
  levels = λ k. at_level key trees records level k old mid new these above still others own (is_level k level);
  xmss = xmss_stays key old mid new xmss above.xmss;
}

pub renews_xmss : (key : Key) (records : List Record) (lowest : ℕ) (secret : XmssSecret) (old new : Cached) → key.secret ≡ Xmss secret
    → new.levels ≡ old.levels → new.xmss ≡ Some secret → RenewsDownTo key records lowest old new
renews_xmss key records lowest secret old new of_key levels there = record {
  levels = λ k. inl (ap (λ l. cache_at l k) levels);
  xmss = inr (secret, of_key, there);
}

-- ---- where memory is refused

-- a key that has LMS trees has no XMSS tree
pub not_xmss : (key : Key) (trees : Trees) (old new : Cached) → trees_of key.secret ≡ Some trees → (new.xmss ≡ old.xmss) ⊎ HasXmss key new → new.xmss ≡ old.xmss
not_xmss key trees old new these (inl stays) = stays
not_xmss key trees old new these (inr (secret, of_key, has)) = let none : None ≡ Some trees = sym (ap trees_of of_key) ∙ these in absurd cc

-- a call that refuses memory alone
pub refused_alone : {A P : Type 0} (answer : Result A SignFault) → IfErr answer (λ fault. fault ≡ OutOfMemory)
    → (is_fault is_out_of_memory answer ≡ true → P) → OnErr answer P
refused_alone (Ok x) is to = tt
refused_alone (Err fault) is to = to (ap is_out_of_memory is)

-- ---- one more record

-- a current tree of a level above stays it, and its secret
above_stays : (key : Key) (records : List Record) (level k : ℕ) (extend : Extend) (old new : Cached) → the_key records ≡ Some key
    → extend.level ≡ suc level → k ≤ level → cache_at new.levels k ≡ cache_at old.levels k → HasRenewed key records k old
    → HasRenewed key (records ++ ExtendRecord extend ∷ []) k new
above_stays key records level k extend old new keyed of_level low same (trees, these, (tree, is, has)) =
    let within = stands_low records key k tree keyed is in (
      trees,
      these,
      (
        tree,
        current_above level k records extend of_level low ∙ is,
        same ∙ has ∙ ap Some (sym (secret_stays trees records (ExtendRecord extend ∷ []) tree within)),
      ),
    )

at_begun : (key : Key) (own : Trees) (records : List Record) (level above k : ℕ) (extend : Extend) (first old new : Cached)
    → trees_of key.secret ≡ Some own → the_key records ≡ Some key → extend.level ≡ suc level → current level records ≡ Some above
    → ((k : ℕ) → k ≢ suc level → cache_at new.levels k ≡ cache_at old.levels k)
    → HasLevel new (suc level) (secret_at own (records ++ ExtendRecord extend ∷ []) (length records))
    → RenewsDownTo key records level first old → (k ≡ suc level) ⊎ (k ≢ suc level)
    → (cache_at new.levels k ≡ cache_at first.levels k)
    ⊎ ((k ≤ suc level) × HasRenewed key (records ++ ExtendRecord extend ∷ []) k new)
at_begun key own records level above k extend first old new of_key keyed of_level is others there renews (inl same) =
    let all = records ++ ExtendRecord extend ∷ [] in
    inr (
      omega (arith, same),
      subst (λ n. HasRenewed key all n new) (sym same)
          (own, of_key, (length records, current_new level above records extend of_level is, there)),
    )
at_begun key own records level above k extend first old new of_key keyed of_level is others there renews (inr other) =
    elim (renews.levels k) [
      | inl stays ↦ inl (others k other ∙ stays)
      | inr (low, has) ↦ inr (omega (arith, low), above_stays key records level k extend old new keyed of_level low (others k other) has)
    ]

pub begun_renews : (key : Key) (own : Trees) (records : List Record) (level above : ℕ) (extend : Extend) (first old new : Cached)
    → trees_of key.secret ≡ Some own → the_key records ≡ Some key → extend.level ≡ suc level → current level records ≡ Some above
    → ((k : ℕ) → k ≢ suc level → cache_at new.levels k ≡ cache_at old.levels k) → new.xmss ≡ old.xmss
    → HasLevel new (suc level) (secret_at own (records ++ ExtendRecord extend ∷ []) (length records))
    → RenewsDownTo key records level first old → RenewsDownTo key (records ++ ExtendRecord extend ∷ []) (suc level) first new
begun_renews key own records level above extend first old new of_key keyed of_level is others xmss there renews = record {
  levels = λ k. at_begun key own records level above k extend first old new of_key keyed of_level is others there renews (is_level k (suc level));
  xmss = xmss_stays key first old new xmss renews.xmss;
}

bound_renewed : (key : Key) (records : List Record) (k : ℕ) (bound : Bound) (cached : Cached) → the_key records ≡ Some key
    → HasRenewed key records k cached → HasRenewed key (records ++ BoundRecord bound ∷ []) k cached
bound_renewed key records k bound cached keyed (trees, these, (tree, is, has)) =
    let within = stands_low records key k tree keyed is in (
      trees,
      these,
      (
        tree,
        current_bound k records bound ∙ is,
        has ∙ ap Some (sym (secret_stays trees records (BoundRecord bound ∷ []) tree within)),
      ),
    )

pub renews_bound : (key : Key) (records : List Record) (lowest : ℕ) (bound : Bound) (first cached : Cached) → the_key records ≡ Some key
    → RenewsDownTo key records lowest first cached → KeepsOrRenews key (records ++ BoundRecord bound ∷ []) first cached
renews_bound key records lowest bound first cached keyed renews = record {
  levels = λ k. elim (renews.levels k) [
    | inl same ↦ inl same
    | inr (low, has) ↦ inr (bound_renewed key records k bound cached keyed has)
  ];
  xmss = renews.xmss;
}
