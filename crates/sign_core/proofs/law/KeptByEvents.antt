-- What every event keeps: the records are sound and have their sizes, and what was handed out is recorded.
use Rattle.std.proofs.Common.{◌≡◌, ◌∙◌, refl, sym, ap, subst, ℕ, zero, suc, ◌≤◌, ◌⊎◌, inl, inr, Bool, true, false, List, [], ◌∷◌, ◌++◌}
use Rattle.std.proofs.Common.{length, Option, Some, None, Err, arith, append-nil}
use Rattle.std.specs.Prelude.{Contains, if◌then◌else◌, slice_get}
use Rattle.std.proofs.lemmas.Bool.{cases_order}
use Rattle.std.proofs.lemmas.List.{length_push}
use Rattle.std.proofs.lemmas.List.Elements.{Contains-push_cases}
use Rattle.state_file.specs.declared.record.Key.{Key}
use Rattle.state_file.specs.declared.record.Record.{Record}
use Rattle.state_file.specs.declared.record.Record.TheVariants.{Bound as BoundRecord}
use Rattle.sign_core.specs.declared.fault.SignFault.{SignFault}
use Rattle.sign_core.specs.declared.fault.SignFault.TheVariants.{OutOfMemory, StoreFailed}
use Rattle.sign_core.specs.Records.{can_follow, the_key}
use Rattle.sign_core.specs.Headline.{IsRecorded}
use Rattle.sign_core.specs.World.{Fate, Handed, Outcome, State, acked, appended, cut_new, cut_old, newly_handed, no_memory, refused}
use Rattle.sign_core.specs.Textbook.{AllHaveSizes, AreSound, HasSizes, is_sound_at, is_sound_record}
use Rattle.sign_core.proofs.records.Bindings.{binding_stands, binding_stays}
use Rattle.sign_core.proofs.records.Lists.{slice_get_new}
use Rattle.sign_core.proofs.records.Legal.{grows}
use Rattle.sign_core.proofs.records.Unchanged.{digest_stays, key_stays, old_or_new, record_stays, signature_stays, some_keyed, sound_stays}

pub record IsKept (records : List Record) (handed : List Handed) : Type 0 where
  pub ground : (records ≡ []) ⊎ AreSound records
  pub sizes : AllHaveSizes records
  pub recorded : (x : Handed) → Contains handed x → IsRecorded records x

pub kept_empty : IsKept [] []
kept_empty = record {
  ground = inl refl;
  sizes = λ k entry is. absurd (cc);
  recorded = λ x (k, within, at). absurd (omega arith);
}

-- where there is a key, the records are sound
no_key : (records : List Record) (key : Key) → records ≡ [] → the_key records ≡ Some key → ⊥
no_key [] key empty is = absurd (cc)
no_key (first ∷ rest) key empty is = absurd (cc)

pub sound_with : (records : List Record) (handed : List Handed) (key : Key) → IsKept records handed → the_key records ≡ Some key → AreSound records
sound_with records handed key kept is = elim kept.ground [ inl empty ↦ absurd (no_key records key empty is) | inr sound ↦ sound ]

pub each_sound : (records : List Record) (key : Key) (k : ℕ) → AreSound records → the_key records ≡ Some key → is_sound_at key records k ≡ true
each_sound records key k sound is =
    let same : sound.key ≡ key = cc (sound.keyed, is) in
    subst (λ own. is_sound_at own records k ≡ true) same (sound.sound k)

-- ---- one more record

get_past : {A : Type 0} (xs : List A) (k : ℕ) → length xs ≤ k → slice_get xs k ≡ None
get_past [] k past = refl
get_past (x ∷ xs) zero past = absurd (omega (arith, past))
get_past (x ∷ xs) (suc k) past = get_past xs k (omega (arith, past))

each_grown : (records : List Record) (key : Key) (entry : Record) (k : ℕ) → AreSound records → the_key records ≡ Some key
    → is_sound_record key records (length records) (Some entry) ≡ true → is_sound_at key (records ++ entry ∷ []) k ≡ true
each_grown records key entry k sound is new =
    let all = records ++ entry ∷ [] in
    elim (cases_order k (length records)) [
      | inl same ↦ ap (is_sound_at key all) same ∙ ap (is_sound_record key all (length records)) (slice_get_new records entry)
          ∙ record_stays key records (entry ∷ []) (length records) (Some entry) (some_keyed records key is) (omega arith) ∙ new
      | inr (inl below) ↦ sound_stays key records (entry ∷ []) k below ∙ each_sound records key k sound is
      | inr (inr above) ↦ ap (is_sound_record key all k) (get_past all k (omega (arith, above, length_push records entry)))
    ]

pub sound_grown : (records : List Record) (key : Key) (entry : Record) → AreSound records → the_key records ≡ Some key
    → can_follow (Some key) records entry ≡ true → is_sound_record key records (length records) (Some entry) ≡ true
    → AreSound (records ++ entry ∷ [])
sound_grown records key entry sound is can new = record {
  legal = grows records entry sound.legal (subst (λ own. can_follow own records entry ≡ true) (sym is) can);
  key = key;
  keyed = key_stays records (entry ∷ []) key is;
  sound = λ k. each_grown records key entry k sound is new;
}

pub recorded_stays : (records : List Record) (entry : Record) (x : Handed) → IsRecorded records x → IsRecorded (records ++ entry ∷ []) x
recorded_stays records entry x is =
    let bound_to = is.is_bound in
    let some = some_keyed records is.key bound_to.keyed in
    let within : is.k ≤ length records = place_within records is.k (BoundRecord is.bound) (binding_stands records x.name is.k is.bound bound_to.named).0 in
    record {
      key = is.key;
      k = is.k;
      bound = is.bound;
      is_bound = record {
        keyed = key_stays records (entry ∷ []) is.key bound_to.keyed;
        named = binding_stays records (entry ∷ []) x.name (is.k, is.bound) bound_to.named;
        digest = digest_stays is.key records (entry ∷ []) is.k is.bound.leaf is.bound.randomizer x.message some within ∙ bound_to.digest;
      };
      signature = is.signature ∙ sym (signature_stays is.key records (entry ∷ []) is.k is.bound some within);
    }
  where
    place_within : {A : Type 0} (xs : List A) (k : ℕ) (x : A) → slice_get xs k ≡ Some x → k ≤ length xs
    place_within [] k x at = absurd (cc)
    place_within (y ∷ ys) zero x at = omega arith
    place_within (y ∷ ys) (suc k) x at = let within = place_within ys k x at in omega (arith, within)

-- one more record that can follow, is sound and has its sizes
pub kept_grown : (records : List Record) (handed : List Handed) (key : Key) (entry : Record) → IsKept records handed → the_key records ≡ Some key
    → can_follow (Some key) records entry ≡ true → is_sound_record key records (length records) (Some entry) ≡ true → HasSizes entry
    → IsKept (records ++ entry ∷ []) handed
kept_grown records handed key entry kept is can new sized = record {
  ground = inr (sound_grown records key entry (sound_with records handed key kept is) is can new);
  sizes = λ k x at. elim (old_or_new records entry k x at) [ inl old ↦ kept.sizes k x old | inr same ↦ subst HasSizes same sized ];
  recorded = λ x there. recorded_stays records entry x (kept.recorded x there);
}

pub kept_handed : (records : List Record) (handed : List Handed) (x : Handed) → IsKept records handed → IsRecorded records x → IsKept records (handed ++ x ∷ [])
kept_handed records handed x kept is = record {
  ground = kept.ground;
  sizes = kept.sizes;
  recorded = λ y there. elim (Contains-push_cases handed x y there) [ inl old ↦ kept.recorded y old | inr it ↦ subst (IsRecorded records) it is ];
}

-- ---- outcomes of a request

-- the outcome's records, with what is handed out with its answer
abbrev pub KeepsHanded : (handed : List Handed) (name : List ℕ) (given : Option (List ℕ)) → Outcome (List ℕ) → Type 0
KeepsHanded handed name given outcome = IsKept outcome.state.records (handed ++ newly_handed name given outcome.answer)

handed_none : (name : List ℕ) (given : Option (List ℕ)) (fault : SignFault) → newly_handed name given (Err fault) ≡ []
handed_none name (Some message) fault = refl
handed_none name None fault = refl

kept_silent : (records : List Record) (handed : List Handed) (name : List ℕ) (given : Option (List ℕ)) (fault : SignFault) → IsKept records handed
    → IsKept records (handed ++ newly_handed name given (Err fault))
kept_silent records handed name given fault kept =
    subst (IsKept records) (sym (ap (λ more. handed ++ more) (handed_none name given fault) ∙ append-nil handed)) kept

pub kept_refused : (state : State) (handed : List Handed) (name : List ℕ) (given : Option (List ℕ)) (fault : SignFault) → IsKept state.records handed
    → KeepsHanded handed name given (refused state fault)
kept_refused state handed name given fault kept = kept_silent state.records handed name given fault kept

pub kept_append : (state : State) (handed : List Handed) (name : List ℕ) (given : Option (List ℕ)) (entry : Record) (fate : Fate)
    (next : List Record → Outcome (List ℕ))
    → IsKept state.records handed → IsKept (state.records ++ entry ∷ []) handed → KeepsHanded handed name given (next (state.records ++ entry ∷ []))
    → KeepsHanded handed name given (appended state entry fate next)
kept_append state handed name given entry acked next kept more later = later
kept_append state handed name given entry cut_old next kept more later = kept_silent state.records handed name given StoreFailed kept
kept_append state handed name given entry cut_new next kept more later = kept_silent (state.records ++ entry ∷ []) handed name given StoreFailed more
kept_append state handed name given entry no_memory next kept more later = kept_silent state.records handed name given OutOfMemory kept

pub kept_choice : (P : Outcome (List ℕ) → Type 0) (test : Bool) (x y : Outcome (List ℕ)) → (test ≡ true → P x) → (test ≡ false → P y)
    → P (if test then x else y)
kept_choice P true x y first second = first refl
kept_choice P false x y first second = second refl
