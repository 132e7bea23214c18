-- Calls with sources of one of two types are calls with sources of either.
use Rattle.std.proofs.Common.{◌≡◌, refl, sym, ap, subst, ℕ, List, [], ◌∷◌, Option, Some, None, Result, Ok, Err, inl, inr}
use Rattle.typecodes.specs.declared.message.Message as message
use Rattle.typecodes.specs.declared.spec.Spec.{Spec}
use Rattle.state_file.specs.Disk.{Counts}
use Rattle.state_file.specs.declared.record.Record.{Record}
use Rattle.state_file.specs.declared.record.Version.{Version}
use Rattle.state_file.specs.declared.refused.Refused.{Refused}
use Rattle.state_file.specs.declared.store.Store as store
use Rattle.sign_core.specs.declared.fault.SignFault.{SignFault}
use Rattle.sign_core.specs.declared.key.AnyPublic.{AnyPublic}
use Rattle.sign_core.specs.declared.source.Source as source
use Rattle.sign_core.specs.Serving.{SignsGiven}
use Rattle.sign_core.specs.Sessions.{Holder, HoldsSigner, MeetsContract, SignerCall, creates, gives_store}
use Rattle.sign_core.specs.Sessions.{handed_of_call}
use Rattle.sign_core.specs.Sessions.{key_of_call, next_holder, opens, retires, signs, with_signer, without_signer}
use Rattle.sign_core.specs.Signer.{AnswersRequest, Creates, Ends, KeepsAll, LeavesSource, MakesKey, Opens, OpensReplayed}
use Rattle.sign_core.specs.Signer.{Retires, View, is_random_failed}
use Rattle.sign_core.specs.SignerCalls.{SignerLaw}
use Rattle.sign_core.specs.Source.{Provides}
use Rattle.sign_core.specs.TwoSources.{AreSameCalls, SourcesLaw, either, first, mapped_call, mapped_holder, mapped_result}
use Rattle.sign_core.specs.TwoSources.{mapped_view, second}
use Rattle.sign_core.specs.World.{Outcome}
use Rattle.sign_core.proofs.calls.SignerCalls.{signer_law}

module _ {S R P : Type 0} (g : store.Ghosts S) (r : source.Ghosts R) (p : source.Ghosts P) (to : R → P)
    (failures : (random : R) → p.failures (to random) ≡ r.failures random)
    (upcoming : (random : R) → p.upcoming (to random) ≡ r.upcoming random) where
  provides : (old new : R) (bytes : List ℕ) → Provides (r.upcoming old) bytes (r.upcoming new)
      → Provides (p.upcoming (to old)) bytes (p.upcoming (to new))
  provides old new bytes is =
      subst (λ u. Provides u bytes (p.upcoming (to new))) (sym (upcoming old))
      (subst (λ u. Provides (r.upcoming old) bytes u) (sym (upcoming new)) is)

  counts : {A : Type 0} (old new : R) (answer : Result A SignFault)
      → Counts is_random_failed (r.failures old) (r.failures new) answer
      → Counts is_random_failed (p.failures (to old)) (p.failures (to new)) answer
  counts old new answer is =
      subst (λ n. Counts is_random_failed n (p.failures (to new)) answer) (sym (failures old))
      (subst (λ n. Counts is_random_failed (r.failures old) n answer) (sym (failures new)) is)

  leaves : (failed : Option SignFault) (list : List Record) (old new : R) → LeavesSource failed list old new
      → LeavesSource failed list (to old) (to new)
  leaves (Some fault) list old new same = ap to same
  leaves None [] old new same = tt
  leaves None (entry ∷ entries) old new same = ap to same

  -- ---- creates and openings

  makes : (version : Version) (spec : Spec) (old new : S) (before later : R) (IsOne IsOther : Outcome AnyPublic → Type 0)
      → ((outcome : Outcome AnyPublic) → IsOne outcome → IsOther outcome)
      → MakesKey g r version spec old new before later IsOne
      → MakesKey g p version spec old new (to before) (to later) IsOther
  makes version spec old new before later IsOne IsOther alike does = record {
    chance = does.chance;
    of_version = does.of_version;
    outcome = does.outcome;
    step = does.step;
    answer = alike does.outcome does.answer;
    store = does.store;
    stopped = does.stopped;
    load = does.load;
    possible = does.possible;
    source = provides before later does.outcome.drawn does.source;
    leaves = leaves does.chance.failed_load (g.list old) before later does.leaves;
    failures = counts before later does.outcome.answer does.failures;
    room = does.room;
    refusals = does.refusals;
    unreadable = does.unreadable;
    asked = does.asked;
    stays = does.stays;
  }

  creates_same : (version : Version) (spec : Spec) (kept_in : S) (random : R)
      (result : Result (View S R) (Refused (S × R) SignFault)) → Creates g r version spec kept_in random result
      → Creates g p version spec kept_in (to random) (mapped_result to result)
  creates_same version spec kept_in random (Ok view) does =
      makes version spec kept_in view.store random view.random _ _ (λ outcome is. is) does
  creates_same version spec kept_in random (Err refused) does =
      makes version spec kept_in refused.given.0 random refused.given.1 _ _ (λ outcome is. is) does

  opens_same : (kept_in : S) (random : R) (result : Result (View S R) (Refused (S × R) SignFault))
      → Opens g kept_in random result → Opens g kept_in (to random) (mapped_result to result)
  opens_same kept_in random (Ok view) does = record { loads = does.loads; same_random = ap to does.same_random }
  opens_same kept_in random (Err refused) does = record { loads = does.loads; same_random = ap to does.same_random }

  replays_same : (kept_in : S) (random : R) (result : Result (View S R) (Refused (S × R) SignFault))
      → OpensReplayed g kept_in random result → OpensReplayed g kept_in (to random) (mapped_result to result)
  replays_same kept_in random (Ok view) does = record {
    opening = does.opening;
    own = does.own;
    memory = does.memory;
    same_store = does.same_store;
    same_random = ap to does.same_random;
  }
  replays_same kept_in random (Err refused) does = record {
    opening = does.opening;
    own = does.own;
    memory = does.memory;
    same_store = does.same_store;
    same_random = ap to does.same_random;
  }

  -- ---- requests and retirings

  ends : {A : Type 0} (old new : View S R) (outcome : Outcome A) (answer : Result A SignFault) → Ends g old new outcome answer
      → Ends g (mapped_view to old) (mapped_view to new) outcome answer
  ends old new outcome answer does = record {
    answer_is = does.answer_is;
    records = does.records;
    is_open = does.is_open;
    store = does.store;
    unreadable = does.unreadable;
    asked = does.asked;
  }

  keeps : (old new : View S R) → KeepsAll old new → KeepsAll (mapped_view to old) (mapped_view to new)
  keeps old new is = record { store = is.store; random = ap to is.random; records = is.records; is_open = is.is_open }

  answers_same : (old new : View S R) (name : List ℕ) (capacity : ℕ) (answer : Result (List ℕ) SignFault)
      → AnswersRequest g r old new name capacity answer
      → AnswersRequest g p (mapped_view to old) (mapped_view to new) name capacity answer
  answers_same old new name capacity answer does = record {
    key = does.key;
    keyed = does.keyed;
    chance = does.chance;
    outcome = does.outcome;
    step = does.step;
    ends = ends old new does.outcome answer does.ends;
    possible = does.possible;
    source = provides old.random new.random does.outcome.drawn does.source;
    failures = counts old.random new.random answer does.failures;
    room = does.room;
    refusals = does.refusals;
    memory = does.memory;
    keeps = record {
      at_once = λ is. keeps old new (does.keeps.at_once is);
      caches = does.keeps.caches;
      unprepared = λ none. keeps old new (does.keeps.unprepared none);
      lacks_tree = does.keeps.lacks_tree;
      store = does.keeps.store;
    };
  }

  signs_same : (old new : View S R) (name : List ℕ) (given : Option (List ℕ)) (capacity : ℕ) (answer : Result (List ℕ) SignFault)
      → SignsGiven g r old new name given capacity answer
      → SignsGiven g p (mapped_view to old) (mapped_view to new) name given capacity answer
  unfolding answers_same
  signs_same old new name given capacity answer does = record {
    answers = answers_same old new name capacity answer does.answers;
    message = does.message;
    repeat = λ bound. record {
      but_caches = ap (mapped_view to) (does.repeat bound).but_caches;
      early = λ is. ap (mapped_view to) ((does.repeat bound).early is);
    };
  }

  retires_same : (old new : View S R) (upto : ℕ) (answer : Result (Unit {0}) SignFault) → Retires g old new upto answer
      → Retires g (mapped_view to old) (mapped_view to new) upto answer
  retires_same old new upto answer does = record {
    fate = does.fate;
    outcome = does.outcome;
    step = does.step;
    ends = ends old new does.outcome answer does.ends;
    random = ap to does.random;
    cached = does.cached;
    refusals = does.refusals;
    spare = does.spare;
    stays = λ same quiet. ap (mapped_view to) (does.stays same quiet);
  }

  -- ---- any call

  contract_same : (held : Holder S R) (call : SignerCall S R) → MeetsContract g r held call
      → MeetsContract g p (mapped_holder to held) (mapped_call to call)
  contract_same (without_signer kept_in) (creates version spec random result) (can, does) =
      (can, creates_same version spec kept_in random result does)
  contract_same (without_signer kept_in) (opens random result) (inl does) = inl (opens_same kept_in random result does)
  contract_same (without_signer kept_in) (opens random result) (inr does) = inr (replays_same kept_in random result does)
  contract_same (without_signer kept_in) (signs new name given capacity answer) does = absurd does
  contract_same (without_signer kept_in) (retires new upto answer) does = absurd does
  contract_same (without_signer kept_in) gives_store does = tt
  contract_same (with_signer old) (creates version spec random result) does = absurd does
  contract_same (with_signer old) (opens random result) does = absurd does
  contract_same (with_signer old) (signs new name given capacity answer) (named, does) =
      (named, signs_same old new name given capacity answer does)
  contract_same (with_signer old) (retires new upto answer) does = retires_same old new upto answer does
  contract_same (with_signer old) gives_store does = tt

  next_same : (held : Holder S R) (call : SignerCall S R)
      → next_holder (mapped_holder to held) (mapped_call to call) ≡ mapped_holder to (next_holder held call)
  next_same held (creates version spec random (Ok view)) = refl
  next_same held (creates version spec random (Err refused)) = refl
  next_same held (opens random (Ok view)) = refl
  next_same held (opens random (Err refused)) = refl
  next_same held (signs new name given capacity answer) = refl
  next_same held (retires new upto answer) = refl
  next_same (without_signer kept_in) gives_store = refl
  next_same (with_signer view) gives_store = refl

  signer_same : (held : Holder S R) → HoldsSigner g held → HoldsSigner g (mapped_holder to held)
  signer_same (without_signer kept_in) is = tt
  signer_same (with_signer view) is = record { legal = is.legal; sizes = is.sizes; tied = is.tied; shut = is.shut }

  handed_same : (call : SignerCall S R) → handed_of_call (mapped_call to call) ≡ handed_of_call call
  handed_same (creates version spec random result) = refl
  handed_same (opens random result) = refl
  handed_same (signs new name given capacity (Ok signature)) = refl
  handed_same (signs new name given capacity (Err fault)) = refl
  handed_same (retires new upto answer) = refl
  handed_same gives_store = refl

  key_same : (call : SignerCall S R) → key_of_call (mapped_call to call) ≡ key_of_call call
  key_same (creates version spec random (Ok view)) = refl
  key_same (creates version spec random (Err refused)) = refl
  key_same (opens random (Ok view)) = refl
  key_same (opens random (Err refused)) = refl
  key_same (signs new name given capacity answer) = refl
  key_same (retires new upto answer) = refl
  key_same gives_store = refl

  same_calls : AreSameCalls g r p to
  same_calls = record {
    contract = contract_same;
    next = next_same;
    signer = signer_same;
    handed = handed_same;
    key = key_same;
  }

pub sources_law : {S R Q : Type 0} (g : store.Ghosts S) (r : source.Ghosts R) (q : source.Ghosts Q) → SourcesLaw g r q
sources_law g r q = record {
  one = same_calls g r (either r q) first (λ random. refl) (λ random. refl);
  other = same_calls g q (either r q) second (λ random. refl) (λ random. refl);
}

-- what holds of a signer's calls over a store holds with sources of any type
pub signer_with : {S R P M : Type 0} (g : store.Ghosts S) (r : source.Ghosts R) (p : source.Ghosts P) (m : message.Ghosts M)
    → SignerLaw g r m → SignerLaw g p m
signer_with g r p m law = signer_law g p m
    (λ kept_in left honest running since. law.running kept_in left (record { running = running; honest = honest }) since)
