-- The calls of signers, one after the other, lead from one world to the next.
use Rattle.std.proofs.Common.{◌≡◌, ◌∙◌, refl, sym, ap, subst, ℕ, ◌⊎◌, inl, inr, true, false, List, [], ◌∷◌, ◌++◌, Result, Ok, Err}
use Rattle.std.proofs.Common.{append_assoc, append-nil, true≢false, Option, Some, None}
use Rattle.std.specs.Prelude.{Bool, IsSome, IsTrue, if◌then◌else◌, not, unwrap_or}
use Rattle.std.proofs.lemmas.Bool.{cases_Bool}
use Rattle.std.proofs.lemmas.Option.{none-some}
use Rattle.typecodes.specs.declared.message.Message as message
use Rattle.typecodes.specs.declared.spec.Spec.{Spec}
use Rattle.typecodes.specs.Name.{IsName}
use Rattle.typecodes.specs.Spec.{IsSpec}
use Rattle.state_file.specs.declared.record.Bound.{Bound}
use Rattle.state_file.specs.declared.record.Key.{Key}
use Rattle.state_file.specs.declared.record.Version.{Version}
use Rattle.state_file.specs.declared.refused.Refused.{Refused}
use Rattle.state_file.specs.declared.store.Store as store
use Rattle.sign_core.specs.declared.fault.SignFault.{SignFault}
use Rattle.sign_core.specs.declared.fault.SignFault.TheVariants.{Stopped}
use Rattle.sign_core.specs.declared.fault.SignFault.TheVariants.{Moved as MovedAway}
use Rattle.sign_core.specs.declared.key.AnyPublic.{AnyPublic}
use Rattle.sign_core.specs.declared.source.Source as source
use Rattle.sign_core.specs.Calls.{Call, IsLastingCall}
use Rattle.sign_core.specs.Headline.{public_of_world}
use Rattle.sign_core.specs.Records.{binding_at, has_moved, the_key}
use Rattle.sign_core.specs.Sessions.{AreCallsFrom, GaveKey, HoldsSigner, Holder, MeetsContract, RequestLaw, SignerCall}
use Rattle.sign_core.specs.Sessions.{creates, gives_store, handed_of, handed_of_call, key_of_call, next_holder, last_holder, holder_of, opens, retires, signs}
use Rattle.sign_core.specs.Sessions.{store_held, with_signer, without_signer}
use Rattle.sign_core.specs.Serving.{SignsGiven}
use Rattle.sign_core.specs.Signer.{Creates, IsAnswered, IsSigner, OpensRecords, Retires, View, state_of}
use Rattle.sign_core.specs.Signer.{store_of_result}
use Rattle.sign_core.specs.SignerCalls.{AreClosed, IsAfter, IsOpenSigner, IsRefusedCall, IsRefusedOpening, IsRunning, OpensInWorld, SignerLaw, world_of}
use Rattle.sign_core.specs.Textbook.{public_of_key}
use Rattle.sign_core.proofs.calls.SignerCalls.{HandsGiven, answers_in, refuses_given}
use Rattle.sign_core.specs.World.{Chance, Event, Handed, Outcome, State, World, after, closed_state, create, refused, reopen, request, requested, retire}
use Rattle.sign_core.specs.World.{stop}
use Rattle.sign_core.specs.inner.Cases.{requested_binding}
use Rattle.sign_core.proofs.steps.Cases.{repeated, requested_key}
use Rattle.sign_core.proofs.law.DrawsOfRequests.{signed_read}
use Rattle.sign_core.proofs.law.Once.{closed_key}

-- ---- who has the store, as the world has it

pub record FollowsStore {S : Type 0} (g : store.Ghosts S) (limit : ℕ) (kept_in : S) (world : World) : Type 0 where
  pub honest : IsTrue (g.honest kept_in)
  pub most : g.most kept_in ≡ limit
  pub none_open : world.state.is_open ≡ false
  pub records : g.stopped kept_in ≡ false → world.state.records ≡ g.list kept_in

pub record FollowsSigner {S R : Type 0} (g : store.Ghosts S) (limit : ℕ) (view : View S R) (world : World) : Type 0 where
  pub honest : IsTrue (g.honest view.store)
  pub most : g.most view.store ≡ limit
  pub is_signer : IsSigner g view
  pub leaves : IsAfter view world

abbrev pub Follows : {S R : Type 0} → store.Ghosts S → (limit : ℕ) → Holder S R → World → Type 0
Follows g limit (without_signer kept_in) world = FollowsStore g limit kept_in world
Follows g limit (with_signer view) world = FollowsSigner g limit view world

-- A call is an event that lasts: this is handed out in the world, and a key that the call gives is the world's.
pub record StepsTo {S R : Type 0} (g : store.Ghosts S) (limit : ℕ) (world : World) (old new : Holder S R) (own : List Handed) (gave : Option AnyPublic)
    : Type 0 where
  pub event : Event
  pub lasting : IsLastingCall g limit world (store_held old) (record { event = event; store = store_held new })
  pub follows : Follows g limit new (after limit world event)
  pub all : (after limit world event).handed ≡ world.handed ++ own
  pub key : (public : AnyPublic) → gave ≡ Some public
      → (view : View S R) × (new ≡ with_signer view) × (view.is_open ≡ true) × (public_of_key (the_key view.records) ≡ Some public)

-- the key of a create or an opening
abbrev key_of_result : {S R : Type 0} → Result (View S R) (Refused (S × R) SignFault) → Option AnyPublic
key_of_result (Ok view) = public_of_key (the_key view.records)
key_of_result (Err refused) = None

key_of_create : {S R : Type 0} (version : Version) (spec : Spec) (random : R) (result : Result (View S R) (Refused (S × R) SignFault))
    → key_of_result result ≡ key_of_call {S = S} {R = R} (creates version spec random result)
key_of_create version spec random (Ok view) = refl
key_of_create version spec random (Err refused) = refl

key_of_opening : {S R : Type 0} (random : R) (result : Result (View S R) (Refused (S × R) SignFault))
    → key_of_result result ≡ key_of_call {S = S} {R = R} (opens random result)
key_of_opening random (Ok view) = refl
key_of_opening random (Err refused) = refl

-- what a request hands out
own_handed : {S R : Type 0} (new : View S R) (name : List ℕ) (given : Option (List ℕ)) (capacity : ℕ) (answer : Result (List ℕ) SignFault) (own : List Handed)
    → HandsGiven name given answer own → own ≡ handed_of_call {S = S} {R = R} (signs new name given capacity answer)
own_handed new name given capacity (Ok signature) own (text, is, same) =
    same ∙ ap (λ (u : Option (List ℕ)). record { name = name; message = unwrap_or u []; signature = signature } ∷ []) (sym is)
own_handed new name given capacity (Err fault) own same = same

abbrev IsOpenBy : {S R : Type 0} → Result (View S R) (Refused (S × R) SignFault) → Type 0
IsOpenBy (Ok view) = view.is_open ≡ true
IsOpenBy (Err refused) = Unit {0}

opened_by : {S R : Type 0} (result : Result (View S R) (Refused (S × R) SignFault)) (outcome : Outcome AnyPublic) → IsAnswered result outcome
    → IsOpenBy result
opened_by (Ok view) outcome (public, answer, keyed, records, is_open) = is_open
opened_by (Err refused) outcome answer = tt

-- calls one after the other give what both parts give
pub handed_append : {S R : Type 0} (calls later : List (SignerCall S R)) → handed_of (calls ++ later) ≡ handed_of calls ++ handed_of later
handed_append [] later = refl
handed_append (call ∷ calls) later =
    ap (λ l. handed_of_call call ++ l) (handed_append calls later) ∙ sym (append_assoc (handed_of_call call) (handed_of calls) (handed_of later))

pub gave_append : {S R : Type 0} (calls later : List (SignerCall S R)) (public : AnyPublic) → GaveKey (calls ++ later) public
    → GaveKey calls public ⊎ GaveKey later public
gave_append [] later public gave = inr gave
gave_append (call ∷ calls) later public (inl here) = inl (inl here)
gave_append (call ∷ calls) later public (inr gave) = elim (gave_append calls later public gave) [ inl first ↦ inl (inr first) | inr second ↦ inr second ]

module _ {S R M : Type 0} (g : store.Ghosts S) (r : source.Ghosts R) (m : message.Ghosts M) (law : SignerLaw g r m) where
  -- ---- an open signer

  sign_open : (view new : View S R) (name : List ℕ) (given : Option (List ℕ)) (capacity : ℕ) (answer : Result (List ℕ) SignFault) (handed : List Handed)
      → IsOpenSigner g view → IsName name → SignsGiven g r view new name given capacity answer → IsSigner g new
      → StepsTo g (g.most view.store) (world_of (state_of view) handed) (with_signer view) (with_signer new)
      (handed_of_call {S = S} {R = R} (signs new name given capacity answer)) None
  sign_open view new name given capacity answer handed is named does own_signer =
      let limit = g.most view.store in
      let world : World = world_of (state_of view) handed in
      let event = request name does.answers.chance in
      let step = answers_in g r view new name given capacity answer handed is named does in
      record {
        event = event;
        lasting = law.lasts limit world event view.store new step.is is.honest own_signer step.leaves;
        follows = record {
          honest = subst IsTrue (sym step.is.honest) is.honest;
          most = does.answers.ends.store.most;
          is_signer = own_signer;
          leaves = step.leaves;
        };
        all = step.hands.2 ∙ ap (λ l. handed ++ l) (own_handed new name given capacity answer step.hands.0 step.hands.1);
        key = λ public never. absurd (none-some public never);
      }

  retire_open : (view new : View S R) (upto : ℕ) (answer : Result (Unit {0}) SignFault) (handed : List Handed) → IsOpenSigner g view
      → Retires g view new upto answer → IsSigner g new
      → StepsTo g (g.most view.store) (world_of (state_of view) handed) (with_signer view) (with_signer new) [] None
  retire_open view new upto answer handed is does own_signer =
      let limit = g.most view.store in
      let world : World = world_of (state_of view) handed in
      let event = retire upto does.fate in
      let step = law.retires view new upto answer handed is does in
      record {
        event = event;
        lasting = law.lasts limit world event view.store new step.is is.honest own_signer step.leaves;
        follows = record {
          honest = subst IsTrue (sym step.is.honest) is.honest;
          most = does.ends.store.most;
          is_signer = own_signer;
          leaves = step.leaves;
        };
        all = step.hands ∙ sym (append-nil handed);
        key = λ public never. absurd (none-some public never);
      }

  -- the same in the world as it is
  in_world : (limit : ℕ) (world : World) (view : View S R) (new : Holder S R) (own : List Handed) (gave : Option AnyPublic)
      → FollowsSigner g limit view world → view.is_open ≡ true
      → StepsTo g (g.most view.store) (world_of (state_of view) world.handed) (with_signer view) new own gave
      → StepsTo g limit world (with_signer view) new own gave
  in_world limit world view new own gave follows opened step =
      subst (λ l. StepsTo g l world (with_signer view) new own gave) follows.most
      (subst (λ s. StepsTo g (g.most view.store) (world_of s world.handed) (with_signer view) new own gave) (sym (follows.leaves.state opened)) step)

  -- ---- a closed signer

  refused_call : {A : Type 0} (view new : View S R) (event : Event) (answer : Result A SignFault) (world : World)
      → AreClosed view world → IsTrue (g.honest view.store) → IsSigner g new → IsRefusedCall g world event view new answer
      → StepsTo g (g.most view.store) world (with_signer view) (with_signer new) [] None
  refused_call view new event answer world closed honest own_signer refused =
      let limit = g.most view.store in
      let stays : (after limit world event).state.is_open ≡ false = ap (λ (w : World). w.state.is_open) refused.stays ∙ closed.none_open in
      let same : g.honest new.store ≡ g.honest view.store = ap g.honest refused.store in
      record {
        event = event;
        lasting = law.lasts_closed limit world event view.store new.store (record { is_call = refused.is_call; honest = same }) stays;
        follows = record {
          honest = subst IsTrue (sym same) honest;
          most = ap g.most refused.store;
          is_signer = own_signer;
          leaves = record {
            is_open = stays ∙ sym refused.is_open;
            state = λ opened. absurd (true≢false (sym opened ∙ refused.is_open));
          };
        };
        all = ap (λ (w : World). w.handed) refused.stays ∙ sym (append-nil world.handed);
        key = λ public never. absurd (none-some public never);
      }

  closed_as : (limit : ℕ) (world : World) (view : View S R) → FollowsSigner g limit view world → view.is_open ≡ false → AreClosed view world
  closed_as limit world view follows closed = record { is_closed = closed; none_open = follows.leaves.is_open ∙ closed }

  -- ---- creates and openings

  made : (kept_in : S) (event : Event) (result : Result (View S R) (Refused (S × R) SignFault)) (handed : List Handed) → IsRunning g kept_in
      → OpensInWorld g (g.list kept_in) handed event kept_in result → g.most (store_of_result result) ≡ g.most kept_in
      → HoldsSigner g (holder_of result) → IsOpenBy result
      → StepsTo g (g.most kept_in) (world_of (closed_state (g.list kept_in)) handed) (without_signer kept_in) (holder_of result) [] (key_of_result result)
  made kept_in event (Ok view) handed running step most own_signer opened =
      let limit = g.most kept_in in
      let world : World = world_of (closed_state (g.list kept_in)) handed in
      record {
        event = event;
        lasting = law.lasts limit world event kept_in view step.is running.honest own_signer step.leaves;
        follows = record {
          honest = subst IsTrue (sym step.is.honest) running.honest;
          most = most;
          is_signer = own_signer;
          leaves = step.leaves;
        };
        all = step.hands ∙ sym (append-nil handed);
        key = λ public is. (view, refl, opened, is);
      }
  made kept_in event (Err refused) handed running step most holds opened =
      let limit = g.most kept_in in
      let world : World = world_of (closed_state (g.list kept_in)) handed in
      let closed : (after limit world event).state.is_open ≡ false = ap (λ (s : State). s.is_open) step.leaves in
      record {
        event = event;
        lasting = law.lasts_closed limit world event kept_in refused.given.0 step.is closed;
        follows = record {
          honest = subst IsTrue (sym step.is.honest) running.honest;
          most = most;
          none_open = closed;
          records = λ runs. ap (λ (s : State). s.records) step.leaves;
        };
        all = step.hands ∙ sym (append-nil handed);
        key = λ public never. absurd (none-some public never);
      }

  of_store : (limit : ℕ) (world : World) (kept_in : S) (new : Holder S R) (own : List Handed) (gave : Option AnyPublic)
      → FollowsStore g limit kept_in world → g.stopped kept_in ≡ false
      → StepsTo g (g.most kept_in) (world_of (closed_state (g.list kept_in)) world.handed) (without_signer kept_in) new own gave
      → StepsTo g limit world (without_signer kept_in) new own gave
  of_store limit world kept_in new own gave follows running step =
      let found : world.state ≡ closed_state (g.list kept_in) =
      λ i. record { records = follows.records running i; is_open = follows.none_open i } in
      subst (λ l. StepsTo g l world (without_signer kept_in) new own gave) follows.most
      (subst (λ s. StepsTo g (g.most kept_in) (world_of s world.handed) (without_signer kept_in) new own gave) (sym found) step)

  not_made : (limit : ℕ) (world : World) (kept_in : S) (event : Event) (result : Result (View S R) (Refused (S × R) SignFault))
      → FollowsStore g limit kept_in world → g.stopped kept_in ≡ true → IsRefusedOpening g world event kept_in result
      → StepsTo g limit world (without_signer kept_in) (holder_of result) [] (key_of_result result)
  not_made limit world kept_in event result follows stopped refused =
      let store = refused.refused.given.0 in
      let closed : (after (g.most kept_in) world event).state.is_open ≡ false = ap (λ (w : World). w.state.is_open) refused.stays ∙ follows.none_open in
      let step : StepsTo g (g.most kept_in) world (without_signer kept_in) (holder_of (Err refused.refused)) [] (key_of_result {S = S} {R = R} (Err refused.refused)) = record {
        event = event;
        lasting = law.lasts_closed (g.most kept_in) world event kept_in store (record { is_call = refused.is_call; honest = ap g.honest refused.store }) closed;
        follows = record {
          honest = subst IsTrue (sym (ap g.honest refused.store)) follows.honest;
          most = ap g.most refused.store;
          none_open = closed;
          records = λ runs. absurd (true≢false (sym stopped ∙ sym (ap g.stopped refused.store) ∙ runs));
        };
        all = ap (λ (w : World). w.handed) refused.stays ∙ sym (append-nil world.handed);
        key = λ public never. absurd (none-some public never);
      } in
      subst (λ l. StepsTo g l world (without_signer kept_in) (holder_of result) [] (key_of_result result)) follows.most
      (subst (λ found. StepsTo g (g.most kept_in) world (without_signer kept_in) (holder_of found) [] (key_of_result found)) (sym refused.result_is) step)

  -- ---- the store is given back

  store_given : (limit : ℕ) (world : World) (view : View S R) → FollowsSigner g limit view world
      → StepsTo g limit world (with_signer view) (without_signer view.store) [] None
  store_given limit world view follows =
      let listed : g.stopped view.store ≡ false → world.state.records ≡ g.list view.store = λ running. elim (cases_Bool view.is_open) [
        | inl opened ↦ ap (λ (s : State). s.records) (follows.leaves.state opened) ∙ sym ((follows.is_signer.tied opened).same follows.honest)
        | inr closed ↦ absurd (true≢false (sym (follows.is_signer.shut closed) ∙ running))
      ] in
      record {
        event = stop;
        lasting = record {
          is_call = record { possible = tt; leaves = inr refl };
          honest = refl;
          lasts = λ opened left since. absurd (true≢false (sym opened));
        };
        follows = record { honest = follows.honest; most = follows.most; none_open = refl; records = listed };
        all = sym (append-nil world.handed);
        key = λ public never. absurd (none-some public never);
      }

  store_kept : (limit : ℕ) (world : World) (kept_in : S) → FollowsStore g limit kept_in world
      → StepsTo {S = S} {R = R} g limit world (without_signer kept_in) (without_signer kept_in) [] None
  store_kept limit world kept_in follows = record {
    event = stop;
    lasting = record {
      is_call = record { possible = tt; leaves = inr refl };
      honest = refl;
      lasts = λ opened left since. absurd (true≢false (sym opened));
    };
    follows = record { honest = follows.honest; most = follows.most; none_open = refl; records = follows.records };
    all = sym (append-nil world.handed);
    key = λ public never. absurd (none-some public never);
  }

  -- ---- any call

  create_step : (limit : ℕ) (world : World) (kept_in : S) (version : Version) (spec : Spec) (random : R)
      (result : Result (View S R) (Refused (S × R) SignFault)) → FollowsStore g limit kept_in world → IsSpec spec
      → Creates g r version spec kept_in random result → HoldsSigner g (holder_of result)
      → StepsTo g limit world (without_signer kept_in) (holder_of result) [] (key_of_result result)
  create_step limit world kept_in version spec random result follows can does holds = elim (cases_Bool (g.stopped kept_in)) [
    | inl stopped ↦ not_made limit world kept_in (create spec does.chance) result follows stopped
        (law.refuses_creating version spec kept_in random result world stopped can does)
    | inr running ↦
        let runs : IsRunning g kept_in = record { running = running; honest = follows.honest } in
        of_store limit world kept_in (holder_of result) [] (key_of_result result) follows running
        (made kept_in (create spec does.chance) result world.handed runs
        (law.creates version spec kept_in random result world.handed runs can does) does.store.most holds (opened_by result does.outcome does.answer))
  ]

  open_step : (limit : ℕ) (world : World) (kept_in : S) (random : R) (result : Result (View S R) (Refused (S × R) SignFault))
      → FollowsStore g limit kept_in world → OpensRecords g kept_in (store_of_result result) (IsAnswered result) → HoldsSigner g (holder_of result)
      → StepsTo g limit world (without_signer kept_in) (holder_of result) [] (key_of_result result)
  open_step limit world kept_in random result follows does holds = elim (cases_Bool (g.stopped kept_in)) [
    | inl stopped ↦ not_made limit world kept_in (reopen does.chance) result follows stopped
        (law.refuses_opening kept_in random result world stopped does)
    | inr running ↦
        let runs : IsRunning g kept_in = record { running = running; honest = follows.honest } in
        of_store limit world kept_in (holder_of result) [] (key_of_result result) follows running
        (made kept_in (reopen does.chance) result world.handed runs
        (law.opens kept_in random result world.handed runs does) does.most holds (opened_by result does.outcome does.answer))
  ]

  sign_step : (limit : ℕ) (world : World) (view new : View S R) (name : List ℕ) (given : Option (List ℕ)) (capacity : ℕ)
      (answer : Result (List ℕ) SignFault) → FollowsSigner g limit view world → IsName name → SignsGiven g r view new name given capacity answer
      → IsSigner g new
      → StepsTo g limit world (with_signer view) (with_signer new) (handed_of_call {S = S} {R = R} (signs new name given capacity answer)) None
  sign_step limit world view new name given capacity answer follows named does own_signer =
      let hands : Result (List ℕ) SignFault → List Handed = λ a. handed_of_call {S = S} {R = R} (signs new name given capacity a) in
      elim (cases_Bool view.is_open) [
        | inl opened ↦ in_world limit world view (with_signer new) (hands answer) None follows opened
            (sign_open view new name given capacity answer world.handed
            (record { signer = follows.is_signer; is_open = opened; honest = follows.honest }) named does own_signer)
        | inr closed ↦
            let are = closed_as limit world view follows closed in
            let refused = refuses_given g r view new name given capacity answer world are named does in
            subst (λ l. StepsTo g l world (with_signer view) (with_signer new) (hands answer) None) follows.most
            (subst (λ a. StepsTo g (g.most view.store) world (with_signer view) (with_signer new) (hands a) None) (sym refused.answer_is)
            (refused_call view new (request name does.answers.chance) answer world are follows.honest own_signer refused))
      ]

  retire_step : (limit : ℕ) (world : World) (view new : View S R) (upto : ℕ) (answer : Result (Unit {0}) SignFault)
      → FollowsSigner g limit view world → Retires g view new upto answer → IsSigner g new
      → StepsTo g limit world (with_signer view) (with_signer new) [] None
  retire_step limit world view new upto answer follows does own_signer = elim (cases_Bool view.is_open) [
    | inl opened ↦ in_world limit world view (with_signer new) [] None follows opened
        (retire_open view new upto answer world.handed (record { signer = follows.is_signer; is_open = opened; honest = follows.honest }) does own_signer)
    | inr closed ↦
        let are = closed_as limit world view follows closed in
        subst (λ l. StepsTo g l world (with_signer view) (with_signer new) [] None) follows.most
        (refused_call view new (retire upto does.fate) answer world are follows.honest own_signer
        (law.refuses_retiring view new upto answer world are does))
  ]

  pub one_step : (limit : ℕ) (world : World) (held : Holder S R) (call : SignerCall S R) → Follows g limit held world → MeetsContract g r held call
      → HoldsSigner g (next_holder held call) → StepsTo g limit world held (next_holder held call) (handed_of_call call) (key_of_call call)
  one_step limit world (without_signer kept_in) (creates version spec random result) follows does holds =
      subst (λ k. StepsTo g limit world (without_signer kept_in) (holder_of result) [] k) (key_of_create version spec random result)
      (create_step limit world kept_in version spec random result follows does.0 does.1 holds)
  one_step limit world (without_signer kept_in) (opens random result) follows does holds =
      subst (λ k. StepsTo g limit world (without_signer kept_in) (holder_of result) [] k) (key_of_opening random result)
      (elim does [
        | inl loads ↦ open_step limit world kept_in random result follows loads.loads.opening holds
        | inr replayed ↦ open_step limit world kept_in random result follows replayed.opening holds
      ])
  one_step limit world (without_signer kept_in) (signs new name given capacity answer) follows does holds = absurd does
  one_step limit world (without_signer kept_in) (retires new upto answer) follows does holds = absurd does
  one_step limit world (without_signer kept_in) gives_store follows does holds = store_kept limit world kept_in follows
  one_step limit world (with_signer view) (creates version spec random result) follows does holds = absurd does
  one_step limit world (with_signer view) (opens random result) follows does holds = absurd does
  one_step limit world (with_signer view) (signs new name given capacity answer) follows does holds =
      sign_step limit world view new name given capacity answer follows does.0 does.1 holds
  one_step limit world (with_signer view) (retires new upto answer) follows does holds = retire_step limit world view new upto answer follows does holds
  one_step limit world (with_signer view) gives_store follows does holds = store_given limit world view follows

  -- ---- calls one after the other

  -- What stays true in each call that lasts, and begins with an open signer.
  module _ (limit : ℕ) (Served : (first now : World) → S → Type 0)
      (goes : (first now : World) (old : S) (call : Call S) → Served first now old → IsLastingCall g limit now old call
      → Served first (after limit now call.event) call.store)
      (starts : (now : World) (view : View S R) → IsOpenSigner g view → IsAfter view now → Served now now view.store) where
    -- The world after these calls. Since a key was given, it is the key of some world that leads to this one.
    pub record Leads (world : World) (held : Holder S R) (calls : List (SignerCall S R)) : Type 0 where
      pub now : World
      pub follows : Follows g limit (last_holder held calls) now
      pub served : (first : World) → Served first world (store_held held) → Served first now (store_held (last_holder held calls))
      pub all : now.handed ≡ world.handed ++ handed_of calls
      pub keys : (public : AnyPublic) → GaveKey calls public
          → (anchor : World) × (public_of_world anchor ≡ Some public) × Served anchor now (store_held (last_holder held calls))

    -- the world after a call that gave a key
    anchored : (world left : World) (new : Holder S R) (view : View S R) (public : AnyPublic) → Follows g limit new left → new ≡ with_signer view
        → view.is_open ≡ true → public_of_key (the_key view.records) ≡ Some public
        → (public_of_world left ≡ Some public) × Served left left (store_held new)
    anchored world left new view public follows same opened keyed =
        let own : FollowsSigner g limit view left = subst (λ h. Follows g limit h left) same follows in (
          ap (λ (s : State). public_of_key (the_key s.records)) (own.leaves.state opened) ∙ keyed,
          subst (λ h. Served left left (store_held h)) (sym same)
              (starts left view (record { signer = own.is_signer; is_open = opened; honest = own.honest }) own.leaves),
        )

    pub all_calls : (world : World) (held : Holder S R) (calls : List (SignerCall S R)) → Follows g limit held world → AreCallsFrom g r held calls
        → Leads world held calls
    all_calls world held [] follows are = record {
      now = world;
      follows = follows;
      served = λ first was. was;
      all = sym (append-nil world.handed);
      keys = λ public never. absurd never;
    }
    all_calls world held (call ∷ calls) follows are =
        let step = one_step limit world held call follows are.0 are.1 in
        let left = after limit world step.event in
        let new = next_holder held call in
        let next = all_calls left new calls step.follows are.2 in
        record {
          now = next.now;
          follows = next.follows;
          served = λ first was. next.served first (goes first world (store_held held) (record { event = step.event; store = store_held new }) was step.lasting);
          all = next.all ∙ ap (λ l. l ++ handed_of calls) step.all ∙ append_assoc world.handed (handed_of_call call) (handed_of calls);
          keys = λ public gave. elim gave [
            | inl here ↦
                let (view, same, opened, keyed) = step.key public here in
                let (keyed_now, served) = anchored world left new view public step.follows same opened keyed in
                (left, keyed_now, next.served left served)
            | inr later ↦ next.keys public later
          ];
        }

-- ---- a call of sign

-- a request under a bound name reads its message
reads_given : (state : State) (key : Key) (k : ℕ) (bound : Bound) (chance : Chance) (given : Option (List ℕ))
    → (repeated state key k bound chance given).is_read ≡ true
reads_given state key k bound chance None = refl
reads_given state key k bound chance (Some text) = refl

module _ (limit : ℕ) (state : State) (key : Key) (name : List ℕ) (chance : Chance) (opened : state.is_open ≡ true) (keyed : the_key state.records ≡ Some key) where
  own_outcome : Outcome (List ℕ)
  own_outcome = requested_binding limit state key name chance (binding_at state.records name)

  by_moved : Bool → Outcome (List ℕ)
  by_moved moved = if moved then refused state MovedAway else own_outcome

  open_outcome : requested limit state name chance ≡ by_moved (has_moved state.records)
  unfolding by_moved own_outcome
  open_outcome = ap (requested_key limit state name chance) keyed
      ∙ ap (λ test. if not test then refused state Stopped else by_moved (has_moved state.records)) opened

  moved_refused : has_moved state.records ≡ true → (requested limit state name chance).answer ≡ Err MovedAway
  unfolding by_moved
  moved_refused moved = ap (λ (o : Outcome (List ℕ)). o.answer) (open_outcome ∙ ap by_moved moved)

  bound_reads : (k : ℕ) (bound : Bound) → has_moved state.records ≡ false → binding_at state.records name ≡ Some (k, bound)
      → (requested limit state name chance).is_read ≡ true
  unfolding by_moved own_outcome
  bound_reads k bound stays named =
      ap (λ (o : Outcome (List ℕ)). o.is_read) (open_outcome ∙ ap by_moved stays ∙ ap (requested_binding limit state key name chance) named)
      ∙ reads_given state key k bound chance chance.given

pub some_found : (found : Option (ℕ × Bound)) → IsSome found → (is : ℕ × Bound) × (found ≡ Some is)
some_found (Some found) some = (found, refl)
some_found None some = absurd (cc)

pub request_law : {S R M : Type 0} (g : store.Ghosts S) (r : source.Ghosts R) (m : message.Ghosts M) → RequestLaw g r m
request_law g r m old new name before later capacity answer does repeat =
    let chance = does.answers.chance in
    let outcome = does.answers.outcome in
    let limit = g.most old.store in
    let state = state_of old in
    let step : requested limit state name chance ≡ outcome = does.answers.step in
    let answered : (requested limit state name chance).answer ≡ answer = ap (λ (o : Outcome (List ℕ)). o.answer) step ∙ does.answers.ends.answer_is in
    let read_is : outcome.is_read ≡ (requested limit state name chance).is_read = ap (λ (o : Outcome (List ℕ)). o.is_read) (sym step) in
    record {
      given = chance.given;
      request = record { answers = does.answers; message = λ is. refl; repeat = repeat };
      gave = does.message;
      signed = λ signature is.
          let (some, read) = signed_read limit state name signature chance (answered ∙ is) in (some, read_is ∙ read);
      bound = λ some not_stopped not_moved.
          let (found, named) = some_found (binding_at old.records name) some in
          elim (cases_Bool old.is_open) [
            | inl opened ↦ elim (cases_Bool (has_moved old.records)) [
              | inl moved ↦ absurd (not_moved (sym answered ∙ moved_refused limit state does.answers.key name chance opened does.answers.keyed moved))
              | inr stays ↦ read_is ∙ bound_reads limit state does.answers.key name chance opened does.answers.keyed found.0 found.1 stays named
            ]
            | inr closed ↦ absurd (not_stopped (sym answered
                ∙ ap (λ (o : Outcome (List ℕ)). o.answer) (closed_key limit state name chance (the_key old.records) closed)))
          ];
    }
