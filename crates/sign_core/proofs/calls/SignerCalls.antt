-- A signer's calls over an honest store are calls of the world.
use Rattle.std.proofs.Common.{◌≡◌, ◌∙◌, refl, sym, ap, subst, ℕ, inl, inr, Bool, true, false, List, [], ◌∷◌, ◌++◌, length, take, Option, Some, None}
use Rattle.std.proofs.Common.{Result, Ok, Err, append-nil, arith, true≢false}
use Rattle.std.specs.Prelude.{IsSome, IsTrue, if◌then◌else◌, nat_le, nat_lt, not}
use Rattle.std.proofs.lemmas.Bool.{le-ltb}
use Rattle.std.proofs.lemmas.List.{take_all}
use Rattle.typecodes.specs.declared.message.Message as message
use Rattle.typecodes.specs.declared.spec.Spec.{Spec}
use Rattle.typecodes.specs.Message.{ReadWhole}
use Rattle.typecodes.specs.Name.{IsName}
use Rattle.typecodes.specs.Spec.{IsSpec}
use Rattle.state_file.specs.declared.refused.Refused.{Refused}
use Rattle.state_file.specs.declared.record.Key.{Key}
use Rattle.state_file.specs.declared.record.Record.{Record}
use Rattle.state_file.specs.declared.record.Record.TheVariants.{Key as KeyRecord}
use Rattle.state_file.specs.declared.record.Secret.{Secret}
use Rattle.state_file.specs.declared.store.Store as store
use Rattle.state_file.specs.Disk.{LeavesOnly}
use Rattle.state_file.proofs.Moments.{weaker}
use Rattle.sign_core.specs.declared.key.AnyPublic.{AnyPublic}
use Rattle.sign_core.specs.declared.fault.SignFault.{SignFault}
use Rattle.sign_core.specs.declared.fault.SignFault.TheVariants.{Changed, Damaged, DeviceFailed, Exhausted, Illegal, KeyThere, LedgerFull, MessageRead}
use Rattle.sign_core.specs.declared.fault.SignFault.TheVariants.{NoKey, NoMemoryToOpen, OutOfMemory, RandomFailed, RandomRepeated, RetireRange, LongName}
use Rattle.sign_core.specs.declared.fault.SignFault.TheVariants.{Stopped, StoreFailed, Unreadable}
use Rattle.sign_core.specs.declared.fault.SignFault.TheVariants.{Moved as MovedAway}
use Rattle.sign_core.specs.declared.source.Source as source
use Rattle.sign_core.specs.Calls.{IsLastingCall}
use Rattle.sign_core.specs.Events.{IsEvent}
use Rattle.sign_core.specs.Cuts.{IsBeginning, reached}
use Rattle.sign_core.specs.Records.{first_illegal, the_key}
use Rattle.sign_core.specs.Serving.{SignsGiven}
use Rattle.sign_core.specs.Signer.{Creates, IsAnswered, IsRead, IsSigner, LoadFails, OpensRecords, Retires, Signs, StopsOpening, View, is_before_draws, is_fault, is_of_append}
use Rattle.sign_core.specs.Signer.{state_of, store_of_result}
use Rattle.sign_core.specs.SignerCalls.{AreClosed, HandsOut, IsAfter, IsEventOf, IsOpenSigner, IsRefusedCall, IsRefusedOpening, IsRunning, OpensIn, OpensInWorld, RetiresInWorld, SignerLaw, SignsInWorld, world_of}
use Rattle.sign_core.specs.Textbook.{any_public_of}
use Rattle.sign_core.specs.World.{Chance, Creation, Event, Fate, Handed, Opening, Outcome, State, World, acked, after, appended, closed_state, create, created}
use Rattle.sign_core.proofs.steps.Cases.{begun}
use Rattle.sign_core.specs.World.{cut_new, cut_old, newly_handed, new_key, no_memory, opened, refused}
use Rattle.sign_core.proofs.steps.Cases.{created_load, opened_illegal, opened_key, published}
use Rattle.sign_core.specs.World.{reopen, request, requested, retire, retired, secret_of_fields}
use Rattle.sign_core.proofs.law.Acknowledged.{open_acknowledged}
use Rattle.sign_core.proofs.calls.AppendMoments.{LeavesItsList}
use Rattle.sign_core.proofs.calls.RunsOfCalls.{draws_of, opened_reaches}
use Rattle.sign_core.proofs.law.DrawsOfRequests.{signed_read}
use Rattle.sign_core.proofs.law.Once.{closed_retires, closed_key}
use Rattle.state_file.specs.declared.record.Version.{Version}

state_is : {S R : Type 0} (new : View S R) (state : State) → state.records ≡ new.records → state.is_open ≡ new.is_open → state ≡ state_of new
state_is new state records is_open = λ i. record { records = records i; is_open = is_open i }

-- an outcome's state and acknowledged records are the call's
is_after : {S R A : Type 0} (new : View S R) (left : World) (mine outcome : Outcome A) → mine ≡ outcome → left.state ≡ mine.state
    → (left.state.is_open ≡ true → mine.acknowledged ≡ left.state.records) → new.records ≡ outcome.acknowledged → new.is_open ≡ outcome.state.is_open
    → IsAfter new left
is_after new left mine outcome same state all records is_open =
    let open_is : left.state.is_open ≡ new.is_open = ap (λ (s : State). s.is_open) state ∙ ap (λ (o : Outcome _). o.state.is_open) same ∙ sym is_open in
    record {
      is_open = open_is;
      state = λ is. state_is new left.state
          (sym (all (open_is ∙ is)) ∙ ap (λ (o : Outcome _). o.acknowledged) same ∙ sym records) open_is;
    }

-- ---- what is handed out

text_read : {M : Type 0} (m : message.Ghosts M) (is_read : Bool) (given : Option (List ℕ)) (before later : M) → IsSome given → is_read ≡ true
    → IsRead m is_read given before later → (text : List ℕ) × (given ≡ Some text) × ReadWhole m.transition m.remaining text before later
text_read m true (Some text) before later some is read = (text, refl, read)
text_read m true None before later some is read = absurd (cc)
text_read m false given before later some is read = absurd (cc)

hands_out : {M : Type 0} (m : message.Ghosts M) (name : List ℕ) (given : Option (List ℕ)) (is_read : Bool) (before later : M)
    (answer : Result (List ℕ) SignFault) (handed : List Handed)
    → ((signature : List ℕ) → answer ≡ Ok signature → IsSome given × (is_read ≡ true)) → IsRead m is_read given before later
    → HandsOut m name before later answer handed (handed ++ newly_handed name given answer)
hands_out m name given is_read before later (Ok signature) handed reads read =
    let (some, is) = reads signature refl in
    let (text, same, whole) = text_read m is_read given before later some is read in
    (text, whole, ap (λ g. handed ++ newly_handed name g (Ok signature)) same)
hands_out m name None is_read before later (Err fault) handed reads read = append-nil handed
hands_out m name (Some text) is_read before later (Err fault) handed reads read = append-nil handed

none_read : (given : Option (List ℕ)) → given ≡ None → IsSome given → ⊥
none_read (Some text) is some = absurd (cc)
none_read None is some = absurd (cc)

-- On Ok of a request its signature is handed out, for the text that its message gave.
abbrev pub HandsGiven : (name : List ℕ) → (given : Option (List ℕ)) → Result (List ℕ) SignFault → List Handed → Type 0
HandsGiven name given (Ok signature) handed = (text : List ℕ) × (given ≡ Some text)
    × (handed ≡ record { name = name; message = text; signature = signature } ∷ [])
HandsGiven name given (Err fault) handed = handed ≡ []

hands_given : (name : List ℕ) (read given : Option (List ℕ)) (is_read : Bool) (answer : Result (List ℕ) SignFault) (handed : List Handed)
    → ((signature : List ℕ) → answer ≡ Ok signature → IsSome read × (is_read ≡ true)) → (is_read ≡ true → read ≡ given)
    → (own : List Handed) × HandsGiven name given answer own × (handed ++ newly_handed name read answer ≡ handed ++ own)
hands_given name (Some text) given is_read (Ok signature) handed reads same =
    let x : Handed = record { name = name; message = text; signature = signature } in
    (x ∷ [], (text, sym (same (reads signature refl).1), refl), refl)
hands_given name None given is_read (Ok signature) handed reads same = absurd (none_read None refl (reads signature refl).0)
hands_given name None given is_read (Err fault) handed reads same = ([], refl, refl)
hands_given name (Some text) given is_read (Err fault) handed reads same = ([], refl, refl)

-- a request of a serve, as this event
pub record RequestsInWorld {S R : Type 0} (g : store.Ghosts S) (handed : List Handed) (event : Event) (old new : View S R) (name : List ℕ)
    (given : Option (List ℕ)) (answer : Result (List ℕ) SignFault) : Type 0 where
  pub is : IsEventOf g (g.most old.store) (world_of (state_of old) handed) event old.store new.store
  pub leaves : IsAfter new (after (g.most old.store) (world_of (state_of old) handed) event)
  pub hands : (own : List Handed) × HandsGiven name given answer own
      × ((after (g.most old.store) (world_of (state_of old) handed) event).handed ≡ handed ++ own)

-- ---- each call

signs_in : {S R M : Type 0} (g : store.Ghosts S) (r : source.Ghosts R) (m : message.Ghosts M) (old new : View S R) (name : List ℕ) (before later : M)
    (capacity : ℕ) (answer : Result (List ℕ) SignFault) (handed : List Handed) → IsOpenSigner g old → IsName name
    → (signs : Signs g r m old new name before later capacity answer)
    → SignsInWorld g m handed (request name signs.answers.chance) old new name before later answer
signs_in g r m old new name before later capacity answer handed signer is_name signs =
    let limit = g.most old.store in
    let world = world_of (state_of old) handed in
    let event = request name signs.answers.chance in
    let mine = requested limit (state_of old) name signs.answers.chance in
    let moments = signs.answers.ends.store.moments signer.honest (signer.signer.tied signer.is_open).running in
    let leaves = subst (λ (o : Outcome (List ℕ)). LeavesOnly g.moment g.left_since old.store new.store (IsBeginning (length old.records) (reached o)))
    (sym signs.answers.step) moments in
    let answers : mine.answer ≡ answer =
    ap (λ (o : Outcome (List ℕ)). o.answer) signs.answers.step ∙ signs.answers.ends.answer_is in
    let out = hands_out m name signs.answers.chance.given mine.is_read before later mine.answer handed
    (λ signature is. signed_read limit (state_of old) name signature signs.answers.chance is)
    (subst (λ (o : Outcome (List ℕ)). IsRead m o.is_read signs.answers.chance.given before later)
    (sym signs.answers.step) signs.message) in
    record {
      is = record {
        is_call = record {
          possible = (is_name, draws_of signs.answers.key.secret signs.answers.chance signs.answers.possible);
          leaves = inl leaves;
        };
        honest = signs.answers.ends.store.honest;
      };
      leaves = is_after new (after limit world event) mine signs.answers.outcome signs.answers.step refl
          (open_acknowledged limit world event) signs.answers.ends.records signs.answers.ends.is_open;
      hands = subst (λ a. HandsOut m name before later a handed
          (handed ++ newly_handed name signs.answers.chance.given mine.answer)) answers out;
    }

retires_in : {S R : Type 0} (g : store.Ghosts S) (old new : View S R) (upto : ℕ) (answer : Result (Unit {0}) SignFault) (handed : List Handed)
    → IsOpenSigner g old → (retires : Retires g old new upto answer) → RetiresInWorld g handed (retire upto retires.fate) old new
retires_in g old new upto answer handed signer retires =
    let limit = g.most old.store in
    let world = world_of (state_of old) handed in
    let event = retire upto retires.fate in
    let mine = retired limit (state_of old) upto retires.fate in
    let moments = retires.ends.store.moments signer.honest (signer.signer.tied signer.is_open).running in
    let leaves = subst (λ (o : Outcome (Unit {0})). LeavesOnly g.moment g.left_since old.store new.store (IsBeginning (length old.records) (reached o)))
    (sym retires.step) moments in
    record {
      is = record { is_call = record { possible = tt; leaves = inl leaves }; honest = retires.ends.store.honest };
      leaves = is_after new (after limit world event) mine retires.outcome retires.step refl (open_acknowledged limit world event) retires.ends.records
          retires.ends.is_open;
      hands = refl;
    }

-- ---- a request whose message gave this

-- As `signs_in`, for a request of a serve.
pub answers_in : {S R : Type 0} (g : store.Ghosts S) (r : source.Ghosts R) (old new : View S R) (name : List ℕ) (given : Option (List ℕ)) (capacity : ℕ)
    (answer : Result (List ℕ) SignFault) (handed : List Handed) → IsOpenSigner g old → IsName name
    → (does : SignsGiven g r old new name given capacity answer) → RequestsInWorld g handed (request name does.answers.chance) old new name given answer
answers_in g r old new name given capacity answer handed signer is_name does =
    let limit = g.most old.store in
    let world = world_of (state_of old) handed in
    let event = request name does.answers.chance in
    let mine = requested limit (state_of old) name does.answers.chance in
    let moments = does.answers.ends.store.moments signer.honest (signer.signer.tied signer.is_open).running in
    let leaves = subst (λ (o : Outcome (List ℕ)). LeavesOnly g.moment g.left_since old.store new.store (IsBeginning (length old.records) (reached o)))
    (sym does.answers.step) moments in
    let answers : mine.answer ≡ answer =
    ap (λ (o : Outcome (List ℕ)). o.answer) does.answers.step ∙ does.answers.ends.answer_is in
    let out = hands_given name does.answers.chance.given given mine.is_read mine.answer handed
    (λ signature is. signed_read limit (state_of old) name signature does.answers.chance is)
    (λ is. does.message (sym (ap (λ (o : Outcome (List ℕ)). o.is_read) does.answers.step) ∙ is)) in
    record {
      is = record {
        is_call = record {
          possible = (is_name, draws_of does.answers.key.secret does.answers.chance does.answers.possible);
          leaves = inl leaves;
        };
        honest = does.answers.ends.store.honest;
      };
      leaves = is_after new (after limit world event) mine does.answers.outcome does.answers.step refl
          (open_acknowledged limit world event) does.answers.ends.records does.answers.ends.is_open;
      hands = subst (λ a. (own : List Handed) × HandsGiven name given a own × (handed ++ newly_handed name does.answers.chance.given mine.answer ≡ handed ++ own))
          answers out;
    }

-- ---- calls of a closed signer

nothing_handed : (handed : List Handed) (name : List ℕ) (given : Option (List ℕ)) (fault : SignFault)
    → handed ++ newly_handed name given (Err fault) ≡ handed
nothing_handed handed name None fault = append-nil handed
nothing_handed handed name (Some text) fault = append-nil handed

-- a request leaves a world in which no signer is open
request_stays : (limit : ℕ) (world : World) (name : List ℕ) (chance : Chance) → world.state.is_open ≡ false
    → after limit world (request name chance) ≡ world
request_stays limit world name chance closed =
    ap (λ (o : Outcome (List ℕ)). record { state = o.state; handed = world.handed ++ newly_handed name chance.given o.answer })
    (closed_key limit world.state name chance (the_key world.state.records) closed)
    ∙ ap (λ handed. record { state = world.state; handed = handed }) (nothing_handed world.handed name chance.given Stopped)

retire_stays : (limit : ℕ) (world : World) (upto : ℕ) (fate : Fate) → world.state.is_open ≡ false → after limit world (retire upto fate) ≡ world
retire_stays limit world upto fate closed =
    ap (λ (o : Outcome (Unit {0})). record { state = o.state; handed = world.handed })
    (closed_retires limit world.state upto fate (the_key world.state.records) closed)

refuses_in : {S R M : Type 0} (g : store.Ghosts S) (r : source.Ghosts R) (m : message.Ghosts M) (old new : View S R) (name : List ℕ) (before later : M)
    (capacity : ℕ) (answer : Result (List ℕ) SignFault) (world : World) → AreClosed old world → IsName name
    → (signs : Signs g r m old new name before later capacity answer)
    → IsRefusedCall g world (request name signs.answers.chance) old new answer
refuses_in g r m old new name before later capacity answer world closed is_name signs =
    let limit = g.most old.store in
    let is : refused (state_of old) Stopped ≡ signs.answers.outcome =
    sym (closed_key limit (state_of old) name signs.answers.chance (the_key old.records) closed.is_closed)
    ∙ signs.answers.step in
    let answer_is : answer ≡ Err Stopped =
    sym (ap (λ (o : Outcome (List ℕ)). o.answer) is ∙ signs.answers.ends.answer_is) in
    let keeps = signs.answers.keeps.at_once (ap (is_fault is_before_draws) answer_is) in
    record {
      answer_is = answer_is;
      is_open = keeps.is_open ∙ closed.is_closed;
      store = keeps.store;
      is_call = record {
        possible = (is_name, draws_of signs.answers.key.secret signs.answers.chance signs.answers.possible);
        leaves = inr keeps.store;
      };
      stays = request_stays limit world name signs.answers.chance closed.none_open;
    }

pub refuses_given : {S R : Type 0} (g : store.Ghosts S) (r : source.Ghosts R) (old new : View S R) (name : List ℕ) (given : Option (List ℕ)) (capacity : ℕ)
    (answer : Result (List ℕ) SignFault) (world : World) → AreClosed old world → IsName name
    → (does : SignsGiven g r old new name given capacity answer) → IsRefusedCall g world (request name does.answers.chance) old new answer
refuses_given g r old new name given capacity answer world closed is_name does =
    let limit = g.most old.store in
    let is : refused (state_of old) Stopped ≡ does.answers.outcome =
    sym (closed_key limit (state_of old) name does.answers.chance (the_key old.records) closed.is_closed)
    ∙ does.answers.step in
    let answer_is : answer ≡ Err Stopped =
    sym (ap (λ (o : Outcome (List ℕ)). o.answer) is ∙ does.answers.ends.answer_is) in
    let keeps = does.answers.keeps.at_once (ap (is_fault is_before_draws) answer_is) in
    record {
      answer_is = answer_is;
      is_open = keeps.is_open ∙ closed.is_closed;
      store = keeps.store;
      is_call = record {
        possible = (is_name, draws_of does.answers.key.secret does.answers.chance does.answers.possible);
        leaves = inr keeps.store;
      };
      stays = request_stays limit world name does.answers.chance closed.none_open;
    }

refuses_to_retire : {S R : Type 0} (g : store.Ghosts S) (old new : View S R) (upto : ℕ) (answer : Result (Unit {0}) SignFault) (world : World)
    → AreClosed old world → (retires : Retires g old new upto answer) → IsRefusedCall g world (retire upto retires.fate) old new answer
refuses_to_retire g old new upto answer world closed retires =
    let limit = g.most old.store in
    let is : refused (state_of old) Stopped ≡ retires.outcome =
    sym (closed_retires limit (state_of old) upto retires.fate (the_key old.records) closed.is_closed) ∙ retires.step in
    let answer_is : answer ≡ Err Stopped = sym (ap (λ (o : Outcome (Unit {0})). o.answer) is ∙ retires.ends.answer_is) in
    let records : new.records ≡ old.records = retires.ends.records ∙ sym (ap (λ (o : Outcome (Unit {0})). o.acknowledged) is) in
    let same : new ≡ old = retires.stays records (ap (is_fault is_of_append) answer_is) in
    let store : new.store ≡ old.store = ap (λ (v : View _ _). v.store) same in
    record {
      answer_is = answer_is;
      is_open = ap (λ (v : View _ _). v.is_open) same ∙ closed.is_closed;
      store = store;
      is_call = record { possible = tt; leaves = inr store };
      stays = retire_stays limit world upto retires.fate closed.none_open;
    }

-- ---- creates and openings

-- An outcome is open exactly if it answers Ok.
abbrev OpenBy : {A : Type 0} → Outcome A → Type 0
OpenBy outcome = ((a : _) → outcome.answer ≡ Ok a → outcome.state.is_open ≡ true)
    × ((fault : SignFault) → outcome.answer ≡ Err fault → outcome.state.is_open ≡ false)

open_refused : {A : Type 0} (records : List Record) (fault : SignFault) → OpenBy {A = A} (refused (closed_state records) fault)
open_refused records fault = (λ a is. absurd (cc), λ other is. refl)

open_published : (records : List Record) (public : Option AnyPublic) → OpenBy (published records public)
open_published records (Some public) = (λ a is. refl, λ fault is. absurd (cc))
open_published records None = open_refused records NoKey

open_choice : {A : Type 0} (test : Bool) (x y : Outcome A) → OpenBy x → OpenBy y → OpenBy (if test then x else y)
open_choice true x y first second = first
open_choice false x y first second = second

open_append : {A : Type 0} (records : List Record) (entry : Record) (fate : Fate) (next : List Record → Outcome A) → ((all : List Record) → OpenBy (next all))
    → OpenBy (appended (closed_state records) entry fate next)
open_append records entry acked next later = later (records ++ entry ∷ [])
open_append records entry cut_old next later = (λ a is. absurd (cc), λ other is. refl)
open_append records entry cut_new next later = (λ a is. absurd (cc), λ other is. refl)
open_append records entry no_memory next later = open_refused records OutOfMemory

open_begun : (records : List Record) (chance : Creation) (secret : Option Secret) → OpenBy (begun (closed_state records) chance secret)
open_begun records chance None = open_refused records RandomFailed
open_begun records chance (Some secret) = open_choice (not chance.has_room) _ _ (open_refused records OutOfMemory)
    (open_append records (KeyRecord (new_key chance.version secret)) chance.fate _ (λ all. open_published all (any_public_of (new_key chance.version secret))))

open_created : (failed : Option SignFault) (records : List Record) (spec : Spec) (chance : Creation) → OpenBy (created_load failed (closed_state records) spec chance)
open_created (Some fault) records spec chance = open_refused records fault
open_created None records spec chance = open_choice (nat_le 1 (length records)) _ _ (open_refused records KeyThere)
    (open_begun records chance (secret_of_fields spec chance.fields))

open_on_key : (records : List Record) (found : Option Key) → OpenBy (opened_key records found)
open_on_key records None = open_refused records NoKey
open_on_key records (Some key) = open_published records (any_public_of key)

open_opened : (records : List Record) (chance : Opening) (illegal : Option ℕ) → OpenBy (opened_illegal (closed_state records) chance illegal)
open_opened records None None = open_on_key records (the_key records)
open_opened records None (Some k) = open_refused records (Illegal k)
open_opened records (Some (slot, fault)) None = open_refused records fault
open_opened records (Some (slot, fault)) (Some k) = open_refused records (if nat_lt k slot then Illegal k else fault)

opened_keeps : (records : List Record) (chance : Opening) (illegal : Option ℕ) → (opened_illegal (closed_state records) chance illegal).state.records ≡ records
opened_keeps records None None = key_keeps (the_key records)
  where
    published_keeps : (public : Option AnyPublic) → (published records public).state.records ≡ records
    published_keeps (Some public) = refl
    published_keeps None = refl

    key_keeps : (found : Option Key) → (opened_key records found).state.records ≡ records
    key_keeps None = refl
    key_keeps (Some key) = published_keeps (any_public_of key)
opened_keeps records None (Some k) = refl
opened_keeps records (Some (slot, fault)) None = refl
opened_keeps records (Some (slot, fault)) (Some k) = refl

opens_in : {S R : Type 0} (g : store.Ghosts S) (result : Result (View S R) (Refused (S × R) SignFault)) (left : World) (mine outcome : Outcome AnyPublic)
    → mine ≡ outcome → left.state ≡ mine.state → OpenBy mine → (left.state.is_open ≡ true → mine.acknowledged ≡ left.state.records)
    → left.state.records ≡ g.list (store_of_result result) → IsAnswered result outcome → OpensIn g result left
opens_in g (Ok signer) left mine outcome same state opens all listed (public, answer, keyed, records, is_open) =
    let open_is : outcome.state.is_open ≡ true = subst (λ (o : Outcome AnyPublic). o.state.is_open ≡ true) same
    (opens.0 public (ap (λ (o : Outcome AnyPublic). o.answer) same ∙ answer)) in
    is_after signer left mine outcome same state all records (is_open ∙ sym open_is)
opens_in g (Err refused) left mine outcome same state opens all listed answer =
    let closed : left.state.is_open ≡ false =
    ap (λ (s : State). s.is_open) state ∙ opens.1 refused.fault (ap (λ (o : Outcome AnyPublic). o.answer) same ∙ answer) in
    λ i. record { records = listed i; is_open = closed i }

creates_in : {S R : Type 0} (g : store.Ghosts S) (r : source.Ghosts R) (version : Version) (spec : Spec) (kept_in : S) (random : R)
    (result : Result (View S R) (Refused (S × R) SignFault)) (handed : List Handed) → IsRunning g kept_in → IsSpec spec
    → (creates : Creates g r version spec kept_in random result) → OpensInWorld g (g.list kept_in) handed (create spec creates.chance) kept_in result
creates_in g r version spec kept_in random result handed is can creates =
    let limit = g.most kept_in in
    let list = g.list kept_in in
    let world = world_of (closed_state list) handed in
    let event = create spec creates.chance in
    let mine = created (closed_state list) spec creates.chance in
    let leaves = subst (λ (o : Outcome AnyPublic). LeavesOnly g.moment g.left_since kept_in (store_of_result result) (IsBeginning (length list) (reached o)))
    (sym creates.step) (creates.store.moments is.honest is.running) in
    record {
      is = record {
        honest = creates.store.honest;
        is_call = record {
          possible = (can, creates.possible);
          leaves = inl leaves;
        };
      };
      leaves = opens_in g result (after limit world event) mine creates.outcome creates.step refl
          (open_created creates.chance.failed_load list spec creates.chance) (open_acknowledged limit world event)
          (ap (λ (o : Outcome AnyPublic). o.state.records) creates.step ∙ creates.store.list.records ∙ sym creates.store.list.list) creates.answer;
      hands = refl;
    }

opens_again : {S R : Type 0} (g : store.Ghosts S) (kept_in : S) (random : R) (result : Result (View S R) (Refused (S × R) SignFault)) (handed : List Handed)
    → IsRunning g kept_in → (opens : OpensRecords g kept_in (store_of_result result) (IsAnswered result))
    → OpensInWorld g (g.list kept_in) handed (reopen opens.chance) kept_in result
opens_again g kept_in random result handed is loads =
    let limit = g.most kept_in in
    let list = g.list kept_in in
    let world = world_of (closed_state list) handed in
    let event = reopen loads.chance in
    let mine = opened (closed_state list) loads.chance in
    let same : mine ≡ loads.outcome = ap (λ l. opened (closed_state l) loads.chance) (sym (loads.same is.honest)) ∙ loads.step in
    let whole = opened_reaches (closed_state list) loads.chance (first_illegal list) in
    let leaves = weaker g.moment g.left_since kept_in (store_of_result result) (λ left. left ≡ list) (IsBeginning (length list) (reached mine))
    (λ left old. record { count = length list; enough = omega arith; beginning = old ∙ sym (ap (take (length list)) whole ∙ take_all (length list) list (omega arith)) })
    (loads.moments is.honest is.running) in
    record {
      is = record {
        honest = loads.honest;
        is_call = record {
          possible = tt;
          leaves = inl leaves;
        };
      };
      leaves = opens_in g result (after limit world event) mine loads.outcome same refl (open_opened list loads.chance (first_illegal list))
          (open_acknowledged limit world event) (opened_keeps list loads.chance (first_illegal list) ∙ sym loads.list) loads.answer;
      hands = refl;
    }

-- ---- creates and openings of a store that has stopped

-- what its load fails with
stopped_load : (failed : Option SignFault) (list : List Record) (stopped honest : Bool) → stopped ≡ true → LoadFails failed list stopped honest
    → failed ≡ Some Stopped
stopped_load None list stopped honest is fails = absurd (true≢false (sym is ∙ fails))
stopped_load (Some Stopped) list stopped honest is fails = refl
stopped_load (Some (Unreadable slot)) list stopped honest is fails = absurd (true≢false (sym is ∙ fails.0))
stopped_load (Some StoreFailed) list stopped honest is fails = absurd (true≢false (sym is ∙ fails))
stopped_load (Some OutOfMemory) list stopped honest is fails = absurd (true≢false (sym is ∙ fails))
stopped_load (Some Changed) list stopped honest is fails = absurd fails
stopped_load (Some Exhausted) list stopped honest is fails = absurd fails
stopped_load (Some RandomFailed) list stopped honest is fails = absurd fails
stopped_load (Some RandomRepeated) list stopped honest is fails = absurd fails
stopped_load (Some MessageRead) list stopped honest is fails = absurd fails
stopped_load (Some (Damaged k)) list stopped honest is fails = absurd fails
stopped_load (Some LedgerFull) list stopped honest is fails = absurd fails
stopped_load (Some MovedAway) list stopped honest is fails = absurd fails
stopped_load (Some RetireRange) list stopped honest is fails = absurd fails
stopped_load (Some LongName) list stopped honest is fails = absurd fails
stopped_load (Some NoKey) list stopped honest is fails = absurd fails
stopped_load (Some (Illegal k)) list stopped honest is fails = absurd fails
stopped_load (Some DeviceFailed) list stopped honest is fails = absurd fails
stopped_load (Some NoMemoryToOpen) list stopped honest is fails = absurd fails
stopped_load (Some KeyThere) list stopped honest is fails = absurd fails

stopped_opening : (chance : Opening) (list : List Record) (stopped honest : Bool) → stopped ≡ true → StopsOpening chance list stopped honest
    → chance ≡ Some (0, Stopped)
stopped_opening None list stopped honest is stops = absurd (true≢false (sym is ∙ stops))
stopped_opening (Some (slot, Stopped)) list stopped honest is stops = ap (λ n. Some (n, Stopped)) stops.1
stopped_opening (Some (slot, Unreadable k)) list stopped honest is stops = absurd (true≢false (sym is ∙ stops.0))
stopped_opening (Some (slot, DeviceFailed)) list stopped honest is stops = absurd (true≢false (sym is ∙ stops.0))
stopped_opening (Some (slot, NoMemoryToOpen)) list stopped honest is stops = absurd (true≢false (sym is ∙ stops.0))
stopped_opening (Some (slot, Changed)) list stopped honest is stops = absurd stops
stopped_opening (Some (slot, Exhausted)) list stopped honest is stops = absurd stops
stopped_opening (Some (slot, RandomFailed)) list stopped honest is stops = absurd stops
stopped_opening (Some (slot, RandomRepeated)) list stopped honest is stops = absurd stops
stopped_opening (Some (slot, MessageRead)) list stopped honest is stops = absurd stops
stopped_opening (Some (slot, Damaged k)) list stopped honest is stops = absurd stops
stopped_opening (Some (slot, LedgerFull)) list stopped honest is stops = absurd stops
stopped_opening (Some (slot, MovedAway)) list stopped honest is stops = absurd stops
stopped_opening (Some (slot, RetireRange)) list stopped honest is stops = absurd stops
stopped_opening (Some (slot, LongName)) list stopped honest is stops = absurd stops
stopped_opening (Some (slot, NoKey)) list stopped honest is stops = absurd stops
stopped_opening (Some (slot, Illegal k)) list stopped honest is stops = absurd stops
stopped_opening (Some (slot, StoreFailed)) list stopped honest is stops = absurd stops
stopped_opening (Some (slot, OutOfMemory)) list stopped honest is stops = absurd stops
stopped_opening (Some (slot, KeyThere)) list stopped honest is stops = absurd stops

-- an opening that is stopped at record 0
opened_none : (state : State) (illegal : Option ℕ) → opened_illegal state (Some (0, Stopped)) illegal ≡ refused state Stopped
opened_none state None = refl
opened_none state (Some k) =
    ap (λ (b : Bool). refused {A = AnyPublic} state (if b then Illegal k else Stopped)) (le-ltb k 0 (omega arith))

-- what is answered, where the outcome is 26
answered_stopped : {S R : Type 0} (result : Result (View S R) (Refused (S × R) SignFault)) (outcome : Outcome AnyPublic) → outcome.answer ≡ Err Stopped
    → IsAnswered result outcome → (refused : Refused (S × R) SignFault) × (result ≡ Err refused) × (refused.fault ≡ Stopped)
answered_stopped (Ok signer) outcome is answered = absurd (let same = sym is ∙ answered.1 in cc (same))
answered_stopped (Err given) outcome is answer = let same = sym answer ∙ is in (given, refl, cc (same))

refused_opening : {S R : Type 0} (g : store.Ghosts S) (world : World) (event : Event) (kept_in : S)
    (result : Result (View S R) (Refused (S × R) SignFault)) (outcome : Outcome AnyPublic) → IsEvent event → outcome.answer ≡ Err Stopped
    → IsAnswered result outcome → store_of_result result ≡ kept_in → after (g.most kept_in) world event ≡ world
    → IsRefusedOpening g world event kept_in result
refused_opening g world event kept_in result outcome can is answer same stays =
    let (given, result_is, fault) = answered_stopped result outcome is answer in
    let store : given.given.0 ≡ kept_in = sym (ap store_of_result result_is) ∙ same in
    record {
      refused = given;
      result_is = result_is;
      fault = fault;
      store = store;
      is_call = record { possible = can; leaves = inr store };
      stays = stays;
    }

refuses_to_create : {S R : Type 0} (g : store.Ghosts S) (r : source.Ghosts R) (version : Version) (spec : Spec) (kept_in : S) (random : R)
    (result : Result (View S R) (Refused (S × R) SignFault)) (world : World) → g.stopped kept_in ≡ true → IsSpec spec
    → (creates : Creates g r version spec kept_in random result) → IsRefusedOpening g world (create spec creates.chance) kept_in result
refuses_to_create g r version spec kept_in random result world stopped can creates =
    let chance = creates.chance in
    let failed = stopped_load chance.failed_load (g.list kept_in) (g.stopped kept_in) (g.honest kept_in) stopped creates.load in
    let at = λ (state : State). ap (λ f. created_load f state spec chance) failed in
    refused_opening g world (create spec chance) kept_in result creates.outcome
    (can, creates.possible)
    (sym (ap (λ (o : Outcome AnyPublic). o.answer) creates.step) ∙ ap (λ (o : Outcome AnyPublic). o.answer) (at (closed_state (g.list kept_in))))
    creates.answer (creates.stays stopped)
    (ap (λ (o : Outcome AnyPublic). record { state = o.state; handed = world.handed }) (at world.state))

refuses_to_open : {S R : Type 0} (g : store.Ghosts S) (kept_in : S) (random : R) (result : Result (View S R) (Refused (S × R) SignFault)) (world : World)
    → g.stopped kept_in ≡ true → (opens : OpensRecords g kept_in (store_of_result result) (IsAnswered result))
    → IsRefusedOpening g world (reopen opens.chance) kept_in result
refuses_to_open g kept_in random result world stopped loads =
    let chance = loads.chance in
    let first = stopped_opening chance (g.list kept_in) (g.stopped kept_in) (g.honest kept_in) stopped loads.load in
    let at = λ (state : State). ap (opened state) first ∙ opened_none state (first_illegal state.records) in
    refused_opening g world (reopen chance) kept_in result loads.outcome
    tt
    (sym (ap (λ (o : Outcome AnyPublic). o.answer) loads.step) ∙ ap (λ (o : Outcome AnyPublic). o.answer) (at (closed_state loads.records)))
    loads.answer (loads.stays stopped)
    (ap (λ (o : Outcome AnyPublic). record { state = o.state; handed = world.handed }) (at world.state))

-- ---- calls that last

-- a crash leaves a running store's list, and nothing else
abbrev pub NothingElse : {S : Type 0} → store.Ghosts S → Type 0
NothingElse {S = S} g = (kept_in : S) → LeavesItsList g kept_in

open_lasts : {S R : Type 0} (g : store.Ghosts S) (limit : ℕ) (world : World) (event : Event) (old : S) (new : View S R) → NothingElse g
    → IsEventOf g limit world event old new.store → IsTrue (g.honest old) → IsSigner g new → IsAfter new (after limit world event)
    → IsLastingCall g limit world old (record { event = event; store = new.store })
open_lasts g limit world event old new nothing_else is honest signer leaves = record {
  is_call = is.is_call;
  honest = is.honest;
  lasts = λ opens left since.
      let open_now : new.is_open ≡ true = sym leaves.is_open ∙ opens in
      let tied = signer.tied open_now in
      let own : IsTrue (g.honest new.store) = subst IsTrue (sym is.honest) honest in
      nothing_else new.store left own tied.running since ∙ tied.same own ∙ sym (ap (λ (s : State). s.records) (leaves.state open_now));
}

closed_lasts : {S : Type 0} (g : store.Ghosts S) (limit : ℕ) (world : World) (event : Event) (old new : S) → IsEventOf g limit world event old new
    → (after limit world event).state.is_open ≡ false → IsLastingCall g limit world old (record { event = event; store = new })
closed_lasts g limit world event old new is closed = record {
  is_call = is.is_call;
  honest = is.honest;
  lasts = λ opens left since. absurd (true≢false (sym opens ∙ closed));
}

pub signer_law : {S R M : Type 0} (g : store.Ghosts S) (r : source.Ghosts R) (m : message.Ghosts M) → NothingElse g → SignerLaw g r m
signer_law g r m nothing_else = record {
  signs = signs_in g r m;
  retires = retires_in g;
  refuses = refuses_in g r m;
  refuses_retiring = refuses_to_retire g;
  creates = creates_in g r;
  opens = opens_again g;
  refuses_creating = refuses_to_create g r;
  refuses_opening = refuses_to_open g;
  settled = λ view left signer is.
      let tied = signer.signer.tied signer.is_open in
      nothing_else view.store left signer.honest tied.running is ∙ tied.same signer.honest;
  running = λ kept_in left stands is. nothing_else kept_in left stands.honest stands.running is;
  lasts = λ limit world event old new is honest signer leaves. open_lasts g limit world event old new nothing_else is honest signer leaves;
  lasts_closed = closed_lasts g;
}
