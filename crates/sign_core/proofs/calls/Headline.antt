-- The headline of the calls that were made.
use Rattle.std.proofs.Common.{◌≡◌, ◌∙◌, refl, sym, ap, subst, ℕ, ◌⊎◌, inl, inr, Bool, true, false, List, [], ◌∷◌, ◌++◌, Result, Ok, Err}
use Rattle.std.proofs.Common.{append_assoc, append-nil, true≢false, Option, Some, None, Contains}
use Rattle.std.specs.Prelude.{IsTrue, slice_get, if◌then◌else◌, ◌&&◌}
use Rattle.std.specs.Cmp.Lexicographic.{bytes_decides}
use Rattle.std.proofs.lemmas.Bool.{cases_Bool}
use Rattle.std.proofs.lemmas.Option.{none-some, same_Some}
use Rattle.typecodes.specs.declared.message.Message as message
use Rattle.typecodes.specs.Name.{IsName}
use Rattle.state_file.specs.declared.disk.Disk as disk
use Rattle.state_file.specs.declared.record.Bound.{Bound}
use Rattle.state_file.specs.declared.record.Key.{Key}
use Rattle.state_file.specs.declared.record.Record.{Record}
use Rattle.state_file.specs.declared.record.Record.TheVariants.{Bound as BoundRecord, Extend as ExtendRecord, Key as KeyRecord, Moved as MovedRecord, Retire}
use Rattle.state_file.specs.declared.store.Store as store
use Rattle.state_file.specs.declared.store.file_store.FileStore.{FileStore}
use Rattle.state_file.specs.Disk.{MayLeave}
use Rattle.state_file.specs.declared.migration.MigrateFault.{MigrateFault}
use Rattle.state_file.specs.Carried.{carried}
use Rattle.state_file.specs.File.{HasNoKey, SpellsRecords, StandsFor}
use Rattle.state_file.specs.FileStore.{FindsRecords, PreparesDisk, disk_of, disk_of_result, records_of}
use Rattle.state_file.specs.inner.FileStore.{stands_one, synced_left}
use Rattle.state_file.proofs.Adding.{prepared_no_key}
use Rattle.sign_core.specs.declared.fault.SignFault.{SignFault}
use Rattle.sign_core.specs.declared.fault.SignFault.TheVariants.{Changed, MessageRead, OutOfMemory, Stopped}
use Rattle.sign_core.specs.declared.fault.SignFault.TheVariants.{Moved as MovedAway}
use Rattle.sign_core.specs.declared.key.AnyPublic.{AnyPublic}
use Rattle.sign_core.specs.declared.source.Source as source
use Rattle.sign_core.specs.Calls.{IsRun}
use Rattle.sign_core.specs.Headline.{IsBoundTo, IsLast, IsRecorded, IsValidUnder, LeafUse, MakesUses, SignsOnce, WasHanded, public_of_world}
use Rattle.sign_core.specs.BoundNames.{AnswersBound, AnswersBoundText, BoundInCalls, BoundInMoved, BoundInSession, IsBoundText, KeepsNames}
use Rattle.sign_core.specs.HeadlineOfCalls.{AnswersAgain, AnswersText, AreSignedOnce, HeadlineOfCalls, HeadlineOfMoved, IsHanded, IsSafe, SessionLaw}
use Rattle.sign_core.specs.Lasting.{lasting}
use Rattle.sign_core.specs.Lives.{CanMigrate, IsAtStart, IsLeftByRun, IsStoreOn, IsTriedOn, world_found}
use Rattle.sign_core.specs.Migration.{Migrates}
use Rattle.sign_core.specs.OldFile.{SpellsMovable}
use Rattle.sign_core.specs.Once.{IsOnce}
use Rattle.sign_core.specs.Records.{are_same, binding_at, can_move, deepest, has_moved, the_key}
use Rattle.sign_core.specs.Serving.{SignsGiven}
use Rattle.sign_core.specs.Sessions.{AreCallsFrom, AreDiskLives, BeginsLife, DiskLife, GaveKey, History, Holder, IsDiskLife, IsHistory, IsLeftByMove, MeetsContract}
use Rattle.sign_core.specs.Sessions.{SignerCall, contents_moved, finds, handed_of, history_calls, next_holder, last_holder, holder_now, life_calls}
use Rattle.sign_core.specs.Sessions.{IsMovedHistory, MovedHistory, moved_handed}
use Rattle.sign_core.specs.Sessions.{life_contents, lives_calls, lives_contents, moves, prepares, serves, signs, store_held, with_signer, without_signer}
use Rattle.sign_core.specs.Signer.{AnswersRequest, LacksMemory, View, state_of}
use Rattle.sign_core.proofs.calls.SignerCalls.{refuses_given}
use Rattle.sign_core.specs.SignerCalls.{IsAfter, IsOpenSigner, IsRunning, SignerLaw, world_of}
use Rattle.sign_core.proofs.law.LeafUses.{last_digest}
use Rattle.sign_core.specs.Textbook.{AllHaveSizes, AreSound, any_public_of, digest_at, public_of_key, textbook_signature}
use Rattle.sign_core.specs.World.{Chance, Event, Handed, Migration, Outcome, State, World, after, answered, beginning, carried_over, closed_state, left_alone}
use Rattle.sign_core.specs.World.{migrate, migrated_list, refused, requested, sealed}
use Rattle.sign_core.proofs.records.CanFollow.{key_first}
use Rattle.sign_core.proofs.records.Parts.{migrated_key}
use Rattle.sign_core.proofs.law.Lasting.{lasting_law}
use Rattle.sign_core.proofs.calls.Lives.{HasServed, IsTiedToDisk, KeepsTime, finds as found_records, has_first, in_call, longer, no_run, not_longer, one_call, one_event, one_left, by_stop}
use Rattle.sign_core.proofs.calls.Lives.{run_once, runs_on, served_first, spelled_stands}
use Rattle.sign_core.proofs.moves.Moves.{can_migrate}
use Rattle.sign_core.proofs.calls.Sessions.{Follows, FollowsSigner, FollowsStore, Leads, all_calls, gave_append, handed_append, one_step, some_found}

-- ---- the public key stays

abbrev public_in : List Record → Option AnyPublic
public_in records = public_of_key (the_key records)

first_carried : (records more : List Record) (public : AnyPublic) → public_in records ≡ Some public → public_in (lasting records ++ more) ≡ Some public
first_carried [] more public is = absurd (none-some public is)
first_carried (KeyRecord key ∷ rest) more public is = is
first_carried (ExtendRecord extend ∷ rest) more public is = absurd (none-some public is)
first_carried (BoundRecord bound ∷ rest) more public is = absurd (none-some public is)
first_carried (Retire upto ∷ rest) more public is = absurd (none-some public is)
first_carried (MovedRecord ∷ rest) more public is = absurd (none-some public is)

carried_first : (records : List Record) (key : Key) (public : AnyPublic) → slice_get records 0 ≡ Some (KeyRecord key)
    → public_in (lasting records) ≡ Some public → public_in records ≡ Some public
carried_first [] key public first is = absurd (none-some (KeyRecord key) first)
carried_first (KeyRecord own ∷ rest) key public first is = is
carried_first (ExtendRecord extend ∷ rest) key public first is = absurd (none-some public is)
carried_first (BoundRecord bound ∷ rest) key public first is = absurd (none-some public is)
carried_first (Retire upto ∷ rest) key public first is = absurd (none-some public is)
carried_first (MovedRecord ∷ rest) key public first is = absurd (let same = same_Some MovedRecord (KeyRecord key) first in cc (same))

pub public_stays : (limit : ℕ) (first later : World) → IsRun limit first later → IsOnce limit later → (public : AnyPublic)
    → public_of_world first ≡ Some public → public_of_world later ≡ Some public
public_stays limit first later by once public is =
    let carried = lasting_law.carries limit first by.events in
    let there : public_in (lasting later.state.records) ≡ Some public = ap (λ (w : World). public_in (lasting w.state.records)) (sym by.leads)
    ∙ ap public_in carried.records_are ∙ first_carried first.state.records carried.records public is in
    elim once.openings.sound [
      | inl none ↦ absurd (none-some public (sym (ap (λ l. public_in (lasting l)) none) ∙ there))
      | inr sound ↦ carried_first later.state.records sound.legal.key public sound.legal.first there
    ]

-- ---- from the world to what was handed out

signed_once : (world : World) (public : AnyPublic) → SignsOnce world → public_of_world world ≡ Some public → AreSignedOnce public world.handed
signed_once world public once keyed =
    let was : (x : Handed) (uses : List LeafUse) → IsHanded public world.handed x uses → WasHanded world x uses =
    λ x uses is. record { public = public; keyed = keyed; handed = is.handed; makes = is.makes } in
    record {
      one_digest = λ x y uses others u v first second. once.one_digest x y uses others u v (was x uses first) (was y others second);
      one_name = λ x y uses others u v first second. once.one_name x y uses others u v (was x uses first) (was y others second);
      one_signature = once.one_signature;
      valid = λ x there.
          let (own, own_keyed, valid) = once.valid x there in
          subst (λ p. IsValidUnder p x.message x.signature) (same_Some own public (sym own_keyed ∙ keyed)) valid;
    }

-- ---- a bound name

refused_answer : (limit : ℕ) (state : State) (name : List ℕ) (chance : Chance) (outcome : Outcome (List ℕ)) (answer : Result (List ℕ) SignFault)
    (other : Outcome (List ℕ)) → requested limit state name chance ≡ outcome → outcome.answer ≡ answer
    → requested limit state name chance ≡ other → answer ≡ other.answer
refused_answer limit state name chance outcome answer other step answers is =
    sym answers ∙ ap (λ (o : Outcome (List ℕ)). o.answer) (sym step ∙ is)

-- a request reads its message, and this is its answer
abbrev ReadsAndAnswers : (limit : ℕ) → World → (name signature : List ℕ) → Chance → (given : Option (List ℕ)) → Type 0
ReadsAndAnswers limit world name signature chance given = ((requested limit world.state name chance).is_read ≡ true)
    × AnswersBoundText world.state.records name signature given (requested limit world.state name chance).answer

by_room : (state : State) (signature : List ℕ) (room : Bool)
    → ((if room then answered state signature else refused state OutOfMemory).answer ≡ Ok signature)
    ⊎ ((if room then answered state signature else refused state OutOfMemory).answer ≡ Err OutOfMemory)
by_room state signature true = inl refl
by_room state signature false = inr refl

-- where the records bind a text's digest, they bind it by the name's binding
bound_digest : (records : List Record) (key : Key) (name text : List ℕ) (k : ℕ) (bound : Bound) → the_key records ≡ Some key
    → binding_at records name ≡ Some (k, bound) → IsBoundText records name text
    → digest_at key records k bound.leaf bound.randomizer text ≡ bound.digest
bound_digest records key name text k bound keyed named (other_key, j, other, is) =
    let same_key : other_key ≡ key = same_Some other_key key (sym is.keyed ∙ keyed) in
    let same : ◌≡◌ {A = ℕ × Bound} (j, other) (k, bound) = same_Some (j, other) (k, bound) (sym is.named ∙ named) in
    subst (λ own. digest_at own records k bound.leaf bound.randomizer text ≡ bound.digest) same_key
    (subst (λ (p : ℕ × Bound). digest_at other_key records p.0 p.1.leaf p.1.randomizer text ≡ p.1.digest) same is.digest)

not_bound : (records : List Record) (key : Key) (name text : List ℕ) (k : ℕ) (bound : Bound) → the_key records ≡ Some key
    → binding_at records name ≡ Some (k, bound) → (digest_at key records k bound.leaf bound.randomizer text ≡ bound.digest → ⊥)
    → IsBoundText records name text → ⊥
not_bound records key name text k bound keyed named differs is = differs (bound_digest records key name text k bound keyed named is)

-- what the records say of a text, by the digests that the signature's bottom leaf signs
by_digests : (records : List Record) (key : Key) (x : Handed) (k : ℕ) (bound : Bound) (public : AnyPublic) (given : Option (List ℕ))
    (answer : Result (List ℕ) SignFault) → AreSound records → AllHaveSizes records → IsBoundTo records key x.name x.message k bound
    → x.signature ≡ textbook_signature key records k bound → any_public_of key ≡ Some public
    → AnswersBoundText records x.name x.signature given answer → AnswersText public x given answer
by_digests records key x k bound public None answer sound sizes is signature is_public answers = answers
by_digests records key x k bound public (Some text) answer sound sizes is signature is_public answers =
    let signed : List ℕ → List ℕ = λ other. digest_at key records k bound.leaf bound.randomizer other in
    let last : (other : List ℕ) (uses : List LeafUse) (u : LeafUse) → MakesUses public other x.signature uses → IsLast u uses → u.digest ≡ signed other =
    λ other uses u makes.
    last_digest records key x.name x.message other k bound public uses u sound sizes is is_public
    (subst (λ bytes. MakesUses public other bytes uses) signature makes) in
    elim answers [
      | inl (is_text, gets) ↦ inl (
        λ uses others u v makes makes_other last_u last_v.
            last x.message uses u makes last_u ∙ is.digest
            ∙ sym (last text others v makes_other last_v ∙ bound_digest records key x.name text k bound is.keyed is.named is_text),
        gets,
      )
      | inr (differs, gets) ↦ inr (
        λ uses others u v makes makes_other last_u last_v same. differs (
          key,
          k,
          bound,
          record {
            keyed = is.keyed;
            named = is.named;
            digest = sym (last text others v makes_other last_v) ∙ sym same ∙ last x.message uses u makes last_u ∙ is.digest;
          },
        ),
        gets,
      )
    ]

answers_read : (world : World) (limit : ℕ) (key : Key) (k : ℕ) (bound : Bound) (name : List ℕ) (chance : Chance) (given : Option (List ℕ))
    → IsOnce limit world
    → world.state.is_open ≡ true → has_moved world.state.records ≡ false → the_key world.state.records ≡ Some key
    → binding_at world.state.records name ≡ Some (k, bound) → chance.given ≡ given
    → ReadsAndAnswers limit world name (textbook_signature key world.state.records k bound) chance given
answers_read world limit key k bound name chance None once opened stays keyed named given =
    let unread = once.requests.unread key k bound name chance opened stays keyed named given in
    (ap (λ (o : Outcome (List ℕ)). o.is_read) unread, ap (λ (o : Outcome (List ℕ)). o.answer) unread)
answers_read world limit key k bound name chance (Some text) once opened stays keyed named given =
    let records = world.state.records in
    let digest = digest_at key records k bound.leaf bound.randomizer text in
    elim (cases_Bool (are_same digest bound.digest)) [
      | inl same ↦
          let is : IsBoundTo records key name text k bound = record { keyed = keyed; named = named; digest = (bytes_decides digest bound.digest).0 same } in
          let outcome = once.requests.repeated key k bound name text chance opened stays given is in (
            ap (λ (o : Outcome (List ℕ)). o.is_read) outcome,
            inl (
              (key, k, bound, is),
              subst (λ a. (a ≡ Ok (textbook_signature key records k bound)) ⊎ (a ≡ Err OutOfMemory))
                  (sym (ap (λ (o : Outcome (List ℕ)). o.answer) outcome)) (by_room world.state (textbook_signature key records k bound) chance.has_room),
            ),
          )
      | inr other ↦
          let differs : digest ≡ bound.digest → ⊥ = λ same. true≢false (sym ((bytes_decides digest bound.digest).1 same) ∙ other) in
          let outcome = once.requests.changed key k bound name text chance opened stays keyed named given differs in (
            ap (λ (o : Outcome (List ℕ)). o.is_read) outcome,
            inr (not_bound records key name text k bound keyed named differs, ap (λ (o : Outcome (List ℕ)). o.answer) outcome),
          )
    ]

-- where memory is granted, 29 doesn't come
no_refusal : (world : World) (limit : ℕ) (key : Key) (k : ℕ) (bound : Bound) (name : List ℕ) (chance : Chance) (given : Option (List ℕ)) → IsOnce limit world
    → world.state.is_open ≡ true → has_moved world.state.records ≡ false → the_key world.state.records ≡ Some key
    → binding_at world.state.records name ≡ Some (k, bound) → chance.given ≡ given → chance.has_room ≡ true
    → (requested limit world.state name chance).answer ≡ Err OutOfMemory → ⊥
no_refusal world limit key k bound name chance None once opened stays keyed named given room is =
    let unread : Err MessageRead ≡ Err OutOfMemory =
    sym (ap (λ (o : Outcome (List ℕ)). o.answer) (once.requests.unread key k bound name chance opened stays keyed named given)) ∙ is in
    cc (unread)
no_refusal world limit key k bound name chance (Some text) once opened stays keyed named given room is =
    let records = world.state.records in
    let signature = textbook_signature key records k bound in
    let digest = digest_at key records k bound.leaf bound.randomizer text in
    elim (cases_Bool (are_same digest bound.digest)) [
      | inl same ↦
          let bound_to : IsBoundTo records key name text k bound = record { keyed = keyed; named = named; digest = (bytes_decides digest bound.digest).0 same } in
          let outcome = once.requests.repeated key k bound name text chance opened stays given bound_to in
          let granted : Ok signature ≡ Err OutOfMemory =
          sym (ap (λ (o : Outcome (List ℕ)). o.answer) outcome
          ∙ ap (λ granted. (if granted then answered world.state signature else refused world.state OutOfMemory).answer) room) ∙ is in
          cc (granted)
      | inr other ↦
          let differs : digest ≡ bound.digest → ⊥ = λ same. true≢false (sym ((bytes_decides digest bound.digest).1 same) ∙ other) in
          let changed : Err Changed ≡ Err OutOfMemory =
          sym (ap (λ (o : Outcome (List ℕ)). o.answer) (once.requests.changed key k bound name text chance opened stays keyed named given differs)) ∙ is in
          cc (changed)
    ]

-- the headline, and what bound names get
pub record Holds {S R : Type 0} (g : store.Ghosts S) (r : source.Ghosts R) (held : Holder S R) (Gave : AnyPublic → Type 0) (handed : List Handed)
    : Type 0 where
  pub safe : IsSafe g r held Gave handed
  pub names : KeepsNames g r held handed

module _ {S R : Type 0} (g : store.Ghosts S) (r : source.Ghosts R) (limit : ℕ) where
  -- ---- the next request

  -- a closed signer refuses
  closed_answers : (now : World) (old new : View S R) (name : List ℕ) (given : Option (List ℕ)) (capacity : ℕ) (answer : Result (List ℕ) SignFault)
      → FollowsSigner g limit old now → IsName name → SignsGiven g r old new name given capacity answer → old.is_open ≡ false → answer ≡ Err Stopped
  closed_answers now old new name given capacity answer follows named does closed =
      (refuses_given g r old new name given capacity answer now (record { is_closed = closed; none_open = follows.leaves.is_open ∙ closed }) named does).answer_is

  -- an open one answers as the world does
  open_answers : (now : World) (old new : View S R) (name : List ℕ) (given : Option (List ℕ)) (capacity : ℕ) (answer : Result (List ℕ) SignFault)
      (key : Key) (k : ℕ) (bound : Bound) → FollowsSigner g limit old now → IsOnce limit now → SignsGiven g r old new name given capacity answer
      → old.is_open ≡ true → the_key old.records ≡ Some key → binding_at old.records name ≡ Some (k, bound) → has_moved old.records ≡ false
      → AnswersBoundText old.records name (textbook_signature key old.records k bound) given answer
  open_answers now old new name given capacity answer key k bound follows once_now does opened keyed named stays =
      let world : World = world_of (state_of old) now.handed in
      let once : IsOnce limit world = subst (λ s. IsOnce limit (world_of s now.handed)) (follows.leaves.state opened) once_now in
      let chance = does.answers.chance in
      let outcome = does.answers.outcome in
      let signature = textbook_signature key old.records k bound in
      let step : requested limit (state_of old) name chance ≡ outcome =
      subst (λ l. requested l (state_of old) name chance ≡ outcome) follows.most does.answers.step in
      let (is_read, gives) = answers_read world limit key k bound name chance chance.given once opened stays keyed named refl in
      let is : outcome.is_read ≡ true = sym (ap (λ (o : Outcome (List ℕ)). o.is_read) step) ∙ is_read in
      subst (λ u. AnswersBoundText old.records name signature u answer) (does.message is)
      (subst (λ a. AnswersBoundText old.records name signature chance.given a) (ap (λ (o : Outcome (List ℕ)). o.answer) step ∙ does.answers.ends.answer_is) gives)

  moved_answers : (now : World) (old new : View S R) (name : List ℕ) (capacity : ℕ) (answer : Result (List ℕ) SignFault) (key : Key)
      → FollowsSigner g limit old now → IsOnce limit now → (answers : AnswersRequest g r old new name capacity answer) → old.is_open ≡ true
      → the_key old.records ≡ Some key → has_moved old.records ≡ true → answer ≡ Err MovedAway
  moved_answers now old new name capacity answer key follows once_now answers opened keyed moved =
      let world : World = world_of (state_of old) now.handed in
      let once : IsOnce limit world = subst (λ s. IsOnce limit (world_of s now.handed)) (follows.leaves.state opened) once_now in
      let chance = answers.chance in
      let step : requested limit (state_of old) name chance ≡ answers.outcome =
      subst (λ l. requested l (state_of old) name chance ≡ answers.outcome) follows.most answers.step in
      refused_answer limit (state_of old) name chance answers.outcome answer (refused (state_of old) MovedAway) step
      answers.ends.answer_is (once.requests.moved key name chance opened moved keyed)

  bound_answers : (now : World) (old new : View S R) (name : List ℕ) (given : Option (List ℕ)) (capacity : ℕ) (answer : Result (List ℕ) SignFault)
      (key : Key) (k : ℕ) (bound : Bound) → FollowsSigner g limit old now → IsOnce limit now → IsName name
      → SignsGiven g r old new name given capacity answer → the_key old.records ≡ Some key → binding_at old.records name ≡ Some (k, bound)
      → AnswersBound old name (textbook_signature key old.records k bound) given answer
  bound_answers now old new name given capacity answer key k bound follows once is_name does keyed named =
      elim (cases_Bool old.is_open) [
        | inl opened ↦ elim (cases_Bool (has_moved old.records)) [
          | inl moved ↦ inr (inl (opened, moved, moved_answers now old new name capacity answer key follows once does.answers opened keyed moved))
          | inr stays ↦ inr (inr (opened, stays, open_answers now old new name given capacity answer key k bound follows once does opened keyed named stays))
        ]
        | inr closed ↦ inl (closed, closed_answers now old new name given capacity answer follows is_name does closed)
      ]

  -- a name that was signed
  signed_answers : (now : World) (old new : View S R) (x : Handed) (given : Option (List ℕ)) (capacity : ℕ) (answer : Result (List ℕ) SignFault)
      → FollowsSigner g limit old now → IsOnce limit now → IsName x.name → SignsGiven g r old new x.name given capacity answer
      → Contains now.handed x → AnswersBound old x.name x.signature given answer
  signed_answers now old new x given capacity answer follows once is_name does there = elim (cases_Bool old.is_open) [
    | inl opened ↦
        let recorded : IsRecorded old.records x = subst (λ (s : State). IsRecorded s.records x) (follows.leaves.state opened) (once.signatures.recorded x there) in
        subst (λ s. AnswersBound old x.name s given answer) (sym recorded.signature)
        (bound_answers now old new x.name given capacity answer recorded.key recorded.k recorded.bound follows once is_name does
        recorded.is_bound.keyed recorded.is_bound.named)
    | inr closed ↦ inl (closed, closed_answers now old new x.name given capacity answer follows is_name does closed)
  ]

  -- 29 under a bound name
  memory_lacks : (now : World) (old new : View S R) (name : List ℕ) (given : Option (List ℕ)) (capacity : ℕ) (key : Key) (k : ℕ) (bound : Bound)
      → FollowsSigner g limit old now → IsOnce limit now → IsName name → SignsGiven g r old new name given capacity (Err OutOfMemory)
      → the_key old.records ≡ Some key → binding_at old.records name ≡ Some (k, bound) → LacksMemory key old None (Some (k, bound)) capacity
  memory_lacks now old new name given capacity key k bound follows once_now is_name does keyed named =
      let chance = does.answers.chance in
      let outcome = does.answers.outcome in
      let same_key : does.answers.key ≡ key = same_Some does.answers.key key (sym does.answers.keyed ∙ keyed) in
      let lacks : chance.has_room ≡ false → LacksMemory key old None (Some (k, bound)) capacity = λ none.
      subst (λ found. LacksMemory key old (deepest key.secret old.records) found capacity) named
      (subst (λ (own : Key). LacksMemory own old (deepest own.secret old.records) (binding_at old.records name) capacity) same_key (does.answers.room none)) in
      elim (cases_Bool chance.has_room) [
        | inr none ↦ lacks none
        | inl room ↦ elim (cases_Bool old.is_open) [
          | inl opened ↦ elim (cases_Bool (has_moved old.records)) [
            | inl moved ↦ absurd (let is : Err OutOfMemory ≡ Err MovedAway =
                moved_answers now old new name capacity (Err OutOfMemory) key follows once_now does.answers opened keyed moved in cc (is))
            | inr stays ↦
                let world : World = world_of (state_of old) now.handed in
                let once : IsOnce limit world = subst (λ s. IsOnce limit (world_of s now.handed)) (follows.leaves.state opened) once_now in
                let step : requested limit (state_of old) name chance ≡ outcome =
                subst (λ l. requested l (state_of old) name chance ≡ outcome) follows.most does.answers.step in
                absurd (no_refusal world limit key k bound name chance chance.given once opened stays keyed named refl room
                (ap (λ (o : Outcome (List ℕ)). o.answer) step ∙ does.answers.ends.answer_is))
          ]
          | inr closed ↦ absurd (let is : Err OutOfMemory ≡ Err Stopped =
              closed_answers now old new name given capacity (Err OutOfMemory) follows is_name does closed in cc (is))
        ]
      ]

  -- .. and by its bytes
  again : (now : World) (old new : View S R) (x : Handed) (public : AnyPublic) (given : Option (List ℕ)) (capacity : ℕ) (answer : Result (List ℕ) SignFault)
      → FollowsSigner g limit old now → IsOnce limit now → IsName x.name → SignsGiven g r old new x.name given capacity answer
      → Contains now.handed x → public_of_world now ≡ Some public → AnswersAgain public old x given answer
  again now old new x public given capacity answer follows once is_name does there keyed = elim (cases_Bool old.is_open) [
    | inl opened ↦
        let same = follows.leaves.state opened in
        let is : IsRecorded old.records x = subst (λ (s : State). IsRecorded s.records x) same (once.signatures.recorded x there) in
        let sound : AreSound old.records = elim (subst (λ (s : State). (s.records ≡ []) ⊎ AreSound s.records) same once.openings.sound) [
          | inl none ↦ absurd (none-some is.key (sym (ap the_key none) ∙ is.is_bound.keyed))
          | inr sound ↦ sound
        ] in
        let is_public : any_public_of is.key ≡ Some public =
        sym (ap public_of_key is.is_bound.keyed) ∙ ap (λ (s : State). public_of_key (the_key s.records)) (sym same) ∙ keyed in
        elim (signed_answers now old new x given capacity answer follows once is_name does there) [
          | inl closed ↦ inl closed
          | inr (inl moved) ↦ inr (inl moved)
          | inr (inr (opens, stays, answers)) ↦ inr (inr (
            opens,
            stays,
            by_digests old.records is.key x is.k is.bound public given answer sound
                follows.is_signer.sizes is.is_bound is.signature is_public answers,
          ))
        ]
    | inr closed ↦ inl (closed, closed_answers now old new x.name given capacity answer follows is_name does closed)
  ]

  -- What holds of the calls so far, where the world is as they left it.
  pub safe : (held : Holder S R) (Gave : AnyPublic → Type 0) (now : World) (handed : List Handed) → Follows g limit held now → IsOnce limit now
      → now.handed ≡ handed → ((public : AnyPublic) → Gave public → public_of_world now ≡ Some public) → Holds g r held Gave handed
  safe held Gave now handed follows once all keyed =
      let of : (old : View S R) → held ≡ with_signer old → FollowsSigner g limit old now = λ old same. subst (λ h. Follows g limit h now) same follows in
      let meets : (old new : View S R) (name : List ℕ) (given : Option (List ℕ)) (capacity : ℕ) (answer : Result (List ℕ) SignFault)
      → held ≡ with_signer old → MeetsContract g r held (signs new name given capacity answer)
      → IsName name × SignsGiven g r old new name given capacity answer =
      λ old new name given capacity answer same does. subst (λ h. MeetsContract g r h (signs new name given capacity answer)) same does in
      record {
        safe = record {
          once = λ public given. subst (AreSignedOnce public) all (signed_once now public once.signatures (keyed public given));
          repeated = λ public gave x old new given capacity answer there same does.
              let (is_name, request) = meets old new x.name given capacity answer same does in
              again now old new x public given capacity answer (of old same) once is_name request (subst (λ l. Contains l x) (sym all) there) (keyed public gave);
        };
        names = record {
          bound = λ old name same some.
              let (found_at, named) = some_found (binding_at old.records name) some in
              let follows_old = of old same in
              let legal = follows_old.is_signer.legal in (
                textbook_signature legal.key old.records found_at.0 found_at.1,
                λ new given capacity answer does.
                    let (is_name, request) = meets old new name given capacity answer same does in
                    bound_answers now old new name given capacity answer legal.key found_at.0 found_at.1 follows_old once is_name request
                    (key_first old.records legal.key legal.first) named,
              );
          signed = λ x old new given capacity answer there same does.
              let (is_name, request) = meets old new x.name given capacity answer same does in
              signed_answers now old new x given capacity answer (of old same) once is_name request (subst (λ l. Contains l x) (sym all) there);
          memory = λ old new name given capacity key k bound same keyed named does.
              let (is_name, request) = meets old new name given capacity (Err OutOfMemory) same does in
              memory_lacks now old new name given capacity key k bound (of old same) once is_name request keyed named;
        };
      }

-- ---- calls over one store

in_session : {S R M : Type 0} (g : store.Ghosts S) (r : source.Ghosts R) (m : message.Ghosts M) → SignerLaw g r m → (kept_in : S)
    (calls : List (SignerCall S R)) → IsRunning g kept_in → g.list kept_in ≡ [] → AreCallsFrom g r (without_signer kept_in) calls
    → Holds g r (last_holder (without_signer kept_in) calls) (GaveKey calls) (handed_of calls)
in_session g r m law kept_in calls running empty are =
    let limit = g.most kept_in in
    let leads = all_calls g r m law limit (λ first now kept. IsRun limit first now)
    (λ first now old call was is. runs_on limit first now _ was (one_event limit now call.event is.is_call.possible))
    (λ now view signer leaves. no_run limit now) beginning (without_signer kept_in) calls
    (record { honest = running.honest; most = refl; none_open = refl; records = λ runs. sym empty }) are in
    let once = run_once limit leads.now (leads.served beginning (no_run limit beginning)) in
    safe g r limit (last_holder (without_signer kept_in) calls) (GaveKey calls) leads.now (handed_of calls) leads.follows once leads.all
    (λ public gave.
    let (anchor, keyed, by) = leads.keys public gave in
    public_stays limit anchor leads.now by once public keyed)

pub session_law : {S R M : Type 0} (g : store.Ghosts S) (r : source.Ghosts R) (m : message.Ghosts M) → SignerLaw g r m → SessionLaw g r
session_law g r m law kept_in calls running empty are = (in_session g r m law kept_in calls running empty are).safe

pub bound_session : {S R M : Type 0} (g : store.Ghosts S) (r : source.Ghosts R) (m : message.Ghosts M) → SignerLaw g r m → BoundInSession g r
bound_session g r m law kept_in calls running empty are = (in_session g r m law kept_in calls running empty are).names

-- ---- calls on a store over a disk

-- what the store's ghosts are, over its disk
pub record IsOverDisk {D : Type 0} (d : disk.Ghosts D) (g : store.Ghosts (FileStore D d)) (limit : ℕ) : Type 0 where
  pub list : (kept : FileStore D d) → g.list kept ≡ records_of kept
  pub honest : (kept : FileStore D d) → g.honest kept ≡ d.honest (disk_of kept)
  pub most : (kept : FileStore D d) → g.most kept ≡ limit

-- A content that may be left stands for records to which a run leads, with this handed out. A key that was given is
-- theirs.
record IsKnown (limit : ℕ) (Given : AnyPublic → Type 0) (handed : List Handed) (content : List ℕ) : Type 0 where
  left : IsLeftByRun limit beginning handed content
  keyed : (public : AnyPublic) → Given public → public_in left.records ≡ Some public

abbrev Knows : (limit : ℕ) (Given : AnyPublic → Type 0) (before : List ℕ → Type 0) (handed : List Handed) → Type 0
Knows limit Given before handed = (content : List ℕ) → before content → IsKnown limit Given handed content

known_as : (limit : ℕ) (Given Now : AnyPublic → Type 0) (handed all : List Handed) (content : List ℕ) → IsKnown limit Given handed content → handed ≡ all
    → ((public : AnyPublic) → Now public → Given public) → IsKnown limit Now all content
known_as limit Given Now handed all content known same covers =
    subst (λ h. IsKnown limit Now h content) same (record { left = known.left; keyed = λ public is. known.keyed public (covers public is) })

abbrev NoneGiven : AnyPublic → Type 0
NoneGiven public = ⊥

known_first : (limit : ℕ) → Knows limit NoneGiven HasNoKey []
known_first limit content none = record {
  left = record { records = []; stands = none; runs = no_run limit beginning };
  keyed = λ public never. absurd never;
}

-- the run of a migration
moving_run : (limit : ℕ) (handed : List Handed) (records : List Record) (fate : Migration) → CanMigrate records
    → IsRun limit (world_of (closed_state records) handed) (world_of (closed_state (migrated_list records fate)) handed)
moving_run limit handed records fate (key, keyed, one) =
    let event : Event = migrate fate in
    let leads : after limit (world_of (closed_state records) handed) event ≡ world_of (closed_state (migrated_list records fate)) handed =
    ap (λ found. world_of (migrated_key (closed_state records) fate found) handed) keyed
    ∙ ap (λ version. world_of (if can_move version && true then closed_state (migrated_list records fate) else closed_state records) handed) one in
    subst (IsRun limit (world_of (closed_state records) handed)) leads (one_event limit (world_of (closed_state records) handed) event tt)

module _ {D E R M : Type 0} (d : disk.Ghosts D) (e : disk.Ghosts E) (g : store.Ghosts (FileStore D d)) (r : source.Ghosts R) (m : message.Ghosts M)
    (law : SignerLaw g r m) (time : KeepsTime d) (tied : IsTiedToDisk d g) (limit : ℕ) (over : IsOverDisk d g limit) where
  abbrev Served : (first now : World) → FileStore D d → Type 0
  Served first now kept = HasServed d g time tied limit first now kept

  -- right after a signer was opened a crash leaves its records
  starts : (now : World) (view : View (FileStore D d) R) → IsOpenSigner g view → IsAfter view now → Served now now view.store
  starts now view is leaves = record {
    honest = subst IsTrue (over.honest view.store) is.honest;
    runs = no_run limit now;
    leaves = λ content since.
        let (list, stands, same) = one_left (λ l. l ≡ view.records) (longer view.records) (not_longer view.records) (d.left_since (disk_of view.store))
        (d.moment (disk_of view.store)) content since (λ list lists. law.settled view list is (tied.lists view.store view.store list lists)) in
        record {
          records = list;
          stands = stands;
          runs = subst (λ l. IsRun limit now (world_of (closed_state l) now.handed))
              (ap (λ (s : State). s.records) (leaves.state is.is_open) ∙ sym same) (by_stop limit now);
        };
  }

  abbrev LeadsOn : (world : World) (held : Holder (FileStore D d) R) (calls : List (SignerCall (FileStore D d) R)) → Type 0
  LeadsOn world held calls = Leads g r m law limit (λ first now kept. HasServed d g time tied limit first now kept)
      (λ first now old call was is. one_call d g time tied limit first now old call was is) starts world held calls

  -- ---- one life

  made_on : (on : D) (kept : FileStore D d) → IsTrue (d.honest on) → FindsRecords d on (Ok kept) ⊎ PreparesDisk d on (Ok kept) → IsStoreOn d on kept
  made_on on kept honest (inl found) = inl (record { records = found.records honest; running = found.running; honest = found.failures.honest })
  made_on on kept honest (inr prepared) =
      inr (record { records = prepared.records; prepares = prepared.answer honest; running = prepared.running; honest = prepared.failures.honest })

  -- how a life begins
  record HasBegun (Given : AnyPublic → Type 0) (handed : List Handed) (kept : FileStore D d) (calls : List (SignerCall (FileStore D d) R)) : Type 0 where
    runs : IsRun limit beginning (world_found kept handed)
    keyed : (public : AnyPublic) → Given public → public_of_world (world_found kept handed) ≡ Some public
    served : Served (world_found kept handed) (world_found kept handed) kept
    leads : LeadsOn (world_found kept handed) (without_signer kept) calls

  begun : (Given : AnyPublic → Type 0) (before : List ℕ → Type 0) (handed : List Handed) (on : D) (kept : FileStore D d)
      (calls : List (SignerCall (FileStore D d) R)) → Knows limit Given before handed → BeginsLife d g r before on kept calls
      → HasBegun Given handed kept calls
  begun Given before handed on kept calls known begins =
      let content = (d.state on).content in
      let is_store = made_on on kept begins.starts.honest begins.made in
      let was = known content (begins.starts.holds content (time.shows on begins.starts.honest)) in
      let same : records_of kept ≡ was.left.records = found_records d g time tied limit on kept was.left.records is_store was.left.stands in
      let honest = has_first d g time tied limit on kept begins.starts.honest is_store in
      let follows : FollowsStore g limit kept (world_found kept handed) = record {
        honest = subst IsTrue (sym (over.honest kept)) honest;
        most = over.most kept;
        none_open = refl;
        records = λ running. sym (over.list kept);
      } in
      record {
        runs = subst (λ l. IsRun limit beginning (world_of (closed_state l) handed)) (sym same) was.left.runs;
        keyed = λ public is. ap public_in same ∙ was.keyed public is;
        served = served_first d g time tied limit on kept handed begins.starts.honest is_store;
        leads = all_calls g r m law limit (λ first now kept. HasServed d g time tied limit first now kept)
            (λ first now old call was is. one_call d g time tied limit first now old call was is) starts (world_found kept handed) (without_signer kept) calls follows
            begins.each;
      }

  -- what a crash leaves in the last call
  left_at_end : (first now : World) (held : Holder (FileStore D d) R) (last : SignerCall (FileStore D d) R) (content : List ℕ)
      → Follows g limit held now → Served first now (store_held held) → AreCallsFrom g r held (last ∷ [])
      → d.left_since (disk_of (store_held (next_holder held last))) (d.moment (disk_of (store_held held))) content
      → IsLeftByRun limit first now.handed content
  left_at_end first now held last content follows served is since =
      let step = one_step g r m law limit now held last follows is.0 is.1 in
      in_call d g time tied limit first now (store_held held) (record { event = step.event; store = store_held (next_holder held last) }) content served.runs
      served.leaves step.lasting.is_call since

  -- after a life: the keys that its calls gave, and all that they handed out
  abbrev LifeLeads : (Given : AnyPublic → Type 0) → (handed : List Handed) → DiskLife D E R d → Type 0
  LifeLeads Given handed life =
      Knows limit (λ public. Given public ⊎ GaveKey (life_calls life) public) (life_contents d life) (handed ++ handed_of (life_calls life))

  life_failed : (Given : AnyPublic → Type 0) (before : List ℕ → Type 0) (handed : List Handed) (old new : D) → Knows limit Given before handed
      → IsAtStart d before old → IsTriedOn d old new → Knows limit Given (λ content. d.left_since new (d.moment old) content) handed
  life_failed Given before handed old new known starts_at (inl leaves) content since = known content (starts_at.holds content (leaves.each content since))
  life_failed Given before handed old new known starts_at (inr leaves) content since = elim (leaves.each content since) [
    | inl may ↦ known content (starts_at.holds content may)
    | inr (short, changes) ↦
        let at = (d.state old).content in
        let was = known at (starts_at.holds at (time.shows old starts_at.honest)) in
        let none : was.left.records ≡ [] = stands_one was.left.records [] at was.left.stands (inl short) in
        record {
          left = record {
            records = [];
            stands = prepared_no_key at content short changes;
            runs = subst (λ l. IsRun limit beginning (world_of (closed_state l) handed)) none was.left.runs;
          };
          keyed = λ public is. absurd (none-some public (sym (ap public_in none) ∙ was.keyed public is));
        }
  ]

  -- nothing is given or handed out
  known_still : (Given : AnyPublic → Type 0) (handed : List Handed) (content : List ℕ) → IsKnown limit Given handed content
      → IsKnown limit (λ public. Given public ⊎ ⊥) (handed ++ []) content
  known_still Given handed content known = known_as limit Given (λ public. Given public ⊎ ⊥) handed (handed ++ []) content known (sym (append-nil handed))
      (λ public given. elim given [ inl earlier ↦ earlier | inr never ↦ absurd never ])

  -- a migration carries the records over, or adds a Moved
  moved_known : (Given : AnyPublic → Type 0) (before : List ℕ → Type 0) (handed : List Handed) (old : D) (records : List Record) (fate : Migration)
      (content : List ℕ) → Knows limit Given before handed → IsAtStart d before old → SpellsMovable (d.state old).content records
      → StandsFor (migrated_list records fate) content → IsKnown limit Given handed content
  moved_known Given before handed old records fate content known starts_at movable stands =
      let at = (d.state old).content in
      let was = known at (starts_at.holds at (time.shows old starts_at.honest)) in
      let same : was.left.records ≡ records = stands_one was.left.records records at was.left.stands (spelled_stands records at movable.spelled) in
      let first : World = world_of (closed_state records) handed in
      let later : World = world_of (closed_state (migrated_list records fate)) handed in
      let by : IsRun limit first later = moving_run limit handed records fate (can_migrate at records movable) in
      let led : IsRun limit beginning first = subst (λ l. IsRun limit beginning (world_of (closed_state l) handed)) same was.left.runs in
      let all = runs_on limit beginning first later led by in
      record {
        left = record { records = migrated_list records fate; stands = stands; runs = all };
        keyed = λ public given. public_stays limit first later by (run_once limit later all) public (sym (ap public_in same) ∙ was.keyed public given);
      }

  moved_old : (Given : AnyPublic → Type 0) (before : List ℕ → Type 0) (handed : List Handed) (old old_after : D) (new new_after : E)
      (answer : Result ℕ MigrateFault) → Knows limit Given before handed → IsAtStart d before old → Migrates d e old new old_after new_after answer
      → Knows limit Given (λ content. d.left_since old_after (d.moment old) content) handed
  moved_old Given before handed old old_after new new_after answer known starts_at does content since =
      elim ((does.old_moments starts_at.honest).each content since) [
        | inl may ↦ known content (starts_at.holds content may)
        | inr (records, movable, inl stands, changes) ↦ moved_known Given before handed old records left_alone content known starts_at movable stands
        | inr (records, movable, inr stands, changes) ↦ moved_known Given before handed old records sealed content known starts_at movable stands
      ]

  -- after Ok the new place has the carried records
  moved_done : (Given : AnyPublic → Type 0) (before : List ℕ → Type 0) (handed : List Handed) (old old_after : D) (new new_after : E) (count : ℕ)
      → Knows limit Given before handed → IsAtStart d before old → IsTrue (e.honest new) → Migrates d e old new old_after new_after (Ok count)
      → Knows limit Given (MayLeave (e.state new_after)) handed
  moved_done Given before handed old old_after new new_after count known starts_at honest does content may =
      let (records, movable, _, _, _) = does.answers_old starts_at.honest in
      let (synced, spelled) = does.carries starts_at.honest honest records movable.spelled in
      let same : content ≡ (e.state new_after).content = synced_left (e.state new_after).content content (subst (λ s. MayLeave s content) synced may) in
      moved_known Given before handed old records carried_over content known starts_at movable
      (spelled_stands (carried records) content (subst (λ l. SpellsRecords l (carried records)) (sym same) spelled))

  -- and so it has where a crash in the migration left a key there
  moved_left : (Given : AnyPublic → Type 0) (before : List ℕ → Type 0) (handed : List Handed) (old old_after : D) (new new_after : E)
      (answer : Result ℕ MigrateFault) → Knows limit Given before handed → IsAtStart d before old → IsTrue (e.honest new)
      → Migrates d e old new old_after new_after answer → Knows limit Given (IsLeftByMove e new new_after) handed
  moved_left Given before handed old old_after new new_after answer known starts_at honest does content is =
      elim ((does.new_moments honest).each content is.since) [
        | inl may ↦ absurd (is.changed may)
        | inr (records, movable, fills) ↦ elim (fills.kind starts_at.honest) [
          | inl none ↦ absurd (is.keyed none)
          | inr spelled ↦ moved_known Given before handed old records carried_over content known starts_at (movable starts_at.honest)
              (spelled_stands (carried records) content spelled)
        ]
      ]

  moved_new : (Given : AnyPublic → Type 0) (before : List ℕ → Type 0) (handed : List Handed) (old old_after : D) (new new_after : E)
      (answer : Result ℕ MigrateFault) → Knows limit Given before handed → IsAtStart d before old → IsTrue (e.honest new)
      → Migrates d e old new old_after new_after answer → Knows limit Given (contents_moved e new new_after answer) handed
  moved_new Given before handed old old_after new new_after (Ok count) known starts_at honest does content is = elim is [
    | inl may ↦ moved_done Given before handed old old_after new new_after count known starts_at honest does content may
    | inr left ↦ moved_left Given before handed old old_after new new_after (Ok count) known starts_at honest does content left
  ]
  moved_new Given before handed old old_after new new_after (Err fault) known starts_at honest does content is =
      moved_left Given before handed old old_after new new_after (Err fault) known starts_at honest does content is

  one_life : (Given : AnyPublic → Type 0) (before : List ℕ → Type 0) (handed : List Handed) (life : DiskLife D E R d) → Knows limit Given before handed
      → IsDiskLife d e g r before life → LifeLeads Given handed life
  one_life Given before handed (finds on result) known is content since = known_still Given handed content
      (life_failed Given before handed on (disk_of_result result) known is.0 (inl (is.1.moments is.0.honest)) content since)
  one_life Given before handed (prepares on result) known is content since = known_still Given handed content
      (life_failed Given before handed on (disk_of_result result) known is.0 (inr (is.1.moments is.0.honest)) content since)
  one_life Given before handed (moves old old_after new new_after answer) known is content since =
      known_still Given handed content (moved_old Given before handed old old_after new new_after answer known is.0 is.1 content since)
  one_life Given before handed (serves on kept calls last) known is content since =
      let has = begun Given before handed on kept calls known is.0 in
      let found = world_found kept handed in
      let now = has.leads.now in
      let held = last_holder (without_signer kept) calls in
      let served = has.leads.served found has.served in
      let left = left_at_end found now held last content has.leads.follows served is.1 since in
      let later : World = world_of (closed_state left.records) now.handed in
      let by : IsRun limit beginning later = runs_on limit beginning found later has.runs left.runs in
      let once = run_once limit later by in
      subst (λ h. IsKnown limit (λ public. Given public ⊎ GaveKey calls public) h content) has.leads.all (record {
        left = record { records = left.records; stands = left.stands; runs = by };
        keyed = λ public given. elim given [
          | inl earlier ↦ public_stays limit found later left.runs once public (has.keyed public earlier)
          | inr here ↦
              let (anchor, keyed, anchored) = has.leads.keys public here in
              let other = left_at_end anchor now held last content has.leads.follows anchored is.1 since in
              let same : other.records ≡ left.records = stands_one other.records left.records content other.stands left.stands in
              public_stays limit anchor later (subst (λ l. IsRun limit anchor (world_of (closed_state l) now.handed)) same other.runs) once public keyed
        ];
      })

  -- ---- lives one after the other

  all_lives : (Given : AnyPublic → Type 0) (before : List ℕ → Type 0) (handed : List Handed) (lives : List (DiskLife D E R d)) → Knows limit Given before handed
      → AreDiskLives d e g r before lives
      → Knows limit (λ public. Given public ⊎ GaveKey (lives_calls lives) public) (lives_contents d before lives) (handed ++ handed_of (lives_calls lives))
  all_lives Given before handed [] known are content is = known_still Given handed content (known content is)
  all_lives Given before handed (life ∷ lives) known are content is =
      let own = life_calls life in
      let later = lives_calls lives in
      let rest = all_lives (λ public. Given public ⊎ GaveKey own public) (life_contents d life) (handed ++ handed_of own) lives
      (one_life Given before handed life known are.0) are.1 in
      known_as limit (λ public. (Given public ⊎ GaveKey own public) ⊎ GaveKey later public) (λ public. Given public ⊎ GaveKey (own ++ later) public)
      ((handed ++ handed_of own) ++ handed_of later) (handed ++ handed_of (own ++ later)) content (rest content is)
      (append_assoc handed (handed_of own) (handed_of later) ∙ ap (λ l. handed ++ l) (sym (handed_append own later)))
      (λ public given. elim given [
        | inl earlier ↦ inl (inl earlier)
        | inr among ↦ elim (gave_append own later public among) [ inl here ↦ inl (inr here) | inr after_it ↦ inr after_it ]
      ])

  -- ---- the calls so far

  -- Lives, and the life that goes on, from what is known of the disk before.
  told : (Given : AnyPublic → Type 0) (before : List ℕ → Type 0) (handed : List Handed) (history : History D E R d) → Knows limit Given before handed
      → IsHistory d e g r before history
      → Holds g r (holder_now history) (λ public. Given public ⊎ GaveKey (history_calls history) public) (handed ++ handed_of (history_calls history))
  told Given before handed history known is =
      let over_calls = lives_calls history.lives in
      let earlier = handed ++ handed_of over_calls in
      let has = begun (λ public. Given public ⊎ GaveKey over_calls public) (lives_contents d before history.lives) earlier history.on history.store
      history.calls (all_lives Given before handed history.lives known is.lives) is.now in
      let found = world_found history.store earlier in
      let now = has.leads.now in
      let served = has.leads.served found has.served in
      let once = run_once limit now (runs_on limit beginning found now has.runs served.runs) in
      let from_found : (public : AnyPublic) → Given public ⊎ GaveKey over_calls public → public_of_world now ≡ Some public =
      λ public given. public_stays limit found now served.runs once public (has.keyed public given) in
      let keyed : (public : AnyPublic) → Given public ⊎ GaveKey (over_calls ++ history.calls) public → public_of_world now ≡ Some public =
      λ public given. elim given [
        | inl before_it ↦ from_found public (inl before_it)
        | inr inside ↦ elim (gave_append over_calls history.calls public inside) [
          | inl over_it ↦ from_found public (inr over_it)
          | inr here ↦
              let (anchor, anchor_keyed, anchored) = has.leads.keys public here in
              public_stays limit anchor now anchored.runs once public anchor_keyed
        ]
      ] in
      safe g r limit (holder_now history) (λ public. Given public ⊎ GaveKey (history_calls history) public) now (handed ++ handed_of (history_calls history))
      has.leads.follows once
      (has.leads.all ∙ append_assoc handed (handed_of over_calls) (handed_of history.calls)
      ∙ ap (λ l. handed ++ l) (sym (handed_append over_calls history.calls))) keyed

-- fewer keys
fewer_keys : {S R : Type 0} (g : store.Ghosts S) (r : source.Ghosts R) (held : Holder S R) (More Gave : AnyPublic → Type 0)
    (handed : List Handed) → IsSafe g r held More handed → ((public : AnyPublic) → Gave public → More public) → IsSafe g r held Gave handed
fewer_keys g r held More Gave handed is covers = record {
  once = λ public given. is.once public (covers public given);
  repeated = λ public given. is.repeated public (covers public given);
}

module _ {D E R M : Type 0} (d : disk.Ghosts D) (e : disk.Ghosts E) (g : store.Ghosts (FileStore D d)) (r : source.Ghosts R) (m : message.Ghosts M)
    (law : SignerLaw g r m) (time : KeepsTime d) (tied : IsTiedToDisk d g) (limit : ℕ) (over : IsOverDisk d g limit) where
  in_history : (history : History D E R d) → IsHistory d e g r HasNoKey history
      → Holds g r (holder_now history) (λ public. ⊥ ⊎ GaveKey (history_calls history) public) (handed_of (history_calls history))
  in_history history is = told d e g r m law time tied limit over NoneGiven HasNoKey [] history (known_first limit) is

  pub headline : HeadlineOfCalls d e g r
  headline history is =
      fewer_keys g r (holder_now history) (λ public. ⊥ ⊎ GaveKey (history_calls history) public) (GaveKey (history_calls history))
      (handed_of (history_calls history)) (in_history history is).safe (λ public given. inr given)

  pub bound_headline : BoundInCalls d e g r
  bound_headline history is = (in_history history is).names

  module _ (h : store.Ghosts (FileStore E e)) (later_law : SignerLaw h r m) (later_time : KeepsTime e) (later_tied : IsTiedToDisk e h)
      (later_over : IsOverDisk e h limit) where
    in_moved : (moved : MovedHistory D E R d e) → IsMovedHistory d e g h r moved
        → Holds h r (holder_now moved.later) (λ public. (⊥ ⊎ GaveKey (lives_calls moved.lives) public) ⊎ GaveKey (history_calls moved.later) public)
        (moved_handed moved)
    in_moved moved is =
        let own = lives_calls moved.lives in
        let Gave : AnyPublic → Type 0 = λ public. ⊥ ⊎ GaveKey own public in
        let lives = all_lives d e g r m law time tied limit over NoneGiven HasNoKey [] moved.lives (known_first limit) is.lives in
        let knows = moved_new d e g r m law time tied limit over Gave (lives_contents d HasNoKey moved.lives) (handed_of own)
        moved.old moved.old_after moved.new moved.new_after moved.answer lives is.starts is.honest is.migrates in
        told e d h r m later_law later_time later_tied limit later_over Gave
        (contents_moved e moved.new moved.new_after moved.answer) (handed_of own) moved.later knows is.later

    pub headline_moved : HeadlineOfMoved d e g h r
    headline_moved moved is =
        fewer_keys h r (holder_now moved.later) (λ public. (⊥ ⊎ GaveKey (lives_calls moved.lives) public) ⊎ GaveKey (history_calls moved.later) public)
        (λ public. GaveKey (lives_calls moved.lives) public ⊎ GaveKey (history_calls moved.later) public) (moved_handed moved) (in_moved moved is).safe
        (λ public given. elim given [ inl earlier ↦ inl (inr earlier) | inr later ↦ inr later ])

    pub bound_moved : BoundInMoved d e g h r
    bound_moved moved is = (in_moved moved is).names
