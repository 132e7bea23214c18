-- An opening on records that a replay took is a step of the world.
use Rattle.std.proofs.Common.{◌≡◌, inr, ℕ, ◌+◌, false, List, length, Some, None, Ok, Err, refl, sym, Result, ap, ◌∙◌, subst, arith, take, drop, ◌||◌}
use Rattle.std.proofs.lemmas.List.{length-take-le, take-append-drop}
use Rattle.std.proofs.lemmas.Option.{slice_get_within}
use Rattle.state_file.specs.declared.record.Record.{Record}
use Rattle.state_file.specs.declared.record.Record.TheVariants.{Key as KeyRecord}
use Rattle.state_file.specs.declared.refused.Refused.{Refused}
use Rattle.state_file.specs.declared.store.Store as store
use Rattle.state_file.specs.Disk.{Counts, LeavesOnly}
use Rattle.state_file.specs.Store.{Collects}
use Rattle.state_file.proofs.Moments.{started}
use Rattle.sign_core.specs.declared.key.AnyPublic.{AnyPublic}
use Rattle.sign_core.specs.declared.fault.SignFault.{SignFault}
use Rattle.sign_core.specs.declared.fault.SignFault.TheVariants.{RandomRepeated, MessageRead, Moved, RetireRange, LongName, NoKey, Illegal, DeviceFailed, NoMemoryToOpen}
use Rattle.sign_core.specs.declared.fault.SignFault.TheVariants.{Changed, Exhausted, RandomFailed, StoreFailed, Stopped, Damaged, OutOfMemory, LedgerFull}
use Rattle.sign_core.specs.declared.fault.SignFault.TheVariants.{Unreadable, KeyThere}
use Rattle.sign_core.specs.inner.Replay.{TakesOver}
use Rattle.sign_core.specs.inner.Signer.{HoldsParts, IsTakenUp}
use Rattle.sign_core.specs.Ledger.{RunsOutOfMemory, Table}
use Rattle.sign_core.specs.Records.{first_illegal, the_key}
use Rattle.sign_core.specs.Signer.{LacksMemoryAt, OpensReplayed, RefusesToOpen, StopsOpening, View, is_device_failed}
use Rattle.sign_core.specs.Signer.{is_fault, unreadable_slot}
use Rattle.sign_core.specs.Textbook.{public_of_key}
use Rattle.sign_core.specs.World.{Opening, Outcome, answered, closed_state, open_state, opened, refused}
use Rattle.sign_core.proofs.calls.AppendMoments.{LeavesItsList}
use Rattle.sign_core.proofs.steps.Cases.{opened_illegal}
use Rattle.sign_core.proofs.records.FirstIllegal.{illegal_after, none_from_legal}
use Rattle.sign_core.proofs.records.Keys.{key_stands}
use Rattle.sign_core.proofs.calls.OpenEnds.{published_step, stops}
use Rattle.sign_core.proofs.records.Sizes.{public_made}

-- Nothing failed at the store.
record IsQuiet (records : List Record) (answer : Result AnyPublic SignFault) : Type 0 where
  unfailed : is_fault is_device_failed answer ≡ false
  failures : (n : ℕ) → Counts is_device_failed n n answer
  refusals : (n : ℕ) → RefusesToOpen records answer n n
  unreadable : (slots : List ℕ) → Collects unreadable_slot slots slots answer

-- a record without memory comes before any that isn't legal
stopped_step : (records : List Record) (lacks : RunsOutOfMemory records)
    → opened (closed_state records) (Some (lacks.place, NoMemoryToOpen)) ≡ refused (closed_state records) NoMemoryToOpen
stopped_step records lacks =
    let n = lacks.place + 1 in
    let inside = slice_get_within records lacks.place lacks.entry lacks.stands in
    let long : length (take n records) ≡ n = length-take-le n records (omega (arith, inside)) in
    stops records lacks.place NoMemoryToOpen (first_illegal records)
    (λ j at. omega (
      arith,
      long,
      illegal_after (take n records) (drop n records) j (none_from_legal (take n records) lacks.legal)
          (ap first_illegal (take-append-drop n records) ∙ at),
    ))

module _ {S R : Type 0} (g : store.Ghosts S) (kept_in : S) (random : R) (only : LeavesItsList g kept_in) (running : g.stopped kept_in ≡ false) where
  -- no call touched the store
  untouched : (records : Result Table SignFault) (result : Result (View S R) (Refused (S × R) SignFault)) (chance : Opening) (outcome : Outcome AnyPublic)
      → HoldsParts kept_in random records result → IsTakenUp records outcome → opened (closed_state (g.list kept_in)) chance ≡ outcome
      → StopsOpening chance (g.list kept_in) (g.stopped kept_in) (g.honest kept_in) → LacksMemoryAt chance (g.list kept_in)
      → IsQuiet (g.list kept_in) outcome.answer → OpensReplayed g kept_in random result
  untouched records result chance outcome holds taken step load memory quiet =
      let list = g.list kept_in in
      let same = holds.store_is in record {
        opening = record {
          records = list;
          same_length = refl;
          same = λ honest. refl;
          chance = chance;
          outcome = outcome;
          step = step;
          answer = holds.answer outcome taken;
          load = load;
          stopped = ap g.stopped same ∙ ap (λ b. b || g.stopped kept_in) (sym quiet.unfailed);
          list = ap g.list same;
          moments = λ honest runs. subst (λ s. LeavesOnly g.moment g.left_since kept_in s (λ left. left ≡ list)) (sym same)
              (started g.moment g.left_since kept_in _ (λ left since. only left honest runs since));
          failures = subst (λ s. Counts is_device_failed (g.failures kept_in) (g.failures s) outcome.answer) (sym same) (quiet.failures (g.failures kept_in));
          refusals = subst (λ s. RefusesToOpen list outcome.answer (g.refusals kept_in) (g.refusals s)) (sym same) (quiet.refusals (g.refusals kept_in));
          unreadable =
              subst (λ s. Collects unreadable_slot (g.unreadable kept_in) (g.unreadable s) outcome.answer) (sym same) (quiet.unreadable (g.unreadable kept_in));
          honest = ap g.honest same;
          most = ap g.most same;
          stays = λ _. same;
        };
        own = refl;
        memory = memory;
        same_store = same;
        same_random = holds.random_is;
      }

  by_answer : (records : Result Table SignFault) (result : Result (View S R) (Refused (S × R) SignFault)) → TakesOver (g.list kept_in) records
      → HoldsParts kept_in random records result → OpensReplayed g kept_in random result
  by_answer (Ok table) result (takes, sizes) holds =
      let list = g.list kept_in in
      let (public, made) = public_made table.key.secret table.key.root (sizes 0 (KeyRecord table.key) (key_stands list table.key takes.keyed)).0 in
      untouched (Ok table) result None (answered (open_state list) public) holds
      (public, refl, ap public_of_key (ap the_key takes.same ∙ takes.keyed) ∙ made, takes.same)
      (published_step list table.key public (none_from_legal list takes.legal) takes.keyed made) running tt
      (record { unfailed = refl; failures = λ n. refl; refusals = λ n. refl; unreadable = λ slots. refl })
  by_answer (Err NoKey) result takes holds =
      untouched (Err NoKey) result None (refused (closed_state (g.list kept_in)) NoKey) holds refl
      (subst (λ l. opened (closed_state l) None ≡ refused (closed_state l) NoKey) (sym takes) refl) running tt
      (record { unfailed = refl; failures = λ n. refl; refusals = λ n. refl; unreadable = λ slots. refl })
  by_answer (Err (Illegal k)) result takes holds =
      untouched (Err (Illegal k)) result None (refused (closed_state (g.list kept_in)) (Illegal k)) holds refl
      (ap (opened_illegal (closed_state (g.list kept_in)) None) takes) running tt
      (record { unfailed = refl; failures = λ n. refl; refusals = λ n. refl; unreadable = λ slots. refl })
  by_answer (Err NoMemoryToOpen) result takes holds =
      let inside = slice_get_within (g.list kept_in) takes.place takes.entry takes.stands in
      untouched (Err NoMemoryToOpen) result (Some (takes.place, NoMemoryToOpen)) (refused (closed_state (g.list kept_in)) NoMemoryToOpen) holds refl
      (stopped_step (g.list kept_in) takes) (running, omega (arith, inside)) (takes, refl)
      (record { unfailed = refl; failures = λ n. refl; refusals = λ n. inr (refl, takes); unreadable = λ slots. refl })
  by_answer (Err Changed) result takes holds = absurd takes
  by_answer (Err Exhausted) result takes holds = absurd takes
  by_answer (Err RandomFailed) result takes holds = absurd takes
  by_answer (Err RandomRepeated) result takes holds = absurd takes
  by_answer (Err StoreFailed) result takes holds = absurd takes
  by_answer (Err Stopped) result takes holds = absurd takes
  by_answer (Err MessageRead) result takes holds = absurd takes
  by_answer (Err (Damaged slot)) result takes holds = absurd takes
  by_answer (Err OutOfMemory) result takes holds = absurd takes
  by_answer (Err LedgerFull) result takes holds = absurd takes
  by_answer (Err Moved) result takes holds = absurd takes
  by_answer (Err RetireRange) result takes holds = absurd takes
  by_answer (Err LongName) result takes holds = absurd takes
  by_answer (Err (Unreadable slot)) result takes holds = absurd takes
  by_answer (Err DeviceFailed) result takes holds = absurd takes
  by_answer (Err KeyThere) result takes holds = absurd takes

  pub replayed : (taken : List Record) (records : Result Table SignFault) (result : Result (View S R) (Refused (S × R) SignFault))
      → taken ≡ g.list kept_in → TakesOver taken records → HoldsParts kept_in random records result → OpensReplayed g kept_in random result
  replayed taken records result same takes holds = by_answer records result (subst (λ l. TakesOver l records) same takes) holds
