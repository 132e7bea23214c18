-- A replay gets the records of a list, one after the other.
use Rattle.std.proofs.Common.{◌≡◌, inl, inr, ℕ, ◌+◌, ◌<◌, true, false, cond, List, [], ◌∷◌, ◌++◌}
use Rattle.std.proofs.Common.{length, Some, None, refl, sym, ap, subst, ◌∙◌, arith}
use Rattle.std.specs.Prelude.{Option, Result, Ok, Err}
use Rattle.std.specs.Option.{option_or}
use Rattle.std.specs.Result.{result_err}
use Rattle.std.proofs.lemmas.Option.{slice_get_within}
use Rattle.std.proofs.lemmas.List.{take-append-le, take_all}
use Rattle.state_file.specs.declared.record.Record.{Record}
use Rattle.state_file.specs.declared.record.Record.TheVariants.{Key as KeyRecord}
use Rattle.state_file.specs.Laws.{IsLegal}
use Rattle.sign_core.specs.declared.ledger.LedgerFault.{LedgerFault}
use Rattle.sign_core.specs.declared.ledger.LedgerFault.TheVariants.{Empty, Illegal, OutOfMemory}
use Rattle.sign_core.specs.Records.{can_follow, first_illegal, next_illegal, the_key}
use Rattle.sign_core.specs.Ledger.{Table}
use Rattle.sign_core.specs.inner.Ledger.{TakesUp}
use Rattle.sign_core.specs.inner.Replay.{Holds, IsReplay, StopsAt}
use Rattle.sign_core.proofs.calls.AppendMoments.{length_one_more}
use Rattle.sign_core.proofs.records.CanFollow.{key_stays}
use Rattle.sign_core.proofs.records.FirstIllegal.{first_illegal_appended, illegal_append, illegal_front, none_from_legal}
use Rattle.sign_core.proofs.records.Keys.{key_stands}
use Rattle.sign_core.proofs.records.Legal.{grows}
use Rattle.sign_core.proofs.records.Lists.{slice_get_new, slice_get_stays}

-- ---- the first illegal record

-- the first illegal record of a beginning is the first of the whole list
pub first_illegal_longer : (records more : List Record) (k : ℕ) → first_illegal records ≡ Some k → first_illegal (records ++ more) ≡ Some k
first_illegal_longer records more k is =
    illegal_append (records ++ more) 0 records more
    ∙ ap (λ o. option_or o (next_illegal (records ++ more) (0 + length records) more)) (illegal_front records more 0 records (omega arith) ∙ is)

-- ---- a replay

-- what stops records stops all lists that go on with them
pub stops_longer : (records more : List Record) (fault : LedgerFault) → StopsAt records fault → StopsAt (records ++ more) fault
stops_longer records more Empty stops = absurd stops
stops_longer records more (Illegal k) stops = first_illegal_longer records more k stops
stops_longer records more OutOfMemory stops =
    let within : stops.place < length records = slice_get_within records stops.place stops.entry stops.stands in record {
      place = stops.place;
      entry = stops.entry;
      stands = slice_get_stays records more stops.place stops.entry stops.stands;
      legal = subst IsLegal (sym (take-append-le (stops.place + 1) records more (omega (arith, within)))) stops.legal;
      later = stops.later;
      lacking = stops.lacking;
    }

legal_with : (records : List Record) (table : Table) (entry : Record) → Holds records table → can_follow (Some table.key) table.records entry ≡ true
    → IsLegal (records ++ entry ∷ [])
legal_with records table entry holds follows =
    grows records entry holds.legal (ap (λ o. can_follow o records entry) holds.keyed ∙ ap (λ l. can_follow (Some table.key) l entry) (sym holds.same) ∙ follows)

some_held : (records : List Record) (table : Table) → Holds records table → 0 < length records
some_held records table holds = slice_get_within records 0 (KeyRecord table.key) (key_stands records table.key holds.keyed)

pub holds_more : (records : List Record) (old new : Table) (entry : Record) (done : Unit {0}) → Holds records old → TakesUp old new entry (Ok done)
    → Holds (records ++ entry ∷ []) new
holds_more records old new entry done holds (follows, grown) = record {
  same = grown.records ∙ ap (λ l. l ++ entry ∷ []) holds.same;
  keyed = key_stays records (entry ∷ []) (some_held records old holds) ∙ holds.keyed ∙ ap Some (sym grown.key);
  legal = legal_with records old entry holds follows;
}

pub holds_refused : (records : List Record) (old new : Table) (entry : Record) (fault : LedgerFault) → Holds records old → TakesUp old new entry (Err fault)
    → StopsAt (records ++ entry ∷ []) fault
holds_refused records old new entry Empty holds none = absurd none
holds_refused records old new entry (Illegal k) holds (not, is, stays) =
    let fails : can_follow (the_key records) records entry ≡ false =
    ap (λ o. can_follow o records entry) holds.keyed ∙ ap (λ l. can_follow (Some old.key) l entry) (sym holds.same) ∙ not in
    first_illegal_appended records entry
    ∙ ap (λ o. option_or o (cond (can_follow (the_key records) records entry) None (Some (length records)))) (none_from_legal records holds.legal)
    ∙ ap (λ b. cond b None (Some (length records))) fails ∙ ap (λ l. Some (length l)) (sym holds.same) ∙ ap Some (sym is)
holds_refused records old new entry OutOfMemory holds (follows, lacking, stays) = record {
  place = length records;
  entry = entry;
  stands = slice_get_new records entry;
  legal = subst IsLegal (sym (take_all (length records + 1) (records ++ entry ∷ []) (omega (arith, length_one_more records entry))))
      (legal_with records old entry holds follows);
  later = some_held records old holds;
  lacking = elim lacking [
    | inl (takes, none) ↦ inl takes
    | inr full ↦ inr (ap length (sym holds.same) ∙ full)
  ];
}

-- ---- the next record

pub goes_on : (records : List Record) (old new : Table) (entry : Record) (answer : Result (Unit {0}) LedgerFault) → TakesUp old new entry answer
    → IsReplay records (Some old) None → IsReplay (records ++ entry ∷ []) (Some new) (result_err answer)
goes_on records old new entry (Ok done) takes holds = holds_more records old new entry done holds takes
goes_on records old new entry (Err fault) takes holds = holds_refused records old new entry fault holds takes

-- a replay that wasn't refused takes a record
pub takes : (records : List Record) (old new : Option Table) (before after : Option LedgerFault) (entry : Record) (answer : Result (Unit {0}) LedgerFault)
    → before ≡ None → after ≡ result_err answer
    → ((some : List Record) → IsReplay some old None → IsReplay (some ++ entry ∷ []) new (result_err answer)) → IsReplay records old before
    → IsReplay (records ++ entry ∷ []) new after
takes records old new before after entry answer none is next so_far =
    subst (IsReplay (records ++ entry ∷ []) new) (sym is) (next records (subst (IsReplay records old) none so_far))

-- after a fault the rest is ignored
pub ignores : (records : List Record) (entry : Record) (ledger : Option Table) (fault : Option LedgerFault) → (fault ≡ None → ⊥) → IsReplay records ledger fault
    → IsReplay (records ++ entry ∷ []) ledger fault
ignores records entry ledger None some is = absurd (some refl)
ignores records entry ledger (Some fault) some stops = stops_longer records (entry ∷ []) fault stops
