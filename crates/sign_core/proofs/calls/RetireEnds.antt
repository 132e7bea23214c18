-- Each end of a call of retire is a step of the world.
use Rattle.std.proofs.Common.{◌≡◌, ℕ, ◌+◌, ◌<◌, ◌≤◌, Bool, true, false, List, [], ◌++◌, length, Some, None, Result, Err, refl, sym, ap, ◌∙◌}
use Rattle.std.proofs.Common.{arith, true≢false, append-nil}
use Rattle.std.specs.Prelude.{take, nat_le, nat_lt, not, if◌then◌else◌}
use Rattle.std.proofs.Math.Seq.{take-length}
use Rattle.std.proofs.lemmas.Bool.Decides.{nat_tests}
use Rattle.state_file.specs.declared.record.Key.{Key}
use Rattle.state_file.specs.declared.record.Record.{Record}
use Rattle.state_file.specs.declared.record.Record.TheVariants.{Retire}
use Rattle.state_file.specs.declared.store.Store as store
use Rattle.state_file.specs.Disk.{Counts}
use Rattle.state_file.specs.Laws.{bottom_of}
use Rattle.state_file.proofs.Moments.{started}
use Rattle.sign_core.specs.declared.fault.SignFault.{SignFault}
use Rattle.sign_core.specs.declared.fault.SignFault.TheVariants.{RandomRepeated, MessageRead, Moved, RetireRange, LongName, NoKey, Illegal, DeviceFailed, NoMemoryToOpen}
use Rattle.sign_core.specs.declared.fault.SignFault.TheVariants.{Changed, Exhausted, RandomFailed, StoreFailed, Stopped, Damaged, OutOfMemory, LedgerFull}
use Rattle.sign_core.specs.declared.fault.SignFault.TheVariants.{Unreadable, KeyThere}
use Rattle.sign_core.specs.Records.{has_moved, the_key, leaves_of_current, next_at}
use Rattle.sign_core.specs.Cuts.{IsBeginning}
use Rattle.sign_core.specs.inner.Signer.{Hinders, added}
use Rattle.sign_core.specs.Signer.{IsSigner, IsTied, Retires, View, is_out_of_memory, is_store_failed, state_of}
use Rattle.sign_core.specs.World.{Fate, Outcome, State, acked, answered, refused, retired}
use Rattle.sign_core.proofs.steps.Cases.{retired_key}
use Rattle.sign_core.proofs.calls.AppendMoments.{LeavesItsList}

-- a retiring, by what refuses it
abbrev judged : State → (upto : ℕ) → Fate → (closed moved range done full : Bool) → Outcome (Unit {0})
judged state upto fate closed moved range done full =
    if closed then refused state Stopped
    else (if moved then refused state Moved
    else (if range then refused state RetireRange
    else (if done then answered state tt
    else (if full then refused state LedgerFull
    else added state (Retire upto) fate))))

retired_judged : (limit : ℕ) (state : State) (upto : ℕ) (fate : Fate) (key : Key) → the_key state.records ≡ Some key
    → retired limit state upto fate ≡ judged state upto fate (not state.is_open) (has_moved state.records) (nat_lt (leaves_of_current key.secret state.records
    (bottom_of key.secret)) upto) (nat_le upto (next_at key.secret state.records (bottom_of key.secret))) (nat_lt limit (length state.records + 1))
retired_judged limit state upto fate key keyed = ap (retired_key limit state upto fate) keyed

along : {a a' b b' c c' d d' e e' : Bool} (state : State) (upto : ℕ) (fate : Fate) → a ≡ a' → b ≡ b' → c ≡ c' → d ≡ d' → e ≡ e'
    → judged state upto fate a b c d e ≡ judged state upto fate a' b' c' d' e'
along state upto fate h k l m n = λ i. judged state upto fate (h i) (k i) (l i) (m i) (n i)

pub closed_step : (limit : ℕ) (state : State) (upto : ℕ) (fate : Fate) (key : Key) → the_key state.records ≡ Some key → state.is_open ≡ false
    → retired limit state upto fate ≡ refused state Stopped
closed_step limit state upto fate key keyed shut = retired_judged limit state upto fate key keyed ∙ along state upto fate (ap not shut) refl refl refl refl

pub moved_step : (limit : ℕ) (state : State) (upto : ℕ) (fate : Fate) (key : Key) → the_key state.records ≡ Some key → state.is_open ≡ true
    → has_moved state.records ≡ true
    → retired limit state upto fate ≡ refused state Moved
moved_step limit state upto fate key keyed opened moved = retired_judged limit state upto fate key keyed
    ∙ along state upto fate (ap not opened) moved refl refl refl

pub range_step : (limit : ℕ) (state : State) (upto : ℕ) (fate : Fate) (key : Key) → the_key state.records ≡ Some key → state.is_open ≡ true
    → has_moved state.records ≡ false
    → leaves_of_current key.secret state.records (bottom_of key.secret) < upto → retired limit state upto fate ≡ refused state RetireRange
range_step limit state upto fate key keyed opened stays past =
    let range : nat_lt (leaves_of_current key.secret state.records (bottom_of key.secret)) upto ≡ true = grind (arith, nat_tests) in
    retired_judged limit state upto fate key keyed ∙ along state upto fate (ap not opened) stays range refl refl

pub done_step : (limit : ℕ) (state : State) (upto : ℕ) (fate : Fate) (key : Key) → the_key state.records ≡ Some key → state.is_open ≡ true
    → has_moved state.records ≡ false
    → upto ≤ leaves_of_current key.secret state.records (bottom_of key.secret) → upto ≤ next_at key.secret state.records (bottom_of key.secret)
    → retired limit state upto fate ≡ answered state tt
done_step limit state upto fate key keyed opened stays inside before =
    let range : nat_lt (leaves_of_current key.secret state.records (bottom_of key.secret)) upto ≡ false = grind (arith, nat_tests) in
    let done : nat_le upto (next_at key.secret state.records (bottom_of key.secret)) ≡ true = grind (arith, nat_tests) in
    retired_judged limit state upto fate key keyed ∙ along state upto fate (ap not opened) stays range done refl

-- ---- ends

-- what a crash before the first write leaves
pub beginning_kept : (records left all : List Record) → left ≡ records → all ≡ records ++ [] → IsBeginning (length records) all left
beginning_kept records left all is kept = record {
  count = length records;
  enough = omega arith;
  beginning = is ∙ sym (ap (take (length records)) (kept ∙ append-nil records) ∙ take-length records);
}

tied_running : {S R : Type 0} (g : store.Ghosts S) (v : View S R) → IsSigner g v → g.stopped v.store ≡ false → (b : Bool) → v.is_open ≡ b
    → IsTied g v.store v.records
tied_running g v signer running true is = signer.tied is
tied_running g v signer running false is = absurd (true≢false (sym (signer.shut is) ∙ running))

pub left_retires : {S R : Type 0} (g : store.Ghosts S) (v : View S R) (upto : ℕ) (answer : Result (Unit {0}) SignFault) → IsSigner g v
    → LeavesItsList g v.store
    → ((fate : Fate) → retired (g.most v.store) (state_of v) upto fate
    ≡ record { state = state_of v; answer = answer; acknowledged = v.records; failed = None; drawn = []; is_read = false })
    → ((n : ℕ) → Counts is_store_failed n n answer) → ((n : ℕ) → Counts is_out_of_memory n n answer) → Retires g v v upto answer
left_retires g v upto answer signer only step failures refusals = record {
  fate = acked;
  outcome = record { state = state_of v; answer = answer; acknowledged = v.records; failed = None; drawn = []; is_read = false };
  step = step acked;
  ends = record {
    answer_is = refl;
    records = refl;
    is_open = refl;
    store = record {
      list = record { more = []; list = sym (append-nil _); records = sym (append-nil _) };
      moments = λ honest running. started g.moment g.left_since v.store _ (λ left since. beginning_kept v.records left _ (only left honest running since
          ∙ (tied_running g v signer running v.is_open refl).same honest) refl);
      failures = failures _;
      honest = refl;
      most = refl;
    };
    unreadable = refl;
    asked = refl;
  };
  random = refl;
  cached = refl;
  refusals = refusals _;
  spare = refl;
  stays = λ _ _. refl;
}

pub hindered_retires : {S R : Type 0} (g : store.Ghosts S) (v : View S R) (upto : ℕ) (key : Key) (fault : SignFault) → IsSigner g v
    → LeavesItsList g v.store
    → the_key v.records ≡ Some key → Hinders v.is_open (has_moved v.records) fault → Retires g v v upto (Err fault)
hindered_retires g v upto key Stopped signer only keyed why =
    left_retires g v upto (Err Stopped) signer only (λ fate. closed_step (g.most v.store) (state_of v) upto fate key keyed why) (λ n. refl) (λ n. refl)
hindered_retires g v upto key Moved signer only keyed why =
    left_retires g v upto (Err Moved) signer only (λ fate. moved_step (g.most v.store) (state_of v) upto fate key keyed why.0 why.1) (λ n. refl) (λ n. refl)
hindered_retires g v upto key Changed signer only keyed why = absurd why
hindered_retires g v upto key Exhausted signer only keyed why = absurd why
hindered_retires g v upto key RandomFailed signer only keyed why = absurd why
hindered_retires g v upto key StoreFailed signer only keyed why = absurd why
hindered_retires g v upto key OutOfMemory signer only keyed why = absurd why
hindered_retires g v upto key LedgerFull signer only keyed why = absurd why
hindered_retires g v upto key KeyThere signer only keyed why = absurd why
hindered_retires g v upto key RandomRepeated signer only keyed why = absurd why
hindered_retires g v upto key MessageRead signer only keyed why = absurd why
hindered_retires g v upto key RetireRange signer only keyed why = absurd why
hindered_retires g v upto key LongName signer only keyed why = absurd why
hindered_retires g v upto key NoKey signer only keyed why = absurd why
hindered_retires g v upto key DeviceFailed signer only keyed why = absurd why
hindered_retires g v upto key NoMemoryToOpen signer only keyed why = absurd why
hindered_retires g v upto key (Damaged k) signer only keyed why = absurd why
hindered_retires g v upto key (Unreadable k) signer only keyed why = absurd why
hindered_retires g v upto key (Illegal k) signer only keyed why = absurd why
