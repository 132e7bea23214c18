-- Serving requests: heads that are read, requests that are answered, turns, and a whole exchange.
use Rattle.std.proofs.Common.{◌≡◌, ◌∙◌, inl, inr, refl, sym, ap, ap₂, subst, arith, ℕ, ◌+◌, ◌<◌, ◌^◌, Bool, true, false, true≢false}
use Rattle.std.proofs.Common.{List, [], ◌∷◌, ◌++◌, length, append_assoc, append-nil, length-append, map, slice_index, Option, Some, None, Result, Ok, Err, IsSome, IsOkAnd, MatchResult}
use Rattle.std.specs.List.{concat}
use Rattle.std.specs.Io.KnownBytes.{Appends}
use Rattle.std.proofs.KnownBytes.{Appends-nil, Appends-trans}
use Rattle.arrayvec.specs.declared.array_vec.ArrayVec.{ArrayVec}
use Rattle.byteorder.specs.Endian.{big_number}
use Rattle.typecodes.specs.declared.message.Message as message
use Rattle.typecodes.specs.Fields.{block}
use Rattle.typecodes.specs.declared.fault.Cause.TheVariants.{Trailing, Truncated}
use Rattle.typecodes.specs.declared.fault.ReadFault.{ReadFault}
use Rattle.typecodes.specs.Layout.{Spells}
use Rattle.typecodes.specs.Message.{CantBeRead, ReadOutcome, ReadWhole, Transitions}
use Rattle.state_file.specs.declared.store.Store as store
use Rattle.sign_core.specs.declared.fault.ServeFault.{ServeFault}
use Rattle.sign_core.specs.declared.fault.ServeFault.TheVariants.{FrameCut, MessageRead, WriteFailed}
use Rattle.sign_core.specs.declared.fault.SignFault.{SignFault}
use Rattle.sign_core.specs.declared.fault.SignFault.TheVariants as fault
use Rattle.sign_core.specs.declared.frames.Head.{Head}
use Rattle.sign_core.specs.declared.serving.Reply.{Reply}
use Rattle.sign_core.specs.declared.serving.Reply.TheVariants.{BadName, Refused, Signed}
use Rattle.sign_core.specs.declared.source.Source as source
use Rattle.sign_core.specs.Fault.{serve_fault_number}
use Rattle.sign_core.specs.Frames.{CutsField, Ending, IsCut, IsWholeMessage, ReadsInput, Request, after_size, broken, ended, given_message, going, head}
use Rattle.sign_core.specs.inner.Frames.{FillsBuffer, ReadsField, ReadsHead, WasReadOrFailed, bytes_of, head_fields}
use Rattle.sign_core.specs.Records.{binding_at}
use Rattle.sign_core.specs.inner.Serving.{Asks, Finishes}
use Rattle.sign_core.specs.Serving.{AnswersBy, AnswersInTurn, AreFrames, Closes, Exchange, Serves, SettlesReply, SignsGiven, Turn}
use Rattle.sign_core.specs.inner.Serving.{Turns, WritesReply, is_unread}
use Rattle.sign_core.specs.Serving.{reply_bytes, reply_frame, reply_of}
use Rattle.sign_core.specs.Signer.{IsRead, IsSigner, KeepsForRepeat, Signs, View, is_before_repeat, is_fault, state_of}
use Rattle.sign_core.specs.Signing.{KeepsCapacity}
use Rattle.sign_core.specs.World.{Outcome}
use Rattle.sign_core.proofs.exchanges.InputReading.{IsPart, part_cut, part_done, reads_close, reads_none, reads_then}
use Rattle.sign_core.proofs.law.UnreadMessages.{IsReported, is_reported}

-- ---- how a frame is answered

-- How a frame's message ends: it came whole, or was cut.
abbrev pub ComesTo : Ending → Request → (is_whole : Bool) → Type 0
ComesTo ending request true = (ending ≡ going) × IsWholeMessage request
ComesTo ending request false = IsCut ending request

-- A request whose head was read is answered: its message is read as far as it comes.
pub record AnswersFrame {S R I : Type 0} (g : store.Ghosts S) (r : source.Ghosts R) (m : message.Ghosts I)
    (said : List ℕ × ℕ) (old new : View S R) (before after : I) (capacity room : ℕ) (signature : List ℕ)
    (result : Reply × Bool) : Type 0 where
  pub request : Request
  pub name : request.name ≡ said.0
  pub announced : request.announced ≡ said.1
  pub ending : Ending
  pub comes : ComesTo ending request result.1
  pub reads : ReadsInput m request.message ending before after
  pub room_kept : KeepsCapacity old.records capacity room
  pub answers : AnswersBy g r result.0 signature request old new capacity
  pub caches : SettlesReply result.0 request.name old new room
  pub is_signer : IsSigner g new

-- ---- heads

abbrev pub Name : Type 0
Name = ArrayVec ℕ 255 (Unit {0})

abbrev pub head_of : Name → (announced : ℕ) → Head
head_of name announced = record { name = name; announced = announced }

pub empty : (xs : List ℕ) → length xs ≡ 0 → xs ≡ []
empty [] is = refl
empty (x ∷ xs) is = absurd (omega (arith, is))

after_cut : (size : ℕ) (name part : List ℕ) → length name ≡ size → length part < 4 → CutsField (after_size size) (name ++ part)
after_cut size name part is less = λ from. (from + size, inr (name, part, refl, is, inl (less, refl)))

after_said : (size : ℕ) (name four : List ℕ) → length name ≡ size → length four ≡ 4 → Spells (after_size size) (name, big_number 4 four) (name ++ four)
after_said size name four is len = (name, four, refl, is, (four, [], sym (append-nil four), len, (refl, refl)))

head_cut : (first rest : List ℕ) → length first ≡ 1 → CutsField (after_size (slice_index first 0)) rest → CutsField head (first ++ rest)
head_cut first rest is cuts = λ from. let (place, fault) = cuts (from + 1) in (place, inr (first, rest, refl, is, fault))

head_said : (first rest : List ℕ) (said : List ℕ × ℕ) → length first ≡ 1 → Spells (after_size (slice_index first 0)) said rest → Spells head said (first ++ rest)
head_said first rest said is spelled = (first, rest, refl, is, spelled)

block_is : (n : ℕ) (value bytes : List ℕ) → Spells (block n) value bytes → (length value ≡ n) × (bytes ≡ value)
block_is n value bytes (front, rest, whole, size, (same, none)) =
    (ap length (sym same) ∙ size, whole ∙ ap (λ l. front ++ l) none ∙ append-nil front ∙ same)

block_cut : (n : ℕ) (part : List ℕ) → CutsField (block n) part → length part < n
block_cut n part cuts = elim (cuts 0).1 [
  | inl (less, same) ↦ less
  | inr (front, rest, whole, size, (some, same)) ↦ let never : Truncated ≡ Trailing = ap (λ (f : ReadFault). f.cause) same in absurd (cc)
]

name_cut_so : {M : Type 0} (m : message.Ghosts M) (size : ℕ) (buffer : List ℕ) (old new : M) (e : ServeFault)
    → length buffer ≡ size → FillsBuffer m buffer old new (Err e) → ReadsField m (block size) bytes_of old new (Err e)
name_cut_so m size buffer old new FrameCut is (part, less, reads) = (part, λ from. (from, inl (omega (arith, less, is), refl)), reads)
name_cut_so m size buffer old new MessageRead is (part, less, reads) = (part, λ from. (from, inl (omega (arith, less, is), refl)), reads)
name_cut_so m size buffer old new WriteFailed is never = absurd never

pub name_cut : {M : Type 0} (m : message.Ghosts M) (size : ℕ) (buffer : List ℕ) (old new : M) (e : ServeFault) (result : Result Name ServeFault)
    → result ≡ Err e → length buffer ≡ size → FillsBuffer m buffer old new (Err e) → ReadsField m (block size) bytes_of old new result
name_cut m size buffer old new e result answer is fills =
    subst (λ (a : Result Name ServeFault). ReadsField m (block size) bytes_of old new a) (sym answer) (name_cut_so m size buffer old new e is fills)

-- where the name is cut, the head is cut
after_name_cut_so : {M : Type 0} (m : message.Ghosts M) (size : ℕ) (old new : M) (e : ServeFault)
    → ReadsField m (block size) bytes_of old new (Err e) → ReadsField m (after_size size) head_fields old new (Err e)
after_name_cut_so m size old new FrameCut (bytes, cuts, reads) =
    (bytes, λ from. (from, inl (block_cut size bytes cuts, refl)), reads)
after_name_cut_so m size old new MessageRead (bytes, cuts, reads) =
    (bytes, λ from. (from, inl (block_cut size bytes cuts, refl)), reads)
after_name_cut_so m size old new WriteFailed never = absurd never

pub after_name_cut : {M : Type 0} (m : message.Ghosts M) (size : ℕ) (old new : M) (e : ServeFault) (result : Result Head ServeFault)
    → result ≡ Err e → ReadsField m (block size) bytes_of old new (Err e) → ReadsField m (after_size size) head_fields old new result
after_name_cut m size old new e result answer name =
    subst (λ (a : Result Head ServeFault). ReadsField m (after_size size) head_fields old new a) (sym answer) (after_name_cut_so m size old new e name)

-- and where the size of the message is cut
after_number_cut_so : {M : Type 0} (m : message.Ghosts M) (size : ℕ) (name : Name) (old middle new : M) (buffer : List ℕ) (e : ServeFault)
    → length buffer ≡ 4 → ReadsField m (block size) bytes_of old middle (Ok name) → FillsBuffer m buffer middle new (Err e)
    → ReadsField m (after_size size) head_fields old new (Err e)
after_number_cut_so m size name old middle new buffer FrameCut four (bytes, spelled, first) (part, less, reads) =
    let (len, is) = block_is size name.items bytes spelled in
    (bytes ++ part, after_cut size bytes part (ap length is ∙ len) (omega (arith, less, four)), reads_then m bytes part ended old middle new first reads)
after_number_cut_so m size name old middle new buffer MessageRead four (bytes, spelled, first) (part, less, reads) =
    let (len, is) = block_is size name.items bytes spelled in
    (bytes ++ part, after_cut size bytes part (ap length is ∙ len) (omega (arith, less, four)), reads_then m bytes part broken old middle new first reads)
after_number_cut_so m size name old middle new buffer WriteFailed four read never = absurd never

pub after_number_cut : {M : Type 0} (m : message.Ghosts M) (size : ℕ) (name : Name) (old middle new : M) (buffer : List ℕ) (e : ServeFault)
    (result : Result Head ServeFault) → result ≡ Err e → length buffer ≡ 4 → ReadsField m (block size) bytes_of old middle (Ok name)
    → FillsBuffer m buffer middle new (Err e) → ReadsField m (after_size size) head_fields old new result
after_number_cut m size name old middle new buffer e result answer four read fills =
    subst (λ (a : Result Head ServeFault). ReadsField m (after_size size) head_fields old new a) (sym answer)
    (after_number_cut_so m size name old middle new buffer e four read fills)

pub after_read : {M : Type 0} (m : message.Ghosts M) (size announced : ℕ) (name : Name) (old middle new : M) (buffer : List ℕ) → length buffer ≡ 4
    → announced ≡ big_number 4 buffer → ReadsField m (block size) bytes_of old middle (Ok name) → ReadsInput m buffer going middle new
    → ReadsField m (after_size size) head_fields old new (Ok (head_of name announced))
after_read m size announced name old middle new buffer four number (bytes, spelled, first) reads =
    let (len, is) = block_is size name.items bytes spelled in
    let one = after_said size bytes buffer (ap length is ∙ len) four in
    let same : ◌≡◌ {A = List ℕ × ℕ} (bytes, big_number 4 buffer) (name.items, announced) = ap₂ (λ (a : List ℕ) (n : ℕ). (a, n)) is (sym number) in
    (bytes ++ buffer, subst (λ v. Spells (after_size size) v (bytes ++ buffer)) same one, reads_then m bytes buffer going old middle new first reads)

-- a head that is cut after its first byte
pub head_ends : {M : Type 0} (m : message.Ghosts M) (first : List ℕ) (old middle new : M) (e : ServeFault) → length first ≡ 1
    → ReadsInput m first going old middle → ReadsField m (after_size (slice_index first 0)) head_fields middle new (Err e) → ReadsHead m old new (Err e)
head_ends m first old middle new FrameCut is reads (rest, cuts, more) =
    (first ++ rest, omega (arith, is, length-append first rest), head_cut first rest is cuts, reads_then m first rest ended old middle new reads more)
head_ends m first old middle new MessageRead is reads (rest, cuts, more) =
    (first ++ rest, head_cut first rest is cuts, reads_then m first rest broken old middle new reads more)
head_ends m first old middle new WriteFailed is reads never = absurd never

pub head_read : {M : Type 0} (m : message.Ghosts M) (first : List ℕ) (found : Head) (old middle new : M) → length first ≡ 1 → ReadsInput m first going old middle
    → ReadsField m (after_size (slice_index first 0)) head_fields middle new (Ok found) → ReadsHead m old new (Ok (Some found))
head_read m first found old middle new is reads (rest, spelled, more) =
    (first ++ rest, head_said first rest (head_fields found) is spelled, reads_then m first rest going old middle new reads more)

-- the rest of a head was read, or not
pub head_after : {M : Type 0} (m : message.Ghosts M) (first : List ℕ) (old middle new : M) (found : Result Head ServeFault)
    (mapped : Result (Option Head) ServeFault) → length first ≡ 1 → ReadsInput m first going old middle
    → ReadsField m (after_size (slice_index first 0)) head_fields middle new found
    → MatchResult found (λ read. IsOkAnd mapped (λ o. o ≡ Some read)) (λ e. mapped ≡ Err e) → ReadsHead m old new mapped
head_after m first old middle new (Ok read) (Ok o) is reads field same =
    subst (λ o. ReadsHead m old new (Ok o)) (sym same) (head_read m first read old middle new is reads field)
head_after m first old middle new (Ok read) (Err e) is reads field same = absurd same
head_after m first old middle new (Err e) mapped is reads field same =
    subst (ReadsHead m old new) (sym same) (head_ends m first old middle new e is reads field)

-- the input ends before a head
pub head_over : {M : Type 0} (m : message.Ghosts M) (first : List ℕ) (old new : M) → length first ≡ 1 → FillsBuffer m first old new (Err FrameCut)
    → ReadsHead m old new (Ok None)
head_over m first old new is (part, less, reads) = subst (λ l. ReadsInput m l ended old new) (empty part (omega (arith, less, is))) reads

pub head_unread : {M : Type 0} (m : message.Ghosts M) (first : List ℕ) (old new : M) (e : ServeFault) → length first ≡ 1 → (e ≡ FrameCut → ⊥)
    → FillsBuffer m first old new (Err e) → ReadsHead m old new (Err e)
head_unread m first old new FrameCut is other fills = absurd (other refl)
head_unread m first old new MessageRead is other (part, less, reads) = (part, λ from. (from, inl (omega (arith, less, is), refl)), reads)
head_unread m first old new WriteFailed is other never = absurd never

-- ---- a message

abbrev pub request_of : (name : List ℕ) → (announced : ℕ) → (text : List ℕ) → Bool → Request
request_of name announced text whole = record { name = name; announced = announced; message = text; is_whole = whole }

-- A message was read as far as it came, by the signer and after it.
pub record ReadTo {M : Type 0} (m : message.Ghosts M) (name : List ℕ) (announced : ℕ) (is_read : Bool) (given : Option (List ℕ)) (old new : M)
    (whole : Bool) : Type 0 where
  pub text : List ℕ
  pub ending : Ending
  pub comes : ComesTo ending (request_of name announced text whole) whole
  pub reads : ReadsInput m text ending old new
  pub given_is : is_read ≡ true → given ≡ given_message (request_of name announced text whole)

module _ {P M : Type 0} (p : message.Ghosts P) (m : message.Ghosts M) (input_of : P → M) (left_of : P → ℕ) (is : IsPart p m input_of left_of) (name : List ℕ) where
  read_whole : (is_read : Bool) (given : Option (List ℕ)) (rest : List ℕ) (old middle new : P) → IsRead p is_read given old middle
      → (is_read ≡ true → given ≡ None → ⊥) → ReadWhole p.transition p.remaining rest middle new
      → ReadTo m name (left_of old) is_read given (input_of old) (input_of new) true
  read_whole true (Some text) rest old middle new first known later =
      let (size, over, reads) = part_done p m input_of left_of is text old middle first in
      let (none, end, more) = part_done p m input_of left_of is rest middle new later in
      let nothing : rest ≡ [] = empty rest (omega (arith, none, over)) in
      record {
        text = text;
        ending = going;
        comes = (refl, (refl, size));
        reads = reads_close m text going (input_of old) (input_of middle) (input_of new) reads
            (subst (λ l. ReadsInput m l going (input_of middle) (input_of new)) nothing more);
        given_is = λ is. refl;
      }
  read_whole true None rest old middle new first known later = absurd (known refl refl)
  read_whole false given rest old middle new same known later =
      let (size, end, more) = part_done p m input_of left_of is rest middle new later in
      subst (λ x. ReadTo m name (left_of x) false given (input_of x) (input_of new) true) same
      (record { text = rest; ending = going; comes = (refl, (refl, size)); reads = more; given_is = λ is. absurd (cc) })

  read_cut : (is_read : Bool) (given : Option (List ℕ)) (old middle new : P) → left_of old < 2 ^ 32 → IsRead p is_read given old middle
      → (is_read ≡ true → given ≡ None → ⊥) → CantBeRead p.transition middle new
      → ReadTo m name (left_of old) is_read given (input_of old) (input_of new) false
  read_cut true (Some text) old middle new bound first known cant =
      let (size, over, reads) = part_done p m input_of left_of is text old middle first in
      let (rest, ending, some, cuts, more) = part_cut p m input_of left_of is middle new (omega (arith, over)) cant in
      absurd (omega (arith, over, some))
  read_cut true None old middle new bound first known cant = absurd (known refl refl)
  read_cut false given old middle new bound same known cant =
      let below : left_of middle < 2 ^ 32 = omega (arith, bound, ap left_of same) in
      let (text, ending, some, cuts, reads) = part_cut p m input_of left_of is middle new below cant in
      subst (λ x. ReadTo m name (left_of x) false given (input_of x) (input_of new) false) same
      (record { text = text; ending = ending; comes = (refl, cuts); reads = reads; given_is = λ is. absurd (cc) })

  read_none : (is_read : Bool) (given : Option (List ℕ)) (old middle new : P) → left_of old < 2 ^ 32 → is_read ≡ true → given ≡ None
      → IsRead p is_read given old middle → new ≡ middle → ReadTo m name (left_of old) is_read given (input_of old) (input_of new) false
  read_none true None old middle new bound known none cant same =
      let (text, ending, some, cuts, reads) = part_cut p m input_of left_of is old middle bound cant in
      record {
        text = text;
        ending = ending;
        comes = (refl, cuts);
        reads = subst (λ x. ReadsInput m text ending (input_of old) (input_of x)) (sym same) reads;
        given_is = λ is. refl;
      }
  read_none true (Some text) old middle new bound known none cant same = absurd (cc)
  read_none false given old middle new bound known none cant same = absurd (cc)

  read_to : (is_read : Bool) (given : Option (List ℕ)) (old middle new : P) (answer : Result (List ℕ) SignFault) (unread whole : Bool)
      → left_of old < 2 ^ 32 → IsRead p is_read given old middle → (answer ≡ Err fault.MessageRead → (is_read ≡ true) × (given ≡ None))
      → (is_read ≡ true → given ≡ None → answer ≡ Err fault.MessageRead) → (unread ≡ true → answer ≡ Err fault.MessageRead)
      → (answer ≡ Err fault.MessageRead → unread ≡ true) → Finishes p unread middle new whole
      → ReadTo m name (left_of old) is_read given (input_of old) (input_of new) whole
  read_to is_read given old middle new answer true true bound first unreported reported says said (never, same) = absurd (cc)
  read_to is_read given old middle new answer true false bound first unreported reported says said (none, same) =
      let (known, nothing) = unreported (says refl) in read_none is_read given old middle new bound known nothing first same
  read_to is_read given old middle new answer false true bound first unreported reported says said (rest, later) =
      read_whole is_read given rest old middle new first (λ known none. true≢false (sym (said (reported known none)))) later
  read_to is_read given old middle new answer false false bound first unreported reported says said cant =
      read_cut is_read given old middle new bound first (λ known none. true≢false (sym (said (reported known none)))) cant

-- ---- what no read changes

module _ {P X : Type 0} (p : message.Ghosts P) (part : P → X)
    (kept : (old : P) (outcome : ReadOutcome) (new : P) → p.transition old outcome new → part new ≡ part old) where
  stays : (outcomes : List ReadOutcome) (old new : P) → Transitions p.transition outcomes old new → part new ≡ part old
  stays [] old new same = ap part same
  stays (outcome ∷ later) old new (next, first, reads) = stays later next new reads ∙ kept old outcome next first

  cant_stays : (old new : P) → CantBeRead p.transition old new → part new ≡ part old
  cant_stays old new (inl (kind, text, (outcomes, reads, gave))) = stays (outcomes ++ Err kind ∷ []) old new reads
  cant_stays old new (inr (text, (outcomes, reads, gave), endless)) = stays outcomes old new reads

  whole_stays : (text : List ℕ) (old new : P) → ReadWhole p.transition p.remaining text old new → part new ≡ part old
  whole_stays text old new whole = let (outcomes, reads, gave) = whole.gave in stays (outcomes ++ Ok [] ∷ []) old new reads

  read_stays : (is_read : Bool) (given : Option (List ℕ)) (old new : P) → IsRead p is_read given old new → part new ≡ part old
  read_stays true (Some text) old new whole = whole_stays text old new whole
  read_stays true None old new cant = cant_stays old new cant
  read_stays false given old new same = ap part same

  pub finish_stays : (unread whole : Bool) (old new : P) → Finishes p unread old new whole → part new ≡ part old
  finish_stays true whole old new (none, same) = ap part same
  finish_stays false true old new (text, all) = whole_stays text old new all
  finish_stays false false old new cant = cant_stays old new cant

  pub asks_stays : {S R : Type 0} (g : store.Ghosts S) (r : source.Ghosts R) (name : List ℕ) (old new : View S R) (before after : P) (capacity : ℕ)
      (signature : List ℕ) (reply : Reply) → Asks g r p name old new before after capacity signature reply → part after ≡ part before
  asks_stays g r name old new before after capacity signature Signed (is_name, signs, repeat) =
      read_stays signs.answers.outcome.is_read signs.answers.chance.given before after signs.message
  asks_stays g r name old new before after capacity signature (Refused e) (is_name, signs, repeat) =
      read_stays signs.answers.outcome.is_read signs.answers.chance.given before after signs.message
  asks_stays g r name old new before after capacity signature BadName (no_name, same, stay) = ap part stay

-- ---- answers

-- a call of sign, by what its message gave
signs_given : {S R P : Type 0} (g : store.Ghosts S) (r : source.Ghosts R) (p : message.Ghosts P) (old new : View S R) (name : List ℕ) (before after : P)
    (capacity : ℕ) (answer : Result (List ℕ) SignFault) (given : Option (List ℕ)) (signs : Signs g r p old new name before after capacity answer)
    → (IsSome (binding_at old.records name) → KeepsForRepeat old new (is_fault is_before_repeat answer))
    → (signs.answers.outcome.is_read ≡ true → signs.answers.chance.given ≡ given)
    → SignsGiven g r old new name given capacity answer
signs_given g r p old new name before after capacity answer given signs repeat tie =
    record { answers = signs.answers; message = tie; repeat = repeat }

says_unread : (e : SignFault) → is_unread (Refused e) ≡ true → ◌≡◌ {A = Result (List ℕ) SignFault} (Err e) (Err fault.MessageRead)
says_unread fault.MessageRead is = refl
says_unread _ is = absurd (cc)

is_said : (e : SignFault) → ◌≡◌ {A = Result (List ℕ) SignFault} (Err e) (Err fault.MessageRead) → is_unread (Refused e) ≡ true
is_said fault.MessageRead is = refl
is_said _ is = absurd (cc)

module _ {S R P M : Type 0} (g : store.Ghosts S) (r : source.Ghosts R) (p : message.Ghosts P) (m : message.Ghosts M) (input_of : P → M) (left_of : P → ℕ)
    (is : IsPart p m input_of left_of) (old new : View S R) (name signature : List ℕ) (before middle after : P) (capacity : ℕ) where
  signed_to : (answer : Result (List ℕ) SignFault) (unread whole : Bool) → left_of before < 2 ^ 32
      → (signs : Signs g r p old new name before middle capacity answer) → (unread ≡ true → answer ≡ Err fault.MessageRead)
      → (answer ≡ Err fault.MessageRead → unread ≡ true) → Finishes p unread middle after whole
      → ReadTo m name (left_of before) signs.answers.outcome.is_read signs.answers.chance.given (input_of before)
      (input_of after) whole
  signed_to answer unread whole bound signs says said finishes =
      let reported = subst (λ (o : Outcome (List ℕ)). IsReported signs.answers.chance.given o) signs.answers.step
      (is_reported (g.most old.store) (state_of old) name signs.answers.chance) in
      let answered = signs.answers.ends.answer_is in
      read_to p m input_of left_of is name signs.answers.outcome.is_read signs.answers.chance.given before middle after
      answer unread whole bound signs.message
      (λ is. reported.unread (answered ∙ is)) (λ known none. sym answered ∙ reported.reported known none) says said finishes

  pub answered_frame : (reply : Reply) (whole : Bool) (room : ℕ) → left_of before < 2 ^ 32 → KeepsCapacity old.records capacity room
      → SettlesReply reply name old new room → IsSigner g new
      → Asks g r p name old new before middle capacity signature reply
      → Finishes p (is_unread reply) middle after whole → AnswersFrame g r m (name, left_of before) old new (input_of before) (input_of after) capacity room signature (reply, whole)
  answered_frame Signed whole room bound kept settles signer (is_name, signs, repeat) finishes =
      let to = signed_to (Ok signature) false whole bound signs (λ is. absurd (cc)) (λ is. absurd (cc)) finishes in
      let request = request_of name (left_of before) to.text whole in
      record {
        request = request;
        name = refl;
        announced = refl;
        ending = to.ending;
        comes = to.comes;
        reads = to.reads;
        room_kept = kept;
        answers = (is_name, signs_given g r p old new name before middle capacity (Ok signature) (given_message request) signs repeat to.given_is);
        caches = settles;
        is_signer = signer;
      }
  answered_frame (Refused e) whole room bound kept settles signer (is_name, signs, repeat) finishes =
      let to = signed_to (Err e) (is_unread (Refused e)) whole bound signs (says_unread e) (is_said e) finishes in
      let request = request_of name (left_of before) to.text whole in
      record {
        request = request;
        name = refl;
        announced = refl;
        ending = to.ending;
        comes = to.comes;
        reads = to.reads;
        room_kept = kept;
        answers = (is_name, signs_given g r p old new name before middle capacity (Err e) (given_message request) signs repeat to.given_is);
        caches = settles;
        is_signer = signer;
      }
  answered_frame BadName whole room bound kept settles signer (no_name, same, stays) finishes =
      let to : ReadTo m name (left_of before) false None (input_of before) (input_of after) whole =
      read_to p m input_of left_of is name false None before middle after (Err fault.Changed) false whole bound stays (λ is. absurd (cc)) (λ known none. absurd (cc))
      (λ is. absurd (cc)) (λ is. absurd (cc)) finishes in
      record {
        request = request_of name (left_of before) to.text whole;
        name = refl;
        announced = refl;
        ending = to.ending;
        comes = to.comes;
        reads = to.reads;
        room_kept = kept;
        answers = (no_name, same);
        caches = settles;
        is_signer = signer;
      }

-- ---- the end of a message

-- what is left of it was read, or can't be
after_finishing : {P : Type 0} (p : message.Ghosts P) (old new : P) (whole : Bool) → Finishes p false old new whole → WasReadOrFailed p new
after_finishing p old new true (text, all) = (old, inl (text, all))
after_finishing p old new false cant = (old, inr cant)

-- the signer couldn't read it
after_unread : {P : Type 0} (p : message.Ghosts P) (is_read : Bool) (given : Option (List ℕ)) (old middle new : P) → is_read ≡ true → given ≡ None
    → IsRead p is_read given old middle → new ≡ middle → WasReadOrFailed p new
after_unread p true None old middle new known none cant same = (old, inr (subst (CantBeRead p.transition old) (sym same) cant))
after_unread p true (Some text) old middle new known none cant same = absurd (cc)
after_unread p false given old middle new known none cant same = absurd (cc)

module _ {S R P : Type 0} (g : store.Ghosts S) (r : source.Ghosts R) (p : message.Ghosts P) (old new : View S R) (name signature : List ℕ)
    (before middle after : P) (capacity : ℕ) (whole : Bool) where
  after_refusal : (e : SignFault) (unread : Bool) → (unread ≡ true → ◌≡◌ {A = Result (List ℕ) SignFault} (Err e) (Err fault.MessageRead))
      → Signs g r p old new name before middle capacity (Err e) → Finishes p unread middle after whole → WasReadOrFailed p after
  after_refusal e false says signs finishes = after_finishing p middle after whole finishes
  after_refusal e true says signs (none, same) =
      let reported = subst (λ (o : Outcome (List ℕ)). IsReported signs.answers.chance.given o) signs.answers.step
      (is_reported (g.most old.store) (state_of old) name signs.answers.chance) in
      let (known, nothing) = reported.unread (signs.answers.ends.answer_is ∙ says refl) in
      after_unread p signs.answers.outcome.is_read signs.answers.chance.given before middle after known nothing
      signs.message same

  pub after_answer : (reply : Reply) → Asks g r p name old new before middle capacity signature reply → Finishes p (is_unread reply) middle after whole
      → WasReadOrFailed p after
  after_answer Signed asks finishes = after_finishing p middle after whole finishes
  after_answer (Refused e) (is_name, signs, repeat) finishes = after_refusal e (is_unread (Refused e)) (says_unread e) signs finishes
  after_answer BadName asks finishes = after_finishing p middle after whole finishes

-- `AnswersFrame` along equal values
pub answered_at : {S R I : Type 0} (g : store.Ghosts S) (r : source.Ghosts R) (m : message.Ghosts I) (said : List ℕ × ℕ) (name : List ℕ) (announced : ℕ)
    (old new : View S R) (before after reader : I) (capacity room : ℕ) (signature : List ℕ) (result : Reply × Bool) → name ≡ said.0 → announced ≡ said.1
    → after ≡ reader → AnswersFrame g r m (name, announced) old new before after capacity room signature result
    → AnswersFrame g r m said old new before reader capacity room signature result
answered_at g r m said name announced old new before after reader capacity room signature result name_is announced_is same frame = record {
  request = frame.request;
  name = frame.name ∙ name_is;
  announced = frame.announced ∙ announced_is;
  ending = frame.ending;
  comes = frame.comes;
  reads = subst (λ x. ReadsInput m frame.request.message frame.ending before x) same frame.reads;
  room_kept = frame.room_kept;
  answers = frame.answers;
  caches = frame.caches;
  is_signer = frame.is_signer;
}

-- ---- turns

-- A turn before its reply is written.
pub record Taken {S R I : Type 0} (g : store.Ghosts S) (r : source.Ghosts R) (m : message.Ghosts I) (old new : View S R) (before after : I)
    (capacity room : ℕ) (reply : List ℕ) (fault : Option ServeFault) : Type 0 where
  pub bytes : List ℕ
  pub ending : Ending
  pub exchanges : List Exchange
  pub turn : Turn bytes ending exchanges reply fault
  pub reads : ReadsInput m bytes ending before after
  pub answers : AnswersInTurn g r exchanges old new capacity room

pub taken_head : {S R I : Type 0} (g : store.Ghosts S) (r : source.Ghosts R) (m : message.Ghosts I) (signer : View S R) (before after : I) (capacity : ℕ)
    (e : ServeFault) → ReadsHead m before after (Err e) → Taken g r m signer signer before after capacity capacity (reply_frame (serve_fault_number e) []) (Some e)
taken_head g r m signer before after capacity FrameCut (bytes, some, cuts, reads) =
    record { bytes = bytes; ending = ended; exchanges = []; turn = (refl, refl, some, cuts, refl); reads = reads; answers = (refl, refl) }
taken_head g r m signer before after capacity MessageRead (bytes, cuts, reads) =
    record { bytes = bytes; ending = broken; exchanges = []; turn = inl (refl, refl, cuts, refl); reads = reads; answers = (refl, refl) }
taken_head g r m signer before after capacity WriteFailed never = absurd never

-- the fault after a message that came whole, and after one that was cut
abbrev pub fault_after : Bool → Option ServeFault
fault_after true = None
fault_after false = Some MessageRead

pub taken_frame : {S R I : Type 0} (g : store.Ghosts S) (r : source.Ghosts R) (m : message.Ghosts I) (found : Head) (old new : View S R) (before middle after : I)
    (capacity room : ℕ) (signature : List ℕ) (reply : Reply) (whole : Bool) → ReadsHead m before middle (Ok (Some found))
    → AnswersFrame g r m (head_fields found) old new middle after capacity room signature (reply, whole)
    → Taken g r m old new before after capacity room (reply_bytes reply signature) (fault_after whole)
taken_frame g r m found old new before middle after capacity room signature reply whole (front, spelled, reads) frame =
    let request = frame.request in
    let exchange : Exchange = record { request = request; reply = reply; signature = signature } in
    let said : ◌≡◌ {A = List ℕ × ℕ} (head_fields found) (request.name, request.announced) = sym (pair_of _ _ _ _ frame.name frame.announced) in
    record {
      bytes = front ++ request.message;
      ending = frame.ending;
      exchanges = exchange ∷ [];
      turn = turn_of exchange front frame.ending whole (subst (λ x. Spells head x front) said spelled) frame.comes;
      reads = reads_then m front request.message frame.ending before middle after reads frame.reads;
      answers = (new, room, (frame.room_kept, frame.answers, frame.caches, frame.is_signer), (refl, refl));
    }
  where
    pair_of : (a b : List ℕ) (x y : ℕ) → a ≡ b → x ≡ y → ◌≡◌ {A = List ℕ × ℕ} (a, x) (b, y)
    pair_of a b x y first second = subst (λ c. ◌≡◌ {A = List ℕ × ℕ} (a, x) (c, y)) first (ap (λ z. (a, z)) second)

    turn_of : (exchange : Exchange) (front : List ℕ) (ending : Ending) (whole : Bool) → Spells head (exchange.request.name, exchange.request.announced) front
        → ComesTo ending exchange.request whole → Turn (front ++ exchange.request.message) ending (exchange ∷ []) (reply_of exchange) (fault_after whole)
    turn_of exchange front ending true spelled (more, all) = (exchange, refl, more, (front, spelled, refl), all, refl)
    turn_of exchange front ending false spelled cut = inr (exchange, refl, (front, spelled, refl), cut, refl)

-- the reply was written,
module _ {S R I : Type 0} (g : store.Ghosts S) (r : source.Ghosts R) (m : message.Ghosts I) (old new : View S R) (before after : I) (capacity room : ℕ)
    (contents left : Option (List ℕ)) where
  pub turn_goes : (reply : List ℕ) → Taken g r m old new before after capacity room reply None → Appends contents left reply
      → Turns g r m old new before after contents left capacity room (Ok true)
  turn_goes reply taken written = record {
    bytes = taken.bytes;
    ending = taken.ending;
    exchanges = taken.exchanges;
    written = reply;
    ends = taken.turn;
    reads = taken.reads;
    answers = taken.answers;
    writes = written;
  }

  pub turn_fails : (reply : List ℕ) (e : ServeFault) → Taken g r m old new before after capacity room reply (Some e) → Appends contents left reply
      → Turns g r m old new before after contents left capacity room (Err e)
  turn_fails reply FrameCut taken written = record {
    bytes = taken.bytes;
    ending = taken.ending;
    exchanges = taken.exchanges;
    written = reply;
    ends = taken.turn;
    reads = taken.reads;
    answers = taken.answers;
    writes = written;
  }
  turn_fails reply MessageRead taken written = record {
    bytes = taken.bytes;
    ending = taken.ending;
    exchanges = taken.exchanges;
    written = reply;
    ends = taken.turn;
    reads = taken.reads;
    answers = taken.answers;
    writes = written;
  }
  turn_fails reply WriteFailed taken written = absurd taken.turn

  -- or a part of it
  pub turn_lost : (reply : List ℕ) (fault : Option ServeFault) (e : ServeFault) → Taken g r m old new before after capacity room reply fault
      → WritesReply reply contents left (Err e) → Turns g r m old new before after contents left capacity room (Err e)
  turn_lost reply fault WriteFailed taken (part, lost, is, written) = record {
    bytes = taken.bytes;
    ending = taken.ending;
    exchanges = taken.exchanges;
    written = part;
    ends = (lost, fault, subst (λ l. Turn taken.bytes taken.ending taken.exchanges l fault) is taken.turn);
    reads = taken.reads;
    answers = taken.answers;
    writes = written;
  }
  turn_lost reply fault FrameCut taken never = absurd never
  turn_lost reply fault MessageRead taken never = absurd never

-- A head that is cut gets a reply, or the reply is lost.
module _ {S R I : Type 0} (g : store.Ghosts S) (r : source.Ghosts R) (m : message.Ghosts I) (signer : View S R) (before after : I) (capacity : ℕ)
    (contents left : Option (List ℕ)) (e : ServeFault) (number : ℕ) (is : number ≡ serve_fault_number e) (head_is : ReadsHead m before after (Err e)) where
  pub head_failed : Appends contents left (reply_frame number []) → Turns g r m signer signer before after contents left capacity capacity (Err e)
  head_failed written =
      turn_fails g r m signer signer before after capacity capacity contents left (reply_frame (serve_fault_number e) []) e
      (taken_head g r m signer before after capacity e head_is) (subst (λ n. Appends contents left (reply_frame n [])) is written)

  pub head_lost : (lost : ServeFault) (result : Result Bool ServeFault) → result ≡ Err lost → WritesReply (reply_frame number []) contents left (Err lost)
      → Turns g r m signer signer before after contents left capacity capacity result
  head_lost lost result answer writes =
      subst (λ (a : Result Bool ServeFault). Turns g r m signer signer before after contents left capacity capacity a) (sym answer)
      (turn_lost g r m signer signer before after capacity capacity contents left (reply_frame (serve_fault_number e) []) (Some e) lost
      (taken_head g r m signer before after capacity e head_is) (subst (λ n. WritesReply (reply_frame n []) contents left (Err lost)) is writes))

-- So does a request.
module _ {S R I : Type 0} (g : store.Ghosts S) (r : source.Ghosts R) (m : message.Ghosts I) (found : Head) (old new : View S R) (before middle after : I)
    (capacity room : ℕ) (signature bytes : List ℕ) (reply : Reply) (whole : Bool) (contents left : Option (List ℕ)) (same : bytes ≡ signature)
    (head_is : ReadsHead m before middle (Ok (Some found)))
    (frame : AnswersFrame g r m (head_fields found) old new middle after capacity room signature (reply, whole)) where
  frame_taken : (b : Bool) → whole ≡ b → Taken g r m old new before after capacity room (reply_bytes reply bytes) (fault_after b)
  frame_taken b is =
      subst (λ (s : List ℕ). Taken g r m old new before after capacity room (reply_bytes reply s) (fault_after b)) (sym same)
      (subst (λ (w : Bool). Taken g r m old new before after capacity room (reply_bytes reply signature) (fault_after w)) is
      (taken_frame g r m found old new before middle after capacity room signature reply whole head_is frame))

  pub frame_goes : whole ≡ true → Appends contents left (reply_bytes reply bytes) → Turns g r m old new before after contents left capacity room (Ok true)
  frame_goes is written = turn_goes g r m old new before after capacity room contents left (reply_bytes reply bytes) (frame_taken true is) written

  pub frame_cut : whole ≡ false → Appends contents left (reply_bytes reply bytes) → Turns g r m old new before after contents left capacity room (Err MessageRead)
  frame_cut is written =
      turn_fails g r m old new before after capacity room contents left (reply_bytes reply bytes) MessageRead (frame_taken false is) written

  pub frame_lost : (lost : ServeFault) (result : Result Bool ServeFault) → result ≡ Err lost → WritesReply (reply_bytes reply bytes) contents left (Err lost)
      → Turns g r m old new before after contents left capacity room result
  frame_lost lost result answer writes =
      subst (λ (a : Result Bool ServeFault). Turns g r m old new before after contents left capacity room a) (sym answer)
      (turn_lost g r m old new before after capacity room contents left (reply_bytes reply bytes) (fault_after whole) lost (frame_taken whole refl) writes)

pub turn_over : {S R I : Type 0} (g : store.Ghosts S) (r : source.Ghosts R) (m : message.Ghosts I) (signer : View S R) (before after : I) (capacity : ℕ)
    (contents : Option (List ℕ)) → ReadsHead m before after (Ok None) → Turns g r m signer signer before after contents contents capacity capacity (Ok false)
turn_over g r m signer before after capacity contents reads = record {
  bytes = [];
  ending = ended;
  exchanges = [];
  written = [];
  ends = (refl, refl, refl, refl);
  reads = reads;
  answers = (refl, refl);
  writes = Appends-nil contents;
}

-- ---- a whole exchange

answers_append : {S R : Type 0} (g : store.Ghosts S) (r : source.Ghosts R) (xs ys : List Exchange) (old middle new : View S R) (capacity room after : ℕ)
    → AnswersInTurn g r xs old middle capacity room → AnswersInTurn g r ys middle new room after → AnswersInTurn g r (xs ++ ys) old new capacity after
answers_append g r [] ys old middle new capacity room after (same, is) later =
    subst (λ v. AnswersInTurn g r ys v new capacity after) same (subst (λ n. AnswersInTurn g r ys middle new n after) is later)
answers_append g r (x ∷ xs) ys old middle new capacity room after (next, space, first, rest) later =
    (next, space, first, answers_append g r xs ys next middle new space room after rest later)

frames_append : (xs ys : List Exchange) (a b : List ℕ) → AreFrames xs a → AreFrames ys b → AreFrames (xs ++ ys) (a ++ b)
frames_append [] ys a b none more = subst (λ l. AreFrames ys (l ++ b)) (sym none) more
frames_append (x ∷ xs) ys a b (own, rest, is, frame, whole, later) more =
    (own, rest ++ b, ap (λ l. l ++ b) is ∙ append_assoc own rest b, frame, whole, frames_append xs ys rest b later more)

replies_append : (xs ys : List Exchange) → concat (map reply_of (xs ++ ys)) ≡ concat (map reply_of xs) ++ concat (map reply_of ys)
replies_append [] ys = refl
replies_append (x ∷ xs) ys =
    ap (λ l. reply_of x ++ l) (replies_append xs ys) ∙ sym (append_assoc (reply_of x) (concat (map reply_of xs)) (concat (map reply_of ys)))

-- `count` whole requests were served.
pub record HasServed {S R I : Type 0} (g : store.Ghosts S) (r : source.Ghosts R) (m : message.Ghosts I) (old new : View S R) (before after : I)
    (contents left : Option (List ℕ)) (capacity room count : ℕ) : Type 0 where
  pub whole : List Exchange
  pub frames : List ℕ
  pub count_is : length whole ≡ count
  pub are_frames : AreFrames whole frames
  pub reads : ReadsInput m frames going before after
  pub answers : AnswersInTurn g r whole old new capacity room
  pub writes : Appends contents left (concat (map reply_of whole))

pub served_none : {S R I : Type 0} (g : store.Ghosts S) (r : source.Ghosts R) (m : message.Ghosts I) (signer : View S R) (before : I)
    (contents : Option (List ℕ)) (capacity : ℕ) → HasServed g r m signer signer before before contents contents capacity capacity 0
served_none g r m signer before contents capacity = record {
  whole = [];
  frames = [];
  count_is = refl;
  are_frames = refl;
  reads = reads_none m before;
  answers = (refl, refl);
  writes = Appends-nil contents;
}

module _ {S R I : Type 0} (g : store.Ghosts S) (r : source.Ghosts R) (m : message.Ghosts I) (old middle new : View S R) (before between after : I)
    (contents given left : Option (List ℕ)) (capacity room space count : ℕ) where
  pub served_more : (went : Bool) → went ≡ true → HasServed g r m old middle before between contents given capacity room count
      → Turns g r m middle new between after given left room space (Ok went)
      → HasServed g r m old new before after contents left capacity space (count + 1)
  served_more false never served turn = absurd (cc)
  served_more true went served turn =
      let (exchange, only, more, frame, whole, reply) = turn.ends in
      let all : (turn.bytes ≡ turn.bytes ++ []) = sym (append-nil turn.bytes) in
      let own : AreFrames (exchange ∷ []) turn.bytes = (turn.bytes, [], all, frame, whole, refl) in
      let said : turn.written ≡ concat (map reply_of (exchange ∷ [])) = reply ∙ sym (append-nil (reply_of exchange)) in
      record {
        whole = served.whole ++ exchange ∷ [];
        frames = served.frames ++ turn.bytes;
        count_is = omega (arith, served.count_is, length-append served.whole (exchange ∷ []));
        are_frames = frames_append served.whole (exchange ∷ []) served.frames turn.bytes served.are_frames own;
        reads = reads_then m served.frames turn.bytes going before between after served.reads (subst (λ e. ReadsInput m turn.bytes e between after) more turn.reads);
        answers = answers_append g r served.whole (exchange ∷ []) old middle new capacity room space served.answers
            (subst (λ l. AnswersInTurn g r l middle new room space) only turn.answers);
        writes = subst (Appends contents left) (sym (replies_append served.whole (exchange ∷ [])))
            (Appends-trans contents given left (concat (map reply_of served.whole)) (concat (map reply_of (exchange ∷ []))) served.writes
            (subst (Appends given left) said turn.writes));
      }

  -- and what ends the serving
  closed : (served : HasServed g r m old middle before between contents given 0 room count) (result : Result ℕ ServeFault)
      (bytes : List ℕ) (ending : Ending) (exchanges : List Exchange) (written : List ℕ) → Closes (length served.whole) bytes ending exchanges written result
      → ReadsInput m bytes ending between after → AnswersInTurn g r exchanges middle new room space → Appends given left written
      → Serves g r m old new before after contents left result
  closed served result bytes ending exchanges written closes reads answers writes = record {
    input = served.frames ++ bytes;
    ending = ending;
    exchanges = served.whole ++ exchanges;
    output = concat (map reply_of served.whole) ++ written;
    session = record {
      whole = served.whole;
      frames = served.frames;
      are_frames = served.are_frames;
      last = exchanges;
      rest = bytes;
      written = written;
      closes = closes;
      exchanges_are = refl;
      input_is = refl;
      output_is = refl;
    };
    reads = reads_then m served.frames bytes ending before between after served.reads reads;
    capacity = space;
    answers = answers_append g r served.whole exchanges old middle new 0 room space served.answers answers;
    writes = Appends-trans contents given left (concat (map reply_of served.whole)) written served.writes writes;
  }

  pub serves_to_end : (went : Bool) → went ≡ false → HasServed g r m old middle before between contents given 0 room count
      → Turns g r m middle new between after given left room space (Ok went) → count < 2 ^ 32
      → Serves g r m old new before after contents left (Ok count)
  serves_to_end true never served turn within_limit = absurd (cc)
  serves_to_end false stays served turn within_limit =
      let (none, over, nothing, silent) = turn.ends in
      closed served (Ok count) turn.bytes turn.ending turn.exchanges turn.written
      (sym served.count_is, none, nothing, silent, inl (over, omega (arith, within_limit, served.count_is))) turn.reads turn.answers turn.writes

  pub serves_to_fault : (e : ServeFault) → HasServed g r m old middle before between contents given 0 room count
      → Turns g r m middle new between after given left room space (Err e) → count < 2 ^ 32
      → Serves g r m old new before after contents left (Err e)
  serves_to_fault e served turn within_limit =
      closed served (Err e) turn.bytes turn.ending turn.exchanges turn.written (omega (arith, within_limit, served.count_is), turn.ends) turn.reads turn.answers
      turn.writes

pub serves_all : {S R I : Type 0} (g : store.Ghosts S) (r : source.Ghosts R) (m : message.Ghosts I) (old new : View S R) (before after : I)
    (contents left : Option (List ℕ)) (room count : ℕ) → HasServed g r m old new before after contents left 0 room count → count ≡ 2 ^ 32
    → Serves g r m old new before after contents left (Ok count)
serves_all g r m old new before after contents left room count served all =
    closed g r m old new new before after after contents left left 0 room room count served (Ok count) [] going [] []
    (sym served.count_is, refl, refl, refl, inr (refl, served.count_is ∙ all)) (reads_none m after) (refl, refl) (Appends-nil left)
