-- Reads of a file, one after the other.
use Rattle.std.proofs.Common.{◌≡◌, ◌∙◌, ◌<◌, ℕ, ◌≤◌, ◌^◌, List, [], ◌∷◌, ◌++◌, ◌+◌, length, take, Result, Ok, Err, IfOk, IsErrAnd, inl, inr, refl, sym, ap, subst, arith, length-append, length-take-le, take_all, Option, Some, None, ◌⊎◌}
use Rattle.std.specs.Prelude.{MatchResult}
use Rattle.std.specs.declared.io.ErrorKind.{ErrorKind}
use Rattle.std.specs.Io.KnownBytes.{Consumes, IsAtEnd}
use Rattle.std.specs.IoError.{error_kind}
use Rattle.std.specs.declared.io.Error.{Error}
use Rattle.std.specs.declared.io.ErrorKind.TheVariants.{FileTooLarge, OutOfMemory}
use Rattle.typecodes.specs.declared.reading.ReadError.{ReadError}
use Rattle.typecodes.specs.declared.reading.ReadError.TheVariants.{Failed, TooLong, Refused}
use Rattle.typecodes.specs.Message.{Gave, IsContent, ReadOutcome, Transitions, Transition}
use Rattle.typecodes.specs.Reading.{ReadsFull, ReadsToEnd as EndsOrFails, Refuses, Takes}
use Rattle.typecodes.proofs.Messages.{content_at_end, fails-append, gives-all-append, gives-append}
use Rattle.command.specs.Files.{CantKeep, FailsToRead, FillsOrFails, FillsRoom, ReadsAllOrFails}
use Rattle.command.specs.inner.Files.{FileState, ReadsFileOnce, left_of}
use Rattle.command.specs.Refusal.{refusal_of}
use Rattle.command.specs.declared.refusal.Refusal.{Refusal}
use Rattle.command.specs.declared.refusal.Refusal.TheVariants as refused
use Rattle.command.specs.Trace.{Happening, ReadsOn, ReadsOnce, ReadsToEnd, ReadsToFailure}
use Rattle.command.specs.declared.trace.Role.{Role}
use Rattle.command.proofs.Contents.{consumes_both, first_bytes}

-- ---- from a reader to its file

-- A reader's reads are reads of a file, and are noted.
pub record Notes {M : Type 0} (step : Transition M) (role_of : M → Role) (trace_of : M → List Happening) : Type 0 where
  pub role : (old : M) (outcome : ReadOutcome) (new : M) → step old outcome new → role_of new ≡ role_of old
  pub trace : (old : M) (outcome : ReadOutcome) (new : M) → step old outcome new → ReadsOnce (role_of old) (trace_of old) outcome (trace_of new)

pub noted : {M : Type 0} (step : Transition M) (role_of : M → Role) (trace_of : M → List Happening) (role : Role) → Notes step role_of trace_of
    → (outcomes : List ReadOutcome) (old new : M) → role_of old ≡ role → Transitions step outcomes old new
    → Transitions (ReadsOnce role) outcomes (trace_of old) (trace_of new)
noted step role_of trace_of role notes [] old new is same = ap trace_of same
noted step role_of trace_of role notes (outcome ∷ later) old new is (next, first, reads) = (
  trace_of next,
  subst (λ r. ReadsOnce r (trace_of old) outcome (trace_of next)) is (notes.trace old outcome next first),
  noted step role_of trace_of role notes later next new (notes.role old outcome next first ∙ is) reads,
)

-- What no read changes stays.
pub stays : {M X : Type 0} (step : Transition M) (part : M → X) → ((old : M) (outcome : ReadOutcome) (new : M) → step old outcome new → part new ≡ part old)
    → (outcomes : List ReadOutcome) (old new : M) → Transitions step outcomes old new → part new ≡ part old
stays step part kept [] old new same = ap part same
stays step part kept (outcome ∷ later) old new (next, first, reads) =
    stays step part kept later next new reads ∙ kept old outcome next first

pub full_stays : {M X : Type 0} (step : Transition M) (part : M → X) → ((old : M) (outcome : ReadOutcome) (new : M) → step old outcome new → part new ≡ part old)
    → (remaining : M → Option (List ℕ)) (result : Result ℕ Error) (buffer : List ℕ) (old new : M) → ReadsFull step remaining result buffer old new
    → part new ≡ part old
full_stays step part kept remaining (Ok n) buffer old new (inl (full, (outcomes, reads, gave)), bytes, end) = stays step part kept outcomes old new reads
full_stays step part kept remaining (Ok n) buffer old new (inr (less, (outcomes, reads, gave)), bytes, end) =
    stays step part kept (outcomes ++ Ok [] ∷ []) old new reads
full_stays step part kept remaining (Err error) buffer old new (count, less, (outcomes, reads, gave), bytes) =
    stays step part kept (outcomes ++ Err (error_kind error) ∷ []) old new reads

pub end_stays : {M X T A E : Type 0} (step : Transition M) (part : M → X) → ((old : M) (outcome : ReadOutcome) (new : M) → step old outcome new → part new ≡ part old)
    → (remaining : M → Option (List ℕ)) (takes : Takes T) (refuses : Refuses T E) (result : Result A (ReadError E)) (old new : M) (before after : T)
    → EndsOrFails step remaining takes refuses result old new before after → part new ≡ part old
end_stays step part kept remaining takes refuses (Ok a) old new before after (text, whole, taken) =
    let (outcomes, reads, gave) = whole.gave in stays step part kept (outcomes ++ Ok [] ∷ []) old new reads
end_stays step part kept remaining takes refuses (Err (Failed error)) old new before after (taken, rest, (outcomes, reads, gave), short, took) =
    stays step part kept (outcomes ++ Err (error_kind error) ∷ []) old new reads
end_stays step part kept remaining takes refuses (Err TooLong) old new before after (text, (outcomes, reads, gave), long, took) =
    stays step part kept outcomes old new reads
end_stays step part kept remaining takes refuses (Err (Refused fault)) old new before after (taken, piece, middle, took, refuse, inl (outcomes, reads, gave)) =
    stays step part kept outcomes old new reads
end_stays step part kept remaining takes refuses (Err (Refused fault)) old new before after (taken, piece, middle, took, refuse, inr (outcomes, reads, gave)) =
    stays step part kept (outcomes ++ Ok [] ∷ []) old new reads

pub full_noted : {M : Type 0} (step : Transition M) (role_of : M → Role) (trace_of : M → List Happening) → Notes step role_of trace_of
    → (remaining : M → Option (List ℕ)) (result : Result ℕ Error) (buffer : List ℕ) (old new : M) → ReadsFull step remaining result buffer old new
    → FillsOrFails (role_of old) result buffer (trace_of old) (trace_of new)
full_noted step role_of trace_of notes remaining (Ok n) buffer old new (inl (full, (outcomes, reads, gave)), bytes, end) =
    let whole : take n buffer ≡ buffer = take_all n buffer (omega (arith, full)) in
    inl (ap length whole, (outcomes, noted step role_of trace_of (role_of old) notes outcomes old new refl reads, subst (Gave outcomes) (sym whole) gave))
full_noted step role_of trace_of notes remaining (Ok n) buffer old new (inr (less, (outcomes, reads, gave)), bytes, end) = inr (
  omega (arith, less, length-take-le n buffer (omega (arith, less))),
  (outcomes, noted step role_of trace_of (role_of old) notes (outcomes ++ Ok [] ∷ []) old new refl reads, gave),
)
full_noted step role_of trace_of notes remaining (Err error) buffer old new (count, less, (outcomes, reads, gave), bytes) =
    (take count buffer, (outcomes, noted step role_of trace_of (role_of old) notes (outcomes ++ Err (error_kind error) ∷ []) old new refl reads, gave))

-- a reader as the state of its file
abbrev pub as_state : {M : Type 0} → (M → Option (List ℕ)) → (M → List Happening) → M → FileState
as_state remaining trace_of reader = (remaining reader, trace_of reader)

noted_state : {M : Type 0} (step : Transition M) (role_of : M → Role) (trace_of : M → List Happening) (remaining : M → Option (List ℕ)) (role : Role)
    → Notes step role_of trace_of → (outcomes : List ReadOutcome) (old new : M) → role_of old ≡ role → Transitions step outcomes old new
    → Transitions (ReadsFileOnce role) outcomes (as_state remaining trace_of old) (as_state remaining trace_of new)
noted_state step role_of trace_of remaining role notes [] old new is same = ap (as_state remaining trace_of) same
noted_state step role_of trace_of remaining role notes (outcome ∷ later) old new is (next, first, reads) = (
  as_state remaining trace_of next,
  subst (λ r. ReadsOnce r (trace_of old) outcome (trace_of next)) is (notes.trace old outcome next first),
  noted_state step role_of trace_of remaining role notes later next new (notes.role old outcome next first ∙ is) reads,
)

pub end_noted : {M T A E : Type 0} (step : Transition M) (role_of : M → Role) (trace_of : M → List Happening) → Notes step role_of trace_of
    → (remaining : M → Option (List ℕ)) (takes : Takes T) (refuses : Refuses T E) (result : Result A (ReadError E)) (old new : M) (before after : T)
    → EndsOrFails step remaining takes refuses result old new before after
    → EndsOrFails (ReadsFileOnce (role_of old)) left_of takes refuses result (as_state remaining trace_of old) (as_state remaining trace_of new) before after
end_noted step role_of trace_of notes remaining takes refuses (Ok a) old new before after (text, whole, taken) =
    let (outcomes, reads, gave) = whole.gave in (
      text,
      record {
        gave = (outcomes, noted_state step role_of trace_of remaining (role_of old) notes (outcomes ++ Ok [] ∷ []) old new refl reads, gave);
        bytes = whole.bytes;
        end = whole.end;
        short = whole.short;
      },
      taken,
    )
end_noted step role_of trace_of notes remaining takes refuses (Err (Failed error)) old new before after (taken, rest, (outcomes, reads, gave), short, took) =
    (taken, rest, (outcomes, noted_state step role_of trace_of remaining (role_of old) notes (outcomes ++ Err (error_kind error) ∷ []) old new refl reads, gave), short, took)
end_noted step role_of trace_of notes remaining takes refuses (Err TooLong) old new before after (text, (outcomes, reads, gave), long, took) =
    (text, (outcomes, noted_state step role_of trace_of remaining (role_of old) notes outcomes old new refl reads, gave), long, took)
end_noted step role_of trace_of notes remaining takes refuses (Err (Refused fault)) old new before after (taken, piece, middle, took, refuse, inl (outcomes, reads, gave)) =
    (taken, piece, middle, took, refuse, inl (outcomes, noted_state step role_of trace_of remaining (role_of old) notes outcomes old new refl reads, gave))
end_noted step role_of trace_of notes remaining takes refuses (Err (Refused fault)) old new before after (taken, piece, middle, took, refuse, inr (outcomes, reads, gave)) =
    (taken, piece, middle, took, refuse, inr (outcomes, noted_state step role_of trace_of remaining (role_of old) notes (outcomes ++ Ok [] ∷ []) old new refl reads, gave))

-- ---- the same for the last value that is known of a file

pub via : {A : Type 0} (P : A → Type 0) (x y : A) → P x → x ≡ y → P y
via P x y holds same = subst P same holds

pub end_moved : {T A E : Type 0} (step : Transition FileState) (takes : Takes T) (refuses : Refuses T E) (result : Result A (ReadError E))
    (old : FileState) (left other : Option (List ℕ)) (trace new : List Happening) (before after : T)
    → EndsOrFails step left_of takes refuses result old (left, trace) before after → left ≡ other → trace ≡ new
    → EndsOrFails step left_of takes refuses result old (other, new) before after
end_moved step takes refuses result old left other trace new before after ends same_left same_trace =
    subst (λ t. EndsOrFails step left_of takes refuses result old (other, t) before after) same_trace
    (subst (λ l. EndsOrFails step left_of takes refuses result old (l, trace) before after) same_left ends)

pub full_bytes : {M : Type 0} (step : Transition M) (remaining : M → Option (List ℕ)) (result : Result ℕ Error) (buffer : List ℕ) (old new : M)
    → ReadsFull step remaining result buffer old new
    → IfOk result (λ n. Consumes (remaining old) (remaining new) (take n buffer))
full_bytes step remaining (Ok n) buffer old new (fills, bytes, end) = bytes
full_bytes step remaining (Err error) buffer old new fails = tt

pub full_end : {M : Type 0} (step : Transition M) (remaining : M → Option (List ℕ)) (result : Result ℕ Error) (buffer : List ℕ) (old new : M)
    → ReadsFull step remaining result buffer old new → IfOk result (λ n. n < length buffer → IsAtEnd (remaining new))
full_end step remaining (Ok n) buffer old new (fills, bytes, end) = end
full_end step remaining (Err error) buffer old new fails = tt

-- ---- a file that is read to its end, by its trace alone

trace_reads : (role : Role) (outcomes : List ReadOutcome) (old new : FileState) → Transitions (ReadsFileOnce role) outcomes old new
    → Transitions (ReadsOnce role) outcomes old.1 new.1
trace_reads role [] old new same = ap (λ (file : FileState). file.1) same
trace_reads role (outcome ∷ later) old new (next, first, reads) = (next.1, first, trace_reads role later next new reads)

pub ended : {T A E : Type 0} (role : Role) (takes : Takes T) (refuses : Refuses T E) (value : A) (old new : FileState) (before after : T)
    → EndsOrFails {E = E} (ReadsFileOnce role) left_of takes refuses (Ok value) old new before after
    → (bytes : List ℕ) × IsContent old.0 bytes × takes before bytes after × (length bytes < 2 ^ 60) × ReadsToEnd role bytes old.1 new.1
ended role takes refuses value old new before after (text, whole, taken) =
    let (outcomes, reads, gave) = whole.gave in (
      text,
      content_at_end old.0 new.0 text whole.bytes whole.end,
      taken,
      whole.short,
      (outcomes, trace_reads role (outcomes ++ Ok [] ∷ []) old new reads, gave),
    )

pub ended_failed : (A : Type 0) {T E : Type 0} (role : Role) (takes : Takes T) (refuses : Refuses T E) (error : Error) (old new : FileState) (before after : T)
    → EndsOrFails {A = A} (ReadsFileOnce role) left_of takes refuses (Err (Failed error)) old new before after
    → FailsToRead role (error_kind error) old.1 new.1
ended_failed A role takes refuses error old new before after (taken, rest, (outcomes, reads, gave), short, took) =
    inl (taken ++ rest, (outcomes, trace_reads role (outcomes ++ Err (error_kind error) ∷ []) old new reads, gave))

pub endless : (A : Type 0) {T E : Type 0} (role : Role) (takes : Takes T) (refuses : Refuses T E) (kind : ErrorKind) (old new : FileState) (before after : T)
    → EndsOrFails {A = A} (ReadsFileOnce role) left_of takes refuses (Err TooLong) old new before after → (kind ≡ OutOfMemory → ⊥)
    → FailsToRead role kind old.1 new.1
endless A role takes refuses kind old new before after (text, (outcomes, reads, gave), long, took) other =
    inr (other, (text, (outcomes, trace_reads role outcomes old new reads, gave), long))

pub ended_refused : (A : Type 0) {T E : Type 0} (role : Role) (takes : Takes T) (refuses : Refuses T E) (fault : E) (old new : FileState) (before after : T)
    → EndsOrFails {A = A} (ReadsFileOnce role) left_of takes refuses (Err (Refused fault)) old new before after
    → ((old : T) (piece : List ℕ) (new : T) → refuses old piece fault new → 1 ≤ length piece)
    → (bytes : List ℕ) × (1 ≤ length bytes) × (ReadsOn role bytes old.1 new.1 ⊎ ReadsToEnd role bytes old.1 new.1)
ended_refused A role takes refuses fault old new before after (taken, piece, middle, took, refuse, inl (outcomes, reads, gave)) some = (
  taken ++ piece,
  omega (arith, length-append taken piece, some middle piece after refuse),
  inl (outcomes, trace_reads role outcomes old new reads, gave),
)
ended_refused A role takes refuses fault old new before after (taken, piece, middle, took, refuse, inr (outcomes, reads, gave)) some = (
  taken ++ piece,
  omega (arith, length-append taken piece, some middle piece after refuse),
  inr (outcomes, trace_reads role (outcomes ++ Ok [] ∷ []) old new reads, gave),
)

-- the same for a known answer
pub rest_ended : {T A E : Type 0} (role : Role) (takes : Takes T) (refuses : Refuses T E) (result : Result A (ReadError E)) (value : A) (old new : FileState)
    (before after : T) → result ≡ Ok value → EndsOrFails (ReadsFileOnce role) left_of takes refuses result old new before after
    → (bytes : List ℕ) × IsContent old.0 bytes × takes before bytes after × (length bytes < 2 ^ 60) × ReadsToEnd role bytes old.1 new.1
rest_ended role takes refuses result value old new before after is ends =
    ended role takes refuses value old new before after (subst (λ r. EndsOrFails (ReadsFileOnce role) left_of takes refuses r old new before after) is ends)

-- .. and a taker that keeps the bytes
pub kept_all : {T A E : Type 0} (role : Role) (takes : Takes T) (refuses : Refuses T E) (items : T → List ℕ) (result : Result A (ReadError E)) (value : A)
    (old new : FileState) (before after : T) → items before ≡ []
    → ((old : T) (bytes : List ℕ) (new : T) → takes old bytes new → items new ≡ items old ++ bytes)
    → result ≡ Ok value → EndsOrFails (ReadsFileOnce role) left_of takes refuses result old new before after
    → IsContent old.0 (items after) × ReadsToEnd role (items after) old.1 new.1
kept_all role takes refuses items result value old new before after none keeps is ends =
    let (bytes, fits, took, short, reads) = rest_ended role takes refuses result value old new before after is ends in
    let same : bytes ≡ items after = sym (keeps before bytes after took ∙ ap (λ l. l ++ bytes) none) in
    (subst (IsContent old.0) same fits, subst (λ l. ReadsToEnd role l old.1 new.1) same reads)

pub rest_failed : {T A E : Type 0} (role : Role) (takes : Takes T) (refuses : Refuses T E) (result : Result A (ReadError E)) (error : Error) (old new : FileState)
    (before after : T) → result ≡ Err (Failed error) → EndsOrFails (ReadsFileOnce role) left_of takes refuses result old new before after
    → FailsToRead role (error_kind error) old.1 new.1
rest_failed {A = A} role takes refuses result error old new before after is ends =
    ended_failed A role takes refuses error old new before after (subst (λ r. EndsOrFails (ReadsFileOnce role) left_of takes refuses r old new before after) is ends)

pub rest_endless : {T A E : Type 0} (role : Role) (takes : Takes T) (refuses : Refuses T E) (result : Result A (ReadError E)) (kind : ErrorKind) (old new : FileState)
    (before after : T) → result ≡ Err TooLong → EndsOrFails (ReadsFileOnce role) left_of takes refuses result old new before after → (kind ≡ OutOfMemory → ⊥)
    → FailsToRead role kind old.1 new.1
rest_endless {A = A} role takes refuses result kind old new before after is ends other =
    endless A role takes refuses kind old new before after (subst (λ r. EndsOrFails (ReadsFileOnce role) left_of takes refuses r old new before after) is ends) other

pub rest_refused : {T A E : Type 0} (role : Role) (takes : Takes T) (refuses : Refuses T E) (result : Result A (ReadError E)) (fault : E) (old new : FileState)
    (before after : T) → result ≡ Err (Refused fault) → EndsOrFails (ReadsFileOnce role) left_of takes refuses result old new before after
    → ((old : T) (piece : List ℕ) (new : T) → refuses old piece fault new → 1 ≤ length piece)
    → (bytes : List ℕ) × (1 ≤ length bytes) × (ReadsOn role bytes old.1 new.1 ⊎ ReadsToEnd role bytes old.1 new.1)
rest_refused {A = A} role takes refuses result fault old new before after is ends some =
    ended_refused A role takes refuses fault old new before after (subst (λ r. EndsOrFails (ReadsFileOnce role) left_of takes refuses r old new before after) is ends) some

-- ---- room for bytes

pub fills_to_end : (role : Role) (room : ℕ) (bytes : List ℕ) (old new : List Happening) → FillsRoom role room bytes old new → length bytes < room
    → ReadsToEnd role bytes old new
fills_to_end role room bytes old new (inl (full, reads)) less = absurd (omega (arith, full, less))
fills_to_end role room bytes old new (inr (short, reads)) less = reads

pub fills_whole : (role : Role) (room : ℕ) (bytes : List ℕ) (old new : List Happening) → FillsRoom role room bytes old new → room ≤ length bytes
    → ReadsOn role bytes old new
fills_whole role room bytes old new (inl (full, reads)) enough = reads
fills_whole role room bytes old new (inr (short, reads)) enough = absurd (omega (arith, short, enough))

pub fills_same : (role : Role) (n room : ℕ) (bytes : List ℕ) (old new : List Happening) → n ≡ room → FillsRoom role n bytes old new → FillsRoom role room bytes old new
fills_same role n room bytes old new same fills = subst (λ m. FillsRoom role m bytes old new) same fills

fills_within : (role : Role) (room : ℕ) (bytes : List ℕ) (old new : List Happening) → FillsRoom role room bytes old new → length bytes ≤ room
fills_within role room bytes old new (inl (full, reads)) = omega (arith, full)
fills_within role room bytes old new (inr (short, reads)) = omega (arith, short)

-- ---- some bytes, and then the rest

pub reads_rest : (role of : Role) (a b : List ℕ) (old before new : List Happening) → ReadsOn role a old before → of ≡ role
    → ReadsToEnd of b before new → ReadsToEnd role (a ++ b) old new
reads_rest role of a b old before new reads same more =
    gives-all-append (ReadsOnce role) a b old before new reads (subst (λ r. ReadsToEnd r b before new) same more)

fills_both : (role of : Role) (room more : ℕ) (a b : List ℕ) (old mid new : List Happening) → FillsRoom role room a old mid → room ≤ length a
    → of ≡ role → FillsRoom of more b mid new → FillsRoom role (room + more) (a ++ b) old new
fills_both role of room more a b old mid new (inl (full, reads)) enough same (inl (whole, others)) = inl (
  omega (arith, full, whole, length-append a b),
  gives-append (ReadsOnce role) a b old mid new reads (subst (λ r. ReadsOn r b mid new) same others),
)
fills_both role of room more a b old mid new (inl (full, reads)) enough same (inr (short, others)) =
    inr (omega (arith, full, short, length-append a b), reads_rest role of a b old mid new reads same others)
fills_both role of room more a b old mid new (inr (less, reads)) enough same others = absurd (omega (arith, less, enough))

pub fails_later : (role of : Role) (a : List ℕ) (kind : ErrorKind) (old before new : List Happening) → ReadsOn role a old before → of ≡ role
    → FailsToRead of kind before new → FailsToRead role kind old new
fails_later role of a kind old before new reads same fails =
    elim (subst (λ r. FailsToRead r kind before new) same fails) [
      | inl (b, failed) ↦ inl (a ++ b, fails-append (ReadsOnce role) kind a b old before new reads failed)
      | inr (other, (b, more, long)) ↦
          inr (other, (a ++ b, gives-append (ReadsOnce role) a b old before new reads more, omega (arith, long, length-append a b)))
    ]

pub too_large : (kind : ErrorKind) → kind ≡ FileTooLarge → kind ≡ OutOfMemory → ⊥
too_large kind is memory = let same : FileTooLarge ≡ OutOfMemory = sym is ∙ memory in cc

pub fails_to_read : (role : Role) (kind : ErrorKind) (old new : List Happening) → ReadsToFailure role kind old new → FailsToRead role kind old new
fails_to_read role kind old new fails = inl fails

pub reads_err : {A : Type 0} (role : Role) (left : Option (List ℕ)) (Fits : List ℕ → A → Type 0) (result : Result A Error) (error : Error)
    (old new : List Happening) → IsErrAnd result (λ e. e ≡ error) → FailsToRead role (error_kind error) old new
    → ReadsAllOrFails role left Fits result old new
reads_err role left Fits (Ok n) error old new same fails = absurd same
reads_err role left Fits (Err e) error old new same fails = subst (λ x. FailsToRead role (error_kind x) old new) (sym same) fails

-- ---- what is known of the content

pub content_after : (old new : Option (List ℕ)) (bytes rest : List ℕ) → Consumes old new bytes → IsContent new rest → IsContent old (bytes ++ rest)
content_after None new bytes rest read fits = tt
content_after (Some xs) None bytes rest read fits = absurd read
content_after (Some xs) (Some ys) bytes rest read fits = sym (read ∙ ap (λ l. bytes ++ l) (sym fits))

-- ---- refusals

pub cant_read : {A : Type 0} (role : Role) (kind : ErrorKind) (Good : A → Type 0) (result : Result A Refusal) (old new : List Happening)
    → IsErrAnd result (λ refusal. refusal ≡ refusal_of kind) → FailsToRead role kind old new
    → MatchResult result Good (λ refusal. CantKeep role refusal old new)
cant_read role kind Good (Ok x) old new is fails = absurd is
cant_read role kind Good (Err refusal) old new is fails = inl (kind, is, fails)

-- memory for the first piece was refused
pub keeps_none : (role : Role) (room : ℕ) (b : List ℕ) (refusal : Refusal) (old new : List Happening) → refusal ≡ refused.OutOfMemory
    → 1 ≤ length b → FillsRoom role room b old new → CantKeep role refusal old new
keeps_none role room b refusal old new memory some (inl (full, reads)) = inr (memory, (b, some, inl reads))
keeps_none role room b refusal old new memory some (inr (short, reads)) = inr (memory, (b, some, inr reads))

-- memory for a later piece was refused, or reading it failed
pub cant_keep_later : (role of : Role) (a : List ℕ) (refusal : Refusal) (old mid new : List Happening) → ReadsOn role a old mid → of ≡ role
    → CantKeep of refusal mid new → CantKeep role refusal old new
cant_keep_later role of a refusal old mid new first same (inl (kind, is, fails)) =
    inl (kind, is, fails_later role of a kind old mid new first same fails)
cant_keep_later role of a refusal old mid new first same (inr (memory, (b, some, inl reads))) = inr (
  memory,
  (
    a ++ b,
    omega (arith, some, length-append a b),
    inl (gives-append (ReadsOnce role) a b old mid new first (subst (λ r. ReadsOn r b mid new) same reads)),
  ),
)
cant_keep_later role of a refusal old mid new first same (inr (memory, (b, some, inr reads))) =
    inr (memory, (a ++ b, omega (arith, some, length-append a b), inr (reads_rest role of a b old mid new first same reads)))

pub cant_keep : {A : Type 0} (role : Role) (refusal : Refusal) (Good : A → Type 0) (result : Result A Refusal) (old new : List Happening)
    → IsErrAnd result (λ other. other ≡ refusal) → CantKeep role refusal old new → MatchResult result Good (λ r. CantKeep role r old new)
cant_keep role refusal Good (Ok x) old new is fails = absurd is
cant_keep role refusal Good (Err other) old new is fails = subst (λ r. CantKeep role r old new) (sym is) fails

-- ---- the first bytes of a file

-- the file ended within the first piece
pub starts_short : (role : Role) (left rest : Option (List ℕ)) (items piece : List ℕ) (n room count : ℕ) (old new : List Happening) → items ≡ piece
    → length piece ≡ n → n < room → room ≤ count → FillsRoom role room piece old new → Consumes left rest piece → (n < room → IsAtEnd rest)
    → ((whole : List ℕ) × IsContent left whole × (items ≡ take count whole)) × FillsRoom role count items old new
starts_short role left rest items piece n room count old new is size less most fills read end =
    let short : length piece < count = omega (arith, size, less, most) in
    subst (λ l. ((whole : List ℕ) × IsContent left whole × (l ≡ take count whole)) × FillsRoom role count l old new) (sym is) (
      first_bytes count left rest piece (omega (arith, short)) read (λ _. end less),
      inr (short, fills_to_end role room piece old new fills (omega (arith, size, less))),
    )

-- a whole piece, and the bytes after it
pub starts_long : (role of : Role) (left mid rest : Option (List ℕ)) (items a b : List ℕ) (n room more count : ℕ) (old then new : List Happening)
    → items ≡ a ++ b → room ≤ length a → FillsRoom role room a old then → Consumes left mid a → of ≡ role
    → length b ≡ n → FillsRoom of more b then new → Consumes mid rest b → (n < more → IsAtEnd rest) → room + more ≡ count
    → ((whole : List ℕ) × IsContent left whole × (items ≡ take count whole)) × FillsRoom role count items old new
starts_long role of left mid rest items a b n room more count old then new is enough fills read same size others read_more end whole =
    let both = fills_same role (room + more) count (a ++ b) old new whole (fills_both role of room more a b old then new fills enough same others) in
    subst (λ l. ((whole : List ℕ) × IsContent left whole × (l ≡ take count whole)) × FillsRoom role count l old new) (sym is) (
      first_bytes count left rest (a ++ b) (fills_within role count (a ++ b) old new both) (consumes_both left mid rest a b read read_more)
          (λ less. end (omega (arith, less, enough, size, whole, length-append a b))),
      both,
    )
