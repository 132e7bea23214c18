-- Reads of an input, one after the other, and reads of a message in it.
use Rattle.std.proofs.Common.{◌≡◌, ◌∙◌, inl, inr, refl, sym, ap, subst, arith, ℕ, ◌+◌, ◌<◌, ◌≤◌, ◌^◌}
use Rattle.std.proofs.Common.{List, [], ◌∷◌, ◌++◌, length, take, append_assoc, append-nil, length-append, length-take-le, take_all, Ok, Err}
use Rattle.std.specs.Io.KnownBytes.{Consumes, IsAtEnd, Keeps}
use Rattle.std.proofs.KnownBytes.{Consumes-nil, Consumes-trans, Consumes-kept}
use Rattle.std.specs.declared.io.ErrorKind.{ErrorKind}
use Rattle.std.specs.IoError.{error_kind}
use Rattle.std.specs.declared.io.Error.{Error}
use Rattle.typecodes.specs.declared.message.Message as message
use Rattle.typecodes.specs.Message.{CantBeRead, Gave, GivesText, ReadOutcome, ReadWhole, ReadsPart, Transition, Transitions}
use Rattle.typecodes.specs.Reading.{ReadsFull}
use Rattle.typecodes.proofs.Messages.{gave-append, reads-append}
use Rattle.sign_core.specs.Frames.{CutsAt, Ending, ReadsInput, broken, ended, going}

-- ---- reads of an input

pub reads_none : {M : Type 0} (m : message.Ghosts M) (old : M) → ReadsInput m [] going old old
reads_none m old = record { earlier = []; last = []; reads = refl; gave = refl; ends = refl; bytes = Consumes-nil (m.remaining old); none = tt }

pub reads_then : {M : Type 0} (m : message.Ghosts M) (a b : List ℕ) (ending : Ending) (old middle new : M) → ReadsInput m a going old middle
    → ReadsInput m b ending middle new → ReadsInput m (a ++ b) ending old new
reads_then m a b ending old middle new first second =
    let none_last : first.earlier ++ first.last ≡ first.earlier = ap (λ l. first.earlier ++ l) first.ends ∙ append-nil first.earlier in
    let begun = subst (λ l. Transitions m.transition l old middle) none_last first.reads in
    record {
      earlier = first.earlier ++ second.earlier;
      last = second.last;
      reads = subst (λ l. Transitions m.transition l old new) (sym (append_assoc first.earlier second.earlier second.last))
          (reads-append m.transition first.earlier (second.earlier ++ second.last) old middle new begun second.reads);
      gave = gave-append first.earlier second.earlier a b first.gave second.gave;
      ends = second.ends;
      bytes = Consumes-trans _ _ _ a b first.bytes second.bytes;
      none = second.none;
    }

-- reads, and then a last one that gives nothing
pub reads_close : {M : Type 0} (m : message.Ghosts M) (a : List ℕ) (ending : Ending) (old middle new : M) → ReadsInput m a going old middle
    → ReadsInput m [] ending middle new → ReadsInput m a ending old new
reads_close m a ending old middle new first second =
    subst (λ l. ReadsInput m l ending old new) (append-nil a) (reads_then m a [] ending old middle new first second)

reads_end : {M : Type 0} (m : message.Ghosts M) (old new : M) → m.transition old (Ok []) new → Consumes (m.remaining old) (m.remaining new) []
    → IsAtEnd (m.remaining new) → ReadsInput m [] ended old new
reads_end m old new one bytes end = record { earlier = []; last = Ok [] ∷ []; reads = (new, one, refl); gave = refl; ends = refl; bytes = bytes; none = end }

reads_failure : {M : Type 0} (m : message.Ghosts M) (kind : ErrorKind) (old new : M) → m.transition old (Err kind) new
    → Keeps (m.remaining old) (m.remaining new) → ReadsInput m [] broken old new
reads_failure m kind old new one kept = record {
  earlier = [];
  last = Err kind ∷ [];
  reads = (new, one, refl);
  gave = refl;
  ends = (kind, refl);
  bytes = Consumes-kept _ _ _ _ (Consumes-nil (m.remaining old)) kept;
  none = tt;
}

so_far : {M : Type 0} (m : message.Ghosts M) (text : List ℕ) (old new : M) → GivesText m.transition text old new
    → Consumes (m.remaining old) (m.remaining new) text → ReadsInput m text going old new
so_far m text old new (outcomes, reads, gave) bytes = record {
  earlier = outcomes;
  last = [];
  reads = subst (λ l. Transitions m.transition l old new) (sym (append-nil outcomes)) reads;
  gave = gave;
  ends = refl;
  bytes = bytes;
  none = tt;
}

-- ---- reads until a buffer is full

pub filled : {M : Type 0} (m : message.Ghosts M) (n : ℕ) (buffer : List ℕ) (old new : M) → ReadsFull m.transition m.remaining (Ok n) buffer old new
    → length buffer ≤ n → ReadsInput m buffer going old new
filled m n buffer old new (inl (full, gave), bytes, end) all =
    so_far m buffer old new gave (subst (Consumes (m.remaining old) (m.remaining new)) (take_all n buffer all) bytes)
filled m n buffer old new (inr (less, gave), bytes, end) all = absurd (omega (arith, less, all))

pub filling_ends : {M : Type 0} (m : message.Ghosts M) (n : ℕ) (buffer : List ℕ) (old new : M) → ReadsFull m.transition m.remaining (Ok n) buffer old new
    → n < length buffer → (part : List ℕ) × (length part < length buffer) × ReadsInput m part ended old new
filling_ends m n buffer old new (inl (full, gave), bytes, end) less = absurd (omega (arith, full, less))
filling_ends m n buffer old new (inr (fewer, (outcomes, reads, gave)), bytes, end) less =
    let size : length (take n buffer) ≡ n = length-take-le n buffer (omega (arith, less)) in (
      take n buffer,
      omega (arith, size, less),
      record { earlier = outcomes; last = Ok [] ∷ []; reads = reads; gave = gave; ends = refl; bytes = bytes; none = end less },
    )

pub filling_fails : {M : Type 0} (m : message.Ghosts M) (error : Error) (buffer : List ℕ) (old new : M)
    → ReadsFull m.transition m.remaining (Err error) buffer old new
    → (part : List ℕ) × (length part < length buffer) × ReadsInput m part broken old new
filling_fails m error buffer old new (n, less, (outcomes, reads, gave), bytes) =
    let size : length (take n buffer) ≡ n = length-take-le n buffer (omega (arith, less)) in (
      take n buffer,
      omega (arith, size, less),
      record {
        earlier = outcomes;
        last = Err (error_kind error) ∷ [];
        reads = reads;
        gave = gave;
        ends = (error_kind error, refl);
        bytes = bytes;
        none = tt;
      },
    )

-- ---- reads of a message in an input

reads_split : {M : Type 0} (transition : Transition M) (xs ys : List ReadOutcome) (old new : M) → Transitions transition (xs ++ ys) old new
    → (middle : M) × Transitions transition xs old middle × Transitions transition ys middle new
reads_split transition [] ys old new reads = (old, refl, reads)
reads_split transition (x ∷ xs) ys old new (next, first, later) =
    let (middle, more, rest) = reads_split transition xs ys next new later in (middle, (next, first, more), rest)

pub record IsPart {P M : Type 0} (p : message.Ghosts P) (m : message.Ghosts M) (input_of : P → M) (left_of : P → ℕ) : Type 0 where
  pub part : (old : P) (outcome : ReadOutcome) (new : P) → p.transition old outcome new
      → ReadsPart m.transition m.remaining (left_of old) (input_of old) outcome (left_of new) (input_of new)

module _ {P M : Type 0} (p : message.Ghosts P) (m : message.Ghosts M) (input_of : P → M) (left_of : P → ℕ) (is : IsPart p m input_of left_of) where
  part_reads : (outcomes : List ReadOutcome) (text : List ℕ) (old new : P) → Transitions p.transition outcomes old new → Gave outcomes text
      → (left_of new + length text ≡ left_of old) × Transitions m.transition outcomes (input_of old) (input_of new)
      × Consumes (m.remaining (input_of old)) (m.remaining (input_of new)) text
  part_reads [] text old new same none =
      let stays = ap left_of same in
      let known = subst (λ x. Consumes (m.remaining (input_of old)) (m.remaining (input_of x)) []) (sym same) (Consumes-nil (m.remaining (input_of old))) in
      (omega (arith, stays, ap length none), ap input_of same, subst (Consumes _ _) (sym none) known)
  part_reads (Ok bytes ∷ later) text old new (next, first, reads) (some, (rest, whole, gave)) =
      let (fewer, step) = is.part old (Ok bytes) next first in
      let (size, more, consumed) = part_reads later rest next new reads gave in
      elim step [
        | inl (none, over, stays) ↦ absurd (omega (arith, some, ap length none))
        | inr (least, one, taken) ↦ (
          omega (arith, fewer, size, ap length whole, length-append bytes rest),
          (input_of next, one, more),
          subst (Consumes _ _) (sym whole) (Consumes-trans _ _ _ bytes rest taken consumed),
        )
      ]
  part_reads (Err kind ∷ later) text old new (next, first, reads) never = absurd never

  pub part_done : (text : List ℕ) (old new : P) → ReadWhole p.transition p.remaining text old new
      → (length text ≡ left_of old) × (left_of new ≡ 0) × ReadsInput m text going (input_of old) (input_of new)
  part_done text old new whole =
      let (outcomes, reads, gave) = whole.gave in
      let (middle, before, (next, last, same)) = reads_split p.transition outcomes (Ok [] ∷ []) old new reads in
      let (size, more, consumed) = part_reads outcomes text old middle before gave in
      let (fewer, step) = is.part middle (Ok []) next last in
      elim step [
        | inl (none, over, stays) ↦
            let there : input_of new ≡ input_of middle = ap input_of same ∙ stays in (
              omega (arith, size, over),
              omega (arith, ap left_of same, fewer, over),
              subst (λ x. ReadsInput m text going (input_of old) x) (sym there) (record {
                earlier = outcomes;
                last = [];
                reads = subst (λ l. Transitions m.transition l (input_of old) (input_of middle)) (sym (append-nil outcomes)) more;
                gave = gave;
                ends = refl;
                bytes = consumed;
                none = tt;
              }),
            )
        | inr (least, one, taken) ↦ absurd (omega (arith, least))
      ]

  -- as much of it as came
  abbrev pub Came : P → P → Type 0
  Came old new = (text : List ℕ) × (ending : Ending) × (1 ≤ left_of old) × CutsAt ending (length text) (left_of old)
      × ReadsInput m text ending (input_of old) (input_of new)

  pub part_cut : (old new : P) → left_of old < 2 ^ 32 → CantBeRead p.transition old new → Came old new
  part_cut old new bound (inl (kind, text, (outcomes, reads, gave))) =
      let (middle, before, (next, last, same)) = reads_split p.transition outcomes (Err kind ∷ []) old new reads in
      let (size, more, consumed) = part_reads outcomes text old middle before gave in
      let (stays, least, step) = is.part middle (Err kind) next last in
      let there : input_of new ≡ input_of next = ap input_of same in
      let came = so_far m text (input_of old) (input_of middle) (outcomes, more, gave) consumed in
      elim step [
        | inl (one, kept) ↦ (
          text,
          broken,
          omega (arith, size, least),
          omega (arith, size),
          subst (λ x. ReadsInput m text broken (input_of old) x) (sym there) (reads_close m text broken (input_of old) (input_of middle) (input_of next)
              came (reads_failure m kind (input_of middle) (input_of next) one kept)),
        )
        | inr (early, one, none, end) ↦ (
          text,
          ended,
          omega (arith, size, least),
          omega (arith, size, least),
          subst (λ x. ReadsInput m text ended (input_of old) x) (sym there) (reads_close m text ended (input_of old) (input_of middle) (input_of next)
              came (reads_end m (input_of middle) (input_of next) one none end)),
        )
      ]
  part_cut old new bound (inr (text, (outcomes, reads, gave), long)) =
      let (size, more, consumed) = part_reads outcomes text old new reads gave in absurd (omega (arith, size, long, bound))
