-- Transitions of a message, one after the other.
use Rattle.std.proofs.Common.{◌≡◌, ◌∙◌, ℕ, ◌≤◌, List, [], ◌∷◌, ◌++◌, length, Ok, Err, Option, refl, sym, ap, subst, append_assoc, append-nil, Some, None}
use Rattle.std.specs.Io.KnownBytes.{Consumes, IsAtEnd}
use Rattle.std.specs.declared.io.ErrorKind.{ErrorKind}
use Rattle.typecodes.specs.Message.{FailsBy, Gave, GivesText, GivesAll, IsContent, ReadOutcome, ReadWhole, Transitions, Transition}

pub reads-append : {M : Type 0} (transition : Transition M) (xs ys : List ReadOutcome) (old middle new : M) → Transitions transition xs old middle
    → Transitions transition ys middle new → Transitions transition (xs ++ ys) old new
reads-append transition [] ys old middle new same more = subst (λ m. Transitions transition ys m new) same more
reads-append transition (x ∷ xs) ys old middle new (next, first, later) more =
    (next, first, reads-append transition xs ys next middle new later more)

pub gave-append : (xs ys : List ReadOutcome) (a b : List ℕ) → Gave xs a → Gave ys b → Gave (xs ++ ys) (a ++ b)
gave-append [] ys a b none more = subst (Gave ys) (ap (λ l. l ++ b) (sym none)) more
gave-append (Ok bytes ∷ later) ys a b (some, (rest, is, gave)) more =
    (some, (rest ++ b, ap (λ l. l ++ b) is ∙ append_assoc bytes rest b, gave-append later ys rest b gave more))
gave-append (Err kind ∷ later) ys a b never more = absurd never

pub gives-none : {M : Type 0} (transition : Transition M) (state : M) → GivesText transition [] state state
gives-none transition state = ([], refl, refl)

pub gives-append : {M : Type 0} (transition : Transition M) (a b : List ℕ) (old middle new : M) → GivesText transition a old middle
    → GivesText transition b middle new → GivesText transition (a ++ b) old new
gives-append transition a b old middle new (xs, reads, gave) (ys, more, gave_more) =
    (xs ++ ys, reads-append transition xs ys old middle new reads more, gave-append xs ys a b gave gave_more)

-- one read more gave some bytes
pub gives-more : {M : Type 0} (transition : Transition M) (text bytes all : List ℕ) (old before new : M) → GivesText transition text old before
    → transition before (Ok bytes) new → text ++ bytes ≡ all → 1 ≤ length bytes → GivesText transition all old new
gives-more transition text bytes all old before new gives one is some =
    subst (λ l. GivesText transition l old new) is
    (gives-append transition text bytes old before new gives (Ok bytes ∷ [], (new, one, refl), (some, ([], sym (append-nil bytes), refl))))

pub gives-all : {M : Type 0} (transition : Transition M) (text : List ℕ) (old before new : M)
    → GivesText transition text old before → transition before (Ok []) new → GivesAll transition text old new
gives-all transition text old before new (outcomes, reads, gave) last =
    (outcomes, reads-append transition outcomes (Ok [] ∷ []) old before new reads (new, last, refl), gave)

pub fails : {M : Type 0} (transition : Transition M) (text : List ℕ) (kind : ErrorKind) (old before new : M)
    → GivesText transition text old before → transition before (Err kind) new → FailsBy transition kind text old new
fails transition text kind old before new (outcomes, reads, gave) last =
    (outcomes, reads-append transition outcomes (Err kind ∷ []) old before new reads (new, last, refl), gave)

-- what comes after some text was given
pub gives-all-append : {M : Type 0} (transition : Transition M) (a b : List ℕ) (old middle new : M) → GivesText transition a old middle
    → GivesAll transition b middle new → GivesAll transition (a ++ b) old new
gives-all-append transition a b old middle new (xs, reads, gave) (ys, more, gave_more) = (
  xs ++ ys,
  subst (λ l. Transitions transition l old new) (sym (append_assoc xs ys (Ok [] ∷ [])))
      (reads-append transition xs (ys ++ Ok [] ∷ []) old middle new reads more),
  gave-append xs ys a b gave gave_more,
)

pub fails-append : {M : Type 0} (transition : Transition M) (kind : ErrorKind) (a b : List ℕ) (old middle new : M) → GivesText transition a old middle
    → FailsBy transition kind b middle new → FailsBy transition kind (a ++ b) old new
fails-append transition kind a b old middle new (xs, reads, gave) (ys, more, gave_more) = (
  xs ++ ys,
  subst (λ l. Transitions transition l old new) (sym (append_assoc xs ys (Err kind ∷ [])))
      (reads-append transition xs (ys ++ Err kind ∷ []) old middle new reads more),
  gave-append xs ys a b gave gave_more,
)

-- ---- what is known of the content

-- what was consumed to the end is the content
pub content_at_end : (old new : Option (List ℕ)) (text : List ℕ) → Consumes old new text → IsAtEnd new → IsContent old text
content_at_end None new text consumed end = tt
content_at_end (Some xs) None text consumed end = absurd consumed
content_at_end (Some xs) (Some ys) text consumed end = sym (consumed ∙ ap (λ l. text ++ l) end ∙ append-nil text)

-- a text that was read whole is the content
pub content_read : {M : Type 0} (transition : Transition M) (remaining : M → Option (List ℕ)) (text : List ℕ) (old new : M)
    → ReadWhole transition remaining text old new → IsContent (remaining old) text
content_read transition remaining text old new whole = content_at_end (remaining old) (remaining new) text whole.bytes whole.end

-- some text fits whatever is known
pub some_content : (known : Option (List ℕ)) → (text : List ℕ) × IsContent known text
some_content None = ([], tt)
some_content (Some text) = (text, refl)

-- ---- the same reads of another message

-- Reads of the one are reads of the other, state by state.
pub record Follows {M N : Type 0} (step : Transition M) (other : Transition N) (Fits : M → N → Type 0) : Type 0 where
  pub one : (old : M) (outcome : ReadOutcome) (new : M) (before : N) → Fits old before → step old outcome new
      → (after : N) × Fits new after × other before outcome after

module _ {M N : Type 0} (step : Transition M) (other : Transition N) (Fits : M → N → Type 0) (follows : Follows step other Fits) where
  pub transitions-follow : (outcomes : List ReadOutcome) (old new : M) (before : N) → Fits old before → Transitions step outcomes old new
      → (after : N) × Fits new after × Transitions other outcomes before after
  transitions-follow [] old new before fits same = (before, subst (λ m. Fits m before) (sym same) fits, refl)
  transitions-follow (outcome ∷ later) old new before fits (next, first, reads) =
      let (middle, fitting, done) = follows.one old outcome next before fits first in
      let (after, ending, rest) = transitions-follow later next new middle fitting reads in (after, ending, (middle, done, rest))

  pub gives-follow : (text : List ℕ) (old new : M) (before : N) → Fits old before → GivesText step text old new
      → (after : N) × Fits new after × GivesText other text before after
  gives-follow text old new before fits (outcomes, reads, gave) =
      let (after, ending, done) = transitions-follow outcomes old new before fits reads in (after, ending, (outcomes, done, gave))

  pub gives-all-follow : (text : List ℕ) (old new : M) (before : N) → Fits old before → GivesAll step text old new
      → (after : N) × Fits new after × GivesAll other text before after
  gives-all-follow text old new before fits (outcomes, reads, gave) =
      let (after, ending, done) = transitions-follow (outcomes ++ Ok [] ∷ []) old new before fits reads in (after, ending, (outcomes, done, gave))

  pub fails-follow : (kind : ErrorKind) (text : List ℕ) (old new : M) (before : N) → Fits old before → FailsBy step kind text old new
      → (after : N) × Fits new after × FailsBy other kind text before after
  fails-follow kind text old new before fits (outcomes, reads, gave) =
      let (after, ending, done) = transitions-follow (outcomes ++ Err kind ∷ []) old new before fits reads in (after, ending, (outcomes, done, gave))
