-- What takes a message piece by piece has taken its text.
use Rattle.std.proofs.Common.{◌^◌, ◌≡◌, ℕ, ◌+◌, ◌*◌, ◌≤◌, ◌<◌, List, [], ◌++◌, length, take, Ok, Err, Option, inl, inr, refl, sym, subst, arith, length-append, length-take-le, take_all}
use Rattle.std.specs.Io.KnownBytes.{Consumes}
use Rattle.std.proofs.KnownBytes.{Consumes-nil, Consumes-trans}
use Rattle.std.specs.IoError.{error_kind}
use Rattle.std.specs.declared.io.Error.{Error}
use Rattle.typecodes.specs.declared.reading.ReadError.TheVariants.{Failed, TooLong, Refused}
use Rattle.typecodes.specs.Message.{GivesText, ReadWhole, Transition}
use Rattle.typecodes.specs.Reading.{ReadsFull, ReadsToEnd, Refuses, Takes}
use Rattle.typecodes.proofs.Messages.{fails-append, gives-all-append, gives-append, gives-none}

-- This many full pieces were read and taken.
pub record HasTaken {M T : Type 0} (transition : Transition M) (remaining : M → Option (List ℕ)) (takes : Takes T) (pieces : ℕ) (old new : M)
    (before after : T) : Type 0 where
  pub text : List ℕ
  pub gave : GivesText transition text old new
  pub bytes : Consumes (remaining old) (remaining new) text
  pub size : length text ≡ 16384 * pieces
  pub taken : takes before text after

module _ {M T : Type 0} (transition : Transition M) (remaining : M → Option (List ℕ)) (takes : Takes T) where
  pub taken-none : (old : M) (before : T) → takes before [] before → HasTaken transition remaining takes 0 old old before before
  taken-none old before none =
      record { text = []; gave = gives-none transition old; bytes = Consumes-nil (remaining old); size = refl; taken = none }

  pub taken-full : (pieces n : ℕ) (buffer : List ℕ) (old read new : M) (before middle after : T)
      → HasTaken transition remaining takes pieces old read before middle → length buffer ≡ 16384 → 16384 ≤ n
      → ReadsFull transition remaining (Ok n) buffer read new
      → takes middle (take n buffer) after
      → ((old middle new : T) (first later : List ℕ) → takes old first middle → takes middle later new → takes old (first ++ later) new)
      → HasTaken transition remaining takes (pieces + 1) old new before after
  taken-full pieces n buffer old read new before middle after has size all (inl (full, gave), bytes, end) more joins =
      let whole : take n buffer ≡ buffer = take_all n buffer (omega (arith, full)) in
      record {
        text = has.text ++ buffer;
        gave = gives-append transition has.text buffer old read new has.gave gave;
        bytes = subst (λ l. Consumes (remaining old) (remaining new) (has.text ++ l)) whole (Consumes-trans _ _ _ _ _ has.bytes bytes);
        size = omega (arith, length-append has.text buffer, has.size, size);
        taken = joins before middle after has.text buffer has.taken (subst (λ l. takes middle l after) whole more);
      }
  taken-full pieces n buffer old read new before middle after has size all (inr (less, gave), bytes, end) more joins =
      absurd (omega (arith, size, all, less))

  -- the last piece, which may be empty
  pub taken-last : {E : Type 0} (refuses : Refuses T E) (pieces n : ℕ) (buffer : List ℕ) (old read new : M) (before middle after : T)
      → HasTaken transition remaining takes pieces old read before middle → length buffer ≡ 16384 → n < 16384 → pieces < 2 ^ 46
      → ReadsFull transition remaining (Ok n) buffer read new
      → takes middle (take n buffer) after
      → ((old middle new : T) (first later : List ℕ) → takes old first middle → takes middle later new → takes old (first ++ later) new)
      → (text : List ℕ) × ReadWhole transition remaining text old new × takes before text after
  taken-last refuses pieces n buffer old read new before middle after has size less within_limit (inl (full, gave), bytes, end) more joins =
      absurd (omega (arith, size, less, full))
  taken-last refuses pieces n buffer old read new before middle after has size less within_limit (inr (within, gave), bytes, end) more joins =
      let last : length (take n buffer) ≡ n = length-take-le n buffer (omega (arith, within)) in (
        has.text ++ take n buffer,
        record {
          gave = gives-all-append transition has.text (take n buffer) old read new has.gave gave;
          bytes = Consumes-trans _ _ _ _ _ has.bytes bytes;
          end = end within;
          short = omega (arith, length-append has.text (take n buffer), has.size, last, less, within_limit);
        },
        joins before middle after has.text (take n buffer) has.taken more,
      )

  pub taken-unread : (A : Type 0) {E : Type 0} (refuses : Refuses T E) (pieces : ℕ) (error : Error) (buffer : List ℕ) (old read new : M) (before middle : T)
      → HasTaken transition remaining takes pieces old read before middle → length buffer ≡ 16384
      → ReadsFull transition remaining (Err error) buffer read new
      → ReadsToEnd {A = A} transition remaining takes refuses (Err (Failed error)) old new before middle
  taken-unread A refuses pieces error buffer old read new before middle has size (count, less, failed, bytes) =
      let part : length (take count buffer) ≡ count = length-take-le count buffer (omega (arith, less)) in (
        has.text,
        take count buffer,
        fails-append transition (error_kind error) has.text (take count buffer) old read new has.gave failed,
        omega (arith, part, less, size),
        has.taken,
      )

  pub taken-refused : (A : Type 0) {E : Type 0} (refuses : Refuses T E) (pieces n : ℕ) (fault : E) (buffer : List ℕ) (old read new : M)
      (before middle after : T) → HasTaken transition remaining takes pieces old read before middle
      → ReadsFull transition remaining (Ok n) buffer read new
      → refuses middle (take n buffer) fault after
      → ReadsToEnd {A = A} transition remaining takes refuses (Err (Refused fault)) old new before after
  taken-refused A refuses pieces n fault buffer old read new before middle after has (inl (full, gave), bytes, end) refused =
      let whole : take n buffer ≡ buffer = take_all n buffer (omega (arith, full)) in (
        has.text,
        take n buffer,
        middle,
        has.taken,
        refused,
        inl (subst (λ l. GivesText transition (has.text ++ l) old new) (sym whole)
            (gives-append transition has.text buffer old read new has.gave gave)),
      )
  taken-refused A refuses pieces n fault buffer old read new before middle after has (inr (within, gave), bytes, end) refused = (
    has.text,
    take n buffer,
    middle,
    has.taken,
    refused,
    inr (gives-all-append transition has.text (take n buffer) old read new has.gave gave),
  )

  -- the message doesn't end
  pub taken-endless : (A : Type 0) {E : Type 0} (refuses : Refuses T E) (pieces : ℕ) (old new : M) (before after : T)
      → HasTaken transition remaining takes pieces old new before after → 2 ^ 46 ≤ pieces
      → ReadsToEnd {A = A} transition remaining takes refuses (Err TooLong) old new before after
  taken-endless A refuses pieces old new before after has many = (has.text, has.gave, omega (arith, has.size, many), has.taken)
