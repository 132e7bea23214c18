-- Reads until a buffer is full, and writes of all bytes: one call after the other, each for the rest.
use Rattle.std.proofs.Common.{◌≡◌, ◌∙◌, ℕ, ◌+◌, ◌-◌, ◌≤◌, ◌<◌, List, [], ◌++◌, length, take, drop, Ok, Err, Option, inl, inr, sym, ap, subst, arith, length-take-le, length-drop, take_all, append-nil, take-add}
use Rattle.std.specs.Io.KnownBytes.{Appends, Consumes, IsAtEnd, Keeps}
use Rattle.std.proofs.KnownBytes.{Appends-kept, Appends-trans, Consumes-kept, Consumes-trans}
use Rattle.std.specs.IoError.{error_kind}
use Rattle.std.specs.declared.io.Error.{Error}
use Rattle.std.specs.declared.io.ErrorKind.TheVariants.{WriteZero}
use Rattle.typecodes.specs.Message.{FailsBy, GivesAll, GivesText, Transition}
use Rattle.typecodes.specs.Reading.{AsksForRest, ReadsFull, Request, RequestsFull}
use Rattle.typecodes.specs.Sink.{OffersRest, Write, WritesAll}
use Rattle.typecodes.proofs.Messages.{fails, gives-all, gives-more}

-- ---- reads into a buffer whose first a bytes were read; it was xs before the last read, and is zs

module _ {M : Type 0} (a : ℕ) (xs zs : List ℕ) (old before new : M) (front : take a zs ≡ take a xs) (same : length zs ≡ length xs) where
  pub filling-fails : (transition : Transition M) (remaining : M → Option (List ℕ)) (error : Error) → a < length xs
      → Consumes (remaining old) (remaining before) (take a xs) → GivesText transition (take a xs) old before
      → transition before (Err (error_kind error)) new → Keeps (remaining before) (remaining new)
      → ReadsFull transition remaining (Err error) zs old new
  filling-fails transition remaining error less bytes gives one kept = (
    a,
    omega (arith, same, less),
    subst (λ l. FailsBy transition (error_kind error) l old new) (sym front)
        (fails transition (take a xs) (error_kind error) old before new gives one),
    subst (Consumes (remaining old) (remaining new)) (sym front) (Consumes-kept _ _ _ _ bytes kept),
  )

  pub asking-fails : (request : Request M) (error : Error) → a < length xs
      → GivesText (AsksForRest request (length xs)) (take a xs) (0, old) (a, before)
      → request before (length xs - a) (Err (error_kind error)) new → RequestsFull request (Err error) zs old new
  asking-fails request error less asks one =
      let failing : FailsBy (AsksForRest request (length xs)) (error_kind error) (take a xs) (0, old) (a, new) =
      fails (AsksForRest request (length xs)) (take a xs) (error_kind error) (0, old) (a, before) (a, new) asks (omega arith, omega (arith, less), one) in (
        a,
        subst (λ m. FailsBy (AsksForRest request m) (error_kind error) (take a zs) (0, old) (a, new)) (sym same)
            (subst (λ l. FailsBy (AsksForRest request (length xs)) (error_kind error) l (0, old) (a, new)) (sym front) failing),
      )

  pub filling-ends : (transition : Transition M) (remaining : M → Option (List ℕ)) (none : List ℕ) → a < length xs → none ≡ []
      → Consumes (remaining old) (remaining before) (take a xs) → GivesText transition (take a xs) old before
      → transition before (Ok none) new → Consumes (remaining before) (remaining new) none → IsAtEnd (remaining new)
      → ReadsFull transition remaining (Ok a) zs old new
  filling-ends transition remaining none less is bytes gives one nothing end =
      let all : take a xs ++ none ≡ take a zs = ap (λ l. take a xs ++ l) is ∙ append-nil (take a xs) ∙ sym front in (
        inr (
          omega (arith, same, less),
          subst (λ l. GivesAll transition l old new) (sym front)
              (gives-all transition (take a xs) old before new gives (subst (λ l. transition before (Ok l) new) is one)),
        ),
        subst (Consumes (remaining old) (remaining new)) all (Consumes-trans _ _ _ _ _ bytes nothing),
        λ fewer. end,
      )

  pub asking-ends : (request : Request M) (none : List ℕ) → a < length xs → none ≡ []
      → GivesText (AsksForRest request (length xs)) (take a xs) (0, old) (a, before)
      → request before (length xs - a) (Ok none) new → RequestsFull request (Ok a) zs old new
  asking-ends request none less is asks one =
      let last : request before (length xs - a) (Ok []) new = subst (λ l. request before (length xs - a) (Ok l) new) is one in
      let all : GivesAll (AsksForRest request (length xs)) (take a xs) (0, old) (a, new) =
      gives-all (AsksForRest request (length xs)) (take a xs) (0, old) (a, before) (a, new) asks (omega arith, omega (arith, less), last) in
      inr (
        omega (arith, same, less),
        subst (λ m. GivesAll (AsksForRest request m) (take a zs) (0, old) (a, new)) (sym same)
            (subst (λ l. GivesAll (AsksForRest request (length xs)) l (0, old) (a, new)) (sym front) all),
      )

  pub asking-more : (request : Request M) (n : ℕ) (ys : List ℕ) → n ≤ length ys → 1 ≤ n → a + n ≤ length xs → take a xs ++ take n ys ≡ take (a + n) zs
      → GivesText (AsksForRest request (length xs)) (take a xs) (0, old) (a, before)
      → request before (length xs - a) (Ok (take n ys)) new
      → GivesText (AsksForRest request (length zs)) (take (a + n) zs) (0, old) (a + n, new)
  asking-more request n ys within some fits whole asks one =
      let long : length (take n ys) ≡ n = length-take-le n ys within in
      subst (λ m. GivesText (AsksForRest request m) (take (a + n) zs) (0, old) (a + n, new)) (sym same)
      (gives-more (AsksForRest request (length xs)) (take a xs) (take n ys) (take (a + n) zs) (0, old) (a, before) (a + n, new) asks
      (ap (λ m. a + m) (sym long), fits, one) whole (omega (arith, long, some)))

pub filling-done : {M : Type 0} (a : ℕ) (xs : List ℕ) (transition : Transition M) (remaining : M → Option (List ℕ)) (old new : M) → a ≡ length xs
    → Consumes (remaining old) (remaining new) (take a xs) → GivesText transition (take a xs) old new → ReadsFull transition remaining (Ok a) xs old new
filling-done a xs transition remaining old new full bytes gives =
    let whole : take a xs ≡ xs = take_all a xs (omega (arith, full)) in
    (inl (full, subst (λ l. GivesText transition l old new) whole gives), bytes, λ fewer. absurd (omega (arith, full, fewer)))

pub asking-done : {M : Type 0} (a : ℕ) (xs : List ℕ) (request : Request M) (old new : M) → a ≡ length xs
    → GivesText (AsksForRest request (length xs)) (take a xs) (0, old) (a, new) → RequestsFull request (Ok a) xs old new
asking-done a xs request old new full asks =
    let whole : take a xs ≡ xs = take_all a xs (omega (arith, full)) in
    inl (full, subst (λ l. GivesText (AsksForRest request (length xs)) l (0, old) (a, new)) whole asks)

-- ---- writes of the rest of some bytes

module _ {S : Type 0} (write : Write S) (bytes : List ℕ) (a : ℕ) (old before new : S) where
  pub offering-more : (n : ℕ) (rest : List ℕ) → rest ≡ drop a bytes → n ≤ length rest → 1 ≤ n
      → GivesText (OffersRest write bytes) (take a bytes) (0, old) (a, before) → write before rest (Ok (take n rest)) new
      → GivesText (OffersRest write bytes) (take (a + n) bytes) (0, old) (a + n, new)
  offering-more n rest is within some offers one =
      let long : length (take n rest) ≡ n = length-take-le n rest within in
      let whole : take a bytes ++ take n rest ≡ take (a + n) bytes = ap (λ l. take a bytes ++ take n l) is ∙ sym (take-add a n bytes) in
      gives-more (OffersRest write bytes) (take a bytes) (take n rest) (take (a + n) bytes) (0, old) (a, before) (a + n, new) offers
      (ap (λ m. a + m) (sym long), omega (arith, within, some, ap length is, length-drop a bytes), subst (λ l. write before l (Ok (take n rest)) new) is one) whole (omega (arith, long, some))

  pub written-more : (contents : S → Option (List ℕ)) (n : ℕ) (rest : List ℕ) → rest ≡ drop a bytes
      → Appends (contents old) (contents before) (take a bytes) → Appends (contents before) (contents new) (take n rest)
      → Appends (contents old) (contents new) (take (a + n) bytes)
  written-more contents n rest is written more =
      let whole : take a bytes ++ take n rest ≡ take (a + n) bytes = ap (λ l. take a bytes ++ take n l) is ∙ sym (take-add a n bytes) in
      subst (Appends (contents old) (contents new)) whole (Appends-trans _ _ _ _ _ written more)

  pub writing-fails : (A : Type 0) (contents : S → Option (List ℕ)) (error : Error) (rest : List ℕ) → rest ≡ drop a bytes → a < length bytes
      → Appends (contents old) (contents before) (take a bytes) → GivesText (OffersRest write bytes) (take a bytes) (0, old) (a, before)
      → write before rest (Err (error_kind error)) new → Keeps (contents before) (contents new)
      → WritesAll {A = A} write contents (Err error) bytes old new
  writing-fails A contents error rest is less written offers one kept = (
    a,
    less,
    Appends-kept _ _ _ _ written kept,
    inr (fails (OffersRest write bytes) (take a bytes) (error_kind error) (0, old) (a, before) (a, new) offers
        (omega arith, omega (arith, less), subst (λ l. write before l (Err (error_kind error)) new) is one)),
  )

  -- a write takes nothing
  pub writing-stops : (A : Type 0) (contents : S → Option (List ℕ)) (error : Error) (rest none : List ℕ) → rest ≡ drop a bytes → a < length bytes
      → none ≡ [] → error_kind error ≡ WriteZero
      → Appends (contents old) (contents before) (take a bytes) → GivesText (OffersRest write bytes) (take a bytes) (0, old) (a, before)
      → write before rest (Ok none) new → Appends (contents before) (contents new) none
      → WritesAll {A = A} write contents (Err error) bytes old new
  writing-stops A contents error rest none is less nothing kind written offers one more =
      let same : take a bytes ++ none ≡ take a bytes = ap (λ l. take a bytes ++ l) nothing ∙ append-nil (take a bytes) in
      let last : write before (drop a bytes) (Ok []) new =
      subst (λ l. write before (drop a bytes) (Ok l) new) nothing (subst (λ l. write before l (Ok none) new) is one) in (
        a,
        less,
        subst (Appends (contents old) (contents new)) same (Appends-trans _ _ _ _ _ written more),
        inl (kind, gives-all (OffersRest write bytes) (take a bytes) (0, old) (a, before) (a, new) offers (omega arith, omega (arith, less), last)),
      )

pub writing-done : {S A : Type 0} (write : Write S) (bytes : List ℕ) (a : ℕ) (contents : S → Option (List ℕ)) (value : A) (old new : S) → a ≡ length bytes
    → Appends (contents old) (contents new) (take a bytes) → GivesText (OffersRest write bytes) (take a bytes) (0, old) (a, new)
    → WritesAll write contents (Ok value) bytes old new
writing-done write bytes a contents value old new all written offers =
    let whole : take a bytes ≡ bytes = take_all a bytes (omega (arith, all)) in (
      subst (λ m. GivesText (OffersRest write bytes) bytes (0, old) (m, new)) all
          (subst (λ l. GivesText (OffersRest write bytes) l (0, old) (a, new)) whole offers),
      subst (Appends (contents old) (contents new)) whole written,
    )

-- the rest of some bytes, as it is offered
pub rest_of : (done : ℕ) (bytes : List ℕ) → take (length bytes - done) (drop done bytes) ≡ drop done bytes
rest_of done bytes = take_all (length bytes - done) (drop done bytes) (omega (arith, length-drop done bytes))
