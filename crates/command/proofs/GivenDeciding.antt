-- The first bytes of given signatures decide what a check of the whole ones answers.
use Rattle.std.proofs.Common.{◌≡◌, ◌∙◌, ℕ, zero, suc, ◌<◌, ◌^◌, List, [], ◌∷◌, length, take, Option, Some, Result, Ok, Err, refl, sym, ap, subst, arith, take_all}
use Rattle.std.specs.Prelude.{⊤, slice_get}
use Rattle.key_audit.specs.declared.given.Given.{Given}
use Rattle.key_audit.specs.declared.given.GivenFault.{GivenFault}
use Rattle.key_audit.specs.declared.given.GivenFault.TheVariants.{LeafTwice, NotValid, OutOfMemory}
use Rattle.key_audit.specs.Given.{AreValid, Checks, IsTwice, IsValidGiven, UseLeafTwice, Uses}
use Rattle.sign_core.specs.declared.key.AnyPublic.{AnyPublic}
use Rattle.sign_core.specs.declared.key.KeyFault.{KeyFault}
use Rattle.sign_core.specs.Once.{IsValidUnder}
use Rattle.sign_core.specs.Uses.{LeafUse, MakesUses}
use Rattle.sign_core.proofs.records.ValidSignatures.{accepted, accepts}
use Rattle.command.specs.declared.answer.Done.{Done}
use Rattle.command.specs.declared.refusal.Refusal.{Refusal}
use Rattle.command.specs.AuditGiven.{AnswersGiven, AnswersWhole, BeginAll, BeginsGiven, given_answer}
use Rattle.command.specs.Files.{decisive}
use Rattle.command.proofs.Deciding.{more_than_the_greatest, verdict_decided, verified_short}

-- ---- one signature

all_of_valid : (key : AnyPublic) (message bytes : List ℕ) → IsValidUnder key message bytes → take decisive bytes ≡ bytes
all_of_valid key message bytes valid =
    take_all decisive bytes (omega (arith, verified_short key message bytes (accepts {A = ⊤} key message bytes tt valid), more_than_the_greatest))

-- If one of the two is valid, both are, and have the same bytes.
valid_whole : (key : AnyPublic) (whole first : Given) → BeginsGiven whole first → IsValidGiven key first → IsValidGiven key whole
valid_whole key whole first (message, signature) valid = record {
  verifies = accepted {A = ⊤} key whole.message.items whole.signature.items tt
      (verdict_decided {A = ⊤} decisive key whole.message.items whole.signature.items (Ok tt) more_than_the_greatest
      (accepts {A = ⊤} key whole.message.items (take decisive whole.signature.items) tt
      (subst (λ m. IsValidUnder key m (take decisive whole.signature.items)) message
      (subst (λ s. IsValidUnder key first.message.items s) signature valid.verifies))));
  short = subst (λ m. length m < 2 ^ 60) message valid.short;
}

same_bytes : (key : AnyPublic) (whole first : Given) → BeginsGiven whole first → IsValidGiven key whole → first.signature.items ≡ whole.signature.items
same_bytes key whole first (message, signature) valid = signature ∙ all_of_valid key whole.message.items whole.signature.items valid.verifies

valid_first : (key : AnyPublic) (whole first : Given) → BeginsGiven whole first → IsValidGiven key whole → IsValidGiven key first
valid_first key whole first begins valid = record {
  verifies = subst (λ m. IsValidUnder key m first.signature.items) (sym begins.0)
      (subst (λ s. IsValidUnder key whole.message.items s) (sym (same_bytes key whole first begins valid))
      valid.verifies);
  short = subst (λ m. length m < 2 ^ 60) (sym begins.0) valid.short;
}

-- ---- where they stand

first_at : (wholes firsts : List Given) (k : ℕ) (whole : Given) → BeginAll wholes firsts → slice_get wholes k ≡ Some whole
    → (first : Given) × (slice_get firsts k ≡ Some first) × BeginsGiven whole first
first_at [] firsts k whole begin at = absurd cc
first_at (w ∷ wholes) [] k whole begin at = absurd begin
first_at (w ∷ wholes) (f ∷ firsts) zero whole (begins, others) at = (f, refl, subst (λ x. BeginsGiven x f) (some_is w whole at) begins)
  where
    some_is : (a b : Given) → ◌≡◌ {A = Option Given} (Some a) (Some b) → a ≡ b
    some_is a b same = cc
first_at (w ∷ wholes) (f ∷ firsts) (suc k) whole (begins, others) at = first_at wholes firsts k whole others at

whole_at : (wholes firsts : List Given) (k : ℕ) (first : Given) → BeginAll wholes firsts → slice_get firsts k ≡ Some first
    → (whole : Given) × (slice_get wholes k ≡ Some whole) × BeginsGiven whole first
whole_at [] [] k first begin at = absurd cc
whole_at [] (f ∷ firsts) k first begin at = absurd begin
whole_at (w ∷ wholes) [] k first begin at = absurd cc
whole_at (w ∷ wholes) (f ∷ firsts) zero first (begins, others) at = (w, refl, subst (λ x. BeginsGiven w x) (some_is f first at) begins)
  where
    some_is : (a b : Given) → ◌≡◌ {A = Option Given} (Some a) (Some b) → a ≡ b
    some_is a b same = cc
whole_at (w ∷ wholes) (f ∷ firsts) (suc k) first (begins, others) at = whole_at wholes firsts k first others at

as_many : (wholes firsts : List Given) → BeginAll wholes firsts → length firsts ≡ length wholes
as_many [] [] begin = refl
as_many [] (f ∷ firsts) begin = absurd begin
as_many (w ∷ wholes) [] begin = absurd begin
as_many (w ∷ wholes) (f ∷ firsts) (begins, others) = ap suc (as_many wholes firsts others)

-- ---- two of them

uses_same : (key : AnyPublic) (a b : Given) (used : LeafUse) → a.message.items ≡ b.message.items → a.signature.items ≡ b.signature.items
    → Uses key a used → Uses key b used
uses_same key a b used message signature (uses, makes, has) =
    (uses, subst (λ s. MakesUses key b.message.items s uses) signature (subst (λ m. MakesUses key m a.signature.items uses) message makes), has)

twice_same : (key : AnyPublic) (a b x y : Given) → a.message.items ≡ x.message.items → a.signature.items ≡ x.signature.items
    → b.message.items ≡ y.message.items → b.signature.items ≡ y.signature.items → UseLeafTwice key a b → UseLeafTwice key x y
twice_same key a b x y a_message a_signature b_message b_signature twice = record {
  first = twice.first;
  second = twice.second;
  by_a = uses_same key a x twice.first a_message a_signature twice.by_a;
  by_b = uses_same key b y twice.second b_message b_signature twice.by_b;
  leaf = twice.leaf;
  digests = twice.digests;
}

-- ---- all of them

valid_wholes : (key : AnyPublic) (wholes firsts : List Given) → BeginAll wholes firsts → AreValid key firsts → AreValid key wholes
valid_wholes key wholes firsts begin valid k whole at =
    let (first, stands, begins) = first_at wholes firsts k whole begin at in valid_whole key whole first begins (valid k first stands)

twice_first : (key : AnyPublic) (wholes firsts : List Given) (i j : ℕ) → BeginAll wholes firsts → AreValid key firsts → IsTwice key wholes i j
    → IsTwice key firsts i j
twice_first key wholes firsts i j begin valid twice =
    let valid_all = valid_wholes key wholes firsts begin valid in
    let (a, at_i, a_begins) = first_at wholes firsts i twice.a begin twice.at_i in
    let (b, at_j, b_begins) = first_at wholes firsts j twice.b begin twice.at_j in
    record {
      a = a;
      b = b;
      at_i = at_i;
      at_j = at_j;
      twice = twice_same key twice.a twice.b a b (sym a_begins.0) (sym (same_bytes key twice.a a a_begins (valid_all i twice.a twice.at_i)))
          (sym b_begins.0) (sym (same_bytes key twice.b b b_begins (valid_all j twice.b twice.at_j))) twice.twice;
    }

twice_whole : (key : AnyPublic) (wholes firsts : List Given) (i j : ℕ) → BeginAll wholes firsts → AreValid key firsts → IsTwice key firsts i j
    → IsTwice key wholes i j
twice_whole key wholes firsts i j begin valid twice =
    let valid_all = valid_wholes key wholes firsts begin valid in
    let (a, at_i, a_begins) = whole_at wholes firsts i twice.a begin twice.at_i in
    let (b, at_j, b_begins) = whole_at wholes firsts j twice.b begin twice.at_j in
    record {
      a = a;
      b = b;
      at_i = at_i;
      at_j = at_j;
      twice = twice_same key twice.a twice.b a b a_begins.0 (same_bytes key a twice.a a_begins (valid_all i a at_i)) b_begins.0
          (same_bytes key b twice.b b_begins (valid_all j b at_j)) twice.twice;
    }

-- The check answers for the first bytes what it answers for all.
checks_whole : {A : Type 0} (key : AnyPublic) (wholes firsts : List Given) (r : Result A GivenFault) → BeginAll wholes firsts → Checks key firsts r
    → Checks key wholes r
checks_whole key wholes firsts (Ok a) begin (valid, none) = (
  valid_wholes key wholes firsts begin valid,
  λ i j other i_less j_less twice. none i j other (subst (λ n. i < n) (sym (as_many wholes firsts begin)) i_less)
      (subst (λ n. j < n) (sym (as_many wholes firsts begin)) j_less) (twice_first key wholes firsts i j begin valid twice),
)
checks_whole key wholes firsts (Err (NotValid i)) begin fails =
    let (whole, at, begins) = whole_at wholes firsts i fails.each begin fails.stands in
    record {
      each = whole;
      stands = at;
      not_valid = λ valid. fails.not_valid (valid_first key whole fails.each begins valid);
      first = λ k other less stands. let (first, first_stands, other_begins) = first_at wholes firsts k other begin stands in
          valid_whole key other first other_begins (fails.first k first less first_stands);
    }
checks_whole key wholes firsts (Err (LeafTwice i j)) begin (valid, fails) = (
  valid_wholes key wholes firsts begin valid,
  record {
    earlier = fails.earlier;
    twice = twice_whole key wholes firsts i j begin valid fails.twice;
    first = λ k l other k_less l_less twice. fails.first k l other k_less l_less (twice_first key wholes firsts k l begin valid twice);
    least = λ k less twice. fails.least k less (twice_first key wholes firsts k j begin valid twice);
  },
)
checks_whole key wholes firsts (Err OutOfMemory) begin (valid, some) =
    (valid_wholes key wholes firsts begin valid, subst (λ n. 0 < n) (as_many wholes firsts begin) some)

pub answers_whole : (key : Result AnyPublic KeyFault) (firsts : List Given) (answer : Result Done Refusal) → AnswersGiven key firsts answer
    → AnswersWhole key firsts answer
answers_whole (Err fault) firsts answer is wholes begin = is
answers_whole (Ok key) firsts answer (checked, checks, is) wholes begin =
    (checked, checks_whole key wholes firsts checked begin checks, is ∙ ap (λ n. given_answer n checked) (as_many wholes firsts begin))
