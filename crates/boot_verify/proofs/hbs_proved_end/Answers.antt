use Rattle.std.proofs.Common.{arith, rules}
use Rattle.std.specs.Prelude.{IsTrue}
use Rattle.boot_verify.specs.Answer.{IsDigest}
use Rattle.boot_verify.specs.Pieces.{HoldsMessage, IsBegun, held_prefix}
use Rattle.boot_verify.proofs.Answers.{valid_exactly}
use Rattle.boot_verify.proofs.Prefixes.{digest_of_prefix, early_never_zero, equal_prefix, one_prefix}
use Rattle.boot_verify.proofs.hbs_proved_end.Goals.{After-finalize-digest, After-packed}
use Rattle.boot_verify.proofs.hbs_proved_end.Goals as goal

-- another prefix was begun than that of this key and signature
never : (c : After-packed) → IsBegun c.args.pieces.now c.args.public.now c.args.signature.now → ⊥
never c begun =
    let yes : IsTrue c.has_prefix.result = c.has_prefix.ensures.1 (one_prefix c.args.public.now c.args.signature.now _ _ _ _ begun c.in-Ok.ensures.ok) in
    search rules

pub returns-then-not-has_prefix-clause-answer : goal.returns-then-not-has_prefix-clause-answer
returns-then-not-has_prefix-clause-answer c = λ message held begun. absurd (never c begun)

pub returns-then-not-has_prefix-clause-valid : goal.returns-then-not-has_prefix-clause-valid
returns-then-not-has_prefix-clause-valid c = λ message held.
    (λ zero. absurd (omega (arith, zero, c.packed.ensures)), λ (begun, signed). absurd (never c begun))

-- the prefix that was begun
begun : (c : After-finalize-digest) → IsBegun c.args.pieces.now c.args.public.now c.args.signature.now
begun c =
    let yes : IsTrue c.has_prefix.result = search rules in
    let same = c.has_prefix.ensures.0 yes in
    equal_prefix c.args.public.now c.args.signature.now c.in-Ok.count _ _ _ same.0 same.1 c.in-Ok.ensures.ok

-- the digest is that of the message
is_digest : (c : After-finalize-digest) (message : _) → HoldsMessage c.args.pieces.now message
    → IsDigest c.args.public.now message c.args.signature.now c.finalize-digest.result
is_digest c message held =
    digest_of_prefix c.args.public.now c.args.signature.now (held_prefix c.args.pieces.now) message _ _ (begun c) (c.finalize-digest.ensures _ held)

pub returns-else-not-has_prefix-clause-answer : goal.returns-else-not-has_prefix-clause-answer
returns-else-not-has_prefix-clause-answer c = λ message held is_begun.
    c.hbs_proved_verify_digest.ensures.answer message (is_digest (goal.at.returns-else-not-has_prefix-clause-answer c).After-finalize-digest message held)

pub returns-else-not-has_prefix-clause-valid : goal.returns-else-not-has_prefix-clause-valid
returns-else-not-has_prefix-clause-valid c = λ message held.
    let after = (goal.at.returns-else-not-has_prefix-clause-valid c).After-finalize-digest in
    let exact = c.hbs_proved_verify_digest.ensures.valid message (is_digest after message held) in
    (λ zero. (begun after, exact.0 zero), λ (is_begun, signed). exact.1 signed)

pub returns-in-Err-clause-answer : goal.returns-in-Err-clause-answer
returns-in-Err-clause-answer c = λ message held is_begun. c.in-Err.ensures.err.0 message

pub returns-in-Err-clause-valid : goal.returns-in-Err-clause-valid
returns-in-Err-clause-valid c = λ message held. (
  λ zero. absurd (early_never_zero c.in-Err.refusal c.in-Err.ensures.err.1 zero),
  λ (is_begun, signed).
      (valid_exactly c.args.public.now message c.args.signature.now c.in-Err.refusal (c.in-Err.ensures.err.0 message)).1 signed,
)
