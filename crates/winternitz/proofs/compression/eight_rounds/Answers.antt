use Rattle.std.proofs.Common.{◌≡◌, ℕ, ◌+◌, ◌<◌, ◌∙◌, ap, arith, slice_index}
use Rattle.sha2.specs.Sha256.{rounds, schedule}
use Rattle.winternitz.specs.inner.Sums.{sum_at}
use Rattle.winternitz.proofs.Sums.{round_from}
use Rattle.winternitz.proofs.compression.eight_rounds.Goals as goal

pub returns : goal.returns
returns c = λ b h sums before.
    let t = c.args.t in
    let sum : (i : ℕ) → i < 8 → slice_index c.eight_sums-next.result i ≡ sum_at b (t + i) =
    λ i low. c.eight_sums-next.ensures i low ∙ sums (t + i) (omega (arith, low, c.requires.rounds)) in
    let sum0 = sum 0 (omega arith) in
    let sum1 = sum 1 (omega arith) in
    let sum2 = sum 2 (omega arith) in
    let sum3 = sum 3 (omega arith) in
    let sum4 = sum 4 (omega arith) in
    let sum5 = sum 5 (omega arith) in
    let sum6 = sum 6 (omega arith) in
    let sum7 = sum 7 (omega arith) in
    let none : c.args.working ≡ rounds h (schedule b 48) (t + 0) =
    before ∙ ap (rounds h (schedule b 48)) (omega arith) in
    let one = round_from b h _ _ t 0 _ none sum0 c.round-working.ensures in
    let two = round_from b h _ _ t 1 _ one sum1 c.round-working-2.ensures in
    let three = round_from b h _ _ t 2 _ two sum2 c.round-working-3.ensures in
    let four = round_from b h _ _ t 3 _ three sum3 c.round-working-4.ensures in
    let five = round_from b h _ _ t 4 _ four sum4 c.round-working-5.ensures in
    let six = round_from b h _ _ t 5 _ five sum5 c.round-working-6.ensures in
    let seven = round_from b h _ _ t 6 _ six sum6 c.round-working-7.ensures in
    round_from b h _ _ t 7 _ seven sum7 c.round.ensures
