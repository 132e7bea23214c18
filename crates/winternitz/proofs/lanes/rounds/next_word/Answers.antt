use Rattle.std.proofs.Common.{◌≡◌, ℕ, ◌+◌, ◌%◌, List, slice_index, arith, refl}
use Rattle.std.proofs.lemmas.List.{map-set}
use Rattle.winternitz.proofs.Vectors.{slice_index-lane}
use Rattle.winternitz.proofs.lanes.rounds.next_word.Goals as goal

pub returns-clause-value : goal.returns-clause-value
returns-clause-value c j low =
    let window = c.args.window.now in
    let at : c.args.place % 16 ≡ c.args.place = omega arith in
    rw (
      c.add-word.ensures j low,
      c.add-fifteen_back.ensures j low,
      c.add-seven_back.ensures j low,
      c.small_sigma1-sigma1.ensures j low,
      c.small_sigma0-sigma0.ensures j low,
      at,
      slice_index-lane window j ((c.args.place + 14) % 16),
      slice_index-lane window j ((c.args.place + 9) % 16),
      slice_index-lane window j ((c.args.place + 1) % 16),
      slice_index-lane window j c.args.place,
    ) refl

pub returns-clause-window : goal.returns-clause-window
returns-clause-window c j low = map-set (λ (y : List ℕ). slice_index y j) c.args.window.now c.args.place c.add-word.result
