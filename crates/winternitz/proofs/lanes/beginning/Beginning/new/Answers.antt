use Rattle.std.proofs.Common.{◌∙◌, ◌<◌, ◌^◌, ap, subst, slice_index}
use Rattle.sha2.specs.Sha256.{initial_hash_256, rounds}
use Rattle.winternitz.specs.Lanes.{lane}
use Rattle.winternitz.proofs.Words.{lane_of_five}
use Rattle.winternitz.proofs.lanes.beginning.Beginning.new.Goals as goal

pub invariant_of-result : goal.invariant_of-result
invariant_of-result c =
    let words = c.first_words-words.result in
    record {
      fit = λ j low k within. subst (λ ws. slice_index ws k < 2 ^ 32) (lane_of_five words j c.first_words-words.ensures.exact_length)
          (c.first_words-words.ensures.fit j low k within);
      begun = λ j low. c.five_rounds.ensures j low
          ∙ ap (λ h. rounds h (lane j words) 5) (c.initial.ensures j low)
          ∙ ap (λ ws. rounds initial_hash_256 ws 5) (lane_of_five words j c.first_words-words.ensures.exact_length);
    }
