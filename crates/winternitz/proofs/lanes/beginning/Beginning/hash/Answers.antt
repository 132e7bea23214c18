use Rattle.std.proofs.Common.{◌∷◌, [], slice_index, refl, arith}
use Rattle.winternitz.specs.Lanes.{lane, lane_state, step_bytes, value_at}
use Rattle.winternitz.proofs.Beginnings.{hash_by_beginning}
use Rattle.winternitz.proofs.Words.{digest_long}
use Rattle.winternitz.proofs.lanes.beginning.Beginning.hash.Goals as goal

pub returns : goal.returns
returns c = λ j low.
    let self = c.args.self.now in
    let chain = slice_index c.args.chains.now j in
    let at = slice_index c.args.at.now j in
    let value = lane_state c.args.values.now j in
    let words = c.block_words-words.ensures in
    hash_by_beginning (lane j (self.word0 ∷ self.word1 ∷ self.word2 ∷ self.word3 ∷ self.word4 ∷ [])) (step_bytes chain at (value_at c.args.values.now j)) _ _
    c.block_words-words.result c.initial.result c.compress_from_five.result j
    (self.fit j low) (omega (arith, digest_long value 8)) refl
    (words.first j low)
    (λ k. words.rest j low chain at k (omega arith) (omega arith) (c.numbers.ensures j low))
    (c.initial.ensures j low) (self.begun j low) (c.compress_from_five.ensures j low)
