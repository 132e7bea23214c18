use Rattle.std.proofs.Common.{◌∙◌}
use Rattle.winternitz.specs.inner.Sums.{block_of}
use Rattle.winternitz.proofs.Vectors.{lanes_window, slice_index-lane}
use Rattle.winternitz.proofs.lanes.sums.fill_sums.Goals as goal

pub returns : goal.returns
returns c = λ j low.
    let b = block_of c.args.bytes.now j in
    let made = c.words_of_blocks-window.ensures in
    let words = c.words_of_blocks-window.result in
    let window = lanes_window b words j made.exact_length (λ k within. slice_index-lane words j k ∙ made.words j k within low) in
    let second = c.sixteen_sums.ensures j low b (window, c.first_sums.ensures j low b window) in
    let third = c.sixteen_sums-2.ensures j low b second in
    (c.sixteen_sums-3.ensures j low b third).1
