use Rattle.std.proofs.Common.{◌≡◌, ◌∙◌, sym, ap, arith, rules, length, ◌*◌, ◌≤◌}
use Rattle.std.proofs.lemmas.List.{take_all}
use Rattle.std.proofs.lemmas.Slice.{overwrites}
use Rattle.wots_plus.proofs.Bytes.{bytes_are, bytes_of_words, word_more, words_count}
use Rattle.wots_plus.proofs.address.Address.bytes.Goals as goal

pub loop-i-preserved : goal.loop-i-preserved
loop-i-preserved c =
    let eight : length c.words.result ≡ 8 = ap length c.words.ensures ∙ words_count _ _ in
    record {
      long = search (rules, overwrites);
      written = word_more _ c.loop-i.bytes _ c.loop-i.i _ (omega arith) (omega arith) (omega arith) c.loop-i.invariant.written (cc);
    }

pub returns : goal.returns
returns c =
    let eight : length c.words.result ≡ 8 = ap length c.words.ensures ∙ words_count _ _ in
    let all : c.loop-i.i ≡ 8 = omega arith in
    let full : length c.loop-i.bytes ≤ 4 * c.loop-i.i = omega arith in
    sym (take_all (4 * c.loop-i.i) c.loop-i.bytes full)
    ∙ c.loop-i.invariant.written
    ∙ ap bytes_of_words (take_all c.loop-i.i c.words.result (omega arith) ∙ c.words.ensures)
    ∙ bytes_are _ _
