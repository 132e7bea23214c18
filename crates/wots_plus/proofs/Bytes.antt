-- Bytes written one part after the other.
use Rattle.std.proofs.Common.{◌≡◌, ◌∙◌, refl, sym, ap, ap₂, ℕ, zero, suc, ◌+◌, ◌*◌, ◌<◌, ◌≤◌, List, [], ◌∷◌, ◌++◌, length, get_or, take, set, replicate, arith, append-nil}
use Rattle.std.specs.Prelude.{bit_xor}
use Rattle.std.specs.List.{flat_map, zip}
use Rattle.std.proofs.lemmas.List.{take_more, get_or-map, length-map}
use Rattle.std.proofs.lemmas.List.Concat.{flat_map-append}
use Rattle.std.proofs.lemmas.List.FromFn.{fill_by_all}
use Rattle.std.proofs.lemmas.Slice.{take-put_mid}
use Rattle.std.proofs.lemmas.Slice.Zip.{get_or-zip, length-zip}
use borrow.Rule.Slice.PartMut.{put_mid}
use Rattle.wots_plus.specs.declared.address.Address.{Address}
use Rattle.wots_plus.specs.declared.address.Address.TheVariants.{OneTime, LTree, HashTree}
use Rattle.wots_plus.specs.Address.{address, address_of}
use Rattle.wots_plus.specs.inner.Address.{words_of}
use Rattle.wots_plus.specs.Hashes.{to_byte, xor}

abbrev pub bytes_of_words : List ℕ → List ℕ
bytes_of_words words = flat_map (λ word. to_byte word 4) words

-- after the first i words the next one is written
pub word_more : (words before part : List ℕ) (i k : ℕ) → i < length words → length part ≡ 4 → 4 * i ≤ length before
    → take (4 * i) before ≡ bytes_of_words (take i words) → part ≡ to_byte (get_or words i 0) 4
    → take (4 * (i + 1)) (put_mid (4 * i) k before part) ≡ bytes_of_words (take (i + 1) words)
word_more words before part i k inside size within written is =
    take-put_mid (4 * i) k before part (4 * (i + 1)) (omega arith) within
    ∙ ap₂ (λ front back. front ++ back) written (is ∙ sym (append-nil (to_byte (get_or words i 0) 4)))
    ∙ sym (flat_map-append (λ word. to_byte word 4) (take i words) (get_or words i 0 ∷ []))
    ∙ ap bytes_of_words (sym (take_more words i 0 inside))

-- a hash's number, the last of 32 bytes
pub number_in_32 : (n : ℕ) → n ≤ 4 → set (replicate 32 0) 31 n ≡ to_byte n 32
number_in_32 zero small = refl
number_in_32 (suc zero) small = refl
number_in_32 (suc (suc zero)) small = refl
number_in_32 (suc (suc (suc zero))) small = refl
number_in_32 (suc (suc (suc (suc zero)))) small = refl
number_in_32 (suc (suc (suc (suc (suc n))))) small = absurd (omega arith)

pub xor_of_each : (n : ℕ) (a b out : List ℕ) → length a ≡ n → length b ≡ n → length out ≡ n
    → ((i : ℕ) → i < n → get_or out i 0 ≡ bit_xor (get_or a i 0) (get_or b i 0)) → out ≡ xor a b
xor_of_each n a b out a_long b_long out_long each =
    let f : ℕ → ℕ = λ i. bit_xor (get_or a i 0) (get_or b i 0) in
    let pairs : length (zip a b) ≡ n = length-zip a b ∙ omega arith in
    let long : length (xor a b) ≡ n = length-map (zip a b) (λ (pair : ℕ × ℕ). bit_xor pair.0 pair.1) ∙ pairs in
    fill_by_all f out n 0 out_long each
    ∙ sym (fill_by_all f (xor a b) n 0 long (λ i within.
    get_or-map (λ (pair : ℕ × ℕ). bit_xor pair.0 pair.1) (zip a b) i (0, 0) 0 (omega arith)
    ∙ ap (λ (pair : ℕ × ℕ). bit_xor pair.0 pair.1) (get_or-zip a b i (0, 0) (omega arith) (omega arith))))

pub words_count : (adrs : Address) (mask : ℕ) → length (words_of adrs mask) ≡ 8
words_count (OneTime leaf chain hash) mask = refl
words_count (LTree leaf height index) mask = refl
words_count (HashTree height index) mask = refl

pub bytes_are : (adrs : Address) (mask : ℕ) → bytes_of_words (words_of adrs mask) ≡ address_of adrs mask
unfolding address
bytes_are (OneTime leaf chain hash) mask = refl
bytes_are (LTree leaf height index) mask = refl
bytes_are (HashTree height index) mask = refl
