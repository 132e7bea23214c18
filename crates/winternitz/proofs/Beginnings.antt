-- Messages that begin alike.
use Rattle.std.proofs.Common.{◌≡◌, ◌∙◌, ℕ, ◌-◌, ◌*◌, ◌<◌, ◌≤◌, ◌^◌, List, ◌∷◌, ◌++◌, length, slice_index, arith, sym, ap, inl, inr}
use Rattle.std.proofs.lemmas.Bool.{cases_lt}
use Rattle.std.proofs.lemmas.List.{append_assoc, length-append}
use Rattle.std.specs.Int.{w64, to_be_bytes}
use Rattle.sha2.proofs.Schedule256.{slice_index-schedule_first}
use Rattle.sha2.specs.Sha256.{compress, digest_bytes, initial_hash_256, rounds, schedule, sha256, word_at}
use Rattle.winternitz.specs.Lanes.{lane, lane_state}
use Rattle.winternitz.proofs.Vectors.{rounds_same, sha256_by_block, word_of_rest}
use Rattle.winternitz.proofs.Words.{digest_long, word_of_digest}

-- SHA-256 of a message in lane j, by the rounds over its first five words and by the words of its block
pub hash_by_beginning : (first end tail working : List ℕ) (words initial made : List (List ℕ)) (j : ℕ)
    → ((k : ℕ) → k < 5 → slice_index first k < 2 ^ 32) → length end ≡ 35 → tail ≡ end ++ 0x80 ∷ to_be_bytes w64 440
    → ((k : ℕ) → k < 5 → slice_index (lane j words) k ≡ slice_index first k)
    → ((k : ℕ) → 5 ≤ k → k < 16 → slice_index (lane j words) k ≡ word_at tail (4 * (k - 5)))
    → lane_state initial j ≡ initial_hash_256 → working ≡ rounds initial_hash_256 first 5
    → ((b : List ℕ) → ((k : ℕ) → k < 16 → slice_index (lane j words) k ≡ word_at b (4 * k))
    → working ≡ rounds (lane_state initial j) (schedule b 48) 5 → lane_state made j ≡ compress (lane_state initial j) b)
    → digest_bytes (lane_state made j) 8 ≡ sha256 (digest_bytes first 5 ++ end)
hash_by_beginning first end tail working words initial made j fit end_long are firsts rest start begun compressed =
    let front = digest_bytes first 5 in
    let block = front ++ tail in
    let front_long : length front ≡ 20 = digest_long first 5 in
    let word = λ (k : ℕ) (low : k < 5). word_of_digest first tail 5 k low (fit k low) in
    let by_five = begun ∙ rounds_same initial_hash_256 first (schedule block 48) 5 (λ k low.
    sym (slice_index-schedule_first block 48 k (omega arith) ∙ word k low)) in
    let state = compressed block
    (λ k within. elim (cases_lt k 5) [
      | inl low ↦ firsts k low ∙ sym (word k low)
      | inr high ↦ rest k high within ∙ sym (word_of_rest front tail k front_long high)
    ])
    (by_five ∙ ap (λ h. rounds h (schedule block 48) 5) (sym start)) in
    let whole : block ≡ (front ++ end) ++ 0x80 ∷ to_be_bytes w64 440 =
    ap (λ t. front ++ t) are ∙ sym (append_assoc front end (0x80 ∷ to_be_bytes w64 440)) in
    ap (λ h. digest_bytes h 8) (state ∙ ap (λ h. compress h block) start)
    ∙ sha256_by_block (front ++ end) block (omega (arith, length-append front end)) whole
