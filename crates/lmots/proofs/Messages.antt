-- The message of a public hash, end by end.
use Rattle.std.proofs.Common.{◌≡◌, ◌∙◌, sym, ap, ℕ, ◌+◌, ◌-◌, ◌^◌, List, [], ◌∷◌, ◌++◌, map, arith}
use Rattle.std.specs.List.{concat, range_with_len}
use Rattle.std.proofs.lemmas.List.{append-nil, append_assoc}
use Rattle.std.proofs.lemmas.List.Folds.{concat-append}
use Rattle.std.proofs.lemmas.List.FromFn.{map-range_with_len_more}
use Rattle.typecodes.specs.Types.{width_of}
use Rattle.typecodes.specs.declared.types.OtsType.{OtsType}
use Rattle.lmots.specs.Hashes.{public_separator, u16str, u32str}
use Rattle.lmots.specs.Key.{chain_value}

-- the first ends of a key's chains
abbrev pub first_ends : List ℕ → ℕ → OtsType → List ℕ → ℕ → List (List ℕ)
first_ends identifier q ots seed n = map (λ i. chain_value identifier q seed i (2 ^ width_of ots - 1)) (range_with_len 0 n)

-- the message with the first ends
abbrev pub message_until : List ℕ → ℕ → OtsType → List ℕ → ℕ → List ℕ
message_until identifier q ots seed n = identifier ++ u32str q ++ u16str public_separator ++ concat (first_ends identifier q ots seed n)

pub message_none : (identifier : List ℕ) (q : ℕ) (ots : OtsType) (seed : List ℕ)
    → identifier ++ u32str q ++ u16str public_separator ≡ message_until identifier q ots seed 0
message_none identifier q ots seed = sym (append-nil _)

concat_more : (xs : List (List ℕ)) (x : List ℕ) → concat (xs ++ x ∷ []) ≡ concat xs ++ x
concat_more xs x = concat-append xs (x ∷ []) ∙ ap (λ l. concat xs ++ l) (append-nil x)

pub message_more : (identifier : List ℕ) (q : ℕ) (ots : OtsType) (seed : List ℕ) (n last : ℕ) (before message end : List ℕ)
    → before ≡ message_until identifier q ots seed n → message ≡ before ++ end
    → end ≡ chain_value identifier q seed n last → last ≡ 2 ^ width_of ots - 1
    → message ≡ message_until identifier q ots seed (n + 1)
message_more identifier q ots seed n last before message end so_far written is steps =
    let front = identifier ++ u32str q ++ u16str public_separator in
    let value = λ (i : ℕ). chain_value identifier q seed i (2 ^ width_of ots - 1) in
    let made : end ≡ value n = is ∙ ap (chain_value identifier q seed n) steps in
    written ∙ ap (λ xs. xs ++ end) so_far
    ∙ append_assoc front (concat (first_ends identifier q ots seed n)) end
    ∙ ap (λ x. front ++ (concat (first_ends identifier q ots seed n) ++ x)) made
    ∙ ap (λ xs. front ++ xs) (sym (concat_more (first_ends identifier q ots seed n) (value n))
    ∙ ap concat (sym (map-range_with_len_more value 0 n n (omega arith))))
