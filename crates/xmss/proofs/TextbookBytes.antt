-- The bytes of the textbook signature spell it.
use Rattle.std.proofs.Common.{◌≡◌, ◌∙◌, ap, ℕ, zero, suc, ◌+◌, ◌/◌, ◌<◌, ◌^◌, List, [], ◌∷◌, length, get_or, map, arith}
use Rattle.std.specs.List.{range_with_len}
use Rattle.std.proofs.lemmas.List.FromFn.{get_or-map-range_with_len, length-map-range_with_len}
use Rattle.sha2.proofs.Facts256.{length-sha256}
use Rattle.typecodes.specs.Types.{xmss_height_of}
use Rattle.typecodes.specs.Layout.{Spells}
use Rattle.winternitz.specs.Chain.{Steps, walk_steps}
use Rattle.merkle.specs.Tree.{node, sibling}
use Rattle.wots_plus.specs.LTree.{LTreeJoins, at_height, l_tree_join, next_height}
use Rattle.wots_plus.specs.Key.{chain_value, ends_of_secret, private_value, public_hash, step_of}
use Rattle.typecodes.specs.declared.secret.XmssSecret.{XmssSecret}
use Rattle.xmss.specs.Secret.{joins_of, leaves_of, leaf_path}
use Rattle.xmss.specs.Signature.{signature}
use Rattle.xmss.specs.Writing.{signature_bytes, textbook}
use Rattle.xmss.proofs.SigningBytes.{signed_spelled}

-- ---- lists of values of 32 bytes

abbrev AreLong : List (List ℕ) → Type 0
AreLong [] = Unit {0}
AreLong (value ∷ rest) = (length value ≡ 32) × AreLong rest

long_map : (f : ℕ → List ℕ) → ((n : ℕ) → length (f n) ≡ 32) → (ns : List ℕ) → AreLong (map f ns)
long_map f each [] = tt
long_map f each (n ∷ rest) = (each n, long_map f each rest)

long_next : (join : ℕ → List ℕ → List ℕ → List ℕ) (i : ℕ) (values : List (List ℕ)) → ((n : ℕ) (a b : List ℕ) → length (join n a b) ≡ 32) → AreLong values
    → AreLong (next_height join i values)
unfolding next_height
long_next join i [] each are = tt
long_next join i (last ∷ []) each are = are
long_next join i (left ∷ right ∷ rest) each are = (each i left right, long_next join (i + 1) rest each are.1.1)

some_next : (join : ℕ → List ℕ → List ℕ → List ℕ) (i : ℕ) (values : List (List ℕ)) → 0 < length values → 0 < length (next_height join i values)
unfolding next_height
some_next join i [] some = absurd (omega (arith, some))
some_next join i (last ∷ []) some = some
some_next join i (left ∷ right ∷ rest) some = omega arith

long_height : (join : LTreeJoins) (values : List (List ℕ)) (k : ℕ) → ((h n : ℕ) (a b : List ℕ) → length (join h n a b) ≡ 32) → AreLong values
    → AreLong (at_height join values k)
unfolding at_height
long_height join values zero each are = are
long_height join values (suc k) each are = long_next (join k) 0 (at_height join values k) (each k) (long_height join values k each are)

some_height : (join : LTreeJoins) (values : List (List ℕ)) (k : ℕ) → 0 < length values → 0 < length (at_height join values k)
unfolding at_height
some_height join values zero some = some
some_height join values (suc k) some = some_next (join k) 0 (at_height join values k) (some_height join values k some)

long_first : (values : List (List ℕ)) → 0 < length values → AreLong values → length (get_or values 0 []) ≡ 32
long_first [] some are = absurd (omega (arith, some))
long_first (first ∷ rest) some are = are.0

-- ---- nodes

-- a walk ends in 32 bytes
walk_size : (step : Steps) (c a n : ℕ) (value : List ℕ) → ((i j : ℕ) (v : List ℕ) → length (step i j v) ≡ 32) → length value ≡ 32
    → length (walk_steps step c a n value) ≡ 32
unfolding walk_steps
walk_size step c a zero value each size = size
walk_size step c a (suc n) value each size = each c (a + n) (walk_steps step c a n value)

root_size : (join : LTreeJoins) (values : List (List ℕ)) (k : ℕ) → ((h n : ℕ) (a b : List ℕ) → length (join h n a b) ≡ 32) → 0 < length values → AreLong values
    → length (get_or (at_height join values k) 0 []) ≡ 32
root_size join values k each some are = long_first (at_height join values k) (some_height join values k some) (long_height join values k each are)

end_size : (seed : List ℕ) (leaf : ℕ) (secret : List ℕ) (i : ℕ) → length (chain_value seed leaf secret i 15) ≡ 32
end_size seed leaf secret i = walk_size (step_of seed leaf) i 0 15 (private_value seed leaf secret i) (λ i j v. length-sha256 _) (length-sha256 _)

leaf_size : (seed : List ℕ) (leaf : ℕ) (secret : List ℕ) → length (public_hash seed leaf (ends_of_secret seed leaf secret)) ≡ 32
leaf_size seed leaf secret =
    let ends = ends_of_secret seed leaf secret in
    let count : length ends ≡ 67 = length-map-range_with_len (λ i. chain_value seed leaf secret i 15) 0 67 in
    root_size (l_tree_join seed leaf) ends (length ends) (λ h n a b. length-sha256 _) (omega (arith, count))
    (long_map (λ i. chain_value seed leaf secret i 15) (end_size seed leaf secret) (range_with_len 0 67))

node_size : (secret : XmssSecret) (k j : ℕ) → length (node (leaves_of secret) (joins_of secret) k j) ≡ 32
unfolding node
node_size secret zero j = leaf_size secret.public_seed j secret.secret_seed
node_size secret (suc k) j = length-sha256 _

path_size : (secret : XmssSecret) (q i : ℕ) → i < xmss_height_of secret.tree → length (get_or (leaf_path secret q) i []) ≡ 32
path_size secret q i inside =
    let node_at : ℕ → List ℕ = λ k. node (leaves_of secret) (joins_of secret) k (sibling (q / 2 ^ k)) in
    ap length (get_or-map-range_with_len node_at 0 (xmss_height_of secret.tree) i i [] inside (omega arith)) ∙ node_size secret i (sibling (q / 2 ^ i))

pub textbook_spelled : (secret : XmssSecret) (q : ℕ) (digest : List ℕ) → q < 2 ^ xmss_height_of secret.tree
    → Spells (signature secret.tree) (textbook secret q digest) (signature_bytes (textbook secret q digest))
textbook_spelled secret q digest inside =
    signed_spelled secret q digest (leaf_path secret q) inside (length-map-range_with_len _ 0 (xmss_height_of secret.tree)) (path_size secret q)
