-- The bytes of the textbook signature spell it.
use Rattle.std.proofs.Common.{◌≡◌, ◌∙◌, ap, ℕ, zero, suc, ◌/◌, ◌<◌, ◌^◌, List, [], length, get_or, arith}
use Rattle.std.proofs.lemmas.List.FromFn.{get_or-map-range_with_len, length-map-range_with_len}
use Rattle.sha2.proofs.Facts256.{length-sha256}
use Rattle.typecodes.specs.Types.{height_of}
use Rattle.typecodes.specs.Layout.{Spells}
use Rattle.merkle.specs.Tree.{node, sibling}
use Rattle.typecodes.specs.declared.secret.LmsSecret.{LmsSecret}
use Rattle.lms.specs.Signature.{signature}
use Rattle.lms.specs.Secret.{joins_of, leaves_of, leaf_path}
use Rattle.lms.specs.Writing.{signature_bytes, textbook}
use Rattle.lms.proofs.SigningBytes.{signed_spelled}

node_size : (secret : LmsSecret) (k j : ℕ) → length (node (leaves_of secret) (joins_of secret) k j) ≡ 32
unfolding node
node_size secret zero j = length-sha256 _
node_size secret (suc k) j = length-sha256 _

path_size : (secret : LmsSecret) (q i : ℕ) → i < height_of secret.pair.tree → length (get_or (leaf_path secret q) i []) ≡ 32
path_size secret q i inside =
    let node_at : ℕ → List ℕ = λ k. node (leaves_of secret) (joins_of secret) k (sibling (q / 2 ^ k)) in
    ap length (get_or-map-range_with_len node_at 0 (height_of secret.pair.tree) i i [] inside (omega arith)) ∙ node_size secret i (sibling (q / 2 ^ i))

pub textbook_spelled : (secret : LmsSecret) (q : ℕ) (randomizer digest : List ℕ) → q < 2 ^ height_of secret.pair.tree → length randomizer ≡ 32
    → Spells signature (textbook secret q randomizer digest) (signature_bytes (textbook secret q randomizer digest))
textbook_spelled secret q randomizer digest inside size =
    signed_spelled secret q randomizer digest (leaf_path secret q) inside size (length-map-range_with_len _ 0 (height_of secret.pair.tree)) (path_size secret q)
