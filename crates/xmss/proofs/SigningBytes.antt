-- The bytes of keys and signatures spell them. Fields that both standards share stand in typecodes; lms has such a file
-- for its own layouts.
use Rattle.std.proofs.Common.{◌≡◌, refl, ℕ, ◌<◌, ◌^◌, List, [], ◌++◌, length, get_or, subst}
use Rattle.std.specs.List.{concat}
use Rattle.std.proofs.lemmas.Bool.{lt-ltb}
use Rattle.sha2.proofs.Facts256.{length-sha256}
use Rattle.typecodes.specs.declared.types.XmssType.{XmssType}
use Rattle.typecodes.specs.Types.{xmss_code, xmss_height_of}
use Rattle.typecodes.specs.Layout.{Spells, done}
use Rattle.typecodes.specs.Fields.{block, number, values, xmss_type}
use Rattle.typecodes.proofs.FieldBytes.{block_spelled, four_parts, last_field, number_spelled, three_parts, values_spelled, xmss_spelled}
use Rattle.typecodes.proofs.Leaves.{xmss_leaf_small}
use Rattle.typecodes.proofs.Spelling.{from_turn}
use Rattle.wots_plus.specs.Hashes.{to_byte}
use Rattle.wots_plus.proofs.Signing.{signed_sizes}
use Rattle.xmss.specs.declared.key.XmssPublic.{XmssPublic}
use Rattle.typecodes.specs.declared.secret.XmssSecret.{XmssSecret}
use Rattle.xmss.specs.Key.{public_key}
use Rattle.xmss.specs.Signature.{Signature, leaf_index, signature}
use Rattle.xmss.specs.Writing.{public_bytes, signature_bytes, made_signature}
use Rattle.xmss.proofs.After.{after_chains, after_index, after_randomizer, after_root, after_tree, checked}

index_spelled : (h index : ℕ) → index < 2 ^ h → index < 2 ^ 32 → Spells (leaf_index h) index (to_byte index 4)
unfolding leaf_index
index_spelled h index is_leaf small =
    last_field number (checked h) index index (to_byte index 4) (number_spelled index small)
    (rw (lt-ltb index (2 ^ h) is_leaf) (refl, refl))

-- Parts of a type's sizes, and an index that is a leaf's.
pub record IsSized (tree : XmssType) (s : Signature) : Type 0 where
  pub is_leaf : s.index < 2 ^ xmss_height_of tree
  pub randomizer : length s.randomizer ≡ 32
  pub chain_count : length s.chains ≡ 67
  pub chains : (i : ℕ) → i < 67 → length (get_or s.chains i []) ≡ 32
  pub path_count : length s.path ≡ xmss_height_of tree
  pub path : (i : ℕ) → i < xmss_height_of tree → length (get_or s.path i []) ≡ 32

signature_spelled : (tree : XmssType) (s : Signature) → IsSized tree s → Spells (signature tree) s (signature_bytes s)
unfolding signature
signature_spelled tree s sized =
    let h = xmss_height_of tree in
    let index = to_byte s.index 4 in
    let chains = concat s.chains in
    let path = concat s.path in
    subst (Spells (signature tree) s) (four_parts index s.randomizer chains path)
    (from_turn (leaf_index h) (after_index tree) s.index s index (s.randomizer ++ (chains ++ path))
    (index_spelled h s.index sized.is_leaf (xmss_leaf_small tree s.index sized.is_leaf))
    (from_turn (block 32) (after_randomizer tree s.index) s.randomizer s s.randomizer (chains ++ path)
    (block_spelled 32 s.randomizer sized.randomizer)
    (from_turn (values 67) (after_chains tree s.index s.randomizer) s.chains s chains path
    (values_spelled 67 s.chains sized.chain_count sized.chains)
    (last_field (values h) _ s.path s path (values_spelled h s.path sized.path_count sized.path) (refl, refl)))))

-- A secret's signature is spelled by its bytes, if its path has a value of 32 bytes for each height.
pub signed_spelled : (secret : XmssSecret) (i : ℕ) (digest : List ℕ) (path : List (List ℕ)) → i < 2 ^ xmss_height_of secret.tree
    → length path ≡ xmss_height_of secret.tree → ((k : ℕ) → k < xmss_height_of secret.tree → length (get_or path k []) ≡ 32)
    → Spells (signature secret.tree) (made_signature secret i digest path) (signature_bytes (made_signature secret i digest path))
signed_spelled secret i digest path is_leaf count sizes =
    let sized : IsSized secret.tree (made_signature secret i digest path) = record {
      is_leaf = is_leaf;
      randomizer = length-sha256 _;
      chain_count = refl;
      chains = signed_sizes secret.public_seed i secret.secret_seed digest;
      path_count = count;
      path = sizes;
    } in
    signature_spelled secret.tree (made_signature secret i digest path) sized

pub public_spelled : (key : XmssPublic) → length key.root ≡ 32 → length key.seed ≡ 32 → Spells public_key key (public_bytes key)
unfolding public_key
public_spelled key root seed =
    let code = to_byte (xmss_code key.tree) 4 in
    subst (Spells public_key key) (three_parts code key.root key.seed)
    (from_turn xmss_type after_tree key.tree key code (key.root ++ key.seed)
    (xmss_spelled key.tree)
    (from_turn (block 32) (after_root key.tree) key.root key key.root key.seed
    (block_spelled 32 key.root root)
    (last_field (block 32) (λ seed. done (record { tree = key.tree; root = key.root; seed = seed })) key.seed key key.seed (block_spelled 32 key.seed seed) (refl, refl))))
