-- The bytes of keys and signatures spell them, field by field. xmss has such a file for its own layouts; what both
-- share stands in typecodes.
use Rattle.std.proofs.Common.{◌≡◌, refl, ℕ, ◌<◌, ◌^◌, List, [], ◌++◌, length, get_or, subst}
use Rattle.std.specs.List.{concat}
use Rattle.std.proofs.lemmas.Bool.{lt-ltb}
use Rattle.std.proofs.lemmas.List.FromFn.{length-map-range_with_len}
use Rattle.typecodes.specs.Types.{chains_of, height_of, lms_code, ots_code}
use Rattle.typecodes.specs.Layout.{Spells}
use Rattle.typecodes.specs.Fields.{block, lms_type, number, ots_type, values}
use Rattle.typecodes.proofs.FieldBytes.{block_spelled, four_parts, last_field, lms_spelled, number_spelled, ots_spelled, six_parts, values_spelled}
use Rattle.typecodes.proofs.Leaves.{lms_leaf_small}
use Rattle.typecodes.proofs.Spelling.{from_turn}
use Rattle.lmots.specs.Hashes.{u32str}
use Rattle.lmots.proofs.Signing.{signed_sizes}
use Rattle.lms.specs.declared.key.LmsPublic.{LmsPublic}
use Rattle.typecodes.specs.declared.secret.LmsSecret.{LmsSecret}
use Rattle.lms.specs.Key.{public_key}
use Rattle.lms.specs.Signature.{Signature, signature}
use Rattle.lms.specs.Writing.{public_bytes, signature_bytes, made_signature}
use Rattle.lms.proofs.After.{after_chains, after_identifier, after_q, after_key_tree, after_ots, after_randomizer, after_root, after_tree, after_types}

-- The parts have the sizes that the types say, and q is a leaf.
pub record IsSized (s : Signature) : Type 0 where
  pub is_leaf : s.q < 2 ^ height_of s.pair.tree
  pub randomizer : length s.randomizer ≡ 32
  pub chain_count : length s.chains ≡ chains_of s.pair.ots
  pub chains : (i : ℕ) → i < chains_of s.pair.ots → length (get_or s.chains i []) ≡ 32
  pub path_count : length s.path ≡ height_of s.pair.tree
  pub path : (i : ℕ) → i < height_of s.pair.tree → length (get_or s.path i []) ≡ 32

-- the path ends a signature
path_spelled : (s : Signature) → IsSized s → Spells (after_tree s.q s.pair.ots s.randomizer s.chains s.pair.tree) s (concat s.path)
path_spelled s sized =
    let h = height_of s.pair.tree in
    rw (lt-ltb s.q (2 ^ h) sized.is_leaf)
    (last_field (values h) _ s.path s (concat s.path) (values_spelled h s.path sized.path_count sized.path) (refl, refl))

-- the tree's type and the path end it
tree_spelled : (s : Signature) → IsSized s
    → Spells (after_chains s.q s.pair.ots s.randomizer s.chains) s (u32str (lms_code s.pair.tree) ++ concat s.path)
tree_spelled s sized =
    from_turn lms_type (after_tree s.q s.pair.ots s.randomizer s.chains) s.pair.tree s (u32str (lms_code s.pair.tree)) (concat s.path)
    (lms_spelled s.pair.tree) (path_spelled s sized)

-- so do the randomizer, the chains' values and what comes after them
one_time_spelled : (s : Signature) (rest : List ℕ) → IsSized s → Spells (after_chains s.q s.pair.ots s.randomizer s.chains) s rest
    → Spells (after_ots s.q s.pair.ots) s (s.randomizer ++ (concat s.chains ++ rest))
one_time_spelled s rest sized spelled =
    from_turn (block 32) (after_randomizer s.q s.pair.ots) s.randomizer s s.randomizer (concat s.chains ++ rest)
    (block_spelled 32 s.randomizer sized.randomizer)
    (from_turn (values (chains_of s.pair.ots)) (after_chains s.q s.pair.ots s.randomizer) s.chains s (concat s.chains) rest
    (values_spelled (chains_of s.pair.ots) s.chains sized.chain_count sized.chains) spelled)

-- A signature whose parts have their sizes and whose types a reader knows is spelled by its bytes.
pub signature_spelled : (s : Signature) → IsSized s
    → Spells signature s (signature_bytes s)
unfolding signature
signature_spelled s sized =
    let rest = u32str (lms_code s.pair.tree) ++ concat s.path in
    let one_time = s.randomizer ++ (concat s.chains ++ rest) in
    subst (Spells signature s) (six_parts (u32str s.q) (u32str (ots_code s.pair.ots)) s.randomizer (concat s.chains) (u32str (lms_code s.pair.tree)) (concat s.path))
    (from_turn number after_q s.q s (u32str s.q) (u32str (ots_code s.pair.ots) ++ one_time)
    (number_spelled s.q (lms_leaf_small s.pair.tree s.q sized.is_leaf))
    (from_turn ots_type (after_ots s.q) s.pair.ots s (u32str (ots_code s.pair.ots)) one_time
    (ots_spelled s.pair.ots)
    (one_time_spelled s rest sized (tree_spelled s sized))))

-- So is the signature that a secret makes, with a randomizer of 32 bytes and h path nodes of 32 bytes.
pub signed_spelled : (secret : LmsSecret) (q : ℕ) (randomizer digest : List ℕ) (path : List (List ℕ)) → q < 2 ^ height_of secret.pair.tree
    → length randomizer ≡ 32 → length path ≡ height_of secret.pair.tree → ((i : ℕ) → i < height_of secret.pair.tree → length (get_or path i []) ≡ 32)
    → Spells signature (made_signature secret q randomizer digest path) (signature_bytes (made_signature secret q randomizer digest path))
signed_spelled secret q randomizer digest path inside size count sizes =
    let sized : IsSized (made_signature secret q randomizer digest path) = record {
      is_leaf = inside;
      randomizer = size;
      chain_count = length-map-range_with_len _ 0 (chains_of secret.pair.ots);
      chains = signed_sizes secret.identifier q secret.pair.ots secret.seed digest;
      path_count = count;
      path = sizes;
    } in
    signature_spelled (made_signature secret q randomizer digest path) sized

-- A public key is spelled by its bytes.
pub public_spelled : (key : LmsPublic) → length key.identifier ≡ 16 → length key.root ≡ 32
    → Spells public_key key (public_bytes key)
unfolding public_key
public_spelled key identifier root =
    let bytes = key.identifier ++ key.root in
    subst (Spells public_key key) (four_parts (u32str (lms_code key.pair.tree)) (u32str (ots_code key.pair.ots)) key.identifier key.root)
    (from_turn lms_type after_key_tree key.pair.tree key (u32str (lms_code key.pair.tree)) (u32str (ots_code key.pair.ots) ++ bytes)
    (lms_spelled key.pair.tree)
    (from_turn ots_type (after_types key.pair.tree) key.pair.ots key (u32str (ots_code key.pair.ots)) bytes
    (ots_spelled key.pair.ots)
    (from_turn (block 16) (after_identifier key.pair.tree key.pair.ots) key.identifier key key.identifier key.root
    (block_spelled 16 key.identifier identifier)
    (last_field (block 32) (after_root key.pair.tree key.pair.ots key.identifier) key.root key key.root (block_spelled 32 key.root root) (refl, refl)))))
