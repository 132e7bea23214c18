-- Where the parts of a signature stand in the bytes that spell it.
use Rattle.std.proofs.Common.{◌≡◌, ◌∙◌, refl, sym, ap, ℕ, ◌+◌, ◌*◌, ◌≤◌, ◌^◌, List, length, take, drop, Ok, true, false, cond, nat_lt, arith, subst}
use Rattle.byteorder.specs.Endian.{big_number}
use Rattle.typecodes.specs.declared.fault.Cause.TheVariants.{LeafOutOfRange}
use Rattle.typecodes.specs.declared.types.OtsType.{OtsType}
use Rattle.typecodes.specs.declared.types.LmsType.{LmsType}
use Rattle.typecodes.specs.declared.types.LmsPair.{LmsPair}
use Rattle.typecodes.specs.Types.{chains_of, height_of, lms_code, lms_signature_len_of, lms_types, ots_code, ots_types, signature_len_of}
use Rattle.typecodes.specs.Layout.{Layout, done, refuse, ◌>>=◌}
use Rattle.typecodes.specs.Fields.{lms_type, ots_type, values, first_values}
use Rattle.typecodes.specs.Cursor.{read}
use Rattle.typecodes.proofs.Parts.{field_read, in_turn, typed_read, values_read}
use Rattle.lms.specs.Signature.{Signature, signature, whole_signature, type_end}
use Rattle.lms.proofs.After.{after_chains, after_q, after_ots, after_randomizer, after_tree}

-- Each part of a signature stands at its place in the bytes.
pub record IsLaidOut (s : Signature) (bytes : List ℕ) : Type 0 where
  pub size : length bytes ≡ lms_signature_len_of s.pair
  pub q : s.q ≡ big_number 4 (take 4 bytes)
  pub randomizer : s.randomizer ≡ take 32 (drop 8 bytes)
  pub chains : s.chains ≡ first_values (chains_of s.pair.ots) (drop 40 bytes)
  pub path : s.path ≡ first_values (height_of s.pair.tree) (drop (8 + signature_len_of s.pair.ots) bytes)

-- the path's nodes are the last part
path_laid : (q : ℕ) (ots : OtsType) (randomizer : List ℕ) (chains : List (List ℕ)) (tree : LmsType) (bytes : List ℕ) (place : ℕ) (s : Signature) (end : ℕ) → place ≤ length bytes
    → read (after_tree q ots randomizer chains tree) bytes place ≡ Ok (s, end)
    → (s ≡ whole_signature (record { tree = tree; ots = ots }) q randomizer chains (first_values (height_of tree) (drop place bytes))) × (end ≡ place + 32 * height_of tree)
path_laid q ots randomizer chains tree bytes place s end within found =
    let pair : LmsPair = record { tree = tree; ots = ots } in
    let whole : List (List ℕ) → Layout Signature = λ path. done (whole_signature pair q randomizer chains path) in
    let h = height_of tree in
    elim (nat_lt q (2 ^ h)) as (λ leaf. read (cond leaf (values h) (refuse (type_end ots) LeafOutOfRange) >>= whole) bytes place ≡ Ok (s, end)
    → (s ≡ whole_signature pair q randomizer chains (first_values h (drop place bytes))) × (end ≡ place + 32 * h)) [
      | true ↦ λ found.
          let (path, path_found, ends) = in_turn (values h) whole bytes place (s, end) found in
          let path_is = values_read h bytes place path.0 path.1 within path_found in
          let same : ◌≡◌ {A = Signature × ℕ} (whole_signature pair q randomizer chains path.0, path.1) (s, end) = cc in
          (sym (ap (λ x. x.0) same) ∙ ap (whole_signature pair q randomizer chains) path_is.0, sym (ap (λ x. x.1) same) ∙ path_is.1)
      | false ↦ λ found. absurd (cc)
    ] found

-- before it stands the tree's type
tree_laid : (q : ℕ) (ots : OtsType) (randomizer : List ℕ) (chains : List (List ℕ)) (bytes : List ℕ) (place : ℕ) (s : Signature) (end : ℕ)
    → read (after_chains q ots randomizer chains) bytes place ≡ Ok (s, end)
    → (tree : LmsType) × (s ≡ whole_signature (record { tree = tree; ots = ots }) q randomizer chains (first_values (height_of tree) (drop (place + 4) bytes))) × (end ≡ place + 4 + 32 * height_of tree)
unfolding lms_type
tree_laid q ots randomizer chains bytes place s end found =
    let (tree, tree_found, path_found) = in_turn lms_type (after_tree q ots randomizer chains) bytes place (s, end) found in
    let tree_is = typed_read lms_code lms_types bytes place tree tree_found in
    let at : read (after_tree q ots randomizer chains tree.0) bytes (place + 4) ≡ Ok (s, end) = rw (tree_is.1) at path_found in
    let laid = path_laid q ots randomizer chains tree.0 bytes (place + 4) s end tree_is.0 at in
    (tree.0, laid.0, laid.1)

-- before these the randomizer and the chains' values
one_time_laid : (q : ℕ) (ots : OtsType) (bytes : List ℕ) (place : ℕ) (s : Signature) (end : ℕ) → read (after_ots q ots) bytes place ≡ Ok (s, end)
    → (tree : LmsType) × (s ≡ whole_signature (record { tree = tree; ots = ots }) q (take 32 (drop place bytes)) (first_values (chains_of ots) (drop (place + 32) bytes))
    (first_values (height_of tree) (drop (place + signature_len_of ots) bytes))) × (end ≡ place + signature_len_of ots + 32 * height_of tree)
one_time_laid q ots bytes place s end found =
    let (fits, chains_from) = field_read 32 (λ b. done b >>= after_randomizer q ots) bytes place (s, end) found in
    let randomizer = take 32 (drop place bytes) in
    let (chains, chains_found, tree_from) = in_turn (values (chains_of ots)) (after_chains q ots randomizer) bytes (place + 32) (s, end) chains_from in
    let chains_are = values_read (chains_of ots) bytes (place + 32) chains.0 chains.1 fits chains_found in
    let at = rw (chains_are.0, chains_are.1) at tree_from in
    let (tree, is, ends) = tree_laid q ots randomizer (first_values (chains_of ots) (drop (place + 32) bytes)) bytes (place + 32 + 32 * chains_of ots) s end at in
    let path_at : place + 32 + 32 * chains_of ots + 4 ≡ place + signature_len_of ots = omega arith in
    (tree, rw (path_at) at is, omega (arith, ends))

-- they do in a signature that is made of what stands there
of_parts : (s : Signature) (bytes : List ℕ) (ots : OtsType) (tree : LmsType)
    → s ≡ whole_signature (record { tree = tree; ots = ots }) (big_number 4 (take 4 bytes)) (take 32 (drop 8 bytes)) (first_values (chains_of ots) (drop 40 bytes))
    (first_values (height_of tree) (drop (8 + signature_len_of ots) bytes))
    → length bytes ≡ 8 + signature_len_of ots + 32 * height_of tree → IsLaidOut s bytes
of_parts s bytes ots tree is size =
    subst (λ s. IsLaidOut s bytes) (sym is) (record { size = size; q = refl; randomizer = refl; chains = refl; path = refl })

-- so they do where the bytes are read as the signature
pub laid_out : (s : Signature) (bytes : List ℕ) → read signature bytes 0 ≡ Ok (s, length bytes) → IsLaidOut s bytes
unfolding signature ots_type
laid_out s bytes found =
    let (fits, ots_from) = field_read 4 (λ b. done (big_number 4 b) >>= after_q) bytes 0 (s, length bytes) found in
    let q = big_number 4 (take 4 bytes) in
    let (ots, ots_found, randomizer_of_fields) = in_turn ots_type (after_ots q) bytes 4 (s, length bytes) ots_from in
    let (_, ots_end) = typed_read ots_code ots_types bytes 4 ots ots_found in
    let (tree, is, end) = one_time_laid q ots.0 bytes 8 s (length bytes) (rw (ots_end) at randomizer_of_fields) in
    of_parts s bytes ots.0 tree is end
