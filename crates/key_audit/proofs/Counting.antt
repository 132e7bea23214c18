-- The number of signatures that a listing shows is what the signer has left.
use Rattle.std.proofs.Common.{◌≡◌, ◌∙◌, ◌<◌, ◌≤◌, ◌+◌, ◌*◌, ◌-◌, ℕ, zero, suc, List, [], ◌∷◌, Option, Some, None, length, map}
use Rattle.std.proofs.Common.{refl, ap, ap₂, arith, Bool}
use Rattle.std.proofs.lemmas.List.{length-map}
use Rattle.std.specs.Prelude.{option_map, slice_get, if◌then◌else◌}
use Rattle.std.proofs.lemmas.List.FromFn.{length-map-range_with_len}
use Rattle.std.proofs.lemmas.Option.{slice_get-map}
use Rattle.typecodes.specs.declared.spec.Spec.{Spec}
use Rattle.typecodes.specs.declared.types.LmsPair.{LmsPair}
use Rattle.state_file.specs.Laws.{has_moved, is_moved, leaves_at, levels_of}
use Rattle.state_file.specs.Laws.{tree_leaves_at as leaves_in}
use Rattle.state_file.specs.declared.record.Record.{Record}
use Rattle.state_file.specs.declared.record.Record.TheVariants as entry
use Rattle.state_file.specs.declared.record.Secret.{Secret}
use Rattle.state_file.specs.declared.record.Secret.TheVariants.{Lms, Hss, Xmss}
use Rattle.sign_core.specs.Left.{bottom_leaves_of}
use Rattle.sign_core.specs.Records.{free_at, free_counts, types_of}
use Rattle.key_audit.specs.Listing.{entry_of}
use Rattle.key_audit.specs.Signatures.{CountLaw, ends_moved, is_moved_entry, names_left, pair_leaves, tree_leaves_at}

-- the leaves of a tree, by its type and by the key's secret
in_levels : (levels : List LmsPair) (level : ℕ) → level < length levels
    → pair_leaves (slice_get levels level) ≡ leaves_in levels level
in_levels [] level within = absurd (omega (arith, within))
in_levels (pair ∷ rest) zero within = refl
in_levels (pair ∷ rest) (suc level) within = in_levels rest level (omega (arith, within))

leaves_same : (secret : Secret) (level : ℕ) → level < levels_of secret
    → tree_leaves_at (types_of secret) level ≡ leaves_at secret level
leaves_same (Lms secret) level within = refl
leaves_same (Hss levels identifier seed) level within = in_levels levels level within
leaves_same (Xmss secret) level within = refl

counted : (spec : Spec) (leaves : ℕ → ℕ) (before level : ℕ) (counts : List ℕ)
    → ((k : ℕ) → level ≤ k → k < level + length counts → tree_leaves_at spec k ≡ leaves k)
    → names_left spec level before counts ≡ bottom_leaves_of leaves before level counts
unfolding names_left
counted spec leaves before level [] same = refl
counted spec leaves before level (count ∷ counts) same =
    ap (λ n. names_left spec (level + 1) (before * n + count) counts) (same level (omega arith) (omega arith))
    ∙ counted spec leaves (before * leaves level + count) (level + 1) counts
    (λ k low high. same k (omega (arith, low)) (omega (arith, high)))

-- a file that goes on elsewhere
moved_entry : (found : Option Record) → is_moved_entry (option_map entry_of found) ≡ is_moved found
moved_entry None = refl
moved_entry (Some (entry.Key key)) = refl
moved_entry (Some (entry.Extend extend)) = refl
moved_entry (Some (entry.Bound bound)) = refl
moved_entry (Some (entry.Retire upto)) = refl
moved_entry (Some entry.Moved) = refl

moved_same : (records : List Record) → ends_moved (map entry_of records) ≡ has_moved records
moved_same records =
    ap (λ n. is_moved_entry (slice_get (map entry_of records) (n - 1))) (length-map records entry_of)
    ∙ ap is_moved_entry (slice_get-map entry_of records (length records - 1))
    ∙ moved_entry (slice_get records (length records - 1))

pub count_law : CountLaw
count_law records key =
    let secret = key.secret in
    let long : length (free_counts secret records) ≡ levels_of secret =
    length-map-range_with_len (free_at secret records) 0 (levels_of secret) in
    let same = counted (types_of secret) (leaves_at secret) 0 0 (free_counts secret records)
    (λ k low high. leaves_same secret k (omega (arith, high, long))) in
    ap₂ (λ (moved : Bool) (n : ℕ). if moved then 0 else n) (moved_same records) same
