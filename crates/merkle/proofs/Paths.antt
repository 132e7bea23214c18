-- The authentication path of a leaf, and the node that it leads to.
use Rattle.std.proofs.Common.{◌≡◌, ◌∙◌, refl, ap, ℕ, ◌<◌, ◌^◌, length, arith}
use Rattle.std.proofs.lemmas.List.FromFn.{length-map-range_with_len}
use Rattle.merkle.specs.Ascent.{PathLeadsTo, at}
use Rattle.merkle.specs.Tree.{Joins, Leaves, path_at, root_of}
use Rattle.merkle.proofs.Climb.{climbed_is_ascent, climbed_nodes, climbed_nodes_at}
use Rattle.merkle.proofs.Leading.{climbed_to_root}

pub path_long : (leaves : Leaves) (joins : Joins) (h q : ℕ) → length (path_at leaves joins h q) ≡ h
path_long leaves joins h q = length-map-range_with_len _ 0 h

pub path_leads : (leaves : Leaves) (joins : Joins) (h q : ℕ) → q < 2 ^ h
    → PathLeadsTo joins q (leaves q) (path_at leaves joins h q) (root_of leaves joins h)
path_leads leaves joins h q inside =
    let path = path_at leaves joins h q in
    let long = path_long leaves joins h q in
    record {
      nodes = climbed_nodes joins q (leaves q) path;
      ascent = climbed_is_ascent joins q (leaves q) path;
      last = ap (at (climbed_nodes joins q (leaves q) path)) long
          ∙ climbed_nodes_at joins q (leaves q) path h (omega (arith, long))
          ∙ climbed_to_root leaves joins h q (leaves q) path inside refl refl;
    }

-- paths and roots of equal trees are equal
pub path_along : (leaves leaves' : Leaves) (join join' : Joins) (h h' q : ℕ) → leaves ≡ leaves' → join ≡ join' → h ≡ h' → path_at leaves join h q ≡ path_at leaves' join' h' q
path_along leaves leaves' join join' h h' q e f g = λ i. path_at (e i) (f i) (g i) q

pub root_along : (leaves : Leaves) (join join' : Joins) (h h' : ℕ) → join ≡ join' → h ≡ h' → root_of leaves join h ≡ root_of leaves join' h'
root_along leaves join join' h h' f g = λ i. root_of leaves (f i) (g i)
