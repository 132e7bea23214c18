-- Equal trees have equal paths and roots.
use Rattle.std.specs.Prelude.{◌≡◌, ℕ}
use Rattle.merkle.specs.Tree.{Joins, Leaves, path_at, root_of}

pub path_along : (leaves leaves' : Leaves) (join join' : Joins) (h h' q : ℕ) → leaves ≡ leaves' → join ≡ join' → h ≡ h' → path_at leaves join h q ≡ path_at leaves' join' h' q
path_along leaves leaves' join join' h h' q e f g = λ i. path_at (e i) (f i) (g i) q

pub root_along : (leaves : Leaves) (join join' : Joins) (h h' : ℕ) → join ≡ join' → h ≡ h' → root_of leaves join h ≡ root_of leaves join' h'
root_along leaves join join' h h' f g = λ i. root_of leaves (f i) (g i)
