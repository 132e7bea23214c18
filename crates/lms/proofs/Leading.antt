-- The root to which a signature leads, from the steps that compute it. xmss has such a file for its own steps; the way
-- along a path, which both share, stands in merkle.
use Rattle.std.proofs.Common.{◌≡◌, ℕ, List, ap, ◌∙◌}
use Rattle.typecodes.specs.Types.{height_of}
use Rattle.merkle.specs.Ascent.{PathLeadsTo}
use Rattle.lmots.specs.Key.{public_hash, ClimbTo}
use Rattle.lms.specs.declared.key.LmsPublic.{LmsPublic}
use Rattle.lms.specs.Signature.{Signature}
use Rattle.lms.specs.Nodes.{join_of, leaf_of}
use Rattle.lms.specs.Verification.{LeadsTo}

-- the leaf and the height from which a node was computed
pub record Steps (identifier : List ℕ) (s : Signature) (hash leaf : List ℕ) (h : ℕ) : Type 0 where
  pub leaf_is : leaf ≡ leaf_of identifier h s.q hash
  pub height : h ≡ height_of s.pair.tree

-- the ends of the chains and the path from the leaf show that the signature leads to the root
pub leads : (key : LmsPublic) (digest : List ℕ) (s : Signature) (hash leaf root : List ℕ) (h : ℕ)
    → Steps key.identifier s hash leaf h
    → ((ends : List (List ℕ)) × ClimbTo key.identifier s.q s.pair.ots digest s.chains ends × (hash ≡ public_hash key.identifier s.q ends))
    → PathLeadsTo (join_of key.identifier h) s.q leaf s.path root
    → LeadsTo key digest s root
leads key digest s hash leaf root h steps (ends, climbed, hash_is) led =
    let leaf_is = steps.leaf_is ∙ ap (leaf_of key.identifier h s.q) hash_is in
    record {
      ends = ends;
      climbed = climbed;
      path = rw (leaf_is, steps.height) at led;
    }

-- and any root to which it leads is this one
pub leads_only : (key : LmsPublic) (digest : List ℕ) (s : Signature) (hash leaf root : List ℕ) (h : ℕ)
    → Steps key.identifier s hash leaf h
    → ((ends : List (List ℕ)) → ClimbTo key.identifier s.q s.pair.ots digest s.chains ends → hash ≡ public_hash key.identifier s.q ends)
    → ((other : List ℕ) → PathLeadsTo (join_of key.identifier h) s.q leaf s.path other → other ≡ root)
    → (other : List ℕ) → LeadsTo key digest s other → other ≡ root
leads_only key digest s hash leaf root h steps hash_only root_only other led =
    let hash_is = hash_only led.ends led.climbed in
    let leaf_is = steps.leaf_is ∙ ap (leaf_of key.identifier h s.q) hash_is in
    root_only other (rw (← steps.height, ← leaf_is) at led.path)
