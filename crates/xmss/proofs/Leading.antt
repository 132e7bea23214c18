-- The root that a signature leads to, from the steps that compute it. There is such a file in lms for its standard;
-- merkle has what both share, the way along a path.
use Rattle.std.proofs.Common.{◌≡◌, ℕ, List, sym, subst}
use Rattle.merkle.specs.Ascent.{PathLeadsTo}
use Rattle.wots_plus.specs.Key.{ClimbTo, public_hash}
use Rattle.xmss.specs.declared.key.XmssPublic.{XmssPublic}
use Rattle.xmss.specs.Signature.{Signature}
use Rattle.xmss.specs.Nodes.{join_of}
use Rattle.xmss.specs.Verification.{LeadsTo}

pub leads : (key : XmssPublic) (digest : List ℕ) (s : Signature) (seed leaf root : List ℕ) → seed ≡ key.seed
    → ((ends : List (List ℕ)) × ClimbTo seed s.index digest s.chains ends × (leaf ≡ public_hash seed s.index ends))
    → PathLeadsTo (join_of seed) s.index leaf s.path root
    → LeadsTo key digest s root
leads key digest s seed leaf root seed_is (ends, climbed, leaf_is) led = record {
  ends = ends;
  climbed = subst (λ x. ClimbTo x s.index digest s.chains ends) seed_is climbed;
  path = subst (λ x. PathLeadsTo (join_of x) s.index (public_hash x s.index ends) s.path root) seed_is
      (subst (λ l. PathLeadsTo (join_of seed) s.index l s.path root) leaf_is led);
}

pub leads_only : (key : XmssPublic) (digest : List ℕ) (s : Signature) (seed leaf root : List ℕ) → seed ≡ key.seed
    → ((ends : List (List ℕ)) → ClimbTo seed s.index digest s.chains ends → leaf ≡ public_hash seed s.index ends)
    → ((other : List ℕ) → PathLeadsTo (join_of seed) s.index leaf s.path other → other ≡ root)
    → (other : List ℕ) → LeadsTo key digest s other → other ≡ root
leads_only key digest s seed leaf root seed_is leaf_only root_only other led =
    let leaf_is = leaf_only led.ends (subst (λ x. ClimbTo x s.index digest s.chains led.ends) (sym seed_is) led.climbed) in
    root_only other (subst (λ l. PathLeadsTo (join_of seed) s.index l s.path other) (sym leaf_is)
    (subst (λ x. PathLeadsTo (join_of x) s.index (public_hash x s.index led.ends) s.path other) (sym seed_is) led.path))
