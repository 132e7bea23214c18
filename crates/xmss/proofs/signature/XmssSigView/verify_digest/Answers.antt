use Rattle.std.proofs.Common.{◌<◌, ◌^◌, ap, refl, subst, sym, ◌∙◌}
use Rattle.std.proofs.lemmas.Bool.Decides.{Decides-eqb}
use Rattle.std.proofs.lemmas.Slice.Eq.{slice_eq-Decides}
use Rattle.typecodes.specs.Types.{xmss_height_of}
use Rattle.xmss.specs.Verification.{LeadsTo}
use Rattle.xmss.specs.View.{signature_of}
use Rattle.xmss.proofs.signature.XmssSigView.verify_digest.Goals as goal

-- the root is the key's, so the signature is valid
pub returns-then-eq : goal.returns-then-eq
returns-then-eq g c =
    let view = c.args.self.now in
    let key = c.args.public.now in
    let decides = slice_eq-Decides Decides-eqb _ _ _ c.eq.ensures in
    record {
      chains = view.chain_count;
      leaf = subst (λ t. view.index < 2 ^ xmss_height_of t) c.requires view.is_leaf;
      height = view.path_length ∙ ap xmss_height_of c.requires;
      leads = subst (LeadsTo key c.args.digest.now (signature_of view)) (decides.0 c.if-eq.true) c.root_from_signature.ensures.leads;
    }

-- it is another, and a valid signature leads to the key's alone
pub returns-else-eq : goal.returns-else-eq
returns-else-eq g c =
    let decides = slice_eq-Decides Decides-eqb _ _ _ c.eq.ensures in
    (refl, λ valid. let root = decides.1 (sym (c.root_from_signature.ensures.only _ valid.leads)) in absurd (cc))
