use Rattle.std.proofs.Common.{◌≡◌, ◌<◌, ◌^◌, ap, refl, rules, subst, ◌∙◌}
use Rattle.typecodes.specs.Types.{chains_of, height_of}
use Rattle.lms.specs.Verification.{LeadsTo}
use Rattle.lms.specs.View.{signature_of}
use Rattle.lms.proofs.signature.LmsSigView.verify_digest.Goals as goal

-- the root is the key's: the signature is valid
pub returns-then-eq : goal.returns-then-eq
returns-then-eq g c =
    let view = c.args.self.now in
    let types = c.requires in
    let root : c.root_from_signature.result ≡ c.args.public.now.root = search rules in
    record {
      types = types;
      chains = view.chain_count ∙ ap (λ pair. chains_of pair.ots) types;
      leaf = subst (λ pair. view.q < 2 ^ height_of pair.tree) types view.is_leaf;
      height = view.path_length ∙ ap (λ pair. height_of pair.tree) types;
      leads = subst (LeadsTo c.args.public.now c.args.digest.now (signature_of view)) root c.root_from_signature.ensures.leads;
    }

-- it is another: a valid signature would lead to the key's
pub returns-else-eq : goal.returns-else-eq
returns-else-eq g c = (refl, λ valid. let root = c.root_from_signature.ensures.only _ valid.leads in search rules)
