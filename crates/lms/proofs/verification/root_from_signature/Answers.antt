use Rattle.lms.specs.View.{signature_of}
use Rattle.lms.proofs.Leading.{Steps, leads, leads_only}
use Rattle.lms.proofs.verification.root_from_signature.Goals as goal

steps : (g : _) (c : goal.After-root_from_path g) → Steps c.args.public.now.identifier (signature_of c.args.view.now) c.hash_from_signature-public_hash.result c.leaf-leaf.result c.height.result
steps g c = record {
  leaf_is = c.leaf-leaf.ensures;
  height = c.height.ensures.value;
}

pub returns-clause-leads : goal.returns-clause-leads
returns-clause-leads g c = leads c.args.public.now _ _ _ _ _ _ (steps g c) c.hash_from_signature-public_hash.ensures.ends_exist c.root_from_path.ensures.last

pub returns-clause-only : goal.returns-clause-only
returns-clause-only g c = leads_only c.args.public.now _ _ _ _ _ _ (steps g c) c.hash_from_signature-public_hash.ensures.only c.root_from_path.ensures.only
