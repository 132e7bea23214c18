-- What is known of a signature that was read.
use Rattle.std.proofs.Common.{◌≡◌, ℕ, List, Result, Ok, subst}
use Rattle.std.specs.Prelude.{IfOk, MatchResult}
use Rattle.typecodes.specs.declared.fault.ReadFault.{ReadFault}
use Rattle.typecodes.specs.Layout.{Spells}
use Rattle.typecodes.specs.Cursor.{Reads}
use Rattle.typecodes.proofs.WasRead.{was_read}
use Rattle.xmss.specs.declared.key.XmssPublic.{XmssPublic}
use Rattle.xmss.specs.declared.signature.XmssSigView.{XmssSigView}
use Rattle.xmss.specs.Signature.{signature}
use Rattle.xmss.specs.View.{signature_of}

-- The bytes spell what the view shows, of the key's type.
pub record IsDecoded (key : XmssPublic) (bytes : List ℕ) (view : XmssSigView) : Type 0 where
  pub spelled : Spells (signature key.tree) (signature_of view) bytes
  pub tree : view.tree ≡ key.tree

pub is_read : (E : Type 0) (key : XmssPublic) (bytes : List ℕ) (result : Result XmssSigView ReadFault) (view : XmssSigView) (Q : ReadFault → Type 0)
    → Reads (signature key.tree) signature_of bytes result → IfOk result (λ view. view.tree ≡ key.tree)
    → MatchResult result (λ y. ◌≡◌ {A = Result XmssSigView E} (Ok view) (Ok y)) Q → ((fault : ReadFault) → Q fault → ⊥)
    → IsDecoded key bytes view
is_read E key bytes result view Q reads tree cases never =
    let read_is = was_read E result view Q cases never in
    record {
      spelled = subst (λ r. Reads (signature key.tree) signature_of bytes r) read_is reads;
      tree = subst (λ r. IfOk r (λ view. view.tree ≡ key.tree)) read_is tree;
    }
