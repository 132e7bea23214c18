-- The signatures that a secret makes (RFC 8554 4.5, 5.4.1 and Appendix A), and the bytes of keys and signatures.
use Rattle.std.specs.Prelude.{ℕ, List, ◌++◌}
use Rattle.std.specs.List.{concat}
use Rattle.typecodes.specs.Types.{lms_code, ots_code}
use Rattle.lmots.specs.Hashes.{u32str}
use Rattle.lmots.specs.Key.{signed_values}
use Rattle.lms.specs.declared.key.LmsPublic.{LmsPublic}
use Rattle.typecodes.specs.declared.secret.LmsSecret.{LmsSecret}
use Rattle.lms.specs.Secret.{leaf_path}
use Rattle.lms.specs.Signature.{Signature, whole_signature}

-- the signature of the digest Q by leaf q, with the randomizer C and a path
abbrev pub made_signature : LmsSecret → ℕ → List ℕ → List ℕ → List (List ℕ) → Signature
made_signature secret q randomizer digest path =
    let chains = signed_values secret.identifier q secret.pair.ots secret.seed digest in
    whole_signature secret.pair q randomizer chains path

-- The textbook signature: it has the path of leaf q.
abbrev pub textbook : LmsSecret → ℕ → List ℕ → List ℕ → Signature
textbook secret q randomizer digest = made_signature secret q randomizer digest (leaf_path secret q)

-- the bytes of a signature (5.4)
abbrev pub signature_bytes : Signature → List ℕ
signature_bytes s = u32str s.q ++ u32str (ots_code s.pair.ots) ++ s.randomizer ++ concat s.chains
    ++ u32str (lms_code s.pair.tree) ++ concat s.path

-- the bytes of a public key (5.3)
abbrev pub public_bytes : LmsPublic → List ℕ
public_bytes key = u32str (lms_code key.pair.tree) ++ u32str (ots_code key.pair.ots) ++ key.identifier ++ key.root
