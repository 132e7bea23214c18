-- The signatures that a secret makes (RFC 8391 3.1.5 and 4.1.9), and the bytes of keys and signatures.
use Rattle.std.specs.Prelude.{ℕ, List, ◌++◌}
use Rattle.std.specs.List.{concat}
use Rattle.typecodes.specs.Types.{xmss_code}
use Rattle.wots_plus.specs.Hashes.{to_byte}
use Rattle.wots_plus.specs.Key.{signed_values}
use Rattle.xmss.specs.declared.key.XmssPublic.{XmssPublic}
use Rattle.typecodes.specs.declared.secret.XmssSecret.{XmssSecret}
use Rattle.xmss.specs.Secret.{leaf_path, randomizer_at}
use Rattle.xmss.specs.Signature.{Signature}

-- a leaf's signature of the digest M', with any path
abbrev pub made_signature : XmssSecret → ℕ → List ℕ → List (List ℕ) → Signature
made_signature secret index digest path =
    let chains = signed_values secret.public_seed index secret.secret_seed digest in
    record { index = index; randomizer = randomizer_at secret.prf_key index; chains = chains; path = path }

-- the textbook signature, with the leaf's own path
abbrev pub textbook : XmssSecret → ℕ → List ℕ → Signature
textbook secret index digest = made_signature secret index digest (leaf_path secret index)

-- the bytes of a signature (4.1.8)
abbrev pub signature_bytes : Signature → List ℕ
signature_bytes s = to_byte s.index 4 ++ s.randomizer ++ concat s.chains ++ concat s.path

-- the bytes of a public key (4.1.7)
abbrev pub public_bytes : XmssPublic → List ℕ
public_bytes key = to_byte (xmss_code key.tree) 4 ++ key.root ++ key.seed
