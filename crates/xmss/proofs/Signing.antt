-- The textbook signature is valid. lms has such a file for its standard; what both share stands in winternitz and
-- merkle.
use Rattle.std.proofs.Common.{◌≡◌, refl, ℕ, ◌<◌, ◌^◌, List}
use Rattle.typecodes.specs.Types.{xmss_height_of}
use Rattle.merkle.proofs.Paths.{path_leads, path_long}
use Rattle.wots_plus.specs.Key.{ends_of_secret}
use Rattle.wots_plus.proofs.Signing.{signed_climbs}
use Rattle.typecodes.specs.declared.secret.XmssSecret.{XmssSecret}
use Rattle.xmss.specs.Secret.{digest_at, joins_of, leaves_of, leaf_path, public_of, root_of_secret}
use Rattle.xmss.specs.Writing.{made_signature, textbook}
use Rattle.xmss.specs.Verification.{IsValid}

-- It is valid for the message under the secret's public key.
textbook_valid : (secret : XmssSecret) (i : ℕ) (message : List ℕ) → i < 2 ^ xmss_height_of secret.tree
    → IsValid (public_of secret) message (textbook secret i (digest_at secret (root_of_secret secret) i message))
textbook_valid secret i message inside = record {
  chains = refl;
  leaf = inside;
  height = path_long (leaves_of secret) (joins_of secret) (xmss_height_of secret.tree) i;
  leads = record {
    ends = ends_of_secret secret.public_seed i secret.secret_seed;
    climbed = signed_climbs secret.public_seed i secret.secret_seed (digest_at secret (root_of_secret secret) i message);
    path = path_leads (leaves_of secret) (joins_of secret) (xmss_height_of secret.tree) i inside;
  };
}

-- So is a signature whose digest and path are the textbook's.
pub signed_valid : (secret : XmssSecret) (i : ℕ) (message digest : List ℕ) (path : List (List ℕ)) → i < 2 ^ xmss_height_of secret.tree
    → digest ≡ digest_at secret (root_of_secret secret) i message → path ≡ leaf_path secret i
    → IsValid (public_of secret) message (made_signature secret i digest path)
signed_valid secret i message digest path inside digest_is path_is =
    rw (digest_is, path_is) (textbook_valid secret i message inside)
