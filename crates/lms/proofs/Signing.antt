-- The textbook signature is valid. xmss has such a file for its own validity; what both share stands in winternitz and
-- merkle.
use Rattle.std.proofs.Common.{◌≡◌, refl, ℕ, ◌<◌, ◌^◌, List}
use Rattle.std.proofs.lemmas.List.FromFn.{length-map-range_with_len}
use Rattle.typecodes.specs.Types.{chains_of, height_of}
use Rattle.merkle.proofs.Paths.{path_leads, path_long}
use Rattle.lmots.specs.Key.{ends_of_seed, message_digest_of}
use Rattle.lmots.proofs.Signing.{signed_climbs}
use Rattle.typecodes.specs.declared.secret.LmsSecret.{LmsSecret}
use Rattle.lms.specs.Secret.{joins_of, leaves_of, leaf_path, public_of}
use Rattle.lms.specs.Writing.{made_signature, textbook}
use Rattle.lms.specs.Verification.{IsValid}

-- The textbook signature of a message is valid under the secret's public key.
textbook_valid : (secret : LmsSecret) (q : ℕ) (randomizer message : List ℕ) → q < 2 ^ height_of secret.pair.tree
    → IsValid (public_of secret) message (textbook secret q randomizer (message_digest_of secret.identifier q randomizer message))
textbook_valid secret q randomizer message inside =
    let h = height_of secret.pair.tree in
    record {
      types = refl;
      chains = length-map-range_with_len _ 0 (chains_of secret.pair.ots);
      leaf = inside;
      height = path_long (leaves_of secret) (joins_of secret) h q;
      leads = record {
        ends = ends_of_seed secret.identifier q secret.pair.ots secret.seed;
        climbed = signed_climbs secret.identifier q secret.pair.ots secret.seed (message_digest_of secret.identifier q randomizer message);
        path = path_leads (leaves_of secret) (joins_of secret) h q inside;
      };
    }

-- The same of a signature whose digest and path are the textbook's.
pub signed_valid : (secret : LmsSecret) (q : ℕ) (randomizer message digest : List ℕ) (path : List (List ℕ)) → q < 2 ^ height_of secret.pair.tree
    → digest ≡ message_digest_of secret.identifier q randomizer message → path ≡ leaf_path secret q
    → IsValid (public_of secret) message (made_signature secret q randomizer digest path)
signed_valid secret q randomizer message digest path inside digest_is path_is =
    rw (digest_is, path_is) (textbook_valid secret q randomizer message inside)
