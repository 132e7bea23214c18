-- The signature that a chain of trees makes is its binding's.
use Rattle.std.proofs.Common.{◌≡◌, ◌∙◌, refl, sym, ap, ap₂, subst, ℕ, ◌+◌, ◌-◌, ◌<◌, List, [], ◌∷◌, ◌++◌, length, length-append, map, Some, arith}
use Rattle.std.specs.Prelude.{slice_get}
use Rattle.std.proofs.lemmas.List.{map_push, same_from_push}
use Rattle.std.proofs.lemmas.Option.{same_Some, slice_get-get_or}
use Rattle.lms.specs.Writing.{signature_bytes as lms_signature_bytes, textbook as lms_textbook}
use Rattle.hss.specs.declared.secret.Level.{Level}
use Rattle.hss.specs.Secret.{Signing, signing_of}
use Rattle.hss.specs.Writing.{FromSecrets, level_at, signature_bytes as hss_signature_bytes, textbook as hss_textbook}
use Rattle.state_file.specs.Laws.{bottom_of}
use Rattle.state_file.specs.declared.record.Bound.{Bound}
use Rattle.state_file.specs.declared.record.Key.{Key}
use Rattle.state_file.specs.declared.record.Record.{Record}
use Rattle.state_file.specs.declared.record.Record.TheVariants.{Key as KeyRecord}
use Rattle.state_file.specs.declared.record.Secret.{Secret}
use Rattle.state_file.specs.declared.record.Secret.TheVariants.{Lms, Hss, Xmss}
use Rattle.sign_core.specs.inner.KeyTrees.{AreMade, IsMade, signing_of_bound}
use Rattle.sign_core.specs.inner.Signing.{WritesChain}
use Rattle.sign_core.specs.Textbook.{Trees, secret_at, made_secret, any_signature, chain_signings, current_at, trees_of}
use Rattle.sign_core.proofs.records.Chains.{got_last}
use Rattle.sign_core.proofs.records.Keys.{key_stands}

-- The textbook signature of a key's chain: the signings above the bottom tree, and the bottom one's. An LMS key has one
-- tree.
abbrev pub chain_bytes : Secret → (above : List Signing) → (bottom : Signing) → List ℕ
chain_bytes (Lms secret) above bottom =
    lms_signature_bytes (lms_textbook bottom.secret bottom.leaf bottom.randomizer bottom.digest)
chain_bytes (Hss levels identifier seed) above bottom = hss_signature_bytes (hss_textbook above bottom)
chain_bytes (Xmss secret) above bottom = []

-- The signings of the chain of a binding's tree make the binding's textbook signature.
chain_signature : (secret : Secret) (trees : Trees) (records : List Record) (k : ℕ) (bound : Bound) (key : Key) → slice_get records 0 ≡ Some (KeyRecord key)
    → trees_of secret ≡ Some trees
    → let tree = current_at (bottom_of secret) records k in
    chain_bytes secret (chain_signings trees (bottom_of secret) records tree) (signing_of_bound trees records tree bound)
    ≡ any_signature secret records k bound
chain_signature (Lms secret) trees records k bound key first these =
    let top : secret_at trees records 0 ≡ secret =
    ap (made_secret trees) first ∙ ap (λ (t : Trees). t.top) (sym (same_Some _ trees these)) in
    ap (λ secret. lms_signature_bytes (lms_textbook secret bound.leaf bound.randomizer bound.digest)) top
chain_signature (Hss [] identifier seed) trees records k bound key first these = absurd (cc)
chain_signature (Hss (pair ∷ rest) identifier seed) trees records k bound key first these =
    let bottom = length (pair ∷ rest) - 1 in
    let tree = current_at bottom records k in
    ap (λ (t : Trees). hss_signature_bytes (hss_textbook (chain_signings t bottom records tree) (signing_of_bound t records tree bound)))
    (sym (same_Some _ trees these))
chain_signature (Xmss secret) trees records k bound key first these = absurd (cc)

-- So the textbook signature of a binding's chain is the binding's.
written_by : (secret : Secret) (above : List Level) (last : Level) (bytes : List ℕ)
    → bytes ≡ chain_bytes secret (map signing_of above) (signing_of last) → WritesChain secret (above ++ last ∷ []) bytes
written_by secret above last bytes written trees records k bound (key, keyed) these signs =
    let tree = current_at (bottom_of secret) records k in
    let (front, end) = same_from_push (map signing_of above) (chain_signings trees (bottom_of secret) records tree) (signing_of last)
    (signing_of_bound trees records tree bound) (sym (map_push signing_of above last) ∙ signs) in
    written ∙ ap₂ (chain_bytes secret) front end ∙ chain_signature secret trees records k bound key (key_stands records key keyed) these

pub written : (secret own : Secret) (above : List Level) (last : Level) (bytes : List ℕ) → secret ≡ own
    → bytes ≡ chain_bytes own (map signing_of above) (signing_of last) → WritesChain secret (above ++ last ∷ []) bytes
written secret own above last bytes is made = subst (λ s. WritesChain s (above ++ last ∷ []) bytes) (sym is) (written_by own above last bytes made)

-- ---- the levels

pub level_made : (above : List Level) (last : Level) (i : ℕ) → AreMade (above ++ last ∷ []) → i < length above + 1
    → IsMade (level_at above last i).tree
level_made above last i made inside =
    made i (level_at above last i) (slice_get-get_or (above ++ last ∷ []) i last (omega (arith, inside, length-append above (last ∷ []))))

pub last_made : (above : List Level) (last : Level) → AreMade (above ++ last ∷ []) → IsMade last.tree
last_made above last made = made (length above) last (got_last above last (length above) refl)

pub from_secrets : (above : List Level) (last : Level) → AreMade (above ++ last ∷ []) → FromSecrets above last
from_secrets above last made = record {
  roots = λ i inside. (level_made above last i made inside).root;
  paths = λ i inside. (level_made above last i made inside).path;
}
