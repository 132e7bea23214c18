-- The sizes of what a signer computes.
use Rattle.std.proofs.Common.{◌≡◌, refl, subst, ℕ, zero, suc, ◌<◌, true, List, [], ◌∷◌, length, sym, Some, arith}
use Rattle.std.specs.Prelude.{replicate}
use Rattle.std.specs.Cmp.Lexicographic.{bytes_decides}
use Rattle.sha2.proofs.Facts256.{length-sha256}
use Rattle.typecodes.specs.declared.spec.Spec.{Spec}
use Rattle.typecodes.specs.declared.spec.Spec.TheVariants.{Lms as LmsSpec, Hss as HssSpec, Xmss as XmssSpec}
use Rattle.typecodes.specs.declared.types.XmssType.{XmssType}
use Rattle.typecodes.specs.declared.types.XmssType.TheVariants as xmss
use Rattle.typecodes.specs.Spec.{IsSpec}
use Rattle.typecodes.specs.Types.{height_of, xmss_height_of}
use Rattle.merkle.specs.Tree.{node}
use Rattle.typecodes.specs.declared.secret.LmsSecret.{LmsSecret}
use Rattle.lms.specs.Secret.{joins_of as lms_joins_of, leaves_of as lms_leaves_of, root_of_secret as lms_root_of}
use Rattle.typecodes.specs.declared.secret.XmssSecret.{XmssSecret}
use Rattle.xmss.specs.Secret.{joins_of as xmss_joins_of, leaves_of as xmss_leaves_of}
use Rattle.state_file.specs.Laws.{levels_of}
use Rattle.state_file.specs.declared.record.Key.{Key}
use Rattle.state_file.specs.declared.record.Record.{Record}
use Rattle.state_file.specs.declared.record.Record.TheVariants.{Key as KeyRecord}
use Rattle.state_file.specs.declared.record.Secret.{Secret}
use Rattle.state_file.specs.declared.record.Secret.TheVariants.{Lms, Hss, Xmss}
use Rattle.sign_core.specs.declared.key.AnyPublic.{AnyPublic}
use Rattle.sign_core.proofs.records.Keys.{key_stands}
use Rattle.sign_core.specs.Records.{has_randomizer, the_key}
use Rattle.sign_core.specs.Events.{AreFields, key_sizes}
use Rattle.sign_core.specs.World.{randomizer_of_fields, secret_of_fields}
use Rattle.sign_core.specs.Textbook.{AllHaveSizes, SecretHasSizes, Trees, any_digest, any_public, key_root, trees_of}

-- ---- roots and digests

lms_node_size : (secret : LmsSecret) (k j : ℕ) → length (node (lms_leaves_of secret) (lms_joins_of secret) k j) ≡ 32
unfolding node
lms_node_size secret zero j = length-sha256 _
lms_node_size secret (suc k) j = length-sha256 _

pub lms_root_size : (secret : LmsSecret) → length (lms_root_of secret) ≡ 32
lms_root_size secret = lms_node_size secret (height_of secret.pair.tree) 0

xmss_node_size : (secret : XmssSecret) (k j : ℕ) → length (node (xmss_leaves_of secret) (xmss_joins_of secret) (suc k) j) ≡ 32
unfolding node
xmss_node_size secret k j = length-sha256 _

xmss_root_size : (secret : XmssSecret) (tree : XmssType) → length (node (xmss_leaves_of secret) (xmss_joins_of secret) (xmss_height_of tree) 0) ≡ 32
xmss_root_size secret xmss.H10 = xmss_node_size secret 9 0
xmss_root_size secret xmss.H16 = xmss_node_size secret 15 0
xmss_root_size secret xmss.H20 = xmss_node_size secret 19 0

pub root_size : (secret : Secret) → SecretHasSizes secret → length (key_root secret) ≡ 32
root_size (Lms secret) sizes = lms_root_size _
root_size (Hss [] identifier seed) sizes = absurd (let some = sizes.2.0 in omega (arith, some))
root_size (Hss (pair ∷ rest) identifier seed) sizes = lms_root_size _
root_size (Xmss secret) sizes = xmss_root_size secret secret.tree

pub digest_size : (secret : Secret) (root : List ℕ) (records : List Record) (k leaf : ℕ) (randomizer message : List ℕ) → SecretHasSizes secret
    → length (any_digest secret root records k leaf randomizer message) ≡ 32
digest_size (Lms secret) root records k leaf randomizer message sizes = length-sha256 _
digest_size (Hss [] identifier seed) root records k leaf randomizer message sizes = absurd (let some = sizes.2.0 in omega (arith, some))
digest_size (Hss (pair ∷ rest) identifier seed) root records k leaf randomizer message sizes = length-sha256 _
digest_size (Xmss secret) root records k leaf randomizer message sizes = length-sha256 _

-- ---- keys

pub public_made : (secret : Secret) (root : List ℕ) → SecretHasSizes secret → (public : AnyPublic) × (any_public secret root ≡ Some public)
public_made (Lms secret) root sizes = (_, refl)
public_made (Hss [] identifier seed) root sizes = absurd (let some = sizes.2.0 in omega (arith, some))
public_made (Hss (pair ∷ rest) identifier seed) root sizes = (_, refl)
public_made (Xmss secret) root sizes = (_, refl)

pub trees_made : (secret : Secret) → SecretHasSizes secret → 1 < levels_of secret → (trees : Trees) × (trees_of secret ≡ Some trees)
trees_made (Lms secret) sizes more = absurd (omega (arith, more))
trees_made (Hss [] identifier seed) sizes more = absurd (let some = sizes.2.0 in omega (arith, some))
trees_made (Hss (pair ∷ rest) identifier seed) sizes more = (_, refl)
trees_made (Xmss secret) sizes more = absurd (omega (arith, more))

pub secret_sizes : (spec : Spec) (fields : List (List ℕ)) (secret : Secret) → IsSpec spec → AreFields (key_sizes spec) fields
    → secret_of_fields spec fields ≡ Some secret → SecretHasSizes secret
secret_sizes (LmsSpec pair) [] secret can are is = absurd (cc)
secret_sizes (LmsSpec pair) (a ∷ []) secret can are is = absurd (cc)
secret_sizes (LmsSpec pair) (a ∷ b ∷ []) secret can are is = let same : Lms (record { pair = pair; identifier = a; seed = b }) ≡ secret = cc in subst SecretHasSizes same (are.0, are.2.0)
secret_sizes (LmsSpec pair) (a ∷ b ∷ c ∷ rest) secret can are is = absurd (cc)
secret_sizes (HssSpec levels) [] secret can are is = absurd (cc)
secret_sizes (HssSpec levels) (a ∷ []) secret can are is = absurd (cc)
secret_sizes (HssSpec levels) (a ∷ b ∷ []) secret can are is = let same : Hss levels a b ≡ secret = cc in subst SecretHasSizes same (are.0, are.2.0, can)
secret_sizes (HssSpec levels) (a ∷ b ∷ c ∷ rest) secret can are is = absurd (cc)
secret_sizes (XmssSpec tree) [] secret can are is = absurd (cc)
secret_sizes (XmssSpec tree) (a ∷ []) secret can are is = absurd (cc)
secret_sizes (XmssSpec tree) (a ∷ b ∷ []) secret can are is = absurd (cc)
secret_sizes (XmssSpec tree) (a ∷ b ∷ c ∷ []) secret can are is = let same : Xmss (record { tree = tree; secret_seed = a; prf_key = b; public_seed = c }) ≡ secret = cc in subst SecretHasSizes same
    (are.0, are.2.0, are.2.2.0)
secret_sizes (XmssSpec tree) (a ∷ b ∷ c ∷ d ∷ rest) secret can are is = absurd (cc)

abbrev HasPublic : Secret → Type 0
HasPublic secret = (public : AnyPublic) × (any_public secret (key_root secret) ≡ Some public)

pub spec_public : (spec : Spec) (fields : List (List ℕ)) (secret : Secret) → IsSpec spec → secret_of_fields spec fields ≡ Some secret
    → (public : AnyPublic) × (any_public secret (key_root secret) ≡ Some public)
spec_public (LmsSpec pair) [] secret can is = absurd (cc)
spec_public (LmsSpec pair) (a ∷ []) secret can is = absurd (cc)
spec_public (LmsSpec pair) (a ∷ b ∷ []) secret can is = let same : Lms (record { pair = pair; identifier = a; seed = b }) ≡ secret = cc in subst HasPublic same (_, refl)
spec_public (LmsSpec pair) (a ∷ b ∷ c ∷ rest) secret can is = absurd (cc)
spec_public (HssSpec levels) [] secret can is = absurd (cc)
spec_public (HssSpec levels) (a ∷ []) secret can is = absurd (cc)
spec_public (HssSpec []) (a ∷ b ∷ []) secret can is = absurd (let some = can.0 in omega (arith, some))
spec_public (HssSpec (pair ∷ rest)) (a ∷ b ∷ []) secret can is = let same : Hss (pair ∷ rest) a b ≡ secret = cc in subst HasPublic same (_, refl)
spec_public (HssSpec levels) (a ∷ b ∷ c ∷ rest) secret can is = absurd (cc)
spec_public (XmssSpec tree) [] secret can is = absurd (cc)
spec_public (XmssSpec tree) (a ∷ []) secret can is = absurd (cc)
spec_public (XmssSpec tree) (a ∷ b ∷ []) secret can is = absurd (cc)
spec_public (XmssSpec tree) (a ∷ b ∷ c ∷ []) secret can is = let same : Xmss (record { tree = tree; secret_seed = a; prf_key = b; public_seed = c }) ≡ secret = cc in subst HasPublic same (_, refl)
spec_public (XmssSpec tree) (a ∷ b ∷ c ∷ d ∷ rest) secret can is = absurd (cc)

pub randomizer_size : (secret : Secret) (fields : List (List ℕ)) (randomizer : List ℕ) → AreFields (32 ∷ []) fields
    → randomizer_of_fields secret fields ≡ Some randomizer → (length randomizer ≡ 32) × (has_randomizer secret randomizer ≡ true)
randomizer_size (Lms secret) [] randomizer are is = absurd (cc)
randomizer_size (Lms secret) (a ∷ []) randomizer are is = let same : a ≡ randomizer = cc in (subst (λ c. length c ≡ 32) same are.0, refl)
randomizer_size (Lms secret) (a ∷ b ∷ rest) randomizer are is = absurd (cc)
randomizer_size (Hss levels identifier seed) [] randomizer are is = absurd (cc)
randomizer_size (Hss levels identifier seed) (a ∷ []) randomizer are is = let same : a ≡ randomizer = cc in (subst (λ c. length c ≡ 32) same are.0, refl)
randomizer_size (Hss levels identifier seed) (a ∷ b ∷ rest) randomizer are is = absurd (cc)
randomizer_size (Xmss secret) (a ∷ rest) randomizer are is = absurd (cc)
randomizer_size (Xmss secret) [] randomizer are is =
    let same : replicate 32 0 ≡ randomizer = cc in
    (subst (λ c. length c ≡ 32) same refl, (bytes_decides randomizer (replicate 32 0)).1 (sym same))

-- ---- records

pub key_has_sizes : (records : List Record) (key : Key) → AllHaveSizes records → the_key records ≡ Some key → SecretHasSizes key.secret
key_has_sizes records key sizes is = (sizes 0 (KeyRecord key) (key_stands records key is)).0
