-- The first bytes of a signature decide: one more than the largest has.
use Rattle.std.proofs.Common.{◌≡◌, ℕ, ◌+◌, ◌*◌, ◌^◌, ◌<◌, ◌≤◌, zero, suc, Bool, true, false, cond, nat_lt, nat_le, List, [], ◌∷◌, length, take, Result, Ok, Err, refl, subst, arith, leb-true, inl, inr}
use Rattle.std.specs.Prelude.{◌&&◌}
use Rattle.std.specs.Prelude.{⊤}
use Rattle.typecodes.specs.declared.fault.Cause.TheVariants.{LeafOutOfRange, LevelCount}
use Rattle.typecodes.specs.declared.types.OtsType.{OtsType}
use Rattle.typecodes.specs.declared.types.OtsType.TheVariants.{W1, W2, W4, W8}
use Rattle.typecodes.specs.declared.types.LmsType.{LmsType}
use Rattle.typecodes.specs.declared.types.LmsType.TheVariants.{H5, H10, H15, H20, H25}
use Rattle.typecodes.specs.declared.types.XmssType.{XmssType}
use Rattle.typecodes.specs.declared.types.XmssType.TheVariants.{H10 as X10, H16 as X16, H20 as X20}
use Rattle.typecodes.specs.declared.refusal.Refusal.{Refusal as SignatureRefusal}
use Rattle.typecodes.specs.declared.refusal.Refusal.TheVariants.{Unreadable, TypeMismatch, LevelMismatch, RootMismatch, MessageRead}
use Rattle.typecodes.specs.Types.{chains_of, height_of, ots_code, ots_types, lms_code, lms_types, xmss_height_of}
use Rattle.typecodes.specs.Layout.{Layout, done, refuse, ◌>>=◌}
use Rattle.typecodes.specs.Fields.{number, block, values, ots_type, lms_type}
use Rattle.lms.specs.declared.key.LmsPublic.{LmsPublic}
use Rattle.lms.specs.Signature.{Signature as LmsSignature, whole_signature, type_end, signature as lms_signature}
use Rattle.lms.specs.Key.{public_key as lms_public_key}
use Rattle.lms.specs.Verification.{Verdict as LmsVerdict}
use Rattle.hss.specs.declared.key.HssPublic.{HssPublic}
use Rattle.hss.specs.Key.{level_number}
use Rattle.hss.specs.SignedKey.{signed_key, signed_keys}
use Rattle.hss.specs.Signature.{signature as hss_signature}
use Rattle.hss.specs.Verification.{Verdict as HssVerdict}
use Rattle.xmss.specs.declared.key.XmssPublic.{XmssPublic}
use Rattle.xmss.specs.Signature.{leaf_index, signature as xmss_signature}
use Rattle.xmss.specs.Verification.{Verdict as XmssVerdict}
use Rattle.sign_core.specs.declared.key.AnyPublic.{AnyPublic}
use Rattle.sign_core.specs.declared.key.AnyPublic.TheVariants.{Lms, Hss, Xmss}
use Rattle.sign_core.specs.Key.{KeyVerdict}
use Rattle.command.specs.Files.{Decides, decisive}
use Rattle.command.specs.Verify.{Judgement}
use Rattle.command.specs.declared.refusal.Refusal.{Refusal}
use Rattle.command.specs.declared.refusal.Refusal.TheVariants.{Key, Signature, OutOfMemory, FileFailed}
use Rattle.command.specs.declared.refusal.Refusal.TheVariants.{Signer, Opening, Preparing, Audit, Given, Migration, Serving, Locked, BadName, BadSpec}
use Rattle.command.proofs.Taking.{TakesAtMost, Any, most-greater, most-bind, most-if, most-done, most-refuse, most-number, most-block, most-typed, most-values, spells-at_most, spells-first, fault-first}

-- ---- LMS: 4 + 4 + 32 + 265 * 32 + 4 + 25 * 32 bytes

most_chains : (ots : OtsType) → 32 * chains_of ots ≤ 8480
most_chains W1 = omega arith
most_chains W2 = omega arith
most_chains W4 = omega arith
most_chains W8 = omega arith

most_path : (tree : LmsType) → 32 * height_of tree ≤ 800
most_path H5 = omega arith
most_path H10 = omega arith
most_path H15 = omega arith
most_path H20 = omega arith
most_path H25 = omega arith

most-ots_type : TakesAtMost ots_type 4 Any
unfolding ots_type
most-ots_type = most-typed ots_code ots_types

most-lms_type : TakesAtMost lms_type 4 Any
unfolding lms_type
most-lms_type = most-typed lms_code lms_types

-- the rest of a signature's layout, field by field
abbrev with_path : ℕ → OtsType → List ℕ → List (List ℕ) → LmsType → List (List ℕ) → Layout LmsSignature
with_path q ots randomizer chains tree path =
    done (whole_signature (record { tree = tree; ots = ots }) q randomizer chains path)

abbrev path_at : ℕ → OtsType → LmsType → Layout (List (List ℕ))
path_at q ots tree = cond (nat_lt q (2 ^ height_of tree)) (values (height_of tree)) (refuse (type_end ots) LeafOutOfRange)

abbrev with_tree : ℕ → OtsType → List ℕ → List (List ℕ) → LmsType → Layout LmsSignature
with_tree q ots randomizer chains tree = path_at q ots tree >>= with_path q ots randomizer chains tree

abbrev with_chains : ℕ → OtsType → List ℕ → List (List ℕ) → Layout LmsSignature
with_chains q ots randomizer chains = lms_type >>= with_tree q ots randomizer chains

abbrev with_randomizer : ℕ → OtsType → List ℕ → Layout LmsSignature
with_randomizer q ots randomizer = values (chains_of ots) >>= with_chains q ots randomizer

abbrev with_ots : ℕ → OtsType → Layout LmsSignature
with_ots q ots = block 32 >>= with_randomizer q ots

abbrev with_q : ℕ → Layout LmsSignature
with_q q = ots_type >>= with_ots q

most-lms_signature : TakesAtMost lms_signature 9324 Any
unfolding lms_signature
most-lms_signature =
    most-bind number with_q 4 9320 Any Any most-number (λ q any.
    most-bind ots_type (with_ots q) 4 9316 Any Any most-ots_type (λ ots any.
    most-bind (block 32) (with_randomizer q ots) 32 9284 Any Any (most-block 32) (λ randomizer any.
    most-bind (values (chains_of ots)) (with_chains q ots randomizer) 8480 804 Any Any (most-greater (values (chains_of ots)) (32 * chains_of ots) 8480 Any (most_chains ots) (most-values (chains_of ots))) (λ chains any.
    most-bind lms_type (with_tree q ots randomizer chains) 4 800 Any Any most-lms_type (λ tree any.
    most-bind (path_at q ots tree) (with_path q ots randomizer chains tree) 800 0 Any Any
    (most-if (nat_lt q (2 ^ height_of tree)) (values (height_of tree)) (refuse (type_end ots) LeafOutOfRange) 800 Any
    (λ inside. most-greater (values (height_of tree)) (32 * height_of tree) 800 Any (most_path tree) (most-values (height_of tree)))
    (most-refuse (type_end ots) LeafOutOfRange 800 Any))
    (λ path any. most-done (whole_signature (record { tree = tree; ots = ots }) q randomizer chains path) 0 Any tt))))))

lms_decided : {A : Type 0} (count : ℕ) (key : LmsPublic) (message bytes : List ℕ) (r : Result A SignatureRefusal) → 9324 < count
    → LmsVerdict key message (take count bytes) r → LmsVerdict key message bytes r
lms_decided count key message bytes (Ok a) less (s, spelled, valid) =
    (s, spells-first lms_signature 9324 count Any s bytes most-lms_signature less spelled, valid)
lms_decided count key message bytes (Err (Unreadable fault)) less has =
    fault-first lms_signature 9324 count Any bytes 0 fault most-lms_signature less has
lms_decided count key message bytes (Err (TypeMismatch level)) less (top, (s, spelled, other)) =
    (top, (s, spells-first lms_signature 9324 count Any s bytes most-lms_signature less spelled, other))
lms_decided count key message bytes (Err LevelMismatch) less never = absurd never
lms_decided count key message bytes (Err MessageRead) less (s, spelled, same) =
    (s, spells-first lms_signature 9324 count Any s bytes most-lms_signature less spelled, same)
lms_decided count key message bytes (Err (RootMismatch level)) less (top, (s, spelled, same, invalid)) =
    (top, (s, spells-first lms_signature 9324 count Any s bytes most-lms_signature less spelled, same, invalid))

-- ---- HSS: 4 bytes, up to 7 signed keys of 9324 + 56 bytes, and 9324 bytes

most-lms_public_key : TakesAtMost lms_public_key 56 Any
unfolding lms_public_key
most-lms_public_key =
    most-bind lms_type _ 4 52 Any Any most-lms_type (λ tree any.
    most-bind ots_type _ 4 48 Any Any most-ots_type (λ ots any.
    most-bind (block 16) _ 16 32 Any Any (most-block 16) (λ identifier any.
    most-bind (block 32) _ 32 0 Any Any (most-block 32) (λ root any. most-done _ 0 Any tt))))

most-signed_key : TakesAtMost signed_key 9380 Any
unfolding signed_key
most-signed_key =
    most-bind lms_signature _ 9324 56 Any Any most-lms_signature (λ signature any.
    most-bind lms_public_key _ 56 0 Any Any most-lms_public_key (λ key any. most-done _ 0 Any tt))

most-signed_keys : (n : ℕ) → TakesAtMost (signed_keys n) (9380 * n) Any
unfolding signed_keys
most-signed_keys zero = most-done [] 0 Any tt
most-signed_keys (suc n) =
    let size : 9380 + (9380 * n + 0) ≡ 9380 * suc n = omega arith in
    subst (λ k. TakesAtMost (signed_keys (suc n)) k Any) size
    (most-bind signed_key (λ first. signed_keys n >>= λ rest. done (first ∷ rest)) 9380 (9380 * n + 0) Any Any most-signed_key
    (λ first any. most-bind (signed_keys n) (λ rest. done (first ∷ rest)) (9380 * n) 0 Any Any (most-signed_keys n) (λ rest all. most-done (first ∷ rest) 0 Any tt)))

and_right : (a b : Bool) → (a && b) ≡ true → b ≡ true
and_right true b both = both
and_right false b both = cc

most-level_number : (low high : ℕ) → TakesAtMost (level_number low high) 4 (λ n. n ≤ high)
unfolding level_number
most-level_number low high =
    most-bind number _ 4 0 Any (λ n. n ≤ high) most-number (λ n any.
    most-if (nat_le low n && nat_le n high) (done n) (refuse 4 LevelCount) 0 (λ n. n ≤ high)
    (λ inside. most-done n 0 (λ n. n ≤ high) (leb-true n high (and_right (nat_le low n) (nat_le n high) inside)))
    (most-refuse 4 LevelCount 0 (λ n. n ≤ high)))

most-hss_signature : TakesAtMost hss_signature 74988 Any
unfolding hss_signature
most-hss_signature =
    most-bind (level_number 0 7) _ 4 74984 (λ n. n ≤ 7) Any (most-level_number 0 7) (λ above within_limit.
    most-bind (signed_keys above) _ 65660 9324 Any Any (most-greater (signed_keys above) (9380 * above) 65660 Any (omega (arith, within_limit)) (most-signed_keys above)) (λ signed any.
    most-bind lms_signature _ 9324 0 Any Any most-lms_signature (λ bottom any. most-done _ 0 Any tt)))

hss_decided : {A : Type 0} (count : ℕ) (key : HssPublic) (message bytes : List ℕ) (r : Result A SignatureRefusal) → 74988 < count
    → HssVerdict key message (take count bytes) r → HssVerdict key message bytes r
hss_decided count key message bytes (Ok a) less (s, spelled, valid) =
    (s, spells-first hss_signature 74988 count Any s bytes most-hss_signature less spelled, valid)
hss_decided count key message bytes (Err (Unreadable fault)) less has =
    fault-first hss_signature 74988 count Any bytes 0 fault most-hss_signature less has
hss_decided count key message bytes (Err LevelMismatch) less (s, spelled, other) =
    (s, spells-first hss_signature 74988 count Any s bytes most-hss_signature less spelled, other)
hss_decided count key message bytes (Err (TypeMismatch i)) less (s, reaches, other) =
    (s, record { spelled = spells-first hss_signature 74988 count Any s bytes most-hss_signature less reaches.spelled; count = reaches.count; inside = reaches.inside; above = reaches.above }, other)
hss_decided count key message bytes (Err MessageRead) less (s, reaches, same) =
    (s, record { spelled = spells-first hss_signature 74988 count Any s bytes most-hss_signature less reaches.spelled; count = reaches.count; inside = reaches.inside; above = reaches.above }, same)
hss_decided count key message bytes (Err (RootMismatch i)) less (s, reaches, same, invalid) =
    (s, record { spelled = spells-first hss_signature 74988 count Any s bytes most-hss_signature less reaches.spelled; count = reaches.count; inside = reaches.inside; above = reaches.above }, same, invalid)

-- ---- XMSS: 4 + 32 + 67 * 32 + 20 * 32 bytes

most_xmss_path : (tree : XmssType) → 32 * xmss_height_of tree ≤ 640
most_xmss_path X10 = omega arith
most_xmss_path X16 = omega arith
most_xmss_path X20 = omega arith

most-leaf_index : (h : ℕ) → TakesAtMost (leaf_index h) 4 Any
unfolding leaf_index
most-leaf_index h =
    most-bind number _ 4 0 Any Any most-number (λ index any.
    most-if (nat_lt index (2 ^ h)) (done index) (refuse 4 LeafOutOfRange) 0 Any
    (λ inside. most-done index 0 Any tt) (most-refuse 4 LeafOutOfRange 0 Any))

most-xmss_signature : (tree : XmssType) → TakesAtMost (xmss_signature tree) 2820 Any
unfolding xmss_signature
most-xmss_signature tree =
    most-bind (leaf_index (xmss_height_of tree)) _ 4 2816 Any Any (most-leaf_index (xmss_height_of tree)) (λ index any.
    most-bind (block 32) _ 32 2784 Any Any (most-block 32) (λ randomizer any.
    most-bind (values 67) _ 2144 640 Any Any (most-values 67) (λ chains any.
    most-bind (values (xmss_height_of tree)) _ 640 0 Any Any
    (most-greater (values (xmss_height_of tree)) (32 * xmss_height_of tree) 640 Any (most_xmss_path tree) (most-values (xmss_height_of tree))) (λ path any. most-done _ 0 Any tt))))

xmss_decided : {A : Type 0} (count : ℕ) (key : XmssPublic) (message bytes : List ℕ) (r : Result A SignatureRefusal) → 2820 < count
    → XmssVerdict key message (take count bytes) r → XmssVerdict key message bytes r
xmss_decided count key message bytes (Ok a) less (s, spelled, valid) =
    (s, spells-first (xmss_signature key.tree) 2820 count Any s bytes (most-xmss_signature key.tree) less spelled, valid)
xmss_decided count key message bytes (Err (Unreadable fault)) less has =
    fault-first (xmss_signature key.tree) 2820 count Any bytes 0 fault (most-xmss_signature key.tree) less has
xmss_decided count key message bytes (Err (TypeMismatch level)) less never = absurd never
xmss_decided count key message bytes (Err LevelMismatch) less never = absurd never
xmss_decided count key message bytes (Err MessageRead) less (s, spelled) =
    (s, spells-first (xmss_signature key.tree) 2820 count Any s bytes (most-xmss_signature key.tree) less spelled)
xmss_decided count key message bytes (Err (RootMismatch level)) less (top, (s, spelled, invalid)) =
    (top, (s, spells-first (xmss_signature key.tree) 2820 count Any s bytes (most-xmss_signature key.tree) less spelled, invalid))

-- ---- every scheme

pub verdict_decided : {A : Type 0} (count : ℕ) (key : AnyPublic) (message bytes : List ℕ) (r : Result A SignatureRefusal) → 74988 < count
    → KeyVerdict key message (take count bytes) r → KeyVerdict key message bytes r
verdict_decided count (Lms key) message bytes r less = lms_decided count key message bytes r (omega (arith, less))
verdict_decided count (Hss key) message bytes r less = hss_decided count key message bytes r less
verdict_decided count (Xmss key) message bytes r less = xmss_decided count key message bytes r (omega (arith, less))

pub verified_short : (key : AnyPublic) (message bytes : List ℕ) → KeyVerdict {A = ⊤} key message bytes (Ok tt) → length bytes ≤ 74988
verified_short (Lms key) message bytes (s, spelled, valid) =
    omega (arith, spells-at_most lms_signature 9324 Any s bytes most-lms_signature spelled)
verified_short (Hss key) message bytes (s, spelled, valid) = spells-at_most hss_signature 74988 Any s bytes most-hss_signature spelled
verified_short (Xmss key) message bytes (s, spelled, valid) =
    omega (arith, spells-at_most (xmss_signature key.tree) 2820 Any s bytes (most-xmss_signature key.tree) spelled)

decided_by : {A : Type 0} (count : ℕ) (public message signature : List ℕ) (r : Result A Refusal) → 74988 < count
    → Judgement public message (take count signature) r → Judgement public message signature r
decided_by count public message signature (Ok a) less (key, spelled, verdict) = (key, spelled, verdict_decided {A = ⊤} count key message signature (Ok tt) less verdict)
decided_by count public message signature (Err (Key fault)) less has = has
decided_by count public message signature (Err (Signature refusal)) less (key, spelled, verdict) =
    (key, spelled, verdict_decided {A = ⊤} count key message signature (Err refusal) less verdict)
decided_by count public message signature (Err OutOfMemory) less never = absurd never
decided_by count public message signature (Err FileFailed) less never = absurd never
decided_by count public message signature (Err (Signer fault)) less never = absurd never
decided_by count public message signature (Err (Opening fault)) less never = absurd never
decided_by count public message signature (Err (Preparing fault)) less never = absurd never
decided_by count public message signature (Err (Audit fault)) less never = absurd never
decided_by count public message signature (Err (Given fault)) less never = absurd never
decided_by count public message signature (Err (Serving fault)) less never = absurd never
decided_by count public message signature (Err (Migration fault)) less never = absurd never
decided_by count public message signature (Err Locked) less never = absurd never
decided_by count public message signature (Err BadName) less never = absurd never
decided_by count public message signature (Err BadSpec) less never = absurd never

pub decisive_is : 74989 ≡ decisive
unfolding decisive
decisive_is = refl

pub more_than_the_greatest : 74988 < decisive
unfolding decisive
more_than_the_greatest = omega arith

-- The judgement of a signature's first bytes is the judgement of all.
decided : {A : Type 0} (public message signature : List ℕ) (r : Result A Refusal) → Judgement public message (take decisive signature) r → Judgement public message signature r
decided public message signature r judged = decided_by decisive public message signature r more_than_the_greatest judged

pub decides_all : {A : Type 0} (public message all first : List ℕ) (r : Result A Refusal) → Decides all first
    → Judgement public message first r → Judgement public message all r
decides_all public message all first r (inl same) judged = subst (λ l. Judgement public message l r) same judged
decides_all public message all first r (inr same) judged =
    decided public message all r (subst (λ l. Judgement public message l r) same judged)
