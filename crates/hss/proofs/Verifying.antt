-- What the steps of verification tell of a signature's levels.
use Rattle.std.proofs.Common.{◌≡◌, ◌∙◌, refl, sym, ap, ℕ, ◌+◌, ◌<◌, inl, inr, List, [], ◌∷◌, length, map, get_or, Result, Ok, Err, subst, arith, add-one}
use Rattle.std.proofs.lemmas.Bool.{cases_lt}
use Rattle.std.proofs.lemmas.List.{get_or-map, get_or_append_left, get_or_at, length-map}
use Rattle.typecodes.specs.declared.refusal.Refusal.{Refusal}
use Rattle.typecodes.specs.declared.refusal.Refusal.TheVariants.{Unreadable, TypeMismatch, LevelMismatch, RootMismatch, MessageRead}
use Rattle.typecodes.specs.Message.{Transition}
use Rattle.std.specs.Prelude.{◌≢◌, Option}
use Rattle.lms.specs.declared.key.LmsPublic.{LmsPublic}
use Rattle.lms.specs.Signature.{Signature as LmsSignature}
use Rattle.lms.specs.Writing.{public_bytes}
use Rattle.lms.specs.Verification.{IsValid as IsLmsValid, LeavesMessage as LmsLeavesMessage, LevelVerdict, digest_of as lms_digest_of}
use Rattle.typecodes.specs.Layout.{Spells}
use Rattle.hss.specs.declared.key.HssPublic.{HssPublic}
use Rattle.hss.specs.SignedKey.{SignedKey}
use Rattle.hss.specs.Signature.{Signature, key_at, keys_of, level_count, message_at, signature, signature_at}
use Rattle.hss.specs.Verification.{IsDigest, IsValid, IsValidAt, LeavesMessage, Reaches, Verdict}
use Rattle.hss.specs.inner.Verification.{AboveVerdict, AreValidAbove, IsBottom}

-- above the bottom a level signs the bytes of the next level's key
pub message_at-above : (top : LmsPublic) (message : List ℕ) (s : Signature) (i : ℕ) → i < length s.signed → public_bytes (key_at top s (i + 1)) ≡ message_at message s i
message_at-above top message s i within =
    let key_of : SignedKey → LmsPublic = λ signed. signed.key in
    let bytes_of : SignedKey → List ℕ = λ signed. public_bytes signed.key in
    let other : SignedKey = record { signature = s.bottom; key = top } in
    let inside : i < length (map bytes_of s.signed) = omega (arith, length-map s.signed bytes_of) in
    ap public_bytes (ap (λ k. get_or (keys_of top s) k top) (add-one i) ∙ get_or-map key_of s.signed i other top within)
    ∙ sym (get_or-map bytes_of s.signed i other message within) ∙ sym (get_or_append_left (map bytes_of s.signed) (message ∷ []) message i inside)

-- an answer of a level is also the answer for an equal signature and message
pub level-same : {A : Type 0} (key : LmsPublic) (signed message : List ℕ) (read s : LmsSignature) (i j : ℕ) (result : Result A Refusal) → read ≡ s → signed ≡ message → i ≡ j
    → LevelVerdict key signed read i result → LevelVerdict key message s j result
level-same key signed message read s i j result s_is message_is i_is verdict =
    subst (λ i. LevelVerdict key message s i result) i_is (subst (λ m. LevelVerdict key m s i result) message_is (subst (λ s. LevelVerdict key signed s i result) s_is verdict))

-- a level's refusal stays one, whatever an Ok would give
pub level-refused : (A B : Type 0) (key : LmsPublic) (message : List ℕ) (s : LmsSignature) (i : ℕ) (refusal : Refusal) → LevelVerdict {A = A} key message s i (Err refusal)
    → LevelVerdict {A = B} key message s i (Err refusal)
level-refused A B key message s i (Unreadable fault) refused = refused
level-refused A B key message s i (TypeMismatch level) refused = refused
level-refused A B key message s i LevelMismatch refused = refused
level-refused A B key message s i MessageRead refused = refused
level-refused A B key message s i (RootMismatch level) refused = refused

-- a level's answer for the key that follows it is its answer, whatever the message
pub level-at : {A : Type 0} (top : LmsPublic) (s : Signature) (i : ℕ) (key next : LmsPublic) (read : LmsSignature) (result : Result A Refusal) → i < length s.signed → read ≡ signature_at s i
    → ((top : LmsPublic) → next ≡ key_at top s (i + 1)) → LevelVerdict key (public_bytes next) read i result → (message : List ℕ) → LevelVerdict key (message_at message s i) (signature_at s i) i result
level-at top s i key next read result within read_is next_is verdict message =
    level-same key (public_bytes next) (message_at message s i) read (signature_at s i) i i result read_is (ap public_bytes (next_is top) ∙ message_at-above top message s i within) refl verdict

-- one more valid level
pub valid-at : (top : LmsPublic) (s : Signature) (i : ℕ) (key : LmsPublic) (message : List ℕ) → key ≡ key_at top s i → IsLmsValid key (message_at message s i) (signature_at s i) → IsValidAt top message s i
valid-at top s i key message key_is valid = subst (λ k. IsLmsValid k (message_at message s i) (signature_at s i)) key_is valid

-- a level that is refused is the first that isn't valid
pub above-refused : (top : LmsPublic) (s : Signature) (i : ℕ) (key : LmsPublic) (refusal : Refusal) → refusal ≢ MessageRead → i < length s.signed → key ≡ key_at top s i → AreValidAbove top s i
    → ((message : List ℕ) → LevelVerdict {A = LmsPublic} key (message_at message s i) (signature_at s i) i (Err refusal)) → AboveVerdict top s (Err refusal)
above-refused top s i key (Unreadable fault) read within key_is above refused = absurd (refused [])
above-refused top s i key LevelMismatch read within key_is above refused = absurd (refused [])
above-refused top s i key MessageRead read within key_is above refused = absurd (read refl)
above-refused top s i key (TypeMismatch level) read within key_is above refused =
    let known = refused [] in
    subst (λ i. AboveVerdict top s (Err (TypeMismatch i))) (sym known.0) (within, above, λ same. known.1 (same ∙ sym (ap (λ k. k.pair) key_is)))
above-refused top s i key (RootMismatch level) read within key_is above refused =
    let known = refused [] in
    subst (λ i. AboveVerdict top s (Err (RootMismatch i))) (sym known.0)
    (within, above, known.1 ∙ ap (λ k. k.pair) key_is, λ message valid. (refused message).2 (subst (λ k. IsLmsValid k (message_at message s i) (signature_at s i)) (sym key_is) valid))

-- at the bottom a level signs the message
pub message_at-bottom : (message : List ℕ) (s : Signature) → message ≡ message_at message s (length s.signed)
message_at-bottom message s =
    let bytes_of : SignedKey → List ℕ = λ signed. public_bytes signed.key in
    sym (get_or_at (map bytes_of s.signed) message [] message (length s.signed) (length-map s.signed bytes_of))

-- if the bottom's signature is valid, too, all is
pub bottom-valid : (key : HssPublic) (message : List ℕ) (s : Signature) → level_count s ≡ key.levels → AreValidAbove key.top s (length s.signed) → IsValidAt key.top message s (length s.signed)
    → IsValid key message s
bottom-valid key message s count above valid = record {
  count = count;
  levels = λ i inside.
      elim (cases_lt i (length s.signed)) [
        | inl before ↦ above message i before
        | inr past ↦ let same : length s.signed ≡ i = omega arith in subst (IsValidAt key.top message s) same valid
      ];
}

-- verification reaches the bottom where all levels above it are valid
pub bottom-reached : (key : HssPublic) (message bytes : List ℕ) (s : Signature) → Spells signature s bytes → level_count s ≡ key.levels → AreValidAbove key.top s (length s.signed)
    → Reaches key message bytes s (length s.signed)
bottom-reached key message bytes s spelled count above = record {
  spelled = spelled;
  count = count;
  inside = omega (arith, count);
  above = above message;
}

-- a refusal above the bottom is the whole answer
pub above-verdict : (A : Type 0) (key : HssPublic) (message bytes : List ℕ) (s : Signature) (refusal : Refusal) → Spells signature s bytes → level_count s ≡ key.levels
    → AboveVerdict key.top s (Err refusal) → Verdict {A = A} key message bytes (Err refusal)
above-verdict A key message bytes s (Unreadable fault) spelled count refused = absurd refused
above-verdict A key message bytes s LevelMismatch spelled count refused = absurd refused
above-verdict A key message bytes s MessageRead spelled count refused = absurd refused
above-verdict A key message bytes s (TypeMismatch i) spelled count (within, above, differs) =
    (s, record { spelled = spelled; count = count; inside = omega (arith, count); above = above message }, differs)
above-verdict A key message bytes s (RootMismatch i) spelled count (within, above, types, never) =
    (s, record { spelled = spelled; count = count; inside = omega (arith, count); above = above message }, types, never message)

-- the bottom's answer is the whole answer
pub bottom-verdict : {A : Type 0} (key : HssPublic) (message bytes : List ℕ) (s : Signature) (result : Result A Refusal) → Spells signature s bytes → level_count s ≡ key.levels
    → AreValidAbove key.top s (length s.signed)
    → LevelVerdict (key_at key.top s (length s.signed)) (message_at message s (length s.signed)) (signature_at s (length s.signed)) (length s.signed) result → Verdict key message bytes result
bottom-verdict key message bytes s (Ok x) spelled count above valid = (s, spelled, bottom-valid key message s count above valid)
bottom-verdict key message bytes s (Err (Unreadable fault)) spelled count above never = elim never [ ]
bottom-verdict {A = A} key message bytes s (Err (TypeMismatch level)) spelled count above (is, differs) =
    subst (λ i. Verdict {A = A} key message bytes (Err (TypeMismatch i))) (sym is) (s, bottom-reached key message bytes s spelled count above, differs)
bottom-verdict key message bytes s (Err LevelMismatch) spelled count above never = elim never [ ]
bottom-verdict key message bytes s (Err MessageRead) spelled count above types = (s, bottom-reached key message bytes s spelled count above, types)
bottom-verdict {A = A} key message bytes s (Err (RootMismatch level)) spelled count above (is, types, invalid) =
    subst (λ i. Verdict {A = A} key message bytes (Err (RootMismatch i))) (sym is) (s, bottom-reached key message bytes s spelled count above, types, invalid)

-- the same of what was read at the bottom
pub bottom-read : {A : Type 0} (key : HssPublic) (message bytes : List ℕ) (s : Signature) (k : LmsPublic) (read : LmsSignature) (i : ℕ) (result : Result A Refusal) → Spells signature s bytes
    → level_count s ≡ key.levels → AboveVerdict key.top s (Ok k) → i ≡ length s.signed → read ≡ signature_at s i → LevelVerdict k message read i result → Verdict key message bytes result
bottom-read key message bytes s k read i result spelled count (key_is, above) at_bottom read_is verdict =
    let n = length s.signed in
    let same = level-same k message (message_at message s n) read (signature_at s n) i n result (read_is ∙ ap (signature_at s) at_bottom) (message_at-bottom message s) at_bottom verdict in
    bottom-verdict key message bytes s result spelled count above (subst (λ k. LevelVerdict k (message_at message s n) (signature_at s n) n result) key_is same)

-- verification leaves the message as the bottom level does
pub bottom-leaves : {M A : Type 0} (transition : Transition M) (remaining : M → Option (List ℕ)) (text : List ℕ) (old new : M) (key : HssPublic) (k : LmsPublic) (read : LmsSignature) (i : ℕ)
    (result : Result A Refusal) → i + 1 ≡ key.levels → LevelVerdict k text read i result → LmsLeavesMessage transition remaining text old new result
    → LeavesMessage transition remaining key text old new result
bottom-leaves transition remaining text old new key k read i (Ok x) last verdict leaves = leaves
bottom-leaves transition remaining text old new key k read i (Err (Unreadable fault)) last verdict leaves = leaves
bottom-leaves transition remaining text old new key k read i (Err (TypeMismatch level)) last verdict leaves = leaves
bottom-leaves transition remaining text old new key k read i (Err LevelMismatch) last never leaves = elim never [ ]
bottom-leaves transition remaining text old new key k read i (Err MessageRead) last verdict leaves = leaves
bottom-leaves transition remaining text old new key k read i (Err (RootMismatch level)) last (is, _, _) leaves =
    inl (ap (λ i. i + 1) is ∙ last, leaves)

-- the bottom level's signature is the last one
pub signature_at-bottom : (s : Signature) (i : ℕ) → i ≡ length s.signed → s.bottom ≡ signature_at s i
signature_at-bottom s i last =
    let of : SignedKey → LmsSignature = λ signed. signed.signature in
    sym (get_or_at (map of s.signed) s.bottom [] s.bottom i (length-map s.signed of ∙ sym last))

-- a refusal above the bottom leaves the message
pub above-leaves : {M : Type 0} (transition : Transition M) (remaining : M → Option (List ℕ)) (A : Type 0) (key : HssPublic) (s : Signature) (text : List ℕ) (message : M) (refusal : Refusal)
    → level_count s ≡ key.levels → AboveVerdict key.top s (Err refusal) → LeavesMessage {A = A} transition remaining key text message message (Err refusal)
above-leaves transition remaining A key s text message (Unreadable fault) count refused = absurd refused
above-leaves transition remaining A key s text message LevelMismatch count refused = absurd refused
above-leaves transition remaining A key s text message MessageRead count refused = absurd refused
above-leaves transition remaining A key s text message (TypeMismatch i) count refused = refl
above-leaves transition remaining A key s text message (RootMismatch i) count (within, _, _, _) =
    inr (λ same. omega (arith, count), refl)

-- no refusal above the bottom says that the message can't be read
pub above-read : (top : LmsPublic) (s : Signature) (refusal : Refusal) → AboveVerdict top s (Err refusal) → refusal ≢ MessageRead
above-read top s (Unreadable fault) refused same = absurd refused
above-read top s LevelMismatch refused same = absurd refused
above-read top s MessageRead refused same = absurd refused
above-read top s (TypeMismatch i) refused same = absurd (cc)
above-read top s (RootMismatch i) refused same = absurd (cc)

-- the bottom level's answer is the answer for the bytes
pub of-bottom : {A : Type 0} (key : HssPublic) (message bytes : List ℕ) (read : LmsSignature) (k : LmsPublic) (i : ℕ) (result : Result A Refusal)
    → IsBottom key bytes read k i → LevelVerdict k message read i result → Verdict key message bytes result
of-bottom key message bytes read k i result bottom verdict =
    let s = bottom.whole in
    bottom-read key message bytes s k read i result bottom.spelled bottom.count bottom.above bottom.last
    (bottom.signature_is ∙ signature_at-bottom s i bottom.last) verdict

-- the message's digest under the bytes' signature is its digest under the bottom level
pub digest-at-bottom : (key : HssPublic) (message bytes digest : List ℕ) (read : LmsSignature) (k : LmsPublic) (i : ℕ)
    → IsBottom key bytes read k i → IsDigest key message bytes digest → digest ≡ lms_digest_of k message read
digest-at-bottom key message bytes digest read k i bottom is_digest =
    is_digest bottom.whole bottom.spelled
    ∙ ap (λ k. lms_digest_of k message bottom.whole.bottom) (sym bottom.above.0)
    ∙ ap (lms_digest_of k message) (sym bottom.signature_is)
