-- The answers of verification in the schemes of one tree: the bytes of the signature decide them.
use Rattle.std.proofs.Common.{◌≡◌, ◌∙◌, ℕ, List, Result, Ok, Err, inl, inr, refl, sym, ap, subst}
use Rattle.std.specs.Prelude.{◌≢◌, ◌⊎◌, IsOk}
use Rattle.typecodes.specs.declared.refusal.Refusal.{Refusal}
use Rattle.typecodes.specs.declared.refusal.Refusal.TheVariants.{Unreadable, TypeMismatch, LevelMismatch, RootMismatch, MessageRead}
use Rattle.typecodes.specs.Layout.{HasFault, Layout, Spells}
use Rattle.typecodes.specs.Verdict.{VerdictLaws, Verdicts}
use Rattle.typecodes.specs.inner.Verdict.{DigestVerdict}
use Rattle.typecodes.proofs.Spelling.{no_value, one_fault, one_value}

-- ---- by the digest of the message

-- What holds of a valid signature's Ok, and of the refusal of another root, holds of the answer.
pub of_digest : {A : Type 0} (P : Result A Refusal → Type 0) (valid : Type 0) (i : ℕ) (result : Result A Refusal)
    → DigestVerdict valid i result → ((x : A) → valid → P (Ok x))
    → ((level : ℕ) → level ≡ i → (valid → ⊥) → P (Err (RootMismatch level))) → P result
of_digest P valid i (Ok x) verdict ok other = ok x verdict
of_digest P valid i (Err (Unreadable fault)) never ok other = absurd never
of_digest P valid i (Err (TypeMismatch level)) never ok other = absurd never
of_digest P valid i (Err LevelMismatch) never ok other = absurd never
of_digest P valid i (Err MessageRead) never ok other = absurd never
of_digest P valid i (Err (RootMismatch level)) (at, invalid) ok other = other level at invalid

-- ---- by the bytes of the signature

-- What a refusal says of the bytes of a signature. They have a fault, or they spell a signature. It has other types
-- than the key; or it has the key's, and the message can't be read, or it isn't valid. Where signatures name no type,
-- each has its key's.
abbrev pub Refused : {S : Type 0} → Layout S → (S → Type 0) → (S → Type 0) → List ℕ → Refusal → Type 0
Refused layout has_types is_valid bytes (Unreadable fault) = HasFault layout bytes 0 fault
Refused {S} layout has_types is_valid bytes (TypeMismatch level) =
    (level ≡ 0) × ((s : S) × Spells layout s bytes × (has_types s → ⊥))
Refused layout has_types is_valid bytes LevelMismatch = ⊥
Refused {S} layout has_types is_valid bytes MessageRead = (s : S) × Spells layout s bytes × has_types s
Refused {S} layout has_types is_valid bytes (RootMismatch level) =
    (level ≡ 0) × ((s : S) × Spells layout s bytes × has_types s × (is_valid s → ⊥))

-- what holds of one signature that the bytes spell holds of another
carried : {S : Type 0} (layout : Layout S) (P : S → Type 0) (bytes : List ℕ) (s t : S) → Spells layout s bytes → Spells layout t bytes → P s → P t
carried layout P bytes s t s_spelled t_spelled = subst P (one_value layout s t bytes s_spelled t_spelled)

-- a valid signature is refused only where the message can't be read
never_refused : {S : Type 0} (layout : Layout S) (has_types is_valid : S → Type 0) (bytes : List ℕ) (refusal : Refusal)
    → ((s : S) → is_valid s → has_types s) → Refused layout has_types is_valid bytes refusal → refusal ≢ MessageRead
    → (s : S) → Spells layout s bytes → is_valid s → ⊥
never_refused layout has_types is_valid bytes (Unreadable fault) typed faulty read s spelled valid = no_value layout s bytes 0 fault spelled faulty
never_refused layout has_types is_valid bytes (TypeMismatch level) typed (_, (t, t_spelled, differs)) read s spelled valid =
    differs (carried layout has_types bytes s t spelled t_spelled (typed s valid))
never_refused layout has_types is_valid bytes LevelMismatch typed never read s spelled valid = never
never_refused layout has_types is_valid bytes MessageRead typed unread read s spelled valid = read refl
never_refused layout has_types is_valid bytes (RootMismatch level) typed (_, (t, t_spelled, types, invalid)) read s spelled valid =
    invalid (carried layout is_valid bytes s t spelled t_spelled valid)

-- two refusals other than the message's are one
one_refusal : {S : Type 0} (layout : Layout S) (has_types is_valid : S → Type 0) (bytes : List ℕ) (first second : Refusal)
    → Refused layout has_types is_valid bytes first → Refused layout has_types is_valid bytes second
    → first ≢ MessageRead → second ≢ MessageRead → first ≡ second
one_refusal layout has_types is_valid bytes (Unreadable f) (Unreadable g) first second read read_too = ap Unreadable (one_fault layout bytes 0 f g first second)
one_refusal layout has_types is_valid bytes (Unreadable f) (TypeMismatch m) first (_, (s, spelled, _)) read read_too =
    absurd (no_value layout s bytes 0 f spelled first)
one_refusal layout has_types is_valid bytes (Unreadable f) LevelMismatch first never read read_too = absurd never
one_refusal layout has_types is_valid bytes (Unreadable f) (RootMismatch m) first (_, (s, spelled, _, _)) read read_too =
    absurd (no_value layout s bytes 0 f spelled first)
one_refusal layout has_types is_valid bytes (TypeMismatch l) (Unreadable g) (_, (s, spelled, _)) second read read_too =
    absurd (no_value layout s bytes 0 g spelled second)
one_refusal layout has_types is_valid bytes (TypeMismatch l) (TypeMismatch m) first second read read_too = ap TypeMismatch (first.0 ∙ sym second.0)
one_refusal layout has_types is_valid bytes (TypeMismatch l) LevelMismatch first never read read_too = absurd never
one_refusal layout has_types is_valid bytes (TypeMismatch l) (RootMismatch m) (_, (s, spelled, differs)) (_, (t, t_spelled, types, _)) read read_too =
    absurd (differs (carried layout has_types bytes t s t_spelled spelled types))
one_refusal layout has_types is_valid bytes LevelMismatch second never _ read read_too = absurd never
one_refusal layout has_types is_valid bytes (RootMismatch l) (Unreadable g) (_, (s, spelled, _, _)) second read read_too =
    absurd (no_value layout s bytes 0 g spelled second)
one_refusal layout has_types is_valid bytes (RootMismatch l) (TypeMismatch m) (_, (t, t_spelled, types, _)) (_, (s, spelled, differs)) read read_too =
    absurd (differs (carried layout has_types bytes t s t_spelled spelled types))
one_refusal layout has_types is_valid bytes (RootMismatch l) LevelMismatch first never read read_too = absurd never
one_refusal layout has_types is_valid bytes (RootMismatch l) (RootMismatch m) first second read read_too = ap RootMismatch (first.0 ∙ sym second.0)
one_refusal layout has_types is_valid bytes MessageRead second _ _ read read_too = absurd (read refl)
one_refusal layout has_types is_valid bytes (Unreadable f) MessageRead _ _ read read_too = absurd (read_too refl)
one_refusal layout has_types is_valid bytes (TypeMismatch l) MessageRead _ _ read read_too = absurd (read_too refl)
one_refusal layout has_types is_valid bytes (RootMismatch l) MessageRead _ _ read read_too = absurd (read_too refl)

-- where the message may be refused, another refusal is the root's
read_in_turn : {S : Type 0} (layout : Layout S) (has_types is_valid : S → Type 0) (bytes : List ℕ) (first : Refusal)
    → Refused layout has_types is_valid bytes MessageRead → Refused layout has_types is_valid bytes first
    → (first ≡ MessageRead) ⊎ (first ≡ RootMismatch 0)
read_in_turn layout has_types is_valid bytes (Unreadable f) (s, spelled, types) first = absurd (no_value layout s bytes 0 f spelled first)
read_in_turn layout has_types is_valid bytes (TypeMismatch l) (s, spelled, types) (_, (t, t_spelled, differs)) =
    absurd (differs (carried layout has_types bytes s t spelled t_spelled types))
read_in_turn layout has_types is_valid bytes LevelMismatch read never = absurd never
read_in_turn layout has_types is_valid bytes MessageRead read first = inl refl
read_in_turn layout has_types is_valid bytes (RootMismatch l) read first = inr (ap RootMismatch first.0)

-- an answer that isn't a refusal is Ok
ok_unless : {A : Type 0} (result : Result A Refusal) → ((refusal : Refusal) → result ≡ Err refusal → ⊥) → IsOk result
ok_unless (Ok x) never = refl
ok_unless (Err refusal) never = absurd (never refusal refl)

-- So the laws hold of any verdict whose refusals say this.
pub tree_laws : {K S : Type 0} (verdict : Verdicts K) (layout : K → Layout S) (has_types : K → S → Type 0) (is_valid : K → List ℕ → S → Type 0)
    → ((key : K) (message bytes : List ℕ) (refusal : Refusal) → verdict key message bytes (Err refusal)
    → Refused (layout key) (has_types key) (is_valid key message) bytes refusal)
    → ((key : K) (message : List ℕ) (s : S) → is_valid key message s → has_types key s)
    → VerdictLaws verdict layout is_valid (λ key refusal. refusal ≡ RootMismatch 0)
tree_laws verdict layout has_types is_valid refused typed = record {
  accepted = λ key message bytes result answer read s spelled valid.
      ok_unless result (λ refusal is.
      never_refused (layout key) (has_types key) (is_valid key message) bytes refusal (typed key message)
      (refused key message bytes refusal (subst (verdict key message bytes) is answer)) (λ same. read (is ∙ ap Err same)) s spelled valid);
  one_refusal = λ key message bytes first second answer other.
      one_refusal (layout key) (has_types key) (is_valid key message) bytes first second
      (refused key message bytes first answer) (refused key message bytes second other);
  read_in_turn = λ key message bytes first answer other.
      read_in_turn (layout key) (has_types key) (is_valid key message) bytes first
      (refused key message bytes MessageRead answer) (refused key message bytes first other);
}
