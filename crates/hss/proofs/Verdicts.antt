-- The key, the message and the bytes determine what verification answers.
use Rattle.std.proofs.Common.{◌≡◌, ℕ, ◌+◌, inl, inr, arith, length, List, Result, Ok, Err, refl, sym, ap, subst, ◌∙◌}
use Rattle.std.specs.Prelude.{◌≢◌, ◌⊎◌, IsOk}
use Rattle.std.proofs.lemmas.Bool.{cases_order}
use Rattle.typecodes.specs.declared.refusal.Refusal.{Refusal}
use Rattle.typecodes.specs.declared.refusal.Refusal.TheVariants.{Unreadable, TypeMismatch, LevelMismatch, RootMismatch, MessageRead}
use Rattle.typecodes.specs.Layout.{Spells}
use Rattle.typecodes.proofs.Spelling.{no_value, one_fault, one_value}
use Rattle.hss.specs.declared.key.HssPublic.{HssPublic}
use Rattle.hss.specs.Signature.{Signature, key_at, level_count, signature, signature_at}
use Rattle.hss.specs.Verification.{IsValid, IsValidAt, Reaches, Verdict}

-- verification reaches the level, and it isn't valid
abbrev Fails : HssPublic → List ℕ → List ℕ → Signature → ℕ → Type 0
Fails key message bytes s i = Reaches key message bytes s i × (IsValidAt key.top message s i → ⊥)

-- a level with other types than its key's isn't valid
fails-types : (key : HssPublic) (message bytes : List ℕ) (s : Signature) (i : ℕ) → Reaches key message bytes s i → ((signature_at s i).pair ≢ (key_at key.top s i).pair) → Fails key message bytes s i
fails-types key message bytes s i reaches differs = (reaches, λ valid. differs valid.types)

-- a valid signature fails at no level
never-fails : (key : HssPublic) (message bytes : List ℕ) (s t : Signature) (i : ℕ) → Fails key message bytes t i → Spells signature s bytes → IsValid key message s → ⊥
never-fails key message bytes s t i (reaches, fails) spelled valid =
    fails (subst (λ s. IsValidAt key.top message s i) (one_value signature s t bytes spelled reaches.spelled) (valid.levels i reaches.inside))

-- the level at which one fails is the only one
same_level : (key : HssPublic) (message bytes : List ℕ) (s t : Signature) (i j : ℕ) → Fails key message bytes s i → Fails key message bytes t j → i ≡ j
same_level key message bytes s t i j (s_reaches, s_fails) (t_reaches, t_fails) =
    let same = one_value signature s t bytes s_reaches.spelled t_reaches.spelled in
    elim (cases_order i j) [
      | inl e ↦ e
      | inr (inl below) ↦ absurd (s_fails (subst (λ s. IsValidAt key.top message s i) (sym same) (t_reaches.above i below)))
      | inr (inr above) ↦ absurd (t_fails (subst (λ s. IsValidAt key.top message s j) same (s_reaches.above j above)))
    ]

-- whether a level's types are its key's doesn't depend on the reading
same_types : (key : HssPublic) (message bytes : List ℕ) (s t : Signature) (i j : ℕ) → Reaches key message bytes s i → Reaches key message bytes t j → i ≡ j
    → (signature_at s i).pair ≡ (key_at key.top s i).pair → (signature_at t j).pair ≡ (key_at key.top t j).pair
same_types key message bytes s t i j s_reaches t_reaches same types =
    let is = one_value signature s t bytes s_reaches.spelled t_reaches.spelled in
    subst (λ j. (signature_at t j).pair ≡ (key_at key.top t j).pair) same (subst (λ s. (signature_at s i).pair ≡ (key_at key.top s i).pair) is types)

-- a signature whose level is reached has the key's number of levels
counted : (key : HssPublic) (message bytes : List ℕ) (s t : Signature) (i : ℕ) → Reaches key message bytes s i → Spells signature t bytes → level_count t ≡ key.levels
counted key message bytes s t i reaches spelled = ap level_count (one_value signature t s bytes spelled reaches.spelled) ∙ reaches.count

-- a valid signature is refused only where the message can't be read
pub accepted : {A : Type 0} (key : HssPublic) (message bytes : List ℕ) (result : Result A Refusal) → Verdict key message bytes result → result ≢ Err MessageRead → (s : Signature) → Spells signature s bytes → IsValid key message s → IsOk result
accepted key message bytes (Ok x) verdict read s spelled valid = refl
accepted key message bytes (Err (Unreadable fault)) faulty read s spelled valid = absurd (no_value signature s bytes 0 fault spelled faulty)
accepted key message bytes (Err LevelMismatch) (t, t_spelled, differs) read s spelled valid =
    absurd (differs (ap level_count (one_value signature t s bytes t_spelled spelled) ∙ valid.count))
accepted key message bytes (Err (TypeMismatch i)) (t, reaches, differs) read s spelled valid =
    absurd (never-fails key message bytes s t i (fails-types key message bytes t i reaches differs) spelled valid)
accepted key message bytes (Err MessageRead) verdict read s spelled valid = absurd (read refl)
accepted key message bytes (Err (RootMismatch i)) (t, reaches, types, fails) read s spelled valid = absurd (never-fails key message bytes s t i (reaches, fails) spelled valid)

-- two refusals of the same bytes are one, unless one is the message's
pub one_refusal : (A : Type 0) (key : HssPublic) (message bytes : List ℕ) (first second : Refusal) → Verdict {A = A} key message bytes (Err first) → Verdict {A = A} key message bytes (Err second)
    → first ≢ MessageRead → second ≢ MessageRead → first ≡ second
one_refusal A key message bytes (Unreadable f) (Unreadable g) first second read read_too = ap Unreadable (one_fault signature bytes 0 f g first second)
one_refusal A key message bytes (Unreadable f) LevelMismatch first (s, spelled, _) read read_too = absurd (no_value signature s bytes 0 f spelled first)
one_refusal A key message bytes (Unreadable f) (TypeMismatch j) first (s, reaches, _) read read_too = absurd (no_value signature s bytes 0 f reaches.spelled first)
one_refusal A key message bytes (Unreadable f) (RootMismatch j) first (s, reaches, _, _) read read_too = absurd (no_value signature s bytes 0 f reaches.spelled first)
one_refusal A key message bytes LevelMismatch (Unreadable g) (s, spelled, _) second read read_too = absurd (no_value signature s bytes 0 g spelled second)
one_refusal A key message bytes LevelMismatch LevelMismatch first second read read_too = refl
one_refusal A key message bytes LevelMismatch (TypeMismatch j) (s, spelled, differs) (t, reaches, _) read read_too = absurd (differs (counted key message bytes t s j reaches spelled))
one_refusal A key message bytes LevelMismatch (RootMismatch j) (s, spelled, differs) (t, reaches, _, _) read read_too = absurd (differs (counted key message bytes t s j reaches spelled))
one_refusal A key message bytes (TypeMismatch i) (Unreadable g) (s, reaches, _) second read read_too = absurd (no_value signature s bytes 0 g reaches.spelled second)
one_refusal A key message bytes (TypeMismatch i) LevelMismatch (s, reaches, _) (t, spelled, differs) read read_too = absurd (differs (counted key message bytes s t i reaches spelled))
one_refusal A key message bytes (TypeMismatch i) (TypeMismatch j) (s, s_reaches, s_differs) (t, t_reaches, t_differs) read read_too =
    ap TypeMismatch (same_level key message bytes s t i j (fails-types key message bytes s i s_reaches s_differs) (fails-types key message bytes t j t_reaches t_differs))
one_refusal A key message bytes (TypeMismatch i) (RootMismatch j) (s, s_reaches, differs) (t, t_reaches, types, fails) read read_too =
    let same = same_level key message bytes t s j i (t_reaches, fails) (fails-types key message bytes s i s_reaches differs) in
    absurd (differs (same_types key message bytes t s j i t_reaches s_reaches same types))
one_refusal A key message bytes (RootMismatch i) (Unreadable g) (s, reaches, _, _) second read read_too = absurd (no_value signature s bytes 0 g reaches.spelled second)
one_refusal A key message bytes (RootMismatch i) LevelMismatch (s, reaches, _, _) (t, spelled, differs) read read_too = absurd (differs (counted key message bytes s t i reaches spelled))
one_refusal A key message bytes (RootMismatch i) (TypeMismatch j) (s, s_reaches, types, fails) (t, t_reaches, differs) read read_too =
    let same = same_level key message bytes s t i j (s_reaches, fails) (fails-types key message bytes t j t_reaches differs) in
    absurd (differs (same_types key message bytes s t i j s_reaches t_reaches same types))
one_refusal A key message bytes (RootMismatch i) (RootMismatch j) (s, s_reaches, _, s_fails) (t, t_reaches, _, t_fails) read read_too =
    ap RootMismatch (same_level key message bytes s t i j (s_reaches, s_fails) (t_reaches, t_fails))
one_refusal A key message bytes MessageRead second _ _ read read_too = absurd (read refl)
one_refusal A key message bytes (Unreadable f) MessageRead _ _ read read_too = absurd (read_too refl)
one_refusal A key message bytes LevelMismatch MessageRead _ _ read read_too = absurd (read_too refl)
one_refusal A key message bytes (TypeMismatch i) MessageRead _ _ read read_too = absurd (read_too refl)
one_refusal A key message bytes (RootMismatch i) MessageRead _ _ read read_too = absurd (read_too refl)

-- where all levels above the bottom are valid, none but the bottom fails
fails-at-bottom : (key : HssPublic) (message bytes : List ℕ) (s t : Signature) (i : ℕ) → Reaches key message bytes s (length s.signed)
    → Fails key message bytes t i → i ≡ length s.signed
fails-at-bottom key message bytes s t i s_reaches (t_reaches, t_fails) =
    let same = one_value signature s t bytes s_reaches.spelled t_reaches.spelled in
    elim (cases_order i (length s.signed)) [
      | inl e ↦ e
      | inr (inl below) ↦ absurd (t_fails (subst (λ s. IsValidAt key.top message s i) same (s_reaches.above i below)))
      | inr (inr past) ↦ absurd (omega (arith, past, t_reaches.inside, s_reaches.count))
    ]

-- where the message may be refused, no earlier refusal comes
pub read_in_turn : (A : Type 0) (key : HssPublic) (message bytes : List ℕ) (first : Refusal) → Verdict {A = A} key message bytes (Err MessageRead)
    → Verdict {A = A} key message bytes (Err first)
    → (first ≡ MessageRead) ⊎ ((bottom : ℕ) × (bottom + 1 ≡ key.levels) × (first ≡ RootMismatch bottom))
read_in_turn A key message bytes (Unreadable f) (s, reaches, types) first = absurd (no_value signature s bytes 0 f reaches.spelled first)
read_in_turn A key message bytes LevelMismatch (s, reaches, types) (t, spelled, differs) =
    absurd (differs (counted key message bytes s t (length s.signed) reaches spelled))
read_in_turn A key message bytes (TypeMismatch i) (s, reaches, types) (t, t_reaches, differs) =
    let same = fails-at-bottom key message bytes s t i reaches (fails-types key message bytes t i t_reaches differs) in
    absurd (differs (same_types key message bytes s t (length s.signed) i reaches t_reaches (sym same) types))
read_in_turn A key message bytes MessageRead read first = inl refl
read_in_turn A key message bytes (RootMismatch i) (s, reaches, types) (t, t_reaches, t_types, fails) =
    let same = fails-at-bottom key message bytes s t i reaches (t_reaches, fails) in
    inr (i, omega (arith, same, reaches.count), refl)
