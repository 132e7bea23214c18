-- What a reader answered, where a caller turned the reader's faults into its own errors.
use Rattle.std.proofs.Common.{◌≡◌, ℕ, List, Result, Ok, Err, ap, subst}
use Rattle.std.specs.Prelude.{MatchResult}
use Rattle.typecodes.specs.declared.fault.ReadFault.{ReadFault}
use Rattle.typecodes.specs.Cursor.{Reads}
use Rattle.typecodes.specs.Layout.{Layout, Spells}

-- a reader's answer, whatever its faults were turned into
pub was_read : {X : Type 0} (E : Type 0) (result : Result X ReadFault) (x : X) (Q : ReadFault → Type 0)
    → MatchResult result (λ y. ◌≡◌ {A = Result X E} (Ok x) (Ok y)) Q → ((fault : ReadFault) → Q fault → ⊥) → result ≡ Ok x
was_read E (Ok y) x Q same never = let e : y ≡ x = cc in ap Ok e
was_read E (Err fault) x Q same never = absurd (never fault same)

-- the bytes from which a value was read spell it
pub read_spells : {V X : Type 0} (E : Type 0) (layout : Layout V) (view : X → V) (bytes : List ℕ) (result : Result X ReadFault) (x : X) (Q : ReadFault → Type 0)
    → Reads layout view bytes result → MatchResult result (λ y. ◌≡◌ {A = Result X E} (Ok x) (Ok y)) Q → ((fault : ReadFault) → Q fault → ⊥)
    → Spells layout (view x) bytes
read_spells E layout view bytes result x Q reads cases never =
    subst (Reads layout view bytes) (was_read E result x Q cases never) reads
