-- Reading a block, and reading a whole slot.
use Rattle.std.proofs.Common.{◌≡◌, ℕ, ◌+◌, List, length, take, drop, Result, Ok, Err, sym, ap, ◌∙◌, arith, inl, inr, length-take-le, length-drop}
use Rattle.std.specs.Prelude.{MatchOption}
use Rattle.std.specs.Result.{result_ok}
use Rattle.std.proofs.lemmas.Bool.{cases_lt}
use Rattle.typecodes.specs.declared.fault.ReadFault.{ReadFault}
use Rattle.typecodes.specs.Layout.{Layout, done, Spells}
use Rattle.typecodes.specs.Fields.{block}
use Rattle.typecodes.specs.Cursor.{read, Reads}
use Rattle.typecodes.proofs.Read.{read-cut, read-fits}
use Rattle.typecodes.proofs.Spelling.{no_value}
use Rattle.typecodes.proofs.Steps.{reading, steps}

pub block-length : (n : ℕ) (bytes : List ℕ) (place next : ℕ) (taken : List ℕ) → read (block n) bytes place ≡ Ok (taken, next) → length taken ≡ n
block-length n bytes place next taken found =
    elim (cases_lt (length bytes) (place + n)) [
      | inl cut ↦ absurd (let clash = sym (read-cut n done bytes place cut) ∙ found in cc)
      | inr fits ↦
          let same = sym (read-fits n done bytes place fits) ∙ found in
          let pair : ◌≡◌ {A = List ℕ × ℕ} (take n (drop place bytes), place + n) (taken, next) = cc in
          ap length (sym (ap (λ p. p.0) pair)) ∙ length-take-le n (drop place bytes) (omega (arith, length-drop place bytes))
    ]

-- reading a whole layout says whether the bytes spell a value
pub spelled_or_not : {V : Type 0} (layout : Layout V) (bytes : List ℕ) (answer : Result V ReadFault) → Reads layout (λ v. v) bytes answer
    → MatchOption (result_ok answer) ((v : V) → Spells layout v bytes → ⊥) (λ v. Spells layout v bytes)
spelled_or_not layout bytes (Ok v) spelled = spelled
spelled_or_not layout bytes (Err fault) faulty = λ v spelled. no_value layout v bytes 0 fault spelled faulty

-- a whole layout, field by field, to its end
pub ruleset whole = (reading, steps)
