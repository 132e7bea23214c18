-- A name is bound in one of two maps, by its length.
use Rattle.std.proofs.Common.{◌≡◌, ℕ, ◌-◌, ◌≤◌, Bool, true, false, cond, List, Option, Some, length, take, drop, get_or, replicate, refl, sym, ap, ◌∙◌, true≢false, le-leb}
use Rattle.std.specs.Prelude.{Result, Ok, Err, IsOk, OnOk, if◌then◌else◌, nat_eq, nat_le}
use Rattle.std.specs.Bool.{one_answer}
use Rattle.std.specs.Cmp.Lexicographic.{bytes_decides, unequal}
use Rattle.std.proofs.lemmas.List.{take_at}
use Rattle.sign_core.specs.Records.{are_same}
use Rattle.sign_core.specs.Ledger.{bound_at, of_text, short_text}
use Rattle.sign_core.specs.declared.name_map.NameMap.{NameMap}
use Rattle.sign_core.specs.declared.ledger.Binding.{Binding}

-- an `OnOk` clause, for an answer that is Ok
pub on_ok : {T E P : Type 0} (r : Result T E) → IsOk r → OnOk r P → P
on_ok (Ok x) is holds = holds
on_ok (Err e) is holds = absurd (true≢false (sym is))

-- a short name is known from its key
name_of_text : (a b : List ℕ) → short_text a ≡ short_text b → a ≡ b
name_of_text a b same =
    sym (take_at a (replicate (22 - length a) 0) (length a) refl)
    ∙ (λ i. take (get_or (same i) 0 0) (drop 1 (same i)))
    ∙ take_at b (replicate (22 - length b) 0) (length b) refl

same_texts : (a b : List ℕ) → are_same (short_text a) (short_text b) ≡ are_same a b
same_texts a b =
    let texts = bytes_decides (short_text a) (short_text b) in
    let names = bytes_decides a b in
    one_answer (are_same (short_text a) (short_text b)) (are_same a b)
    (λ is. name_of_text a b (texts.0 is), λ is. texts.1 (ap short_text is)) names

by_length : (within : Bool) (a b x y : Option Binding) (named : Bool) (binding : Binding)
    → (within ≡ true → x ≡ cond named (Some binding) a) → (within ≡ false → y ≡ cond named (Some binding) b)
    → (if within then x else y) ≡ cond named (Some binding) (if within then a else b)
by_length true a b x y named binding short long = short refl
by_length false a b x y named binding short long = long refl

-- the new binding isn't of a name on the other side
not_named : (name other : List ℕ) (within : Bool) → nat_le (length name) 22 ≡ within
    → (nat_le (length other) 22 ≡ within → ⊥) → are_same name other ≡ false
not_named name other within is apart =
    unequal nat_eq name other (λ same. apart (sym (ap (λ n. nat_le n 22) same) ∙ is))

pub short_bound : (old new : NameMap) (name : List ℕ) (binding : Binding) → length name ≤ 22
    → ((text : List ℕ) → of_text new.short text ≡ cond (are_same (short_text name) text) (Some binding) (of_text old.short text))
    → new.long ≡ old.long
    → (other : List ℕ) → bound_at new other ≡ cond (are_same name other) (Some binding) (bound_at old other)
short_bound old new name binding short bound stays other =
    by_length (nat_le (length other) 22) (of_text old.short (short_text other)) (of_text old.long other)
    (of_text new.short (short_text other)) (of_text new.long other) (are_same name other) binding
    (λ is. bound (short_text other)
    ∙ ap (λ b. cond b (Some binding) (of_text old.short (short_text other))) (same_texts name other))
    (λ is. ap (λ m. of_text m other) stays
    ∙ sym (ap (λ b. cond b (Some binding) (of_text old.long other))
    (not_named name other true (le-leb (length name) 22 short) (λ within. true≢false (sym within ∙ is)))))

pub long_bound : (old new : NameMap) (name : List ℕ) (binding : Binding) → nat_le (length name) 22 ≡ false
    → ((text : List ℕ) → of_text new.long text ≡ cond (are_same name text) (Some binding) (of_text old.long text))
    → new.short ≡ old.short
    → (other : List ℕ) → bound_at new other ≡ cond (are_same name other) (Some binding) (bound_at old other)
long_bound old new name binding long bound stays other =
    by_length (nat_le (length other) 22) (of_text old.short (short_text other)) (of_text old.long other)
    (of_text new.short (short_text other)) (of_text new.long other) (are_same name other) binding
    (λ is. ap (λ m. of_text m (short_text other)) stays
    ∙ sym (ap (λ b. cond b (Some binding) (of_text old.short (short_text other)))
    (not_named name other false long (λ within. true≢false (sym is ∙ within)))))
    (λ is. bound other)

-- more room, in each of the two
pub kept_alike : (old new : NameMap) → ((text : List ℕ) → of_text new.short text ≡ of_text old.short text)
    → ((name : List ℕ) → of_text new.long name ≡ of_text old.long name)
    → (name : List ℕ) → bound_at new name ≡ bound_at old name
kept_alike old new short long name =
    λ i. if nat_le (length name) 22 then short (short_text name) i else long name i
