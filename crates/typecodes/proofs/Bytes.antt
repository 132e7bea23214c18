-- Lists of bytes that are put together of two.
use Rattle.std.proofs.Common.{◌≡◌, ℕ, ◌+◌, ◌<◌, List, ◌++◌, length, take, drop, refl, sym, ap, ◌∙◌, subst, inl, inr, arith, take_at, drop_at}
use Rattle.std.proofs.lemmas.Bool.{cases_lt}
use Rattle.std.proofs.lemmas.List.{get_or_append_left, get_or-append-add, get_or_past}
use Rattle.typecodes.specs.Layout.{AreBytes}

-- a list is cut at one place in one way
pub same_cut : {A : Type 0} (a b c d : List A) → length a ≡ length c → a ++ b ≡ c ++ d → (a ≡ c) × (b ≡ d)
same_cut a b c d e same =
    (sym (take_at a b (length c) e) ∙ ap (take (length c)) same ∙ take_at c d (length c) refl, sym (drop_at a b (length c) e) ∙ ap (drop (length c)) same ∙ drop_at c d (length c) refl)

pub AreBytes-front : (a b : List ℕ) → AreBytes (a ++ b) → AreBytes a
AreBytes-front a b bytes i =
    elim (cases_lt i (length a)) [
      | inl inside ↦ subst (λ n. n < 256) (get_or_append_left a b 0 i inside) (bytes i)
      | inr past ↦ rw (get_or_past a i 0 past) (omega arith)
    ]

pub AreBytes-rest : (a b : List ℕ) → AreBytes (a ++ b) → AreBytes b
AreBytes-rest a b bytes i = subst (λ n. n < 256) (get_or-append-add a b i 0) (bytes (length a + i))
