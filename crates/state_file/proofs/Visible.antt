-- Names are lists of visible characters.
use Rattle.std.proofs.Common.{◌≡◌, ℕ, ◌≤◌, Bool, true, false, List, length, ◌&&◌, Result, Ok, Err, refl, nat_le, leb-true, le-leb}
use Rattle.std.specs.Prelude.{◌↔◌, IfOk, IsOk, MatchOption}
use Rattle.std.specs.Result.{result_ok}
use Rattle.std.proofs.lemmas.Bool.{and_from, and_parts}
use Rattle.std.proofs.lemmas.List.Sums.{AllPass-from_list_all, list_all-from_AllPass}
use Rattle.typecodes.specs.Name.{IsName}
use Rattle.state_file.specs.Slot.{are_visible}

visible_test : ℕ → Bool
visible_test b = nat_le 0x21 b && nat_le b 0x7e

pub visible-name : (bytes : List ℕ) → IsName bytes → are_visible bytes ≡ true
visible-name bytes name =
    list_all-from_AllPass (λ b. nat_le 0x21 b && nat_le b 0x7e) bytes (λ k d within.
    let (low, high) = name.visible k d within in
    and_from _ _ (le-leb _ _ low) (le-leb _ _ high))

pub name-visible : (bytes : List ℕ) → 1 ≤ length bytes → length bytes ≤ 128 → are_visible bytes ≡ true → IsName bytes
name-visible bytes some within_limit visible = record {
  non_empty = some;
  within_limit = within_limit;
  visible = λ k d within.
      let (low, high) = and_parts _ _ (AllPass-from_list_all (λ b. nat_le 0x21 b && nat_le b 0x7e) bytes visible k d within) in
      (leb-true _ _ low, leb-true _ _ high);
}

pub visible_or_not : {E : Type 0} (bytes : List ℕ) (made : Result (List ℕ) E) → 1 ≤ length bytes → length bytes ≤ 128 → (IsOk made ↔ IsName bytes) → IfOk made (λ name. name ≡ bytes)
    → MatchOption (result_ok made) (are_visible bytes ≡ false) (λ name. (are_visible bytes ≡ true) × (name ≡ bytes))
visible_or_not bytes (Ok name) some within_limit reported same = (visible-name bytes (reported.0 refl), same)
visible_or_not bytes (Err e) some within_limit reported same =
    elim (are_visible bytes) as (λ test. are_visible bytes ≡ test → test ≡ false) [
      | true ↦ λ visible. absurd (let ok = reported.1 (name-visible bytes some within_limit visible) in cc)
      | false ↦ λ hidden. refl
    ] refl
