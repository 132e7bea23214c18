-- Which slots of an array hold signed keys.
use Rattle.std.specs.Prelude.{◌≡◌, ◌≤◌, ℕ, List, [], Option, drop, length, take}
use Rattle.hss.specs.declared.signed_key.SignedKeyView.{SignedKeyView}
use Rattle.hss.specs.SignedKey.{shown_keys}

-- the first n slots are in use, and no others
abbrev pub AreFirst : ℕ → List (Option SignedKeyView) → Type 0
AreFirst n slots =
    ((i : ℕ) → i ≤ n → length (shown_keys (take i slots)) ≡ i) × (shown_keys (drop n slots) ≡ [])
