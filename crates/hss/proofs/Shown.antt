-- What slots and a signature at the bottom show of a signature's levels.
use Rattle.std.proofs.Common.{◌≡◌, ◌∙◌, refl, sym, ap, ℕ, suc, ◌+◌, ◌-◌, ◌<◌, ◌≤◌, inl, inr, List, ◌∷◌, ◌++◌, length, take, drop, Option, Some, None, Ok, arith, subst, take_at, drop_at, append-nil}
use Rattle.std.specs.Prelude.{IfSome, IsSome, ◌↔◌}
use Rattle.std.proofs.lemmas.Bool.{cases_lt}
use Rattle.typecodes.specs.Layout.{Spells}
use Rattle.typecodes.specs.Cursor.{read}
use Rattle.typecodes.specs.Types.{lms_signature_len_of}
use Rattle.lms.specs.declared.key.LmsPublic.{LmsPublic}
use Rattle.lms.specs.declared.signature.LmsSigView.{LmsSigView}
use Rattle.lms.specs.Key.{public_key as lms_public_key}
use Rattle.lms.specs.View.{pair_of as lms_pair_of, signature_of as lms_signature_of}
use Rattle.hss.specs.declared.signed_key.SignedKeyView.{SignedKeyView}
use Rattle.hss.specs.SignedKey.{StandInTurn, BeginsAt, shown_keys, signed_key_of, slot, signed_keys_size}
use Rattle.hss.specs.inner.SignedKey.{AreFirst}
use Rattle.hss.specs.Signature.{key_at, level_count, shown_signature, signature, signature_at, start_at}
use Rattle.hss.proofs.Slots.{in-use, none-after, shown-count, signed-at, signed-cut}
use Rattle.hss.proofs.Walking.{key_at-below, key_spelled, signature_at-above, start-more, starts}

module _ (n : ℕ) (slots : List (Option SignedKeyView)) (bottom : LmsSigView) (first : AreFirst n slots) where
  -- what the first i slots show
  front : (i : ℕ) → i ≤ n → take i (shown_keys slots) ≡ shown_keys (take i slots)
  front i below = ap (take i) (signed-cut slots i) ∙ take_at (shown_keys (take i slots)) (shown_keys (drop i slots)) i (first.0 i below)

  -- a slot in use is one of the first
  inside : (i : ℕ) (view : SignedKeyView) → slot slots i ≡ Some view → i < n
  inside i view is =
      elim (cases_lt i n) [
        | inl below ↦ below
        | inr past ↦ absurd (none-after n slots i view first.1 past is)
      ]

  -- the signed keys from it on
  from : (i : ℕ) (view : SignedKeyView) → slot slots i ≡ Some view → drop i (shown_keys slots) ≡ signed_key_of view ∷ shown_keys (drop (suc i) slots)
  from i view is =
      ap (drop i) (signed-cut slots i)
      ∙ drop_at (shown_keys (take i slots)) (shown_keys (drop i slots)) i (first.0 i (let below = inside i view is in omega arith)) ∙ signed-at slots i view is

  within : (i : ℕ) (view : SignedKeyView) → slot slots i ≡ Some view → i < length (shown_keys slots)
  within i view is = omega (arith, inside i view is, shown-count n slots first)

  -- it is in use exactly where the level is above the bottom
  pub slot-used : (i : ℕ) (r : Option SignedKeyView) → r ≡ slot slots i → IsSome r ↔ (i + 1 < level_count (shown_signature slots bottom))
  slot-used i (Some view) is = (λ _. omega (arith, within i view (sym is)), λ _. refl)
  slot-used i None is = (λ none. absurd (cc), λ below. absurd (in-use n slots i first (omega (arith, shown-count n slots first)) (sym is)))

  -- its signature, and its key
  pub slot-signature : (i : ℕ) (r : Option SignedKeyView) → r ≡ slot slots i
      → IfSome r (λ view. lms_signature_of view.signature ≡ signature_at (shown_signature slots bottom) i)
  slot-signature i (Some view) is = signature_at-above (shown_signature slots bottom) i (signed_key_of view) _ (within i view (sym is)) (from i view (sym is))
  slot-signature i None is = tt

  pub slot-key : (top : LmsPublic) (i : ℕ) (r : Option SignedKeyView) → r ≡ slot slots i → IfSome r (λ view. view.key ≡ key_at top (shown_signature slots bottom) (i + 1))
  slot-key top i (Some view) is = key_at-below top (shown_signature slots bottom) i (signed_key_of view) _ (from i view (sym is))
  slot-key top i None is = tt

  -- where it stands
  start : (i : ℕ) → i ≤ n → 4 + signed_keys_size (shown_keys (take i slots)) ≡ start_at (shown_signature slots bottom) i
  start i below = ap (λ keys. 4 + signed_keys_size keys) (sym (front i below)) ∙ starts (shown_signature slots bottom) i (omega (arith, shown-count n slots first))

  pub slot-range : (bytes : List ℕ) (i : ℕ) (r : Option SignedKeyView) → StandInTurn 4 bytes slots → r ≡ slot slots i → IfSome r (BeginsAt (start_at (shown_signature slots bottom) i) bytes)
  slot-range bytes i (Some view) stand is =
      subst (λ at. BeginsAt at bytes view) (start i (let below = inside i view (sym is) in omega arith)) (stand i view (sym is))
  slot-range bytes i None stand is = tt

  -- and how its key is spelled
  pub slot-spells : (bytes : List ℕ) (i : ℕ) (r : Option SignedKeyView) → StandInTurn 4 bytes slots → read signature bytes 0 ≡ Ok (shown_signature slots bottom, length bytes) → r ≡ slot slots i
      → IfSome r (λ view. Spells lms_public_key view.key view.key_bytes.now)
  slot-spells bytes i (Some view) stand found is =
      let s = shown_signature slots bottom in
      let below = within i view (sym is) in
      let key_is : view.key ≡ key_at view.key s (i + 1) = slot-key view.key i (Some view) is in
      let signature_is : lms_signature_of view.signature ≡ signature_at s i = slot-signature i (Some view) is in
      let (_, key_stands) = slot-range bytes i (Some view) stand is in
      let next : start_at s (i + 1) - 56 ≡ start_at s i + lms_signature_len_of (lms_pair_of view.signature) =
      omega (arith, start-more s i below, ap (λ l. lms_signature_len_of l.pair) signature_is) in
      let spelled = key_spelled s bytes view.key (i + 1) found (omega arith) (omega arith) in
      subst (λ k. Spells lms_public_key k view.key_bytes.now) (sym key_is)
      (subst (Spells lms_public_key (key_at view.key s (i + 1))) (ap (λ at. take 56 (drop at bytes)) next ∙ sym key_stands) spelled)
  slot-spells bytes i None stand found is = tt

  -- ---- level i, in its slot or at the bottom

  -- the bottom's
  pub bottom-start : 4 + signed_keys_size (shown_keys slots) ≡ start_at (shown_signature slots bottom) n
  bottom-start = ap (λ keys. 4 + signed_keys_size keys) (signed-cut slots n ∙ ap (λ keys. shown_keys (take n slots) ++ keys) first.1 ∙ append-nil (shown_keys (take n slots))) ∙ start n (omega arith)
