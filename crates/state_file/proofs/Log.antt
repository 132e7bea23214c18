-- One entry more in the log of a disk in memory.
use Rattle.std.proofs.Common.{◌≡◌, ◌⊎◌, inl, inr, ⊎_elim, ℕ, ◌+◌, ◌-◌, ◌<◌, ◌≤◌, List, [], ◌∷◌, ◌++◌, length, min, take, drop, reverse, slice_range, slice_index, get_or, refl, sym, ◌∙◌, ap, subst, arith, length-append}
use Rattle.std.proofs.lemmas.List.{get_or_past, length-take, take_all, take-append-drop, take-append-le, reverse-append, take_at, take_more}
use Rattle.std.proofs.lemmas.Bool.{cases_lt}
use Rattle.std.proofs.lemmas.List.Prefix.{at_from_reads}
use Rattle.std.proofs.lemmas.Bool.Decides.{nat_tests}
use Rattle.typecodes.specs.Layout.{AreBytes}
use Rattle.typecodes.proofs.Bytes.{AreBytes-front}
use Rattle.state_file.specs.Disk.{range_of, AreWithin, ChangesOnly, OpensRange, Elapses}
use Rattle.state_file.specs.Log.{base_of, ranges_of, logged_state, LeftBy, LeftSince, Overlays}
use Rattle.state_file.proofs.Ranges.{changes_more, within_all, within_more}
use Rattle.state_file.specs.declared.disk.log.Entry.{Entry}
use Rattle.state_file.specs.declared.disk.log.Entry.TheVariants.{Wrote}

module _ (first : List ℕ) (log : List Entry) (entry : Entry) where
  size : length (log ++ entry ∷ []) ≡ length log + 1
  size = length-append log (entry ∷ [])

  was_or_is : (t : ℕ) (c : List ℕ) → LeftSince first (log ++ entry ∷ []) t c → LeftSince first log t c ⊎ LeftBy first (log ++ entry ∷ []) c
  was_or_is t c since = elim (cases_lt (length log) since.0) [
    | inr within ↦ inl (since.0, since.1, within, subst (λ (l : List Entry). LeftBy first l c) (take-append-le since.0 log (entry ∷ []) within) since.3)
    | inl beyond ↦ inr (subst (λ (l : List Entry). LeftBy first l c) (take_all since.0 (log ++ entry ∷ []) (omega (arith, size))) since.3)
  ]

  stays : (t : ℕ) (c : List ℕ) → LeftSince first log t c → LeftSince first (log ++ entry ∷ []) t c
  stays t c since = (since.0, since.1, omega (arith, size, since.2), subst (λ (l : List Entry). LeftBy first l c) (sym (take-append-le since.0 log (entry ∷ []) since.2)) since.3)

  one_more : Elapses (length log) (length (log ++ entry ∷ [])) (LeftSince first log) (LeftSince first (log ++ entry ∷ [])) (LeftBy first (log ++ entry ∷ []))
  one_more = record { later = omega (arith, size); nothing_else = λ t c early since. was_or_is t c since; keeps = λ t c early since. stays t c since }

pub elapses_more : (first : List ℕ) (log new : List Entry) (entry : Entry) → new ≡ log ++ entry ∷ [] → Elapses (length log) (length new) (LeftSince first log) (LeftSince first new) (LeftBy first new)
elapses_more first log new entry is =
    subst (λ (l : List Entry). Elapses (length log) (length l) (LeftSince first log) (LeftSince first l) (LeftBy first l)) (sym is) (one_more first log entry)

pub newest_first : (log : List Entry) (entry : Entry) → reverse (log ++ entry ∷ []) ≡ entry ∷ reverse log
newest_first log entry = reverse-append log (entry ∷ [])

-- one step along a log
pub newest_taken : (log : List Entry) (i : ℕ) (entry : Entry) → i < length log → entry ≡ get_or log i entry → reverse (take (i + 1) log) ≡ entry ∷ reverse (take i log)
newest_taken log i entry inside is =
    ap reverse (take_more log i entry inside ∙ ap (λ (e : Entry). take i log ++ e ∷ []) (sym is)) ∙ newest_first (take i log) entry

-- a whole range was written
pub overlays_range : (at : ℕ) (bytes old new : List ℕ) → Overlays at bytes old new → ChangesOnly (range_of at bytes ∷ []) old new
overlays_range at [] old new overlaid = record {
  kept = λ offset inside outside. ⊎_elim (overlaid.before offset inside) (overlaid.after offset inside) outside.0;
  no_shorter = grind (arith, nat_tests);
  no_longer = grind (arith, nat_tests);
}
overlays_range at (b ∷ bytes) old new overlaid = record {
  kept = λ offset inside outside. ⊎_elim (overlaid.before offset inside) (overlaid.after offset inside) outside.0;
  no_shorter = grind (arith, nat_tests);
  no_longer = grind (arith, nat_tests);
}

pub overlays_bytes : (at : ℕ) (bytes old new : List ℕ) → Overlays at bytes old new → slice_range new at (at + length bytes) ≡ bytes
overlays_bytes at [] old new overlaid = let none : at + 0 - at ≡ 0 = omega arith in ap (λ n. take n (drop at new)) none
overlays_bytes at (b ∷ bytes) old new overlaid =
    let fits : at + length (b ∷ bytes) ≤ length new = grind (arith, nat_tests) in
    let width : at + length (b ∷ bytes) - at ≡ length (b ∷ bytes) = omega arith in
    ap (λ n. take n (drop at new)) width ∙ ap (λ (l : List ℕ). take (length (b ∷ bytes)) l) (at_from_reads 0 new (b ∷ bytes) at fits overlaid.put) ∙ take_at (b ∷ bytes) (drop (at + length (b ∷ bytes)) new) (length (b ∷ bytes)) refl

opened : (log log_new : List Entry) (at : ℕ) (bytes : List ℕ) → log_new ≡ log ++ Wrote at (at + length bytes) ∷ []
    → ranges_of (reverse log_new) ≡ range_of at bytes ∷ ranges_of (reverse log)
opened log log_new at bytes is = ap ranges_of (ap reverse is ∙ newest_first log (Wrote at (at + length bytes)))

pub opens : (first : List ℕ) (log log_new : List Entry) (at : ℕ) (bytes old new : List ℕ) → Overlays at bytes old new → log_new ≡ log ++ Wrote at (at + length bytes) ∷ []
    → OpensRange (range_of at bytes) (logged_state old first log) (logged_state new first log_new)
opens first log log_new at bytes old new overlaid is = record {
  changes = overlays_range at bytes old new overlaid;
  no_more = subst (AreWithin (range_of at bytes ∷ ranges_of (reverse log))) (sym (opened log log_new at bytes is)) (within_all (range_of at bytes ∷ ranges_of (reverse log)));
  no_fewer = subst (λ ranges. AreWithin ranges (ranges_of (reverse log))) (sym (opened log log_new at bytes is)) (within_more (range_of at bytes) (ranges_of (reverse log)));
  same_base = ap (base_of first) (ap reverse is ∙ newest_first log (Wrote at (at + length bytes)));
  same_wavers = refl;
}

widened : (at n : ℕ) (bytes old new : List ℕ) → ChangesOnly (range_of at (take n bytes) ∷ []) old new → ChangesOnly (range_of at bytes ∷ []) old new
widened at n bytes old new changes =
    let part : length (take n bytes) ≡ min n (length bytes) = length-take n bytes in
    record {
      kept = λ offset inside outside. changes.kept offset inside (⊎_elim (λ below. inl below) (λ past. inr (omega (arith, part, past))) outside.0, tt);
      no_shorter = changes.no_shorter;
      no_longer = omega (arith, part, changes.no_longer);
    }

-- a partly done write, once logged in full, is what a crash may leave
pub left_more : (first : List ℕ) (log log_new : List Entry) (at n : ℕ) (bytes old new : List ℕ) → LeftBy first log old → Overlays at (take n bytes) old new
    → log_new ≡ log ++ Wrote at (at + length bytes) ∷ [] → LeftBy first log_new new
left_more first log log_new at n bytes old new left overlaid is =
    let e : reverse log_new ≡ Wrote at (at + length bytes) ∷ reverse log = ap reverse is ∙ newest_first log (Wrote at (at + length bytes)) in
    let changes = widened at n bytes old new (overlays_range at (take n bytes) old new overlaid) in
    subst (λ (l : List Entry). ChangesOnly (ranges_of l) (base_of first l) new) (sym e)
    (changes_more (range_of at bytes) (ranges_of (reverse log)) (base_of first (reverse log)) old new left changes)

part_is_bytes : (n : ℕ) (bytes : List ℕ) → AreBytes bytes → AreBytes (take n bytes)
part_is_bytes n bytes are = AreBytes-front (take n bytes) (drop n bytes) (subst AreBytes (sym (take-append-drop n bytes)) are)

overlay_is_bytes : (at : ℕ) (bytes old new : List ℕ) → AreBytes bytes → AreBytes old → Overlays at bytes old new → AreBytes new
overlay_is_bytes at bytes old new are were overlaid i =
    elim (cases_lt i (length new)) [
      | inr past ↦ rw (get_or_past new i 0 past) (omega arith)
      | inl inside ↦ elim (cases_lt i at) [
        | inl before ↦ elim (cases_lt i (length old)) [
          | inl there ↦ subst (λ n. n < 256) (sym (overlaid.before i there before)) (were i)
          | inr gap ↦ subst (λ n. n < 256) (sym (overlaid.gap i gap before inside)) (omega arith)
        ]
        | inr after ↦ elim (cases_lt i (at + length bytes)) [
          | inl put ↦ let e : at + (i - at) ≡ i = omega (arith, after) in
              subst (λ n. n < 256) (sym (overlaid.put (i - at) (omega (arith, after, put))) ∙ ap (λ k. slice_index new k) e) (are (i - at))
          | inr rest ↦ subst (λ n. n < 256) (sym (overlaid.after i (grind (arith, nat_tests)) rest)) (were i)
        ]
      ]
    ]

pub part_overlay_is_bytes : (at n : ℕ) (bytes old new : List ℕ) → AreBytes bytes → AreBytes old → Overlays at (take n bytes) old new → AreBytes new
part_overlay_is_bytes at n bytes old new are = overlay_is_bytes at (take n bytes) old new (part_is_bytes n bytes are)
