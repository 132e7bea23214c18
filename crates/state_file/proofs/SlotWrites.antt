-- What a crash leaves in each of the two writes that add a slot.
use Rattle.std.proofs.Common.{◌≡◌, ◌≢◌, ◌⊎◌, inl, inr, ⊎_elim, ℕ, ◌+◌, ◌-◌, ◌<◌, ◌≤◌, List, [], ◌∷◌, ◌++◌, length, take, drop, get_or, slice_index, slice_range, refl, sym, ◌∙◌, ap, arith, append_assoc, length-append, take-append-drop}
use Rattle.std.proofs.lemmas.List.{same_lists, get_or_default, get_or_at, take_at, drop_more, set_at, get_or-set_other, get_or-set_same, length-set}
use Rattle.std.proofs.Math.ListN.{set}
use Rattle.std.proofs.lemmas.List.Prefix.{front_from_reads, front_reads}
use Rattle.std.proofs.lemmas.Bool.{cases_eq, cases_lt}
use Rattle.state_file.specs.Disk.{ChangesOnly, range_of}
use Rattle.state_file.specs.File.{open_value}
use Rattle.state_file.specs.Gates.{IsClosedAfter}

-- the parts of a content that is closed after front
pub record Splits (front content : List ℕ) : Type 0 where
  pub gate : ℕ
  pub rest : List ℕ
  pub whole : content ≡ front ++ gate ∷ rest
  pub closed : gate ≢ open_value

pub split : (front content : List ℕ) → IsClosedAfter front content → Splits front content
split front content holds =
    let n = length front in
    record {
      gate = slice_index content n;
      rest = drop (n + 1) content;
      whole = sym (take-append-drop n content) ∙ ap (λ (l : List ℕ). l ++ drop n content) holds.begins ∙ ap (λ (l : List ℕ). front ++ l) (drop_more content n 0 holds.closed.0);
      closed = holds.closed.1;
    }

pub join : (front content : List ℕ) → Splits front content → IsClosedAfter front content
join front content parts =
    let n = length front in
    let long = ap length parts.whole ∙ length-append front (parts.gate ∷ parts.rest) in
    let gate : slice_index content n ≡ parts.gate = ap (λ (l : List ℕ). slice_index l n) parts.whole ∙ get_or_at front parts.gate parts.rest 0 n refl in
    record {
      begins = ap (λ (l : List ℕ). take n l) parts.whole ∙ take_at front (parts.gate ∷ parts.rest) n refl;
      closed = (omega (arith, long), λ is_open. parts.closed (sym gate ∙ is_open));
    }

-- a whole slot after the last, its own gate closed, and a closed gate after it
pub record Stages (front body content : List ℕ) : Type 0 where
  pub gate : ℕ
  pub rest : List ℕ
  pub whole : content ≡ front ++ gate ∷ (body ++ 0 ∷ rest)
  pub closed : gate ≢ open_value

module _ (front body : List ℕ) (at : ℕ) (len : length front ≡ at) where
  -- a change after the closed gate leaves the gate and what is before it
  kept : (content c : List ℕ) (bytes : List ℕ) (holds : Splits front content) → ChangesOnly (range_of (at + 1) bytes ∷ []) content c → c ≡ (front ++ holds.gate ∷ []) ++ drop (at + 1) c
  kept content c bytes holds changes =
      let before = front ++ holds.gate ∷ [] in
      let long : length before ≡ at + 1 = length-append front (holds.gate ∷ []) ∙ ap (λ n. n + 1) len in
      let whole : content ≡ before ++ holds.rest = holds.whole ∙ sym (append_assoc front (holds.gate ∷ []) holds.rest) in
      let room : length content ≡ length before + length holds.rest = ap length whole ∙ length-append before holds.rest in
      front_from_reads 0 c before (omega (arith, changes.no_shorter)) (λ i inside.
      changes.kept i (omega arith) (inl (omega arith), tt) ∙ front_reads 0 content before holds.rest whole i inside)
      ∙ ap (λ n. before ++ drop n c) long

  stage_splits : (content c bytes : List ℕ) → Splits front content → ChangesOnly (range_of (at + 1) bytes ∷ []) content c → Splits front c
  stage_splits content c bytes holds changes = record {
    gate = holds.gate;
    rest = drop (at + 1) c;
    whole = kept content c bytes holds changes ∙ append_assoc front (holds.gate ∷ []) (drop (at + 1) c);
    closed = holds.closed;
  }

  stage_parts : (content new bytes : List ℕ) → Splits front content → bytes ≡ body ++ 0 ∷ [] → ChangesOnly (range_of (at + 1) bytes ∷ []) content new
      → slice_range new (at + 1) (at + 1 + length bytes) ≡ bytes → Stages front body new
  stage_parts content new bytes holds is changes put =
      let tail = drop (at + 1) new in
      let width : at + 1 + length bytes - (at + 1) ≡ length bytes = omega arith in
      let rest = drop (length bytes) tail in
      let split : tail ≡ bytes ++ rest = sym (take-append-drop (length bytes) tail) ∙ ap (λ (l : List ℕ). l ++ rest) (ap (λ n. take n tail) (sym width) ∙ put) in
      record {
        gate = holds.gate;
        rest = rest;
        whole = kept content new bytes holds changes ∙ append_assoc front (holds.gate ∷ []) tail
            ∙ ap (λ (l : List ℕ). front ++ holds.gate ∷ l) (split ∙ ap (λ (l : List ℕ). l ++ rest) is ∙ append_assoc body (0 ∷ []) rest);
        closed = holds.closed;
      }

  -- a change of the gate alone
  gated : (content c : List ℕ) (staged : Stages front body content) → ChangesOnly (range_of at (open_value ∷ []) ∷ []) content c → c ≡ front ++ slice_index c at ∷ (body ++ 0 ∷ staged.rest)
  gated content c staged changes =
      let gate = slice_index c at in
      let tail = body ++ 0 ∷ staged.rest in
      let long = ap length staged.whole ∙ length-append front (staged.gate ∷ tail) in
      let same_length : length c ≡ length content = omega (arith, long, len, changes.no_shorter, changes.no_longer) in
      let within : at < length content = omega (arith, long, len) in
      let each : (k : ℕ) (d : ℕ) → k < length c → get_or c k d ≡ get_or (set content at gate) k d = λ k d inside.
      get_or_default c k d 0 inside ∙ elim (cases_eq k at) [
        | inl here ↦ ap (λ n. slice_index c n) here ∙ sym (ap (λ n. get_or (set content at gate) n d) here ∙ get_or-set_same content at gate d within)
        | inr other ↦ changes.kept k (omega arith) (aside k other, tt) ∙ get_or_default content k 0 d (omega arith) ∙ sym (get_or-set_other content at k gate d other)
      ] in
      let turned : c ≡ set content at gate = same_lists c (set content at gate) (same_length ∙ sym (length-set content at gate)) each in
      turned ∙ ap (λ (l : List ℕ). set l at gate) staged.whole ∙ set_at front staged.gate tail gate at len
    where
      aside : (k : ℕ) → (k ≡ at → ⊥) → (k < at) ⊎ (at + 1 ≤ k)
      aside k other = elim (cases_lt k at) [ inl below ↦ inl below | inr above ↦ inr (omega arith) ]

  opened : (content c : List ℕ) (staged : Stages front body content) → ChangesOnly (range_of at (open_value ∷ []) ∷ []) content c → slice_index c at ≡ open_value → Splits (front ++ open_value ∷ body) c
  opened content c staged changes is_open = record {
    gate = 0;
    rest = staged.rest;
    whole = gated content c staged changes ∙ ap (λ n. front ++ n ∷ (body ++ 0 ∷ staged.rest)) is_open ∙ sym (append_assoc front (open_value ∷ body) (0 ∷ staged.rest));
    closed = omega arith;
  }

  gate_splits : (content c : List ℕ) → Stages front body content → ChangesOnly (range_of at (open_value ∷ []) ∷ []) content c → Splits front c ⊎ Splits (front ++ open_value ∷ body) c
  gate_splits content c staged changes = elim (cases_eq (slice_index c at) open_value) [
    | inl is_open ↦ inr (opened content c staged changes is_open)
    | inr shut ↦ inl (record { gate = slice_index c at; rest = body ++ 0 ∷ staged.rest; whole = gated content c staged changes; closed = shut })
  ]

  gate_parts : (content new : List ℕ) → Stages front body content → ChangesOnly (range_of at (open_value ∷ []) ∷ []) content new → slice_range new at (at + 1) ≡ open_value ∷ [] → Splits (front ++ open_value ∷ body) new
  gate_parts content new staged changes put =
      let long = ap length staged.whole ∙ length-append front (staged.gate ∷ (body ++ 0 ∷ staged.rest)) in
      let width : at + 1 - at ≡ 1 = omega arith in
      let one : slice_index new at ∷ [] ≡ open_value ∷ [] =
      ap (λ (l : List ℕ). take 1 l) (sym (drop_more new at 0 (omega (arith, long, len, changes.no_shorter)))) ∙ ap (λ n. take n (drop at new)) (sym width) ∙ put in
      opened content new staged changes cc

  -- what the first write leaves in a crash, and afterwards
  pub stage_leaves : (content c bytes : List ℕ) → IsClosedAfter front content → ChangesOnly (range_of (at + 1) bytes ∷ []) content c → IsClosedAfter front c
  stage_leaves content c bytes holds changes = join front c (stage_splits content c bytes (split front content holds) changes)

  pub stage_done : (content new bytes : List ℕ) → IsClosedAfter front content → bytes ≡ body ++ 0 ∷ [] → ChangesOnly (range_of (at + 1) bytes ∷ []) content new
      → slice_range new (at + 1) (at + 1 + length bytes) ≡ bytes → Stages front body new
  stage_done content new bytes holds = stage_parts content new bytes (split front content holds)

  -- what the second write leaves in a crash, and afterwards
  pub gate_leaves : (content c : List ℕ) → Stages front body content → ChangesOnly (range_of at (open_value ∷ []) ∷ []) content c → IsClosedAfter front c ⊎ IsClosedAfter (front ++ open_value ∷ body) c
  gate_leaves content c staged changes =
      ⊎_elim (λ old. inl (join front c old)) (λ new. inr (join (front ++ open_value ∷ body) c new)) (gate_splits content c staged changes)

  pub gate_done : (content new : List ℕ) → Stages front body content → ChangesOnly (range_of at (open_value ∷ []) ∷ []) content new → slice_range new at (at + 1) ≡ open_value ∷ [] → IsClosedAfter (front ++ open_value ∷ body) new
  gate_done content new staged changes put = join (front ++ open_value ∷ body) new (gate_parts content new staged changes put)
