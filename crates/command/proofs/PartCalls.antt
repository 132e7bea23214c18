-- Calls of an open file that each do a part, one after the other.
use Rattle.std.proofs.Common.{◌≡◌, inl, inr, ⊎_elim, ℕ, ◌+◌, ◌-◌, ◌<◌, ◌≤◌, List, [], ◌∷◌, ◌++◌, length, take, drop, get_or, slice_range, refl, sym, ◌∙◌, ap, subst, arith, length-append, length-take-le, length-drop, take-append-drop, Ok, Err}
use Rattle.std.specs.Prelude.{IsTrue}
use Rattle.std.proofs.Math.Seq.{take-add}
use Rattle.std.proofs.lemmas.List.{drop-drop, drop_at, drop-append-le, drop-take, get_or-append_right, get_or-drop, get_or-take, get_or_append_left, get_or_default, length-take, same_lists, take-append-le, take-take}
use Rattle.std.proofs.lemmas.Bool.{cases_lt}
use Rattle.state_file.specs.Disk.{AreWithin, ChangesOnly, DiskState, MayLeave, OpensRange, Range, range_of}
use Rattle.state_file.proofs.Ranges.{changes_nothing, changes_within, within_all, within_both, within_more}
use Rattle.typecodes.specs.Message.{Gave, ReadOutcome, Transition, Transitions, size_of}
use Rattle.command.specs.OffsetFile.{CallsFile, Shows, TakesPart}
use Rattle.command.specs.declared.offset_file.OffsetFile as offset_file
use Rattle.command.specs.inner.FileDisk.{FileReads, FileWrites}

-- ---- parts of lists

pub range_split : (c : List ℕ) (from k to : ℕ) → from ≤ k → k ≤ to → slice_range c from to ≡ slice_range c from k ++ slice_range c k to
range_split c from k to low high =
    let widths : (k - from) + (to - k) ≡ to - from = omega (arith, low, high) in
    let place : from + (k - from) ≡ k = omega (arith, low) in
    ap (λ n. take n (drop from c)) (sym widths) ∙ take-add (k - from) (to - k) (drop from c)
    ∙ ap (λ l. slice_range c from k ++ take (to - k) l) (drop-drop (k - from) from c ∙ ap (λ n. drop n c) place)

-- some bytes of a list lie in it
pub range_inside : (c bytes : List ℕ) (from n : ℕ) → bytes ≡ slice_range c from (from + n) → length bytes ≡ n → 1 ≤ n → from + n ≤ length c
range_inside c bytes from n is size some =
    omega (arith, some, size, ap length is, length-take (from + n - from) (drop from c), length-drop from c)

pub range_none : (c : List ℕ) (from : ℕ) → slice_range c from from ≡ []
range_none c from = let none : from - from ≡ 0 = omega arith in ap (λ n. take n (drop from c)) none

-- what lies before all changes stays
pub range_stays : (a c : List ℕ) (from k to : ℕ) → k ≤ length a → ChangesOnly (record { from = k; to = to } ∷ []) a c
    → slice_range c from k ≡ slice_range a from k
range_stays a c from k to within changes = same_lists (slice_range c from k) (slice_range a from k) size each
  where
    size : length (slice_range c from k) ≡ length (slice_range a from k)
    size = omega (arith, within, changes.no_shorter, length-take (k - from) (drop from c), length-drop from c, length-take (k - from) (drop from a), length-drop from a)

    each : (i d : ℕ) → i < length (slice_range c from k) → get_or (slice_range c from k) i d ≡ get_or (slice_range a from k) i d
    each i d inside =
        let low : i < k - from = omega (arith, inside, length-take (k - from) (drop from c)) in
        let there : from + i < length a = omega (arith, low, within) in
        get_or-take (k - from) (drop from c) i d low ∙ get_or-drop from c i d
        ∙ get_or_default c (from + i) d 0 (omega (arith, there, changes.no_shorter)) ∙ changes.kept (from + i) there (inl (omega (arith, low)), tt)
        ∙ get_or_default a (from + i) 0 d there ∙ sym (get_or-take (k - from) (drop from a) i d low ∙ get_or-drop from a i d)

-- ---- contents that a file shows

-- a beginning of the one, and then the other
abbrev pub joined : ℕ → List ℕ → List ℕ → List ℕ
joined k a b = take k a ++ drop k b

joined_length : (k : ℕ) (a b : List ℕ) → k ≤ length a → length (joined k a b) ≡ k + (length b - k)
joined_length k a b within = omega (arith, length-append (take k a) (drop k b), length-take-le k a within, length-drop k b)

joined_front : (k : ℕ) (a b : List ℕ) (from : ℕ) → from ≤ k → k ≤ length a → slice_range (joined k a b) from k ≡ slice_range a from k
joined_front k a b from low within =
    let place : from + (k - from) ≡ k = omega (arith, low) in
    let cut : drop from (take k a) ≡ slice_range a from k = ap (λ n. drop from (take n a)) (sym place) ∙ drop-take from (k - from) a in
    ap (take (k - from)) (drop-append-le from (take k a) (drop k b) (omega (arith, low, length-take-le k a within)))
    ∙ take-append-le (k - from) (drop from (take k a)) (drop k b) (omega (arith, length-take-le k a within, length-drop from (take k a)))
    ∙ ap (take (k - from)) cut ∙ take-take (k - from) (k - from) (drop from a) (omega arith)

joined_back : (k : ℕ) (a b : List ℕ) (to : ℕ) → k ≤ length a → slice_range (joined k a b) k to ≡ slice_range b k to
joined_back k a b to within = ap (take (to - k)) (drop_at (take k a) (drop k b) k (length-take-le k a within))

joined_changes : (ranges : List Range) (base : List ℕ) (k : ℕ) (a b : List ℕ) → k ≤ length a → ChangesOnly ranges base a → ChangesOnly ranges base b
    → ChangesOnly ranges base (joined k a b)
joined_changes ranges base k a b within first second = record {
  kept = λ offset inside aside. elim (cases_lt offset k) [
    | inl low ↦ get_or_append_left (take k a) (drop k b) 0 offset (omega (arith, low, length-take-le k a within)) ∙ get_or-take k a offset 0 low
        ∙ first.kept offset inside aside
    | inr high ↦ let place : k + (offset - k) ≡ offset = omega (arith, high) in
        get_or-append_right (take k a) (drop k b) k offset 0 (length-take-le k a within) high ∙ get_or-drop k b (offset - k) 0
        ∙ ap (λ n. get_or b n 0) place ∙ second.kept offset inside aside
  ];
  no_shorter = omega (arith, second.no_shorter, joined_length k a b within);
  no_longer = omega (arith, within, first.no_longer, second.no_longer, joined_length k a b within);
}

joined_shows : (state : DiskState) (k : ℕ) (a b : List ℕ) → k ≤ length a → Shows state a → Shows state b → Shows state (joined k a b)
joined_shows state k a b within first second = record {
  steady = λ still. ap (λ l. take k l ++ drop k b) (first.steady still) ∙ ap (λ l. take k state.content ++ drop k l) (second.steady still)
      ∙ take-append-drop k state.content;
  may_leave = joined_changes state.ranges state.base k a b within first.may_leave second.may_leave;
}

pub shows_along : (old new : DiskState) (c : List ℕ) → new ≡ old → Shows new c → Shows old c
shows_along old new c same shows = subst (λ s. Shows s c) same shows

-- ---- changes in a range

pub opens_nothing : (range : Range) (state : DiskState) → OpensRange range state state
opens_nothing range state = record {
  changes = changes_nothing (range ∷ []) state.content;
  no_more = within_more range state.ranges;
  no_fewer = within_all state.ranges;
  same_base = refl;
  same_wavers = refl;
}

-- a range in a wider one
range_within : (range wide : Range) → wide.from ≤ range.from → range.to ≤ wide.to → (ranges : List Range) → AreWithin (wide ∷ ranges) (range ∷ ranges)
range_within range wide low high ranges = record {
  outside = λ offset aside. (
    ⊎_elim (λ (before : offset < wide.from). inl (omega (arith, before, low))) (λ (after : wide.to ≤ offset). inr (omega (arith, after, high))) aside.0,
    aside.1,
  );
  ends = λ len. omega (arith, high);
}

pub opens_wider : (range wide : Range) (old new : DiskState) → wide.from ≤ range.from → range.to ≤ wide.to → OpensRange range old new
    → OpensRange wide old new
opens_wider range wide old new low high opens = record {
  changes = changes_within (wide ∷ []) (range ∷ []) old.content new.content (range_within range wide low high []) opens.changes;
  no_more = within_both (wide ∷ old.ranges) (range ∷ old.ranges) new.ranges (range_within range wide low high old.ranges) opens.no_more;
  no_fewer = opens.no_fewer;
  same_base = opens.same_base;
  same_wavers = opens.same_wavers;
}

opens_both : (range : Range) (old middle new : DiskState) → OpensRange range old middle → OpensRange range middle new → OpensRange range old new
opens_both range old middle new first second = record {
  changes = record {
    kept = λ offset inside aside.
        second.changes.kept offset (omega (arith, inside, first.changes.no_shorter)) aside ∙ first.changes.kept offset inside aside;
    no_shorter = omega (arith, first.changes.no_shorter, second.changes.no_shorter);
    no_longer = omega (arith, first.changes.no_longer, second.changes.no_longer);
  };
  no_more = record {
    outside = λ offset aside. second.no_more.outside offset (aside.0, first.no_more.outside offset aside);
    ends = λ len. omega (arith, first.no_more.ends len, second.no_more.ends len);
  };
  no_fewer = within_both new.ranges middle.ranges old.ranges second.no_fewer first.no_fewer;
  same_base = second.same_base ∙ first.same_base;
  same_wavers = second.same_wavers ∙ first.same_wavers;
}

-- what a crash may leave before a write it may leave after it
still_left : (range : Range) (old new : DiskState) (c : List ℕ) → OpensRange range old new → MayLeave old c → MayLeave new c
still_left range old new c opens may =
    subst (λ b. ChangesOnly new.ranges b c) (sym opens.same_base) (changes_within new.ranges old.ranges old.base c opens.no_fewer may)

-- ---- calls of a file

module _ {F : Type 0} (f : offset_file.Ghosts F) where
  no_call : (file : F) → CallsFile f.honest f.state f.moment f.left_since file file
  no_call file = record {
    time = λ honest. record { later = omega arith; nothing_else = λ t c early since. inl since; keeps = λ t c early since. since };
    honest = refl;
  }

  two_calls : (old middle new : F) → CallsFile f.honest f.state f.moment f.left_since old middle → CallsFile f.honest f.state f.moment f.left_since middle new
      → (IsTrue (f.honest old) → (c : List ℕ) → MayLeave (f.state middle) c → MayLeave (f.state new) c)
      → CallsFile f.honest f.state f.moment f.left_since old new
  two_calls old middle new first second still = record {
    time = λ honest.
        let one = first.time honest in
        let two = second.time (first.honest ∙ honest) in
        record {
          later = omega (arith, one.later, two.later);
          nothing_else = λ t c early since.
              ⊎_elim (λ past. ⊎_elim (λ was. inl was) (λ may. inr (still honest c may)) (one.nothing_else t c early past)) (λ may. inr may)
              (two.nothing_else t c (omega (arith, early, one.later)) since);
          keeps = λ t c early since. two.keeps t c (omega (arith, early, one.later)) (one.keeps t c early since);
        };
    honest = second.honest ∙ first.honest;
  }

  -- Of `all` bytes `done` were read; a read asks for the rest.
  abbrev pub RestReads : (at all : ℕ) → Transition (ℕ × F)
  RestReads at all (done, old) outcome (after, new) =
      (after ≡ done + size_of outcome) × (after ≤ all) × FileReads f (at + done) (all - done) old outcome new

  -- Of the bytes `done` were written; a write offers the rest.
  abbrev pub RestWrites : (at : ℕ) (bytes : List ℕ) → Transition (ℕ × F)
  RestWrites at bytes (done, old) outcome (after, new) =
      (after ≡ done + size_of outcome) × (after ≤ length bytes) × FileWrites f (at + done) (drop done bytes) old outcome new

  -- ---- reads

  pub reads_keep : (at all : ℕ) (outcomes : List ReadOutcome) (done : ℕ) (old : F) (after : ℕ) (new : F)
      → Transitions (RestReads at all) outcomes (done, old) (after, new)
      → (IsTrue (f.honest old) → f.state new ≡ f.state old) × CallsFile f.honest f.state f.moment f.left_since old new
  reads_keep at all [] done old after new same =
      let file : new ≡ old = ap (λ (s : ℕ × F). s.1) same in
      (λ honest. ap f.state file, subst (CallsFile f.honest f.state f.moment f.left_since old) (sym file) (no_call old))
  reads_keep at all (outcome ∷ later) done old after new ((middle, next), (is_middle, fits, one), rest) =
      let (stays, calls) = reads_keep at all later middle next after new rest in (
        λ honest. stays (one.call.honest ∙ honest) ∙ one.keeps_state honest,
        two_calls old next new one.call calls (λ honest c may. subst (λ s. MayLeave s c) (sym (stays (one.call.honest ∙ honest))) may),
      )

  -- The bytes of several reads are one content's.
  pub reads_show : ((file : F) → IsTrue (f.honest file) → MayLeave (f.state file) (f.state file).content)
      → (at all : ℕ) (outcomes : List ReadOutcome) (text : List ℕ) (done : ℕ) (old : F) (after : ℕ) (new : F) → IsTrue (f.honest old)
      → Transitions (RestReads at all) outcomes (done, old) (after, new) → Gave outcomes text
      → (c : List ℕ) × Shows (f.state old) c × (text ≡ slice_range c (at + done) (at + after)) × (done ≤ after)
  reads_show shows at all [] text done old after new honest same none =
      let stays : after ≡ done = ap (λ (s : ℕ × F). s.0) same in (
        (f.state old).content,
        record { steady = λ still. refl; may_leave = shows old honest },
        none ∙ sym (range_none (f.state old).content (at + done)) ∙ ap (λ n. slice_range (f.state old).content (at + done) (at + n)) (sym stays),
        omega (arith, stays),
      )
  reads_show shows at all (Ok bytes ∷ later) text done old after new honest ((middle, next), (is_middle, fits, one), rest) (some, (others, is, gave)) =
      let (b, shown, others_are, further) = reads_show shows at all later others middle next after new (one.call.honest ∙ honest) rest gave in
      let (a, first, bytes_are, end) = one.gives honest in
      let place : at + done + length bytes ≡ at + middle = omega (arith, is_middle) in
      let within : at + middle ≤ length a = omega (arith, place, range_inside a bytes (at + done) (length bytes) bytes_are refl some) in
      let whole = joined (at + middle) a b in
      let front : slice_range whole (at + done) (at + middle) ≡ bytes =
      joined_front (at + middle) a b (at + done) (omega (arith, is_middle)) within
      ∙ sym (bytes_are ∙ ap (slice_range a (at + done)) place) in
      let back : slice_range whole (at + middle) (at + after) ≡ others = joined_back (at + middle) a b (at + after) within ∙ sym others_are in (
        whole,
        joined_shows (f.state old) (at + middle) a b within first (shows_along (f.state old) (f.state next) b (one.keeps_state honest) shown),
        is ∙ sym (range_split whole (at + done) (at + middle) (at + after) (omega (arith, is_middle)) (omega (arith, further))
            ∙ ap (λ l. l ++ slice_range whole (at + middle) (at + after)) front ∙ ap (λ l. bytes ++ l) back),
        omega (arith, is_middle, further),
      )
  reads_show shows at all (Err kind ∷ later) text done old after new honest reads never = absurd never

  -- ---- writes

  -- the range that is left for later writes
  abbrev pub rest_range : (at : ℕ) (bytes : List ℕ) (done : ℕ) → Range
  rest_range at bytes done = record { from = at + done; to = at + length bytes }

  -- what one write opens
  first_opens : (at : ℕ) (bytes : List ℕ) (done : ℕ) (old new : DiskState) (outcome : ReadOutcome) → done ≤ length bytes
      → TakesPart (at + done) (drop done bytes) old new outcome → OpensRange (rest_range at bytes done) old new
  first_opens at bytes done old new (Ok first) within (opens, put) =
      opens_wider (range_of (at + done) (drop done bytes)) (rest_range at bytes done) old new (omega arith) (omega (arith, within, length-drop done bytes)) opens
  first_opens at bytes done old new (Err kind) within opens =
      opens_wider (range_of (at + done) (drop done bytes)) (rest_range at bytes done) old new (omega arith) (omega (arith, within, length-drop done bytes)) opens

  pub writes_open : (at : ℕ) (bytes : List ℕ) (outcomes : List ReadOutcome) (done : ℕ) (old : F) (after : ℕ) (new : F) → done ≤ length bytes
      → Transitions (RestWrites at bytes) outcomes (done, old) (after, new)
      → (IsTrue (f.honest old) → OpensRange (rest_range at bytes done) (f.state old) (f.state new))
      × CallsFile f.honest f.state f.moment f.left_since old new
  writes_open at bytes [] done old after new within same =
      let file : new ≡ old = ap (λ (s : ℕ × F). s.1) same in (
        λ honest. subst (λ x. OpensRange (rest_range at bytes done) (f.state old) (f.state x)) (sym file) (opens_nothing (rest_range at bytes done) (f.state old)),
        subst (CallsFile f.honest f.state f.moment f.left_since old) (sym file) (no_call old),
      )
  writes_open at bytes (outcome ∷ later) done old after new within ((middle, next), (is_middle, fits, one), rest) =
      let (opens, calls) = writes_open at bytes later middle next after new fits rest in (
        λ honest. opens_both (rest_range at bytes done) (f.state old) (f.state next) (f.state new)
            (first_opens at bytes done (f.state old) (f.state next) outcome within (one.takes honest))
            (opens_wider (rest_range at bytes middle) (rest_range at bytes done) (f.state next) (f.state new) (omega (arith, is_middle)) (omega arith)
            (opens (one.call.honest ∙ honest))),
        two_calls old next new one.call calls
            (λ honest c may. still_left (rest_range at bytes middle) (f.state next) (f.state new) c (opens (one.call.honest ∙ honest)) may),
      )

  -- What the writes took is in the content.
  pub writes_put : (at : ℕ) (bytes : List ℕ) (outcomes : List ReadOutcome) (text : List ℕ) (done : ℕ) (old : F) (after : ℕ) (new : F)
      → done ≤ length bytes → IsTrue (f.honest old) → Transitions (RestWrites at bytes) outcomes (done, old) (after, new) → Gave outcomes text
      → (slice_range (f.state new).content (at + done) (at + after) ≡ text) × (done ≤ after)
  writes_put at bytes [] text done old after new within honest same none =
      let stays : after ≡ done = ap (λ (s : ℕ × F). s.0) same in (
        ap (λ n. slice_range (f.state new).content (at + done) (at + n)) stays ∙ range_none (f.state new).content (at + done) ∙ sym none,
        omega (arith, stays),
      )
  writes_put at bytes (Ok first ∷ later) text done old after new within honest ((middle, next), (is_middle, fits, one), rest) (some, (others, is, gave)) =
      let (others_put, further) = writes_put at bytes later others middle next after new fits (one.call.honest ∙ honest) rest gave in
      let put = (one.takes honest).1 in
      let opens = (writes_open at bytes later middle next after new fits rest).0 (one.call.honest ∙ honest) in
      let place : at + done + length first ≡ at + middle = omega (arith, is_middle) in
      let a = (f.state next).content in
      let c = (f.state new).content in
      let there : at + middle ≤ length a = omega (arith, place, range_inside a first (at + done) (length first) (sym put) refl some) in
      let front : slice_range c (at + done) (at + middle) ≡ first =
      range_stays a c (at + done) (at + middle) (at + length bytes) there opens.changes ∙ ap (slice_range a (at + done)) (sym place) ∙ put in (
        range_split c (at + done) (at + middle) (at + after) (omega (arith, is_middle)) (omega (arith, further))
            ∙ ap (λ l. l ++ slice_range c (at + middle) (at + after)) front ∙ ap (λ l. first ++ l) others_put ∙ sym is,
        omega (arith, is_middle, further),
      )
  writes_put at bytes (Err kind ∷ later) text done old after new within honest writes never = absurd never
