-- Calls that read and write at offsets, one after the other, as calls of a disk.
use Rattle.std.proofs.Common.{◌≡◌, ◌⊎◌, ◌∙◌, ℕ, ◌≤◌, ◌<◌, ◌+◌, ◌-◌, ◌^◌, List, [], ◌∷◌, ◌++◌, length, take, drop, slice_range, Result, Ok, Err, None, inl, inr, refl, ap, subst, arith, length-drop}
use Rattle.std.specs.Prelude.{IsTrue}
use Rattle.std.specs.IoError.{error_kind}
use Rattle.std.specs.declared.io.Error.{Error}
use Rattle.state_file.specs.Disk.{DiskState, IsSteady, MayLeave, OpensRange, range_of}
use Rattle.state_file.specs.declared.disk.DiskFault.TheVariants as fault
use Rattle.typecodes.specs.Message.{FailsBy, GivesAll, GivesText, ReadOutcome, Transition, Transitions}
use Rattle.typecodes.specs.Reading.{AsksForRest, FillsOrEnds, RequestsFull}
use Rattle.typecodes.specs.Sink.{OffersRest, WritesAll}
use Rattle.command.specs.FileDisk.{ReadsRest, WritesRest}
use Rattle.command.specs.declared.file_disk.AtOffset.{AtOffset}
use Rattle.command.specs.declared.offset_file.OffsetFile as offset_file
use Rattle.command.specs.inner.FileDisk.{DiskReads, DiskWrites, FileReads, FileWrites, ReadsNext, WritesNext}
use Rattle.command.proofs.PartCalls.{RestReads, RestWrites, opens_wider, range_inside, reads_keep, reads_show, rest_range, writes_open, writes_put}

-- the first of these steps, and the others
step_parts : {M : Type 0} (transition : Transition M) (xs ys : List ReadOutcome) (old new : M) → Transitions transition (xs ++ ys) old new
    → (middle : M) × Transitions transition xs old middle × Transitions transition ys middle new
step_parts transition [] ys old new reads = (old, refl, reads)
step_parts transition (x ∷ xs) ys old new (next, first, later) =
    let (middle, before, after) = step_parts transition xs ys next new later in (middle, (next, first, before), after)

module _ {F : Type 0} (f : offset_file.Ghosts F) where
  -- ---- reads for the rest of some room

  asked : (at all : ℕ) → at + all < 2 ^ 64 → (outcomes : List ReadOutcome) (done : ℕ) (old : AtOffset F) (after : ℕ) (new : AtOffset F) → old.at ≡ at + done
      → done ≤ all → Transitions (AsksForRest (ReadsNext f) all) outcomes (done, old) (after, new)
      → Transitions (RestReads f at all) outcomes (done, old.file.now) (after, new.file.now) × (new.file.ghost_name ≡ old.file.ghost_name)
  asked at all ends [] done old after new here within same =
      (ap (λ (s : ℕ × AtOffset F). (s.0, s.1.file.now)) same, ap (λ (s : ℕ × AtOffset F). s.1.file.ghost_name) same)
  asked at all ends (outcome ∷ later) done old after new here within ((middle, next), (is_middle, fits, one), rest) =
      let (kept, there, reads) = one (omega (arith, here, within, ends)) in
      let (goes, stays) = asked at all ends later middle next after new (omega (arith, there, here, is_middle)) fits rest in (
        ((middle, next.file.now), (is_middle, fits, subst (λ p. FileReads f p (all - done) old.file.now outcome next.file.now) here reads), goes),
        stays ∙ kept,
      )

  -- the reads of the file that fill a buffer, up to the file's end or a failure
  abbrev pub ReadsFile : (at : ℕ) → Result ℕ Error → List ℕ → F → F → Type 0
  ReadsFile at (Ok count) buffer old new = FillsOrEnds (RestReads f at (length buffer)) count buffer (0, old) (count, new)
  ReadsFile at (Err error) buffer old new =
      (count : ℕ) × FailsBy (RestReads f at (length buffer)) (error_kind error) (take count buffer) (0, old) (count, new)

  pub file_read : (at : ℕ) (result : Result ℕ Error) (buffer : List ℕ) (old new : AtOffset F) → RequestsFull (ReadsNext f) result buffer old new
      → at + length buffer < 2 ^ 64 → old.at ≡ at + 0
      → ReadsFile at result buffer old.file.now new.file.now × (new.file.ghost_name ≡ old.file.ghost_name)
  file_read at (Ok n) buffer old new (inl (full, (outcomes, asks, gave))) ends here =
      let (goes, stays) = asked at (length buffer) ends outcomes 0 old n new here (omega arith) asks in (inl (full, (outcomes, goes, gave)), stays)
  file_read at (Ok n) buffer old new (inr (less, (outcomes, asks, gave))) ends here =
      let (goes, stays) = asked at (length buffer) ends (outcomes ++ Ok [] ∷ []) 0 old n new here (omega arith) asks in
      (inr (less, (outcomes, goes, gave)), stays)
  file_read at (Err error) buffer old new (n, (outcomes, asks, gave)) ends here =
      let (goes, stays) = asked at (length buffer) ends (outcomes ++ Err (error_kind error) ∷ []) 0 old n new here (omega arith) asks in
      ((n, (outcomes, goes, gave)), stays)

  reads_noted : (at all : ℕ) (outcomes : List ReadOutcome) (done : ℕ) (old : F) (after : ℕ) (new : F)
      → Transitions (RestReads f at all) outcomes (done, old) (after, new)
      → Transitions (ReadsRest at all) outcomes (done, f.trace old) (after, f.trace new)
  reads_noted at all [] done old after new same = ap (λ (s : ℕ × F). (s.0, f.trace s.1)) same
  reads_noted at all (outcome ∷ later) done old after new ((middle, next), (is_middle, fits, one), rest) =
      ((middle, f.trace next), (is_middle, one.trace), reads_noted at all later middle next after new rest)

  -- ---- a read of the disk

  module _ (shows : (file : F) → IsTrue (f.honest file) → MayLeave (f.state file) (f.state file).content) where
    filled : {A : Type 0} (at n : ℕ) (buffer : List ℕ) (value : A) (old new : F) → ReadsFile at (Ok n) buffer old new → length buffer ≤ n → 0 < length buffer
        → DiskReads f at buffer (Ok value) old new
    filled at n buffer value old new (inr (less, reads)) enough some = absurd (omega (arith, less, enough))
    filled at n buffer value old new (inl (full, (outcomes, reads, gave))) enough some =
        let (keeps, calls) = reads_keep f at (length buffer) outcomes 0 old n new reads in record {
          reads = (
            outcomes,
            reads_noted at (length buffer) outcomes 0 old (length buffer) new
                (subst (λ m. Transitions (RestReads f at (length buffer)) outcomes (0, old) (m, new)) full reads),
            gave,
          );
          shows = λ honest.
              let (c, shown, is, low) = reads_show f shows at (length buffer) outcomes buffer 0 old n new honest reads gave in
              let start : at + 0 ≡ at = omega arith in
              let bytes : buffer ≡ slice_range c at (at + length buffer) =
              is ∙ ap (λ k. slice_range c k (at + n)) start ∙ ap (λ k. slice_range c at (at + k)) full in
              (c, shown, range_inside c buffer at (length buffer) bytes refl some, bytes);
          keeps_state = keeps;
          call = calls;
        }

    ended : (A : Type 0) (at n : ℕ) (buffer : List ℕ) (old new : F) → ReadsFile at (Ok n) buffer old new → n < length buffer
        → DiskReads {A = A} f at buffer (Err fault.PastEnd) old new
    ended A at n buffer old new (inl (full, reads)) fewer = absurd (omega (arith, full, fewer))
    ended A at n buffer old new (inr (less, (outcomes, reads, gave))) fewer =
        let (keeps, calls) = reads_keep f at (length buffer) (outcomes ++ Ok [] ∷ []) 0 old n new reads in record {
          reads = (n, take n buffer, (outcomes, reads_noted at (length buffer) (outcomes ++ Ok [] ∷ []) 0 old n new reads, gave));
          shows = λ honest steady.
              let ((done, middle), before, last) = step_parts (RestReads f at (length buffer)) outcomes (Ok [] ∷ []) (0, old) (n, new) reads in
              end_before at (length buffer) outcomes old done middle n new honest steady before last less;
          keeps_state = keeps;
          call = calls;
        }
      where
        end_before : (at all : ℕ) (outcomes : List ReadOutcome) (old : F) (done : ℕ) (middle : F) (n : ℕ) (new : F) → IsTrue (f.honest old) → IsSteady (f.state old)
            → Transitions (RestReads f at all) outcomes (0, old) (done, middle)
            → Transitions (RestReads f at all) (Ok [] ∷ []) (done, middle) (n, new) → n < all → length (f.state old).content < at + all
        end_before at all outcomes old done middle n new honest steady before ((after, next), (is_after, fits, one), same) less =
            let (keeps, calls) = reads_keep f at all outcomes 0 old done middle before in
            let (c, shown, is, end) = one.gives (calls.honest ∙ honest) in
            let state = keeps honest in
            let content : c ≡ (f.state old).content = shown.steady (ap (λ s. s.wavers) state ∙ steady) ∙ ap (λ s. s.content) state in
            let left : n ≡ after = ap (λ (s : ℕ × F). s.0) same in
            omega (arith, ap length content, end refl (omega (arith, left, is_after, less)), left, is_after, less)

    broke : (A : Type 0) (at : ℕ) (error : Error) (buffer : List ℕ) (old new : F) → ReadsFile at (Err error) buffer old new
        → DiskReads {A = A} f at buffer (Err fault.Failed) old new
    broke A at error buffer old new (n, (outcomes, reads, gave)) =
        let (keeps, calls) = reads_keep f at (length buffer) (outcomes ++ Err (error_kind error) ∷ []) 0 old n new reads in record {
          reads = inr (
            n,
            (
              error_kind error,
              take n buffer,
              (outcomes, reads_noted at (length buffer) (outcomes ++ Err (error_kind error) ∷ []) 0 old n new reads, gave),
            ),
          );
          shows = λ honest. tt;
          keeps_state = keeps;
          call = calls;
        }

    -- the same for a known answer
    module _ (at : ℕ) (result : Result ℕ Error) (buffer : List ℕ) (old new : F) (reads : ReadsFile at result buffer old new) where
      pub filled_there : {A : Type 0} (value : A) (n : ℕ) → result ≡ Ok n → length buffer ≤ n → 0 < length buffer → DiskReads f at buffer (Ok value) old new
      filled_there value n is = filled at n buffer value old new (subst (λ r. ReadsFile at r buffer old new) is reads)

      pub ended_there : (A : Type 0) (n : ℕ) → result ≡ Ok n → n < length buffer → DiskReads {A = A} f at buffer (Err fault.PastEnd) old new
      ended_there A n is = ended A at n buffer old new (subst (λ r. ReadsFile at r buffer old new) is reads)

      pub broke_there : (A : Type 0) (error : Error) → result ≡ Err error → DiskReads {A = A} f at buffer (Err fault.Failed) old new
      broke_there A error is = broke A at error buffer old new (subst (λ r. ReadsFile at r buffer old new) is reads)

  -- ---- writes of the rest of some bytes

  offered : (at : ℕ) (bytes : List ℕ) → at + length bytes < 2 ^ 64 → (outcomes : List ReadOutcome) (done : ℕ) (old : AtOffset F) (after : ℕ) (new : AtOffset F)
      → old.at ≡ at + done → done ≤ length bytes → Transitions (OffersRest (WritesNext f) bytes) outcomes (done, old) (after, new)
      → Transitions (RestWrites f at bytes) outcomes (done, old.file.now) (after, new.file.now) × (new.file.ghost_name ≡ old.file.ghost_name)
  offered at bytes ends [] done old after new here within same =
      (ap (λ (s : ℕ × AtOffset F). (s.0, s.1.file.now)) same, ap (λ (s : ℕ × AtOffset F). s.1.file.ghost_name) same)
  offered at bytes ends (outcome ∷ later) done old after new here within ((middle, next), (is_middle, fits, one), rest) =
      let (kept, there, writes) = one (omega (arith, here, within, ends, length-drop done bytes)) in
      let (goes, stays) = offered at bytes ends later middle next after new (omega (arith, there, here, is_middle)) fits rest in (
        ((middle, next.file.now), (is_middle, fits, subst (λ p. FileWrites f p (drop done bytes) old.file.now outcome next.file.now) here writes), goes),
        stays ∙ kept,
      )

  -- the writes of the file that offer all bytes, up to one that takes none or fails
  abbrev pub WritesFile : {A : Type 0} (at : ℕ) → Result A Error → List ℕ → F → F → Type 0
  WritesFile at (Ok _) bytes old new = GivesText (RestWrites f at bytes) bytes (0, old) (length bytes, new)
  WritesFile at (Err error) bytes old new = (done : ℕ)
      × (GivesAll (RestWrites f at bytes) (take done bytes) (0, old) (done, new)
      ⊎ FailsBy (RestWrites f at bytes) (error_kind error) (take done bytes) (0, old) (done, new))

  pub file_written : {A : Type 0} (at : ℕ) (result : Result A Error) (bytes : List ℕ) (old new : AtOffset F)
      → WritesAll (WritesNext f) (λ sink. None) result bytes old new → at + length bytes < 2 ^ 64 → old.at ≡ at + 0
      → WritesFile at result bytes old.file.now new.file.now × (new.file.ghost_name ≡ old.file.ghost_name)
  file_written at (Ok a) bytes old new ((outcomes, offers, gave), more) ends here =
      let (goes, stays) = offered at bytes ends outcomes 0 old (length bytes) new here (omega arith) offers in ((outcomes, goes, gave), stays)
  file_written at (Err error) bytes old new (n, less, more, inl (kind, (outcomes, offers, gave))) ends here =
      let (goes, stays) = offered at bytes ends (outcomes ++ Ok [] ∷ []) 0 old n new here (omega arith) offers in
      ((n, inl (outcomes, goes, gave)), stays)
  file_written at (Err error) bytes old new (n, less, more, inr (outcomes, offers, gave)) ends here =
      let (goes, stays) = offered at bytes ends (outcomes ++ Err (error_kind error) ∷ []) 0 old n new here (omega arith) offers in
      ((n, inr (outcomes, goes, gave)), stays)

  writes_noted : (at : ℕ) (bytes : List ℕ) (outcomes : List ReadOutcome) (done : ℕ) (old : F) (after : ℕ) (new : F)
      → Transitions (RestWrites f at bytes) outcomes (done, old) (after, new)
      → Transitions (WritesRest at bytes) outcomes (done, f.trace old) (after, f.trace new)
  writes_noted at bytes [] done old after new same = ap (λ (s : ℕ × F). (s.0, f.trace s.1)) same
  writes_noted at bytes (outcome ∷ later) done old after new ((middle, next), (is_middle, fits, one), rest) =
      ((middle, f.trace next), (is_middle, one.trace), writes_noted at bytes later middle next after new rest)

  -- ---- a write of the disk

  -- all writes together open the whole range
  whole_range : (at : ℕ) (bytes : List ℕ) (old new : DiskState) → OpensRange (rest_range f at bytes 0) old new → OpensRange (range_of at bytes) old new
  whole_range at bytes old new = opens_wider (rest_range f at bytes 0) (range_of at bytes) old new (omega arith) (omega arith)

  written : {A : Type 0} (at : ℕ) (value : A) (bytes : List ℕ) (old new : F) → WritesFile {A = A} at (Ok value) bytes old new
      → DiskWrites f at bytes (Ok value) old new
  written at value bytes old new (outcomes, writes, gave) =
      let (opens, calls) = writes_open f at bytes outcomes 0 old (length bytes) new (omega arith) writes in record {
        writes = (outcomes, writes_noted at bytes outcomes 0 old (length bytes) new writes, gave);
        stores = λ honest.
            let (put, low) = writes_put f at bytes outcomes bytes 0 old (length bytes) new (omega arith) honest writes gave in
            let start : at + 0 ≡ at = omega arith in (
              whole_range at bytes (f.state old) (f.state new) (opens honest),
              subst (λ k. slice_range (f.state new).content k (at + length bytes) ≡ bytes) start put,
            );
        call = calls;
      }

  not_written : (A : Type 0) (at : ℕ) (error : Error) (bytes : List ℕ) (old new : F) → WritesFile {A = A} at (Err error) bytes old new
      → DiskWrites {A = A} f at bytes (Err fault.Failed) old new
  not_written A at error bytes old new (n, inl (outcomes, writes, gave)) =
      let (opens, calls) = writes_open f at bytes (outcomes ++ Ok [] ∷ []) 0 old n new (omega arith) writes in record {
        writes = inr (inl (n, take n bytes, (outcomes, writes_noted at bytes (outcomes ++ Ok [] ∷ []) 0 old n new writes, gave)));
        stores = λ honest. inr (whole_range at bytes (f.state old) (f.state new) (opens honest));
        call = calls;
      }
  not_written A at error bytes old new (n, inr (outcomes, writes, gave)) =
      let (opens, calls) = writes_open f at bytes (outcomes ++ Err (error_kind error) ∷ []) 0 old n new (omega arith) writes in record {
        writes = inr (inr (
          n,
          (
            error_kind error,
            take n bytes,
            (outcomes, writes_noted at bytes (outcomes ++ Err (error_kind error) ∷ []) 0 old n new writes, gave),
          ),
        ));
        stores = λ honest. inr (whole_range at bytes (f.state old) (f.state new) (opens honest));
        call = calls;
      }

  -- the same for a known answer
  module _ {V : Type 0} (at : ℕ) (result : Result V Error) (bytes : List ℕ) (old new : F) (writes : WritesFile {A = V} at result bytes old new) where
    pub written_there : (value : V) → result ≡ Ok value → DiskWrites f at bytes (Ok value) old new
    written_there value is = written at value bytes old new (subst (λ r. WritesFile {A = V} at r bytes old new) is writes)

    pub not_written_there : (error : Error) → result ≡ Err error → DiskWrites {A = V} f at bytes (Err fault.Failed) old new
    not_written_there error is = not_written V at error bytes old new (subst (λ r. WritesFile {A = V} at r bytes old new) is writes)
