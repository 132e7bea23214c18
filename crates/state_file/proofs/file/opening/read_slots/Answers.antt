use Rattle.std.proofs.Common.{◌≡◌, List, [], ◌∷◌, ◌++◌, ◌%◌, ◌<◌, ℕ, length, append_assoc, length-append, sym, ◌∙◌, ap, subst, arith, rules}
use Rattle.state_file.specs.Disk.{DiskState}
use Rattle.state_file.specs.Opening.{ReportsContent}
use Rattle.state_file.specs.inner.Opening.{HasPiece, IsReached}
use Rattle.state_file.proofs.Finding.{BeginsFound, fault_reported, found_all, found_damaged, found_more, gate_within, found_open, reads_on, found_closed}
use Rattle.state_file.proofs.Lists.{pushed_moved}
use Rattle.state_file.proofs.Pieces.{piece_on}
use Rattle.state_file.specs.declared.record.Record.{Record}
use Rattle.state_file.specs.declared.record.Version.{Version}
use Rattle.state_file.proofs.file.opening.read_slots.Goals as goal

taken_more : {R : Type 0} (first before after found more : List R) (entry : R) → after ≡ before ++ entry ∷ [] → before ≡ first ++ found → more ≡ found ++ entry ∷ [] → after ≡ first ++ more
taken_more first before after found more entry one_more so_far grown = one_more ∙ ap (λ l. l ++ entry ∷ []) so_far ∙ append_assoc first found (entry ∷ []) ∙ sym (ap (λ l. first ++ l) grown)

-- the loop's slot, by the disk's states
reached : (version : Version) (first now : DiskState) (len : ℕ) (piece : List ℕ) (count : ℕ) (records : List Record) (tag : List ℕ) → now ≡ first → len ≡ length first.content → HasPiece now.content count piece → BeginsFound version first.content count records tag
    → IsReached first.content len piece count tag
reached version first now len piece count records tag same is_length has found = record {
  is_length = is_length;
  has_piece = subst (λ (s : DiskState). HasPiece s.content count piece) same has;
  is_previous = found.last;
}

pub returns-in_err-slot-clause-fault : goal.returns-in_err-slot-clause-fault
returns-in_err-slot-clause-fault g c honest =
    let first = g.D.Disk.state c.args.disk.now in
    let now = g.D.Disk.state c.loop-piece.disk in
    let before = c.loop-piece.invariant in
    let found = c.loop-piece.found in
    let fault = c.in_err-slot.field-0.0 in
    let was = before.honest ∙ honest in
    let same = (before.reads honest).stays in
    let opened = found_open first now found.count c.in_ok-read_gate.field-0 same (gate_within c.args.version first now found.count found.records found.tag same before.counted (before.found honest)) (c.in_ok-read_gate.ensures.gate was) c.if-branch.true in
    let at = reached c.args.version first now c.args.len c.read_gate.new.piece found.count found.records found.tag same (c.requires.len honest).1 (c.in_ok-read_gate.ensures.held was) (before.found honest) in
    fault_reported (ReportsContent first.content) c.from_residual-in_err-slot.result fault (search rules)
    (found_damaged c.args.version first.content found.count found.records found.tag fault (before.found honest) before.counted (c.requires.key honest) opened (c.in_err-slot.ensures.fault first.content at))

pub loop-piece-preserved : goal.loop-piece-preserved
loop-piece-preserved g c =
    let first = g.D.Disk.state c.args.disk.now in
    let now = g.D.Disk.state c.loop-piece.disk in
    let before = c.loop-piece.invariant in
    let found = c.loop-piece.found in
    let slot = c.in_ok-slot.slot in record {
      counted = omega (arith, c.push.ensures.count, before.counted, ap length c.push.ensures.records, length-append found.records (slot.entry ∷ []));
      at_most_limit = omega (arith, c.push.ensures.count, c.in_ok-slot.ensures.below_limit);
      moved = c.push.ensures.moved ∙ pushed_moved found.records c.push.new.self.records slot.entry c.push.ensures.records;
      version = c.push.ensures.version ∙ before.version;
      len = c.push.ensures.len ∙ before.len;
      within = omega (arith, c.push.ensures.count, c.in_ok-slot.ensures.ends);
      taken = taken_more (g.T.Taker.taken c.args.taker.now) (g.T.Taker.taken c.loop-piece.taker) (g.T.Taker.taken c.push.new.taker) found.records c.push.new.self.records slot.entry c.push.ensures.taken before.taken c.push.ensures.records;
      honest = c.read_gate.ensures.reads.counts.honest ∙ before.honest;
      failures = c.in_ok-read_gate.ensures.reads.counts.failures ∙ before.failures;
      past_ends = λ honest. c.read_gate.ensures.reads.counts.past_ends (before.honest ∙ honest) ∙ before.past_ends honest;
      reads = λ honest.
          reads_on g.D.Disk.state g.D.Disk.moment g.D.Disk.left_since c.args.disk.now c.loop-piece.disk c.read_gate.new.disk (before.reads honest) (c.read_gate.ensures.reads.only (before.honest ∙ honest));
      found = λ honest.
          let was = before.honest ∙ honest in
          let same = (before.reads honest).stays in
          let opened = found_open first now found.count c.in_ok-read_gate.field-0 same (gate_within c.args.version first now found.count found.records found.tag same before.counted (before.found honest)) (c.in_ok-read_gate.ensures.gate was) c.if-branch.true in
          let at = reached c.args.version first now c.args.len c.read_gate.new.piece found.count found.records found.tag same (c.requires.len honest).1 (c.in_ok-read_gate.ensures.held was) (before.found honest) in
          found_more c.args.version first.content found.count c.push.new.self.count found.records c.push.new.self.records found.tag c.push.new.self.tag slot.tag slot.entry (before.found honest) before.counted c.push.ensures.count
          c.push.ensures.records c.push.ensures.tag opened (c.in_ok-slot.ensures.slot first.content at);
      piece = λ honest.
          let was = before.honest ∙ honest in
          let has : HasPiece first.content found.count c.read_gate.new.piece = subst (λ (s : DiskState). HasPiece s.content found.count c.read_gate.new.piece) (before.reads honest).stays (c.in_ok-read_gate.ensures.held was) in
          subst (λ n. 0 < n % 256 → HasPiece first.content n c.read_gate.new.piece) (sym c.push.ensures.count) (piece_on first.content c.read_gate.new.piece found.count has);
    }

pub returns-clause-found : goal.returns-clause-found
returns-clause-found g c honest =
    let first = g.D.Disk.state c.args.disk.now in
    let before = c.loop-piece.invariant in
    let found = c.loop-piece.found in
    let was = before.honest ∙ honest in
    let same = (before.reads honest).stays in
    let shut = found_closed first (g.D.Disk.state c.loop-piece.disk) found.count c.in_ok-read_gate.field-0 same (gate_within c.args.version first (g.D.Disk.state c.loop-piece.disk) found.count found.records found.tag same before.counted (before.found honest)) (c.in_ok-read_gate.ensures.gate was) c.if-branch.false in
    found_all c.args.version found.version first.content found.count found.records found.tag before.version (before.found honest) before.counted (c.requires.key honest) shut
