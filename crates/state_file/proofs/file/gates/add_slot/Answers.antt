use Rattle.std.proofs.Common.{◌≡◌, ◌⊎◌, inl, ℕ, ◌*◌, [], ◌∷◌, ◌++◌, length, ◌∙◌, subst, arith}
use Rattle.state_file.specs.Disk.{ChangesOnly}
use Rattle.state_file.specs.File.{open_value}
use Rattle.state_file.specs.Gates.{AddsSlot, IsClosedAfter, IsAtRest, slot_and_gate}
use Rattle.state_file.proofs.Adding.{block_size, both_stay, first_stays, slot_added}
use Rattle.state_file.proofs.Moments.{weaker, combined, ok_along}
use Rattle.state_file.proofs.SlotWrites.{stage_leaves, stage_done, gate_leaves, gate_done}
use Rattle.state_file.proofs.file.gates.add_slot.Goals as goal

pub returns-in_err-write_synced-clause-any_moment : goal.returns-in_err-write_synced-clause-any_moment
returns-in_err-write_synced-clause-any_moment g c front honest rest size =
    let len : length front ≡ 256 * c.from-gate.result = omega arith in
    weaker g.D.Disk.moment g.D.Disk.left_since c.args.disk.now c.write_synced.new.disk _ _
    (λ left changes. inl (stage_leaves front (c.args.fields.now ++ c.args.tag.now) (256 * c.from-gate.result) len (g.D.Disk.state c.args.disk.now).content left c.block.result rest.ends changes))
    (c.write_synced.ensures.any_moment honest rest.synced)

pub returns-clause-added : goal.returns-clause-added
returns-clause-added g c front honest rest size =
    let len : length front ≡ 256 * c.from-gate.result = omega arith in
    let written = c.in_ok-write_synced.ensures.written honest in
    let staged = stage_done front (c.args.fields.now ++ c.args.tag.now) (256 * c.from-gate.result) len (g.D.Disk.state c.args.disk.now).content (g.D.Disk.state c.write_synced.new.disk).content c.block.result
    rest.ends c.block.ensures.bytes written.1 written.2 in
    ok_along c.write_synced-2.result _ (IsAtRest (front ++ open_value ∷ (c.args.fields.now ++ c.args.tag.now)) (g.D.Disk.state c.write_synced-2.new.disk))
    (λ done. record {
      synced = done.0;
      ends = gate_done front (c.args.fields.now ++ c.args.tag.now) (256 * c.from-gate.result) len (g.D.Disk.state c.write_synced.new.disk).content (g.D.Disk.state c.write_synced-2.new.disk).content staged done.1 done.2;
    })
    (c.write_synced-2.ensures.written (c.write_synced.ensures.counts.honest ∙ honest))

pub returns-clause-any_moment : goal.returns-clause-any_moment
returns-clause-any_moment g c front honest rest size =
    let len : length front ≡ 256 * c.from-gate.result = omega arith in
    let first =
    weaker g.D.Disk.moment g.D.Disk.left_since c.args.disk.now c.write_synced.new.disk _ (λ left. IsClosedAfter front left ⊎ IsClosedAfter (front ++ open_value ∷ (c.args.fields.now ++ c.args.tag.now)) left)
    (λ left changes. inl (stage_leaves front (c.args.fields.now ++ c.args.tag.now) (256 * c.from-gate.result) len (g.D.Disk.state c.args.disk.now).content left c.block.result rest.ends changes))
    (c.write_synced.ensures.any_moment honest rest.synced) in
    let written = c.in_ok-write_synced.ensures.written honest in
    let staged = stage_done front (c.args.fields.now ++ c.args.tag.now) (256 * c.from-gate.result) len (g.D.Disk.state c.args.disk.now).content (g.D.Disk.state c.write_synced.new.disk).content c.block.result
    rest.ends c.block.ensures.bytes written.1 written.2 in
    let second =
    weaker g.D.Disk.moment g.D.Disk.left_since c.write_synced.new.disk c.write_synced-2.new.disk _ (λ left. IsClosedAfter front left ⊎ IsClosedAfter (front ++ open_value ∷ (c.args.fields.now ++ c.args.tag.now)) left)
    (λ left changes. gate_leaves front (c.args.fields.now ++ c.args.tag.now) (256 * c.from-gate.result) len (g.D.Disk.state c.write_synced.new.disk).content left staged changes)
    (c.write_synced-2.ensures.any_moment (c.write_synced.ensures.counts.honest ∙ honest) written.0) in
    combined g.D.Disk.moment g.D.Disk.left_since c.args.disk.now c.write_synced.new.disk c.write_synced-2.new.disk _ first second

pub returns-clause-adds : goal.returns-clause-adds
returns-clause-adds g c honest =
    let content = (g.D.Disk.state c.args.disk.now).content in
    let mid = (g.D.Disk.state c.write_synced.new.disk).content in
    let after = g.D.Disk.state c.write_synced-2.new.disk in
    let same : c.from-gate.result ≡ c.args.slot = omega arith in
    let written = c.in_ok-write_synced.ensures.written honest in
    ok_along c.write_synced-2.result _ (AddsSlot c.args.slot content after)
    (λ done. subst (λ (n : ℕ). AddsSlot n content after) same
    (slot_added c.from-gate.result (c.args.fields.now ++ c.args.tag.now) c.block.result content mid after c.block.ensures.body c.block.ensures.bytes written.1 written.2 done.0 done.1))
    (c.write_synced-2.ensures.written (c.write_synced.ensures.counts.honest ∙ honest))

pub returns-in_err-write_synced-clause-bytes : goal.returns-in_err-write_synced-clause-bytes
returns-in_err-write_synced-clause-bytes g c honest synced =
    let content = (g.D.Disk.state c.args.disk.now).content in
    let same : c.from-gate.result ≡ c.args.slot = omega arith in
    let size = block_size (c.args.fields.now ++ c.args.tag.now) c.block.result c.block.ensures.body c.block.ensures.bytes in
    weaker g.D.Disk.moment g.D.Disk.left_since c.args.disk.now c.write_synced.new.disk _ (ChangesOnly (slot_and_gate c.args.slot ∷ []) content)
    (λ left changes. subst (λ (n : ℕ). ChangesOnly (slot_and_gate n ∷ []) content left) same (first_stays c.from-gate.result c.block.result content left size changes))
    (c.write_synced.ensures.any_moment honest synced)

pub returns-clause-bytes : goal.returns-clause-bytes
returns-clause-bytes g c honest synced =
    let content = (g.D.Disk.state c.args.disk.now).content in
    let mid = (g.D.Disk.state c.write_synced.new.disk).content in
    let within = ChangesOnly (slot_and_gate c.args.slot ∷ []) content in
    let same : c.from-gate.result ≡ c.args.slot = omega arith in
    let size = block_size (c.args.fields.now ++ c.args.tag.now) c.block.result c.block.ensures.body c.block.ensures.bytes in
    let written = c.in_ok-write_synced.ensures.written honest in
    let first =
    weaker g.D.Disk.moment g.D.Disk.left_since c.args.disk.now c.write_synced.new.disk _ within
    (λ left changes. subst (λ (n : ℕ). ChangesOnly (slot_and_gate n ∷ []) content left) same (first_stays c.from-gate.result c.block.result content left size changes))
    (c.write_synced.ensures.any_moment honest synced) in
    let second =
    weaker g.D.Disk.moment g.D.Disk.left_since c.write_synced.new.disk c.write_synced-2.new.disk _ within
    (λ left changes. subst (λ (n : ℕ). ChangesOnly (slot_and_gate n ∷ []) content left) same (both_stay c.from-gate.result c.block.result content mid left size written.1 changes))
    (c.write_synced-2.ensures.any_moment (c.write_synced.ensures.counts.honest ∙ honest) written.0) in
    combined g.D.Disk.moment g.D.Disk.left_since c.args.disk.now c.write_synced.new.disk c.write_synced-2.new.disk _ first second
