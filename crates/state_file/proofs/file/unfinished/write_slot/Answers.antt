use Rattle.std.proofs.Common.{ℕ, List, ◌*◌, ◌∷◌, ◌++◌, length, length-drop, ap, ◌∙◌, arith}
use Rattle.state_file.proofs.Adding.{block_size}
use Rattle.state_file.proofs.Filling.{put_first, put_next}
use Rattle.state_file.proofs.Moments.{ok_along}
use Rattle.state_file.specs.File.{open_value}
use Rattle.state_file.specs.inner.Filling.{gate_opened}
use Rattle.state_file.specs.Gates.{IsClosedAfter}
use Rattle.state_file.proofs.file.unfinished.write_slot.Goals as goal

pub returns-then-k-eq0-clause-first : goal.returns-then-k-eq0-clause-first
returns-then-k-eq0-clause-first g c zero honest closed =
    let body = c.args.fields.now ++ c.args.tag.now in
    let content = (g.E.Disk.state c.args.disk.now).content in
    let new = (g.E.Disk.state c.write_after.new.disk).content in
    ok_along c.write_after.result _ (IsClosedAfter (open_value ∷ body) (gate_opened new)) (λ written. put_first body content new c.block-block.result closed c.block-block.ensures.bytes written.0 written.1) (c.write_after.ensures.written honest)

pub returns-then-k-eq0-clause-keeps : goal.returns-then-k-eq0-clause-keeps
returns-then-k-eq0-clause-keeps g c end base honest fits unfinished =
    let size = block_size (c.args.fields.now ++ c.args.tag.now) c.block-block.result c.block-block.ensures.body c.block-block.ensures.bytes in
    c.write_after.ensures.keeps end base honest (omega (arith, size, fits)) unfinished

pub returns-then-k-eq0-clause-any_moment : goal.returns-then-k-eq0-clause-any_moment
returns-then-k-eq0-clause-any_moment g c end base honest fits unfinished =
    let size = block_size (c.args.fields.now ++ c.args.tag.now) c.block-block.result c.block-block.ensures.body c.block-block.ensures.bytes in
    c.write_after.ensures.any_moment end base honest (omega (arith, size, fits)) unfinished

pub returns-else-k-eq0-clause-keeps : goal.returns-else-k-eq0-clause-keeps
returns-else-k-eq0-clause-keeps g c end base honest fits unfinished =
    let size = block_size (c.args.fields.now ++ c.args.tag.now) c.block-block.result c.block-block.ensures.body c.block-block.ensures.bytes in
    c.write_after-else-k-eq0.ensures.keeps end base honest (omega (arith, size, ap length c.gated.ensures, c.from.ensures, fits)) unfinished

pub returns-else-k-eq0-clause-any_moment : goal.returns-else-k-eq0-clause-any_moment
returns-else-k-eq0-clause-any_moment g c end base honest fits unfinished =
    let size = block_size (c.args.fields.now ++ c.args.tag.now) c.block-block.result c.block-block.ensures.body c.block-block.ensures.bytes in
    c.write_after-else-k-eq0.ensures.any_moment end base honest (omega (arith, size, ap length c.gated.ensures, c.from.ensures, fits)) unfinished

pub returns-else-k-eq0-clause-next : goal.returns-else-k-eq0-clause-next
returns-else-k-eq0-clause-next g c front after honest len holds =
    let body = c.args.fields.now ++ c.args.tag.now in
    let content = (g.E.Disk.state c.args.disk.now).content in
    let new = (g.E.Disk.state c.write_after-else-k-eq0.new.disk).content in
    let is = c.gated.ensures ∙ ap (λ (l : List ℕ). open_value ∷ l) c.block-block.ensures.bytes in
    ok_along c.write_after-else-k-eq0.result _ (IsClosedAfter (front ++ open_value ∷ body) (gate_opened new))
    (λ written. put_next front body content new c.gated.result (256 * c.from.result) (omega (arith, after, c.from.ensures)) (omega (arith, len, c.from.ensures)) holds (omega (arith, after, len, holds.closed.0, length-drop 1 content)) is written.0 written.1) (c.write_after-else-k-eq0.ensures.written honest)
