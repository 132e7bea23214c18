use Rattle.std.proofs.Common.{arith, ap, ◌≡◌, ◌∙◌, ◌-◌, ◌+◌, ◌^◌}
use Rattle.lmots.specs.Hashes.{u32str}
use Rattle.lms.proofs.Numbers.{shift-or-zero, u32str-wrapped}
use Rattle.lms.proofs.nodes.Nodes.number.Goals as goal

pub returns : goal.returns
returns c =
    let above = c.saturating_sub-above.result in
    let is : above ≡ c.args.self.now.height - c.args.height = omega arith in
    u32str-wrapped (2 ^ above) _ c.args.index (c.unwrap_or-first.ensures ∙ shift-or-zero above _ c.checked_shl.ensures)
    ∙ ap (λ n. u32str (2 ^ n + c.args.index)) is
