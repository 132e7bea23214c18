use Rattle.std.proofs.Common.{refl, sym}
use Rattle.sha2.proofs.Schedule256.{rounds_first}
use Rattle.winternitz.specs.Lanes.{lane, lane_state}
use Rattle.winternitz.proofs.Vectors.{slice_index-lane}
use Rattle.winternitz.proofs.lanes.rounds.first_step.Goals as goal

pub returns : goal.returns
returns c = λ j low b h window before.
    rounds_first b h (lane j c.args.window.now) (lane_state c.args.working j) c.args.t _ _ _ c.requires window before refl
    (sym (slice_index-lane c.args.window.now j c.args.t)) (c.round.ensures j low)
