use Rattle.winternitz.proofs.lanes.rounds.steps_from_five.Goals as goal

pub returns : goal.returns
returns c = λ j low b h window five.
    let six = c.first_step-working.ensures j low b h window five in
    let seven = c.first_step-working-2.ensures j low b h window six in
    let eight = c.first_step-working-3.ensures j low b h window seven in
    let twelve = c.first_four_steps-working.ensures j low b h window eight in
    c.first_four_steps.ensures j low b h window twelve
