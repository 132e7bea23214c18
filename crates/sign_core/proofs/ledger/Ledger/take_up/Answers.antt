use Rattle.std.proofs.Common.{rules, ◌≡◌, ◌∙◌, ◌++◌, ◌∷◌, [], Some, true, ap, subst, arith}
use Rattle.sign_core.specs.Records.{can_follow}
use Rattle.sign_core.specs.inner.Ledger.{Grows}
use Rattle.sign_core.proofs.ledger.Ledger.take_up.Goals as goal

pub returns : goal.returns
returns c =
    let follows : can_follow (Some c.args.self.now.key) c.args.self.now.records c.args.entry.now ≡ true = search rules in
    let grows = subst (λ e. Grows e c.make_room.new.self c.push.new.self) c.copied.ensures c.push.ensures.grows in
    let room = c.in_ok-make_room.ensures in (
      follows,
      record {
        key = grows.key ∙ room.stays.key;
        records = grows.records ∙ ap (λ l. l ++ c.args.entry.now ∷ []) room.stays.records;
        spare = omega (arith, grows.spare, room.stays.spare);
        untaken = λ none. grows.untaken none ∙ room.untaken none;
      },
    )
