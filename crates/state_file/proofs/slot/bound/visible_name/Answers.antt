use Rattle.std.proofs.Common.{◌≡◌, ℕ, List, Option, true, false, subst, sym}
use Rattle.std.specs.Prelude.{MatchOption}
use Rattle.state_file.specs.Slot.{are_visible}
use Rattle.state_file.proofs.Visible.{visible_or_not}
use Rattle.state_file.proofs.slot.bound.visible_name.Goals as goal

pub returns : goal.returns
returns c =
    let bytes = c.args.bytes.now in
    let Reports : Option (List ℕ) → Type 0 = λ made. MatchOption made (are_visible bytes ≡ false) (λ name. (are_visible bytes ≡ true) × (name ≡ bytes)) in
    subst Reports (sym c.ok.ensures.value) (visible_or_not bytes c.new.result c.requires.non_empty c.requires.at_most_128 c.new.ensures.ok c.new.ensures.value)
