use Rattle.std.proofs.Common.{◌≡◌, ◌∙◌, ap, Option, List, ℕ}
use Rattle.command.specs.declared.described.SignedLevel.{SignedLevel}
use Rattle.typecodes.specs.declared.types.LmsPair.{LmsPair}
use Rattle.command.proofs.described.level_of.Goals as goal

same_level : (p q : LmsPair) (a b : ℕ) (x y : Option (List ℕ)) → p ≡ q → a ≡ b → x ≡ y
    → ◌≡◌ {A = SignedLevel} (record { pair = p; leaf = a; identifier = x }) (record { pair = q; leaf = b; identifier = y })
same_level p q a b x y pairs leaves identifiers = λ j. record { pair = pairs j; leaf = leaves j; identifier = identifiers j }

pub returns : goal.returns
returns c =
    same_level _ _ _ _ _ _ (c.types.ensures ∙ ap (λ s. s.pair) c.level-level.ensures.value) (c.index.ensures.value ∙ ap (λ s. s.q) c.level-level.ensures.value)
    c.carried_identifier.ensures
