-- Lines of answers: proofs of their laws.
use Rattle.std.proofs.Common.{arith, ap, sym, refl, inl, inr, ◌∙◌}
use Rattle.std.proofs.lemmas.Bool.{false≢true, or_right}
use Rattle.std.specs.Prelude.{ℕ, List, [], ◌∷◌, ◌++◌, Result, Ok, Err, ◌≡◌, ◌⊎◌, true, option_map}
use Rattle.key_audit.specs.Listing.{ListingLaw}
use Rattle.command.specs.declared.answer.Done.{Done}
use Rattle.command.specs.declared.answer.Done.TheVariants.{Audited, Checked, Listed, Migrated, Published, Retired}
use Rattle.command.specs.declared.answer.Done.TheVariants.{Described, Signed, Verified}
use Rattle.command.specs.declared.described.Described.TheVariants.{Public, LmsSignature, HssSignature, XmssSignature}
use Rattle.sign_core.specs.declared.key.AnyPublic.TheVariants.{Lms, Hss, Xmss}
use Rattle.command.specs.declared.refusal.Refusal.{Refusal}
use Rattle.command.specs.Answer.{answer_line, listing_lines}
use Rattle.command.specs.AnswerLaws.{AnswerLaws}
use Rattle.command.specs.LineFault.{BeginsWithCapital, IsHelp, has_lowercase_line}

line_is_lower : (answer : Result Done Refusal) → BeginsWithCapital (answer_line answer) → ⊥
line_is_lower (Ok Verified) capital = omega (arith, capital)
line_is_lower (Ok (Retired upto)) capital = omega (arith, capital)
line_is_lower (Ok (Published public)) capital = omega (arith, capital)
line_is_lower (Ok (Signed name size)) capital = omega (arith, capital)
line_is_lower (Ok (Audited public report)) capital = omega (arith, capital)
line_is_lower (Ok (Listed listing)) capital = omega (arith, capital)
line_is_lower (Ok (Described (Public (Lms key)) could_be)) capital = omega (arith, capital)
line_is_lower (Ok (Described (Public (Hss key)) could_be)) capital = omega (arith, capital)
line_is_lower (Ok (Described (Public (Xmss key)) could_be)) capital = omega (arith, capital)
line_is_lower (Ok (Described (LmsSignature pair leaf) could_be)) capital = omega (arith, capital)
line_is_lower (Ok (Described (HssSignature levels) could_be)) capital = omega (arith, capital)
line_is_lower (Ok (Described (XmssSignature tree leaf) could_be)) capital = omega (arith, capital)
line_is_lower (Ok (Checked count)) capital = omega (arith, capital)
line_is_lower (Ok (Migrated count)) capital = omega (arith, capital)
line_is_lower (Err refusal) capital = omega (arith, capital)

-- A text that begins with an answer's line has a line that begins with a lowercase letter,
line_is_lowercase : (answer : Result Done Refusal) (after : List ℕ)
    → has_lowercase_line 10 (answer_line answer ++ after) ≡ true
unfolding has_lowercase_line
line_is_lowercase (Ok Verified) after = refl
line_is_lowercase (Ok (Retired upto)) after = refl
line_is_lowercase (Ok (Published public)) after = refl
line_is_lowercase (Ok (Signed name size)) after = refl
line_is_lowercase (Ok (Audited public report)) after = refl
line_is_lowercase (Ok (Listed listing)) after = refl
line_is_lowercase (Ok (Described (Public (Lms key)) could_be)) after = refl
line_is_lowercase (Ok (Described (Public (Hss key)) could_be)) after = refl
line_is_lowercase (Ok (Described (Public (Xmss key)) could_be)) after = refl
line_is_lowercase (Ok (Described (LmsSignature pair leaf) could_be)) after = refl
line_is_lowercase (Ok (Described (HssSignature levels) could_be)) after = refl
line_is_lowercase (Ok (Described (XmssSignature tree leaf) could_be)) after = refl
line_is_lowercase (Ok (Checked count)) after = refl
line_is_lowercase (Ok (Migrated count)) after = refl
line_is_lowercase (Err refusal) after = refl

-- and so has one in which this stands after a line's end.
later_line : (byte : ℕ) (before line : List ℕ) → has_lowercase_line 10 line ≡ true
    → has_lowercase_line byte (before ++ 10 ∷ line) ≡ true
unfolding has_lowercase_line
later_line byte [] line lowercase = or_right _ _ lowercase
later_line byte (next ∷ before) line lowercase = or_right _ _ (later_line next before line lowercase)

-- So no line of help is an answer's line.
help_has_no_answer : (text before after : List ℕ) (answer : Result Done Refusal) → IsHelp text
    → (text ≡ answer_line answer ++ after) ⊎ (text ≡ before ++ 10 ∷ (answer_line answer ++ after)) → ⊥
help_has_no_answer text before after answer (capital, none) (inl first) =
    false≢true (sym none ∙ ap (has_lowercase_line 10) first ∙ line_is_lowercase answer after)
help_has_no_answer text before after answer (capital, none) (inr later) =
    false≢true (sym none ∙ ap (has_lowercase_line 10) later ∙ later_line 10 before _ (line_is_lowercase answer after))

pub laws : ListingLaw → AnswerLaws
laws law = record {
  lower = line_is_lower;
  help = help_has_no_answer;
  listing = λ a b behind same. ap (option_map (λ shown. listing_lines shown behind)) (law a b same);
}
