-- Laws of the lines that answers print: none is a line of help, and nothing secret is listed.
use Rattle.std.specs.Prelude.{ℕ, List, ◌∷◌, ◌++◌, Option, Result, ◌≡◌, ◌⊎◌, map, option_map}
use Rattle.key_audit.specs.Listing.{shown_of_records, without_secret}
use Rattle.state_file.specs.declared.record.Record.{Record}
use Rattle.command.specs.declared.answer.Done.{Done}
use Rattle.command.specs.declared.refusal.Refusal.{Refusal}
use Rattle.command.specs.Answer.{answer_line, listing_lines}
use Rattle.command.specs.LineFault.{BeginsWithCapital, IsHelp}

-- the listing of records, with bytes behind the last one or without; None without a key
abbrev pub listed_lines : List Record → (behind : Option ℕ) → Option (List ℕ)
listed_lines records behind = option_map (λ shown. listing_lines shown behind) (shown_of_records records)

pub record AnswerLaws : Type 0 where
  -- no answer's line begins with a capital letter
  pub lower : (answer : Result Done Refusal) → BeginsWithCapital (answer_line answer) → ⊥
  -- no line of help is an answer's line, neither its first nor a later one
  pub help : (text before after : List ℕ) (answer : Result Done Refusal) → IsHelp text
      → (text ≡ answer_line answer ++ after) ⊎ (text ≡ before ++ 10 ∷ (answer_line answer ++ after)) → ⊥
  -- two lists of records that differ only in secrets have the same lines
  pub listing : (a b : List Record) (behind : Option ℕ) → map without_secret a ≡ map without_secret b
      → listed_lines a behind ≡ listed_lines b behind
