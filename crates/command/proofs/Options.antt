-- Lines with options, as help shows them: of `make`, `sign`, `serve` and `audit`.
use Rattle.std.proofs.Common.{◌≡◌, ◌∙◌, ℕ, List, [], ◌∷◌, ◌++◌, Option, Ok, Some, None, false, length, refl, codes, ap, subst, sym, inl, inr}
use Rattle.clap.specs.Faults.{settle_fault, turn_fault}
use Rattle.clap.specs.Kinds.{or_else}
use Rattle.clap.specs.Simple.{Shape}
use Rattle.clap.specs.Walk.{Held, Walk, nothing_held, option, settled, walked}
use Rattle.clap.specs.Words.{App, Text}
use Rattle.clap.proofs.OnLiterals.{clap_on_literals}
use Rattle.key_audit.specs.declared.report.Anchor.{Anchor}
use Rattle.state_file.specs.declared.record.Version.{Version}
use Rattle.state_file.specs.declared.record.Version.TheVariants.{Two}
use Rattle.command.specs.Argument.{default_random}
use Rattle.command.specs.Audit.{audit_app}
use Rattle.command.specs.Line.{ArePlainWords, FindsTask, IsAuditLine, IsFormattedLine, IsLineWithOption, IsMakeLine, IsPlainWord, Task, audit, make, make_formatted, serve, sign}
use Rattle.command.specs.Make.{make_app}
use Rattle.command.specs.Number.{continued_number}
use Rattle.command.specs.Serve.{serve_app}
use Rattle.command.specs.Sign.{sign_app}
use Rattle.command.proofs.Commands.{audit_command, make_command, serve_command, sign_command}
use Rattle.command.proofs.Walking.{Command, Finds, Goes, after_plain, at, end_fault, finds_values, finds_walk, goes, goes_on, held_after, over_values, place_after, plain_taken, plain_turn, requested, shape, stays, takes_awaited, waits_at}

-- what is held after an option with its value
abbrev pub with_option : Shape → (id value : Text) → Held → Held
with_option s id value h = record (settled s.rules h) { pending = Some (id, value ∷ []) }

-- The command takes this word for an option, which then waits for one value.
pub record HasOption (s : Shape) (word id : Text) : Type 0 where
  pub waits : (h : Held) (position : ℕ)
      → walked s.rules [] (at false h position) word ≡ waits_at (option id) false (record (settled s.rules h) { pending = Some (id, []) }) position
  pub well : (h : Held) (position : ℕ)
      → turn_fault s [] (at false h position) word ≡ or_else (settle_fault s.rules s.args_override_self h) []
  pub takes : (h : Held) (position : ℕ) (value : Text)
      → after_plain s (waits_at (option id) false (record (settled s.rules h) { pending = Some (id, []) }) position) value
      ≡ at false (with_option s id value h) position

over_option : (s : Shape) (word id : Text) (h : Held) (position : ℕ) (value : Text) (more : List Text) (to : Walk) → HasOption s word id
    → settle_fault s.rules s.args_override_self h ≡ [] → IsPlainWord value
    → Goes s (at false (with_option s id value h) position) more to → Goes s (at false h position) (word ∷ value ∷ more) to
over_option s word id h position value more to has settles plain rest =
    let opened = record (settled s.rules h) { pending = Some (id, []) } in
    let (walks, turns) = plain_turn s (option id) opened position value plain in
    goes s (at false h position) (waits_at (option id) false opened position) to word (value ∷ more) (has.waits h position) (has.well h position ∙ ap (λ k. or_else k []) settles)
    (goes s (waits_at (option id) false opened position) (at false (with_option s id value h) position) to value more (walks ∙ has.takes h position value) turns rest)

last_option : (s : Shape) (word id : Text) (h : Held) (position : ℕ) (value : Text) → HasOption s word id
    → settle_fault s.rules s.args_override_self h ≡ [] → IsPlainWord value
    → Goes s (at false h position) (word ∷ value ∷ []) (at false (with_option s id value h) position)
last_option s word id h position value has settles plain = over_option s word id h position value [] _ has settles plain (stays s _ _ refl)

-- what is found after the command's values and more
finds_more : (app : App) (values more : List Text) (to : Walk) → Command app (length values) → (words : List Text)
    → words ≡ app.top.name ∷ (values ++ more) → ArePlainWords values
    → Goes (shape app) (at false (held_after app values) (place_after 1 values)) more to → end_fault (shape app) to.held ≡ [] → Finds words (requested app to.held)
finds_more app values more to command words same plain rest ends =
    finds_walk app words (values ++ more) to command.enters same
    (goes_on (shape app) _ _ to values more (over_values (shape app) false 1 nothing_held values (takes_awaited (shape app) (length values) 1 nothing_held command.waits) (plain_taken values plain)) rest) ends

-- ---- `--random`

-- A command takes it after these values: its task without it, and with it.
pub record TakesRandom (app : App) (values : List Text) (task : Text → Task) : Type 0 where
  pub command : Command app (length values)
  pub has : HasOption (shape app) (codes "--random") (codes "random")
  pub settles : settle_fault (shape app).rules (shape app).args_override_self (held_after app values) ≡ []
  pub without : requested app (held_after app values) ≡ Ok (task default_random)
  pub ends : (random : Text) → end_fault (shape app) (with_option (shape app) (codes "random") random (held_after app values)) ≡ []
  pub given : (random : Text) → requested app (with_option (shape app) (codes "random") random (held_after app values)) ≡ Ok (task random)

finds_random : (app : App) (values : List Text) (task : Text → Task) → TakesRandom app values task → (words : List Text) (random : Text)
    → IsLineWithOption words app.top.name values random → FindsTask words (task random)
finds_random app values task takes words random (inl (line, same)) =
    let (none, found) = finds_values app values takes.command words line in
    (none, found ∙ takes.without ∙ ap (λ r. Ok (task r)) (sym same))
finds_random app values task takes words random (inr (same, plain, file)) =
    let rest = last_option (shape app) (codes "--random") (codes "random") (held_after app values) (place_after 1 values) random takes.has takes.settles file in
    let (none, found) = finds_more app values (codes "--random" ∷ random ∷ []) _ takes.command words same plain rest (takes.ends random) in
    (none, found ∙ takes.given random)

sign_random : HasOption (shape sign_app) (codes "--random") (codes "random")
unfolding clap_on_literals walked
sign_random = record { waits = λ h position. refl; well = λ h position. refl; takes = λ h position value. refl }

pub finds_sign : (words : List Text) (state name message out random : Text)
    → IsLineWithOption words (codes "sign") (state ∷ name ∷ message ∷ out ∷ []) random → FindsTask words (sign state name message out random)
unfolding clap_on_literals
finds_sign words state name message out random = finds_random sign_app (state ∷ name ∷ message ∷ out ∷ []) (sign state name message out)
    (record { command = sign_command; has = sign_random; settles = refl; without = refl; ends = λ r. refl; given = λ r. refl }) words random

serve_random : HasOption (shape serve_app) (codes "--random") (codes "random")
unfolding clap_on_literals walked
serve_random = record { waits = λ h position. refl; well = λ h position. refl; takes = λ h position value. refl }

pub finds_serve : (words : List Text) (state random : Text) → IsLineWithOption words (codes "serve") (state ∷ []) random
    → FindsTask words (serve state random)
unfolding clap_on_literals
finds_serve words state random = finds_random serve_app (state ∷ []) (serve state)
    (record { command = serve_command; has = serve_random; settles = refl; without = refl; ends = λ r. refl; given = λ r. refl }) words random

make_random : HasOption (shape make_app) (codes "--random") (codes "random")
unfolding clap_on_literals walked
make_random = record { waits = λ h position. refl; well = λ h position. refl; takes = λ h position value. refl }

finds_version_two : (words : List Text) (state public spec random : Text)
    → IsLineWithOption words (codes "make") (state ∷ public ∷ spec ∷ []) random → FindsTask words (make state public spec Two random)
unfolding clap_on_literals continued_number
finds_version_two words state public spec random = finds_random make_app (state ∷ public ∷ spec ∷ []) (make state public spec Two)
    (record { command = make_command; has = make_random; settles = refl; without = refl; ends = λ r. refl; given = λ r. refl }) words random

-- ---- `--format`

make_format : HasOption (shape make_app) (codes "--format") (codes "format")
unfolding clap_on_literals walked
make_format = record { waits = λ h position. refl; well = λ h position. refl; takes = λ h position value. refl }

finds_formatted : (words : List Text) (state public spec : Text) (version : Version) (random : Text) → IsFormattedLine words state public spec version random
    → FindsTask words (make state public spec version random)
unfolding clap_on_literals
finds_formatted words state public spec version random line =
    let s = shape make_app in
    let values : List Text = state ∷ public ∷ spec ∷ [] in
    let held = held_after make_app values in
    let formatted = with_option s (codes "format") line.format held in
    let given = with_option s (codes "random") random formatted in
    let (plain_state, (plain_public, (plain_spec, (plain_format, (plain_random, rest))))) = line.plain in
    let plain : ArePlainWords values = (plain_state, (plain_public, (plain_spec, tt))) in
    elim line.words_are [
      | inl (same, default) ↦
          let walk = last_option s (codes "--format") (codes "format") held 4 line.format make_format refl plain_format in
          let (none, found) = finds_more make_app values (codes "--format" ∷ line.format ∷ []) (at false formatted 4) make_command words same plain walk refl in
          (none, found ∙ ap (λ v. make_formatted state public spec v default_random) line.format_is ∙ ap (λ r. Ok (make state public spec version r)) (sym default))
      | inr same ↦
          let last = last_option s (codes "--random") (codes "random") formatted 4 random make_random refl plain_random in
          let walk = over_option s (codes "--format") (codes "format") held 4 line.format (codes "--random" ∷ random ∷ []) (at false given 4) make_format refl plain_format last in
          let (none, found) = finds_more make_app values (codes "--format" ∷ line.format ∷ codes "--random" ∷ random ∷ []) (at false given 4) make_command words same plain walk refl in
          (none, found ∙ ap (λ v. make_formatted state public spec v random) line.format_is)
    ]

pub finds_make : (words : List Text) (state public spec : Text) (version : Version) (random : Text) → IsMakeLine words state public spec version random
    → FindsTask words (make state public spec version random)
finds_make words state public spec version random (inl (two, line)) =
    subst (λ v. FindsTask words (make state public spec v random)) (sym two) (finds_version_two words state public spec random line)
finds_make words state public spec version random (inr line) = finds_formatted words state public spec version random line

-- ---- `--count` and `--tag`

audit_count : HasOption (shape audit_app) (codes "--count") (codes "count")
unfolding clap_on_literals walked
audit_count = record { waits = λ h position. refl; well = λ h position. refl; takes = λ h position value. refl }

audit_tag : HasOption (shape audit_app) (codes "--tag") (codes "tag")
unfolding clap_on_literals walked
audit_tag = record { waits = λ h position. refl; well = λ h position. refl; takes = λ h position value. refl }

pub finds_audit : (words : List Text) (state : Text) (anchor : Option Anchor) → IsAuditLine words state anchor → FindsTask words (audit state anchor)
unfolding clap_on_literals
finds_audit words state None line = finds_values audit_app (state ∷ []) audit_command words line
finds_audit words state (Some anchor) line =
    let s = shape audit_app in
    let held = held_after audit_app (state ∷ []) in
    let counted = with_option s (codes "count") line.count held in
    let given = with_option s (codes "tag") line.tag counted in
    let (plain, (plain_count, (plain_tag, rest))) = line.plain in
    let last = last_option s (codes "--tag") (codes "tag") counted 2 line.tag audit_tag refl plain_tag in
    let walk = over_option s (codes "--count") (codes "count") held 2 line.count (codes "--tag" ∷ line.tag ∷ []) (at false given 2) audit_count refl plain_count last in
    let (none, found) = finds_more audit_app (state ∷ []) (codes "--count" ∷ line.count ∷ codes "--tag" ∷ line.tag ∷ []) (at false given 2) audit_command words line.words_are (plain, tt) walk refl in
    (none, found ∙ rw (line.count_is, line.tag_is) refl)
