-- What `clap` accepts: each line without a fault is one of a command.
use Rattle.std.proofs.Common.{◌≡◌, ◌≢◌, ◌||◌, ◌∙◌, ◌⊎◌, ◌+◌, ℕ, zero, suc, Bool, List, [], ◌∷◌, Option, Result, Ok, Some, None, true, false, refl, codes, length, ap, subst, sym, inl, inr, find, fold, option_map}
use Rattle.std.specs.Prelude.{unwrap_or}
use Rattle.std.specs.List.{list_all}
use Rattle.std.specs.Option.{option_map_or}
use Rattle.std.specs.Str.{IsUtf8, bytes_eq}
use Rattle.std.proofs.Math.Bool.{or-false}
use Rattle.std.proofs.lemmas.Bool.{cases_Bool, false≢true}
use Rattle.std.proofs.lemmas.Result.{IfOk-at_ok}
use Rattle.std.proofs.lemmas.Slice.Eq.{bytes_eq-Decides}
use Rattle.clap.specs.Faults.{other_fault, positional_fault, stray_fault, step_fault, turn_fault, walk_fault}
use Rattle.clap.specs.Kinds.{Kinds, or_else}
use Rattle.clap.specs.Simple.{Shape, entered, label_of, names_of, rows_at}
use Rattle.clap.specs.Walk.{Held, Names, Step, Walk, answers_to, idle, nothing_held, subcommand_met, subcommand_or_other, walked, walk_from}
use Rattle.clap.specs.Words.{App, Rule, Text, fault_of, subcommand_of}
use Rattle.clap.proofs.OnLiterals.{clap_on_literals}
use Rattle.clap.proofs.WalkLemmas.{both}
use Rattle.command.specs.Line.{AreTexts, FindsTask, GivesValues, IsCommandLine, IsLineOf, IsPlainWord, Task, audit, audit_given, hbsign_app, list, make, migrate, publish, retire, retire_number, serve, sign, task_found, verify}
use Rattle.command.specs.ListState.{list_app}
use Rattle.command.specs.Migrate.{migrate_app}
use Rattle.command.specs.Public.{public_app}
use Rattle.command.specs.Retire.{most_leaves, retire_app}
use Rattle.command.specs.Verify.{verify_app}
use Rattle.command.specs.LineFault.{usage_faults, line_faults}
use Rattle.command.specs.Number.{decimal_number}
use Rattle.command.proofs.Commands.{enters_list, finds_task, list_offers, list_takes_both, list_takes_file, list_wants_file, migrate_command, public_command, retire_command, verify_command}
use Rattle.command.proofs.Flags.{IsOption, all_ask, else_none, option_fails, word_is}
use Rattle.command.proofs.Naming.{is_named, name_of}
use Rattle.command.proofs.Walking.{Command, Enters, IsTaken, Offers, Takes, Waits, after_value, at, end_fault, entered_faults, finds_taken, finds_values, held_after, line_walk, none_of, not_wanted, plain_met, requested, shape, skips, stopped_at, taken, takes_value, takes_wanted, value_turn, wanted, wants_value, whole}

-- ---- the words of a command

-- no fault in the words from here on, nor at their end
abbrev Passes : Shape → Walk → List Text → Type 0
Passes s w words = (walk_fault s [] w words ≡ []) × (end_fault s (fold (walked s.rules []) w words).held ≡ [])

passes_on : (s : Shape) (w : Walk) (word : Text) (words : List Text) → Passes s w (word ∷ words)
    → (turn_fault s [] w word ≡ []) × Passes s (walked s.rules [] w word) words
unfolding walk_fault
passes_on s w word words (walks, ends) =
    let (turn, rest) = none_of (turn_fault s [] w word) (walk_fault s [] (walked s.rules [] w word) words) walks in (turn, (rest, ends))

-- Before `--`, a word that looks like an option is refused.
option_stops : (s : Shape) (position : ℕ) (word : Text) (h : Held) → all_ask s.rules ≡ true → h.skip ≡ 0 → IsUtf8 word
    → IsOption word → turn_fault s [] (at false h position) word ≢ []
option_stops s position word h asks skip text option none =
    elim (cases_Bool (bytes_eq word (45 ∷ 45 ∷ []))) [
      | inl same ↦ option.3 ((bytes_eq-Decides word (45 ∷ 45 ∷ [])).0 same)
      | inr differs ↦ option_fails s.rules s.args_override_self word h asks skip text option
          (else_none _ [] _ differs (none_of _ _ none).0)
    ]

past_hyphens : (s : Shape) (h : Held) (position : ℕ) (word : Text) (words : List Text) → word ≡ 45 ∷ 45 ∷ []
    → Passes s (at false h position) (word ∷ words) → Passes s (at true h position) words
unfolding walked
past_hyphens s h position word words hyphens passes =
    (passes_on s (at false h position) (45 ∷ 45 ∷ []) words (subst (λ w. Passes s (at false h position) (w ∷ words)) hyphens passes)).1

past_value : (s : Shape) (b : Bool) (n position : ℕ) (h : Held) (word : Text) (words : List Text) → Waits s (suc n) position h → IsTaken b word
    → Passes s (at b h position) (word ∷ words) → Passes s (at b (after_value s position word h) (position + 1)) words
past_value s b n position h word words (skip, wants, waits) taken passes =
    subst (λ (to : Walk). Passes s to words)
    ((value_turn s b h position word taken).0 ∙ (wanted s b position h word wants).0) (passes_on s (at b h position) word words passes).1

-- The line can't end before the last value, and no word comes after it.
misses : (s : Shape) (b : Bool) (n position : ℕ) (h : Held) → Waits s (suc n) position h → Passes s (at b h position) [] → ⊥
misses s b n position h (skip, wants, waits) passes = (wanted s b position h [] wants).2 passes.1

strays : (s : Shape) → stray_fault s ≢ []
strays s none = elim (cases_Bool s.is_leaf) [
  | inl leaf ↦ (let fault = rw leaf at none in cc)
  | inr other ↦ (let fault = rw other at none in cc)
]

is_full : (s : Shape) (b : Bool) (position : ℕ) (h : Held) (word : Text) (words : List Text) → Waits s zero position h → IsTaken b word
    → Passes s (at b h position) (word ∷ words) → ⊥
is_full s b position h word words (skip, wants) taken passes =
    let turn = sym (value_turn s b h position word taken).1 ∙ (passes_on s (at b h position) word words passes).0 in
    strays s (subst (λ (rule : Option Rule). option_map_or (λ a. positional_fault s.rules s.args_override_self a h) rule (stray_fault s) ≡ [])
    (not_wanted s position h wants).0 turn)

-- After `--` the words are the values that are still missing.
rest_given : (s : Shape) (n position : ℕ) (h : Held) (words : List Text) → Waits s n position h → Passes s (at true h position) words
    → length words ≡ n
rest_given s zero position h [] waits passes = refl
rest_given s zero position h (word ∷ words) waits passes = absurd (is_full s true position h word words waits tt passes)
rest_given s (suc n) position h [] waits passes = absurd (misses s true n position h waits passes)
rest_given s (suc n) position h (word ∷ words) waits passes =
    ap suc (rest_given s n (position + 1) (after_value s position word h) words (waits.2 word) (past_value s true n position h word words waits tt passes))

gives_more : (word : Text) (words values : List Text) → IsPlainWord word → GivesValues words values
    → GivesValues (word ∷ words) (word ∷ values)
gives_more word words values plain (inl (same, are)) = inl (ap (λ l. word ∷ l) same, (plain, are))
gives_more word words values plain (inr (before, after, same, given, are)) =
    inr (word ∷ before, after, ap (λ l. word ∷ l) same, ap (λ l. word ∷ l) given, (plain, are))

-- Before `--` the words give the values that are still missing.
abbrev Gives : ℕ → List Text → Type 0
Gives n words = (values : List Text) × (length values ≡ n) × GivesValues words values

not_plain : (s : Shape) (n position : ℕ) (h : Held) (word : Text) (words : List Text) → all_ask s.rules ≡ true → Waits s n position h
    → IsUtf8 word → Passes s (at false h position) (word ∷ words) → (word ≡ 45 ∷ 45 ∷ []) ⊎ IsOption word → Gives n (word ∷ words)
not_plain s n position h word words asks waits text passes (inl hyphens) = (
  words,
  rest_given s n position h words waits (past_hyphens s h position word words hyphens passes),
  inr ([], words, ap (λ w. w ∷ words) hyphens, refl, tt),
)
not_plain s n position h word words asks waits text passes (inr option) =
    absurd (option_stops s position word h asks (skips s n position h waits) text option (passes_on s (at false h position) word words passes).0)

all_given : (s : Shape) (n position : ℕ) (h : Held) (words : List Text) → all_ask s.rules ≡ true → Waits s n position h
    → AreTexts words → Passes s (at false h position) words → Gives n words
all_given s zero position h [] asks waits texts passes = ([], refl, inl (refl, tt))
all_given s (suc n) position h [] asks waits texts passes = absurd (misses s false n position h waits passes)
all_given s zero position h (word ∷ words) asks waits texts passes = elim (word_is word) [
  | inl plain ↦ absurd (is_full s false position h word words waits plain passes)
  | inr other ↦ not_plain s zero position h word words asks waits texts.0 passes other
]
all_given s (suc n) position h (word ∷ words) asks waits texts passes = elim (word_is word) [
  | inl plain ↦
      let (values, long, given) = all_given s n (position + 1) (after_value s position word h) words asks (waits.2 word) texts.1
      (past_value s false n position h word words waits plain passes) in
      (word ∷ values, ap suc long, gives_more word words values plain given)
  | inr other ↦ not_plain s (suc n) position h word words asks waits texts.0 passes other
]

-- ---- values of which the last one may be left out

past_taken : (s : Shape) (b : Bool) (position : ℕ) (h : Held) (word : Text) (words : List Text) → takes_value s position h ≡ true → IsTaken b word
    → Passes s (at b h position) (word ∷ words) → Passes s (at b (after_value s position word h) (position + 1)) words
past_taken s b position h word words takes is_taken passes =
    subst (λ (to : Walk). Passes s to words)
    ((value_turn s b h position word is_taken).0 ∙ (taken s b position h word takes).0) (passes_on s (at b h position) word words passes).1

-- one value at most, after `--`
rest_offered : (s : Shape) (position : ℕ) (h : Held) (words : List Text) → Offers s position h → Passes s (at true h position) words
    → (length words ≡ 0) ⊎ (length words ≡ 1)
rest_offered s position h [] offers passes = inl refl
rest_offered s position h (word ∷ words) (skip, takes, waits) passes =
    inr (ap suc (rest_given s zero (position + 1) (after_value s position word h) words (waits word) (past_taken s true position h word words takes tt passes)))

behind_hyphens : (n m : ℕ) (word : Text) (words : List Text) → word ≡ 45 ∷ 45 ∷ [] → (length words ≡ n) ⊎ (length words ≡ m)
    → Gives n (word ∷ words) ⊎ Gives m (word ∷ words)
behind_hyphens n m word words hyphens (inl long) = inl (words, long, inr ([], words, ap (λ w. w ∷ words) hyphens, refl, tt))
behind_hyphens n m word words hyphens (inr long) = inr (words, long, inr ([], words, ap (λ w. w ∷ words) hyphens, refl, tt))

-- .. and anywhere
offered : (s : Shape) (position : ℕ) (h : Held) (words : List Text) → all_ask s.rules ≡ true → Offers s position h
    → AreTexts words → Passes s (at false h position) words → Gives 0 words ⊎ Gives 1 words
offered s position h [] asks offers texts passes = inl ([], refl, inl (refl, tt))
offered s position h (word ∷ words) asks (skip, takes, waits) texts passes = elim (word_is word) [
  | inl plain ↦
      let (values, long, given) = all_given s zero (position + 1) (after_value s position word h) words asks (waits word) texts.1
      (past_taken s false position h word words takes plain passes) in
      inr (word ∷ values, ap suc long, gives_more word words values plain given)
  | inr (inl hyphens) ↦ behind_hyphens 0 1 word words hyphens (rest_offered s position h words (skip, takes, waits) (past_hyphens s h position word words hyphens passes))
  | inr (inr option) ↦ absurd (option_stops s position word h asks skip texts.0 option (passes_on s (at false h position) word words passes).0)
]

one_more : (word : Text) (words : List Text) → IsPlainWord word → Gives 0 words ⊎ Gives 1 words → Gives 1 (word ∷ words) ⊎ Gives 2 (word ∷ words)
one_more word words plain (inl (values, long, given)) = inl (word ∷ values, ap suc long, gives_more word words values plain given)
one_more word words plain (inr (values, long, given)) = inr (word ∷ values, ap suc long, gives_more word words values plain given)

one_longer : (n : ℕ) → (n ≡ 0) ⊎ (n ≡ 1) → (suc n ≡ 1) ⊎ (suc n ≡ 2)
one_longer n (inl none) = inl (ap suc none)
one_longer n (inr one) = inr (ap suc one)

rest_of_two : (s : Shape) (words : List Text) → wants_value s 1 nothing_held ≡ true → ((word : Text) → Offers s 2 (after_value s 1 word nothing_held))
    → Passes s (at true nothing_held 1) words → (length words ≡ 1) ⊎ (length words ≡ 2)
rest_of_two s [] wants offers passes = absurd ((wanted s true 1 nothing_held [] wants).2 passes.1)
rest_of_two s (word ∷ words) wants offers passes =
    one_longer (length words) (rest_offered s 2 (after_value s 1 word nothing_held) words (offers word)
    (past_taken s true 1 nothing_held word words (takes_wanted s 1 nothing_held wants) tt passes))

one_or_two : (s : Shape) (words : List Text) → all_ask s.rules ≡ true → wants_value s 1 nothing_held ≡ true
    → ((word : Text) → Offers s 2 (after_value s 1 word nothing_held)) → AreTexts words → Passes s (at false nothing_held 1) words
    → Gives 1 words ⊎ Gives 2 words
one_or_two s [] asks wants offers texts passes = absurd ((wanted s false 1 nothing_held [] wants).2 passes.1)
one_or_two s (word ∷ words) asks wants offers texts passes = elim (word_is word) [
  | inl plain ↦ one_more word words plain (offered s 2 (after_value s 1 word nothing_held) words asks (offers word) texts.1
      (past_taken s false 1 nothing_held word words (takes_wanted s 1 nothing_held wants) plain passes))
  | inr (inl hyphens) ↦ behind_hyphens 1 2 word words hyphens (rest_of_two s words wants offers (past_hyphens s nothing_held 1 word words hyphens passes))
  | inr (inr option) ↦ absurd (option_stops s 1 word nothing_held asks refl texts.0 option (passes_on s (at false nothing_held 1) word words passes).0)
]

-- ---- the program's words

-- the fault of a first word, which names this subcommand or none
abbrev first_fault : Option Text → Text → Kinds
first_fault named word = or_else (other_fault whole.top named word nothing_held)
    (step_fault whole.top 1 (subcommand_or_other whole.top.rules named idle 1 word nothing_held).0
    (subcommand_or_other whole.top.rules named idle 1 word nothing_held).1)

first_passes : (word : Text) (words : List Text) → fault_of hbsign_app (word ∷ words) ≡ []
    → first_fault (subcommand_met (names_of whole) idle word) word ≡ []
unfolding walk_fault
first_passes word words none = (none_of _ _ (none_of _ _ none).0).0

-- A line can't begin with a plain word that is no command's name,
plain_fails : (word : Text) → IsPlainWord word → first_fault None word ≢ []
plain_fails word plain none =
    let step = (none_of (other_fault whole.top None word nothing_held) _ none).1 in
    let stray = subst (λ (met : Held × Step). step_fault whole.top 1 met.0 met.1 ≡ []) (plain_met whole.top idle 1 word nothing_held plain).0 step in
    cc

-- nor with `--` or an option, and it can't be empty.
hyphens_fail : (words : List Text) → fault_of hbsign_app (codes "--" ∷ words) ≢ []
unfolding clap_on_literals
hyphens_fail [] none = cc
hyphens_fail (word ∷ words) none = cc

pub nothing_fails : fault_of hbsign_app [] ≢ []
unfolding clap_on_literals
nothing_fails none = cc

first_option_fails : (word : Text) → IsUtf8 word → IsOption word → first_fault None word ≢ []
first_option_fails word text option none =
    elim (cases_Bool (bytes_eq word (45 ∷ 45 ∷ []))) [
      | inl same ↦ option.3 ((bytes_eq-Decides word (45 ∷ 45 ∷ [])).0 same)
      | inr differs ↦ option_fails whole.top.rules whole.top.args_override_self word nothing_held refl refl text option
          (else_none _ [] _ differs (none_of _ _ none).0)
    ]

other_fails : (word : Text) (words : List Text) → IsUtf8 word → fault_of hbsign_app (word ∷ words) ≡ []
    → subcommand_met (names_of whole) idle word ≢ None
other_fails word words text none other =
    let passes = subst (λ named. first_fault named word ≡ []) other (first_passes word words none) in
    elim (word_is word) [
      | inl plain ↦ plain_fails word plain passes
      | inr (inl hyphens) ↦ hyphens_fail words (subst (λ w. fault_of hbsign_app (w ∷ words) ≡ []) hyphens none)
      | inr (inr option) ↦ first_option_fails word text option passes
    ]

-- What has no alias is found by its name.
abbrev is_bare : List Text → Bool
is_bare [] = true
is_bare (alias ∷ aliases) = false

bare_is : (aliases : List Text) → is_bare aliases ≡ true → aliases ≡ []
bare_is [] bare = refl
bare_is (alias ∷ aliases) bare = absurd (false≢true bare)

abbrev are_bare : {A : Type 0} → (A → Text × List Text) → List A → Bool
are_bare label = list_all (λ x. is_bare (label x).1)

found_named : {A : Type 0} (label : A → Text × List Text) (word : Text) (xs : List A) (x : A) → are_bare label xs ≡ true
    → find (λ y. answers_to word (label y)) xs ≡ Some x → (label x).0 ≡ word
found_named label word [] x bare found = absurd cc
found_named label word (y ∷ ys) x bare found = elim (cases_Bool (answers_to word (label y))) [
  | inr other ↦ found_named label word ys x (both (is_bare (label y).1) (are_bare label ys) bare).1 (rw other at found)
  | inl same ↦
      let first : Some y ≡ Some x = rw same at found in
      let named : (bytes_eq (label y).0 word || false) ≡ true = rw (bare_is (label y).1 (both (is_bare (label y).1) (are_bare label ys) bare).0) at same in
      subst (λ z. (label z).0 ≡ word) (ap (λ o. unwrap_or o y) first) ((bytes_eq-Decides (label y).0 word).0 (sym (or-false _) ∙ named))
]

-- So a line's walk stops at its first word,
met_named : (names : Names) (word : Text) (met : Option (Text × List Text)) → are_bare (λ s. s) names ≡ true → find (answers_to word) names ≡ met
    → option_map (λ (s : Text × List Text). s.0) met ≢ None → option_map (λ (s : Text × List Text). s.0) met ≡ Some word
met_named names word None bare is some = absurd (some refl)
met_named names word (Some s) bare is some = ap Some (found_named (λ s. s) word names s bare is)

first_stops : (word : Text) (words : List Text) → IsUtf8 word → fault_of hbsign_app (word ∷ words) ≡ []
    → walked whole.top.rules (names_of whole) (walk_from nothing_held) word ≡ stopped_at word []
unfolding walked
first_stops word words text none =
    let named : subcommand_met (names_of whole) idle word ≡ Some word =
    met_named (names_of whole) word (find (answers_to word) (names_of whole)) refl refl (other_fails word words text none) in
    rw named refl

-- and the task that is found is one of the command of this name.
named_task : (subs : List Shape) (word : Text) (names : List Text) (met : Option Shape) (task : Task) → are_bare label_of subs ≡ true
    → find (λ s. answers_to word (label_of s)) subs ≡ met → task_found (option_map (λ s. rows_at s names) met) ≡ Ok task → word ≡ name_of task
named_task subs word names None task bare is found = absurd cc
named_task subs word names (Some s) task bare is found =
    sym (found_named label_of word subs s bare is) ∙ IfOk-at_ok (λ t. s.name ≡ name_of t) found (is_named s.name (rows_at s names).1)

pub begins_with_name : (word : Text) (names : List Text) (task : Task) → IsUtf8 word → fault_of hbsign_app (word ∷ names) ≡ []
    → task_found (subcommand_of hbsign_app (word ∷ names)) ≡ Ok task → word ≡ name_of task
begins_with_name word names task text none found =
    let walks = ap (λ (w : Walk). task_found (entered whole w.stopped)) (line_walk word names (first_stops word names text none)) in
    named_task whole.subs word names _ task refl refl (sym walks ∙ found)

-- ---- the line of a task

pub ok_same : {A E : Type 0} (a b : A) → ◌≡◌ {A = Result A E} (Ok a) (Ok b) → a ≡ b
ok_same a b same = cc

-- P of any n words
abbrev Over : ℕ → (List Text → Type 0) → Type 0
Over zero P = P []
Over (suc n) P = (word : Text) → Over n (λ words. P (word ∷ words))

at_words : (P : List Text → Type 0) (words : List Text) → Over (length words) P → P words
at_words P [] all = all
at_words P (word ∷ words) all = at_words (λ more. P (word ∷ more)) words (all word)

-- these values request the task, whose line this is
abbrev IsParsed : App → List Text → Task → List Text → Type 0
IsParsed app words task values = requested app (held_after app values) ≡ Ok task → IsCommandLine words app.top.name values → IsLineOf words task

-- A line without a fault of a command with n values, and without options, is its name with n values.
by_values : (app : App) (n : ℕ) → Command app n → all_ask (shape app).rules ≡ true
    → (word : Text) (names : List Text) (task : Task) → app.top.name ≡ name_of task → AreTexts (word ∷ names) → FindsTask (word ∷ names) task
    → Over n (IsParsed app (word ∷ names) task) → IsLineOf (word ∷ names) task
by_values app n command asks word names task named (text, texts) (none, found) each =
    let s = shape app in
    let is = begins_with_name word names task text none found ∙ sym named in
    let level = (none_of _ [] (sym (entered_faults app.top.name s names command.enters) ∙ subst (λ w. fault_of hbsign_app (w ∷ names) ≡ []) is none)).0 in
    let (values, long, given) = all_given s n 1 nothing_held names asks command.waits texts (none_of _ _ level) in
    let line : IsCommandLine (word ∷ names) app.top.name values = (names, ap (λ w. w ∷ names) is, given) in
    let finds = finds_values app values (subst (Command app) (sym long) command) (word ∷ names) line in
    at_words (IsParsed app (word ∷ names) task) values (subst (λ m. Over m (IsParsed app (word ∷ names) task)) (sym long) each) (sym finds.1 ∙ found) line

-- The line of a command that gives n values, which the command takes.
by_given : (app : App) (n : ℕ) (word : Text) (names values : List Text) (task : Task) → Enters app.top.name (shape app)
    → Takes (shape app) n 1 nothing_held → word ≡ app.top.name → FindsTask (word ∷ names) task → length values ≡ n → GivesValues names values
    → Over n (IsParsed app (word ∷ names) task) → IsLineOf (word ∷ names) task
by_given app n word names values task enters takes is (none, found) long given each =
    let line : IsCommandLine (word ∷ names) app.top.name values = (names, ap (λ w. w ∷ names) is, given) in
    let finds = finds_taken app values enters (subst (λ m. Takes (shape app) m 1 nothing_held) (sym long) takes) (word ∷ names) line in
    at_words (IsParsed app (word ∷ names) task) values (subst (λ m. Over m (IsParsed app (word ∷ names) task)) (sym long) each) (sym finds.1 ∙ found) line

of_list : (word : Text) (names : List Text) (file : Text) (public : Option Text) → AreTexts (word ∷ names)
    → FindsTask (word ∷ names) (list file public) → IsLineOf (word ∷ names) (list file public)
of_list word names file public (text, texts) (none, found) =
    let s = shape list_app in
    let is = begins_with_name word names (list file public) text none found in
    let level = (none_of _ [] (sym (entered_faults list_app.top.name s names enters_list) ∙ subst (λ w. fault_of hbsign_app (w ∷ names) ≡ []) is none)).0 in
    elim (one_or_two s names refl list_wants_file list_offers texts (none_of _ _ level)) [
      | inl (values, long, given) ↦
          by_given list_app 1 word names values (list file public) enters_list list_takes_file is (none, found) long given
          (λ f same line. subst (IsLineOf (word ∷ names)) (ok_same (list f None) (list file public) same) line)
      | inr (values, long, given) ↦
          by_given list_app 2 word names values (list file public) enters_list list_takes_both is (none, found) long given
          (λ f p same line. subst (IsLineOf (word ∷ names)) (ok_same (list f (Some p)) (list file public) same) line)
    ]

of_retire : (words : List Text) (state text : Text) (task : Task) (number : Option ℕ) → decimal_number most_leaves text ≡ number
    → IsCommandLine words (codes "retire") (state ∷ text ∷ []) → retire_number state number ≡ Ok task → IsLineOf words task
of_retire words state text task (Some upto) spells line same =
    subst (IsLineOf words) (ok_same (retire state upto) task same) (text, spells, line)
of_retire words state text task None spells line same = absurd cc

-- A line of texts without a fault is a line of the task that is found in it.
pub is_line_of : (words : List Text) (task : Task) → fault_of hbsign_app words ≡ [] → task_found (subcommand_of hbsign_app words) ≡ Ok task
    → AreTexts words → IsLineOf words task
is_line_of [] task none found texts = absurd (nothing_fails none)
is_line_of words (make state public spec version random) none found texts = (none, found)
is_line_of words (sign state name message out random) none found texts = (none, found)
is_line_of words (audit state anchor) none found texts = (none, found)
is_line_of words (audit_given public files) none found texts = (none, found)
is_line_of words (serve state random) none found texts = (none, found)
is_line_of (word ∷ names) (verify public message signature) none found texts =
    by_values verify_app 3 verify_command refl word names (verify public message signature) refl texts (none, found)
    (λ p m s same line. subst (IsLineOf (word ∷ names)) (ok_same (verify p m s) (verify public message signature) same) line)
is_line_of (word ∷ names) (retire state upto) none found texts =
    by_values retire_app 2 retire_command refl word names (retire state upto) refl texts (none, found)
    (λ s t same line. of_retire (word ∷ names) s t (retire state upto) (decimal_number most_leaves t) refl line same)
is_line_of (word ∷ names) (migrate old new) none found texts =
    by_values migrate_app 2 migrate_command refl word names (migrate old new) refl texts (none, found)
    (λ o n same line. subst (IsLineOf (word ∷ names)) (ok_same (migrate o n) (migrate old new) same) line)
is_line_of (word ∷ names) (list file public) none found texts = of_list word names file public texts (none, found)
is_line_of (word ∷ names) (publish state public) none found texts =
    by_values public_app 2 public_command refl word names (publish state public) refl texts (none, found)
    (λ s p same line. subst (IsLineOf (word ∷ names)) (ok_same (publish s p) (publish state public) same) line)

pub no_line_faults : (words : List Text) (task : Task) → fault_of hbsign_app words ≡ [] → task_found (subcommand_of hbsign_app words) ≡ Ok task
    → line_faults words ≡ []
no_line_faults words task none found =
    ap (λ k. or_else k (usage_faults (task_found (subcommand_of hbsign_app words)))) none ∙ ap usage_faults found

pub task_has_no_faults : (words : List Text) (task : Task) → IsLineOf words task → line_faults words ≡ []
task_has_no_faults words task line = let (none, found) = finds_task words task line in no_line_faults words task none found

-- A line has one task.
pub same_task : (words : List Text) (task other : Task) → task_found (subcommand_of hbsign_app words) ≡ Ok task → IsLineOf words other
    → task ≡ other
same_task words task other found line = ok_same task other (sym found ∙ (finds_task words other line).1)
