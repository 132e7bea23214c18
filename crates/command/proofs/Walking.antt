-- Walks of `clap` over the words of a line, and what it finds in them.
use Rattle.std.proofs.Common.{◌≡◌, ◌≢◌, ◌==◌, ◌&&◌, ◌∙◌, ◌+◌, ℕ, zero, suc, Bool, List, [], ◌∷◌, ◌++◌, Option, Some, None, Result, true, false, not, refl, codes, length, nat_eq, fold, is_some, ap, subst, sym, inl, inr, append-nil, append_assoc, arith}
use Rattle.std.specs.Prelude.{⊤, min, nat_lt}
use Rattle.std.proofs.Math.Bool.{or-false}
use Rattle.std.proofs.lemmas.Bool.{cases_eq, false≢true, ne_eqb, not-true}
use Rattle.clap.specs.Simple.{App, Shape, built, built_leaf, entered, names_of, inherited, with_leaf_noted, marked_built}
use Rattle.clap.specs.Walk.{Held, Names, Waiting, Walk, after_step, idle, option, positional, plain_word, subcommand_met, walked, word_met, value, to_positional, arg_by_index, is_multiple, rows_after, nothing_held, settled, walk_from, finished, walk}
use Rattle.clap.specs.Faults.{turn_fault, step_fault, word_fault, walk_fault, settle_fault, defaults_fault, check_fault, entered_fault, level_fault}
use Rattle.clap.specs.Kinds.{Kinds, or_else}
use Rattle.clap.specs.Lexer.{usize_max}
use Rattle.clap.specs.Words.{Rule, Text, is_simple, subcommand_of, fault_of, is_simple_and_free}
use Rattle.clap.proofs.OnLiterals.{clap_on_literals}
use Rattle.clap.proofs.WalkLemmas.{both}
use Rattle.command.specs.Line.{ArePlainWords, GivesValues, IsCommandLine, IsPlainWord, Task, hbsign_app, task_found}
use Rattle.command.specs.declared.usage_fault.UsageFault.{UsageFault}

-- `clap`'s model covers the program
pub simple : is_simple hbsign_app ≡ true
unfolding clap_on_literals
simple = refl

pub simple_and_free : is_simple_and_free hbsign_app ≡ true
unfolding clap_on_literals
simple_and_free = refl

-- ---- one word

-- a walk in a command, before `--` or after it
abbrev pub waits_at : Waiting → Bool → Held → ℕ → Walk
waits_at waiting trailing held position =
    record { held = held; waiting = waiting; position = position; is_trailing = trailing; stopped = None }

-- .. where no option waits for a value
abbrev pub at : Bool → Held → ℕ → Walk
at = waits_at idle

-- a word that is taken for a value: no option, or after `--`
abbrev pub IsTaken : Bool → Text → Type 0
IsTaken true word = ⊤
IsTaken false word = IsPlainWord word

abbrev pub AllTaken : Bool → List Text → Type 0
AllTaken b [] = ⊤
AllTaken b (word ∷ words) = IsTaken b word × AllTaken b words

pub plain_taken : (words : List Text) → ArePlainWords words → AllTaken false words
plain_taken [] plain = tt
plain_taken (word ∷ words) (first, others) = (first, plain_taken words others)

pub any_taken : (words : List Text) → AllTaken true words
any_taken [] = tt
any_taken (word ∷ words) = (tt, any_taken words)

-- both forms of the test for a hyphen
pub is_no_hyphen : (byte : ℕ) → byte ≢ 45 → (nat_eq byte 45 ≡ false) × ((byte == 45) ≡ false)
is_no_hyphen byte plain = (ne_eqb byte 45 plain, ne_eqb byte 45 plain)

none_met : (waiting : Waiting) (word : Text) → subcommand_met [] waiting word ≡ None
none_met idle word = refl
none_met (option id) word = refl
none_met positional word = refl

-- A plain word is a value, whatever waits for it, and no flag.
pub plain_met : (s : Shape) (waiting : Waiting) (position : ℕ) (word : Text) (h : Held) → IsPlainWord word
    → (word_met s.rules [] false waiting position word h ≡ plain_word s.rules waiting word h)
    × (word_fault s [] false waiting word h ≡ [])
plain_met s waiting position [] h plain = rw (none_met waiting []) (refl, refl)
plain_met s waiting position (x ∷ []) h plain = elim (cases_eq x 45) [
  | inl same ↦ rw (none_met waiting (x ∷ []), same) (refl, refl)
  | inr other ↦ rw (none_met waiting (x ∷ []), (is_no_hyphen x other).0, (is_no_hyphen x other).1) (refl, refl)
]
plain_met s waiting position (x ∷ y ∷ xs) h plain =
    rw (none_met waiting (x ∷ y ∷ xs), (is_no_hyphen x plain).0, (is_no_hyphen x plain).1) (refl, refl)

-- the walk after such a word, and what may refuse it
abbrev pub after_plain : Shape → Walk → Text → Walk
after_plain s w word =
    let met = plain_word s.rules w.waiting word w.held in after_step s.rules word w met.0 met.1

abbrev pub plain_fault : Shape → Walk → Text → Kinds
plain_fault s w word =
    let met = plain_word s.rules w.waiting word w.held in step_fault s w.position met.0 met.1

pub plain_turn : (s : Shape) (waiting : Waiting) (h : Held) (position : ℕ) (word : Text) → IsPlainWord word
    → (walked s.rules [] (waits_at waiting false h position) word ≡ after_plain s (waits_at waiting false h position) word)
    × (turn_fault s [] (waits_at waiting false h position) word ≡ plain_fault s (waits_at waiting false h position) word)
unfolding walked
plain_turn s waiting h position word plain =
    rw (plain_met s waiting position word h plain).0 (refl, rw (plain_met s waiting position word h plain).1 refl)

-- A value goes to the next positional, which alone can refuse it.
pub value_turn : (s : Shape) (b : Bool) (h : Held) (position : ℕ) (word : Text) → IsTaken b word
    → (walked s.rules [] (at b h position) word ≡ to_positional s.rules (arg_by_index s.rules position) word (at b h position) h)
    × (turn_fault s [] (at b h position) word ≡ step_fault s position h value)
unfolding walked
value_turn s true h position word taken = (refl, refl)
value_turn s false h position word taken = plain_turn s idle h position word taken

-- ---- the walk of a command

-- The walk passes these words without a fault, and ends at `to`.
abbrev pub Goes : Shape → Walk → List Text → Walk → Type 0
Goes s from words to = (fold (walked s.rules []) from words ≡ to) × (walk_fault s [] from words ≡ [])

pub stays : (s : Shape) (from to : Walk) → from ≡ to → Goes s from [] to
unfolding walk_fault
stays s from to same = (same, refl)

pub goes : (s : Shape) (from next to : Walk) (word : Text) (words : List Text) → walked s.rules [] from word ≡ next
    → turn_fault s [] from word ≡ [] → Goes s next words to → Goes s from (word ∷ words) to
unfolding walk_fault
goes s from next to word words step well (ends, passes) = (
  ap (λ w. fold (walked s.rules []) w words) step ∙ ends,
  ap (λ k. or_else k (walk_fault s [] (walked s.rules [] from word) words)) well
      ∙ ap (λ w. walk_fault s [] w words) step ∙ passes,
)

pub none_of : (a b : Kinds) → or_else a b ≡ [] → (a ≡ []) × (b ≡ [])
none_of [] b none = (refl, none)
none_of (k ∷ ks) b none = cc

pub goes_on : (s : Shape) (from mid to : Walk) (words more : List Text) → Goes s from words mid → Goes s mid more to → Goes s from (words ++ more) to
unfolding walk_fault
goes_on s from mid to [] more (ends, passes) rest = subst (λ w. Goes s w more to) (sym ends) rest
goes_on s from mid to (word ∷ words) more (ends, passes) rest =
    let (turn, others) = none_of (turn_fault s [] from word) (walk_fault s [] (walked s.rules [] from word) words) passes in
    goes s from (walked s.rules [] from word) to word (words ++ more) refl turn
    (goes_on s (walked s.rules [] from word) mid to words more (ends, others) rest)

pub over_hyphens : (s : Shape) (h : Held) (position : ℕ) (words : List Text) (to : Walk) → Goes s (at true h position) words to
    → Goes s (at false h position) (codes "--" ∷ words) to
unfolding walked
over_hyphens s h position words to rest = goes s (at false h position) (at true h position) to (codes "--") words refl refl rest

-- the faults at the end of a command's walk
abbrev pub end_fault : Shape → Held → Kinds
end_fault s h = or_else (settle_fault s.rules s.args_override_self h)
    (or_else (defaults_fault (settled s.rules h).rows s.rules) (check_fault s (finished s.rules h) false))

-- ---- values, one for each positional

-- what is held after one value, and after all
abbrev pub after_value : Shape → ℕ → Text → Held → Held
after_value s position word h = (to_positional s.rules (arg_by_index s.rules position) word (at false h position) h).held

abbrev pub after_values : Shape → ℕ → Held → List Text → Held
after_values s position h [] = h
after_values s position h (word ∷ words) = after_values s (position + 1) (after_value s position word h) words

-- the place after them
abbrev pub place_after : ℕ → List Text → ℕ
place_after position [] = position
place_after position (word ∷ words) = place_after (position + 1) words

abbrev pub no_fault : Kinds → Bool
no_fault [] = true
no_fault (k ∷ ks) = false

-- The positional at this place has one value. Nothing was wrong before it, and the line can't end there.
abbrev has_one_value : Option Rule → ℕ → Bool
has_one_value None position = false
has_one_value (Some a) position = not (is_multiple a) && (not a.trailing_var_arg && nat_lt position usize_max)

abbrev pub wants_value : Shape → ℕ → Held → Bool
wants_value s position h = has_one_value (arg_by_index s.rules position) position
    && (no_fault (step_fault s position h value) && not (no_fault (end_fault s h)))

-- There is no more positional, and the line can end.
abbrev wants_none : Shape → ℕ → Held → Bool
wants_none s position h = not (is_some (arg_by_index s.rules position)) && no_fault (end_fault s h)

-- The command waits for n values.
abbrev pub Waits : Shape → ℕ → ℕ → Held → Type 0
Waits s zero position h = (h.skip ≡ 0) × (wants_none s position h ≡ true)
Waits s (suc n) position h = (h.skip ≡ 0) × (wants_value s position h ≡ true)
    × ((word : Text) → Waits s n (position + 1) (after_value s position word h))

pub skips : (s : Shape) (n position : ℕ) (h : Held) → Waits s n position h → h.skip ≡ 0
skips s zero position h waits = waits.0
skips s (suc n) position h waits = waits.0

none_is : (ks : Kinds) → no_fault ks ≡ true → ks ≡ []
none_is [] none = refl
none_is (k ∷ ks) none = absurd (false≢true none)

some_is : (ks : Kinds) → not (no_fault ks) ≡ true → ks ≢ []
some_is [] some none = false≢true some
some_is (k ∷ ks) some none = cc

-- Such a positional takes a value, before `--` and after it.
takes_one : (c : List Rule) (rule : Option Rule) (b : Bool) (position : ℕ) (word : Text) (h : Held) → has_one_value rule position ≡ true
    → to_positional c rule word (at b h position) h ≡ at b (to_positional c rule word (at false h position) h).held (position + 1)
takes_one c None b position word h one = absurd (false≢true one)
takes_one c (Some a) b position word h one =
    let (single, rest) = both (not (is_multiple a)) (not a.trailing_var_arg && nat_lt position usize_max) one in
    let (free, low) = both (not a.trailing_var_arg) (nat_lt position usize_max) rest in
    let next : min (position + 1) usize_max ≡ position + 1 = grind (arith, low) in
    rw (not-true _ single, not-true _ free, next, or-false b) refl

pub wanted : (s : Shape) (b : Bool) (position : ℕ) (h : Held) (word : Text) → wants_value s position h ≡ true
    → (to_positional s.rules (arg_by_index s.rules position) word (at b h position) h ≡ at b (after_value s position word h) (position + 1))
    × (step_fault s position h value ≡ []) × (end_fault s h ≢ [])
wanted s b position h word wants =
    let (one, rest) = both (has_one_value (arg_by_index s.rules position) position) (no_fault (step_fault s position h value) && not (no_fault (end_fault s h))) wants in
    let (well, misses) = both (no_fault (step_fault s position h value)) (not (no_fault (end_fault s h))) rest in
    (takes_one s.rules (arg_by_index s.rules position) b position word h one, none_is _ well, some_is _ misses)

pub not_wanted : (s : Shape) (position : ℕ) (h : Held) → wants_none s position h ≡ true
    → (arg_by_index s.rules position ≡ None) × (end_fault s h ≡ [])
not_wanted s position h wants =
    let (none, well) = both (not (is_some (arg_by_index s.rules position))) (no_fault (end_fault s h)) wants in
    (no_rule (arg_by_index s.rules position) none, none_is _ well)
  where
    no_rule : (rule : Option Rule) → not (is_some rule) ≡ true → rule ≡ None
    no_rule None none = refl
    no_rule (Some a) none = absurd (false≢true none)

-- A value can be taken here, whether or not the line could end before it.
abbrev pub takes_value : Shape → ℕ → Held → Bool
takes_value s position h = has_one_value (arg_by_index s.rules position) position && no_fault (step_fault s position h value)

-- The command takes n values, and the line can end behind them.
abbrev pub Takes : Shape → ℕ → ℕ → Held → Type 0
Takes s zero position h = end_fault s h ≡ []
Takes s (suc n) position h = (takes_value s position h ≡ true) × ((word : Text) → Takes s n (position + 1) (after_value s position word h))

pub taken : (s : Shape) (b : Bool) (position : ℕ) (h : Held) (word : Text) → takes_value s position h ≡ true
    → (to_positional s.rules (arg_by_index s.rules position) word (at b h position) h ≡ at b (after_value s position word h) (position + 1))
    × (step_fault s position h value ≡ [])
taken s b position h word takes =
    let (one, well) = both (has_one_value (arg_by_index s.rules position) position) (no_fault (step_fault s position h value)) takes in
    (takes_one s.rules (arg_by_index s.rules position) b position word h one, none_is _ well)

pub takes_wanted : (s : Shape) (position : ℕ) (h : Held) → wants_value s position h ≡ true → takes_value s position h ≡ true
takes_wanted s position h wants =
    let (one, rest) = both (has_one_value (arg_by_index s.rules position) position) (no_fault (step_fault s position h value) && not (no_fault (end_fault s h))) wants in
    let (well, misses) = both (no_fault (step_fault s position h value)) (not (no_fault (end_fault s h))) rest in rw (one, well) refl

-- It does so where it waits for them.
pub takes_awaited : (s : Shape) (n position : ℕ) (h : Held) → Waits s n position h → Takes s n position h
takes_awaited s zero position h (skips, wants) = (not_wanted s position h wants).1
takes_awaited s (suc n) position h (skips, wants, waits) =
    (takes_wanted s position h wants, λ word. takes_awaited s n (position + 1) (after_value s position word h) (waits word))

-- Here the line can end, or give one more value.
abbrev pub Offers : Shape → ℕ → Held → Type 0
Offers s position h = (h.skip ≡ 0) × (takes_value s position h ≡ true) × ((word : Text) → Waits s zero (position + 1) (after_value s position word h))

-- The walk passes as many values as the command takes,
pub over_values : (s : Shape) (b : Bool) (position : ℕ) (h : Held) (values : List Text) → Takes s (length values) position h → AllTaken b values
    → Goes s (at b h position) values (at b (after_values s position h values) (place_after position values))
over_values s b position h [] takes all = stays s (at b h position) (at b h position) refl
over_values s b position h (word ∷ words) (takes, rest) (first, others) =
    let (is_taken, well) = taken s b position h word takes in
    let (walks, turns) = value_turn s b h position word first in
    goes s (at b h position) (at b (after_value s position word h) (position + 1)) _ word words (walks ∙ is_taken) (turns ∙ well)
    (over_values s b (position + 1) (after_value s position word h) words (rest word) others)

-- also with `--` among them,
over_before : (s : Shape) (position : ℕ) (h : Held) (before after : List Text) → Takes s (length (before ++ after)) position h
    → ArePlainWords before → Goes s (at false h position) (before ++ codes "--" ∷ after)
    (at true (after_values s position h (before ++ after)) (place_after position (before ++ after)))
over_before s position h [] after takes plain =
    over_hyphens s h position after _ (over_values s true position h after takes (any_taken after))
over_before s position h (word ∷ before) after (takes, rest) (first, others) =
    let (is_taken, well) = taken s false position h word takes in
    let (walks, turns) = value_turn s false h position word first in
    goes s (at false h position) (at false (after_value s position word h) (position + 1)) _ word (before ++ codes "--" ∷ after) (walks ∙ is_taken) (turns ∙ well)
    (over_before s (position + 1) (after_value s position word h) before after (rest word) others)

over_given : (s : Shape) (position : ℕ) (h : Held) (words values : List Text) → Takes s (length values) position h → GivesValues words values
    → (b : Bool) × Goes s (at false h position) words (at b (after_values s position h values) (place_after position values))
over_given s position h words values takes (inl (same, plain)) = (
  false,
  subst (λ l. Goes s (at false h position) l (at false (after_values s position h values) (place_after position values))) (sym same)
      (over_values s false position h values takes (plain_taken values plain)),
)
over_given s position h words values takes (inr (before, after, same, parts, plain)) = (
  true,
  subst (λ l. Goes s (at false h position) words (at true (after_values s position h l) (place_after position l))) (sym parts)
      (subst (λ l. Goes s (at false h position) l (at true (after_values s position h (before ++ after)) (place_after position (before ++ after)))) (sym same)
      (over_before s position h before after (subst (λ l. Takes s (length l) position h) parts takes) plain)),
)

-- and then the line can end.
pub ends_well : (s : Shape) (position : ℕ) (h : Held) (values : List Text) → Takes s (length values) position h
    → end_fault s (after_values s position h values) ≡ []
ends_well s position h [] ends = ends
ends_well s position h (word ∷ words) (takes, rest) = ends_well s (position + 1) (after_value s position word h) words (rest word)

-- ---- the program's walk, up to a command's name

-- where it stops: at this name, with these words after it
abbrev pub stopped_at : Text → List Text → Walk
stopped_at name words = record (walk_from nothing_held) { stopped = Some (name, words) }

stops : (c : List Rule) (subcommands : Names) (name : Text) (words more : List Text)
    → fold (walked c subcommands) (stopped_at name words) more ≡ stopped_at name (words ++ more)
unfolding walked
stops c subcommands name words [] = ap (stopped_at name) (sym (append-nil words))
stops c subcommands name words (word ∷ more) =
    stops c subcommands name (words ++ word ∷ []) more ∙ ap (stopped_at name) (append_assoc words (word ∷ []) more)

stops_well : (s : Shape) (subcommands : Names) (name : Text) (words more : List Text)
    → walk_fault s subcommands (stopped_at name words) more ≡ []
unfolding walked walk_fault
stops_well s subcommands name words [] = refl
stops_well s subcommands name words (word ∷ more) = stops_well s subcommands name (words ++ word ∷ []) more

abbrev pub whole : App
whole = built hbsign_app

-- the faults of a line, by the faults of its walk and its end
abbrev whole_fault : Walk → Kinds → Kinds
whole_fault w walking = or_else walking (or_else (entered_fault whole w.stopped)
    (or_else (settle_fault whole.top.rules whole.top.args_override_self w.held)
    (or_else (defaults_fault (settled whole.top.rules w.held).rows whole.top.rules)
    (check_fault whole.top (finished whole.top.rules w.held) (is_some (entered whole w.stopped))))))

-- The walk stops at this name, and the faults and rows of the words after it are the command's.
pub record Enters (name : Text) (s : Shape) : Type 0 where
  pub step : walked whole.top.rules (names_of whole) (walk_from nothing_held) name ≡ stopped_at name []
  pub well : turn_fault whole.top (names_of whole) (walk_from nothing_held) name ≡ []
  pub rows : (words : List Text) → entered whole (Some (name, words)) ≡ Some (name, rows_after s.rules [] words)
  pub fault : (words : List Text)
      → whole_fault (stopped_at name words) [] ≡ or_else (level_fault s [] nothing_held words false []) []

pub line_walk : (name : Text) (names : List Text) → walked whole.top.rules (names_of whole) (walk_from nothing_held) name ≡ stopped_at name []
    → walk whole.top.rules (names_of whole) nothing_held (name ∷ names) ≡ stopped_at name names
line_walk name names step =
    ap (λ w. fold (walked whole.top.rules (names_of whole)) w names) step ∙ stops whole.top.rules (names_of whole) name [] names

line_well : (name : Text) (s : Shape) (names : List Text) → Enters name s
    → walk_fault whole.top (names_of whole) (walk_from nothing_held) (name ∷ names) ≡ []
unfolding walk_fault
line_well name s names enters =
    ap (λ k. or_else k (walk_fault whole.top (names_of whole) (walked whole.top.rules (names_of whole) (walk_from nothing_held) name) names)) enters.well
    ∙ ap (λ w. walk_fault whole.top (names_of whole) w names) enters.step ∙ stops_well whole.top (names_of whole) name [] names

-- The rows and faults of the line are the command's.
pub entered_rows : (name : Text) (s : Shape) (names : List Text) → Enters name s
    → subcommand_of hbsign_app (name ∷ names) ≡ Some (name, rows_after s.rules [] names)
entered_rows name s names enters = ap (λ (w : Walk). entered whole w.stopped) (line_walk name names enters.step) ∙ enters.rows names

pub entered_faults : (name : Text) (s : Shape) (names : List Text) → Enters name s
    → fault_of hbsign_app (name ∷ names) ≡ or_else (level_fault s [] nothing_held names false []) []
entered_faults name s names enters =
    ap (λ w. whole_fault w (walk_fault whole.top (names_of whole) (walk_from nothing_held) (name ∷ names))) (line_walk name names enters.step)
    ∙ ap (whole_fault (stopped_at name names)) (line_well name s names enters) ∙ enters.fault names

-- ---- every line of a command

-- a command's shape, as `clap` builds it
abbrev pub shape : App → Shape
shape app = built_leaf (inherited (with_leaf_noted (marked_built hbsign_app.top)) app.top)

-- A command that waits for n values.
pub record Command (app : App) (n : ℕ) : Type 0 where
  pub enters : Enters app.top.name (shape app)
  pub waits : Waits (shape app) n 1 nothing_held

-- what is held after its values
abbrev pub held_after : App → List Text → Held
held_after app values = after_values (shape app) 1 nothing_held values

-- what is requested by what is held at the end
abbrev pub requested : App → Held → Result Task UsageFault
requested app held = task_found (Some (app.top.name, finished (shape app).rules held))

-- `clap` accepts the words, and finds this.
abbrev pub Finds : List Text → Result Task UsageFault → Type 0
Finds words found = (fault_of hbsign_app words ≡ []) × (task_found (subcommand_of hbsign_app words) ≡ found)

-- .. if the walk passes the words of a command, and nothing is wrong at its end.
pub finds_walk : (app : App) (words names : List Text) (to : Walk) → Enters app.top.name (shape app) → words ≡ app.top.name ∷ names
    → Goes (shape app) (at false nothing_held 1) names to → end_fault (shape app) to.held ≡ [] → Finds words (requested app to.held)
finds_walk app words names to enters same (ends, passes) well =
    let s = shape app in
    let level : level_fault s [] nothing_held names false [] ≡ [] =
    ap (λ k. or_else k (end_fault s (walk s.rules [] nothing_held names).held)) passes ∙ ap (λ (w : Walk). end_fault s w.held) ends ∙ well in (
      ap (fault_of hbsign_app) same ∙ entered_faults app.top.name s names enters ∙ ap (λ k. or_else k []) level,
      ap (λ l. task_found (subcommand_of hbsign_app l)) same ∙ ap task_found (entered_rows app.top.name s names enters)
          ∙ ap (λ (w : Walk). requested app w.held) ends,
    )

-- after values that the command takes
pub finds_taken : (app : App) (values : List Text) → Enters app.top.name (shape app) → Takes (shape app) (length values) 1 nothing_held
    → (words : List Text) → IsCommandLine words app.top.name values → Finds words (requested app (held_after app values))
finds_taken app values enters takes words (names, same, given) =
    let (b, walks) = over_given (shape app) 1 nothing_held names values takes given in
    finds_walk app words names (at b (held_after app values) (place_after 1 values)) enters same walks
    (ends_well (shape app) 1 nothing_held values takes)

-- .. and those that it waits for
pub finds_values : (app : App) (values : List Text) → Command app (length values) → (words : List Text) → IsCommandLine words app.top.name values
    → Finds words (requested app (held_after app values))
finds_values app values command =
    finds_taken app values command.enters (takes_awaited (shape app) (length values) 1 nothing_held command.waits)
