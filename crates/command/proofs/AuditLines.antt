-- Lines of `audit-given`, which has any number of files; and that each line that help shows is one of its task.
use Rattle.std.proofs.Common.{◌≡◌, ◌≢◌, ◌∙◌, ◌<◌, ◌≤◌, ℕ, Bool, List, [], ◌∷◌, ◌++◌, Some, true, false, refl, codes, length, ap, subst, sym, inl, inr, arith, append_assoc, append-nil, length-append, ap₂, map}
use Rattle.std.proofs.lemmas.List.{length-map}
use Rattle.std.proofs.lemmas.Bool.{le-ltb, ne_eqb}
use Rattle.clap.specs.Faults.{check_fault, defaults_fault, settle_fault, turn_fault}
use Rattle.clap.specs.Kinds.{or_else, range_kinds, values_kinds}
use Rattle.clap.specs.Lexer.{usize_max}
use Rattle.clap.specs.Simple.{Shape}
use Rattle.clap.specs.Walk.{Held, Walk, finished, nothing_held, positional, settled, walked}
use Rattle.clap.specs.ValueTests.{accepts}
use Rattle.clap.specs.Words.{Text}
use Rattle.clap.specs.declared.builder.value_parser.ValueParser.{ValueParser}
use Rattle.clap.specs.declared.builder.value_parser.ValueParser.TheVariants.{String as TextParser}
use Rattle.clap.proofs.OnLiterals.{clap_on_literals}
use Rattle.command.specs.AuditGiven.{Pair, audit_given_app, path_pairs, paths_of}
use Rattle.command.specs.Line.{FindsTask, GivesValues, IsCommandLine, IsLineOf, IsShownLineOf, Task, audit, audit_given, audit_given_pairs, audit_given_task, list, make, migrate, publish, retire, serve, sign, verify}
use Rattle.command.proofs.Commands.{enters_audit_given}
use Rattle.command.proofs.Options.{finds_audit, finds_make, finds_serve, finds_sign}
use Rattle.command.proofs.Walking.{AllTaken, Finds, Goes, IsTaken, after_value, any_taken, at, end_fault, finds_walk, goes, goes_on, plain_taken, plain_turn, requested, shape, stays, value_turn, waits_at}

abbrev given : Shape
given = shape audit_given_app

-- what is held after the public key, and then after files
abbrev after_public : Text → Held
after_public public = after_value given 1 public nothing_held

abbrev after_files : Text → List Text → Held
after_files public files = record (settled given.rules (after_public public)) { pending = Some (codes "FILES", files) }

-- the walk after these values
abbrev after_given : Bool → List Text → Walk
after_given b [] = at b nothing_held 1
after_given b (public ∷ []) = at b (after_public public) 2
after_given b (public ∷ file ∷ files) = waits_at positional b (after_files public (file ∷ files)) 2

takes_given : (b : Bool) (values : List Text) (word : Text) → IsTaken b word
    → (walked given.rules [] (after_given b values) word ≡ after_given b (values ++ word ∷ []))
    × (turn_fault given [] (after_given b values) word ≡ [])
unfolding clap_on_literals walked
takes_given false [] word taken = value_turn given false nothing_held 1 word taken
takes_given false (public ∷ []) word taken = value_turn given false (after_public public) 2 word taken
takes_given false (public ∷ file ∷ files) word taken = plain_turn given positional (after_files public (file ∷ files)) 2 word taken
takes_given true [] word taken = (refl, refl)
takes_given true (public ∷ []) word taken = (refl, refl)
takes_given true (public ∷ file ∷ files) word taken = (refl, refl)

over_values : (b : Bool) (values words : List Text) → AllTaken b words → Goes given (after_given b values) words (after_given b (values ++ words))
over_values b values [] taken = stays given (after_given b values) (after_given b (values ++ [])) (ap (after_given b) (sym (append-nil values)))
over_values b values (word ∷ words) (first, others) =
    let (walks, well) = takes_given b values word first in
    goes given (after_given b values) (after_given b (values ++ word ∷ [])) (after_given b (values ++ word ∷ words)) word words walks well
    (subst (λ l. Goes given (after_given b (values ++ word ∷ [])) words (after_given b l)) (append_assoc values (word ∷ []) words)
    (over_values b (values ++ word ∷ []) words others))

over_hyphens : (values : List Text)
    → (walked given.rules [] (after_given false values) (codes "--") ≡ after_given true values)
    × (turn_fault given [] (after_given false values) (codes "--") ≡ [])
unfolding clap_on_literals walked
over_hyphens [] = (refl, refl)
over_hyphens (public ∷ []) = (refl, refl)
over_hyphens (public ∷ file ∷ files) = (refl, refl)

over_given : (words values : List Text) → GivesValues words values → (b : Bool) × Goes given (at false nothing_held 1) words (after_given b values)
over_given words values (inl (same, plain)) =
    (false, subst (λ l. Goes given (at false nothing_held 1) l (after_given false values)) (sym same) (over_values false [] values (plain_taken values plain)))
over_given words values (inr (before, after, same, parts, plain)) =
    let (walks, well) = over_hyphens before in
    let later = goes given (after_given false before) (after_given true before) (after_given true (before ++ after)) (codes "--") after walks well
    (over_values true before after (any_taken after)) in
    let all = goes_on given (at false nothing_held 1) (after_given false before) (after_given true (before ++ after)) before (codes "--" ∷ after)
    (over_values false [] before (plain_taken before plain)) later in (
      true,
      subst (λ l. Goes given (at false nothing_held 1) words (after_given true l)) (sym parts)
          (subst (λ l. Goes given (at false nothing_held 1) l (after_given true (before ++ after))) (sym same) all),
    )

is_in_range : (n : ℕ) → 1 ≤ n → n ≤ usize_max → range_kinds 1 usize_max n ≡ []
is_in_range n some most =
    rw (ne_eqb n 0 (λ none. omega (arith, some, none)), le-ltb n 1 some, le-ltb usize_max n most) refl

none_of_values : (ignore : Bool) (parser : ValueParser) → ((v : Text) → accepts ignore parser v ≡ true) → (values : List Text)
    → values_kinds ignore parser values ≡ []
none_of_values ignore parser each [] = refl
none_of_values ignore parser each (v ∷ values) = rw (each v) (none_of_values ignore parser each values)

given_ends : (public file : Text) (files : List Text) → length (file ∷ files) ≤ usize_max → end_fault given (after_files public (file ∷ files)) ≡ []
unfolding clap_on_literals
given_ends public file files most =
    let so_far = after_files public (file ∷ files) in
    let settles : settle_fault given.rules given.args_override_self so_far ≡ [] =
    ap₂ or_else (is_in_range (length (file ∷ files)) (omega arith) most) (none_of_values false TextParser (λ v. refl) (file ∷ files)) in
    ap (λ k. or_else k (or_else (defaults_fault (settled given.rules so_far).rows given.rules)
    (check_fault given (finished given.rules so_far) false))) settles

given_found : (public file : Text) (files : List Text)
    → requested audit_given_app (after_files public (file ∷ files)) ≡ audit_given_task (Some public) (Some (file ∷ files))
unfolding clap_on_literals
given_found public file files = refl

paths_are : (pairs : List Pair) → path_pairs (paths_of pairs) ≡ Some pairs
unfolding path_pairs paths_of
paths_are [] = refl
paths_are (pair ∷ pairs) = rw (paths_are pairs) refl

gives_fewer : (words values : List Text) → GivesValues words values → length values ≤ length words
gives_fewer words values (inl (same, plain)) = omega (arith, ap length same)
gives_fewer words values (inr (before, after, same, parts, plain)) =
    omega (arith, ap length same, ap length parts, length-append before (codes "--" ∷ after), length-append before after)

-- a line with a public key and at least one file
finds_files : (words : List Text) (public file : Text) (files : List Text) → length words ≤ usize_max
    → IsCommandLine words (codes "audit-given") (public ∷ file ∷ files) → Finds words (audit_given_task (Some public) (Some (file ∷ files)))
finds_files words public file files most (names, same, gives) =
    let (b, walk) = over_given names (public ∷ file ∷ files) gives in
    let fewer = gives_fewer names (public ∷ file ∷ files) gives in
    let fits : length (file ∷ files) ≤ usize_max = omega (arith, fewer, most, ap length same) in
    let (none, found) = finds_walk audit_given_app words names (waits_at positional b (after_files public (file ∷ files)) 2) enters_audit_given same walk
    (given_ends public file files fits) in (none, found ∙ given_found public file files)

finds_audit_given : (words : List Text) (public : Text) (pairs : List Pair) → length words ≤ usize_max → pairs ≢ []
    → IsCommandLine words (codes "audit-given") (public ∷ paths_of pairs) → FindsTask words (audit_given public pairs)
unfolding paths_of
finds_audit_given words public [] most some line = absurd (some refl)
finds_audit_given words public (pair ∷ pairs) most some line =
    let (none, found) = finds_files words public pair.0 (pair.1 ∷ paths_of pairs) most line in
    (none, found ∙ ap (audit_given_pairs public) (paths_are (pair ∷ pairs)))

pub length_fits : {X : Type 0} (text : X → Text) (words : List X) → length words < 18446744073709551616 → length (map text words) ≤ usize_max
length_fits text words less = omega (arith, length-map words text, less)

-- A line as help shows it is a line of its task.
pub shown_line : (words : List Text) (task : Task) → length words ≤ usize_max → IsShownLineOf words task → IsLineOf words task
shown_line words (make state public spec version random) most line = finds_make words state public spec version random line
shown_line words (sign state name message out random) most line = finds_sign words state name message out random line
shown_line words (verify public message signature) most line = line
shown_line words (retire state upto) most line = line
shown_line words (migrate old new) most line = line
shown_line words (list file public) most line = line
shown_line words (publish state path) most line = line
shown_line words (audit state anchor) most line = finds_audit words state anchor line
shown_line words (audit_given public files) most (some, line) = finds_audit_given words public files most some line
shown_line words (serve state random) most line = finds_serve words state random line
