-- Words that look like options: a command whose flags all ask for help or the version refuses them.
use Rattle.std.proofs.Common.{◌≡◌, ◌≢◌, ◌&&◌, ◌∙◌, ◌⊎◌, ℕ, Bool, List, [], ◌∷◌, ◌++◌, Option, Some, None, true, false, not, refl, length, is_some, ap, subst, sym, inl, inr, find, if◌then◌else◌, lit<, ◌||◌, arith}
use Rattle.std.specs.Prelude.{⊤, slice_get, get_or, drop, encode_utf8}
use Rattle.std.specs.List.{list_all}
use Rattle.std.specs.Option.{option_map_or}
use Rattle.std.specs.Str.{IsUtf8, chars, encode_utf8_all}
use Rattle.std.proofs.lemmas.Bool.{cases_Bool, cases_eq, false≢true, not-true}
use Rattle.std.proofs.lemmas.Str.{chars_past_char, encode_ascii, encodes-chars}
use Rattle.clap.specs.Faults.{action_fault, bundle_fault, bundle_step_fault, flag_word_fault, flags_fault, long_fault, short_fault, use_fault}
use Rattle.clap.specs.Kinds.{Kinds, request_kinds}
use Rattle.clap.specs.Lexer.{long_of, name_and_value, short_of}
use Rattle.clap.specs.Walk.{Held, Row, action_of, arg_by_long, arg_by_short, takes_values, values_or_missing}
use Rattle.clap.specs.Words.{Rule, Text}
use Rattle.clap.proofs.WalkLemmas.{both}
use Rattle.clap.specs.declared.builder.action.ArgAction.{ArgAction}
use Rattle.command.specs.Line.{IsPlainWord}
use Rattle.command.proofs.Walking.{is_no_hyphen, no_fault, none_of}

pub else_none : (b : Bool) (x y : Kinds) → b ≡ false → (if b then x else y) ≡ [] → y ≡ []
else_none true x y isnt none = absurd (false≢true (sym isnt))
else_none false x y isnt none = none

-- a flag without a value, whose use is always an error: help or the version
abbrev Asks : Bool → Option Rule → Type 0
Asks again None = ⊤
Asks again (Some a) = (takes_values a ≡ false) × ((rows : List Row) → use_fault again a [] rows ≢ [])

abbrev asks : Rule → Bool
asks a = not (takes_values a) && not (no_fault (request_kinds (action_of a)))

-- Each argument is a positional, or such a flag.
abbrev pub all_ask : List Rule → Bool
all_ask = list_all (λ a. is_some a.index || asks a)

request_fails : (action : ArgAction) (again : Bool) (a : Rule) (values : List Text) (rows : List Row) → not (no_fault (request_kinds action)) ≡ true
    → action_fault action again a values rows ≢ []
request_fails action again a values rows request = grind arith

asks_is : (again : Bool) (a : Rule) → asks a ≡ true → Asks again (Some a)
asks_is again a all =
    let (flag, request) = both (not (takes_values a)) (not (no_fault (request_kinds (action_of a)))) all in
    (not-true _ flag, λ rows none. request_fails (action_of a) again a (values_or_missing a []) rows request (none_of _ _ none).1)

-- So each flag that is found is one.
found_asks : (again : Bool) (test : Rule → Bool) (c : List Rule) → all_ask c ≡ true → Asks again (find (λ a. not (is_some a.index) && test a) c)
found_asks again test [] all = tt
found_asks again test (a ∷ c) all =
    let (this, rest) = both (is_some a.index || asks a) (all_ask c) all in
    elim (cases_Bool (is_some a.index)) [
      | inl indexed ↦ rw indexed (found_asks again test c rest)
      | inr not_indexed ↦ elim (cases_Bool (test a)) [
        | inl same ↦ rw (not_indexed, same) (asks_is again a (rw not_indexed at this))
        | inr other ↦ rw (not_indexed, other) (found_asks again test c rest)
      ]
    ]

long_fails : (c : List Rule) (again : Bool) (o : Option Rule) (v : Option Text) (h : Held) → Asks again o
    → long_fault c again o v h ≢ []
long_fails c again None v h asks none = cc
long_fails c again (Some a) (Some v) h (flag, fails) none = let some = else_none _ _ _ flag none in cc
long_fails c again (Some a) None h (flag, fails) none = fails _ (none_of _ _ (else_none _ _ _ flag none)).1

short_fails : (c : List Rule) (again : Bool) (o : Option Rule) (rest : Text) (h : Held) (next : Held → Kinds)
    → Asks again o → short_fault c again o rest h next ≢ []
short_fails c again None rest h next asks none = cc
short_fails c again (Some a) rest h next (flag, fails) none =
    fails _ (none_of _ _ (none_of _ _ (else_none _ _ _ flag none)).0).1

first_is : (xs : List ℕ) → xs ≢ [] → (x : ℕ) × (slice_get xs 0 ≡ Some x)
first_is [] some = absurd (some refl)
first_is (x ∷ xs) some = (x, refl)

has_characters : (y : ℕ) (ys : Text) → IsUtf8 (45 ∷ y ∷ ys) → chars (y ∷ ys) ≢ []
has_characters y ys text none =
    let hyphen : encode_utf8 45 ≡ 45 ∷ [] = encode_ascii 45 (lit< tt) in
    let all = chars_past_char (45 ∷ y ∷ ys) (y ∷ ys) 45 text (ap (λ l. l ++ y ∷ ys) (sym hyphen)) in
    let alone = sym (encodes-chars _ text) ∙ ap encode_utf8_all (all ∙ ap (λ cs. 45 ∷ cs) none) in
    let first : ◌≡◌ {A = List ℕ} (45 ∷ y ∷ ys) (45 ∷ []) = alone ∙ ap (λ l. l ++ []) hyphen in
    cc

bundle_fails : (c : List Rule) (again : Bool) (o : Option ℕ) (x : ℕ) (flags : Text) (h : Held) (next : Text → ℕ → Held → Kinds)
    → o ≡ Some x → all_ask c ≡ true → bundle_step_fault c again o flags 0 h next ≢ []
bundle_fails c again None x flags h next is asks none = cc
bundle_fails c again (Some y) x flags h next is asks none = short_fails c again (arg_by_short c y) _ h _ (found_asks again _ c asks) none

flags_fail : (c : List Rule) (again : Bool) (y : ℕ) (ys : Text) (h : Held) → all_ask c ≡ true
    → chars (y ∷ ys) ≢ [] → flags_fault c again (length (y ∷ ys)) (y ∷ ys) 0 h ≢ []
unfolding flags_fault
flags_fail c again y ys h asks some none =
    let (x, is) = first_is (chars (y ∷ ys)) some in
    bundle_fails c again (slice_get (chars (y ∷ ys)) 0) x (y ∷ ys) h _ is asks none

-- a word that looks like an option, and isn't `--`
abbrev pub IsOption : Text → Type 0
IsOption word = (y : ℕ) × (ys : Text) × (word ≡ 45 ∷ y ∷ ys) × (word ≢ 45 ∷ 45 ∷ [])

pub word_is : (word : Text) → IsPlainWord word ⊎ (word ≡ 45 ∷ 45 ∷ []) ⊎ IsOption word
word_is [] = inl tt
word_is (x ∷ []) = inl tt
word_is (x ∷ y ∷ ys) = elim (cases_eq x 45) [
  | inr other ↦ inl other
  | inl hyphen ↦ elim (cases_eq y 45) [
    | inr other ↦ inr (inr (y, ys, ap (λ b. b ∷ y ∷ ys) hyphen, λ same. other (ap (λ l. get_or (drop 1 l) 0 0) same)))
    | inl second ↦ word_ends x y ys hyphen second
  ]
]
  where
    word_ends : (x y : ℕ) (ys : Text) → x ≡ 45 → y ≡ 45 → IsPlainWord (x ∷ y ∷ ys) ⊎ ((x ∷ y ∷ ys) ≡ 45 ∷ 45 ∷ []) ⊎ IsOption (x ∷ y ∷ ys)
    word_ends x y [] hyphen second = inr (inl cc)
    word_ends x y (z ∷ zs) hyphen second = inr (inr (y, z ∷ zs, ap (λ b. b ∷ y ∷ z ∷ zs) hyphen, λ same. cc))

long_option_fails : (c : List Rule) (again : Bool) (z : ℕ) (zs : Text) (h : Held) → all_ask c ≡ true
    → flag_word_fault c again (long_of (45 ∷ 45 ∷ z ∷ zs)) (45 ∷ 45 ∷ z ∷ zs) h ≢ []
long_option_fails c again z zs h asks none =
    long_fails c again (arg_by_long c (name_and_value (z ∷ zs)).0) (name_and_value (z ∷ zs)).1 h (found_asks again _ c asks) none

short_option_fails : (c : List Rule) (again : Bool) (y : ℕ) (ys : Text) (h : Held) → all_ask c ≡ true → h.skip ≡ 0
    → IsUtf8 (45 ∷ y ∷ ys) → y ≢ 45 → flag_word_fault c again (long_of (45 ∷ y ∷ ys)) (45 ∷ y ∷ ys) h ≢ []
short_option_fails c again y ys h asks skip text other none =
    let differs = is_no_hyphen y other in
    let long : long_of (45 ∷ y ∷ ys) ≡ None = rw differs.0 refl in
    let short : short_of (45 ∷ y ∷ ys) ≡ Some (y ∷ ys) = rw differs.0 refl in
    let flags = subst (λ o. flag_word_fault c again o (45 ∷ y ∷ ys) h ≡ []) long none in
    let bundle = subst (λ (o : Option Text). option_map_or (λ flags. bundle_fault c again flags h) o [] ≡ []) short flags in
    flags_fail c again y ys _ asks (has_characters y ys text)
    (subst (λ n. flags_fault c again (length (y ∷ ys)) (y ∷ ys) n (record h { skip = 0 }) ≡ []) skip bundle)

pub option_fails : (c : List Rule) (again : Bool) (word : Text) (h : Held) → all_ask c ≡ true → h.skip ≡ 0 → IsUtf8 word
    → IsOption word → flag_word_fault c again (long_of word) word h ≢ []
option_fails c again word h asks skip text (y, ys, same, other) none =
    by_second y ys (cases_eq y 45)
    (subst IsUtf8 same text) (λ hyphens. other (same ∙ hyphens)) (subst (λ w. flag_word_fault c again (long_of w) w h ≡ []) same none)
  where
    by_second : (y : ℕ) (ys : Text) → (y ≡ 45) ⊎ (y ≢ 45) → IsUtf8 (45 ∷ y ∷ ys) → (◌≢◌ {A = Text} (45 ∷ y ∷ ys) (45 ∷ 45 ∷ []))
        → flag_word_fault c again (long_of (45 ∷ y ∷ ys)) (45 ∷ y ∷ ys) h ≢ []
    by_second y ys (inr other) text differs none = short_option_fails c again y ys h asks skip text other none
    by_second y [] (inl second) text differs none = differs cc
    by_second y (z ∷ zs) (inl second) text differs none =
        long_option_fails c again z zs h asks (subst (λ b. flag_word_fault c again (long_of (45 ∷ b ∷ z ∷ zs)) (45 ∷ b ∷ z ∷ zs) h ≡ []) second none)
