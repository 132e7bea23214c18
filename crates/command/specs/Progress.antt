-- The text of a line of progress.
use Rattle.std.specs.Prelude.{ℕ, zero, suc, ◌+◌, ◌-◌, ◌*◌, ◌/◌, ◌%◌, min, Bool, true, false, if◌then◌else◌, nat_lt}
use Rattle.std.specs.Prelude.{List, [], ◌∷◌, ◌++◌, length, codes, decimal}

-- A line is drawn a second after the work began, and then each 200 ms. Times in milliseconds.
abbrev pub is_due : (begun shown now : ℕ) → Bool
is_due begun shown now =
    if nat_lt (now - begun) 1000 then false else (if nat_lt (now - shown) 200 then false else true)

abbrev pub percent : (made leaves : ℕ) → ℕ
percent made leaves = made * 100 / leaves

-- rounded up
abbrev pub in_seconds : ℕ → ℕ
in_seconds milliseconds = milliseconds / 1000 + min 1 (milliseconds % 1000)

-- The seconds that the other leaves take, if each takes as long as those that were made in `spent` milliseconds.
abbrev pub seconds_left : (spent made leaves : ℕ) → ℕ
seconds_left spent made leaves = in_seconds (spent * (leaves - made) / made)

-- a comma, and the zeros before a number below a thousand
abbrev pub separator : ℕ → List ℕ
separator number = if nat_lt number 10 then codes ",00" else (if nat_lt number 100 then codes ",0" else codes ",")

-- a comma, and three digits
abbrev pub group : ℕ → List ℕ
group number = separator number ++ decimal number

-- a number below 10^9, with a comma between thousands
abbrev pub grouped : ℕ → List ℕ
grouped number =
    if nat_lt number 1000
    then decimal number
    else (if nat_lt number 1000000
    then decimal (number / 1000) ++ group (number % 1000)
    else decimal (number / 1000000) ++ group (number / 1000 % 1000) ++ group (number % 1000))

abbrev pub head : (level : ℕ) → List ℕ
head level = codes "making the tree of level " ++ decimal level ++ codes ": "

abbrev pub counts : (made leaves : ℕ) → List ℕ
counts made leaves = grouped made ++ codes " of " ++ grouped leaves ++ codes " leaves, "

abbrev pub short_text : (made leaves left : ℕ) → List ℕ
short_text made leaves left = decimal (percent made leaves) ++ codes " %, " ++ grouped left ++ codes " s left"

-- for example `making the tree of level 0: 12,288 of 32,768 leaves, 37 %, 21 s left`
abbrev pub long_text : (level made leaves left : ℕ) → List ℕ
long_text level made leaves left = head level ++ counts made leaves ++ short_text made leaves left

-- The long text if it leaves a blank on a line of `columns`, behind a margin of three; else the short one.
abbrev pub fitting_text : (columns level made leaves left : ℕ) → List ℕ
fitting_text columns level made leaves left =
    if nat_lt (length (long_text level made leaves left) + 3) columns
    then long_text level made leaves left
    else short_text made leaves left

-- U+2588 and U+2591 in UTF-8
abbrev pub full_block : List ℕ
full_block = 226 ∷ 150 ∷ 136 ∷ []

abbrev pub light_block : List ℕ
light_block = 226 ∷ 150 ∷ 145 ∷ []

-- the bytes, `count` times
unfoldable pub times : ℕ → List ℕ → List ℕ
times zero bytes = []
times (suc count) bytes = times count bytes ++ bytes

-- ten blocks and a blank; each ten percent fill one
abbrev pub bar : (percent : ℕ) → List ℕ
bar percent = times (min (percent / 10) 10) full_block ++ times (10 - min (percent / 10) 10) light_block ++ codes " "

-- A bar fits before an ASCII text of `len` bytes: its eleven characters, and a blank behind the text.
abbrev pub has_room : (has_blocks : Bool) (columns len : ℕ) → Bool
has_room has_blocks columns len = if has_blocks then nat_lt (len + 11) columns else false

-- What stands before the text, where a terminal shows what is typed: a bar if there is room, else three blanks.
abbrev pub margin : (has_blocks : Bool) (columns len percent : ℕ) → List ℕ
margin has_blocks columns len percent = if has_room has_blocks columns len then bar percent else codes "   "

abbrev pub line_text : (has_blocks : Bool) (columns level made leaves left : ℕ) → List ℕ
line_text has_blocks columns level made leaves left =
    margin has_blocks columns (length (fitting_text columns level made leaves left)) (percent made leaves)
    ++ fitting_text columns level made leaves left
