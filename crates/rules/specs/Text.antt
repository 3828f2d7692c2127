-- RULES 10.2 and 10.3: digits, the text of a record, lines.
use Rattle.std.specs.Prelude.{ℕ, zero, suc, ◌+◌, ◌*◌, ◌-◌, ◌/◌, ◌%◌, ◌^◌, Bool, true, cond, ◌&&◌, ◌||◌, List, [], ◌∷◌, eqb, ltb, leb}
use Rattle.std.specs.Prelude.{length, get_or, take}
use Rattle.rules.specs.Counting.{rows, tabulate}

-- the character of a digit below 16. RULES 10.2: "digits 0-9 and a-f, lower case, the high digit first"
unfoldable pub digit_of : ℕ → ℕ
digit_of x = cond (ltb x 10) (48 + x) (87 + x)

-- RULES 9.1, refusal 10: "a character other than 0-9 and a-f" is not a digit
unfoldable pub is_digit : ℕ → Bool
is_digit ch = (leb 48 ch && leb ch 57) || (leb 97 ch && leb ch 102)

-- the value of such a character
unfoldable pub value_of : ℕ → ℕ
value_of ch = cond (leb ch 57) (ch - 48) (ch - 87)

-- a number in k digits
unfoldable pub hex_of : ℕ → ℕ → List ℕ
hex_of k x = tabulate k (λ (i : ℕ). digit_of (x / 16 ^ (k - 1 - i) % 16))

-- the number that k digits from a place on make
unfoldable pub number_at : List ℕ → ℕ → ℕ → ℕ
number_at text at zero = 0
number_at text at (suc k) = 16 * number_at text at k + value_of (get_or text (at + k) 0)

-- are all of them digits?
unfoldable pub all_digits : List ℕ → Bool
all_digits [] = true
all_digits (ch ∷ rest) = is_digit ch && all_digits rest

-- not refused by 10. RULES 9.1: "a text has a wrong length or a character other than 0-9 and a-f"
unfoldable pub well_formed : ℕ → List ℕ → Bool
well_formed size text = eqb (length text) size && all_digits text

-- RULES 10.2: "A word is 4 digits. The text of a record is its W words and nothing else"
unfoldable pub text_of : List ℕ → List ℕ
text_of words = rows (length words) (λ (i : ℕ). hex_of 4 (get_or words i 0))

-- the k words of a text, from a place on
unfoldable pub words_at : List ℕ → ℕ → ℕ → List ℕ
words_at text at k = tabulate k (λ (i : ℕ). number_at text (at + 4 * i) 4)

-- a line feed
abbrev pub line_feed : ℕ
line_feed = 10

-- the lines of a text with one character more in front of it
unfoldable pub one_more : ℕ → List (List ℕ) → List (List ℕ)
one_more ch [] = (ch ∷ []) ∷ []
one_more ch (line ∷ others) = (ch ∷ line) ∷ others

unfoldable pub in_front : ℕ → List (List ℕ) → List (List ℕ)
in_front ch others = cond (eqb ch line_feed) ([] ∷ others) (one_more ch others)

-- The lines of a text. RULES 10.3: "Each line is ended by a line feed, which is not part of the line; the last line may lack it.
-- What follows the last line feed is a line only if it has a character."
unfoldable pub lines_of : List ℕ → List (List ℕ)
lines_of [] = []
lines_of (ch ∷ rest) = in_front ch (lines_of rest)

-- Is there a line k? RULES 10.3: "Lines are counted from 1."
unfoldable pub has_line : ℕ → List ℕ → Bool
has_line k text = leb 1 k && leb k (length (lines_of text))

-- line k. RULES 10.3: "if there is no such line, it is an empty part"
unfoldable pub line_at : ℕ → List ℕ → List ℕ
line_at k text = cond (has_line k text) (get_or (lines_of text) (k - 1) []) []

-- how many characters some lines have, each with its line feed
unfoldable pub span_of : List (List ℕ) → ℕ
span_of [] = 0
span_of (line ∷ others) = length line + 1 + span_of others

-- where line k begins, after the lines before it. RULES 10.3: "a part of the caller's own text; if there is no such line, it is
-- an empty part that begins where the text does"
unfoldable pub start_of : ℕ → List ℕ → ℕ
start_of k text = cond (has_line k text) (span_of (take (k - 1) (lines_of text))) 0

-- where the part ends
abbrev pub end_of : ℕ → List ℕ → ℕ
end_of k text = start_of k text + length (line_at k text)
