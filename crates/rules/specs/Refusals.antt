-- RULES 9.1: "They are tested in this order, and the first that applies is given." RULES 9.2: "Each call tests what concerns
-- its own inputs and nothing else." Lengths are in words, or in bytes if the name says so.
use Rattle.std.specs.Prelude.{ℕ, ◌*◌, Bool, cond, not, ◌||◌, List, eqb, leb, Result, Ok, Err}
use Rattle.rules.specs.declared.Refusal.{Refusal}
use Rattle.rules.specs.declared.Refusal.TheVariants.{Cards, Broken, Modulus, Card, Records, Output, Set, Sent, Lag, Text, Beat}
use Rattle.rules.specs.Parameters.{record_words, bad_cards, bad_broken, bad_modulus}
use Rattle.rules.specs.WholeBeat.{bad_set, sent_words}
use Rattle.rules.specs.Text.{well_formed, has_line}

-- "given exactly when": the number if the test holds, else what is left
abbrev pub given : ℕ → Bool → ℕ → ℕ
given number test others = cond test number others

-- a length that is not the needed one (refusals 5, 8 and 6)
abbrev pub wrong : ℕ → ℕ → Bool
wrong size needed = not (eqb size needed)

-- 1 and 2, and then the others
abbrev pub shape_refusal : ℕ → ℕ → ℕ → ℕ
shape_refusal n f others = given 1 (bad_cards n) (given 2 (bad_broken n f) others)

-- 1, 2 and 3, and then the others
abbrev pub counter_refusal : ℕ → ℕ → ℕ → ℕ → ℕ
counter_refusal n f c others = shape_refusal n f (given 3 (bad_modulus c) others)

-- RULES 9.2: one card's step tests "1, 2, 3, 4, 5, 6"
abbrev pub step_refusal : ℕ → ℕ → ℕ → ℕ → ℕ → ℕ → ℕ
step_refusal n f c card records out =
    counter_refusal n f c
    (given 4 (leb n card)
    (given 5 (wrong records (n * record_words f))
    (given 6 (wrong out (record_words f)) 0)))

-- the same on bytes; RULES 10.1: "An odd number of bytes is a wrong length."
abbrev pub step_bytes_refusal : ℕ → ℕ → ℕ → ℕ → ℕ → ℕ → ℕ
step_bytes_refusal n f c card records out =
    counter_refusal n f c
    (given 4 (leb n card)
    (given 5 (wrong records (2 * (n * record_words f)))
    (given 6 (wrong out (2 * record_words f)) 0)))

-- RULES 9.2: the whole beat tests "1, 2, 3, 7, 5, 8, 6"
abbrev pub beat_refusal : ℕ → ℕ → ℕ → ℕ → ℕ → ℕ → ℕ → ℕ
beat_refusal n f c set held sent out =
    counter_refusal n f c
    (given 7 (bad_set n f set)
    (given 5 (wrong held (n * record_words f))
    (given 8 (wrong sent (sent_words n f set))
    (given 6 (wrong out (n * record_words f)) 0))))

-- RULES 9.2: the shown count tests "1, 2, 3, 5"
abbrev pub shown_refusal : ℕ → ℕ → ℕ → ℕ → ℕ
shown_refusal n f c words = counter_refusal n f c (given 5 (wrong words (record_words f)) 0)

-- RULES 9.2: the lag tests "3, 9"; RULES 9.1, refusal 9: "an input of a lag is c or above"
abbrev pub lag_refusal : ℕ → ℕ → ℕ → ℕ
lag_refusal c x y = given 3 (bad_modulus c) (given 9 (leb c x || leb c y) 0)

-- RULES 9.2: a record as text tests "1, 2, 5, 6"
abbrev pub write_refusal : ℕ → ℕ → ℕ → ℕ → ℕ
write_refusal n f words out =
    shape_refusal n f (given 5 (wrong words (record_words f)) (given 6 (wrong out (4 * record_words f)) 0))

-- RULES 9.2: a text as a record tests "1, 2, 6, 10"
abbrev pub read_refusal : ℕ → ℕ → List ℕ → ℕ → ℕ
read_refusal n f text out =
    shape_refusal n f
    (given 6 (wrong out (record_words f))
    (given 10 (not (well_formed (4 * record_words f) text)) 0))

-- RULES 10.3: "A second call returns the refusal: 10 if there is no such line, otherwise 0."
abbrev pub line_refusal : ℕ → List ℕ → ℕ
line_refusal k text = given 10 (not (has_line k text)) 0

-- RULES 9.1: the number of each refusal
abbrev pub number_of : Refusal → ℕ
number_of Cards = 1
number_of Broken = 2
number_of Modulus = 3
number_of Card = 4
number_of Records = 5
number_of Output = 6
number_of Set = 7
number_of Sent = 8
number_of Lag = 9
number_of Text = 10
number_of Beat = 11

-- The number that an answer stands for: 0 if the call is not refused
abbrev pub number_in : {A : Type 0} → Result A Refusal → ℕ
number_in (Ok answer) = 0
number_in (Err refusal) = number_of refusal

-- RULES 9.3: "A refused call's value is 0": the answer's value, or the one that stands for 0
abbrev pub value_in : {A : Type 0} → A → Result A Refusal → A
value_in nothing (Ok answer) = answer
value_in nothing (Err refusal) = nothing
