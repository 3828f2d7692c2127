-- RULES 3 and 4: halves, what a record holds, how each word is read.
use Rattle.std.specs.Prelude.{ℕ, zero, suc, ◌+◌, ◌*◌, ◌-◌, ◌/◌, min, Bool, false, cond, ◌||◌, List, eqb, ltb, get_or}
use Rattle.rules.specs.declared.Vote.{Vote}
use Rattle.rules.specs.declared.Vote.TheVariants.{Count, None}
use Rattle.rules.specs.Parameters.{c0, c1, restart, none_word}

-- one for half 0, the other for half 1
abbrev pub at_half : {A : Type 0} → ℕ → A → A → A
at_half i zeroth first = cond (eqb i 0) zeroth first

-- RULES 3: half 0 has "the first n/2" cards, half 1 "the rest"
abbrev pub half_cards : ℕ → ℕ → ℕ
half_cards i n = at_half i (n / 2) (n - n / 2)

-- the first card of half i
abbrev pub half_first : ℕ → ℕ → ℕ
half_first i n = at_half i 0 (n / 2)

-- RULES 3: "f0 = (f-1)/2", "f1 = (f-1)/2, rounded up"
abbrev pub half_broken : ℕ → ℕ → ℕ
half_broken i f = at_half i ((f - 1) / 2) ((f - 1 + 1) / 2)

-- RULES 3: "c0 and c1 come from the f of the group that is split."
abbrev pub half_modulus : ℕ → ℕ → ℕ
half_modulus i f = at_half i (c0 f) (c1 f)

-- the half that a card is in
abbrev pub half_of : ℕ → ℕ → ℕ
half_of n card = cond (ltb card (n / 2)) 0 1

-- What is heard: the word j of the sender u. For a half it is what is heard from the half's first card on, past the eight
-- words of the group around it. RULES 1: "Cards are numbered from 0 within the group in question."
-- RULES 4.1: "the outermost group first"
abbrev pub heard_from : (ℕ → ℕ → ℕ) → ℕ → ℕ → ℕ → ℕ → ℕ
heard_from hear first base u j = hear (first + u) (base + j)

abbrev pub heard_in_half : ℕ → ℕ → (ℕ → ℕ → ℕ) → ℕ → ℕ → ℕ
heard_in_half i n hear = heard_from hear (half_first i n) 8

-- where the word j of the card u is in a table of records of w words
abbrev pub place : ℕ → ℕ → ℕ → ℕ
place w u j = u * w + j

-- what is heard if the records are one after the other
abbrev pub heard_in : ℕ → List ℕ → ℕ → ℕ → ℕ
heard_in w records u j = get_or records (place w u j) 0

-- RULES 4.1: "for a split group eight words: m0 m1 M0 M1 w0 w1 a b"
abbrev pub m_place : ℕ → ℕ
m_place i = i

abbrev pub vote_place : ℕ → ℕ
vote_place i = 2 + i

abbrev pub wait_place : ℕ → ℕ
wait_place i = 4 + i

abbrev pub b_place : ℕ
b_place = 7

-- RULES 4.1: "for a group with f = 0, which is the last one, one word: a"
abbrev pub output_place : ℕ → ℕ
output_place f = cond (eqb f 0) 0 6

-- How many words of the record the card of the group uses. RULES 4.1: "Words beyond these are written 0 and never read."
-- f gets smaller on each round, so k > f rounds are enough
unfoldable pub own_words : ℕ → ℕ → ℕ → ℕ → ℕ
own_words zero n f card = 0
own_words (suc k) n zero card = 1
own_words (suc k) n (suc f) card =
    let i = half_of n card in
    8 + own_words k (half_cards i n) (half_broken i (suc f)) (card - half_first i n)

-- May other cards read the word j of the card? They may read m0, m1 and a of a split group, and a of a group with f = 0
unfoldable pub carried : ℕ → ℕ → ℕ → ℕ → ℕ → Bool
carried zero n f card j = false
carried (suc k) n zero card j = eqb j (output_place 0)
carried (suc k) n (suc f) card j =
    let i = half_of n card in
    cond (ltb j 8) (eqb j (m_place 0) || eqb j (m_place 1) || eqb j (output_place (suc f)))
    (carried k (half_cards i n) (half_broken i (suc f)) (card - half_first i n) (j - 8))

-- RULES 4.2: "An output a, or an M, at or above its modulus is none."; "An m at or above ci is not counted."
unfoldable pub read_vote : ℕ → ℕ → Vote
read_vote m word = cond (ltb word m) (Count word) None

-- the output of a group, of a card's words from that group on; RULES 4.2: "The modulus of a is the group's c"
abbrev pub output_of : ℕ → ℕ → (ℕ → ℕ) → Vote
output_of f c words = read_vote c (words (output_place f))

-- mi as it was sent, Mi as it is kept; RULES 4.2: "the modulus of Mi is ci"
abbrev pub sent_m : ℕ → ℕ → (ℕ → ℕ) → Vote
sent_m i f words = read_vote (half_modulus i f) (words (m_place i))

abbrev pub kept_vote : ℕ → ℕ → (ℕ → ℕ) → Vote
kept_vote i f words = read_vote (half_modulus i f) (words (vote_place i))

-- RULES 4.2: "A w above 2·c1 is 2·c1."
abbrev pub kept_wait : ℕ → ℕ → (ℕ → ℕ) → ℕ
kept_wait i f words = min (words (wait_place i)) (restart f)

-- RULES 4.2: "A b other than 1 is 0."
abbrev pub kept_b : (ℕ → ℕ) → Bool
kept_b words = eqb (words b_place) 1

-- how a vote and a bit are written; RULES 1: "None means that there is no count, and is written as the word 65,535."
unfoldable pub word_of : Vote → ℕ
word_of (Count x) = x
word_of None = none_word

abbrev pub bit_of : Bool → ℕ
bit_of b = cond b 1 0
