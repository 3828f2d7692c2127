-- RULES 5: one beat of one card. "Everything on the right of a rule is from before the beat."
use Rattle.std.specs.Prelude.{ℕ, zero, suc, ◌+◌, ◌*◌, ◌-◌, ◌/◌, ◌%◌, Bool, true, false, cond, List, [], ◌∷◌, ◌++◌, eqb, ltb, leb}
use Rattle.std.specs.Prelude.{length, replicate}
use Rattle.rules.specs.declared.Vote.{Vote}
use Rattle.rules.specs.declared.Vote.TheVariants.{Count, None}
use Rattle.rules.specs.Counting.{count_below, largest_below, least, or_else, count_or0, same}
use Rattle.rules.specs.Parameters.{turn, restart, record_words}
use Rattle.rules.specs.Groups.{at_half, half_cards, half_first, half_broken, half_modulus, half_of, heard_in_half, output_of, sent_m}
use Rattle.rules.specs.Groups.{kept_vote}
use Rattle.rules.specs.Groups.{kept_wait, kept_b, word_of, bit_of}

-- one more, on a circle of c
abbrev pub plus_one : ℕ → ℕ → ℕ
plus_one c x = (x + 1) % c

-- How many of n cards sent the vote y. RULES 5.6: heard y "counts the cards whose a reads j"
unfoldable pub sent_by : ℕ → (ℕ → Vote) → Vote → ℕ
sent_by n heard y = count_below n (λ (u : ℕ). same (heard u) y)

-- RULES 5.3: "at least n-f cards of the group"
unfoldable pub enough : ℕ → ℕ → ℕ → Bool
enough n f cards = leb n (cards + f)

-- the largest number of n cards that sent the same value below m
unfoldable pub most_sent : ℕ → ℕ → (ℕ → Vote) → ℕ
most_sent m n heard = largest_below m (λ (x : ℕ). sent_by n heard (Count x))

-- RULES 5.2: "None is not counted. On a tie it is the smallest; if nothing counts it is 0."
unfoldable pub most_frequent : ℕ → ℕ → (ℕ → Vote) → ℕ
most_frequent m n heard =
    let most = most_sent m n heard in
    count_or0 (least m (λ (x : ℕ). leb most (sent_by n heard (Count x))))

-- RULES 5.3: "the value of mi that at least n-f cards of the group sent, else none"
unfoldable pub vote : ℕ → ℕ → ℕ → (ℕ → Vote) → Vote
vote n f m heard = least m (λ (x : ℕ). enough n f (sent_by n heard (Count x)))

-- RULES 5.4: "the old Mi and the new Mi are both counts, and the new one is the old one plus 1 modulo ci"
unfoldable pub follows : ℕ → Vote → Vote → Bool
follows m (Count old) (Count new) = eqb new (plus_one m old)
follows m (Count old) None = false
follows m None (Count new) = false
follows m None None = false

-- RULES 5.4: "then wi becomes 1 less, but not below 0. Otherwise wi becomes 2·c1."
unfoldable pub cooldown : ℕ → ℕ → Vote → Vote → ℕ → ℕ
cooldown m again old new wait = cond (follows m old new) (wait - 1) again

-- RULES 5.5: "di is Mi if wi is 0, else none"
unfoldable pub trusted : ℕ → Vote → Vote
trusted wait kept = cond (eqb wait 0) kept None

-- 3^i·t
abbrev pub span : ℕ → ℕ → ℕ
span i f = at_half i (turn f) (3 * turn f)

-- RULES 5.5: "The pointer pi is di divided by 3^i·t; it is none if di is none."
unfoldable pub pointer : ℕ → Vote → Vote
pointer part (Count d) = Count (d / part)
pointer part None = None

-- dp, or none if there is no pointer
unfoldable pub pointed : Vote → Vote → Vote → Vote
pointed (Count p) d0 d1 = at_half p d0 d1
pointed None d0 d1 = None

-- RULES 5.5: "A card of half i follows pi, or the other half's pointer if pi is none."; "If it follows the pointer p, its phase d
-- is dp modulo t. If there is no pointer, or dp is none, d is 0."
unfoldable pub phase : ℕ → ℕ → Vote → Vote → ℕ
phase i f d0 d1 =
    let p0 = pointer (span 0 f) d0 in
    let p1 = pointer (span 1 f) d1 in
    count_or0 (pointed (at_half i (or_else p0 p1) (or_else p1 p0)) d0 d1) % turn f

-- the two words that the three steps change
pub record Standing : Type 0 where
  pub a : Vote
  pub b : Bool

-- RULES 5.6: "If fewer than n-f cards sent this card's a, a becomes none. b stays."
unfoldable pub step0 : ℕ → ℕ → (ℕ → Vote) → Standing → Standing
step0 n f heard s = record { a = cond (enough n f (sent_by n heard s.a)) s.a None; b = s.b }

-- RULES 5.6: "the smallest count heard more than f times, or none if there is no such count"
unfoldable pub supported : ℕ → ℕ → ℕ → (ℕ → Vote) → Vote
supported n f c heard = least c (λ (x : ℕ). ltb f (sent_by n heard (Count x)))

-- RULES 5.6: "b becomes 1 if at least n-f cards sent this card's old a, else 0; here none is compared as if it were a value."
unfoldable pub step1 : ℕ → ℕ → ℕ → (ℕ → Vote) → Standing → Standing
step1 n f c heard s = record { a = supported n f c heard; b = enough n f (sent_by n heard s.a) }

-- RULES 5.6: "If a is none or b is 0, a becomes the king's a, or 0 if the king has none."
unfoldable pub obeyed : Vote → Bool → Vote → Vote
obeyed (Count x) true king = Count x
obeyed (Count x) false king = Count (count_or0 king)
obeyed None true king = Count (count_or0 king)
obeyed None false king = Count (count_or0 king)

-- RULES 5.6: "b becomes 1."
unfoldable pub step2 : Vote → Standing → Standing
step2 king s = record { a = obeyed s.a s.b king; b = true }

-- RULES 5.6: "d modulo 3 picks the step, and the king is card d/3 of the group."
unfoldable pub three_steps : ℕ → ℕ → ℕ → (ℕ → Vote) → ℕ → Standing → Standing
three_steps n f c heard d s =
    cond (eqb (d % 3) 0) (step0 n f heard s)
    (cond (eqb (d % 3) 1) (step1 n f c heard s) (step2 (heard (d / 3)) s))

-- RULES 5.6: "After each step a count gains 1 modulo c; none stays none."
unfoldable pub gained : ℕ → Vote → Vote
gained c (Count x) = Count (plus_one c x)
gained c None = None

-- RULES 5.2: "mi becomes the most frequent output among the cards of half i."
unfoldable pub next_m : ℕ → ℕ → ℕ → (ℕ → ℕ → ℕ) → ℕ
next_m i n f hear =
    most_frequent (half_modulus i f) (half_cards i n)
    (λ (u : ℕ). output_of (half_broken i f) (half_modulus i f) (heard_in_half i n hear u))

-- Mi, the vote on mi (RULES 5.3)
unfoldable pub next_vote : ℕ → ℕ → ℕ → (ℕ → ℕ → ℕ) → Vote
next_vote i n f hear = vote n f (half_modulus i f) (λ (u : ℕ). sent_m i f (hear u))

-- wi (RULES 5.4)
unfoldable pub next_wait : ℕ → ℕ → ℕ → (ℕ → ℕ → ℕ) → (ℕ → ℕ) → ℕ
next_wait i n f hear own =
    cooldown (half_modulus i f) (restart f) (kept_vote i f own) (next_vote i n f hear) (kept_wait i f own)

-- di (RULES 5.5)
unfoldable pub kept_d : ℕ → ℕ → (ℕ → ℕ) → Vote
kept_d i f own = trusted (kept_wait i f own) (kept_vote i f own)

-- a and b (RULES 5.6)
unfoldable pub next_standing : ℕ → ℕ → ℕ → (ℕ → ℕ → ℕ) → ℕ → Standing
next_standing n f c hear card =
    let own = hear card in
    let d = phase (half_of n card) f (kept_d 0 f own) (kept_d 1 f own) in
    let s = three_steps n f c (λ (u : ℕ). output_of f c (hear u)) d (record { a = output_of f c own; b = kept_b own }) in
    record { a = gained c s.a; b = s.b }

-- the eight words of a split group after the beat (RULES 4.1)
unfoldable pub level_next : ℕ → ℕ → ℕ → (ℕ → ℕ → ℕ) → ℕ → List ℕ
level_next n f c hear card =
    next_m 0 n f hear ∷ next_m 1 n f hear
    ∷ word_of (next_vote 0 n f hear) ∷ word_of (next_vote 1 n f hear)
    ∷ next_wait 0 n f hear (hear card) ∷ next_wait 1 n f hear (hear card)
    ∷ word_of (next_standing n f c hear card).a ∷ bit_of (next_standing n f c hear card).b ∷ []

-- RULES 5.1: "a becomes the first member's a plus 1, modulo c."; RULES 4.2: "an a out of range is read as 0"
unfoldable pub leaf_next : ℕ → (ℕ → ℕ → ℕ) → ℕ
leaf_next c hear = plus_one c (count_or0 (output_of 0 c (hear 0)))

-- A group's words after the beat, those of the card's own half last. RULES 5.7: "The card's own half also steps, as a group, on
-- the records of that half." f gets smaller on each round, so k > f rounds are enough
unfoldable pub group_next : ℕ → ℕ → ℕ → ℕ → (ℕ → ℕ → ℕ) → ℕ → List ℕ
group_next zero n f c hear card = []
group_next (suc k) n zero c hear card = leaf_next c hear ∷ []
group_next (suc k) n (suc f) c hear card =
    let i = half_of n card in
    level_next n (suc f) c hear card
    ++ group_next k (half_cards i n) (half_broken i (suc f)) (half_modulus i (suc f)) (heard_in_half i n hear) (card - half_first i n)

-- RULES 4.1: "Words beyond these are written 0"
unfoldable pub padded : ℕ → List ℕ → List ℕ
padded w words = words ++ replicate (w - length words) 0

-- one card's next record of W words
unfoldable pub next_record : ℕ → ℕ → ℕ → (ℕ → ℕ → ℕ) → ℕ → List ℕ
next_record n f c hear card = padded (record_words f) (group_next (suc f) n f c hear card)

-- RULES 7: "The count that a card shows is the outermost a, or none."
unfoldable pub shown_count : ℕ → ℕ → (ℕ → ℕ) → Vote
shown_count f c words = output_of f c words
