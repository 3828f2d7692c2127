-- RULES 2: the parameters.
use Rattle.std.specs.Prelude.{ℕ, zero, suc, ◌+◌, ◌*◌, ◌/◌, Bool, ◌||◌, eqb, ltb, leb}

-- RULES 2.1: n is "1 to 16", f is "0 to 5, and 3f < n"
abbrev pub most_cards : ℕ
most_cards = 16

abbrev pub most_broken : ℕ
most_broken = 5

-- RULES 2.1: c is "2 to 65,535"
abbrev pub least_modulus : ℕ
least_modulus = 2

abbrev pub most_modulus : ℕ
most_modulus = 65535

-- RULES 1: none "is written as the word 65,535"
abbrev pub none_word : ℕ
none_word = 65535

-- RULES 2.2: "A turn has t = 3(f+2) beats"
abbrev pub turn : ℕ → ℕ
turn f = 3 * (f + 2)

-- RULES 2.2: "count modulo c0 = 2t and c1 = 6t"
abbrev pub c0 : ℕ → ℕ
c0 f = 2 * turn f

abbrev pub c1 : ℕ → ℕ
c1 f = 6 * turn f

-- RULES 2.2: "A cooldown restarts at 2·c1."
abbrev pub restart : ℕ → ℕ
restart f = 2 * c1 f

-- RULES 2.2: "the number of binary digits of f": one more than those of its half, and "The number 0 has no binary digits."
-- k halvings are enough for f ≤ k
unfoldable pub digits_in : ℕ → ℕ → ℕ
digits_in zero f = 0
digits_in (suc k) zero = 0
digits_in (suc k) (suc f) = suc (digits_in k (suc f / 2))

unfoldable pub binary_digits : ℕ → ℕ
binary_digits f = digits_in f f

-- RULES 2.2: "A record has W words: 8 times the number of binary digits of f, plus 1."
abbrev pub record_words : ℕ → ℕ
record_words f = 8 * binary_digits f + 1

-- RULES 2.2: "T(0) = 1, and T(f) = T(f/2) + 2 + 21t"; k halvings are enough for f ≤ k
unfoldable pub beats_in : ℕ → ℕ → ℕ
beats_in zero f = 1
beats_in (suc k) zero = 1
beats_in (suc k) (suc f) = beats_in k (suc f / 2) + 2 + 21 * turn (suc f)

unfoldable pub settle_beats : ℕ → ℕ
settle_beats f = beats_in f f

-- RULES 9.1, refusal 1: "n is 0 or above 16"
abbrev pub bad_cards : ℕ → Bool
bad_cards n = eqb n 0 || ltb most_cards n

-- RULES 9.1, refusal 2: "f is above 5, or 3f is n or more"
abbrev pub bad_broken : ℕ → ℕ → Bool
bad_broken n f = ltb most_broken f || leb n (3 * f)

-- RULES 9.1, refusal 3: "c is below 2 or above 65,535"
abbrev pub bad_modulus : ℕ → Bool
bad_modulus c = ltb c least_modulus || ltb most_modulus c
