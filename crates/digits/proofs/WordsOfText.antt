-- Laws of words and their text: how long they are, and what stands where.
use mathlib.Core.Path.{◌≡◌}
use mathlib.Core.List.{List}
use Prim.Native.Nat.{ℕ, ◌+◌, ◌*◌, ◌<◌}
use native.Mathlib.Omega.{arith}
use lib.ListN.{length, get_or}
use Rattle.rules.specs.Text.{hex_of, number_at, text_of, words_at}
use Rattle.rules.proofs.Lists.{rows_length, rows_at, tabulate_length, tabulate_at}
use Rattle.digits.proofs.Hexadecimal.{hex_length}

pub words_length : (text : List ℕ) (at k : ℕ) → length (words_at text at k) ≡ k
unfolding words_at
words_length text at k = tabulate_length k (λ (i : ℕ). number_at text (at + 4 * i) 4)

pub word_in : (text : List ℕ) (at k i : ℕ) → i < k → get_or (words_at text at k) i 0 ≡ number_at text (at + 4 * i) 4
unfolding words_at
word_in text at k i l = tabulate_at k (λ (i : ℕ). number_at text (at + 4 * i) 4) i l

pub text_length : (words : List ℕ) → length (text_of words) ≡ 4 * length words
unfolding text_of
text_length words =
    omega (arith, rows_length (length words) 4 (λ (i : ℕ). hex_of 4 (get_or words i 0)) (λ i l. hex_length 4 (get_or words i 0)))

-- the digit j of the word i, at the place p
pub digit_in : (words : List ℕ) (i j p : ℕ) → 4 * i + j ≡ p → i < length words → j < 4
    → get_or (text_of words) p 0 ≡ get_or (hex_of 4 (get_or words i 0)) j 0
unfolding text_of
digit_in words i j p e li lj =
    let q : p ≡ i * 4 + j = omega arith in
    rw q (rows_at (length words) 4 (λ (i : ℕ). hex_of 4 (get_or words i 0)) (λ i l. hex_length 4 (get_or words i 0)) i j li lj)
