-- Laws of digits: a digit and its value, a number and its digits, over the number of digits.
use mathlib.Core.Path.{◌≡◌, refl, sym, ap, ◌∙◌}
use mathlib.Core.Logic.{◌⊎◌, inl, inr, ⊎_elim}
use mathlib.Core.Bool.{true, ◌&&◌}
use mathlib.Core.List.{List, [], ◌∷◌, ◌++◌}
use Prim.Native.Nat.{ℕ, zero, suc, ◌+◌, ◌*◌, ◌-◌, ◌/◌, ◌%◌, ◌^◌, ◌≤◌, ◌<◌}
use native.Mathlib.Nat.{lt_of_lt_of_le, pow-suc, pow-succ', pow-le-pow_right, div-div-eq-div-mul}
use native.Mathlib.Numerals.{add-one}
use native.Mathlib.Omega.{arith}
use borrow.Author.Tests.{lt-ltb, le-ltb, le-leb, lt-leb, leb-true, eqb-true}
use lib.Dec.{leb, eqb}
use lib.ListN.{length, get_or, take, drop, length-drop}
use lib.Seq.{take-suc, get_or-drop, get_or_at}
use Rattle.std.proofs.lemmas.Bool.{and_parts, and_from, or_cases}
use Rattle.std.proofs.lemmas.List.{get_or_append_left}
use Rattle.rules.specs.Counting.{rows}
use Rattle.rules.specs.Text.{digit_of, is_digit, value_of, hex_of, number_at, all_digits, well_formed}
use Rattle.rules.proofs.Tests.{le_or_lt}
use Rattle.rules.proofs.Lists.{rows_same, tabulate_length, tabulate_at}

-- a value below 16 is that of its digit
pub value_of_digit : (x : ℕ) → x < 16 → value_of (digit_of x) ≡ x
unfolding digit_of value_of
value_of_digit x l = ⊎_elim
    (λ (h : 10 ≤ x). rw (le-ltb x 10 h, lt-leb (87 + x) 57 (omega arith)) (omega arith))
    (λ (h : x < 10). rw (lt-ltb x 10 h, le-leb (48 + x) 57 (omega arith)) (omega arith))
    (le_or_lt 10 x)

pub digit_is : (x : ℕ) → x < 16 → is_digit (digit_of x) ≡ true
unfolding digit_of is_digit
digit_is x l = ⊎_elim
    (λ (h : 10 ≤ x).
    let ch = 87 + x in
    rw (le-ltb x 10 h, le-leb 48 ch (omega arith), lt-leb ch 57 (omega arith), le-leb 97 ch (omega arith), le-leb ch 102 (omega arith)))
    (λ (h : x < 10). rw (lt-ltb x 10 h, le-leb 48 (48 + x) (omega arith), le-leb (48 + x) 57 (omega arith)))
    (le_or_lt 10 x)

in_range : (low ch high : ℕ) → leb low ch && leb ch high ≡ true → (low ≤ ch) × (ch ≤ high)
in_range low ch high e = let both = and_parts (leb low ch) (leb ch high) e in (leb-true low ch both.0, leb-true ch high both.1)

-- the two ranges of digits
pub digit_cases : (ch : ℕ) → is_digit ch ≡ true → ((48 ≤ ch) × (ch ≤ 57)) ⊎ ((97 ≤ ch) × (ch ≤ 102))
unfolding is_digit
digit_cases ch e = ⊎_elim
    (λ p. inl (in_range 48 ch 57 p))
    (λ p. inr (in_range 97 ch 102 p))
    (or_cases (leb 48 ch && leb ch 57) (leb 97 ch && leb ch 102) e)

pub value_below : (ch : ℕ) → is_digit ch ≡ true → value_of ch < 16
unfolding value_of
value_below ch e = ⊎_elim
    (λ (p : (48 ≤ ch) × (ch ≤ 57)). rw (le-leb ch 57 p.1) (omega arith))
    (λ (p : (97 ≤ ch) × (ch ≤ 102)). rw (lt-leb ch 57 (omega arith)) (omega arith))
    (digit_cases ch e)

-- no two digits have the same value
pub digit_of_value : (ch : ℕ) → is_digit ch ≡ true → digit_of (value_of ch) ≡ ch
unfolding value_of digit_of
digit_of_value ch e = ⊎_elim
    (λ (p : (48 ≤ ch) × (ch ≤ 57)). rw (le-leb ch 57 p.1, lt-ltb (ch - 48) 10 (omega arith)) (omega arith))
    (λ (p : (97 ≤ ch) × (ch ≤ 102)). rw (lt-leb ch 57 (omega arith), le-ltb (ch - 87) 10 (omega arith)) (omega arith))
    (digit_cases ch e)

-- every character of a text of digits is one, and the other way round
pub digit_at : (text : List ℕ) → all_digits text ≡ true → (i : ℕ) → i < length text → is_digit (get_or text i 0) ≡ true
unfolding all_digits
digit_at [] e i l = absurd (omega arith)
digit_at (ch ∷ rest) e zero l = (and_parts (is_digit ch) (all_digits rest) e).0
digit_at (ch ∷ rest) e (suc i) l = digit_at rest (and_parts (is_digit ch) (all_digits rest) e).1 i (omega arith)

pub digits_all : (text : List ℕ) → ((i : ℕ) → i < length text → is_digit (get_or text i 0) ≡ true) → all_digits text ≡ true
unfolding all_digits
digits_all [] h = refl
digits_all (ch ∷ rest) h =
    and_from (is_digit ch) (all_digits rest) (h 0 (omega arith)) (digits_all rest (λ i l. h (suc i) (omega arith)))

-- texts of digits, one after the other
pub digits_append : (s t : List ℕ) → all_digits s ≡ true → all_digits t ≡ true → all_digits (s ++ t) ≡ true
unfolding all_digits
digits_append [] t p q = q
digits_append (ch ∷ s) t p q =
    let both = and_parts (is_digit ch) (all_digits s) p in
    and_from (is_digit ch) (all_digits (s ++ t)) both.0 (digits_append s t both.1 q)

pub digits_rows : (n : ℕ) (g : ℕ → List ℕ) → ((i : ℕ) → all_digits (g i) ≡ true) → all_digits (rows n g) ≡ true
unfolding all_digits rows
digits_rows zero g h = refl
digits_rows (suc n) g h = digits_append (rows n g) (g n) (digits_rows n g h) (h n)

-- what is known of a text that is not refused by 10
pub formed : (size : ℕ) (text : List ℕ) → well_formed size text ≡ true → (length text ≡ size) × (all_digits text ≡ true)
unfolding well_formed
formed size text e =
    let both = and_parts (eqb (length text) size) (all_digits text) e in
    (eqb-true (length text) size both.0, both.1)

-- the last digit of a number, and the digits of the rest
pub hex_last : (k x : ℕ) → hex_of (suc k) x ≡ hex_of k (x / 16) ++ (digit_of (x % 16) ∷ [])
unfolding hex_of rows
hex_last k x =
    let e : suc k - 1 - k ≡ 0 = omega arith in
    let d : x / 1 ≡ x = omega arith in
    rw (
      e,
      d,
      rows_same k
          (λ (i : ℕ). digit_of (x / 16 ^ (suc k - 1 - i) % 16) ∷ [])
          (λ (i : ℕ). digit_of (x / 16 / 16 ^ (k - 1 - i) % 16) ∷ [])
          (λ i l. rw (shift i l)),
    )
  where
    shift : (i : ℕ) → i < k → x / 16 ^ (suc k - 1 - i) ≡ x / 16 / 16 ^ (k - 1 - i)
    shift i l =
        let e : suc k - 1 - i ≡ suc (k - 1 - i) = omega arith in
        rw (e, pow-succ' 16 (k - 1 - i)) (sym (div-div-eq-div-mul x 16 (16 ^ (k - 1 - i))))

pub hex_length : (k x : ℕ) → length (hex_of k x) ≡ k
unfolding hex_of
hex_length k x = tabulate_length k (λ (i : ℕ). digit_of (x / 16 ^ (k - 1 - i) % 16))

pub hex_digits : (k x : ℕ) → all_digits (hex_of k x) ≡ true
unfolding hex_of
hex_digits k x = digits_all (hex_of k x) (λ i l.
    rw (tabulate_at k (λ (i : ℕ). digit_of (x / 16 ^ (k - 1 - i) % 16)) i (omega (arith, hex_length k x)))
    (digit_is (x / 16 ^ (k - 1 - i) % 16) (omega arith)))

-- only the k characters matter
pub number_same : (s t : List ℕ) (a b k : ℕ) → ((j : ℕ) → j < k → get_or s (a + j) 0 ≡ get_or t (b + j) 0)
    → number_at s a k ≡ number_at t b k
unfolding number_at
number_same s t a b zero h = refl
number_same s t a b (suc k) h = rw (number_same s t a b k (λ j l. h j (omega arith)), h k (omega arith))

-- and what comes behind them does not
pub number_front : (s t : List ℕ) (k : ℕ) → k ≤ length s → number_at (s ++ t) 0 k ≡ number_at s 0 k
number_front s t k h = number_same (s ++ t) s 0 0 k (λ j l. get_or_append_left s t 0 (0 + j) (omega arith))

-- k digits make a number below 16 ^ k
pub number_below : (text : List ℕ) (at k : ℕ) → all_digits text ≡ true → at + k ≤ length text → number_at text at k < 16 ^ k
unfolding number_at
number_below text at zero e l = omega arith
number_below text at (suc k) e l =
    let last = value_below (get_or text (at + k) 0) (digit_at text e (at + k) (omega arith)) in
    omega (arith, pow-suc 16 k, number_below text at k e (omega arith), last)

pub number_within : (text : List ℕ) (at k most : ℕ) → all_digits text ≡ true → at + k ≤ length text → k ≤ most
    → number_at text at k < 16 ^ most
number_within text at k most e l m = lt_of_lt_of_le (number_below text at k e l) (pow-le-pow_right (omega arith) m)

-- one digit more
pub number_more : (text : List ℕ) (at k : ℕ) → number_at text at (k + 1) ≡ 16 * number_at text at k + value_of (get_or text (at + k) 0)
unfolding number_at
number_more text at k = rw (add-one k)

-- what is written reads back
pub number_of_hex : (k x : ℕ) → x < 16 ^ k → number_at (hex_of k x) 0 k ≡ x
unfolding number_at
number_of_hex zero x l = omega arith
number_of_hex (suc k) x l =
    let s : List ℕ = hex_of k (x / 16) in
    let t : List ℕ = digit_of (x % 16) ∷ [] in
    let d : get_or (s ++ t) (0 + k) 0 ≡ digit_of (x % 16) =
    ap (λ (j : ℕ). get_or (s ++ t) j 0) (omega arith) ∙ get_or_at s _ [] 0 k (hex_length k (x / 16)) in
    ap (λ (written : List ℕ). number_at written 0 (suc k)) (hex_last k x)
    ∙ rw (
      d,
      number_front s t k (omega (arith, hex_length k (x / 16))),
      number_of_hex k (x / 16) (omega (arith, pow-suc 16 k)),
      value_of_digit (x % 16) (omega arith),
    )
    (omega arith)

pub hex_none : (x : ℕ) → hex_of 0 x ≡ []
unfolding hex_of rows
hex_none x = refl

-- and no other digits make that number
pub hex_of_number : (text : List ℕ) (at k : ℕ) → all_digits text ≡ true → at + k ≤ length text
    → hex_of k (number_at text at k) ≡ take k (drop at text)
unfolding number_at
hex_of_number text at zero e l = hex_none 0
hex_of_number text at (suc k) e l =
    let ch : ℕ = get_or text (at + k) 0 in
    let d : is_digit ch ≡ true = digit_at text e (at + k) (omega arith) in
    let b : value_of ch < 16 = value_below ch d in
    let n : ℕ = number_at text at k in
    let q : (16 * n + value_of ch) / 16 ≡ n = omega arith in
    let r : (16 * n + value_of ch) % 16 ≡ value_of ch = omega arith in
    let f : k < length (drop at text) = simp length-drop (omega arith) in
    rw (
      hex_last k (16 * n + value_of ch),
      q,
      r,
      digit_of_value ch d,
      hex_of_number text at k e (omega arith),
      take-suc (drop at text) k 0 f,
      get_or-drop at text k 0,
    )
