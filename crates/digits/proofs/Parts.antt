-- Laws of a part of a text, as `&text[a..b]` reads: n characters from the place a on.
use Rattle.std.proofs.Common.{◌≡◌, List, ℕ, [], ◌∷◌, ◌+◌, ◌*◌, ◌≤◌, ◌<◌, true, length, get_or, take, drop, eqb}
use Rattle.std.proofs.Common.{zero, suc, refl, ap, ◌∙◌, arith, zero-add}
use Rattle.std.proofs.lemmas.Bool.{and_parts, and_from}
use borrow.Author.Tests.{eq-eqb}
use lib.Seq.{get_or-take, get_or-drop}
use Rattle.rules.specs.Text.{number_at, is_digit, all_digits, well_formed, words_at}
use Rattle.rules.proofs.Lists.{part_length, rows_same}
use Rattle.digits.proofs.Hexadecimal.{formed, number_same}

pub part_at : (text : List ℕ) (a n j : ℕ) → j < n → get_or (take n (drop a text)) j 0 ≡ get_or text (a + j) 0
part_at text a n j l = get_or-take n (drop a text) j 0 l ∙ get_or-drop a text j 0

-- what is cut from digits is digits
digits_from : (at : ℕ) (text : List ℕ) → all_digits text ≡ true → all_digits (drop at text) ≡ true
unfolding all_digits
digits_from zero text e = e
digits_from (suc at) [] e = refl
digits_from (suc at) (ch ∷ rest) e = digits_from at rest (and_parts (is_digit ch) (all_digits rest) e).1

digits_below : (k : ℕ) (text : List ℕ) → all_digits text ≡ true → all_digits (take k text) ≡ true
unfolding all_digits
digits_below zero text e = refl
digits_below (suc k) [] e = refl
digits_below (suc k) (ch ∷ rest) e =
    let both = and_parts (is_digit ch) (all_digits rest) e in
    and_from (is_digit ch) (all_digits (take k rest)) both.0 (digits_below k rest both.1)

pub digits_cut : (at k : ℕ) (text : List ℕ) → all_digits text ≡ true → all_digits (take k (drop at text)) ≡ true
digits_cut at k text e = digits_below k (drop at text) (digits_from at text e)

-- a part of a text that is not refused by 10 is not either
pub formed_part : (size : ℕ) (text : List ℕ) (a n k : ℕ) → well_formed size text ≡ true → n ≡ k → a + k ≤ size
    → well_formed k (take n (drop a text)) ≡ true
unfolding well_formed
formed_part size text a n k e m l =
    let t = formed size text e in
    let part = take n (drop a text) in
    let long : length part ≡ k = part_length text a n (omega arith) ∙ m in
    and_from (eqb (length part) k) (all_digits part) (eq-eqb _ _ long) (digits_cut a n text t.1)

-- what `number_of` makes of a part
pub number_part : (text : List ℕ) (a n k : ℕ) → n ≡ k → a + k ≤ length text
    → number_at (take n (drop a text)) 0 (length (take n (drop a text))) ≡ number_at text a k
number_part text a n k m l =
    let part = take n (drop a text) in
    let long : length part ≡ k = part_length text a n (omega arith) ∙ m in
    rw long (number_same part text 0 a k (λ j h. rw zero-add (part_at text a n j (omega arith))))

-- what `read_words` reads in a part
pub words_part : (text : List ℕ) (a n k : ℕ) → 4 * k ≤ n → words_at (take n (drop a text)) 0 k ≡ words_at text a k
unfolding words_at
words_part text a n k l =
    let part = take n (drop a text) in
    rows_same k (λ (i : ℕ). number_at part (0 + 4 * i) 4 ∷ []) (λ (i : ℕ). number_at text (a + 4 * i) 4 ∷ []) (λ i b.
    ap (λ (word : ℕ). word ∷ []) (number_same part text (0 + 4 * i) (a + 4 * i) 4 (λ j h.
    let p : 0 + 4 * i + j ≡ 4 * i + j = omega arith in
    let q : a + (4 * i + j) ≡ a + 4 * i + j = omega arith in
    rw p (part_at text a n (4 * i + j) (omega arith) ∙ rw q))))
