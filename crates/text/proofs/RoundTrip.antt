-- What is written reads back, and no second text reads as the same record: of words and texts, and of the calls themselves.
use mathlib.Core.Path.{◌≡◌, refl, sym, ap, ◌∙◌}
use mathlib.Core.Bool.{true}
use mathlib.Core.List.{List}
use Prim.Native.Nat.{ℕ, ◌+◌, ◌*◌, ◌/◌, ◌%◌, ◌<◌}
use native.Mathlib.Omega.{arith}
use borrow.Author.Tests.{eq-eqb}
use Rattle.std.proofs.lemmas.Bool.{and_from}
use lib.Dec.{eqb}
use lib.ListN.{length, get_or, drop}
use lib.Seq.{ext_get_or, get_or-take, get_or-drop}
use Rattle.rules.specs.Parameters.{record_words, bad_cards, bad_broken}
use Rattle.rules.specs.Refusals.{write_refusal, read_refusal}
use Rattle.rules.specs.Calls.{write_out, read_out}
use Rattle.rules.specs.Text.{hex_of, all_digits, well_formed, text_of, words_at}
use Rattle.rules.proofs.Shapes.{not_given}
use Rattle.digits.proofs.Hexadecimal.{formed, digits_rows, hex_digits, hex_of_number, number_of_hex, number_same, number_below}
use Rattle.digits.proofs.WordsOfText.{words_length, word_in, text_length, digit_in}
use Rattle.text.proofs.Accepted.{write_accepted, read_accepted}

-- the text of any words is well formed
pub written_formed : (words : List ℕ) → well_formed (4 * length words) (text_of words) ≡ true
unfolding well_formed text_of
written_formed words =
    and_from (eqb (length (text_of words)) (4 * length words)) (all_digits (text_of words))
    (eq-eqb (length (text_of words)) (4 * length words) (text_length words))
    (digits_rows (length words) (λ (i : ℕ). hex_of 4 (get_or words i 0)) (λ i. hex_digits 4 (get_or words i 0)))

-- what is written reads back: words of 16 bits are kept as they are, in range or not
pub reads_back : (words : List ℕ) → ((i : ℕ) → i < length words → get_or words i 0 < 65536)
    → words_at (text_of words) 0 (length words) ≡ words
reads_back words h =
    ext_get_or 0 (words_at (text_of words) 0 (length words)) words (words_length (text_of words) 0 (length words)) (λ i l.
    let li : i < length words = omega (arith, words_length (text_of words) 0 (length words)) in
    let w = get_or words i 0 in
    word_in (text_of words) 0 (length words) i li
    ∙ number_same (text_of words) (hex_of 4 w) (0 + 4 * i) 0 4
    (λ j lj. digit_in words i (0 + j) (0 + 4 * i + j) (omega arith) li (omega arith))
    ∙ number_of_hex 4 w (h i li))

-- no second text: a text that is read is the text of what it reads as
pub no_second_text : (k : ℕ) (text : List ℕ) → well_formed (4 * k) text ≡ true → text_of (words_at text 0 k) ≡ text
no_second_text k text e =
    let t = formed (4 * k) text e in
    let words = words_at text 0 k in
    let n : length words ≡ k = words_length text 0 k in
    let size : length (text_of words) ≡ 4 * k = omega (arith, text_length words) in
    ext_get_or 0 (text_of words) text (size ∙ sym t.0) (λ p l.
    let i = p / 4 in
    let li : i < k = omega arith in
    let at : ℕ = 0 + 4 * i in
    let q : at + p % 4 ≡ p = omega arith in
    digit_in words i (p % 4) p (omega arith) (omega arith) (omega arith)
    ∙ rw (
      word_in text 0 k i li,
      hex_of_number text at 4 t.1 (omega arith),
      get_or-take 4 (drop at text) (p % 4) 0 (omega arith),
      get_or-drop at text (p % 4) 0,
      q,
    ))

-- so two texts that read as the same record are the same
pub same_record_same_text : (k : ℕ) (s t : List ℕ) → well_formed (4 * k) s ≡ true → well_formed (4 * k) t ≡ true
    → words_at s 0 k ≡ words_at t 0 k → s ≡ t
same_record_same_text k s t p q e = sym (no_second_text k s p) ∙ ap text_of e ∙ no_second_text k t q

-- a word that is read has 16 bits
pub words_below : (k : ℕ) (text : List ℕ) → well_formed (4 * k) text ≡ true → (i : ℕ) → i < k → get_or (words_at text 0 k) i 0 < 65536
words_below k text e i l =
    let t = formed (4 * k) text e in
    rw (word_in text 0 k i l) (number_below text (0 + 4 * i) 4 t.1 (omega arith))

-- a record that is written is read back, by the calls themselves
pub written_is_read : (n f : ℕ) (words out back : List ℕ) → write_refusal n f (length words) (length out) ≡ 0
    → ((i : ℕ) → i < length words → get_or words i 0 < 65536) → length back ≡ record_words f
    → (read_refusal n f (write_out n f words out) (length back) ≡ 0) × (read_out n f (write_out n f words out) back ≡ words)
unfolding write_out read_out
written_is_read n f words out back e h m =
    let p = not_given 1 (bad_cards n) _ (omega arith) e in
    let q = not_given 2 (bad_broken n f) _ (omega arith) p.1 in
    let w = write_accepted n f (length words) (length out) e in
    let t : well_formed (4 * record_words f) (text_of words) ≡ true = rw w.0 at (written_formed words) in
    let r : read_refusal n f (text_of words) (length back) ≡ 0 = rw (p.0, q.0, eq-eqb (length back) (record_words f) m, t) in
    rw (e, r) (refl, rw (← w.0) (reads_back words h))

-- and a text that is read is what is written of its record
pub read_is_written : (n f : ℕ) (text back out : List ℕ) → read_refusal n f text (length back) ≡ 0 → length out ≡ 4 * record_words f
    → (write_refusal n f (length (read_out n f text back)) (length out) ≡ 0) × (write_out n f (read_out n f text back) out ≡ text)
unfolding write_out read_out
read_is_written n f text back out e m =
    let p = not_given 1 (bad_cards n) _ (omega arith) e in
    let q = not_given 2 (bad_broken n f) _ (omega arith) p.1 in
    let t = read_accepted n f text (length back) e in
    let size = eq-eqb (length (words_at text 0 (record_words f))) (record_words f) (words_length text 0 (record_words f)) in
    let w : write_refusal n f (length (words_at text 0 (record_words f))) (length out) ≡ 0 =
    rw (p.0, q.0, size, eq-eqb (length out) (4 * record_words f) m) in
    rw (e, w) (refl, no_second_text (record_words f) text t.1)

-- so no second text is read as the same record
pub no_second_text_read : (n f : ℕ) (s t back other : List ℕ) → read_refusal n f s (length back) ≡ 0 → read_refusal n f t (length other) ≡ 0
    → read_out n f s back ≡ read_out n f t other → s ≡ t
unfolding read_out
no_second_text_read n f s t back other p q e =
    let first = read_accepted n f s (length back) p in
    let second = read_accepted n f t (length other) q in
    same_record_same_text (record_words f) s t first.1 second.1 (rw (p, q) at e)
