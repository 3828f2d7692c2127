use Rattle.std.proofs.Common.{ℕ, ◌+◌, ◌-◌, ◌*◌, length, zero-add, sym, ◌∙◌, arith}
use Rattle.std.proofs.lemmas.List.{ext_get_or}
use Rattle.std.proofs.lemmas.List.Edits.{fill_by_more}
use Rattle.rules.specs.Text.{number_at, words_at}
use Rattle.digits.proofs.Hexadecimal.{formed, number_below}
use Rattle.digits.proofs.WordsOfText.{words_length, word_in}
use Rattle.digits.proofs.Parts.{digits_cut, number_part}
use Rattle.digits.proofs.words.read_words.Goals as goal

pub slice_bounds-number_of-end : goal.slice_bounds-number_of-end
slice_bounds-number_of-end c = omega (arith, (formed _ _ c.requires).0)

pub number_of-requires-clause-digits_alone : goal.number_of-requires-clause-digits_alone
number_of-requires-clause-digits_alone c = digits_cut (4 * c.loop-i.i) _ c.args.text.now (formed _ _ c.requires).1

-- the four digits make a number below 16 ^ 4
pub overflow_cast-word : goal.overflow_cast-word
overflow_cast-word c =
    let t = formed _ _ c.requires in
    let i = c.loop-i.i in
    let word = number_part c.args.text.now (4 * i) (4 * i + 4 - 4 * i) 4 (omega arith) (omega (arith, t.0)) in
    omega (arith, word, number_below c.args.text.now (4 * i) 4 t.1 (omega (arith, t.0)))

pub loop-i-preserved : goal.loop-i-preserved
loop-i-preserved c =
    let t = formed _ _ c.requires in
    let i = c.loop-i.i in
    let word = number_part c.args.text.now (4 * i) (4 * i + 4 - 4 * i) 4 (omega arith) (omega (arith, t.0)) in
    rw (c.number_of.ensures, word)
    (fill_by_more (λ (k : ℕ). number_at c.args.text.now (4 * k) 4) c.loop-i.out i 0 (omega arith) c.loop-i.invariant)

pub returns : goal.returns
returns c =
    let text = c.args.text.now in
    let out = c.loop-i.out in
    let count = length c.args.out.now in
    ext_get_or 0 out (words_at text 0 count) (c.loop-i.auto.out ∙ sym (words_length text 0 count)) (λ k l.
    c.loop-i.invariant k (omega arith) ∙ sym (rw zero-add at (word_in text 0 count k (omega arith))))
