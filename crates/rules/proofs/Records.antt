-- How long a group's words and a card's record are.
use mathlib.Core.Path.{◌≡◌}
use mathlib.Core.Logic.{⊎_elim}
use mathlib.Core.Bool.{true, false}
use mathlib.Core.List.{List}
use Prim.Native.Nat.{ℕ, suc, ◌*◌, ◌≤◌, ◌<◌}
use native.Mathlib.Nat.{mul-le-mul_left}
use native.Mathlib.Omega.{arith}
use lib.Dec.{eqb}
use lib.ListN.{length}
use borrow.Author.Tests.{eqb-false}
use Rattle.std.proofs.lemmas.Bool.{cases_Bool}
use Rattle.rules.specs.Parameters.{most_cards, most_broken, digits_in, binary_digits, record_words}
use Rattle.rules.specs.Groups.{output_place}
use Rattle.rules.specs.OneBeat.{group_next, next_record}
use Rattle.rules.specs.WholeBeat.{is_broken, held_record, record_after}
use Rattle.rules.proofs.Digits.{digits_half, digits_mono}
use Rattle.rules.proofs.Lists.{tabulate_length, padded_length}
use Rattle.rules.proofs.Heard.{written, own_most}

-- a record of an allowed shape is short, and so is a table of them
pub words_most : (f : ℕ) → f ≤ most_broken → record_words f ≤ 25
unfolding binary_digits digits_in
words_most f l = omega (arith, digits_mono f 5 l)

pub table_most : (n f : ℕ) → n ≤ most_cards → f ≤ most_broken → n * record_words f ≤ 400
table_most n f ln lf =
    let a : n * record_words f ≤ n * 25 = mul-le-mul_left n (words_most f lf) in
    omega arith

-- a split group has its eight words, and a group's output stands in its words
pub eight_words : (f : ℕ) → 1 ≤ f → 8 < record_words f
eight_words f l = omega (arith, digits_half f l)

pub output_inside : (f : ℕ) → output_place f < record_words f
output_inside f = ⊎_elim
    (λ (e : eqb f 0 ≡ true). rw e (omega arith))
    (λ (e : eqb f 0 ≡ false). let ne = eqb-false f 0 e in rw e (omega (arith, eight_words f (omega arith))))
    (cases_Bool (eqb f 0))

-- a group's words fit its record
pub group_length : (k n f c : ℕ) (hear : ℕ → ℕ → ℕ) (card : ℕ) → length (group_next k n f c hear card) ≤ record_words f
group_length k n f c hear card = rw (written k n f c hear card) (own_most k n f card)

-- every record of the table has its W words
pub record_length : (n f c set : ℕ) (held sent : List ℕ) (v : ℕ) → length (record_after n f c set held sent v) ≡ record_words f
unfolding record_after held_record next_record
record_length n f c set held sent v = ⊎_elim
    (λ (e : is_broken set v ≡ true). rw e (tabulate_length (record_words f) _))
    (λ (e : is_broken set v ≡ false). rw e (padded_length (record_words f) _ (group_length (suc f) n f c _ v)))
    (cases_Bool (is_broken set v))
