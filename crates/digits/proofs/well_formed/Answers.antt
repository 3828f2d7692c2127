use Rattle.std.proofs.Common.{◌≡◌, List, [], ◌∷◌, ℕ, refl, ◌∙◌, rules}
use borrow.Author.Tests.{tests, eq-eqb}
use Rattle.std.specs.List.{list_all}
use Rattle.std.proofs.lemmas.Iterator.{YieldsList-from_slice}
use Rattle.std.proofs.lemmas.Iterator.Search.{all_from_yields_List}
use Rattle.rules.specs.Text.{is_digit, all_digits, well_formed}
use Rattle.digits.proofs.well_formed.Goals as goal

all_is : (text : List ℕ) → list_all is_digit text ≡ all_digits text
unfolding all_digits
all_is [] = refl
all_is (ch ∷ rest) = rw (all_is rest)

pub returns-then-text-size : goal.returns-then-text-size
unfolding well_formed
returns-then-text-size c =
    let text = c.args.text.now in
    rw (eq-eqb _ _ c.if-text-size.true)
    (all_from_yields_List is_digit _ _ _ c.all.ensures.ran (YieldsList-from_slice text cc)
    (λ x b q k. (search rules, search (rules, tests)))
    ∙ all_is text)

pub returns-else-text-size : goal.returns-else-text-size
unfolding well_formed
returns-else-text-size c = search (rules, tests)
