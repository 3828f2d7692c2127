use Rattle.std.proofs.Common.{◌≡◌, List, [], ℕ, ◌⊎◌, ◌+◌, ◌<◌, ◌≤◌, length, drop, refl, sym, ap, ◌∙◌, arith, rules}
use borrow.Author.Tests.{tests}
use lib.ListN.{drop_of_length-le}
use denote.Bor.{Bor}
use Rattle.std.specs.Prelude.{Option, Some, None, MatchOption}
use Rattle.std.specs.List.{slice_range}
use Rattle.std.specs.Option.{unwrap_or}
use Rattle.std.proofs.lemmas.Iterator.{YieldsList-from_slice}
use Rattle.std.proofs.lemmas.Iterator.Search.{position_from_yields_List}
use Rattle.std.proofs.lemmas.List.{take_rest}
use Rattle.text.specs.Lines.{line_length}
use Rattle.text.proofs.FirstLine.{is_feed, feed_at}
use Rattle.text.proofs.lines.line_end.Goals as goal

-- nothing is left beyond the text's end
rest_is : (text : List ℕ) (start : ℕ) (got : Option (Bor (List ℕ))) (none : Bor (List ℕ)) → none.now ≡ []
    → MatchOption got ((length text < start) ⊎ (length text < length text))
    (λ x. (start ≤ length text) × (length text ≤ length text) × (x.now ≡ slice_range text start (length text))
    × (length x.now + start ≡ length text))
    → (unwrap_or got none).now ≡ drop start text
rest_is text start None none e h = e ∙ sym (drop_of_length-le text {i = start} (omega arith))
rest_is text start (Some part) none e h = h.2 ∙ take_rest text start

pub returns : goal.returns
returns c =
    let text = c.args.text.now in
    let rest = c.unwrap_or-rest.result.now in
    let same : rest ≡ drop c.args.start text =
    ap (λ (r : Bor (List ℕ)). r.now) c.unwrap_or-rest.ensures ∙ rest_is text c.args.start c.get.result _ refl c.get.ensures.lookup.0 in
    let found =
    position_from_yields_List is_feed _ _ c.position-feed.result c.position-feed.ensures.ran (YieldsList-from_slice rest cc)
    (λ x b q k. (search rules, search (rules, tests))) in
    omega (arith, rw found at c.unwrap_or.ensures, feed_at rest, ap line_length same)
