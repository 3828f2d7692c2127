use Rattle.std.proofs.Common.{◌≡◌, ℕ, ◌*◌, take, get_or}
use Rattle.rules.specs.Counting.{rows}
use Rattle.rules.specs.Text.{hex_of}
use Rattle.digits.proofs.words.put_words.Given as goal

abbrev pub invariant-loop-i : goal.invariant-loop-i
invariant-loop-i l = take (4 * l.i) l.out ≡ rows l.i (λ (i : ℕ). hex_of 4 (get_or l.words i 0))
