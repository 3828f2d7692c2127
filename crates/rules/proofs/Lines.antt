-- Laws of the lines of a text: a line has no line feed, the first one ends at one, and which is line k.
use mathlib.Core.Path.{◌≡◌, refl, sym}
use mathlib.Core.Logic.{⊎_elim}
use mathlib.Core.Bool.{false}
use mathlib.Core.List.{List, [], ◌∷◌, ◌++◌}
use Prim.Native.Nat.{ℕ, suc, ◌-◌, ◌≤◌, ◌<◌}
use native.Mathlib.Omega.{arith}
use borrow.Author.Tests.{le-leb, lt-leb}
use lib.Dec.{eqb}
use lib.ListN.{length, get_or, get_or-eq_default}
use Rattle.rules.specs.Text.{line_feed, one_more, in_front, lines_of, has_line, line_at}
use Rattle.rules.proofs.Tests.{le_or_lt}

-- no line feed
unfoldable pub no_feed : List ℕ → Type 0
no_feed [] = Unit
no_feed (ch ∷ rest) = (eqb ch line_feed ≡ false) × no_feed rest

pub no_feed_more : (line : List ℕ) (ch : ℕ) → no_feed line → eqb ch line_feed ≡ false → no_feed (line ++ (ch ∷ []))
unfolding no_feed
no_feed_more [] ch p e = (e, tt)
no_feed_more (x ∷ line) ch p e = (p.0, no_feed_more line ch p.1 e)

-- the lines of a text by its first line
pub no_lines : lines_of [] ≡ []
unfolding lines_of
no_lines = refl

pub line_alone : (ch : ℕ) (line : List ℕ) → no_feed (ch ∷ line) → lines_of (ch ∷ line) ≡ (ch ∷ line) ∷ []
unfolding no_feed lines_of in_front one_more
line_alone ch [] p = rw p.0
line_alone ch (x ∷ line) p = rw (p.0, line_alone x line p.1)

pub line_first : (line rest : List ℕ) → no_feed line → lines_of (line ++ (line_feed ∷ rest)) ≡ line ∷ lines_of rest
unfolding no_feed lines_of in_front one_more
line_first [] rest p = refl
line_first (ch ∷ line) rest p = rw (p.0, line_first line rest p.1)

-- line k + 1 is the one at the place k, and both are empty where there is none
pub line_at_lem : (k : ℕ) (text : List ℕ) → line_at (suc k) text ≡ get_or (lines_of text) k []
unfolding line_at has_line
line_at_lem k text =
    let e : suc k - 1 ≡ k = omega arith in
    ⊎_elim
    (λ (l : suc k ≤ length (lines_of text)). rw (le-leb 1 (suc k) (omega arith), le-leb (suc k) (length (lines_of text)) l, e))
    (λ (l : length (lines_of text) < suc k).
    rw (le-leb 1 (suc k) (omega arith), lt-leb (suc k) (length (lines_of text)) l)
    (sym (get_or-eq_default (lines_of text) [] (omega arith))))
    (le_or_lt (suc k) (length (lines_of text)))
