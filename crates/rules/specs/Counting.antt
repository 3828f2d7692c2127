-- What the rules take for granted: counting cards, the smallest number that passes a test, lists by their places.
use Rattle.std.specs.Prelude.{ℕ, zero, suc, ◌+◌, max, Bool, true, false, cond, List, [], ◌∷◌, ◌++◌, eqb}
use Rattle.rules.specs.declared.Vote.{Vote}
use Rattle.rules.specs.declared.Vote.TheVariants.{Count, None}

-- how many of the numbers below n pass the test
unfoldable pub count_below : ℕ → (ℕ → Bool) → ℕ
count_below zero test = 0
count_below (suc n) test = count_below n test + cond (test n) 1 0

-- the largest of g 0, g 1, .., n of them; 0 if n is 0
unfoldable pub largest_below : ℕ → (ℕ → ℕ) → ℕ
largest_below zero g = 0
largest_below (suc n) g = max (largest_below n g) (g n)

-- the first, or the second if the first is none
unfoldable pub or_else : Vote → Vote → Vote
or_else (Count x) other = Count x
or_else None other = other

-- the smallest number below n that passes the test, or none
unfoldable pub least : ℕ → (ℕ → Bool) → Vote
least zero test = None
least (suc n) test = or_else (least n test) (cond (test n) (Count n) None)

-- the count, or 0 for none
unfoldable pub count_or0 : Vote → ℕ
count_or0 (Count x) = x
count_or0 None = 0

-- are two votes the same? None is the same as none
unfoldable pub same : Vote → Vote → Bool
same (Count x) (Count y) = eqb x y
same (Count x) None = false
same None (Count y) = false
same None None = true

-- the lists g 0, g 1, .., n of them, one after the other
unfoldable pub rows : ℕ → (ℕ → List ℕ) → List ℕ
rows zero g = []
rows (suc n) g = rows n g ++ g n

-- the numbers g 0, g 1, .., n of them
abbrev pub tabulate : ℕ → (ℕ → ℕ) → List ℕ
tabulate n g = rows n (λ (i : ℕ). g i ∷ [])
