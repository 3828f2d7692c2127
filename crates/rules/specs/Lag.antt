-- RULES 8: the lag.
use Rattle.std.specs.Prelude.{ℕ, ◌+◌, ◌*◌, ◌-◌, cond, leb, ℤ, pos, neg_ℤ}

-- how far one has to count on from y to get to x, on a circle of c
abbrev pub ahead : ℕ → ℕ → ℕ → ℕ
ahead c x y = cond (leb y x) (x - y) (x + c - y)

-- RULES 8: the number congruent to d modulo c "that is above -c/2 and at most c/2"
unfoldable pub nearest : ℕ → ℕ → ℤ
nearest c d = cond (leb (2 * d) c) (pos d) (neg_ℤ (pos (c - d)))

-- RULES 8: "The lag of x against y is the number congruent to x - y modulo c"
unfoldable pub lag_of : ℕ → ℕ → ℕ → ℤ
lag_of c x y = nearest c (ahead c x y)
