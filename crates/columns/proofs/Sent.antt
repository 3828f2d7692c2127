-- How many cards sent a value, as the cards are gone through one by one; the vote and the smallest supported count, by what
-- such a search finds.
use mathlib.Core.Path.{◌≡◌, refl, sym, ◌∙◌}
use mathlib.Core.Bool.{Bool, true, false, not}
use mathlib.Core.Logic.{⊎_elim}
use Prim.Native.Nat.{ℕ, ◌+◌, ◌*◌, ◌-◌, ◌≤◌, ◌<◌}
use native.Mathlib.Omega.{arith}
use lib.Dec.{eqb, ltb, leb}
use borrow.Author.Tests.{eqb-true, eqb-false, lt-ltb, le-ltb, le-leb, lt-leb, ne_eqb}
use Rattle.std.proofs.lemmas.Bool.{cases_Bool, cases_lt}
use Rattle.rules.specs.declared.Vote.{Vote}
use Rattle.rules.specs.declared.Vote.TheVariants.{Count, None}
use Rattle.rules.specs.Counting.{count_below, same}
use Rattle.rules.specs.Groups.{read_vote}
use Rattle.rules.specs.OneBeat.{sent_by, enough, vote, supported}
use Rattle.rules.proofs.Tests.{le_or_lt}
use Rattle.rules.proofs.Counting.{count_yes, count_no, count_same, count_not, count_le, count_some, count_split, count_apart}
use Rattle.rules.proofs.Counting.{least_at, least_none}
use Rattle.rules.proofs.Votes.{count_none, same_true, same_eq, read_below, read_above, read_is}

-- a word reads as x where it is x, which is below m; it reads as none where it is not below m
reads_x : (m word x : ℕ) → x < m → eqb word x ≡ same (read_vote m word) (Count x)
unfolding same
reads_x m word x l = ⊎_elim
    (λ (w : word < m). rw (read_below m word w))
    (λ (w : m ≤ word). rw (ne_eqb word x (λ e. omega arith), read_above m word w))
    (cases_lt word m)

reads_none : (m word : ℕ) → not (ltb word m) ≡ same (read_vote m word) None
unfolding same
reads_none m word = ⊎_elim
    (λ (w : word < m). rw (lt-ltb word m w, read_below m word w))
    (λ (w : m ≤ word). rw (le-ltb word m w, read_above m word w))
    (cases_lt word m)

-- so the cards that sent a count, those that sent another vote and those that sent none are counted by their words
pub sent_x : (words : ℕ → ℕ) (m n x : ℕ) → x < m
    → count_below n (λ (u : ℕ). eqb (words u) x) ≡ sent_by n (λ (u : ℕ). read_vote m (words u)) (Count x)
unfolding sent_by
sent_x words m n x l = count_same n _ _ (λ u lu. reads_x m (words u) x l)

pub sent_other : (words : ℕ → ℕ) (m n x : ℕ) → x < m
    → count_below n (λ (u : ℕ). not (eqb (words u) x)) + sent_by n (λ (u : ℕ). read_vote m (words u)) (Count x) ≡ n
sent_other words m n x l = omega (arith, count_not n (λ (u : ℕ). eqb (words u) x), sent_x words m n x l)

pub sent_none : (words : ℕ → ℕ) (m n : ℕ)
    → count_below n (λ (u : ℕ). ltb (words u) m) + sent_by n (λ (u : ℕ). read_vote m (words u)) None ≡ n
unfolding sent_by
sent_none words m n =
    omega (arith, count_not n (λ (u : ℕ). ltb (words u) m), count_same n _ _ (λ (u : ℕ) (lu : u < n). reads_none m (words u)))

-- no card sent a count that is not below m
pub sent_never : (words : ℕ → ℕ) (m n x : ℕ) → m ≤ x → sent_by n (λ (u : ℕ). read_vote m (words u)) (Count x) ≡ 0
unfolding sent_by
sent_never words m n x l = ⊎_elim
    (λ z. let u = count_some n _ z in
    let r = read_is m (words u.0) x (same_true _ _ u.2) in absurd (omega (arith, r.1)))
    (λ z. omega arith)
    (cases_lt 0 (count_below n (λ (u : ℕ). same (read_vote m (words u)) (Count x))))

-- enough cards sent a value where few enough sent another
pub enough_rest : (n f others cards : ℕ) → others + cards ≡ n → not (ltb f others) ≡ enough n f cards
unfolding enough
enough_rest n f others cards e = ⊎_elim
    (λ (l : others ≤ f). rw (le-ltb f others l, le-leb n (cards + f) (omega arith)))
    (λ (l : f < others). rw (lt-ltb f others l, lt-leb n (cards + f) (omega arith)))
    (le_or_lt others f)

-- of no card at all that is asked only where all may be broken
pub enough_zero : (n f : ℕ) → leb n f ≡ enough n f 0
unfolding enough
enough_zero n f = let e : 0 + f ≡ f = omega arith in rw e

-- the further one goes, the more there are
count_grows : (p : ℕ → Bool) (u n : ℕ) → u ≤ n → count_below u p ≤ count_below n p
count_grows p u n l =
    let e : u + (n - u) ≡ n = omega arith in
    let s : count_below n p ≡ count_below u p + count_below (n - u) (λ (v : ℕ). p (u + v)) = rw e at (count_split u (n - u) p) in
    omega arith

-- where too many of the first u cards pass a test, too many do; at the last card it is decided
pub more_already : (p : ℕ → Bool) (n few u : ℕ) → u ≤ n → few < count_below u p → ltb few (count_below n p) ≡ true
more_already p n few u l more = lt-ltb few (count_below n p) (omega (arith, count_grows p u n l))

pub never_more : (p : ℕ → Bool) (n few u : ℕ) → u ≡ n → count_below u p ≤ few → ltb few (count_below n p) ≡ false
never_more p n few u e l = rw (← e) (le-ltb few (count_below u p) l)

-- one card more
pub sent_yes : (heard : ℕ → Vote) (u : ℕ) (y : Vote) → heard u ≡ y → sent_by (u + 1) heard y ≡ sent_by u heard y + 1
unfolding sent_by
sent_yes heard u y e = count_yes u (λ (v : ℕ). same (heard v) y) (same_eq (heard u) y e)

pub sent_no : (heard : ℕ → Vote) (u : ℕ) (y : Vote) → (heard u ≡ y → ⊥) → sent_by (u + 1) heard y ≡ sent_by u heard y
unfolding sent_by
sent_no heard u y ne = ⊎_elim
    (λ (t : same (heard u) y ≡ true). absurd (ne (same_true (heard u) y t)))
    (λ (t : same (heard u) y ≡ false). count_no u (λ (v : ℕ). same (heard v) y) t)
    (cases_Bool (same (heard u) y))

pub sent_zero : (heard : ℕ → Vote) (y : Vote) → sent_by 0 heard y ≡ 0
unfolding sent_by count_below
sent_zero heard y = refl

pub sent_le : (heard : ℕ → Vote) (u : ℕ) (y : Vote) → sent_by u heard y ≤ u
unfolding sent_by
sent_le heard u y = count_le u (λ (v : ℕ). same (heard v) y)

pub sent_grows : (heard : ℕ → Vote) (u n : ℕ) (y : Vote) → u ≤ n → sent_by u heard y ≤ sent_by n heard y
unfolding sent_by
sent_grows heard u n y l = count_grows (λ (v : ℕ). same (heard v) y) u n l

-- where one card more leaves x short of enough votes, it leaves every value so
pub still_short : (heard : ℕ → Vote) (n f m u x : ℕ) → heard u ≡ Count x → sent_by (u + 1) heard (Count x) + f < n
    → ((j : ℕ) → j < m → sent_by u heard (Count j) + f < n) → (j : ℕ) → j < m → sent_by (u + 1) heard (Count j) + f < n
still_short heard n f m u x e s h j l = ⊎_elim
    (λ (t : eqb x j ≡ true). rw (← (eqb-true x j t)) s)
    (λ (t : eqb x j ≡ false). rw (sent_no heard u (Count j) (λ r. eqb-false x j t (cc (e, r)))) (h j l))
    (cases_Bool (eqb x j))

pub short_still : (heard : ℕ → Vote) (n f m u : ℕ) → heard u ≡ None
    → ((j : ℕ) → j < m → sent_by u heard (Count j) + f < n) → (j : ℕ) → j < m → sent_by (u + 1) heard (Count j) + f < n
short_still heard n f m u e h j l = rw (sent_no heard u (Count j) (λ r. count_none (sym r ∙ e))) (h j l)

-- two values are not sent by one card
pub sent_apart : (heard : ℕ → Vote) (n x y : ℕ) → (x ≡ y → ⊥) → sent_by n heard (Count x) + sent_by n heard (Count y) ≤ n
unfolding sent_by
sent_apart heard n x y ne =
    count_apart n (λ (v : ℕ). same (heard v) (Count x)) (λ (v : ℕ). same (heard v) (Count y))
    (λ v p q. let z : x ≡ y = cc (same_true (heard v) (Count x) p, same_true (heard v) (Count y) q) in ne z)

-- a value that n-f of the cards gone through sent is the vote: no other is
pub vote_found : (heard : ℕ → Vote) (n f m u x : ℕ) → 3 * f < n → x < m → u ≤ n → n ≤ sent_by u heard (Count x) + f
    → vote n f m heard ≡ Count x
unfolding vote enough
vote_found heard n f m u x few l lu q =
    least_at m (λ (j : ℕ). leb n (sent_by n heard (Count j) + f)) x l
    (le-leb n (sent_by n heard (Count x) + f) (omega (arith, sent_grows heard u n (Count x) lu)))
    (λ j lj. lt-leb n (sent_by n heard (Count j) + f)
    (omega (arith, sent_grows heard u n (Count x) lu, sent_apart heard n x j (omega arith))))

pub vote_none : (heard : ℕ → Vote) (n f m : ℕ) → ((j : ℕ) → j < m → sent_by n heard (Count j) + f < n) → vote n f m heard ≡ None
unfolding vote enough
vote_none heard n f m h = least_none m (λ (j : ℕ). leb n (sent_by n heard (Count j) + f)) (λ j l. lt-leb _ _ (h j l))

-- what is heard more than f times, some card sent
sender : (heard : ℕ → Vote) (n f x : ℕ) → f < sent_by n heard (Count x) → (v : ℕ) × (v < n) × (heard v ≡ Count x)
unfolding sent_by
sender heard n f x l =
    let s = count_some n (λ (v : ℕ). same (heard v) (Count x)) (omega arith) in
    (s.0, s.1, same_true (heard s.0) (Count x) s.2)

-- so it is enough to look at what was sent
pub supported_found : (heard : ℕ → Vote) (n f c best : ℕ) → best < c → f < sent_by n heard (Count best)
    → ((v x : ℕ) → v < n → heard v ≡ Count x → x < best → sent_by n heard (Count x) ≤ f) → supported n f c heard ≡ Count best
unfolding supported
supported_found heard n f c best l s h =
    least_at c (λ (x : ℕ). ltb f (sent_by n heard (Count x))) best l (lt-ltb _ _ s)
    (λ x lx. ⊎_elim (λ (a : sent_by n heard (Count x) ≤ f). le-ltb _ _ a)
    (λ (a : f < sent_by n heard (Count x)). let v = sender heard n f x a in le-ltb _ _ (h v.0 x v.1 v.2 lx))
    (le_or_lt (sent_by n heard (Count x)) f))

pub supported_none : (heard : ℕ → Vote) (n f c : ℕ)
    → ((v x : ℕ) → v < n → heard v ≡ Count x → x < c → sent_by n heard (Count x) ≤ f) → supported n f c heard ≡ None
unfolding supported
supported_none heard n f c h =
    least_none c (λ (x : ℕ). ltb f (sent_by n heard (Count x)))
    (λ x lx. ⊎_elim (λ (a : sent_by n heard (Count x) ≤ f). le-ltb _ _ a)
    (λ (a : f < sent_by n heard (Count x)). let v = sender heard n f x a in le-ltb _ _ (h v.0 x v.1 v.2 lx))
    (le_or_lt (sent_by n heard (Count x)) f))
