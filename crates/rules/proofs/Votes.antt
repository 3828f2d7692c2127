-- Laws of votes: when two are the same, how a word is read as one and written back, how many cards are enough.
use mathlib.Core.Path.{◌≡◌, refl, ap}
use mathlib.Core.Logic.{⊎_elim}
use mathlib.Core.Bool.{true, false}
use Prim.Native.Nat.{ℕ, ◌-◌, ◌≤◌, ◌<◌}
use native.Mathlib.Omega.{arith}
use lib.Dec.{ltb}
use borrow.Author.Tests.{eqb-true, eq-eqb, lt-ltb, le-ltb, ltb-true, leb-true, le-leb}
use Rattle.std.proofs.lemmas.Bool.{cases_Bool}
use Rattle.rules.specs.declared.Vote.{Vote}
use Rattle.rules.specs.declared.Vote.TheVariants.{Count, None}
use Rattle.rules.specs.Counting.{same}
use Rattle.rules.specs.Parameters.{none_word}
use Rattle.rules.specs.Groups.{read_vote, word_of}
use Rattle.rules.specs.OneBeat.{enough}
use Rattle.rules.proofs.Tests.{le_or_lt}

-- a count is never none
pub count_none : {x : ℕ} → Count x ≡ None → ⊥
count_none e = let z : ◌≡◌ {A = ℕ} 0 1 = cc in omega arith

pub same_true : (x y : Vote) → same x y ≡ true → x ≡ y
unfolding same
same_true (Count i) (Count j) e = ap Count (eqb-true i j e)
same_true (Count i) None e = cc
same_true None (Count j) e = cc
same_true None None e = refl

pub same_refl : (x : Vote) → same x x ≡ true
unfolding same
same_refl (Count i) = eq-eqb i i refl
same_refl None = refl

pub same_eq : (x y : Vote) → x ≡ y → same x y ≡ true
same_eq x y e = rw e (same_refl y)

pub read_below : (m word : ℕ) → word < m → read_vote m word ≡ Count word
unfolding read_vote
read_below m word l = rw (lt-ltb word m l)

pub read_above : (m word : ℕ) → m ≤ word → read_vote m word ≡ None
unfolding read_vote
read_above m word l = rw (le-ltb word m l)

-- a count that was read is the word, and below the modulus
pub read_is : (m word x : ℕ) → read_vote m word ≡ Count x → (word ≡ x) × (x < m)
unfolding read_vote
read_is m word x e = ⊎_elim
    (λ (t : ltb word m ≡ true). let s : word ≡ x = cc in (s, rw (← s) (ltb-true word m t)))
    (λ (t : ltb word m ≡ false). let z : ◌≡◌ {A = ℕ} 0 1 = cc in absurd (omega arith))
    (cases_Bool (ltb word m))

-- a count below the modulus, and none, are read as they were written
pub read_count : (m x : ℕ) → x < m → read_vote m (word_of (Count x)) ≡ Count x
unfolding word_of
read_count m x l = read_below m x l

pub read_none : (m : ℕ) → m ≤ none_word → read_vote m (word_of None) ≡ None
unfolding word_of
read_none m l = read_above m none_word l

-- so is whatever was read: a vote's number tells which it is
pub read_again : (m word : ℕ) → m ≤ none_word → read_vote none_word (word_of (read_vote m word)) ≡ read_vote m word
read_again m word l = ⊎_elim
    (λ (h : m ≤ word). rw (read_above m word h) (read_none none_word (omega arith)))
    (λ (h : word < m). rw (read_below m word h) (read_count none_word word (omega arith)))
    (le_or_lt m word)

-- enough are n-f cards or more, whichever test says so
pub enough_true : (n f cards : ℕ) → enough n f cards ≡ true → n - f ≤ cards
unfolding enough
enough_true n f cards e = omega (arith, leb-true, ltb-true)

pub true_enough : (n f cards : ℕ) → n - f ≤ cards → enough n f cards ≡ true
unfolding enough
true_enough n f cards l = le-leb n _ (omega arith)
