-- What the number of an answer tells: whether the call is refused, and by which refusal.
use mathlib.Core.Path.{◌≡◌, refl, sym, ap, ◌∙◌}
use Prim.Native.Nat.{ℕ}
use native.Mathlib.Omega.{arith}
use Rattle.std.specs.Prelude.{◌≢◌, cond, eqb, Result, Ok, Err}
use Rattle.rules.specs.declared.Refusal.{Refusal}
use Rattle.rules.specs.declared.Refusal.TheVariants.{Cards, Broken, Modulus, Card, Records, Output, Set, Sent, Lag, Text, Beat}
use Rattle.rules.specs.Refusals.{number_of, number_in, value_in}

-- no refusal has the number 0
pub number_not_0 : (r : Refusal) → number_of r ≢ 0
number_not_0 Cards e = absurd (omega arith)
number_not_0 Broken e = absurd (omega arith)
number_not_0 Modulus e = absurd (omega arith)
number_not_0 Card e = absurd (omega arith)
number_not_0 Records e = absurd (omega arith)
number_not_0 Output e = absurd (omega arith)
number_not_0 Set e = absurd (omega arith)
number_not_0 Sent e = absurd (omega arith)
number_not_0 Lag e = absurd (omega arith)
number_not_0 Text e = absurd (omega arith)
number_not_0 Beat e = absurd (omega arith)

-- the refusal with a number
refusal_at : ℕ → Refusal
refusal_at k =
    cond (eqb k 1) Cards
    (cond (eqb k 2) Broken
    (cond (eqb k 3) Modulus
    (cond (eqb k 4) Card
    (cond (eqb k 5) Records
    (cond (eqb k 6) Output
    (cond (eqb k 7) Set
    (cond (eqb k 8) Sent
    (cond (eqb k 9) Lag
    (cond (eqb k 10) Text Beat)))))))))

refusal_back : (r : Refusal) → refusal_at (number_of r) ≡ r
unfolding refusal_at
refusal_back Cards = refl
refusal_back Broken = refl
refusal_back Modulus = refl
refusal_back Card = refl
refusal_back Records = refl
refusal_back Output = refl
refusal_back Set = refl
refusal_back Sent = refl
refusal_back Lag = refl
refusal_back Text = refl
refusal_back Beat = refl

-- the number decides the refusal
pub same_refusal : (r s : Refusal) → number_of r ≡ number_of s → r ≡ s
same_refusal r s e = sym (refusal_back r) ∙ ap refusal_at e ∙ refusal_back s

-- the number and the value decide the answer
pub same_answer : {A : Type 0} (nothing : A) (x y : Result A Refusal)
    → number_in x ≡ number_in y → value_in nothing x ≡ value_in nothing y → x ≡ y
same_answer nothing (Ok a) (Ok b) e v = ap Ok v
same_answer nothing (Ok a) (Err s) e v = absurd (number_not_0 s (sym e))
same_answer nothing (Err r) (Ok b) e v = absurd (number_not_0 r e)
same_answer nothing (Err r) (Err s) e v = ap Err (same_refusal r s e)

-- where there is no value, the number alone
pub same_verdict : (x y : Result (Unit {0}) Refusal) → number_in x ≡ number_in y → x ≡ y
same_verdict x y e = same_answer tt x y e refl
