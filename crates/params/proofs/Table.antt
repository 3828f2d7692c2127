-- A table that a rule makes, entry after entry: the rule holds at each of its entries.
use mathlib.Core.Path.{◌≡◌, ap, ◌∙◌, sym}
use mathlib.Core.List.{List, [], ◌∷◌}
use Prim.Native.Nat.{ℕ, zero, suc, ◌+◌, ◌<◌}
use native.Mathlib.Nat.{add-zero, zero-add, add-suc, suc-add}
use native.Mathlib.Omega.{arith}
use lib.ListN.{get_or}

-- g i, g (i + 1), .., n of them
abbrev pub made_from : {A : Type 0} → ℕ → ℕ → (ℕ → A) → List A
made_from zero i g = []
made_from (suc n) i g = g i ∷ made_from n (suc i) g

from : {A : Type 0} (n i : ℕ) (g : ℕ → A) (d : A) (k : ℕ) → k < n → get_or (made_from n i g) k d ≡ g (i + k)
from zero i g d k l = absurd (omega arith)
from (suc n) i g d zero l = ap g (sym (add-zero i))
from (suc n) i g d (suc k) l = from n (suc i) g d k (omega arith) ∙ ap g (suc-add i k ∙ sym (add-suc i k))

pub at : {A : Type 0} (n : ℕ) (g : ℕ → A) (d : A) (k : ℕ) → k < n → get_or (made_from n 0 g) k d ≡ g k
at n g d k l = from n 0 g d k l ∙ ap g (zero-add k)
