-- The run of a group: what its cards hold and hear, beat after beat.
use Rattle.std.specs.Prelude.{◌≡◌, Bool, true, not, List, ℕ, zero, suc, ◌+◌, ◌*◌, ◌≤◌, ◌<◌, get_or}
use Rattle.rules.specs.Counting.{count_below}
use Rattle.rules.specs.Parameters.{record_words}
use Rattle.rules.specs.OneBeat.{group_next}
use Rattle.rules.specs.WholeBeat.{table_after}

-- RULES 13: "Let at most f cards be broken", of n cards, n > 3f: at most f are not sound
pub record Cards (n f : ℕ) (sound : ℕ → Bool) : Type 0 where
  pub few : 3 * f < n
  pub broken : count_below n (λ u. not (sound u)) ≤ f

-- `words r v j` is the word j of the card v after r beats, `hear r v u j` what v hears from u on the beat that follows. Nothing is
-- said of a card that is not sound: it may hold anything, and send anything to each card. The fuel only has to be enough for the
-- definition of a group's next words
pub record Run (n f c : ℕ) (sound : ℕ → Bool) : Type 0 where
  pub words : ℕ → ℕ → ℕ → ℕ
  pub hear : ℕ → ℕ → ℕ → ℕ → ℕ
  pub fuel : ℕ
  pub deep : f < fuel
  pub heard : (r v u : ℕ) → v < n → sound v ≡ true → u < n → sound u ≡ true → (j : ℕ) → hear r v u j ≡ words r u j
  pub steps : (r v : ℕ) → v < n → sound v ≡ true
      → (j : ℕ) → j < record_words f → words (r + 1) v j ≡ get_or (group_next fuel n f c (hear r v) v) j 0

-- the table after r whole beats from `start`, where the broken cards send `sent r` on the beat r
unfoldable pub table_at : ℕ → ℕ → ℕ → ℕ → List ℕ → (ℕ → List ℕ) → ℕ → List ℕ
table_at n f c set start sent zero = start
table_at n f c set start sent (suc r) = table_after n f c set (table_at n f c set start sent r) (sent r)
