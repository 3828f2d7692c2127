-- A column of a table of records: the same word of some neighbouring cards.
use Rattle.std.specs.Prelude.{◌≡◌, ℕ, ◌+◌, ◌*◌, ◌≤◌, ◌<◌, min, Bool, cond, length, ltb}
use Rattle.rules.specs.declared.Vote.{Vote}
use Rattle.rules.specs.Groups.{heard_in, read_vote}
use Rattle.columns.specs.declared.Column.{Column}

-- the column lies within its table
pub record Within (col : Column) : Type 0 where
  pub table : (col.first + col.n) * col.w ≤ length col.recs.now
  pub place : col.at < col.w
  pub few : col.n < 256

-- what `most_frequent` requires: some value lies below m, and a tally has room for all of them
pub record MostFrequentAsks (col : Column) (m : ℕ) : Type 0 where
  pub within : Within col
  pub some : 0 < m
  pub room : m ≤ 128

-- what `vote_of` requires: no second value can have enough votes, and a tally has room
pub record VoteAsks (col : Column) (f m : ℕ) : Type 0 where
  pub within : Within col
  pub few : 3 * f < col.n
  pub room : m ≤ 128

abbrev pub word_in : Column → ℕ → ℕ
word_in col u = heard_in col.w col.recs.now (col.first + u) col.at

abbrev pub votes_in : ℕ → Column → ℕ → Vote
votes_in m col u = read_vote m (word_in col u)

-- what may be answered to a word is what the test says of it
abbrev pub Computes : (ℕ → Bool → Type 0) → (ℕ → Bool) → Type 0
Computes may test = (word : ℕ) (answer : Bool) → word < 65536 → may word answer → answer ≡ test word

-- the more frequent of two values, the smaller on a tie
unfoldable pub leader : ℕ → ℕ → ℕ → ℕ → ℕ
leader best most x t = cond (ltb most t) x (cond (ltb t most) best (min x best))
