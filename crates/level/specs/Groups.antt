-- A group's place in a table of records, and what is heard there.
use Rattle.std.specs.Prelude.{◌≡◌, ℕ, length, ◌+◌, ◌*◌, ◌≤◌, ◌<◌}
use Rattle.rules.specs.Parameters.{most_broken, most_modulus, record_words}
use Rattle.rules.specs.Groups.{at_half, heard_from, heard_in, half_cards, half_first, half_broken, half_modulus, output_place}
use Rattle.params.specs.declared.Row.{Row}
use Rattle.params.specs.Answers.{row_read}
use Rattle.columns.specs.declared.Column.{Column}
use Rattle.level.specs.declared.group.Group.{Group}

-- what is heard from the group's cards
abbrev pub heard_by : Group → ℕ → ℕ → ℕ
heard_by g = heard_from (heard_in g.w g.recs.now) g.first g.base

-- the word j of the group's cards
abbrev pub column_of : Group → ℕ → Column
column_of g j = record { recs = g.recs; w = g.w; first = g.first; n = g.n; at = g.base + j }

-- half i of a group
abbrev pub half_group : ℕ → Group → Group
half_group i g =
    record {
      recs = g.recs;
      w = g.w;
      first = g.first + half_first i g.n;
      base = g.base + 8;
      n = half_cards i g.n;
      f = half_broken i g.f;
      c = half_modulus i g.f;
    }

-- the outputs of a group's cards
abbrev pub outputs_of : Group → Column
outputs_of g = column_of g (output_place g.f)

-- the group lies within its table, and its f is allowed
pub record Fits (g : Group) : Type 0 where
  pub table : (g.first + g.n) * g.w ≤ length g.recs.now
  pub words : g.base + record_words g.f ≤ g.w
  pub few : 3 * g.f < g.n
  pub small : g.first + g.n < 256
  pub narrow : g.w < 256
  pub broken : g.f ≤ most_broken
  pub two : 2 ≤ g.c
  pub modulus : g.c ≤ most_modulus

-- and it is split
pub record Split (g : Group) : Type 0 where
  pub fits : Fits g
  pub some : 1 ≤ g.f

-- what is required to make half i of a group with the modulus m; for half 1 its first card is computed
pub record HalfAsks (i : ℕ) (g : Group) (m : ℕ) : Type 0 where
  pub some : 1 ≤ g.f
  pub narrow : g.base < 256
  pub ends : at_half i 0 (g.first + g.n) < 256
  pub modulus : m ≡ half_modulus i g.f

-- what is required to read a card's word j of a split group
pub record WordAsks (g : Group) (card j : ℕ) : Type 0 where
  pub split : Split g
  pub member : card < g.n
  pub place : j < 8

-- what is required to read or compute a card's level: a card of a split group, and the row of the table for its f
pub record LevelAsks (g : Group) (card : ℕ) (row : Row) : Type 0 where
  pub split : Split g
  pub member : card < g.n
  pub row_is : row ≡ row_read g.f

-- what the vote of half i requires: a split group, and the half's modulus
pub record NextVoteAsks (i : ℕ) (g : Group) (m : ℕ) : Type 0 where
  pub split : Split g
  pub a_half : i < 2
  pub modulus : m ≡ half_modulus i g.f
