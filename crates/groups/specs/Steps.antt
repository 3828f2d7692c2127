-- What a group's step requires of the group and of the buffer, and what it writes.
use Rattle.std.specs.Prelude.{◌≡◌, List, ℕ, ◌+◌, ◌≤◌, ◌<◌}
use Rattle.std.proofs.lemmas.List.Edits.{sets}
use Rattle.rules.specs.Parameters.{record_words}
use Rattle.rules.specs.OneBeat.{group_next}
use Rattle.level.specs.declared.group.Group.{Group}
use Rattle.level.specs.Groups.{Fits, Split, heard_by}
use Rattle.groups.specs.Halves.{half_next}

-- what `step_split` requires: a card of a split group, and room for the group's words
pub record SplitAsks (g : Group) (card room : ℕ) : Type 0 where
  pub split : Split g
  pub member : card < g.n
  pub words : g.base + record_words g.f ≤ room

-- what `step_group` requires: the same for any group
pub record GroupAsks (g : Group) (card room : ℕ) : Type 0 where
  pub fits : Fits g
  pub member : card < g.n
  pub words : g.base + record_words g.f ≤ room

-- the card's next words of the group are there from the group's base on; any number of rounds above f gives them
abbrev pub WritesGroup : Group → ℕ → List ℕ → List ℕ → Type 0
WritesGroup g card out out_next =
    (k : ℕ) → g.f < k → out_next ≡ sets out g.base (group_next k g.n g.f g.c (heard_by g) card)

-- those of the card's own half come after the group's eight
abbrev pub WritesHalf : Group → ℕ → List ℕ → List ℕ → Type 0
WritesHalf g card out out_next = (k : ℕ) → g.f ≤ k → out_next ≡ sets out (g.base + 8) (half_next k g card)
