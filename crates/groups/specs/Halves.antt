-- The next words of a card's own half, by the rules.
use Rattle.std.specs.Prelude.{List, ℕ, ◌-◌}
use Rattle.rules.specs.Groups.{half_of, half_first, half_cards, half_broken, half_modulus, heard_in_half}
use Rattle.rules.specs.OneBeat.{group_next}
use Rattle.level.specs.declared.group.Group.{Group}
use Rattle.level.specs.Groups.{heard_by}

-- the next words of half i of a group, for a card of the group
abbrev pub half_words : ℕ → ℕ → Group → ℕ → List ℕ
half_words i k g card =
    group_next k (half_cards i g.n) (half_broken i g.f) (half_modulus i g.f)
    (heard_in_half i g.n (heard_by g)) (card - half_first i g.n)

abbrev pub half_next : ℕ → Group → ℕ → List ℕ
half_next k g card = half_words (half_of g.n card) k g card
