-- The level's struct, by the rules: as read from its words, after a vote, after the beat, as words.
use Rattle.std.specs.Prelude.{List, [], ◌∷◌, ℕ}
use Rattle.rules.specs.declared.Vote.{Vote}
use Rattle.rules.specs.Groups.{at_half, m_place, kept_vote, kept_wait, kept_b, output_of, word_of, bit_of}
use Rattle.rules.specs.OneBeat.{cooldown, next_m, next_vote, next_wait, next_standing}
use Rattle.level.specs.declared.Level.{Level}

abbrev pub level_read : ℕ → ℕ → (ℕ → ℕ) → Level
level_read f c words =
    record {
      m0 = words (m_place 0);
      m1 = words (m_place 1);
      vote0 = kept_vote 0 f words;
      vote1 = kept_vote 1 f words;
      wait0 = kept_wait 0 f words;
      wait1 = kept_wait 1 f words;
      a = output_of f c words;
      b = kept_b words;
    }

-- the level with Mi and wi changed
abbrev pub voted : ℕ → Level → Vote → ℕ → ℕ → Level
voted i l new m again =
    record {
      m0 = l.m0;
      m1 = l.m1;
      vote0 = at_half i new l.vote0;
      vote1 = at_half i l.vote1 new;
      wait0 = at_half i (cooldown m again l.vote0 new l.wait0) l.wait0;
      wait1 = at_half i l.wait1 (cooldown m again l.vote1 new l.wait1);
      a = l.a;
      b = l.b;
    }

-- the level of a card after the beat
unfoldable pub level_after : ℕ → ℕ → ℕ → (ℕ → ℕ → ℕ) → ℕ → Level
level_after n f c hear card =
    record {
      m0 = next_m 0 n f hear;
      m1 = next_m 1 n f hear;
      vote0 = next_vote 0 n f hear;
      vote1 = next_vote 1 n f hear;
      wait0 = next_wait 0 n f hear (hear card);
      wait1 = next_wait 1 n f hear (hear card);
      a = (next_standing n f c hear card).a;
      b = (next_standing n f c hear card).b;
    }

-- its eight words
abbrev pub words_of : Level → List ℕ
words_of l =
    l.m0 ∷ l.m1 ∷ word_of l.vote0 ∷ word_of l.vote1 ∷ l.wait0 ∷ l.wait1 ∷ word_of l.a ∷ bit_of l.b ∷ []
