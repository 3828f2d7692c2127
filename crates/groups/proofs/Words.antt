-- What a group writes: its one word, or its eight and then those of the card's own half.
use mathlib.Core.Path.{◌≡◌, refl, sym, ◌∙◌}
use mathlib.Core.List.{List, ◌++◌}
use Prim.Native.Nat.{ℕ, zero, suc, ◌+◌, ◌-◌, ◌≤◌, ◌<◌}
use native.Mathlib.Omega.{arith}
use lib.ListN.{set}
use lib.Seq.{sets}
use Rattle.rules.specs.Parameters.{record_words}
use Rattle.rules.specs.Groups.{half_of, half_first, half_cards, half_broken, half_modulus, heard_in_half}
use Rattle.rules.specs.OneBeat.{leaf_next, level_next, group_next}
use Rattle.rules.proofs.Halves.{half_broken_lem, half_words_lem}
use Rattle.level.specs.declared.group.Group.{Group}
use Rattle.level.specs.declared.Level.{Level}
use Rattle.level.specs.Groups.{Fits, Split, half_group}
use Rattle.level.specs.Levels.{level_after, words_of}
use Rattle.level.proofs.Places.{half_fits}

sets_eight : (out : List ℕ) (base : ℕ) (l : Level) (rest : List ℕ)
    → sets out base (words_of l ++ rest) ≡ sets (sets out base (words_of l)) (base + 8) rest
sets_eight out base l rest =
    let e : suc (suc (suc (suc (suc (suc (suc (suc base))))))) ≡ base + 8 = omega arith in
    rw e

module _ (n f c : ℕ) (hear : ℕ → ℕ → ℕ) (card base : ℕ) where
  pub leaf_is : (out : List ℕ) (v : ℕ) → f ≡ 0 → v ≡ leaf_next c hear
      → (k : ℕ) → f < k → set out base v ≡ sets out base (group_next k n f c hear card)
  unfolding group_next
  leaf_is out v e r zero h = absurd (omega arith)
  leaf_is out v e r (suc k) h = rw (e, r)

-- the card's own half
abbrev own_half : ℕ → ℕ → ℕ → (ℕ → ℕ → ℕ) → ℕ → List ℕ
own_half k n f hear card =
    group_next k (half_cards (half_of n card) n) (half_broken (half_of n card) f) (half_modulus (half_of n card) f)
    (heard_in_half (half_of n card) n hear) (card - half_first (half_of n card) n)

pub node_is : (n f c : ℕ) (hear : ℕ → ℕ → ℕ) (card base : ℕ) (out now last : List ℕ) (l : Level) → 1 ≤ f
    → l ≡ level_after n f c hear card → now ≡ sets out base (words_of l)
    → ((k : ℕ) → f ≤ k → last ≡ sets now (base + 8) (own_half k n f hear card))
    → (k : ℕ) → f < k → last ≡ sets out base (group_next k n f c hear card)
unfolding group_next level_next level_after
node_is n f c hear card base out now last l some el eo half zero h = absurd (omega arith)
node_is n zero c hear card base out now last l some el eo half (suc k) h = absurd (omega arith)
node_is n (suc f) c hear card base out now last l some el eo half (suc k) h =
    half k (omega arith)
    ∙ rw (eo, el) (sym (sets_eight out base (level_after n (suc f) c hear card) (own_half k n (suc f) hear card)))

-- half i of a group: its f is less by more than half, it fits where the group does, and its words lie within the group's
pub record Smaller (g h : Group) (i : ℕ) : Type 0 where
  pub falls : h.f + h.f + 1 < g.f + g.f
  pub fits : Fits h
  pub words : h.base + record_words h.f ≤ g.base + record_words g.f
  pub cards : h.n ≡ half_cards i g.n

pub half_smaller : {g h : Group} (i : ℕ) → Split g → i < 2 → h ≡ half_group i g → Smaller g h i
half_smaller {g = g} i s l e =
    rw e
    (record {
      falls = omega (arith, half_broken_lem i g.f l, s.some);
      fits = half_fits s i l;
      words = omega (arith, half_words_lem i g.f l s.some);
      cards = refl;
    })
