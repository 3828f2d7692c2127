-- What a sound card of a split group holds after a beat, as it is read: what the definitions of one beat give.
use mathlib.Core.Path.{◌≡◌, refl, ap, ◌∙◌, fun_ext}
use mathlib.Core.Bool.{Bool, true, false, cond}
use mathlib.Core.List.{List, ◌++◌}
use Prim.Native.Nat.{ℕ, zero, suc, ◌+◌, ◌-◌, ◌%◌, ◌≤◌, ◌<◌}
use native.Mathlib.Nat.{mod-lt}
use native.Mathlib.Omega.{arith}
use lib.Dec.{eqb}
use lib.ListN.{get_or}
use borrow.Author.Tests.{ne_eqb}
use Rattle.std.proofs.lemmas.List.{get_or_append_left}
use Rattle.rules.specs.declared.Vote.{Vote}
use Rattle.rules.specs.declared.Vote.TheVariants.{Count, None}
use Rattle.rules.specs.Parameters.{c1, restart, none_word, record_words}
use Rattle.rules.specs.Groups.{half_cards, half_first, half_broken, half_modulus, half_of, heard_in_half}
use Rattle.rules.specs.Groups.{read_vote, word_of, bit_of, output_of, output_place, kept_vote, kept_wait, kept_b}
use Rattle.rules.specs.OneBeat.{Standing, follows, cooldown, kept_d, phase, gained}
use Rattle.rules.specs.OneBeat.{next_m, next_vote, next_wait, next_standing, level_next, group_next}
use Rattle.rules.proofs.Votes.{read_count, read_none}
use Rattle.rules.proofs.Lists.{behind_seam}
use Rattle.settle.specs.Run.{Run}
use Rattle.settle.proofs.King.{Beat, stepped}
use Rattle.settle.proofs.Majority.{vote_below}
use Rattle.rules.proofs.Halves.{each_half, half_modulus_lem, half_words_lem}

-- the words of the card's half
abbrev pub half_next : ℕ → ℕ → ℕ → (ℕ → ℕ → ℕ) → ℕ → ℕ → List ℕ
half_next k n f hear card i =
    group_next k (half_cards i n) (half_broken i f) (half_modulus i f) (heard_in_half i n hear) (card - half_first i n)

-- the words of a split group: eight of its own, and those of the card's half
next_split : (k n f c : ℕ) (hear : ℕ → ℕ → ℕ) (card : ℕ) → 1 ≤ f
    → group_next (suc k) n f c hear card ≡ level_next n f c hear card ++ half_next k n f hear card (half_of n card)
unfolding group_next
next_split k n zero c hear card p = absurd (omega arith)
next_split k n (suc f) c hear card p = refl

-- a vote is read as it was written
read_vote_lem : (m : ℕ) (y : Vote) → m ≤ none_word → ((x : ℕ) → y ≡ Count x → x < m) → read_vote m (word_of y) ≡ y
read_vote_lem m (Count x) l h = read_count m x (h x refl)
read_vote_lem m None l h = read_none m l

gained_below : (c : ℕ) (y : Vote) (x : ℕ) → 0 < c → gained c y ≡ Count x → x < c
unfolding gained
gained_below c (Count y) x p e = let s : (y + 1) % c ≡ x = cc in rw (← s) (mod-lt (y + 1) p)
gained_below c None x p e = let z : ◌≡◌ {A = ℕ} 0 1 = cc in absurd (omega arith)

cooldown_le : (m again wait : ℕ) (old new : Vote) → wait ≤ again → cooldown m again old new wait ≤ again
unfolding cooldown
cooldown_le m again wait old new l = go (follows m old new)
  where
    go : (t : Bool) → cond t (wait - 1) again ≤ again
    go true = omega arith
    go false = omega arith

read_bit : (b : Bool) → eqb (bit_of b) 1 ≡ b
read_bit true = refl
read_bit false = refl

-- the phase of the card v after r beats
abbrev pub phase_at : ℕ → ℕ → (ℕ → ℕ → ℕ → ℕ) → ℕ → ℕ → ℕ
phase_at n f words r v = phase (half_of n v) f (kept_d 0 f (words r v)) (kept_d 1 f (words r v))

-- a and b of the card v
abbrev pub standing : ℕ → ℕ → (ℕ → ℕ → ℕ) → ℕ → Standing
standing f c words v = record { a = output_of f c (words v); b = kept_b (words v) }

module _ (n f c : ℕ) (sound : ℕ → Bool) (pos : 1 ≤ f) (R : Run n f c sound) where
  -- a card hears itself
  own : (r v : ℕ) → v < n → sound v ≡ true → R.hear r v v ≡ R.words r v
  own r v lv sv = fun_ext (R.heard r v v lv sv lv sv)

  words_after : (r v j : ℕ) → v < n → sound v ≡ true → j < record_words f
      → R.words (r + 1) v j
      ≡ get_or (level_next n f c (R.hear r v) v ++ half_next (R.fuel - 1) n f (R.hear r v) v (half_of n v)) j 0
  words_after r v j lv sv l =
      let fuel : R.fuel ≡ suc (R.fuel - 1) = omega arith in
      let whole : group_next R.fuel n f c (R.hear r v) v
      ≡ level_next n f c (R.hear r v) v ++ half_next (R.fuel - 1) n f (R.hear r v) v (half_of n v) =
      ap (λ (k : ℕ). group_next k n f c (R.hear r v) v) fuel ∙ next_split (R.fuel - 1) n f c (R.hear r v) v pos in
      rw whole at (R.steps r v lv sv j l)

  -- the eight words of the group
  level_word : (r v j : ℕ) → v < n → sound v ≡ true → j < 8
      → R.words (r + 1) v j ≡ get_or (level_next n f c (R.hear r v) v) j 0
  unfolding level_next
  level_word r v j lv sv l =
      words_after r v j lv sv (omega (arith, half_words_lem 0 f (omega arith) pos))
      ∙ get_or_append_left (level_next n f c (R.hear r v) v) (half_next (R.fuel - 1) n f (R.hear r v) v (half_of n v)) 0 j l

  -- those of the card's half
  pub half_word : (r v j : ℕ) → v < n → sound v ≡ true → j + 8 < record_words f
      → R.words (r + 1) v (8 + j) ≡ get_or (half_next (R.fuel - 1) n f (R.hear r v) v (half_of n v)) j 0
  unfolding level_next
  half_word r v j lv sv l =
      words_after r v (8 + j) lv sv (omega arith)
      ∙ behind_seam (level_next n f c (R.hear r v) v) (half_next (R.fuel - 1) n f (R.hear r v) v (half_of n v)) 8 j refl

  pub m_after : (i r v : ℕ) → i < 2 → v < n → sound v ≡ true → R.words (r + 1) v i ≡ next_m i n f (R.hear r v)
  unfolding level_next
  m_after i r v l lv sv =
      each_half (λ i. R.words (r + 1) v i ≡ next_m i n f (R.hear r v))
      (level_word r v 0 lv sv (omega arith)) (level_word r v 1 lv sv (omega arith)) i l

  pub vote_after : (i r v : ℕ) → c1 f ≤ none_word → i < 2 → v < n → sound v ≡ true
      → kept_vote i f (R.words (r + 1) v) ≡ next_vote i n f (R.hear r v)
  unfolding level_next next_vote
  vote_after i r v small l lv sv =
      let word : R.words (r + 1) v (2 + i) ≡ word_of (next_vote i n f (R.hear r v)) =
      each_half (λ i. R.words (r + 1) v (2 + i) ≡ word_of (next_vote i n f (R.hear r v)))
      (level_word r v 2 lv sv (omega arith)) (level_word r v 3 lv sv (omega arith)) i l in
      rw word
      (read_vote_lem (half_modulus i f) (next_vote i n f (R.hear r v)) (omega (arith, half_modulus_lem i f l))
      (λ x e. vote_below n f (half_modulus i f) _ x e))

  pub wait_after : (i r v : ℕ) → c1 f ≤ none_word → i < 2 → v < n → sound v ≡ true
      → let old = R.words r v in
      let new = R.words (r + 1) v in
      kept_wait i f new ≡ cooldown (half_modulus i f) (restart f) (kept_vote i f old) (kept_vote i f new) (kept_wait i f old)
  unfolding level_next next_wait
  wait_after i r v small l lv sv =
      let word : R.words (r + 1) v (4 + i) ≡ next_wait i n f (R.hear r v) (R.hear r v v) =
      each_half (λ i. R.words (r + 1) v (4 + i) ≡ next_wait i n f (R.hear r v) (R.hear r v v))
      (level_word r v 4 lv sv (omega arith)) (level_word r v 5 lv sv (omega arith)) i l in
      let old = R.words r v in
      rw (word, own r v lv sv, vote_after i r v small l lv sv)
      (omega (
        arith,
        cooldown_le (half_modulus i f) (restart f) (kept_wait i f old) (kept_vote i f old) (next_vote i n f (R.hear r v)) (omega arith),
      ))

  -- what is read of a: a group that is split keeps it in its word 6
  output_is : (words : ℕ → ℕ) → output_of f c words ≡ read_vote c (words 6)
  output_is words = rw (ne_eqb f 0 (omega arith))

  -- a and b take one step of the phase king, at the card's own phase
  pub beat : (r : ℕ) → 0 < c → c ≤ none_word
      → Beat n f c sound (phase_at n f R.words r) (standing f c (R.words r)) (λ v u. output_of f c (R.hear r v u))
      (standing f c (R.words (r + 1)))
  unfolding level_next next_standing stepped
  beat r p small =
      record {
        heard = λ v u lv sv lu su. ap (read_vote c) (R.heard r v u lv sv lu su (output_place f));
        moved = λ v lv sv.
            let a : output_of f c (R.words (r + 1) v) ≡ (next_standing n f c (R.hear r v) v).a =
            rw (output_is (R.words (r + 1) v), level_word r v 6 lv sv (omega arith))
            (read_vote_lem c (next_standing n f c (R.hear r v) v).a small (λ x e. gained_below c _ x p e)) in
            let b : kept_b (R.words (r + 1) v) ≡ (next_standing n f c (R.hear r v) v).b =
            rw (level_word r v 7 lv sv (omega arith)) (read_bit (next_standing n f c (R.hear r v) v).b) in
            rw (a, b, own r v lv sv);
      }
