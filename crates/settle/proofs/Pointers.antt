-- The pointers of a split group: where both halves point to the settled half, all sound cards have its counter for their
-- phase, and a sound king has a whole turn there.
use mathlib.Core.Path.{◌≡◌, refl, ◌∙◌}
use mathlib.Core.Logic.{◌⊎◌, inl, inr, ⊎_elim}
use mathlib.Core.Bool.{Bool, true, false, cond}
use Prim.Native.Nat.{ℕ, zero, suc, ◌+◌, ◌*◌, ◌/◌, ◌%◌, ◌≤◌, ◌<◌}
use native.Mathlib.Nat.{div-eq_of_lt-le}
use native.Mathlib.Omega.{arith}
use lib.Dec.{eqb}
use Rattle.rules.specs.declared.Vote.{Vote}
use Rattle.rules.specs.declared.Vote.TheVariants.{Count, None}
use Rattle.rules.specs.Counting.{or_else, count_or0}
use Rattle.rules.specs.Parameters.{turn, c1, restart, none_word}
use Rattle.rules.specs.Groups.{at_half, half_cards, half_broken, half_modulus, half_of}
use Rattle.rules.specs.OneBeat.{span, pointer, pointed, phase, kept_d}
use Rattle.settle.specs.Run.{Cards, Run}
use Rattle.settle.proofs.Inc.{Counts}
use Rattle.rules.proofs.Halves.{each_half, other, other_less}
use Rattle.settle.proofs.Halves.{half_sound}
use Rattle.settle.proofs.Window.{window_zero, window_one}
use Rattle.settle.proofs.Turn.{whole_turn, phase_counts}
use Rattle.settle.proofs.Stable.{Stable, stable_counts}
use Rattle.settle.proofs.Fields.{phase_at}
use Rattle.settle.proofs.Seen.{shown_by_half, one_counter, seen}

-- one of two that are alike
alike : {A : Type 0} (t : Bool) {x y z : A} → x ≡ z → y ≡ z → cond t x y ≡ z
alike true p q = p
alike false p q = q

-- where one pointer is p and the other is p or none, both ways to follow them end at p
followed : (x y : Vote) (p : ℕ) → x ≡ Count p → (y ≡ None) ⊎ (y ≡ Count p) → (or_else x y ≡ Count p) × (or_else y x ≡ Count p)
unfolding or_else
followed x y p e h = ⊎_elim (λ (k : y ≡ None). (rw e, rw (k, e))) (λ (k : y ≡ Count p). (rw e, rw k)) h

-- the pointer of a d that is x, and of one that is none or points to p
pointer_is : (part p x : ℕ) (d : Vote) → d ≡ Count x → x / part ≡ p → pointer part d ≡ Count p
unfolding pointer
pointer_is part p x d e h = rw (e, h)

pointer_or : (part p : ℕ) (d : Vote) → (d ≡ None) ⊎ ((y : ℕ) × (d ≡ Count y) × (y / part ≡ p))
    → (pointer part d ≡ None) ⊎ (pointer part d ≡ Count p)
unfolding pointer
pointer_or part p d h = ⊎_elim
    (λ (e : d ≡ None). inl (rw e))
    (λ (y : (y : ℕ) × (d ≡ Count y) × (y / part ≡ p)). inr (pointer_is part p y.0 d y.1 y.2))
    h

-- whichever half the card is in: both pointers end at p, and dp is x
phase_led : (h f p x : ℕ) (d0 d1 : Vote)
    → (or_else (pointer (span 0 f) d0) (pointer (span 1 f) d1) ≡ Count p)
    × (or_else (pointer (span 1 f) d1) (pointer (span 0 f) d0) ≡ Count p)
    → at_half p d0 d1 ≡ Count x → phase h f d0 d1 ≡ x % turn f
unfolding phase pointed count_or0
phase_led h f p x d0 d1 both e =
    rw (alike (eqb h 0) both.0 both.1, e)

-- The d of half i is x and points to half i; that of the other half is none or points to half i too
phase_is : (i h f x : ℕ) (own : ℕ → ℕ) → i < 2 → kept_d i f own ≡ Count x → x / span i f ≡ i
    → (kept_d (other i) f own ≡ None) ⊎ ((y : ℕ) × (kept_d (other i) f own ≡ Count y) × (y / span (other i) f ≡ i))
    → phase h f (kept_d 0 f own) (kept_d 1 f own) ≡ x % turn f
unfolding other
phase_is zero h f x own l e k o =
    let g = followed (pointer (span 0 f) (kept_d 0 f own)) (pointer (span 1 f) (kept_d 1 f own)) 0
    (pointer_is (span 0 f) 0 x (kept_d 0 f own) e k) (pointer_or (span 1 f) 0 (kept_d 1 f own) o) in
    phase_led h f 0 x (kept_d 0 f own) (kept_d 1 f own) g e
phase_is (suc zero) h f x own l e k o =
    let g = followed (pointer (span 1 f) (kept_d 1 f own)) (pointer (span 0 f) (kept_d 0 f own)) 1
    (pointer_is (span 1 f) 1 x (kept_d 1 f own) e k) (pointer_or (span 0 f) 1 (kept_d 0 f own) o) in
    phase_led h f 1 x (kept_d 0 f own) (kept_d 1 f own) (g.1, g.0) e
phase_is (suc (suc i)) h f x own l e k o = absurd (omega arith)

-- half i's counter D and any counter E of the other half: for a turn of t beats within 9t both point to half i
shared_turn : (i f b : ℕ) (D E : ℕ → ℕ) → i < 2
    → Counts (half_modulus i f) D b (9 * turn f) → Counts (half_modulus (other i) f) E b (9 * turn f)
    → (s : ℕ) × (b ≤ s) × (s + turn f ≤ b + 9 * turn f)
    × ((r : ℕ) → s ≤ r → r < s + turn f → (D r / span i f ≡ i) × (E r / span (other i) f ≡ i))
unfolding other
shared_turn zero f b D E l dd ee =
    let w = window_zero (turn f) b D E (omega arith) dd ee in (
      w.0,
      w.1,
      w.2,
      λ r a k. let h = w.3 r a k in
          (div-eq_of_lt-le {k = 0} (turn f) (omega arith) (omega arith), div-eq_of_lt-le {k = 0} (3 * turn f) (omega arith) (omega arith)),
    )
shared_turn (suc zero) f b D E l dd ee =
    let w = window_one (turn f) b D E (omega arith) dd ee in (
      w.0,
      w.1,
      w.2,
      λ r a k. let h = w.3 r a k in let below = ee.below r (omega arith) (omega arith) in
          (div-eq_of_lt-le {k = 1} (3 * turn f) (omega arith) (omega arith), div-eq_of_lt-le {k = 1} (turn f) (omega arith) (omega arith)),
    )
shared_turn (suc (suc i)) f b D E l dd ee = absurd (omega arith)

-- the three beats of one sound king are the same at all sound cards, and over at the beat `end`
pub record SoundTurn (n f : ℕ) (sound : ℕ → Bool) (words : ℕ → ℕ → ℕ → ℕ) (end : ℕ) : Type 0 where
  pub king : ℕ
  pub first : ℕ
  pub member : king < n
  pub honest : sound king ≡ true
  pub over : first + 3 ≤ end
  pub step0 : (v : ℕ) → v < n → sound v ≡ true → phase_at n f words first v ≡ 3 * king
  pub step1 : (v : ℕ) → v < n → sound v ≡ true → phase_at n f words (first + 1) v ≡ 3 * king + 1
  pub step2 : (v : ℕ) → v < n → sound v ≡ true → phase_at n f words (first + 2) v ≡ 3 * king + 2

module _ (n f c : ℕ) (sound : ℕ → Bool) (cards : Cards n f sound) (pos : 1 ≤ f) (small : c1 f ≤ none_word)
    (R : Run n f c sound) (i : ℕ) (l : i < 2) where
  -- On 9t beats from b on, all sound cards have for half i's d one counter, and for the other half's d none or another
  -- counter: a sound king has its turn within them
  led : (b : ℕ) (Z : Stable n (half_modulus i f) b sound (λ r v. kept_d i f (R.words r v)))
      (E : ℕ → ℕ) → Counts (half_modulus (other i) f) E b (9 * turn f)
      → ((r v : ℕ) → b ≤ r → r < b + 9 * turn f → v < n → sound v ≡ true
      → (kept_d (other i) f (R.words r v) ≡ None) ⊎ (kept_d (other i) f (R.words r v) ≡ Count (E r)))
      → SoundTurn n f sound R.words (b + 9 * turn f)
  led b Z E ee trust =
      let w = shared_turn i f b Z.x E l (stable_counts n (half_modulus i f) b sound _ Z b (9 * turn f) (omega arith)) ee in
      let either = each_half (λ i. (half_modulus i f ≡ 2 * turn f) ⊎ (half_modulus i f ≡ 6 * turn f)) (inl refl) (inr refl) i l in
      let h = whole_turn n f sound cards pos (λ r. Z.x r % turn f) w.0
      (phase_counts (turn f) (half_modulus i f) w.0 Z.x (omega arith) either
      (stable_counts n (half_modulus i f) b sound _ Z w.0 (turn f) w.1)) in
      let at : (r v : ℕ) → w.0 ≤ r → r < w.0 + turn f → v < n → sound v ≡ true → phase_at n f R.words r v ≡ Z.x r % turn f
      = λ r v a k lv sv. phase_is i (half_of n v) f (Z.x r) (R.words r v) l (Z.shown r v (omega arith) lv sv) (w.3 r a k).0
      (⊎_elim inl (λ e. inr (E r, e, (w.3 r a k).1)) (trust r v (omega arith) (omega arith) lv sv)) in
      record {
        king = h.0;
        first = h.1;
        member = h.2;
        honest = h.3;
        over = omega arith;
        step0 = λ v lv sv. at h.1 v (omega arith) (omega arith) lv sv ∙ h.6;
        step1 = λ v lv sv. at (h.1 + 1) v (omega arith) (omega arith) lv sv ∙ h.7;
        step2 = λ v lv sv. at (h.1 + 2) v (omega arith) (omega arith) lv sv ∙ h.8;
      }

  -- where half i has settled at the beat T, that is so of the 9t beats from T + 2 + 12t on
  pub sound_turn : (T : ℕ) → Cards (half_cards i n) (half_broken i f) (half_sound i n sound)
      → Stable (half_cards i n) (half_modulus i f) T (half_sound i n sound) (shown_by_half i n f R.words)
      → SoundTurn n f sound R.words (T + 2 + restart f + 9 * turn f)
  sound_turn T good S =
      let b = T + 2 + restart f in
      let E = one_counter n f c sound cards pos small R (other i) (other_less i) b (9 * turn f) (omega arith) (omega arith) in
      led b (seen n f c sound cards pos small R i l T good S) E.0 E.1 E.2
