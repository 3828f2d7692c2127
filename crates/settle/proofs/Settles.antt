-- Every group settles at T(f): a leaf after one beat, a split group by the half that has settled. And a group that has
-- agreed stays so.
use mathlib.Core.Path.{◌≡◌, refl}
use mathlib.Core.Logic.{⊎_elim}
use mathlib.Core.Bool.{Bool, true, false, not}
use Prim.Native.Nat.{ℕ, zero, suc, ◌+◌, ◌-◌, ◌/◌, ◌≤◌, ◌<◌}
use native.Mathlib.Nat.{add-zero, mod-lt}
use native.Mathlib.Omega.{arith}
use lib.ListN.{get_or}
use Rattle.std.proofs.lemmas.Bool.{cases_Bool}
use Rattle.rules.specs.declared.Vote.{Vote}
use Rattle.rules.specs.declared.Vote.TheVariants.{Count}
use Rattle.rules.specs.Counting.{count_or0}
use Rattle.rules.specs.Parameters.{c1, none_word, settle_beats}
use Rattle.rules.specs.Groups.{half_cards, half_broken, half_modulus, output_of}
use Rattle.rules.specs.OneBeat.{plus_one, leaf_next, group_next, shown_count}
use Rattle.rules.proofs.Counting.{count_pos}
use Rattle.rules.proofs.Votes.{read_below}
use Rattle.settle.specs.Run.{Cards, Run}
use Rattle.settle.specs.Statement.{Settles, Persists}
use Rattle.settle.proofs.Inc.{plus_one_lem, advance, advance_less, advance_mod}
use Rattle.rules.proofs.Halves.{half_broken_lem, half_modulus_lem}
use Rattle.settle.proofs.Halves.{half_sound, one_half, beats_none, beats_split, beats_mono}
use Rattle.settle.proofs.King.{Agreed, persist, agree}
use Rattle.settle.proofs.Fields.{standing, phase_at, beat}
use Rattle.settle.proofs.HalfRun.{half_run}
use Rattle.settle.proofs.Stable.{Stable, later, stable_shown}
use Rattle.settle.proofs.Seen.{shown_by_half}
use Rattle.settle.proofs.Pointers.{SoundTurn, sound_turn}

-- what the cards of a group show
abbrev shown : ℕ → ℕ → (ℕ → ℕ → ℕ → ℕ) → ℕ → ℕ → Vote
shown f c words r v = output_of f c (words r v)

-- a group with f = 0: every card takes the first card's count, 0 if that is none, and one more
module _ (n c : ℕ) (sound : ℕ → Bool) (cards : Cards n 0 sound) (two : 2 ≤ c) (R : Run n 0 c sound) where
  first_sound : sound 0 ≡ true
  first_sound = ⊎_elim (λ e. e)
      (λ (e : sound 0 ≡ false). absurd (omega (arith, count_pos n (λ u. not (sound u)) 0 (omega arith) (rw e))))
      (cases_Bool (sound 0))

  leaf_word : (k : ℕ) (hear : ℕ → ℕ → ℕ) (card : ℕ) → 0 < k → get_or (group_next k n 0 c hear card) 0 0 ≡ leaf_next c hear
  unfolding group_next
  leaf_word zero hear card l = absurd (omega arith)
  leaf_word (suc k) hear card l = refl

  leaf_shown : (q r v : ℕ) → q + 1 ≡ r → v < n → sound v ≡ true
      → shown 0 c R.words r v ≡ Count (plus_one c (count_or0 (shown 0 c R.words q 0)))
  unfolding leaf_next
  leaf_shown q r v e lv sv =
      rw (
        ← e,
        R.steps q v lv sv 0 (omega arith),
        leaf_word R.fuel (R.hear q v) v R.deep,
        R.heard q v 0 lv sv (omega arith) first_sound 0,
      )
      (read_below c _ (mod-lt _ (omega arith)))

  leaf_stable : Stable n c 1 sound (shown 0 c R.words)
  unfolding count_or0
  leaf_stable =
      record {
        x = λ r. plus_one c (count_or0 (shown 0 c R.words (r - 1) 0));
        below = λ r l. mod-lt _ (omega arith);
        counts = λ r l.
            let e : r + 1 - 1 ≡ r = omega arith in
            rw (e, leaf_shown (r - 1) r 0 (omega arith) (omega arith) first_sound) (plus_one_lem c _ (mod-lt _ (omega arith)));
        shown = λ r v l lv sv. leaf_shown (r - 1) r v (omega arith) lv sv;
      }

module _ (n f c : ℕ) (sound : ℕ → Bool) (cards : Cards n f sound)
    (pos : 1 ≤ f) (two : 2 ≤ c) (fits : c ≤ none_word) (R : Run n f c sound) where
  -- k beats after all sound cards agree they still do
  agreed_on : (r x k : ℕ) → Agreed n c sound x (standing f c (R.words r))
      → Agreed n c sound (advance c x k) (standing f c (R.words (r + k)))
  unfolding advance
  agreed_on r x zero h = rw (add-zero r) h
  agreed_on r x (suc k) h =
      let e : r + suc k ≡ r + k + 1 = omega arith in
      let q = r + k in
      rw e
      (persist n f c sound cards (phase_at n f R.words q) (standing f c (R.words q)) (λ v u. output_of f c (R.hear q v u))
      (standing f c (R.words (q + 1))) (advance c x k) (beat n f c sound pos R q (omega arith) fits) (agreed_on r x k h))

  -- so they have settled
  agreed_stable : (T x : ℕ) → Agreed n c sound x (standing f c (R.words T)) → Stable n c T sound (shown f c R.words)
  unfolding advance
  agreed_stable T x h =
      record {
        x = λ r. advance c x (r - T);
        below = λ r l. advance_less c x (r - T) h.below;
        counts = λ r l. let e : r + 1 - T ≡ suc (r - T) = omega arith in rw e;
        shown = λ r v l lv sv. let e : T + (r - T) ≡ r = omega arith in rw e at ((agreed_on T x (r - T) h).a v lv sv);
      }

  -- three beats of a sound king, the same at all sound cards, make them agree
  king_agrees : (end : ℕ) (K : SoundTurn n f sound R.words end) → (x : ℕ) × Agreed n c sound x (standing f c (R.words (K.first + 3)))
  king_agrees end K =
      let r = K.first in
      let two-on : r + 1 + 1 ≡ r + 2 = omega arith in
      let three-on : r + 2 + 1 ≡ r + 3 = omega arith in
      agree n f c sound cards two K.king K.member K.honest
      (phase_at n f R.words r) (phase_at n f R.words (r + 1)) (phase_at n f R.words (r + 2))
      (standing f c (R.words r)) (standing f c (R.words (r + 1))) (standing f c (R.words (r + 2))) (standing f c (R.words (r + 3)))
      (λ v u. output_of f c (R.hear r v u)) (λ v u. output_of f c (R.hear (r + 1) v u)) (λ v u. output_of f c (R.hear (r + 2) v u))
      (beat n f c sound pos R r (omega arith) fits)
      (rw two-on at (beat n f c sound pos R (r + 1) (omega arith) fits))
      (rw three-on at (beat n f c sound pos R (r + 2) (omega arith) fits))
      K.step0 K.step1 K.step2

  -- a half that has settled settles the group
  half_settles : (i : ℕ) (l : i < 2) → c1 f ≤ none_word → Cards (half_cards i n) (half_broken i f) (half_sound i n sound)
      → Stable (half_cards i n) (half_modulus i f) (settle_beats (half_broken i f)) (half_sound i n sound) (shown_by_half i n f R.words)
      → Stable n c (settle_beats f) sound (shown f c R.words)
  half_settles i l small good S =
      let K = sound_turn n f c sound cards pos small R i l (settle_beats (half_broken i f)) good S in
      let a = king_agrees _ K in
      later n c (K.first + 3) sound (shown f c R.words) (agreed_stable (K.first + 3) a.0 a.1) (settle_beats f)
      (omega (arith, K.over, beats_split f pos, beats_mono (half_broken i f) (f / 2) (half_broken_lem i f l)))

-- The recursion: of the two halves one has at most its own f broken, and so settles by T(f/2). k rounds are enough for f < k
stable : (k n f c : ℕ) (sound : ℕ → Bool) → f < k → Cards n f sound → c1 f ≤ none_word → 2 ≤ c → c ≤ none_word
    → (R : Run n f c sound) → Stable n c (settle_beats f) sound (shown f c R.words)
unfolding half_run
stable zero n f c sound deep cards small two fits R = absurd (omega arith)
stable (suc k) n zero c sound deep cards small two fits R = rw beats_none (leaf_stable n c sound cards two R)
stable (suc k) n (suc g) c sound deep cards small two fits R =
    let h = one_half n (suc g) sound cards (omega arith) in
    let few = half_broken_lem h.0 (suc g) h.1 in
    let m = half_modulus_lem h.0 (suc g) h.1 in
    half_settles n (suc g) c sound cards (omega arith) two fits R h.0 h.1 small h.2
    (stable k (half_cards h.0 n) (half_broken h.0 (suc g)) (half_modulus h.0 (suc g)) (half_sound h.0 n sound)
    (omega arith) h.2 (omega arith) m.0 (omega arith) (half_run n (suc g) c sound (omega arith) R h.0 h.1))

-- what is promised (RULES 13), over single steps
pub settles : Settles
unfolding shown_count
settles n f c sound cards small two fits R =
    let S = stable (suc f) n f c sound (omega arith) cards small two fits R in (
      S.x (settle_beats f),
      S.below (settle_beats f) (omega arith),
      stable_shown n c (settle_beats f) sound (shown f c R.words) S,
    )

pub persists : Persists
unfolding shown_count
persists n f c members cards pos two fits R r x l h k v lv sv =
    let a = agreed_on n f c members cards pos two fits R r x k
    (record { a = λ v lv sv. (h v lv sv).0; b = λ v lv sv. (h v lv sv).1; below = l }) in
    rw (← advance_mod c x k l) (a.a v lv sv, a.b v lv sv)
