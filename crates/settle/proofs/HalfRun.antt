-- A half of a run is a run: its cards from the half's first on, their words behind the group's eight.
use mathlib.Core.Bool.{Bool}
use Prim.Native.Nat.{ℕ, ◌+◌, ◌-◌, ◌≤◌, ◌<◌}
use native.Mathlib.Nat.{add-sub_cancel_left}
use native.Mathlib.Omega.{arith}
use Rattle.rules.specs.Groups.{half_cards, half_first, half_broken, half_modulus, heard_in_half}
use Rattle.settle.specs.Run.{Run}
use Rattle.rules.proofs.Halves.{half_broken_lem, half_inside, half_of_lem, half_words_lem}
use Rattle.settle.proofs.Halves.{half_sound}
use Rattle.settle.proofs.Fields.{half_word}

module _ (n f c : ℕ) (sound : ℕ → Bool) (pos : 1 ≤ f) (R : Run n f c sound) where
  unfoldable pub half_run : (i : ℕ) → i < 2 → Run (half_cards i n) (half_broken i f) (half_modulus i f) (half_sound i n sound)
  half_run i l =
      record {
        words = λ r v j. R.words r (half_first i n + v) (8 + j);
        hear = λ r v. heard_in_half i n (R.hear r (half_first i n + v));
        fuel = R.fuel - 1;
        deep = omega (arith, half_broken_lem i f l);
        heard = λ r v u lv sv lu su j.
            R.heard r (half_first i n + v) (half_first i n + u) (half_inside i n v l lv) sv (half_inside i n u l lu) su (8 + j);
        steps = λ r v lv sv j lj.
            rw (half_of_lem i n v l lv, add-sub_cancel_left (half_first i n) v)
            at (half_word n f c sound pos R r (half_first i n + v) j (half_inside i n v l lv) sv (omega (arith, half_words_lem i f l pos)));
      }
