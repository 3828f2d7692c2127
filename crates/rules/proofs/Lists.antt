-- Laws of lists by their places: parts, rows one after the other, numbers by a rule, padding.
use mathlib.Core.Path.{◌≡◌, refl, sym, ap, ◌∙◌}
use mathlib.Core.Logic.{⊎_elim}
use mathlib.Core.List.{List, [], ◌∷◌, ◌++◌, append_assoc}
use Prim.Native.Nat.{ℕ, zero, suc, ◌+◌, ◌*◌, ◌-◌, ◌≤◌, ◌<◌}
use native.Mathlib.Nat.{eq-or-lt_of_le}
use native.Mathlib.Omega.{arith}
use borrow.Rule.Slice.PartMut.{put_mid}
use lib.Arith.{digits_lt}
use lib.ListN.{length, get_or, take, drop, replicate, length-drop, length-append, length-replicate, get_or-replicate, get_or-eq_default}
use lib.Seq.{sets, sets-eq, drop-drop, length-take-le, get_or-append-add}
use Rattle.std.proofs.lemmas.List.{get_or_append_left}
use Rattle.rules.specs.Counting.{rows, tabulate}
use Rattle.rules.specs.OneBeat.{padded}
use Rattle.rules.proofs.Tests.{le_or_lt}

-- a part of n, as `&l[a..b]` reads
pub part_length : (l : List ℕ) (a n : ℕ) → a + n ≤ length l → length (take n (drop a l)) ≡ n
part_length l a n h = length-take-le n (drop a l) (omega (arith, length-drop a l))

-- a part of n that was written, as `&mut l[a..b]` is given back
pub part_back : (p l : List ℕ) (a n : ℕ) → length p ≡ n → a + n ≤ length l → put_mid a n l p ≡ sets l a p
part_back p l a n e h =
    let q : a + n ≡ a + length p = omega arith in
    sym (sets-eq p l a (omega arith) ∙ rw (drop-drop n a l, q) (append_assoc (take a l) p (drop (a + length p) l)))

-- what stands behind the seam
pub behind_seam : (x y : List ℕ) (k j : ℕ) → length x ≡ k → get_or (x ++ y) (k + j) 0 ≡ get_or y j 0
behind_seam x y k j e = rw (← e) (get_or-append-add x y j 0)

-- n rows of w are n * w long
pub rows_length : (n w : ℕ) (g : ℕ → List ℕ) → ((i : ℕ) → i < n → length (g i) ≡ w) → length (rows n g) ≡ n * w
unfolding rows
rows_length zero w g h = omega arith
rows_length (suc n) w g h =
    let e : suc n * w ≡ n * w + w = native.Mathlib.Nat.suc-mul n w in
    omega (arith, length-append (rows n g) (g n), rows_length n w g (λ i l. h i (omega arith)), h n (omega arith))

-- where the word j of the row i stands
pub rows_at : (n w : ℕ) (g : ℕ → List ℕ) → ((i : ℕ) → i < n → length (g i) ≡ w)
    → (i j : ℕ) → i < n → j < w → get_or (rows n g) (i * w + j) 0 ≡ get_or (g i) j 0
unfolding rows
rows_at zero w g h i j li lj = absurd (omega arith)
rows_at (suc n) w g h i j li lj = ⊎_elim
    (λ (e : i ≡ n). rw e (behind_seam (rows n g) (g n) (n * w) j (rows_length n w g (λ i l. h i (omega arith)))))
    (λ (l : i < n).
    get_or_append_left (rows n g) (g n) 0 (i * w + j)
    (omega (arith, rows_length n w g (λ i l. h i (omega arith)), digits_lt {c = w} l lj))
    ∙ rows_at n w g (λ i l. h i (omega arith)) i j l lj)
    (eq-or-lt_of_le (omega arith))

-- only the n rows matter
pub rows_same : (n : ℕ) (g h : ℕ → List ℕ) → ((i : ℕ) → i < n → g i ≡ h i) → rows n g ≡ rows n h
unfolding rows
rows_same zero g h e = refl
rows_same (suc n) g h e = rw (rows_same n g h (λ i l. e i (omega arith)), e n (omega arith))

pub tabulate_length : (n : ℕ) (g : ℕ → ℕ) → length (tabulate n g) ≡ n
tabulate_length n g = omega (arith, rows_length n 1 (λ (i : ℕ). g i ∷ []) (λ i l. refl))

pub tabulate_at : (n : ℕ) (g : ℕ → ℕ) (i : ℕ) → i < n → get_or (tabulate n g) i 0 ≡ g i
tabulate_at n g i l =
    let e : i ≡ i * 1 + 0 = omega arith in
    ap (λ (k : ℕ). get_or (tabulate n g) k 0) e ∙ rows_at n 1 (λ (i : ℕ). g i ∷ []) (λ i l. refl) i 0 l (omega arith)

-- padding changes no word: what is beyond reads as 0 anyway
pub padded_at : (w : ℕ) (words : List ℕ) (j : ℕ) → get_or (padded w words) j 0 ≡ get_or words j 0
unfolding padded
padded_at w words j = ⊎_elim
    (λ (l : length words ≤ j).
    let e : length words + (j - length words) ≡ j = omega arith in
    let b : get_or (words ++ replicate (w - length words) 0) j 0 ≡ get_or (replicate (w - length words) 0) (j - length words) 0 =
    rw e at (get_or-append-add words (replicate (w - length words) 0) (j - length words) 0) in
    b ∙ zeros (w - length words) (j - length words) ∙ sym (get_or-eq_default words 0 l))
    (λ (l : j < length words). get_or_append_left words (replicate (w - length words) 0) 0 j l)
    (le_or_lt (length words) j)
  where
    zeros : (k i : ℕ) → ◌≡◌ {A = ℕ} (get_or (replicate k 0) i 0) 0
    zeros k i = ⊎_elim
        (λ (l : k ≤ i). get_or-eq_default (replicate k 0) 0 (omega (arith, length-replicate {A = ℕ} k 0)))
        (λ (l : i < k). get_or-replicate k i 0 0 l)
        (le_or_lt k i)

pub padded_length : (w : ℕ) (words : List ℕ) → length words ≤ w → length (padded w words) ≡ w
unfolding padded
padded_length w words l = omega (arith, length-append words (replicate (w - length words) 0), length-replicate {A = ℕ} (w - length words) 0)
