-- Lists of words and of bytes, given place by place.
use mathlib.Core.Path.{◌≡◌, refl, sym, ap, ◌∙◌}
use mathlib.Core.Logic.{⊎_elim}
use mathlib.Core.List.{List, [], ◌∷◌}
use Prim.Native.Nat.{ℕ, ◌+◌, ◌*◌, ◌/◌, ◌%◌, ◌≤◌, ◌<◌}
use native.Mathlib.Omega.{arith}
use lib.ListN.{length, get_or}
use Rattle.std.proofs.lemmas.List.{ext_get_or}
use Rattle.rules.specs.Counting.{rows, tabulate}
use Rattle.rules.specs.Bytes.{bytes_of}
use Rattle.rules.proofs.Tests.{le_or_lt}
use Rattle.rules.proofs.Lists.{rows_length, rows_at, tabulate_length, tabulate_at}

pub words_are : (words : List ℕ) (n : ℕ) (g : ℕ → ℕ) → length words ≡ n → ((k : ℕ) → k < n → get_or words k 0 ≡ g k)
    → words ≡ tabulate n g
words_are words n g e h =
    ext_get_or 0 words (tabulate n g) (e ∙ sym (tabulate_length n g))
    (λ k l. let b : k < n = omega arith in h k b ∙ sym (tabulate_at n g k b))

-- the words below n stand as bytes, the low byte first
abbrev pub Written : List ℕ → List ℕ → ℕ → Type 0
Written words bytes n =
    (k : ℕ) → k < n → (get_or bytes (2 * k) 0 ≡ get_or words k 0 % 256) × (get_or bytes (2 * k + 1) 0 ≡ get_or words k 0 / 256)

-- what holds at each even and each odd place holds at all
each_place : (g h : ℕ → ℕ) (n : ℕ) → ((k : ℕ) → k < n → (g (2 * k) ≡ h (2 * k)) × (g (2 * k + 1) ≡ h (2 * k + 1)))
    → (j : ℕ) → j < 2 * n → g j ≡ h j
each_place g h n same j l = ⊎_elim
    (λ (z : j % 2 ≤ 0). let e : j ≡ 2 * (j / 2) = omega arith in ap g e ∙ (same (j / 2) (omega arith)).0 ∙ sym (ap h e))
    (λ (z : 0 < j % 2). let e : j ≡ 2 * (j / 2) + 1 = omega arith in ap g e ∙ (same (j / 2) (omega arith)).1 ∙ sym (ap h e))
    (le_or_lt (j % 2) 0)

pub bytes_are : (words bytes : List ℕ) → length bytes ≡ 2 * length words → Written words bytes (length words) → bytes ≡ bytes_of words
unfolding bytes_of
bytes_are words bytes e h =
    let n = length words in
    let pair : ℕ → List ℕ = λ i. get_or words i 0 % 256 ∷ get_or words i 0 / 256 ∷ [] in
    let at : (i r j : ℕ) → j ≡ i * 2 + r → i < n → r < 2 → get_or (rows n pair) j 0 ≡ get_or (pair i) r 0 = (λ i r j p b s.
    ap (λ k. get_or (rows n pair) k 0) p ∙ rows_at n 2 pair (λ i l. refl) i r b s) in
    ext_get_or 0 bytes (rows n pair) (omega (arith, e, rows_length n 2 pair (λ i l. refl)))
    (λ j l. each_place (λ k. get_or bytes k 0) (λ k. get_or (rows n pair) k 0) n
    (λ k b. ((h k b).0 ∙ sym (at k 0 _ (omega arith) b (omega arith)), (h k b).1 ∙ sym (at k 1 _ (omega arith) b (omega arith))))
    j (omega arith))
