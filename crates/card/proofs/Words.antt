-- A card's next record, from the words of the outermost group.
use mathlib.Core.Path.{◌≡◌, refl, ap, ◌∙◌, fun_ext}
use mathlib.Core.List.{List}
use Prim.Native.Nat.{ℕ, zero, suc, ◌-◌, ◌≤◌}
use native.Mathlib.Nat.{zero-add, sub-zero}
use native.Mathlib.Omega.{arith}
use lib.ListN.{length, drop, replicate, length-replicate}
use lib.Seq.{sets, sets-eq}
use Rattle.std.proofs.Common.{Bor}
use Rattle.rules.specs.Parameters.{record_words}
use Rattle.rules.specs.Groups.{heard_in}
use Rattle.rules.specs.OneBeat.{group_next, padded, next_record}
use Rattle.rules.proofs.Records.{group_length, words_most}
use Rattle.rules.proofs.Shapes.{Step}
use Rattle.level.specs.declared.group.Group.{Group}
use Rattle.level.specs.Groups.{Fits, heard_by}

-- the outermost group hears the records as they stand
pub whole_heard : (g : Group) → g.first ≡ 0 → g.base ≡ 0 → heard_by g ≡ heard_in g.w g.recs.now
whole_heard g a b = fun_ext (λ u. fun_ext (λ j. rw (a, b, zero-add u, zero-add j)))

-- "Words beyond these are written 0 and never read." (RULES 4.1)
pub over_zeros : (w : ℕ) (words : List ℕ) → length words ≤ w → sets (replicate w 0) 0 words ≡ padded w words
unfolding padded
over_zeros w words l =
    sets-eq words (replicate w 0) 0 (omega (arith, length-replicate {A = ℕ} w 0))
    ∙ rw (zero-add (length words), zeros_drop w (length words) l)
  where
    zeros_drop : (m k : ℕ) → k ≤ m → ◌≡◌ {A = List ℕ} (drop k (replicate m 0)) (replicate (m - k) 0)
    zeros_drop m zero h = rw (sub-zero m)
    zeros_drop zero (suc k) h = absurd (omega arith)
    zeros_drop (suc m) (suc k) h = let e : suc m - suc k ≡ m - k = omega arith in rw e (zeros_drop m k (omega arith))

-- the outermost group of a call that is not refused
abbrev pub whole_of : Bor (List ℕ) → ℕ → ℕ → ℕ → ℕ → Group
whole_of recs n f c w = record { recs = recs; w = w; first = 0; base = 0; n = n; f = f; c = c }

pub whole_fits : (recs : Bor (List ℕ)) (n f c card out w : ℕ) → Step n f c card (length recs.now) out → w ≡ record_words f
    → Fits (whole_of recs n f c w)
whole_fits recs n f c card out w s e =
    rw e
    (record {
      table = omega (arith, s.records_whole);
      words = omega arith;
      few = s.shape.few;
      small = omega (arith, s.shape.cards);
      narrow = omega (arith, words_most f s.shape.broken);
      broken = s.shape.broken;
      two = s.least;
      modulus = s.most;
    })

-- what it writes over zeros is the next record
pub record_is : (recs : Bor (List ℕ)) (n f c card w : ℕ) (zeros last : List ℕ) → w ≡ record_words f → zeros ≡ replicate w 0
    → last ≡ sets zeros 0 (group_next (suc f) n f c (heard_by (whole_of recs n f c w)) card)
    → last ≡ next_record n f c (heard_in (record_words f) recs.now) card
unfolding next_record
record_is recs n f c card w zeros last e z h =
    let words = group_next (suc f) n f c (heard_in w recs.now) card in
    let l : length words ≤ w = rw e (group_length (suc f) n f c (heard_in (record_words f) recs.now) card) in
    h ∙ ap (λ (hear : ℕ → ℕ → ℕ). sets zeros 0 (group_next (suc f) n f c hear card)) (whole_heard (whole_of recs n f c w) refl refl)
    ∙ rw z (over_zeros w words l ∙ rw e)
