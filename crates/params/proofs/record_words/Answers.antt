-- `params::record_words` meets its contract: the leading zeros of a number below 2 ^ k and its binary digits make k.
use mathlib.Core.Path.{◌≡◌, ap, ◌∙◌}
use Prim.Native.Nat.{ℕ, zero, suc, ◌+◌, ◌^◌, ◌/◌, ◌≤◌, ◌<◌}
use native.Mathlib.Nat.{add-suc, pow-suc}
use native.Mathlib.Omega.{arith}
use lib.Arith.{half_le}
use lib.Count.{count_leading_zeros}
use Rattle.rules.specs.Parameters.{digits_in, binary_digits}
use Rattle.rules.proofs.Digits.{no_digits}
use Rattle.params.proofs.record_words.Goals as goal

zeros_and_digits : (k m f : ℕ) → f ≤ m → f < 2 ^ k → count_leading_zeros k f + digits_in m f ≡ k
unfolding count_leading_zeros digits_in
zeros_and_digits zero m zero l h = omega (arith, no_digits m)
zeros_and_digits zero m (suc f) l h = absurd (omega arith)
zeros_and_digits (suc k) m zero l h = omega (arith, no_digits m)
zeros_and_digits (suc k) zero (suc f) l h = absurd (omega arith)
zeros_and_digits (suc k) (suc m) (suc f) l h =
    let half = suc f / 2 in
    add-suc (count_leading_zeros k half) (digits_in m half) ∙ ap suc (zeros_and_digits k m half (half_le l) (omega (arith, pow-suc 2 k)))

pub returns : goal.returns
unfolding binary_digits
returns c = omega (arith, zeros_and_digits 32 c.args.f c.args.f (omega arith) c.ranges.f.fits)
