-- Laws of words that are stored at the start of a buffer.
use mathlib.Core.Path.{◌≡◌, refl}
use mathlib.Core.List.{List, ◌++◌}
use Prim.Native.Nat.{ℕ, ◌≤◌, ◌<◌}
use native.Mathlib.Omega.{arith}
use lib.ListN.{length, get_or, drop}
use lib.Seq.{sets}
use Rattle.std.proofs.lemmas.List.{get_or_append_left}
use Rattle.rules.proofs.Lists.{part_back}

-- the first words of a buffer are stored
pub prefix_stored : (buffer words : List ℕ) (k : ℕ) → length words ≡ k → k ≤ length buffer
    → words ++ drop k buffer ≡ sets buffer 0 words
prefix_stored buffer words k e l = part_back words buffer 0 k e (omega arith)

-- and stand there
pub first_stored : (buffer words : List ℕ) (j : ℕ) → length words ≤ length buffer → j < length words
    → get_or (sets buffer 0 words) j 0 ≡ get_or words j 0
first_stored buffer words j l h =
    rw (← (prefix_stored buffer words (length words) refl l)) (get_or_append_left words (drop (length words) buffer) 0 j h)
