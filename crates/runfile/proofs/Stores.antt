-- Laws of what is copied into the caller's buffers.
use mathlib.Core.Path.{◌≡◌}
use mathlib.Core.List.{List}
use Prim.Native.Nat.{ℕ, ◌≤◌}
use lib.ListN.{length, take, drop}
use lib.Seq.{sets, take_at}
use Rattle.frames.proofs.Stores.{prefix_stored}

-- what is stored at the start of a buffer is taken from there
pub first_taken : (buffer words : List ℕ) (k : ℕ) → length words ≡ k → k ≤ length buffer → take k (sets buffer 0 words) ≡ words
first_taken buffer words k e l = rw (← (prefix_stored buffer words k e l)) (take_at words (drop k buffer) k e)
