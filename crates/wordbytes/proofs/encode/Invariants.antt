-- the words passed are written
use Rattle.wordbytes.proofs.Places.{Written}
use Rattle.wordbytes.proofs.encode.Given as goal

abbrev pub invariant-loop-i : goal.invariant-loop-i
invariant-loop-i l = Written l.words l.bytes l.i
