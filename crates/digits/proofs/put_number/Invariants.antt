use Rattle.std.proofs.Common.{◌≡◌, ◌++◌, length, drop}
use Rattle.rules.specs.Text.{hex_of}
use Rattle.digits.proofs.put_number.Given as goal

-- the digits that are left to write, before those that are written
abbrev pub invariant-loop-place : goal.invariant-loop-place
invariant-loop-place l = hex_of l.place l.rest ++ drop l.place l.out ≡ hex_of (length l.out) l.number
