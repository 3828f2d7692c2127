use Rattle.std.proofs.Common.{◌≡◌, List, ℕ, suc, [], ◌∷◌, ◌+◌, ◌-◌, ◌/◌, ◌%◌, ◌<◌, ◌++◌, length, drop, set}
use Rattle.std.proofs.Common.{append_assoc, append-nil, add-one, length-set, sym, ◌∙◌, arith}
use lib.ListN.{drop_of_length-le}
use Rattle.std.proofs.lemmas.List.{drop-set}
use Rattle.rules.specs.Text.{digit_of, hex_of}
use Rattle.digits.proofs.Hexadecimal.{hex_none, hex_last}
use Rattle.digits.proofs.put_number.Goals as goal

pub loop-place-init : goal.loop-place-init
loop-place-init c =
    let out = c.args.out.now in
    rw (drop_of_length-le out {i = length out} (omega arith)) (append-nil _)

-- the last digit that is left is written
one_less : (out : List ℕ) (k x left : ℕ) → k + 1 ≡ left → k < length out
    → hex_of k (x / 16) ++ drop k (set out k (digit_of (x % 16))) ≡ hex_of left x ++ drop left out
one_less out k x left e l =
    rw (← e, drop-set out k (digit_of (x % 16)) l, add-one k, hex_last k x)
    (sym (append_assoc (hex_of k (x / 16)) (digit_of (x % 16) ∷ []) (drop (suc k) out)))

pub loop-place-preserved : goal.loop-place-preserved
loop-place-preserved c =
    let left = c.loop-place.place in
    rw (length-set, c.last_digit.ensures)
    (one_less c.loop-place.out (left - 1) c.loop-place.rest left (omega arith) (omega arith) ∙ c.loop-place.invariant)

pub returns : goal.returns
returns c =
    let e : c.loop-place.place ≡ 0 = omega arith in
    rw (e, hex_none, c.loop-place.auto.out) at c.loop-place.invariant
