use Rattle.std.proofs.Common.{◌+◌, zero-add, arith, rules}
use Rattle.rules.specs.Text.{number_at}
use Rattle.digits.proofs.Hexadecimal.{digit_at, number_more, number_within}
use Rattle.digits.proofs.number_of.Goals as goal

pub loop-ch-init : goal.loop-ch-init
unfolding number_at
loop-ch-init c = search rules

pub value_of-requires : goal.value_of-requires
value_of-requires c = digit_at c.args.digits.now c.requires.digits_alone c.loop-ch.ch-index (omega arith)

-- eight digits fit 32 bits, so the number with one digit more does
pub overflow_mul-number : goal.overflow_mul-number
overflow_mul-number c =
    let digits = c.args.digits.now in
    let i = c.loop-ch.ch-index in
    let most = number_within digits 0 (i + 1) 8 c.requires.digits_alone (omega arith) (omega arith) in
    omega (arith, number_more digits 0 i, most)

pub overflow_add-number : goal.overflow_add-number
overflow_add-number c =
    let digits = c.args.digits.now in
    let i = c.loop-ch.ch-index in
    let most = number_within digits 0 (i + 1) 8 c.requires.digits_alone (omega arith) (omega arith) in
    let more = rw zero-add at (number_more digits 0 i) in
    omega (arith, more, most)

pub loop-ch-preserved : goal.loop-ch-preserved
loop-ch-preserved c =
    let more = rw zero-add at (number_more c.args.digits.now 0 c.loop-ch.ch-index) in
    omega (arith, more)
