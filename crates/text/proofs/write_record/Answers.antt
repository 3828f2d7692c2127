use Rattle.std.proofs.Common.{rules}
use borrow.Author.Tests.{ne_eqb}
use Rattle.rules.specs.Calls.{write_out}
use Rattle.rules.proofs.Numbers.{number_not_0}
use Rattle.text.proofs.write_record.Goals as goal

pub returns-in_err-write_refusal : goal.returns-in_err-write_refusal
unfolding write_out
returns-in_err-write_refusal c =
    (search rules, rw (← c.in_err-write_refusal.ensures, ne_eqb _ 0 (number_not_0 c.in_err-write_refusal.field-0.0)))

pub returns : goal.returns
unfolding write_out
returns c = (c.in_ok-write_refusal.ensures, rw (← c.in_ok-write_refusal.ensures) c.put_words.ensures)
