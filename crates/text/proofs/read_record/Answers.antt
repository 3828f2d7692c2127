use Rattle.std.proofs.Common.{length, sym, ◌∙◌, rules}
use borrow.Author.Tests.{ne_eqb}
use Rattle.rules.specs.Calls.{read_out}
use Rattle.rules.proofs.Numbers.{number_not_0}
use Rattle.text.proofs.Accepted.{read_accepted}
use Rattle.text.proofs.read_record.Goals as goal

pub returns-in_err-read_refusal : goal.returns-in_err-read_refusal
unfolding read_out
returns-in_err-read_refusal c =
    (search rules, rw (← c.in_err-read_refusal.ensures, ne_eqb _ 0 (number_not_0 c.in_err-read_refusal.field-0.0)))

pub returns : goal.returns
unfolding read_out
returns c =
    let a = c.args in
    let t = read_accepted a.n a.f a.text.now (length a.out.now) (sym c.in_ok-read_refusal.ensures) in
    (c.in_ok-read_refusal.ensures, rw (← c.in_ok-read_refusal.ensures) (c.read_words.ensures ∙ rw t.0))
