-- `card::step` meets its contract: a refused call writes nothing, another the next record.
use Rattle.std.proofs.Common.{rules}
use Rattle.rules.specs.Calls.{step_out}
use Rattle.card.proofs.Lengths.{in_words}
use Rattle.card.proofs.step.Goals as goal

pub returns-in_err-step_refusal : goal.returns-in_err-step_refusal
unfolding step_out
returns-in_err-step_refusal c = search (rules, in_words)

pub returns : goal.returns
unfolding step_out
returns c = search (rules, in_words)
