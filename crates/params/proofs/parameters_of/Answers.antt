use Rattle.std.proofs.Common.{rules}
use Rattle.rules.specs.Calls.{params_answer}
use Rattle.params.proofs.parameters_of.Goals as goal

pub returns-in_err-shape_refusal : goal.returns-in_err-shape_refusal
unfolding params_answer
returns-in_err-shape_refusal c = search rules

pub returns : goal.returns
unfolding params_answer
returns c = search rules
