-- `tsendurkho_step` meets its contract: a refused call writes nothing, and no table has more than 400 words.
use Rattle.std.proofs.Common.{rules, length, sym, arith}
use Rattle.rules.specs.Calls.{step_bytes_out}
use Rattle.rules.proofs.Records.{table_most}
use Rattle.tsendurkho.proofs.Accepted.{accepted}
use Rattle.tsendurkho.proofs.tsendurkho_step.Goals as goal

pub returns-in-Err : goal.returns-in-Err
unfolding step_bytes_out
returns-in-Err c = search rules

pub step_within-requires-else-records-clause-fits : goal.step_within-requires-else-records-clause-fits
step_within-requires-else-records-clause-fits c =
    let a = c.args in
    let s = accepted a.n a.f a.c a.card (length a.records.now) (length a.out.now) (sym c.in_default.ensures) in
    omega (arith, s.records_whole, table_most a.n a.f s.shape.cards s.shape.broken)
