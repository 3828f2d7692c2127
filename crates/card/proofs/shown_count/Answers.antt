-- `card::shown_count` meets its contract.
use Rattle.std.proofs.Common.{rules, sym, length}
use native.Mathlib.Omega.{arith}
use Rattle.rules.specs.Groups.{word_of, read_vote}
use Rattle.rules.specs.OneBeat.{shown_count}
use Rattle.rules.specs.Calls.{shown_answer}
use Rattle.rules.proofs.Votes.{read_again}
use Rattle.rules.proofs.Records.{output_inside}
use Rattle.rules.proofs.Shapes.{shown_accepted}
use Rattle.card.proofs.shown_count.Goals as goal

pub returns-in_err-shown_refusal : goal.returns-in_err-shown_refusal
unfolding shown_answer word_of read_vote
returns-in_err-shown_refusal c = record { refusal = search rules; number = search rules; told = search rules }

pub bounds-words-at : goal.bounds-words-at
bounds-words-at c =
    let a = c.args in
    omega (
      arith,
      output_inside a.counter.f,
      shown_accepted a.counter.n a.counter.f a.counter.c (length a.words.now) (sym c.in_ok-shown_refusal.ensures),
    )

pub returns : goal.returns
unfolding shown_answer shown_count
returns c =
    let a = c.args in
    let good = shown_accepted a.counter.n a.counter.f a.counter.c (length a.words.now) (sym c.in_ok-shown_refusal.ensures) in
    record {
      refusal = search rules;
      number = search rules;
      told = search (rules, read_again, good.1);
    }
