-- The answer of the shown count, by the word of each of its cases: a count or none, as RULES 1 writes it.
use Rattle.std.specs.Prelude.{◌≡◌, List, ℕ, length, Result}
use Rattle.rules.specs.declared.Refusal.{Refusal}
use Rattle.rules.specs.declared.Vote.{Vote}
use Rattle.rules.specs.declared.Vote.TheVariants.{Count}
use Rattle.rules.specs.Parameters.{none_word}
use Rattle.rules.specs.Groups.{read_vote, word_of}
use Rattle.rules.specs.Refusals.{shown_refusal, number_in, value_in}
use Rattle.rules.specs.Calls.{shown_answer}

-- 65,535 is none and never a count, so the number shows which case it is; RULES 9.3: "A refused call's value is 0"
pub record Shows (n f c : ℕ) (words : List ℕ) (r : Result Vote Refusal) : Type 0 where
  pub refusal : number_in r ≡ shown_refusal n f c (length words)
  pub number : word_of (value_in (Count 0) r) ≡ word_of (shown_answer n f c words)
  pub told : value_in (Count 0) r ≡ read_vote none_word (word_of (value_in (Count 0) r))
