-- What each call returns, and what it leaves in the caller's buffer. RULES 9.3: "A refused call's value is 0, and the output
-- buffer keeps its contents."
use Rattle.std.specs.Prelude.{ℕ, zero, suc, cond, List, eqb, ℤ, pos, length, get_or}
use Rattle.rules.specs.declared.Vote.{Vote}
use Rattle.rules.specs.declared.Vote.TheVariants.{Count}
use Rattle.rules.specs.Parameters.{turn, c0, c1, restart, record_words, settle_beats}
use Rattle.rules.specs.Groups.{heard_in, place}
use Rattle.rules.specs.OneBeat.{next_record, shown_count}
use Rattle.rules.specs.WholeBeat.{table_after}
use Rattle.rules.specs.Lag.{lag_of}
use Rattle.rules.specs.Bytes.{word_at, bytes_of}
use Rattle.rules.specs.Text.{text_of, words_at}
use Rattle.rules.specs.Refusals.{shape_refusal, step_refusal, step_bytes_refusal, beat_refusal, shown_refusal, lag_refusal, write_refusal}
use Rattle.rules.specs.Refusals.{read_refusal}

-- the first if nothing is refused, else the second
abbrev pub unless_refused : {A : Type 0} → ℕ → A → A → A
unless_refused refusal done kept = cond (eqb refusal 0) done kept

-- what is returned for n and f: t, c0, c1, the cooldown's start, W and T
pub record Parameters : Type 0 where
  pub turn : ℕ
  pub c0 : ℕ
  pub c1 : ℕ
  pub restart : ℕ
  pub words : ℕ
  pub beats : ℕ

-- RULES 2.3: "With f = 0 no group is split: the four middle entries are given as 0."
unfoldable pub row_of : ℕ → Parameters
row_of zero = record { turn = 0; c0 = 0; c1 = 0; restart = 0; words = record_words 0; beats = settle_beats 0 }
row_of (suc f) =
    record {
      turn = turn (suc f);
      c0 = c0 (suc f);
      c1 = c1 (suc f);
      restart = restart (suc f);
      words = record_words (suc f);
      beats = settle_beats (suc f);
    }

abbrev pub no_row : Parameters
no_row = record { turn = 0; c0 = 0; c1 = 0; restart = 0; words = 0; beats = 0 }

unfoldable pub params_answer : ℕ → ℕ → Parameters
params_answer n f = unless_refused (shape_refusal n f 0) (row_of f) no_row

-- one card's step, on words
unfoldable pub step_out : ℕ → ℕ → ℕ → ℕ → List ℕ → List ℕ → List ℕ
step_out n f c card records out =
    unless_refused (step_refusal n f c card (length records) (length out))
    (next_record n f c (heard_in (record_words f) records) card) out

-- one card's step, on bytes
unfoldable pub step_bytes_out : ℕ → ℕ → ℕ → ℕ → List ℕ → List ℕ → List ℕ
step_bytes_out n f c card records out =
    unless_refused (step_bytes_refusal n f c card (length records) (length out))
    (bytes_of (next_record n f c (λ (u j : ℕ). word_at records (place (record_words f) u j)) card)) out

-- the whole beat
unfoldable pub beat_out : ℕ → ℕ → ℕ → ℕ → List ℕ → List ℕ → List ℕ → List ℕ
beat_out n f c set held sent out =
    unless_refused (beat_refusal n f c set (length held) (length sent) (length out)) (table_after n f c set held sent) out

-- the shown count
unfoldable pub shown_answer : ℕ → ℕ → ℕ → List ℕ → Vote
shown_answer n f c words =
    unless_refused (shown_refusal n f c (length words)) (shown_count f c (λ (j : ℕ). get_or words j 0)) (Count 0)

-- the lag of x against y
unfoldable pub lag_answer : ℕ → ℕ → ℕ → ℤ
lag_answer c x y = unless_refused (lag_refusal c x y) (lag_of c x y) (pos 0)

-- a record as text
unfoldable pub write_out : ℕ → ℕ → List ℕ → List ℕ → List ℕ
write_out n f words out = unless_refused (write_refusal n f (length words) (length out)) (text_of words) out

-- a text as a record
unfoldable pub read_out : ℕ → ℕ → List ℕ → List ℕ → List ℕ
read_out n f text out = unless_refused (read_refusal n f text (length out)) (words_at text 0 (record_words f)) out
