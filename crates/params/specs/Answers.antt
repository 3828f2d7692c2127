-- The answer's struct, by the rules' own row of parameters.
use Rattle.std.specs.Prelude.{ℕ}
use Rattle.rules.specs.Calls.{Parameters, row_of}
use Rattle.params.specs.declared.Row.{Row}

abbrev pub row_from : Parameters → Row
row_from p =
    record {
      turn = p.turn;
      c0 = p.c0;
      c1 = p.c1;
      restart = p.restart;
      words = p.words;
      beats = p.beats;
    }

abbrev pub row_read : ℕ → Row
row_read f = row_from (row_of f)
