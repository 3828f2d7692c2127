-- The whole run file of RULES 12 is accepted to its end, and with `0002` as the third line it is not.
use mathlib.Core.Path.{◌≡◌, refl}
use mathlib.Core.Bool.{true, false}
use mathlib.Core.List.{◌++◌}
use Rattle.rules.specs.Counting.{count_below, rows}
use Rattle.rules.specs.Parameters.{digits_in, binary_digits}
use Rattle.rules.specs.WholeBeat.{is_broken, broken_below, bad_set}
use Rattle.rules.specs.Text.{digit_of, is_digit, value_of, hex_of, number_at, all_digits, well_formed, one_more, in_front, lines_of}
use Rattle.rules.specs.RunFile.{header_of, header_refusal, start_line_refusal, beat_line_refusal, or_refused, take_line}
use Rattle.rules.specs.ByHand.{line, opening}
use Rattle.end_to_end.specs.RunFiles.{and_others, may_end, accepted_from, accepted_file}

pub worked_accepted :
    (accepted_file (opening ++ line 4 1 ++ line 4 2) ≡ true)
    × (accepted_file (opening ++ line 4 2 ++ line 4 2) ≡ false)
unfolding count_below rows digits_in binary_digits is_broken broken_below bad_set digit_of is_digit value_of hex_of number_at all_digits
    well_formed one_more in_front lines_of header_of header_refusal start_line_refusal beat_line_refusal or_refused take_line
    and_others may_end accepted_from accepted_file
worked_accepted = (refl, refl)
