use Rattle.std.proofs.Common.{◌≡◌, ◌+◌, ◌-◌, ◌≤◌, max, take, drop}
use Rattle.rules.specs.Text.{lines_of, span_of}
use Rattle.text.proofs.lines.place_of.Given as goal

-- what is left to pass of what is left of the text, and the characters that are passed
abbrev pub invariant-loop-number : goal.invariant-loop-number
invariant-loop-number l = record {
  counted : l.number ≤ max 1 l.k;
  left : drop (l.k - l.number) (lines_of (drop l.start l.text)) ≡ drop (l.k - 1) (lines_of l.text);
  passed : l.start + span_of (take (l.k - l.number) (lines_of (drop l.start l.text))) ≡ span_of (take (l.k - 1) (lines_of l.text));
}
