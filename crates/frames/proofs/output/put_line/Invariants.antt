use Rattle.std.proofs.Common.{◌≡◌, length}
use Rattle.std.proofs.lemmas.List.Edits.{sets}
use Rattle.rules.specs.Counting.{rows}
use Rattle.frames.specs.Headers.{said}
use Rattle.frames.proofs.Shown.{shown_text}
use Rattle.frames.proofs.output.put_line.Given as goal

-- behind the beat stand the words of the cards passed
abbrev pub invariant-loop-v : goal.invariant-loop-v
invariant-loop-v l = (length l.out ≡ 69) × (l.out ≡ sets l.initial.out 4 (rows l.v (shown_text (said l.header.rack) l.table)))
