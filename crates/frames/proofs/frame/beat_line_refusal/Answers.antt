-- What refuses the frame alone refuses it with the last beat's test too.
use mathlib.Core.Path.{◌≡◌, ◌∙◌}
use mathlib.Core.Bool.{not}
use Prim.Native.Nat.{◌+◌}
use Rattle.std.proofs.lemmas.Result.{err_from_is_err_and}
use Rattle.rules.specs.Refusals.{number_of}
use Rattle.rules.specs.RunFile.{frame_digits, beat_of, beat_words, beat_line_refusal}
use Rattle.rules.specs.Text.{well_formed}
use Rattle.rules.proofs.Numbers.{number_not_0}
use Rattle.frames.specs.Headers.{said}
use Rattle.frames.proofs.Frames.{of_frame, frame_refused}
use Rattle.frames.proofs.frame.beat_line_refusal.Goals as goal

pub returns-in_err-frame_refusal : goal.returns-in_err-frame_refusal
unfolding beat_line_refusal
returns-in_err-frame_refusal c =
    let a = c.args in
    let line = a.line.now in
    let malformed = not (well_formed (frame_digits (beat_words (said a.header.rack))) line) in
    let p = err_from_is_err_and c.from_residual.result c.from_residual.ensures.1 in
    let framed : number_of c.in_err-frame_refusal.field-0.0 ≡ of_frame malformed (beat_of line) (a.beat + 1) =
    c.in_err-frame_refusal.ensures ∙ rw (c.beat_words.ensures.0, c.from-next.ensures) in
    rw (p.1, p.2) (frame_refused malformed (beat_of line) (a.beat + 1) _ framed (number_not_0 _))
