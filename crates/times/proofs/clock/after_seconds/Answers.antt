-- Frames up to the next colon.
use mathlib.Core.Path.{sym, ap, ◌∙◌}
use lib.IntN.{ℤ}
use lib.ListN.{take}
use mir.Syntax.{w64}
use mir.ValLaws.{to_z-of_z}
use Rattle.times.specs.Expressions.{time_decimal, frame_rate_of, frames_in}
use Rattle.times.proofs.Parts.{first-length, frames_first}
use Rattle.times.proofs.clock.after_seconds.Goals as goal

pub slice_bounds-framed-end : goal.slice_bounds-framed-end
slice_bounds-framed-end c =
    first-length _ _ _ c.find_byte-colon.ensures

pub returns : goal.returns
returns c =
    let frames = time_decimal (take c.find_byte-colon.result c.args.text.now) in
    c.framed.ensures
    ∙ (ap (λ (z : ℤ). frames_in z frames (frame_rate_of c.args.ctx)) (to_z-of_z w64 _ c.ranges.us)
    ∙ sym (frames_first _ _ c.find_byte-colon.ensures c.args.ctx c.args.us))
