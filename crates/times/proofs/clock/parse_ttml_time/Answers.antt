-- A time of the usual form at once; any other without the white space around it; nothing else is no time.
use Rattle.std.specs.Prelude.{Ok}
use mathlib.Core.Path.{sym, ap, ◌∙◌}
use native.Mathlib.Omega.{arith}
use Prim.Native.Nat.{◌*◌}
use Rattle.scan.proofs.Splits.{whole_part}
use Rattle.times.proofs.Summing.{low_bits}
use Rattle.times.proofs.Answers.{reads_time}
use Rattle.times.proofs.Parts.{blank-time, some_time}
use Rattle.times.proofs.UsualTimes.{usual_time}
use Rattle.times.proofs.clock.parse_ttml_time.Goals as goal

pub returns-then-ms-lt360000000 : goal.returns-then-ms-lt360000000
returns-then-ms-lt360000000 c =
    let ms = c.usual_millis-ms.result in
    let said = usual_time c.args.text.now ms c.usual_millis-ms.ensures c.if-text-eq12.true c.if-ms-lt360000000.true c.args.ctx in
    reads_time (ap Ok (low_bits (ms * 1000) (omega (arith, c.if-ms-lt360000000.true))) ∙ sym said)

pub returns-then-span : goal.returns-then-span
returns-then-span c =
    let s = c.args.text.now in
    let spans = rw (whole_part s) at c.trim-span.ensures in
    reads_time (sym (blank-time s _ _ spans _ c.if-span.true))

pub returns : goal.returns
returns c =
    let s = c.args.text.now in
    let spans = rw (whole_part s) at c.trim-span.ensures in
    reads_time (c.expression.ensures ∙ sym (some_time s _ _ spans _ c.if-span.false))
