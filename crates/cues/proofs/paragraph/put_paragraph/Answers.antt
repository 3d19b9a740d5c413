use Rattle.inline.specs.Wraps.{wrappers_from}
use Rattle.cues.proofs.Paragraphs.{par_full, par_more, par_same, par_drop}
use native.Mathlib.Omega.{arith}
use Rattle.cues.proofs.paragraph.put_paragraph.Goals as goal
use Rattle.cues.proofs.paragraph.put_paragraph.Goals.{else-m-end-via-then-m-end+else-is_bare, else-m-end-via-else-m-end}

pub returns-in_err-m : goal.returns-in_err-m
returns-in_err-m c =
    let ws = wrappers_from c.args.w in
    let h = c.in_err-m.ensures in
    rw c.from_residual.ensures (par_full c.args.first c.args.end ws c.args.segments.now c.put_wrappers.new.segments c.requires.1 h.1)

pub returns-then-is_bare : goal.returns-then-is_bare
returns-then-is_bare c =
    let ws = wrappers_from c.args.w in
    let h = c.in_ok-m.ensures in
    let b = rw c.if-is_bare.true at c.is_bare.ensures.tells_bare in
    par_drop c.args.first c.args.end ws c.args.segments.now c.put_wrappers.new.segments c.in_ok-m.m h.0 h.1 h.2 c.if-m-end.true b
    c.drop_segment.new.segments c.drop_segment.ensures

pub returns : goal.returns
returns c =
    let ws = wrappers_from c.args.w in
    let h = c.in_ok-m.ensures in
    elim c.else-m-end.branch [
      | else-m-end-via-then-m-end+else-is_bare w ↦
          let b = rw w.if-is_bare.false at w.is_bare.ensures.tells_bare in
          rw w.if-m-end.true
          (par_same c.args.first c.args.end ws c.args.segments.now c.put_wrappers.new.segments c.in_ok-m.m h.0 h.1 h.2 w.if-m-end.true b)
      | else-m-end-via-else-m-end w ↦
          par_more c.args.first c.args.end ws c.args.segments.now c.put_wrappers.new.segments c.in_ok-m.m h.0 h.1 h.2 (λ e. omega (arith, e, w.if-m-end.false))
    ]
