use mathlib.Core.Path.{sym, ◌∙◌}
use native.Mathlib.Omega.{arith}
use Rattle.utf8.proofs.Utf8Laws.{end_start, end_here, end_on, end_out, end_run, longest_valid, sequence-ascii}
use Rattle.utf8.proofs.utf8.utf8_end.Goals as goal

pub loop-i-init : goal.loop-i-init
loop-i-init c =
    (omega arith, end_start _)

pub loop-i-preserved-then-src-i-lt128 : goal.loop-i-preserved-then-src-i-lt128
loop-i-preserved-then-src-i-lt128 c =
    let s = c.args.src.now in
    let one = sequence-ascii s c.loop-i.i c.loop-i-test.true (omega arith) in (
      c.ascii_end-i.ensures.within_text,
      c.loop-i.invariant.1
          ∙ end_on s _ _ c.loop-i-test.true (sym one.is) (omega arith)
          ∙ end_run s _ _ c.ascii_end-i.ensures,
    )

pub returns-then-width-eq0 : goal.returns-then-width-eq0
returns-then-width-eq0 c =
    let s = c.args.src.now in
    let stops = sym c.next_sequence-width.ensures.is ∙ c.if-width-eq0.true in
    longest_valid s _ (sym (c.loop-i.invariant.1 ∙ end_here s _ c.loop-i-test.true stops))

pub loop-i-preserved : goal.loop-i-preserved
loop-i-preserved c =
    let s = c.args.src.now in (
      c.next_sequence-width.ensures.within_text,
      c.loop-i.invariant.1
          ∙ end_on s _ _ c.loop-i-test.true (sym c.next_sequence-width.ensures.is) (omega arith),
    )

pub returns : goal.returns
returns c =
    let s = c.args.src.now in
    longest_valid s _ (sym (c.loop-i.invariant.1 ∙ end_out s _ c.loop-i-test.false))
