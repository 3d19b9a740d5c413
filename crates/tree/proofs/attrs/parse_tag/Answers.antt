use Prim.Native.Nat.{◌+◌}
use mathlib.Core.Path.{◌∙◌}
use native.Mathlib.Omega.{arith}
use Rattle.scan.proofs.Handed.{handed_on}
use Rattle.scan.proofs.Runs.{name_yes}
use Rattle.tree.proofs.Tags.{tag-out, tag_open, tag-full, tag-flaw, tag-start, tag-step, tag-done, tag-slashed}
use Rattle.tree.proofs.attrs.parse_tag.Goals as goal

pub loop-at-init : goal.loop-at-init
loop-at-init c =
    tag-start _ _ _ _ c.requires.2 c.requires.3 c.requires.4

pub returns-then-b-eq62 : goal.returns-then-b-eq62
returns-then-b-eq62 c =
    tag-done c.loop-at.invariant (c.loop-at.at + 1) (tag_open c.args.src.now c.loop-at.at _ c.loop-at-test.true
    c.if-b-eq62.true) (omega arith) (omega arith)

pub returns-then-b-eq47 : goal.returns-then-b-eq47
returns-then-b-eq47 c =
    rw c.parse_shut.ensures (tag-slashed c.loop-at.invariant c.loop-at-test.true c.if-b-eq47.true)

pub returns-then-n-ge-MOST : goal.returns-then-n-ge-MOST
returns-then-n-ge-MOST c =
    rw c.new.ensures (c.loop-at.invariant.is ∙ tag-full c.args.src.now c.loop-at.at _ c.loop-at-test.true c.if-b-eq62.false c.if-b-eq47.false
    c.if-n-ge-MOST.true)

pub parse_attr-requires : goal.parse_attr-requires
parse_attr-requires c = (
  c.requires.0,
  omega arith,
  c.loop-at-test.true,
  name_yes _ (c.loop-at.invariant.solid c.loop-at-test.true) c.if-b-eq47.false
      c.if-b-eq62.false,
  c.if-n-ge-MOST.false,
)

pub loop-at-smaller : goal.loop-at-smaller
loop-at-smaller c =
    omega (arith, c.in_ok-at.ensures.after, c.loop-at-test.true)

pub loop-at-preserved : goal.loop-at-preserved
loop-at-preserved c =
    tag-step c.loop-at.invariant c.loop-at-test.true c.if-b-eq62.false c.if-b-eq47.false c.if-n-ge-MOST.false
    c.in_ok-at.ensures

pub returns-in_err-at : goal.returns-in_err-at
returns-in_err-at c =
    rw (handed_on _ c.from_residual.ensures) (c.loop-at.invariant.is ∙ tag-flaw c.args.src.now c.loop-at.at _ c.loop-at-test.true c.if-b-eq62.false c.if-b-eq47.false _ _
    c.if-n-ge-MOST.false c.in_err-at.ensures)

pub returns : goal.returns
returns c =
    rw c.new-2.ensures (c.loop-at.invariant.is ∙ tag-out c.args.src.now c.loop-at.at _ c.loop-at-test.false)
