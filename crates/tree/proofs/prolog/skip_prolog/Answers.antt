use mathlib.Core.Path.{refl, sym, ◌∙◌}
use native.Mathlib.Omega.{arith}
use Rattle.tree.proofs.PrologLaws.{pi, comment, decl, stop, out}
use Rattle.tree.proofs.prolog.skip_prolog.Goals as goal

pub loop-i-init : goal.loop-i-init
loop-i-init c =
    (c.requires, refl)

pub loop-i-smaller-then-starts_with : goal.loop-i-smaller-then-starts_with
loop-i-smaller-then-starts_with c =
    omega (arith, c.over-i.ensures, c.find_past-q.ensures.beyond c.loop-i-test.true (omega arith), c.loop-i-test.true)

pub loop-i-preserved-then-starts_with : goal.loop-i-preserved-then-starts_with
loop-i-preserved-then-starts_with c = (
  c.over-i.ensures.within,
  c.loop-i.invariant.1 ∙ pi c.args.src.now c.loop-i.i c.loop-i-test.true c.find_past-q.result _
      (sym c.starts_with.ensures.is ∙ c.if-starts_with.true) c.find_past-q.ensures c.over-i.ensures,
)

pub loop-i-smaller-then-starts_with-2 : goal.loop-i-smaller-then-starts_with-2
loop-i-smaller-then-starts_with-2 c =
    omega (arith, c.over-i-then-starts_with-2.ensures, c.find_past-q-then-starts_with-2.ensures.beyond c.loop-i-test.true (omega arith), c.loop-i-test.true)

pub loop-i-preserved-then-starts_with-2 : goal.loop-i-preserved-then-starts_with-2
loop-i-preserved-then-starts_with-2 c = (
  c.over-i-then-starts_with-2.ensures.within,
  c.loop-i.invariant.1 ∙ comment c.args.src.now c.loop-i.i c.loop-i-test.true
      c.find_past-q-then-starts_with-2.result _ (sym c.starts_with.ensures.is ∙ c.if-starts_with.false) (sym c.starts_with-else-starts_with.ensures.is
      ∙ c.if-starts_with-2.true) c.find_past-q-then-starts_with-2.ensures c.over-i-then-starts_with-2.ensures,
)

pub loop-i-smaller : goal.loop-i-smaller
loop-i-smaller c =
    omega (arith, c.over-i-then-starts_with-3.ensures, c.find_past-q-then-starts_with-3.ensures.beyond c.loop-i-test.true (omega arith), c.loop-i-test.true)

pub loop-i-preserved : goal.loop-i-preserved
loop-i-preserved c = (
  c.over-i-then-starts_with-3.ensures.within,
  c.loop-i.invariant.1 ∙ decl c.args.src.now c.loop-i.i c.loop-i-test.true
      c.find_past-q-then-starts_with-3.result _ (sym c.starts_with.ensures.is ∙ c.if-starts_with.false) (sym c.starts_with-else-starts_with.ensures.is
      ∙ c.if-starts_with-2.false) (sym c.starts_with-else-starts_with-2.ensures.is ∙ c.if-starts_with-3.true) c.find_past-q-then-starts_with-3.ensures c.over-i-then-starts_with-3.ensures,
)

pub returns-else-starts_with-3 : goal.returns-else-starts_with-3
returns-else-starts_with-3 c = (
  sym (c.loop-i.invariant.1 ∙ stop c.args.src.now c.loop-i.i c.loop-i-test.true (sym c.starts_with.ensures.is ∙ c.if-starts_with.false)
      (sym c.starts_with-else-starts_with.ensures.is ∙ c.if-starts_with-2.false) (sym c.starts_with-else-starts_with-2.ensures.is ∙ c.if-starts_with-3.false)),
  omega arith,
)

pub returns : goal.returns
returns c =
    (sym (c.loop-i.invariant.1 ∙ out c.args.src.now c.loop-i.i c.loop-i-test.false), omega arith)
