use Prim.Native.Nat.{◌-◌}
use mathlib.Core.Path.{refl, sym, ◌∙◌}
use native.Mathlib.Omega.{arith}
use lib.ListN.{length}
use Rattle.std.proofs.lemmas.Bool.Decides.{nat_tests}
use Rattle.scan.proofs.Searches.{seek-on, seek-far, found_here, found-empty, found_none}
use Rattle.scan.proofs.marks.find_seq.Goals as goal

pub returns-then-is_empty : goal.returns-then-is_empty
returns-then-is_empty c =
    found-empty _ _ _ (grind (arith, nat_tests)) (omega arith)

pub loop-i-init : goal.loop-i-init
loop-i-init c =
    (omega arith, omega arith, grind (arith, nat_tests), refl)

pub returns-then-starts_with : goal.returns-then-starts_with
returns-then-starts_with c =
    found_here c.args.mark.now c.args.src.now _ _ c.loop-i.invariant.1 c.loop-i.invariant.3 (omega arith) (sym c.starts_with.ensures.is
    ∙ c.if-starts_with.true) (c.starts_with.ensures.whole c.if-starts_with.true)

pub loop-i-preserved-then-src-i : goal.loop-i-preserved-then-src-i
loop-i-preserved-then-src-i c = (
  omega arith,
  omega arith,
  omega arith,
  c.loop-i.invariant.3 ∙ seek-on c.args.mark.now c.args.src.now _ (omega arith)
      (sym c.starts_with.ensures.is ∙ c.if-starts_with.false),
)

pub loop-i-preserved : goal.loop-i-preserved
loop-i-preserved c = (
  omega arith,
  omega arith,
  omega arith,
  c.loop-i.invariant.3 ∙ seek-far c.args.mark.now c.args.src.now (length c.args.mark.now - 1) c.loop-i.i
      (omega arith) _ _ c.if-src-i.false refl c.find_far.ensures,
)

pub returns : goal.returns
returns c =
    found_none c.args.mark.now c.args.src.now _ c.loop-i.i (length c.args.mark.now - 1) c.loop-i.invariant.1 c.loop-i.invariant.3 (omega arith)
    c.loop-i.invariant.0 (omega arith)
