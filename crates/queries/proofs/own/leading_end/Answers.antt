use mathlib.Core.Path.{◌≡◌, refl, sym, ◌∙◌}
use lib.ListN.{length}
use native.Mathlib.Omega.{arith}
use borrow.Author.Tests.{not-true, not-false}
use Rattle.scan.proofs.Runs.{run_on}
use Rattle.styles.specs.Own.{size_byte}
use Rattle.queries.proofs.Owning.{lead_here, lead_end}
use Rattle.queries.proofs.own.leading_end.Goals as goal

pub loop-i-init : goal.loop-i-init
loop-i-init c =
    refl

pub is_size_byte-requires : goal.is_size_byte-requires
is_size_byte-requires c =
    tt

pub returns-then-not-is_size_byte : goal.returns-then-not-is_size_byte
returns-then-not-is_size_byte c = (
  omega arith,
  lead_here size_byte _ _ c.loop-i.invariant c.loop-i-test.true (sym c.is_size_byte.ensures
      ∙ not-true _ c.if-not-is_size_byte.true-raw),
)

pub loop-i-preserved : goal.loop-i-preserved
loop-i-preserved c =
    c.loop-i.invariant ∙ run_on size_byte _ _ c.loop-i-test.true (sym c.is_size_byte.ensures ∙ not-false _ c.if-not-is_size_byte.false-raw)

pub returns : goal.returns
returns c =
    let e : c.loop-i.i ≡ length c.args.value.now = omega arith in
    (omega arith, rw e at (lead_end size_byte _ _ c.loop-i.invariant c.loop-i-test.false))
