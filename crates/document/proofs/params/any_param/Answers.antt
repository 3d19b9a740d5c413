use mathlib.Core.Path.{◌≡◌, refl, sym, ◌∙◌}
use mathlib.Core.Bool.{Bool, true, false, beq}
use native.Mathlib.Omega.{arith}
use Rattle.document.specs.Roots.{flagged}
use Rattle.document.proofs.SomeRows.{searching_start, searching_step, searching_found, searching_done}
use Rattle.document.proofs.params.any_param.Goals as goal

flag_is : (f b : Bool) → flagged f b ≡ beq b f
flag_is true true = refl
flag_is true false = refl
flag_is false true = refl
flag_is false false = refl

pub loop-i-init : goal.loop-i-init
loop-i-init c =
    searching_start _ _ _

pub is_imsc-requires : goal.is_imsc-requires
is_imsc-requires c =
    c.requires c.loop-i.i (omega (arith, c.loop-i-test.true))

pub returns-then-is_imsc-flag : goal.returns-then-is_imsc-flag
returns-then-is_imsc-flag c =
    let e = flag_is _ _ ∙ rw c.is_imsc.ensures at c.if-is_imsc-flag.true in
    sym (searching_found _ _ _ _ c.loop-i.invariant (omega (arith, c.loop-i-test.true)) e)

pub loop-i-preserved : goal.loop-i-preserved
loop-i-preserved c =
    let e = flag_is _ _ ∙ rw c.is_imsc.ensures at c.if-is_imsc-flag.false in
    searching_step _ _ _ _ c.loop-i.invariant (omega (arith, c.loop-i-test.true)) e

pub returns : goal.returns
returns c =
    sym (searching_done _ _ _ _ c.loop-i.invariant (omega (arith, c.loop-i-test.false)))
