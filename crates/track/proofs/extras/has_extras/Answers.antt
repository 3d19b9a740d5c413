use Prim.Native.Nat.{◌+◌, ◌-◌, ◌*◌, ◌<◌}
use mathlib.Core.Path.{◌≡◌, sym, ◌∙◌}
use native.Mathlib.Omega.{arith}
use Rattle.track.proofs.Chains.{fails, holds}
use Rattle.track.proofs.RowLaws.{has_far, has_near, extras_stop, extras_next, extras_done}
use Rattle.track.proofs.extras.has_extras.Goals as goal
use Rattle.track.proofs.extras.has_extras.Goals.{then-first-gt-EXTRAS-via-then-first-gt-EXTRAS, then-first-gt-EXTRAS-via-else-first-gt-EXTRAS+then-first-n}

pub returns-then-first-gt-EXTRAS : goal.returns-then-first-gt-EXTRAS
returns-then-first-gt-EXTRAS c =
    let far : 8192 < c.args.first + c.args.n = elim c.then-first-gt-EXTRAS.branch [
      | then-first-gt-EXTRAS-via-then-first-gt-EXTRAS w ↦ omega arith
      | then-first-gt-EXTRAS-via-else-first-gt-EXTRAS+then-first-n w ↦ omega arith
    ] in
    sym (has_far _ _ _ _ _ far)

pub loop-i-init : goal.loop-i-init
loop-i-init c =
    let e : c.args.first + c.args.n - c.args.first ≡ c.args.n = omega arith in
    rw e (has_near _ _ _ _ _ (omega arith))

pub returns-then-not-is_extra : goal.returns-then-not-is_extra
returns-then-not-is_extra c =
    sym (c.loop-i.invariant ∙ extras_stop _ _ _ _ c.loop-i-test.true (fails c.is_extra.ensures c.if-not-is_extra.true-raw))

pub overflow_add-least : goal.overflow_add-least
overflow_add-least c =
    omega (arith, c.shared_slice_known-1.given (c.loop-i.i * 3))

pub loop-i-preserved : goal.loop-i-preserved
loop-i-preserved c =
    let next = extras_next _ _ _ _ c.loop-i-test.true (holds c.is_extra.ensures c.if-not-is_extra.false-raw) in
    c.loop-i.invariant ∙ rw c.get-least.ensures next

pub returns : goal.returns
returns c =
    sym (c.loop-i.invariant ∙ extras_done _ _ _ _ c.loop-i-test.false)
