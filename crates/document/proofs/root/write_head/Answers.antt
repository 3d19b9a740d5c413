-- `write_head` meets its contract.
use Rattle.writer.proofs.Chaining.{writes_none, writes_stop, writes_then}
use mathlib.Core.Logic.{inl, inr}
use Rattle.document.proofs.RootLaws.{head_none, headed_by}
use Rattle.document.proofs.root.write_head.Goals as goal
use Rattle.document.proofs.root.write_head.Goals.{else-n-eq0-via-then-n-eq0+else-m-eq0, else-n-eq0-via-else-n-eq0}

pub returns-then-m-eq0 : goal.returns-then-m-eq0
returns-then-m-eq0 c =
    rw (head_none _ _ c.args.n c.args.m c.if-n-eq0.true c.if-m-eq0.true) (writes_none _)

pub returns-in_err-put : goal.returns-in_err-put
returns-in_err-put c =
    rw c.from_residual.ensures (rw (headed_by _ _ c.args.n c.args.m (λ x. x) (λ x. x) (elim c.else-n-eq0.branch [
      | else-n-eq0-via-then-n-eq0+else-m-eq0 w ↦ inl (w.if-n-eq0.true, w.if-m-eq0.false)
      | else-n-eq0-via-else-n-eq0 w ↦ inr w.if-n-eq0.false
    ])) (writes_stop _ c.in_err-put.ensures))

pub returns-in_err-write_styling : goal.returns-in_err-write_styling
returns-in_err-write_styling c =
    rw c.from_residual-in_err-write_styling.ensures (rw (headed_by _ _ c.args.n c.args.m (λ x. x) (λ x. x) (elim c.else-n-eq0.branch [
      | else-n-eq0-via-then-n-eq0+else-m-eq0 w ↦ inl (w.if-n-eq0.true, w.if-m-eq0.false)
      | else-n-eq0-via-else-n-eq0 w ↦ inr w.if-n-eq0.false
    ])) (writes_then c.in_ok-put.ensures (writes_stop _ c.in_err-write_styling.ensures)))

pub returns-in_err-write_layout : goal.returns-in_err-write_layout
returns-in_err-write_layout c =
    rw c.from_residual-in_err-write_layout.ensures (rw (headed_by _ _ c.args.n c.args.m (λ x. x) (λ x. x) (elim c.else-n-eq0.branch [
      | else-n-eq0-via-then-n-eq0+else-m-eq0 w ↦ inl (w.if-n-eq0.true, w.if-m-eq0.false)
      | else-n-eq0-via-else-n-eq0 w ↦ inr w.if-n-eq0.false
    ])) (writes_then c.in_ok-put.ensures (writes_then c.in_ok-write_styling.ensures (writes_stop _ c.in_err-write_layout.ensures))))

pub returns : goal.returns
returns c =
    rw (headed_by _ _ c.args.n c.args.m (λ x. x) (λ x. x) (elim c.else-n-eq0.branch [
      | else-n-eq0-via-then-n-eq0+else-m-eq0 w ↦ inl (w.if-n-eq0.true, w.if-m-eq0.false)
      | else-n-eq0-via-else-n-eq0 w ↦ inr w.if-n-eq0.false
    ])) (writes_then c.in_ok-put.ensures (writes_then c.in_ok-write_styling.ensures (writes_then c.in_ok-write_layout.ensures c.put-2.ensures)))
