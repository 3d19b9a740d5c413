use Rattle.writer.proofs.Rowing.{rowed_start, rowed_step, rowed_stop, rowed_done}
use Rattle.writer.specs.Rows.{extra_text}
use Rattle.writer.proofs.buffer.Out.write_extras.Goals as goal

pub loop-i-init : goal.loop-i-init
loop-i-init c =
    rowed_start _ _ _ _

pub name_attr-requires : goal.name_attr-requires
name_attr-requires c =
    let p = c.requires in
    let a = c.loop-i.invariant.after in (
      rw c.extra_at-x.ensures (p.named c.loop-i.i a c.loop-i-test.true),
      rw c.extra_at-x.ensures (p.within c.loop-i.i a c.loop-i-test.true),
    )

pub returns-in_err-name_attr : goal.returns-in_err-name_attr
unfolding extra_text
returns-in_err-name_attr c =
    rw c.from_residual.ensures
    (rowed_stop _ _ _ _ _ _ c.loop-i.invariant c.loop-i-test.true _ (rw c.extra_at-x.ensures at c.in_err-name_attr.ensures))

pub loop-i-preserved : goal.loop-i-preserved
unfolding extra_text
loop-i-preserved c =
    rowed_step _ _ _ _ _ _ c.loop-i.invariant c.loop-i-test.true _ (rw c.extra_at-x.ensures at c.in_ok-name_attr.ensures)

pub returns : goal.returns
returns c =
    rowed_done _ _ _ _ _ _ c.loop-i.invariant c.loop-i-test.false
