use mathlib.Core.Path.{refl, sym, ◌∙◌}
use native.Mathlib.Omega.{arith}
use Rattle.tree.proofs.NodeLaws.{comment-on}
use Rattle.tree.proofs.Comments.{comment-still}
use Rattle.tree.proofs.nodes.skip_comments.Goals as goal

pub loop-i-init : goal.loop-i-init
loop-i-init c =
    (c.requires, omega arith, refl)

pub comment_end-i-requires : goal.comment_end-i-requires
comment_end-i-requires c =
    c.opens.ensures.opened c.loop-i-test.true

pub loop-i-smaller : goal.loop-i-smaller
loop-i-smaller c =
    let o = c.opens.ensures.opened c.loop-i-test.true in
    omega (arith, o.within, c.comment_end-i.ensures.beyond (omega (arith, o.within)) (omega arith), c.comment_end-i.ensures.within)

pub loop-i-preserved : goal.loop-i-preserved
loop-i-preserved c =
    let o = c.opens.ensures in (
      c.comment_end-i.ensures.within,
      omega (arith, c.comment_end-i.ensures.after, c.loop-i.invariant.1),
      c.loop-i.invariant.2
          ∙ comment-on c.args.src.now c.loop-i.i c.comment_end-i.result (omega (arith, (o.opened c.loop-i-test.true).within))
          (sym o.is ∙ c.loop-i-test.true) c.comment_end-i.ensures,
    )

pub returns : goal.returns
returns c =
    record {
      is = sym (c.loop-i.invariant.2 ∙ comment-still c.args.src.now c.loop-i.i (sym c.opens.ensures.is ∙ c.loop-i-test.false));
      after = c.loop-i.invariant.1;
      within = c.loop-i.invariant.0;
    }
