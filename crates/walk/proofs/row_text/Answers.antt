-- `row_text` meets its contract, kind by kind.
use mathlib.Core.Path.{refl, sym}
use native.Mathlib.Omega.{arith}
use Rattle.scan.specs.Part.{string_at}
use Rattle.walk.proofs.Rows.{own-text, own-break, own-none, within-sum, next-within}
use borrow.Author.Rules.{rules}
use Rattle.walk.proofs.row_text.Goals as goal

pub overflow_add-end : goal.overflow_add-end
overflow_add-end c =
    let w = next-within _ _ _ _ c.requires.0 c.requires.1 c.args.rows.now.within in
    let h = within-sum c.args.rows.now.segments.now c.args.i (omega arith) _ _ c.get-start.ensures c.get.ensures w in
    search (rules, h)

pub slice_bounds-append-end : goal.slice_bounds-append-end
slice_bounds-append-end c =
    let w = next-within _ _ _ _ c.requires.0 c.requires.1 c.args.rows.now.within in
    let h = within-sum c.args.rows.now.segments.now c.args.i (omega arith) _ _ c.get-start.ensures c.get.ensures w in
    omega (arith, h, c.args.rows.now.full)

pub returns-in-1 : goal.returns-in-1
unfolding string_at
returns-in-1 c =
    rw (
      own-text c.args.rows.now.texts.now c.args.rows.now.segments.now c.args.i (omega arith),
      sym c.get-start.ensures,
      sym c.get.ensures,
    ) c.append.ensures

pub returns-in-2 : goal.returns-in-2
returns-in-2 c =
    rw (own-break c.args.rows.now.texts.now c.args.rows.now.segments.now c.args.i (omega arith)) c.append-in-2.ensures

pub returns-in_default : goal.returns-in_default
returns-in_default c =
    rw (own-none c.args.rows.now.texts.now c.args.rows.now.segments.now c.args.i (λ e. omega arith) (λ e. omega arith))
    (record { next = omega arith; within = c.requires.2; laid = refl })
