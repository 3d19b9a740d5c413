-- `closes` meets its contract: a byte that differs is enough.
use Rattle.std.proofs.Common.{◌+◌, sym, ◌∙◌, get_or, arith}
use borrow.Author.Tests.{eqb-true, eqb-false}
use Rattle.scan.proofs.Searches.{mark_not}
use Rattle.tree.specs.Read.{comment_end}
use Rattle.tree.proofs.Comments.{closes_by_first}
use Rattle.tree.proofs.nodes.closes.Goals as goal
use Rattle.tree.proofs.nodes.closes.Goals.{then-src-at-eq62, else-src-at-eq62}

pub returns-then-src-at-eq45 : goal.returns-then-src-at-eq45
returns-then-src-at-eq45 c =
    let s = c.args.src.now in
    let p = c.args.at in
    elim c.if-src-at-eq62.branch [
      | then-src-at-eq62 w ↦ closes_by_first s p c.requires (eqb-true (get_or s (p + 1) 0) 45 (sym w.value-is ∙ c.if-src-at-eq45.true)) w.if-src-at-eq62.true
      | else-src-at-eq62 w ↦ absurd (w.if-src-at-eq62.false (eqb-true (get_or s (p + 2) 0) 62 (sym w.value-is ∙ c.if-src-at-eq45.true)))
    ]

pub returns-else-src-at-eq45 : goal.returns-else-src-at-eq45
returns-else-src-at-eq45 c =
    let s = c.args.src.now in
    let p = c.args.at in
    let f = c.if-src-at-eq45.false in
    elim c.if-src-at-eq62.branch [
      | then-src-at-eq62 w ↦ f ∙ sym (mark_not s comment_end p 1 (omega arith) (eqb-false (get_or s (p + 1) 0) 45 (sym w.value-is ∙ f)))
      | else-src-at-eq62 w ↦ f ∙ sym (mark_not s comment_end p 2 (omega arith) w.if-src-at-eq62.false)
    ]
