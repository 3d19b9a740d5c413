-- `plain_text` meets its contract. The loop's invariant: the text of the rows before row i stands from `at` up to `to`.
use Rattle.walk.proofs.Rows.{Writing}
use Rattle.walk.proofs.plain_text.Given as goal

abbrev pub invariant-loop-i : goal.invariant-loop-i
invariant-loop-i l = Writing l.rows.segments.now l.rows.texts.now l.rows.first l.rows.many l.at l.initial.out l.i l.to l.out
