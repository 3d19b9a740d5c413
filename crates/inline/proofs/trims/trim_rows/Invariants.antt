-- `trim_rows` meets its contract. The loop's invariant: the rows from `i` on are trimmed, and the search goes on. Assumes nothing.
use Rattle.inline.proofs.TrimLaws.{Trimming}
use Rattle.inline.proofs.trims.trim_rows.Given as goal

abbrev pub invariant-loop-i : goal.invariant-loop-i
invariant-loop-i l = Trimming l.initial.segments l.initial.texts l.first l.end l.segments l.texts l.i
