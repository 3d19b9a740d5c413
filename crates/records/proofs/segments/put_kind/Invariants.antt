-- `put_kind` meets its contract. The loop's invariant: from cell 2 up to cell `i` there are zeros. Assumes nothing.
use Rattle.records.proofs.Zeros.{Zeroed}
use Rattle.records.proofs.segments.put_kind.Given as goal

abbrev pub invariant-loop-i : goal.invariant-loop-i
invariant-loop-i l = Zeroed l.initial.segments l.at 2 6 l.i l.segments
