-- `write_extras` meets its contract.
use Rattle.writer.proofs.Rowing.{Rowed}
use Rattle.writer.specs.Rows.{extra_text}
use Rattle.writer.proofs.buffer.Out.write_extras.Given as goal

abbrev pub invariant-loop-i : goal.invariant-loop-i
invariant-loop-i l = Rowed (extra_text l.list l.extras l.strings) l.first l.n l.initial.self l.i l.self
