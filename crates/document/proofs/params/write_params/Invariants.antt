use Rattle.writer.proofs.Rowing.{Rowed}
use Rattle.document.specs.Roots.{param_text}
use Rattle.document.proofs.params.write_params.Given as goal

abbrev pub invariant-loop-i : goal.invariant-loop-i
invariant-loop-i l = Rowed (param_text l.params l.strings) 0 l.n l.initial.out l.i l.out
