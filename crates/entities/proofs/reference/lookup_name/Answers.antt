-- `lookup_name` meets its contract: the check finds all but these two.
use native.Mathlib.Omega.{arith}
use Rattle.entities.proofs.References.{is_amp, is_nbsp}
use Rattle.entities.proofs.reference.lookup_name.Goals as goal

pub returns-in-amp : goal.returns-in-amp
returns-in-amp c =
    is_amp c.args.word.now (omega arith) (omega arith) (omega arith) (omega arith)

pub returns-in-nbsp : goal.returns-in-nbsp
returns-in-nbsp c =
    is_nbsp c.args.word.now (omega arith) (omega arith) (omega arith) (omega arith) (omega arith)
