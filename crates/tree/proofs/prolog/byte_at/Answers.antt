-- `byte_at` meets its contract. Assumes nothing.
use mathlib.Core.Path.{sym}
use native.Mathlib.Omega.{arith}
use lib.ListN.{get_or-eq_default}
use Rattle.tree.proofs.prolog.byte_at.Goals as goal

pub returns-else-pos-src : goal.returns-else-pos-src
returns-else-pos-src c =
    sym (get_or-eq_default c.args.src.now 0 (omega arith))
