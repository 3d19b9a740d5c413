-- `decode` meets its contract: a part without `&` is as it is with its entities read.
use native.Mathlib.Omega.{arith}
use Rattle.xml.proofs.PassLaws.{decoded-part}
use Rattle.xml.proofs.strings.decode.Goals as goal

pub returns-then-p-start : goal.returns-then-p-start
returns-then-p-start c =
    rw (decoded-part c.args.src.now c.args.p.from c.args.p.end c.args.start c.args.stop c.requires.3 (omega arith) (omega arith)
    c.requires.1) c.copy.ensures
