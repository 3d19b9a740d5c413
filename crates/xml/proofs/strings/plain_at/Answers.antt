-- `plain_at` meets its contract: up to the next `&` there is none.
use native.Mathlib.Omega.{arith}
use Rattle.xml.proofs.PassLaws.{ends-passes}
use Rattle.xml.proofs.strings.plain_at.Goals as goal

pub returns : goal.returns
returns c =
    (omega arith, c.find_far-end.ensures.after, ends-passes _ c.args.src.now _ _ c.find_far-end.ensures)
