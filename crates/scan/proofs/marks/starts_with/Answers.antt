-- `starts_with` meets its contract: as many bytes as the mark has are compared with it, where there are as many.
use native.Mathlib.Omega.{arith}
use borrow.Author.Tests.{lt-leb}
use Rattle.scan.proofs.Searches.{marked, unmarked}
use Rattle.scan.proofs.marks.starts_with.Goals as goal

pub returns-then-mark-src : goal.returns-then-mark-src
returns-then-mark-src c =
    marked _ _ _ _ c.requires (omega arith) c.eq.ensures

pub returns-else-mark-src : goal.returns-else-mark-src
returns-else-mark-src c =
    rw (lt-leb _ _ c.if-mark-src.false) (unmarked _ _ _ c.requires c.if-mark-src.false)
