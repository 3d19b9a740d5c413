-- `find_past` meets its contract: the place after the mark that `find_seq` finds, or the length.
use Rattle.scan.proofs.Searches.{passed_got, passed_none}
use Rattle.scan.proofs.marks.find_past.Goals as goal

pub returns-then-i-src : goal.returns-then-i-src
returns-then-i-src c =
    passed_got c.args.mark.now c.args.src.now _ _ c.find_seq-i.ensures c.if-i-src.true

pub returns-else-i-src : goal.returns-else-i-src
returns-else-i-src c =
    passed_none c.args.mark.now c.args.src.now _ _ c.find_seq-i.ensures c.if-i-src.false
