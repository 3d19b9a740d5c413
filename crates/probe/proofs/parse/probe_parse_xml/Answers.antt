-- `probe_parse_xml` meets its contract, by the cases of what `parse_xml` answers.
use borrow.Author.Tests.{le-leb}
use Rattle.probe.proofs.Trees.{tells_tree, tells_refused}
use Rattle.probe.proofs.parse.probe_parse_xml.Goals as goal

pub returns-in-Err : goal.returns-in-Err
returns-in-Err c =
    let w = le-leb _ _ c.if-out-lt3.false in
    tells_refused _ _ _ c.parse_xml.ensures w _ c.in-Err.is c.put_counts.ensures

pub returns-in-Ok : goal.returns-in-Ok
returns-in-Ok c =
    let w = le-leb _ _ c.if-out-lt3.false in
    tells_tree _ _ _ c.parse_xml.ensures w _ _ c.in-Ok.is c.put_counts-in-Ok.ensures
