-- `pg_parse_xml` meets its contract, by the cases of what `parse_xml` answers.
use Rattle.told.proofs.Trees.{reads_short, reads_refused, reads_tree, tree-small}
use Rattle.ttml.proofs.parse_xml.pg_parse_xml.Goals as goal

pub returns-then-counts-lt-COUNTS : goal.returns-then-counts-lt-COUNTS
returns-then-counts-lt-COUNTS c =
    reads_short c.clear.ensures c.if-counts-lt-COUNTS.true c.told.ensures
    (record { of_nodes = c.clear-then-counts-lt-COUNTS.ensures; of_attrs = c.clear-then-counts-lt-COUNTS-2.ensures; of_strings = c.clear_bytes.ensures })

pub put_counts-requires : goal.put_counts-requires
put_counts-requires c =
    let t = tree-small c.parse_xml.ensures c.in-Ok.is in
    (c.if-counts-lt-COUNTS.false, t.0, t.1)

pub returns-in-Err : goal.returns-in-Err
returns-in-Err c =
    reads_refused c.clear.ensures _ c.if-counts-lt-COUNTS.false c.in-Err.is c.parse_xml.ensures c.told-in-Err.ensures

pub returns-in-Ok : goal.returns-in-Ok
returns-in-Ok c =
    reads_tree c.clear.ensures _ _ c.if-counts-lt-COUNTS.false c.in-Ok.is c.parse_xml.ensures c.told-in-Ok.ensures
    c.put_counts.ensures
