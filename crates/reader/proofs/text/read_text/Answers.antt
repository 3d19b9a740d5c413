-- `read_text` meets its contract, by its outcomes. Assumes nothing.
use borrow.Author.Tests.{not-true, not-false}
use Rattle.scan.proofs.Handed.{handed_on}
use Rattle.reader.proofs.Shells.{short_promise, away_promise, tree-asks, tree-promise}
use Rattle.reader.proofs.text.read_text.Goals as goal

pub returns-then-not-prepare : goal.returns-then-not-prepare
returns-then-not-prepare c =
    short_promise _ _ _ _ (rw (not-true c.prepare.result c.if-not-prepare.true-raw) at c.prepare.ensures) c.clear_tree.ensures

pub read_tree-requires : goal.read_tree-requires
read_tree-requires c =
    let blank = rw (not-false c.prepare.result c.if-not-prepare.false-raw) at c.prepare.ensures in
    tree-asks c.args.wanted c.args.text.now _ _ blank c.parse_xml.ensures
    c.in_ok-tree.was

pub returns-in_err-tree : goal.returns-in_err-tree
returns-in_err-tree c =
    let blank = rw (not-false c.prepare.result c.if-not-prepare.false-raw) at c.prepare.ensures in
    rw (handed_on _ c.from_residual.ensures) (away_promise _ _ _ _ blank c.in_err-tree.ensures)

pub returns : goal.returns
returns c =
    let blank = rw (not-false c.prepare.result c.if-not-prepare.false-raw) at c.prepare.ensures in
    tree-promise c.args.wanted c.args.text.now _ _ blank c.parse_xml.ensures
    c.in_ok-tree.was c.read_tree.result _ c.parse_xml.auto.nodes c.parse_xml.auto.attrs c.read_tree.ensures
