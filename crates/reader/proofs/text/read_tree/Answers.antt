-- `read_tree` meets its contract: the tree stays, or every table is cleared. Assumes nothing.
use mathlib.Core.Path.{refl, sym}
use lib.Seq.{length-take-le}
use Rattle.reader.proofs.Shells.{kept_laid, zero_as}
use Rattle.reader.proofs.text.read_tree.Goals as goal

pub slice_bounds-tree-end : goal.slice_bounds-tree-end
slice_bounds-tree-end c =
    c.requires.ends.strings.0

pub slice_bounds-tree-end-2 : goal.slice_bounds-tree-end-2
slice_bounds-tree-end-2 c =
    sym (length-take-le _ _ c.requires.ends.strings.0)

pub read_nodes-requires : goal.read_nodes-requires
read_nodes-requires c =
    c.requires.asks

pub drop_tree-requires : goal.drop_tree-requires
drop_tree-requires c =
    c.requires.ends

pub returns-in-Ok : goal.returns-in-Ok
returns-in-Ok c =
    record {
      kept = refl;
      means = λ x.
          let s = c.args.strings.now in
          kept_laid s s ((rw c.in-Ok.is at c.read_nodes.ensures) x);
    }

pub returns-in-Err : goal.returns-in-Err
returns-in-Err c =
    record {
      kept = c.drop_tree.ensures;
      means = λ x. let y = (rw c.in-Err.is at c.read_nodes.ensures) x in (y.0, zero_as _ _ y.1);
    }
