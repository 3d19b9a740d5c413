-- `drop_tree` meets its contract: what stands behind the tree is blank. Assumes nothing.
use mathlib.Core.Path.{sym}
use native.Mathlib.Omega.{arith}
use lib.Seq.{length-take-le}
use Rattle.blank.proofs.Clearing.{cleared-end}
use Rattle.blank.proofs.drop_tree.Goals as goal

pub slice_bounds-clear-end-2 : goal.slice_bounds-clear-end-2
slice_bounds-clear-end-2 c =
    sym (length-take-le _ _ (omega arith))

pub slice_bounds-clear-end-4 : goal.slice_bounds-clear-end-4
slice_bounds-clear-end-4 c =
    sym (length-take-le _ _ (omega arith))

pub slice_bounds-clear_bytes-end-2 : goal.slice_bounds-clear_bytes-end-2
slice_bounds-clear_bytes-end-2 c =
    sym (length-take-le _ _ (omega arith))

pub returns : goal.returns
returns c =
    record {
      of_nodes = cleared-end _ _ c.requires.nodes c.clear.ensures;
      of_attrs = cleared-end _ _ c.requires.attrs c.clear-2.ensures;
      of_strings = cleared-end _ _ c.requires.strings c.clear_bytes.ensures;
    }
