-- `copy_halves` meets its contract: what the second part covers of the first is the same.
use mathlib.Core.Path.{refl, sym}
use native.Mathlib.Omega.{arith}
use lib.Seq.{length-take-le}
use Rattle.scan.proofs.Stores.{sets_halves}
use Rattle.scan.proofs.table.copy_halves.Goals as goal

pub slice_bounds-copy_each-end : goal.slice_bounds-copy_each-end
slice_bounds-copy_each-end c =
    sym (length-take-le _ c.args.piece.now (omega arith))

pub copy_each-requires : goal.copy_each-requires
copy_each-requires c =
    rw (length-take-le c.args.half c.args.piece.now c.requires.0) (omega arith)

pub returns : goal.returns
returns c =
    sets_halves c.args.piece.now _ _ _ _ _ _ c.requires.0 c.requires.1 refl c.copy_each.ensures c.copy_each-2.ensures
