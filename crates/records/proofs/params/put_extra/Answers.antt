-- `put_extra` meets its contract: a number and a string. Assumes nothing.
use mathlib.Core.Path.{refl, ap, ◌∙◌}
use native.Mathlib.Omega.{arith}
use lib.ListN.{length, length-set}
use lib.Seq.{length-sets}
use Prim.Native.Nat.{◌*◌}
use mathlib.Core.List.{[], ◌∷◌}
use Rattle.track.specs.Layout.{span_cells, extra_cells}
use Rattle.records.proofs.Storing.{first, then}
use Rattle.records.proofs.params.put_extra.Goals as goal

pub put_span-requires : goal.put_span-requires
put_span-requires c =
    (simp length-set (omega arith), c.requires.2)

pub shape_of-extras : goal.shape_of-extras
shape_of-extras c =
    ap length c.put_span.ensures ∙ simp (length-sets, length-set)

pub returns : goal.returns
unfolding extra_cells
returns c =
    (then (first c.args.extras.now (c.args.i * 3) (c.args.x.number ∷ []) refl refl) (span_cells c.args.x.value) c.put_span.ensures refl).is
