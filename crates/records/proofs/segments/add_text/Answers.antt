-- `add_text` meets its contract: a row, if there is room; the span over the zeros of the kind's row.
use Prim.Native.Nat.{◌*◌}
use mathlib.Core.Path.{refl}
use mathlib.Core.List.{[], ◌∷◌}
use native.Mathlib.Omega.{arith}
use Rattle.track.specs.Layout.{span_cells, segment_cells}
use Rattle.records.proofs.Overwrites.{kind_over}
use Rattle.records.proofs.segments.add_text.Goals as goal

pub returns : goal.returns
unfolding segment_cells
returns c =
    let row = kind_over (0 ∷ 0 ∷ []) (span_cells c.args.x) (0 ∷ 0 ∷ []) c.args.segments.now _ _ (c.args.n * 6) 1 1
    c.put_kind.ensures c.put_span.ensures refl in
    (omega (arith, c.if-n-ge-SEGMENTS.false), refl, row)
