-- `keep` writes the row of an attribute that was found.
use mathlib.Core.Path.{refl}
use Rattle.track.specs.Layout.{extra_cells}
use Rattle.extras.proofs.extras.keep.Goals as goal

pub put_extra-requires : goal.put_extra-requires
put_extra-requires c =
    let w = rw c.in-Some.is at c.requires in (w.0, w.1, (w.2, w.3))

pub returns-in-Some : goal.returns-in-Some
unfolding extra_cells
returns-in-Some c =
    rw c.in-Some.is (record {
      value = refl;
      extras_after = c.put_extra.ensures;
    })
