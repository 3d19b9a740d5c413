use Rattle.track.specs.Layout.{optional_cells, color_cells, size_cells, flag_cells, look_cells}
use Rattle.records.proofs.Storing.{first, then, optional-wide, color-wide, size-wide}
use mathlib.Core.Path.{◌≡◌, refl}
use lib.ListN.{length}
use Rattle.records.proofs.styles.put_look.Goals as goal

pub returns : goal.returns
unfolding look_cells flag_cells
returns c =
    let a = first c.args.styles.now c.args.at (color_cells c.args.x.has_color c.args.x.color)
    c.put_color.ensures (color-wide c.args.x.has_color c.args.x.color) in
    let b = then a (color_cells c.args.x.has_back c.args.x.back)
    c.put_color-2.ensures
    (color-wide c.args.x.has_back c.args.x.back) in
    let d = then b (optional_cells c.args.x.has_family c.args.x.family)
    c.put_optional.ensures
    (optional-wide c.args.x.has_family c.args.x.family) in
    let e = then d (size_cells c.args.x.has_size c.args.x.size) c.put_size.ensures
    (size-wide c.args.x.has_size c.args.x.size) in
    let w : length (flag_cells c.args.x) ≡ 5 = refl in
    (then e (flag_cells c.args.x) c.put_flags.ensures w).is
