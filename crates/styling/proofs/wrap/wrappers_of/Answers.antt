-- `wrappers_of`: the size, then the colour.
use mathlib.Core.Path.{◌∙◌}
use Rattle.scan.proofs.Handed.{handed_on}
use Rattle.xml.proofs.RowFacts.{has_rows}
use Rattle.styling.proofs.Wrapped.{wrapped, wrapped-refused, wrappers_sized, wrappers_refused}
use Rattle.styling.proofs.wrap.wrappers_of.Goals as goal

pub returns : goal.returns
returns c =
    record {
      family_fits = rw c.dressed.ensures.font_value (c.font_of-font.ensures (has_rows c.args.attrs.now.room c.args.attrs.now.within).0 (has_rows c.args.attrs.now.room c.args.attrs.now.within).1).within;
      of_rows = λ l y. wrapped (c.font_of-font.ensures l y) c.dressed.result _ (c.dressed.ensures.of_rows l y) (c.in_ok-color.ensures l y)
          ∙ wrappers_sized _ _ (c.in_ok-size.ensures l y);
    }

pub returns-in_err-size : goal.returns-in_err-size
returns-in_err-size c =
    rw (handed_on _ c.from_residual.ensures) (record {
      family_fits = tt;
      of_rows = λ l y. wrappers_refused _ _ (c.in_err-size.ensures l y);
    })

pub returns-in_err-color : goal.returns-in_err-color
returns-in_err-color c =
    rw (handed_on _ c.from_residual-in_err-color.ensures) (record {
      family_fits = tt;
      of_rows = λ l y. wrapped-refused _ _ _ (c.in_err-color.ensures l y) ∙ wrappers_sized _ _ (c.in_ok-size.ensures l y);
    })
