-- `dressed`: each flag is what its test says.
use mathlib.Core.Path.{refl}
use Rattle.styling.proofs.wrap.dressed.Goals as goal

pub returns : goal.returns
returns c =
    record {
      font_value = refl;
      of_rows = λ l y. rw (c.is_some.ensures, c.opaque.ensures, c.is_bold.ensures l y, c.is_italic.ensures l y, c.is_underline.ensures l y, c.is_strike.ensures l y);
    }
