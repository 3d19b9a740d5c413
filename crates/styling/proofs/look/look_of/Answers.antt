-- `look_of`: each field is what its reader says.
use mathlib.Core.Path.{refl}
use Rattle.styling.proofs.Parted.{parted}
use Rattle.styling.proofs.look.look_of.Goals as goal

pub returns : goal.returns
returns c =
    record {
      family_value = refl;
      of_rows = λ l y. rw (
        c.is_some.ensures,
        c.unwrap_or.ensures,
        c.is_some-2.ensures,
        c.unwrap_or-2.ensures,
        parted c.args.color _,
        parted c.args.back _,
        c.text_align.ensures l y,
        c.is_bold.ensures l y,
        c.is_italic.ensures l y,
        c.is_underline.ensures l y,
        c.is_strike.ensures l y,
      );
    }
