-- `color_attr` reads the colour from the attribute that `find` answers.
use mathlib.Core.Path.{sym, ◌∙◌}
use Rattle.meaning.specs.Styling.{color_of}
use Rattle.styling.proofs.Attributes.{found-reading, none-reading}
use Rattle.styling.proofs.colours.color_attr.Goals as goal

pub returns-in-Some : goal.returns-in-Some
unfolding color_of
returns-in-Some c =
    λ l y. let x = rw c.in-Some.is at (c.find.ensures.of_rows l y) in rw c.value.ensures at c.color_in.ensures ∙ sym (found-reading x _)

pub returns-in-None : goal.returns-in-None
unfolding color_of
returns-in-None c =
    λ l y. let x = rw c.in-None.is at (c.find.ensures.of_rows l y) in sym (none-reading x _)
