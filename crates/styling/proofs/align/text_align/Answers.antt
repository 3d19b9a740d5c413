-- `text_align` reads the alignment from the attribute that `find` answers.
use mathlib.Core.Path.{sym, ap, ◌∙◌}
use Rattle.meaning.specs.Kinds.{with_places}
use Rattle.meaning.specs.Styling.{align_in, align_or}
use Rattle.styling.proofs.Attributes.{found-valued, none-valued}
use Rattle.styling.proofs.align.text_align.Goals as goal

pub returns-in-Some : goal.returns-in-Some
unfolding align_in
returns-in-Some c =
    λ l y. let x = rw c.in-Some.is at (c.find.ensures.of_rows l y) in rw c.value.ensures at c.parse_text_align.ensures ∙ sym (ap (align_or with_places) (found-valued x))

pub returns-in-None : goal.returns-in-None
returns-in-None c =
    λ l y. let x = rw c.in-None.is at (c.find.ensures.of_rows l y) in sym (ap (align_or with_places) (none-valued x))
