-- `id_of`: the first name, or else the second.
use mathlib.Core.Path.{◌∙◌}
use Rattle.meaning.specs.Nodes.{id_of}
use Rattle.styling.proofs.Attributes.{found-valued, none-valued}
use Rattle.params.proofs.Seeking.{finds_value}
use Rattle.params.proofs.ids.id_of.Goals as goal

pub returns-in-Some : goal.returns-in-Some
unfolding id_of
returns-in-Some c =
    record {
      found_fits = rw c.in-Some.is at c.find.ensures.fits;
      of_rows = λ l y. rw (found-valued (rw c.in-Some.is at (c.find.ensures.of_rows l y)));
    }

pub returns-in-None : goal.returns-in-None
unfolding id_of
returns-in-None c =
    record {
      found_fits = c.find-in-None.ensures.fits;
      of_rows = λ l y.
          finds_value _ _ _ c.find-in-None.result (c.find-in-None.ensures.of_rows l y)
          ∙ rw (none-valued (rw c.in-None.is at (c.find.ensures.of_rows l y)));
    }
