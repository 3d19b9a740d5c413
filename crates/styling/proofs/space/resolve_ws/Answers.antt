-- `resolve_ws` reads the mode from the attribute that `find` answers.
use mathlib.Core.Path.{sym, ap, ◌∙◌}
use Rattle.meaning.specs.Kinds.{with_places}
use Rattle.meaning.specs.Space.{space_of, space_said}
use Rattle.styling.proofs.Attributes.{found-valued, none-valued}
use Rattle.styling.proofs.space.resolve_ws.Goals as goal

pub returns-in-Some : goal.returns-in-Some
unfolding space_of
returns-in-Some c =
    λ l y. let x = rw c.in-Some.is at (c.find.ensures.of_rows l y) in
    rw c.value.ensures at c.mode_in.ensures ∙ sym (ap (space_said with_places _) (found-valued x))

pub returns-in-None : goal.returns-in-None
unfolding space_of
returns-in-None c =
    λ l y. let x = rw c.in-None.is at (c.find.ensures.of_rows l y) in sym (ap (space_said with_places _) (none-valued x))
