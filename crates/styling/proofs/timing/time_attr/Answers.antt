-- `time_attr` reads the time from the attribute that `find` answers.
use mathlib.Core.Path.{sym, ◌∙◌}
use Rattle.meaning.specs.Timing.{time_of}
use Rattle.styling.proofs.Attributes.{found-reading, none-reading}
use Rattle.styling.proofs.timing.time_attr.Goals as goal

pub time_in-requires : goal.time_in-requires
time_in-requires c =
    rw c.in-Some.is at c.find.ensures.fits

pub returns-in-Some : goal.returns-in-Some
unfolding time_of
returns-in-Some c =
    λ l y. let x = rw c.in-Some.is at (c.find.ensures.of_rows l y) in c.time_in.ensures ∙ sym (found-reading x _)

pub returns-in-None : goal.returns-in-None
unfolding time_of
returns-in-None c =
    λ l y. let x = rw c.in-None.is at (c.find.ensures.of_rows l y) in sym (none-reading x _)
