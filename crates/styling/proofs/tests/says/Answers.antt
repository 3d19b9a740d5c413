-- `says` tests the value of the attribute that `find` answers.
use mathlib.Core.Path.{refl, sym, ap, ◌∙◌}
use Rattle.styling.proofs.Attributes.{found-says, none-says}
use Rattle.styling.proofs.tests.says.Goals as goal

pub returns-in-Some : goal.returns-in-Some
returns-in-Some g c =
    λ test k l y. let x = rw c.in-Some.is at (c.find.ensures.of_rows l y) in
    k _ _ (record { shown = c.value.result; shows = refl; says = record { met = c.passes.ensures } }) ∙ (ap test c.value.ensures ∙ sym (found-says x test))

pub returns : goal.returns
returns g c =
    λ test k l y. sym (none-says (rw c.in-None.is at (c.find.ensures.of_rows l y)) test)
