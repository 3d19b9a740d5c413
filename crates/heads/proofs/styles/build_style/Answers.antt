-- `build_style`, by the id.
use mathlib.Core.Path.{refl, sym}
use Rattle.heads.proofs.Cells.{style_made}
use Rattle.heads.proofs.styles.build_style.Goals as goal

pub named-requires : goal.named-requires
named-requires c =
    (c.requires.0, c.requires.1, c.requires.2, c.requires.3, c.requires.4, rw c.in-Some.is at c.id_of.ensures.found_fits)

pub returns : goal.returns
returns c =
    λ l y.
    style_made _ _ _ _ _ _ _ _ _ _ _ (sym (rw c.in-Some.is at (c.id_of.ensures.of_rows l y))) c.named.result (c.named.ensures l y)

pub returns-in_default : goal.returns-in_default
returns-in_default c =
    λ l y. (sym (rw c.in_default.is at (c.id_of.ensures.of_rows l y)), refl, refl, refl)
