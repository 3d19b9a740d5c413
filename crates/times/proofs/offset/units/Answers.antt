-- So many units: the count as a float, times the unit, truncated.
use Rattle.std.specs.Prelude.{Ok}
use mathlib.Core.Path.{sym, ap, ◌∙◌}
use lib.Ieee.{Float, binary64, mul}
use mir.Syntax.{w64}
use mir.ValLaws.{to_z-of_z}
use Rattle.times.specs.Expressions.{truncated}
use Rattle.decimals.proofs.Reading.{decimal-limits}
use Rattle.times.proofs.offset.units.Goals as goal

pub to_f64-requires : goal.to_f64-requires
to_f64-requires c =
    let w = decimal-limits 15 22 _ (sym c.read_count.ensures ∙ c.in_ok-count.was) in (w.small, w.near)

pub returns : goal.returns
returns c =
    rw (sym c.read_count.ensures, c.in_ok-count.was)
    (ap Ok (to_z-of_z w64 _ (record { sfits = c.truncate.type_inv })
    ∙ (c.truncate.ensures ∙ ap (λ (x : Float). truncated (mul binary64 x c.args.unit)) c.to_f64.ensures)))
