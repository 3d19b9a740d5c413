use Rattle.styling.proofs.Attributes.{found-valued, none-valued}
use Rattle.xml.proofs.PassForests.{string_long}
use native.Mathlib.Omega.{arith}
use Rattle.cues.proofs.paragraph.value_of.Goals as goal

pub returns-in_err-h : goal.returns-in_err-h
returns-in_err-h c =
    rw c.from_residual.ensures (λ l o.
    let x = c.in_err-h.ensures.of_rows l o in
    record { has = rw (none-valued x); span = rw (none-valued x); within = omega arith })

pub returns : goal.returns
returns c =
    λ l o.
    let x = c.in_ok-h.ensures.of_rows l o in
    let long = string_long c.args.attrs.now.strings.now c.in_ok-h.h.place c.in_ok-h.h.len x.within in
    record { has = rw (found-valued x); span = rw (found-valued x, long); within = x.within }
