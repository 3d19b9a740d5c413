-- `rate_of`: the parameter that `seek` answers.
use mathlib.Core.Path.{sym, ◌∙◌}
use native.Mathlib.Omega.{arith}
use Rattle.scan.specs.Part.{string_at}
use Rattle.xml.proofs.RowFacts.{has_rows}
use Rattle.params.proofs.Seeking.{param_rate, no_rate}
use Rattle.params.proofs.rates.rate_of.Goals as goal

pub overflow_add-h : goal.overflow_add-h
overflow_add-h c =
    let own = has_rows c.args.attrs.now.room c.args.attrs.now.within in
    let x = rw c.in-Some.is at (c.seek.ensures own.0 own.1) in
    omega (arith, x.within)

pub slice_bounds-rate_in-end : goal.slice_bounds-rate_in-end
slice_bounds-rate_in-end c =
    let own = has_rows c.args.attrs.now.room c.args.attrs.now.within in
    let x = rw c.in-Some.is at (c.seek.ensures own.0 own.1) in
    omega (arith, x.within)

pub returns-in-Some : goal.returns-in-Some
unfolding string_at
returns-in-Some c =
    let z = c.args.attrs.now.strings.now in
    λ l y. c.rate_in.ensures ∙ sym (param_rate c.args.name.now _ z (rw c.in-Some.is at (c.seek.ensures l y)))

pub returns-in-None : goal.returns-in-None
returns-in-None c =
    λ l y. sym (no_rate c.args.name.now _ (rw c.in-None.is at (c.seek.ensures l y)))
