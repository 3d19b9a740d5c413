-- A clock time where no metric ends the text; elsewhere by its last byte, or by its last two.
use mathlib.Core.Path.{refl, sym, ◌∙◌}
use native.Mathlib.Omega.{arith}
use lib.Ieee.{of_int, of_bits}
use lib.Seq.{length-take-le}
use borrow.Author.Tests.{not-true, not-false, eqb-true}
use Rattle.times.proofs.Parts.{metric_ms, metric_s, metric_m, metric_h, metric_f, metric_t, metric_none, ends-none, ends_last}
use Rattle.times.proofs.clock.expression.Goals as goal
use Rattle.times.proofs.clock.expression.Goals.{then-end-eq0-via-then-end-eq0, then-end-eq0-via-else-end-eq0+then-text-end-ne109}

pub returns-then-not-ends_metric : goal.returns-then-not-ends_metric
returns-then-not-ends_metric c =
    let none = ends-none _ (sym c.ends_metric.ensures ∙ not-true _ c.if-not-ends_metric.true-raw) in
    c.clock_time.ensures ∙ sym (metric_none c.args.text.now (omega arith) c.args.ctx _ refl none.0 none.1 none.2 none.3 none.4)

pub slice_bounds-units-end : goal.slice_bounds-units-end
slice_bounds-units-end c =
    sym (length-take-le _ c.args.text.now (omega arith))

pub slice_bounds-units-end-in-109 : goal.slice_bounds-units-end-in-109
slice_bounds-units-end-in-109 c =
    sym (length-take-le _ c.args.text.now (omega arith))

pub slice_bounds-units-end-then-end-eq0 : goal.slice_bounds-units-end-then-end-eq0
slice_bounds-units-end-then-end-eq0 c =
    sym (length-take-le _ c.args.text.now (omega arith))

pub slice_bounds-units-length : goal.slice_bounds-units-length
slice_bounds-units-length c =
    sym (length-take-le _ c.args.text.now (omega arith))

pub slice_bounds-at_rate-end : goal.slice_bounds-at_rate-end
slice_bounds-at_rate-end c =
    sym (length-take-le _ c.args.text.now (omega arith))

pub slice_bounds-at_rate-end-in_default : goal.slice_bounds-at_rate-end-in_default
slice_bounds-at_rate-end-in_default c =
    sym (length-take-le _ c.args.text.now (omega arith))

pub returns-in-104 : goal.returns-in-104
unfolding of_int of_bits
returns-in-104 c =
    c.units.ensures ∙ sym (metric_h c.args.text.now (omega arith) c.args.ctx c.in-104.is)

pub returns-in-109 : goal.returns-in-109
unfolding of_int of_bits
returns-in-109 c =
    c.units-in-109.ensures ∙ sym (metric_m c.args.text.now (omega arith) c.args.ctx c.in-109.is)

pub returns-else-text-end-ne109 : goal.returns-else-text-end-ne109
unfolding of_int of_bits
returns-else-text-end-ne109 c =
    c.units-in-115.ensures ∙ sym (metric_ms c.args.text.now (omega arith) c.args.ctx c.in-115.is (omega arith)
    (eqb-true _ 109 (not-false _ c.if-text-end-ne109.false-raw)))

pub returns-in-102 : goal.returns-in-102
returns-in-102 c =
    c.at_rate.ensures ∙ sym (metric_f c.args.text.now (omega arith) c.args.ctx c.in-102.is)

pub returns-in_default : goal.returns-in_default
returns-in_default c =
    let rest = c.in_default.in_default-own.rest in
    let some = sym c.ends_metric.ensures ∙ not-false _ c.if-not-ends_metric.false-raw in
    c.at_rate-in_default.ensures ∙ sym (metric_t c.args.text.now (omega arith) c.args.ctx (ends_last _ some rest.0.0.0.1 rest.0.0.1 rest.0.1 rest.1))

pub returns-then-end-eq0 : goal.returns-then-end-eq0
unfolding of_int of_bits
returns-then-end-eq0 c =
    let text = c.args.text.now in
    c.units-then-end-eq0.ensures ∙ sym (metric_s text (omega arith) c.args.ctx c.in-115.is (elim c.then-end-eq0.branch [
      | then-end-eq0-via-then-end-eq0 w ↦ λ h. absurd (omega arith)
      | then-end-eq0-via-else-end-eq0+then-text-end-ne109 w ↦ λ h. w.if-text-end-ne109.true
    ]))
