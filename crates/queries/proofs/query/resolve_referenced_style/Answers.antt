-- `resolve_referenced_style` meets its contract. Assumes nothing.
use mathlib.Core.Path.{refl, sym, ◌∙◌}
use native.Mathlib.Omega.{arith}
use Rattle.scan.proofs.Handed.{handed_on}
use Rattle.queries.proofs.Handed.{lengths, ready}
use Rattle.queries.proofs.Promising.{check_taken, checked-query}
use Rattle.queries.proofs.Asking.{whole, no_bytes, referenced, value-asked}
use Rattle.queries.specs.Promise.{of_value}
use Rattle.queries.proofs.query.resolve_referenced_style.Goals as goal

pub get-requires : goal.get-requires
get-requires c =
    let a = check_taken _ _ (sym c.check_query.ensures ∙ c.in_ok-check_query.was) in
    omega (arith, (lengths _ a.0.full).head)

pub invariant_of-named : goal.invariant_of-named
invariant_of-named c =
    let a = check_taken _ _ (sym c.check_query.ensures ∙ c.in_ok-check_query.was) in
    record { ready = rw c.get.ensures (ready _ a.0) }

pub resolve_over-walked-requires : goal.resolve_over-walked-requires
resolve_over-walked-requires c =
    let a = check_taken _ _ (sym c.check_query.ensures ∙ c.in_ok-check_query.was) in (
      record { known = omega arith; is = refl; within = omega arith; few = omega (arith, a.1) },
      record { known = omega arith; is = refl; within = omega arith; few = omega arith },
    )

pub returns-in_err-check_query : goal.returns-in_err-check_query
returns-in_err-check_query c =
    rw (handed_on _ c.from_residual.ensures) (referenced _ _ _ _ _ (checked-query (of_value _) _ _ _ (sym c.check_query.ensures ∙ c.in_err-check_query.was) _ c.clear.ensures))

pub returns : goal.returns
returns c =
    let h = sym c.check_query.ensures ∙ c.in_ok-check_query.was in
    value-asked _ _ _ h _ c.blank-look.ensures _ _ _ c.clear.ensures _ _ c.trim-name.ensures c.resolve_over-walked.result _
    (rw (c.get.ensures, whole, no_bytes) at c.resolve_over-walked.ensures) c.finish.ensures
