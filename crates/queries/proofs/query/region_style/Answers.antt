-- `region_style` meets its contract. Assumes nothing.
use mathlib.Core.Path.{refl, sym, ◌∙◌}
use native.Mathlib.Omega.{arith}
use Rattle.scan.proofs.Handed.{handed_on}
use Rattle.queries.proofs.Handed.{lengths, ready, has_regions}
use Rattle.queries.proofs.Promising.{check_taken, checked-query}
use Rattle.queries.proofs.Asking.{no_bytes, region_refuses, region_asked}
use Rattle.queries.specs.Promise.{of_region}
use Rattle.queries.proofs.query.region_style.Goals as goal

pub get-requires : goal.get-requires
get-requires c =
    let a = check_taken _ _ (sym c.check_query.ensures ∙ c.in_ok-check_query.was) in
    omega (arith, (lengths _ a.0.full).head)

pub region_part-requires : goal.region_part-requires
region_part-requires c =
    let a = check_taken _ _ (sym c.check_query.ensures ∙ c.in_ok-check_query.was) in
    rw c.get.ensures (has_regions _ a.0)

pub get-requires-2 : goal.get-requires-2
get-requires-2 c =
    let a = check_taken _ _ (sym c.check_query.ensures ∙ c.in_ok-check_query.was) in
    omega (arith, (lengths _ a.0.full).head)

pub invariant_of-named : goal.invariant_of-named
invariant_of-named c =
    let a = check_taken _ _ (sym c.check_query.ensures ∙ c.in_ok-check_query.was) in
    record { ready = rw c.get-2.ensures (ready _ a.0) }

pub resolve_over-walked-requires : goal.resolve_over-walked-requires
resolve_over-walked-requires c =
    let a = check_taken _ _ (sym c.check_query.ensures ∙ c.in_ok-check_query.was) in
    let p = rw c.in-Ok.is at c.region_part.ensures in (
      record { known = omega arith; is = refl; within = p.within.0.within; few = p.within.0.few },
      record { known = omega arith; is = refl; within = omega arith; few = omega arith },
    )

pub returns-in_err-check_query : goal.returns-in_err-check_query
returns-in_err-check_query c =
    rw (handed_on _ c.from_residual.ensures) (checked-query (of_region _) _ _ _ (sym c.check_query.ensures ∙ c.in_err-check_query.was) _ c.clear.ensures)

pub returns-in-Err : goal.returns-in-Err
returns-in-Err c =
    let h = sym c.check_query.ensures ∙ c.in_ok-check_query.was in
    rw c.refused.ensures (region_refuses _ _ _ h _ (rw (c.in-Err.is, c.get.ensures) at
    c.region_part.ensures) _ c.clear.ensures)

pub returns : goal.returns
returns c =
    let h = sym c.check_query.ensures ∙ c.in_ok-check_query.was in
    region_asked _ _ _ h _ (rw (c.in-Ok.is, c.get.ensures) at c.region_part.ensures) _ _ _ c.clear.ensures
    c.resolve_over-walked.result _
    (rw (c.get-2.ensures, no_bytes) at c.resolve_over-walked.ensures) c.finish.ensures
