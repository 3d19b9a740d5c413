-- `region_part` meets its contract. Assumes nothing.
use mathlib.Core.Path.{sym, ap, ◌∙◌}
use mathlib.Core.List.{[]}
use native.Mathlib.Omega.{arith}
use Rattle.track.specs.Tables.{cell, region_at}
use Rattle.queries.specs.declared.own.Value.{Value}
use Rattle.scan.proofs.Handed.{handed_on}
use Rattle.queries.proofs.Regions.{row_within, region_none, region_refused, region_done}
use Rattle.queries.proofs.region.region_part.Goals as goal

pub region_at-region-requires : goal.region_at-region-requires
region_at-region-requires c =
    omega (arith, row_within _ [] _ _ _ _ (sym c.find_region.ensures ∙ c.in-Some.is), c.requires.named.rows)

pub invariant_of-kept : goal.invariant_of-kept
unfolding region_at cell
invariant_of-kept c =
    let h = c.requires.extras _ (row_within _ [] _ _ _ _ (sym c.find_region.ensures ∙ c.in-Some.is)) in
    record { has_extras = rw c.region_at-region.ensures h }

pub returns-in_default : goal.returns-in_default
returns-in_default c =
    region_none _ _ _ _ _ (sym c.find_region.ensures ∙ c.in_default.is) _ c.blank_part.ensures

pub returns-in_err-look : goal.returns-in_err-look
unfolding region_at cell
returns-in_err-look c =
    rw (handed_on _ c.from_residual.ensures) (region_refused _ _ _ _ _ _ (sym c.find_region.ensures
    ∙ c.in-Some.is) _ (rw (c.in_err-look.was, c.region_at-region.ensures) at c.own_values.ensures))

pub returns : goal.returns
unfolding region_at cell
returns c =
    let h = sym c.find_region.ensures ∙ c.in-Some.is in
    region_done _ _ _ _ _ _ h _ (c.requires.extras _ (row_within _ [] _ _ _ _ h)) (rw (c.in_ok-look.was, c.region_at-region.ensures) at
    c.own_values.ensures)
    (ap (λ (v : Value). v.span) (rw c.region_at-region.ensures at c.value_of-value.ensures))
