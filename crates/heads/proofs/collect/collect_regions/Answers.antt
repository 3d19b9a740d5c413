use mathlib.Core.Path.{sym, ◌∙◌}
use native.Mathlib.Omega.{arith}
use Rattle.scan.proofs.Handed.{handed_on}
use Rattle.heads.proofs.Looping.{regions_start, regions_row, regions_next, regions_done, regions_passed, region_rows, region_asks}
use Rattle.heads.proofs.Looping.{regions_skipped, regions_taken, regions_refused, regions_few}
use Rattle.heads.proofs.collect.collect_regions.Goals as goal
use Rattle.heads.proofs.collect.collect_regions.Goals.{then-is_element+in_ok-made+in-Some, then-is_element+in_ok-made+in_default, else-is_element}

pub loop-k-init : goal.loop-k-init
loop-k-init c =
    regions_start c.requires

pub is_element-requires : goal.is_element-requires
is_element-requires c =
    regions_row c.requires c.loop-k.invariant c.loop-k-test.true

pub element_at-e-requires : goal.element_at-e-requires
element_at-e-requires c =
    (regions_row c.requires c.loop-k.invariant c.loop-k-test.true).row

pub attributes-attrs-requires : goal.attributes-attrs-requires
attributes-attrs-requires c =
    region_rows c.requires c.loop-k.invariant c.loop-k-test.true (sym c.is_element.ensures
    ∙ c.if-is_element.true) c.element_at-e.result c.element_at-e.ensures

pub build_region-requires : goal.build_region-requires
build_region-requires c =
    let a = c.attributes-attrs.ensures in
    rw (a.bytes, a.count) (region_asks c.requires c.loop-k.invariant c.loop-k-test.true (sym c.is_element.ensures
    ∙ c.if-is_element.true) c.element_at-e.result c.element_at-e.ensures)

pub overflow_add-n : goal.overflow_add-n
overflow_add-n c =
    let a = c.attributes-attrs.ensures in
    let g = rw (c.in-Some.is, a.table, a.bytes, a.from, a.count) at c.in_ok-made.ensures in
    let e = sym c.is_element.ensures ∙ c.if-is_element.true in
    omega (arith, (regions_few c.requires c.loop-k.invariant c.loop-k-test.true e c.element_at-e.result c.element_at-e.ensures _ _ _ g).0)

pub overflow_add-at : goal.overflow_add-at
overflow_add-at c =
    let a = c.attributes-attrs.ensures in
    let g = rw (c.in-Some.is, a.table, a.bytes, a.from, a.count) at c.in_ok-made.ensures in
    let e = sym c.is_element.ensures ∙ c.if-is_element.true in
    omega (arith, (regions_few c.requires c.loop-k.invariant c.loop-k-test.true e c.element_at-e.result c.element_at-e.ensures _ _ _ g).1)

pub returns-in_err-made : goal.returns-in_err-made
returns-in_err-made c =
    rw (handed_on _ c.from_residual.ensures) (let a = c.attributes-attrs.ensures in
    let g = rw (a.table, a.bytes, a.from, a.count) at c.in_err-made.ensures in
    let e = sym c.is_element.ensures ∙ c.if-is_element.true in
    regions_refused c.requires c.loop-k.invariant c.loop-k-test.true e c.element_at-e.result c.element_at-e.ensures _ _ _ g)

pub overflow_mul-k : goal.overflow_mul-k
overflow_mul-k c =
    omega (arith, (regions_row c.requires c.loop-k.invariant c.loop-k-test.true).row)

pub overflow_add-k : goal.overflow_add-k
overflow_add-k c =
    omega (arith, (regions_row c.requires c.loop-k.invariant c.loop-k-test.true).row)

pub get-k-requires : goal.get-k-requires
get-k-requires c =
    omega (arith, (regions_row c.requires c.loop-k.invariant c.loop-k-test.true).row)

pub loop-k-smaller : goal.loop-k-smaller
loop-k-smaller c =
    let o = regions_next c.requires c.loop-k.invariant c.loop-k-test.true in
    omega (arith, o.0, o.1, c.get-k.ensures)

-- the element gives a row, or has no id, or is another
pub loop-k-preserved : goal.loop-k-preserved
loop-k-preserved c =
    let i = c.loop-k.invariant in
    let j = c.loop-k-test.true in
    let e = c.is_element.ensures in
    rw c.get-k.ensures (elim c.if-is_element.branch [
      | then-is_element+in_ok-made+in-Some w ↦
          let a = w.attributes-attrs.ensures in
          let g = rw (w.in-Some.is, a.table, a.bytes, a.from, a.count) at w.in_ok-made.ensures in
          rw (w.regions-is, w.extras-is, w.n-is, w.at-is)
          (regions_taken c.requires i j (sym e ∙ w.if-is_element.true) w.element_at-e.result w.element_at-e.ensures _ _ w.build_region.auto.regions w.build_region.auto.extras _ g)
      | then-is_element+in_ok-made+in_default w ↦
          let a = w.attributes-attrs.ensures in
          let g = rw (w.in_default.is, a.table, a.bytes, a.from, a.count) at w.in_ok-made.ensures in
          rw (w.regions-is, w.extras-is, w.n-is, w.at-is)
          (regions_skipped c.requires i j (sym e ∙ w.if-is_element.true) w.element_at-e.result w.element_at-e.ensures _ _ w.build_region.auto.regions w.build_region.auto.extras g)
      | else-is_element w ↦ rw (w.regions-is, w.extras-is, w.n-is, w.at-is) (regions_passed c.requires i j (sym e ∙ w.if-is_element.false))
    ])

pub shape_of-regions : goal.shape_of-regions
shape_of-regions c =
    c.loop-k.invariant.same_regions

pub shape_of-extras : goal.shape_of-extras
shape_of-extras c =
    c.loop-k.invariant.same_extras

pub returns : goal.returns
returns c =
    regions_done c.requires c.loop-k.invariant c.loop-k-test.false
