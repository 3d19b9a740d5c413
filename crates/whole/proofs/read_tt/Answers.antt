-- `read_tt` meets its contract: its parameters, its rates, and then its content. Assumes nothing.
use mathlib.Core.Path.{◌∙◌}
use native.Mathlib.Omega.{arith}
use Rattle.cues.proofs.Blanks.{blank-as}
use Rattle.cues.proofs.Elements.{elem-room, elem-rows}
use Rattle.whole.proofs.Roots.{params_full, params_cleared, few_params, many_params, rates_no, tt-laid, tt-no}
use Rattle.whole.proofs.read_tt.Goals as goal

pub element_at-e-requires : goal.element_at-e-requires
element_at-e-requires c =
    elem-room c.requires.element

pub attributes-attrs-requires : goal.attributes-attrs-requires
attributes-attrs-requires c =
    elem-rows c.requires.element c.element_at-e.ensures

pub collect_params-requires : goal.collect_params-requires
collect_params-requires c =
    (rw c.attributes-attrs.ensures.bytes (omega (arith, c.requires.ready.short)), c.requires.ready.long.params)

pub read_content-requires : goal.read_content-requires
read_content-requires c =
    let g = c.attributes-attrs.ensures in
    let params = rw (c.in-Some.is, g.table, g.bytes, g.from, g.count) at c.collect_params.ensures in
    let few = few_params c.requires.element c.element_at-e.ensures _ _ _ params in
    (c.args.params.now, record { ready = c.requires.ready; element = c.requires.element; few = few })

pub returns-in_default : goal.returns-in_default
returns-in_default c =
    let g = c.attributes-attrs.ensures in
    λ x. (
      params_full x c.element_at-e.ensures _ _ (rw (c.in_default.is, g.table, g.bytes, g.from, g.count) at c.collect_params.ensures),
      params_cleared c.requires.ready.zero (blank-as c.params-1.given 0 c.clear.ensures),
    )

pub returns-in-Err : goal.returns-in-Err
returns-in-Err c =
    let g = c.attributes-attrs.ensures in
    λ x.
    let params = rw (c.in-Some.is, g.table, g.bytes, g.from, g.count) at c.collect_params.ensures in (
      rates_no x c.element_at-e.ensures _ _ _ params _ (rw (c.in-Err.is, g.table, g.bytes, g.from, g.count) at c.timing_of.ensures),
      params_cleared c.requires.ready.zero (blank-as c.params-1.given 0 c.clear-in-Err.ensures),
    )

pub returns : goal.returns
returns c =
    let g = c.attributes-attrs.ensures in
    λ x.
    let row = c.element_at-e.ensures in
    let params = rw (c.in-Some.is, g.table, g.bytes, g.from, g.count) at c.collect_params.ensures in
    let rates = rw (c.in-Ok.is, g.table, g.bytes, g.from, g.count) at c.timing_of.ensures in
    let many = many_params x row _ _ _ params in
    let content = (rw c.in_default-read_content.is at c.read_content.ensures) c.args.params.now x _ many in
    tt-laid x row _ _ _ params _ rates _ _ _ _ _ _ _ _ _ c.requires.ready _ _ _ _ _ _ _ _ _ content

pub shape_of-params-in-Err-read_content : goal.shape_of-params-in-Err-read_content
shape_of-params-in-Err-read_content c =
    c.params-in-Err-read_content-1.given ∙ c.params-1.given

pub returns-in-Err-read_content : goal.returns-in-Err-read_content
returns-in-Err-read_content c =
    let g = c.attributes-attrs.ensures in
    λ x.
    let row = c.element_at-e.ensures in
    let params = rw (c.in-Some.is, g.table, g.bytes, g.from, g.count) at c.collect_params.ensures in
    let rates = rw (c.in-Ok.is, g.table, g.bytes, g.from, g.count) at c.timing_of.ensures in
    let many = many_params x row _ _ _ params in
    let content = (rw c.in-Err-read_content.is at c.read_content.ensures) c.args.params.now x _ many in
    tt-no x row _ _ _ params _ rates _ _ _ _ _ _ _ _ _ c.requires.ready _ _ _ _ _ _ _ _ _ _ content
    (blank-as c.params-1.given 0 c.clear-in-Err-read_content.ensures)
