-- `read_content` meets its contract: the head, the body, and then the head of the track. Assumes nothing.
use mathlib.Core.Path.{◌∙◌}
use mathlib.Core.List.{[]}
use native.Mathlib.Omega.{arith}
use lib.IntN.{pos}
use Rattle.track.specs.Tables.{zero_float}
use Rattle.cues.specs.Steps.{five}
use Rattle.cues.proofs.Blanks.{blank-as}
use Rattle.cues.proofs.Elements.{elem-room, elem-owned, elem-rows}
use Rattle.whole.proofs.Contents.{head_asks, heads_no, body_asks, body_no, body_blank, cleared-as, whole-asks, content_laid}
use Rattle.whole.proofs.read_content.Goals as goal

pub element_at-e-requires : goal.element_at-e-requires
element_at-e-requires c =
    elem-room c.requires.1.element

pub overflow_add-from : goal.overflow_add-from
overflow_add-from c =
    record { fits = omega (arith, elem-room c.requires.1.element) }

pub collect_head-requires : goal.collect_head-requires
collect_head-requires c =
    head_asks _ _ _ _ _ _ _ _ _ c.requires.1.ready c.requires.1.element c.element_at-e.ensures

pub attributes-attrs-requires : goal.attributes-attrs-requires
attributes-attrs-requires c =
    elem-rows c.requires.1.element c.element_at-e.ensures

pub collect_body-requires : goal.collect_body-requires
collect_body-requires c =
    body_asks _ _ _ _ _ _ _ _ _ c.requires.1.ready c.requires.1.element c.element_at-e.ensures _ _ _ _ _
    (rw c.in-Ok.is at c.collect_head.ensures) c.extras-1.given

pub put_whole-requires : goal.put_whole-requires
put_whole-requires c =
    let x = c.requires.1.element in
    let row = c.element_at-e.ensures in
    let heads = rw c.in-Ok.is at c.collect_head.ensures in
    let g = c.attributes-attrs.ensures in
    let mode = (rw (g.table, g.bytes, g.from, g.count) at c.resolve_ws-ws.ensures) x.attrs (elem-owned x row) in
    let body = rw c.in-Ok-collect_body.is at c.collect_body.ensures in
    rw g.bytes (whole-asks _ _ _ _ _ _ _ _ _ c.requires.1.ready x row _ _ _ _ _ heads c.extras-1.given _ c.resolve_ws-ws.result
    mode _ _ body c.args.count c.requires.1.few)

pub returns-in-Err : goal.returns-in-Err
returns-in-Err c =
    λ p x params many.
    let heads = rw c.in-Err.is at c.collect_head.ensures in
    let ready = c.requires.1.ready in
    let z = c.clear_head.ensures in (
      heads_no _ _ _ _ _ _ _ _ _ ready x c.element_at-e.ensures [] [] [] [] _ heads params c.args.ctx,
      cleared-as _ _ _ _ _ _ _ _ _ ready (record {
        styles = blank-as c.styles-1.given 0 z.0;
        regions = blank-as c.regions-1.given 0 z.1;
        sizes = blank-as c.sizes-1.given zero_float z.2;
        extras = blank-as c.extras-1.given 0 z.3;
      }) (body_blank _ _ _ _ _ _ _ _ _ ready) p,
    )

pub shape_of-styles-in-Err-collect_body : goal.shape_of-styles-in-Err-collect_body
shape_of-styles-in-Err-collect_body c =
    c.styles-in-Err-collect_body-1.given ∙ c.styles-1.given

pub shape_of-regions-in-Err-collect_body : goal.shape_of-regions-in-Err-collect_body
shape_of-regions-in-Err-collect_body c =
    c.regions-in-Err-collect_body-1.given ∙ c.regions-1.given

pub shape_of-sizes-in-Err-collect_body : goal.shape_of-sizes-in-Err-collect_body
shape_of-sizes-in-Err-collect_body c =
    c.sizes-in-Err-collect_body-1.given ∙ c.sizes-1.given

pub shape_of-extras-in-Err-collect_body : goal.shape_of-extras-in-Err-collect_body
shape_of-extras-in-Err-collect_body c =
    c.extras-in-Err-collect_body-1.given ∙ c.extras-2-1.given ∙ c.extras-1.given

pub returns-in-Err-collect_body : goal.returns-in-Err-collect_body
returns-in-Err-collect_body c =
    λ p x params many.
    let row = c.element_at-e.ensures in
    let heads = rw c.in-Ok.is at c.collect_head.ensures in
    let g = c.attributes-attrs.ensures in
    let mode = (rw (g.table, g.bytes, g.from, g.count) at c.resolve_ws-ws.ensures) x.attrs (elem-owned x row) in
    let body = rw c.in-Err-collect_body.is at c.collect_body.ensures in
    let ready = c.requires.1.ready in
    let z = c.clear_head-in-Err-collect_body.ensures in
    let w = c.clear_body.ensures in (
      body_no _ _ _ _ _ _ _ _ _ ready x row _ _ _ _ _ heads c.extras-1.given c.args.ctx c.resolve_ws-ws.result mode
          (five [] [] [] [] []) _ body params,
      cleared-as _ _ _ _ _ _ _ _ _ ready (record {
        styles = blank-as c.styles-1.given 0 z.0;
        regions = blank-as c.regions-1.given 0 z.1;
        sizes = blank-as c.sizes-1.given zero_float z.2;
        extras = blank-as (c.extras-2-1.given ∙ c.extras-1.given) 0 z.3;
      }) (record {
        cues = blank-as c.cues-1.given 0 w.0;
        times = blank-as c.times-1.given (pos 0) w.1;
        segments = blank-as c.segments-1.given 0 w.2;
        texts = blank-as c.texts-1.given 0 w.3;
      }) p,
    )

pub returns : goal.returns
returns c =
    λ p x params many.
    let row = c.element_at-e.ensures in
    let heads = rw c.in-Ok.is at c.collect_head.ensures in
    let g = c.attributes-attrs.ensures in
    let mode = (rw (g.table, g.bytes, g.from, g.count) at c.resolve_ws-ws.ensures) x.attrs (elem-owned x row) in
    let body = rw c.in-Ok-collect_body.is at c.collect_body.ensures in
    content_laid _ _ _ _ _ _ _ _ _ c.requires.1.ready x row _ _ _ _ _ heads c.extras-1.given c.args.ctx
    c.resolve_ws-ws.result mode _ _ body p params many ((rw (g.table, g.bytes, g.from, g.count) at c.put_whole.ensures) x.attrs (elem-owned x row))
