-- `read_timed` meets its contract: its content, and then its row and the head. Assumes nothing.
use mathlib.Core.List.{[]}
use native.Mathlib.Omega.{arith}
use Rattle.cues.proofs.Blanks.{blank-as}
use Rattle.cues.proofs.Elements.{elem-room, elem-owned, elem-rows}
use Rattle.single.proofs.Alone.{content_asks, content_no, alone-asks, alone-laid}
use Rattle.single.proofs.read_timed.Goals as goal

pub element_at-e-requires : goal.element_at-e-requires
element_at-e-requires c =
    elem-room c.requires.element

pub attributes-attrs-requires : goal.attributes-attrs-requires
attributes-attrs-requires c =
    elem-rows c.requires.element c.element_at-e.ensures

pub overflow_add-k : goal.overflow_add-k
overflow_add-k c =
    record { fits = omega (arith, elem-room c.requires.element) }

pub collect_segments_timed-requires : goal.collect_segments_timed-requires
collect_segments_timed-requires c =
    content_asks _ _ _ _ _ c.requires.ready c.requires.element c.element_at-e.ensures

pub put_alone-requires : goal.put_alone-requires
put_alone-requires c =
    let g = c.attributes-attrs.ensures in
    let x = c.requires.element in
    let row = c.element_at-e.ensures in
    let mode = (rw (g.table, g.bytes, g.from, g.count) at c.resolve_ws-ws.ensures) x.attrs (elem-owned x row) in
    let content = rw c.in-Ok.is at c.collect_segments_timed.ensures in
    rw g.bytes (alone-asks _ _ _ _ _ c.requires.ready x row c.no_rates.result c.resolve_ws-ws.result c.no_rates.ensures mode _ _ _ content)

pub returns-in-Err : goal.returns-in-Err
returns-in-Err c =
    let g = c.attributes-attrs.ensures in
    λ x.
    let row = c.element_at-e.ensures in
    let mode = (rw (g.table, g.bytes, g.from, g.count) at c.resolve_ws-ws.ensures) x.attrs (elem-owned x row) in
    let content = rw c.in-Err.is at c.collect_segments_timed.ensures in
    content_no _ _ _ _ _ c.requires.ready x row c.no_rates.result c.resolve_ws-ws.result c.no_rates.ensures mode [] [] _ content
    c.args.when (blank-as c.segments-1.given 0 c.clear.ensures) (blank-as c.texts-1.given 0
    c.clear_bytes.ensures)

pub returns : goal.returns
returns c =
    let g = c.attributes-attrs.ensures in
    λ x.
    let row = c.element_at-e.ensures in
    let mode = (rw (g.table, g.bytes, g.from, g.count) at c.resolve_ws-ws.ensures) x.attrs (elem-owned x row) in
    let content = rw c.in-Ok.is at c.collect_segments_timed.ensures in
    alone-laid _ _ _ _ _ c.requires.ready x row c.no_rates.result c.resolve_ws-ws.result c.no_rates.ensures mode _ _ _ content
    c.args.when _ _ _ ((rw (g.table, g.bytes, g.from, g.count) at c.put_alone.ensures) x.attrs (elem-owned x row))
