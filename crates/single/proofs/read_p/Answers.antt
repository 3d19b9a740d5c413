-- `read_p` meets its contract: its times, and then the rest. Assumes nothing.
use Rattle.scan.proofs.Handed.{handed_on}
use Rattle.cues.proofs.Elements.{elem-room, elem-rows}
use Rattle.single.proofs.Alone.{times_no, times_are, cue_as}
use Rattle.single.proofs.read_p.Goals as goal

pub element_at-e-requires : goal.element_at-e-requires
element_at-e-requires c =
    elem-room c.requires.element

pub attributes-attrs-requires : goal.attributes-attrs-requires
attributes-attrs-requires c =
    elem-rows c.requires.element c.element_at-e.ensures

pub returns-in_err-when : goal.returns-in_err-when
returns-in_err-when c =
    let g = c.attributes-attrs.ensures in
    rw (handed_on _ c.from_residual.ensures) (λ x. (
      times_no x c.element_at-e.ensures c.no_rates.ensures _ (rw (g.table, g.bytes, g.from, g.count) at c.in_err-when.ensures),
      c.requires.ready.zero,
    ))

pub returns : goal.returns
returns c =
    let g = c.attributes-attrs.ensures in
    λ x.
    let e = times_are x c.element_at-e.ensures c.no_rates.ensures _ (rw (g.table, g.bytes, g.from, g.count) at c.in_ok-when.ensures) in
    cue_as _ _ _ c.read_timed.result e (c.read_timed.ensures x)
