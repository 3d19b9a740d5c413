-- `kept_attr`, by the entry and by whether it is kept.
use mathlib.Core.Path.{sym, ◌∙◌}
use native.Mathlib.Omega.{arith}
use Rattle.scan.specs.Part.{string_at}
use Rattle.xml.proofs.AttrRows.{row-cells}
use Rattle.extras.proofs.Keeping.{entry_none, entry_kept, found_if, kept_if}
use Rattle.extras.proofs.extras.kept_attr.Goals as goal

pub returns-then-entry-eq0 : goal.returns-then-entry-eq0
returns-then-entry-eq0 c =
    record {
      found_fits = tt;
      value = entry_none c.args.attrs.now.attrs.now c.args.attrs.now.strings.now c.args.list c.args.i c.args.entry c.if-entry-eq0.true;
    }

pub attr_at-h-requires : goal.attr_at-h-requires
attr_at-h-requires c =
    (c.requires.1 c.if-entry-eq0.false).0

pub overflow_add-h : goal.overflow_add-h
overflow_add-h c =
    let cells = row-cells _ _ c.attr_at-h.ensures in
    omega (arith, (c.requires.1 c.if-entry-eq0.false).1, cells.1, cells.2)

pub slice_bounds-is_kept-end : goal.slice_bounds-is_kept-end
slice_bounds-is_kept-end c =
    let cells = row-cells _ _ c.attr_at-h.ensures in
    omega (arith, (c.requires.1 c.if-entry-eq0.false).1, cells.1, cells.2)

pub returns : goal.returns
unfolding string_at
returns c =
    let h = c.attr_at-h.result in
    let z = c.args.attrs.now.strings.now in
    let cells = row-cells _ _ c.attr_at-h.ensures in
    rw c.then_some.ensures (record {
      found_fits = found_if z c.args.i h (omega (arith, (c.requires.1 c.if-entry-eq0.false).1, cells.1, cells.2)) c.is_kept.result;
      value = entry_kept c.args.attrs.now.attrs.now z c.args.list c.args.i c.args.entry c.if-entry-eq0.false h
          c.attr_at-h.ensures c.is_kept.result (sym c.is_kept.ensures) ∙ kept_if z c.args.i h c.is_kept.result;
    })
