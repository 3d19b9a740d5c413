-- `add_at`: no parameter, or one in its row.
use mathlib.Core.Path.{sym, ◌∙◌}
use native.Mathlib.Omega.{arith}
use Rattle.xml.proofs.AttrRows.{row-cells}
use Rattle.params.proofs.Adding.{adds_none, adds_row}
use Rattle.params.proofs.params.add_at.Goals as goal

pub returns-then-not-is_param_at : goal.returns-then-not-is_param_at
returns-then-not-is_param_at c =
    adds_none c.args.attrs.now.attrs.now c.args.attrs.now.strings.now c.args.k c.args.params.now c.args.n (sym
    c.is_param_at.ensures ∙ c.if-not-is_param_at.true)

pub add-requires : goal.add-requires
add-requires c =
    let w = c.name_at-name.ensures.within in
    let h = row-cells _ _ c.attr_at-h.ensures in (
      c.requires.3,
      (
        (omega (arith, w, c.requires.2), omega (arith, w, c.requires.2)),
        (omega (arith, h.1, c.requires.1, c.requires.2), omega (arith, h.2, c.requires.1, c.requires.2)),
      ),
    )

pub returns : goal.returns
returns c =
    let e = sym c.is_param_at.ensures ∙ c.if-not-is_param_at.false in
    let h = row-cells _ _ c.attr_at-h.ensures in
    adds_row _ _ _ _ _ _ _ e c.name_at-name.ensures h.1 h.2 c.requires.1 c.add.result
    c.add.ensures
