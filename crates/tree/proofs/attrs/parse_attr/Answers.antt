-- `parse_attr` meets its contract: with a value or without. Assumes nothing.
use mathlib.Core.Path.{sym, ◌∙◌}
use native.Mathlib.Omega.{arith}
use Rattle.tree.proofs.AttrLaws.{attr-value, attr-bare, attr-beyond}
use Rattle.tree.proofs.attrs.parse_attr.Goals as goal

pub parse_value-requires : goal.parse_value-requires
parse_value-requires c =
    omega (arith, c.starts_with.ensures.whole c.if-starts_with.true, c.over-e.ensures, c.over-q.ensures, c.requires)

pub returns-then-starts_with : goal.returns-then-starts_with
returns-then-starts_with c =
    rw (attr-value c.args.src.now c.args.pos c.over-e.result c.over-q.result c.over-e.ensures c.over-q.ensures
    (sym c.starts_with.ensures.is ∙ c.if-starts_with.true)) c.parse_value.ensures

pub returns : goal.returns
returns c =
    let no = sym c.starts_with.ensures.is ∙ c.if-starts_with.false in
    record {
      one = _;
      is = attr-bare c.args.src.now c.args.pos c.over-e.result c.over-q.result c.over-e.ensures c.over-q.ensures no;
      after =
          attr-beyond c.args.src.now c.args.pos c.over-e.result c.over-q.result c.requires.2 c.requires.3 c.over-e.ensures
          c.over-q.ensures no;
      within = c.over-q.ensures.within;
      solid = c.over-q.ensures.stops;
      laid = c.put_attr.ensures;
    }
