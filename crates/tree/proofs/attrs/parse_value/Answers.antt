-- `parse_value` meets its contract: a law for each way through it. Assumes nothing.
use mathlib.Core.Path.{sym, ◌∙◌}
use native.Mathlib.Omega.{arith}
use Rattle.tree.proofs.AttrLaws.{value_none, value-bare, value-quoted, value-unclosed}
use Rattle.tree.proofs.attrs.parse_value.Goals as goal

pub returns-then-src-v : goal.returns-then-src-v
returns-then-src-v c =
    rw c.new.ensures (value_none c.args.src.now c.args.pos c.args.e c.args.eq c.over-v.result c.over-v.ensures c.if-src-v.true)

pub returns-then-z-src : goal.returns-then-z-src
returns-then-z-src c =
    record {
      one = _;
      is =
          value-quoted c.args.src.now c.args.pos c.args.e c.args.eq c.over-v.result c.over-v.ensures c.find_byte-z.result c.if-src-v.false
          (sym c.is_quote.ensures ∙ c.if-is_quote.true) c.find_byte-z.ensures _ c.if-z-src.true c.over.ensures;
      after = omega (arith, c.over.ensures.after, c.find_byte-z.ensures.after, c.over-v.ensures.after, c.requires);
      within = c.over.ensures.within;
      solid = c.over.ensures.stops;
      laid = c.put_attr.ensures;
    }

pub returns-then-is_quote : goal.returns-then-is_quote
returns-then-is_quote c =
    record {
      one = _;
      is =
          value-unclosed c.args.src.now c.args.pos c.args.e c.args.eq c.over-v.result c.over-v.ensures c.find_byte-z.result c.if-src-v.false
          (sym c.is_quote.ensures ∙ c.if-is_quote.true) c.find_byte-z.ensures c.if-z-src.false;
      after = omega (arith, c.find_byte-z.ensures.after, c.over-v.ensures.after, c.requires);
      within = c.find_byte-z.ensures.within;
      solid = λ l. absurd (omega (arith, l, c.if-z-src.false));
      laid = c.put_attr.ensures;
    }

pub returns : goal.returns
returns c =
    record {
      one = _;
      is =
          value-bare c.args.src.now c.args.pos c.args.e c.args.eq c.over-v.result c.over-v.ensures c.over-z.result _ c.if-src-v.false
          (sym c.is_quote.ensures ∙ c.if-is_quote.false) c.over-z.ensures c.over-2.ensures;
      after = omega (arith, c.over-2.ensures.after, c.over-z.ensures.after, c.over-v.ensures.after, c.requires);
      within = c.over-2.ensures.within;
      solid = c.over-2.ensures.stops;
      laid = c.put_attr-2.ensures;
    }
