-- `parse_start` meets its contract: an empty name, or the tag after the name's blanks. Assumes nothing.
use native.Mathlib.Omega.{arith}
use Rattle.tree.proofs.Tags.{start-empty, start-tag, lower-tag}
use Rattle.tree.proofs.attrs.parse_start.Goals as goal

pub returns-then-e-pos : goal.returns-then-e-pos
returns-then-e-pos c =
    rw c.new.ensures (start-empty c.args.src.now c.args.pos c.args.e c.args.count c.if-e-pos.true)

pub parse_tag-requires : goal.parse_tag-requires
parse_tag-requires c =
    (c.requires.0, omega arith, c.over_long-from.ensures.within, c.over_long-from.ensures.stops, c.requires.4)

pub returns : goal.returns
returns c =
    rw (start-tag c.args.src.now c.args.pos c.args.e c.args.count c.over_long-from.result c.if-e-pos.false c.over_long-from.ensures)
    (lower-tag _ c.args.src.now c.args.attrs.now _ c.args.e c.over_long-from.result c.args.count c.parse_tag.result
    c.over_long-from.ensures.after c.parse_tag.ensures)
