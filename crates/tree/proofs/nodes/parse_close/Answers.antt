-- `parse_close` meets its contract: a `>` follows, or none. Assumes nothing.
use mathlib.Core.Path.{sym}
use Rattle.tree.proofs.Going.{close_yes, close_no}
use Rattle.tree.proofs.nodes.parse_close.Goals as goal

pub returns-then-src-g : goal.returns-then-src-g
returns-then-src-g c =
    rw c.new.ensures (sym (close_no c.args.src.now c.args.pos c.args.k c.args.a _ c.find_byte-g.ensures c.if-src-g.true))

pub returns : goal.returns
returns c =
    sym (close_yes c.args.src.now c.args.pos c.args.k c.args.a _ c.find_byte-g.ensures c.if-src-g.false)
