-- `parse_shut` meets its contract: a `>` follows, or none. Assumes nothing.
use mathlib.Core.Path.{sym, ◌∙◌}
use Rattle.tree.proofs.Tags.{shut-yes, shut-no}
use Rattle.tree.proofs.attrs.parse_shut.Goals as goal

pub returns-then-starts_with : goal.returns-then-starts_with
returns-then-starts_with c =
    sym (shut-yes c.args.src.now c.args.at c.args.n _ c.over-q.ensures (sym c.starts_with.ensures.is ∙ c.if-starts_with.true))

pub returns : goal.returns
returns c =
    rw c.new.ensures (sym (shut-no c.args.src.now c.args.at c.args.n _ c.over-q.ensures (sym c.starts_with.ensures.is ∙ c.if-starts_with.false)))
