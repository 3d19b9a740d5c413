-- `trim_trailing_space` meets its contract: rows from the last one back are segments from the last one back. Assumes nothing.
use Rattle.inline.proofs.TrimStands.{trims}
use Rattle.inline.proofs.trims.trim_trailing_space.Goals as goal

pub returns : goal.returns
returns c =
    λ pre rest f l base lo hi p e n h. trims c.args.segments.now c.args.texts.now c.trim_rows.new.segments c.trim_rows.new.texts c.args.first c.args.end c.trim_rows.result c.trim_rows.ensures pre rest f l base lo hi p e n h
