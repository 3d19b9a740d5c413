-- `trimmed_span`: a part of the value is a part of the strings.
use Rattle.styling.proofs.Chained.{chain_is, chain_fits}
use Rattle.styling.proofs.chain.trimmed_span.Goals as goal

pub returns : goal.returns
returns c = (
  chain_is c.args.strings.now c.args.h.place c.args.h.len _ _ (rw c.value.ensures at c.trim-span.ensures) c.requires,
  chain_fits c.args.strings.now c.args.h.place c.args.h.len _ _ (rw c.value.ensures at c.trim-span.ensures) c.requires,
)
