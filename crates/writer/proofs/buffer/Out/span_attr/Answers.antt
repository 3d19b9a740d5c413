-- `span_attr` meets its contract.
use Rattle.scan.specs.Part.{string_at}
use Rattle.writer.proofs.buffer.Out.span_attr.Goals as goal

pub returns : goal.returns
unfolding string_at
returns c =
    c.attr.ensures
