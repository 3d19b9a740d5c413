-- `over_each` meets its contract: `over_near` says where the run ends before the text does.
use Rattle.scan.proofs.Runs.{ends_whole}
use Rattle.scan.proofs.bytes.over_each.Goals as goal

pub returns : goal.returns
returns c =
    ends_whole _ c.args.src.now _ _ c.over_near.ensures.0 c.over_near.ensures.1
