-- `is_named` meets its contract: the two cells say which part is compared. Assumes nothing.
use Rattle.scan.specs.Part.{string_at}
use Rattle.records.specs.Find.{is_named}
use Rattle.records.proofs.find.is_named.Goals as goal

pub returns : goal.returns
unfolding is_named string_at
returns c =
    cc
