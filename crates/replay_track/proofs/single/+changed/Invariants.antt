-- `changed` is safe and ends: each call is lent a shorter line.
use lib.ListN.{length}
use Rattle.replay_track.proofs.single.+changed.Given as goal

abbrev pub decreases-changed : goal.decreases-changed
decreases-changed l = length l.line.now
