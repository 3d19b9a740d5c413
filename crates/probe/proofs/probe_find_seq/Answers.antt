-- `probe_find_seq` meets its contract: from the text's end on there is no place.
use Prim.Native.Nat.{◌<◌}
use lib.ListN.{length}
use borrow.Author.Rules.{rules}
use borrow.Author.Tests.{lt-ltb, le-ltb}
use Rattle.scan.proofs.Searches.{seek-out}
use Rattle.probe.proofs.probe_find_seq.Goals as goal

pub returns-then-src-from : goal.returns-then-src-from
returns-then-src-from c =
    let h : 0 < length c.args.mark.now = search rules in
    rw (lt-ltb 0 (length c.args.mark.now) h, seek-out _ _ _ c.if-src-from.true, le-ltb _ _ c.if-src-from.true)
