-- `is_extra` meets its contract: its number is one of the list's, and its value a string.
use Prim.Native.Nat.{◌*◌}
use native.Mathlib.Nat.{add-zero}
use borrow.Author.Tests.{le-leb, lt-ltb}
use Rattle.track.specs.Tables.{cell}
use Rattle.track.specs.Meaning.{is_extra}
use Rattle.track.proofs.extras.is_extra.Goals as goal

pub returns-then-number-most : goal.returns-then-number-most
unfolding is_extra cell
returns-then-number-most c =
    let w = c.if-number-most.true in
    rw (add-zero (c.args.i * 3), ← c.get-number.ensures, le-leb _ _ w.0, lt-ltb _ _ w.1, ← c.get-place.ensures, ← c.get-len.ensures)
    c.is_span.ensures
