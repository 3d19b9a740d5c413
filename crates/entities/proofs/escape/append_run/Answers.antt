-- `append_run` meets its contract: the two pieces stand one after the other, or one of them does not fit.
use Prim.Native.Nat.{◌≤◌}
use native.Mathlib.Omega.{arith}
use lib.ListN.{length, get_or}
use Rattle.scan.specs.Part.{part}
use Rattle.scan.specs.Posts.{Appended}
use Rattle.scan.proofs.Stores.{appended_kept, in_part, wrote_on}
use Rattle.entities.specs.Escape.{escape_byte}
use Rattle.entities.proofs.escape.append_run.Goals as goal

pub returns : goal.returns
returns c =
    let x = escape_byte c.args.quotes (get_or c.args.src.now c.args.end 0) in
    let p : Appended (part c.args.pos c.args.end c.args.src.now) c.args.at c.args.out.now c.append.new.out c.in_ok-next.next =
    rw c.in_ok-next.was at c.append.ensures in
    let h : c.in_ok-next.next ≤ length c.append.new.out = omega (arith, p.within, appended_kept p) in
    wrote_on _ x _ _ _ _ c.append_reference.new.out c.append_reference.result p (in_part x _ _ c.append_reference.new.out c.append_reference.result h c.append_reference.ensures)
