use Prim.Native.Nat.{ℕ}
use mathlib.Core.Path.{refl, ap, ◌∙◌}
use lib.ListN.{length, length-replicate}
use Rattle.scan.proofs.Handed.{handed_on}
use Rattle.writer.proofs.CallLaws.{checked, accepted, clear_self}
use Rattle.writer.proofs.Promised.{promise_refused, promise_done}
use Rattle.document.proofs.Ready.{whole_ready}
use Rattle.document.proofs.calls.write.Goals as goal

pub fill-requires : goal.fill-requires
fill-requires c =
    let t = checked _ _ _ c.in_ok-check_track.ensures refl in
    let a = accepted _ t in (
      whole_ready _ a.0 a.1,
      clear_self _ (length c.args.out.now)
          c.clear_bytes.ensures,
    )

pub returns-in_err-check_track : goal.returns-in_err-check_track
returns-in_err-check_track c =
    rw (handed_on _ c.from_residual.ensures)
    (promise_refused _ _ _ _ _ (checked _ _ _ c.in_err-check_track.ensures refl) c.clear_bytes.ensures)

pub returns : goal.returns
returns c =
    let t = checked _ _ _ c.in_ok-check_track.ensures refl in
    let a = accepted _ t in
    let e = ap length c.clear_bytes.ensures ∙ length-replicate {A = ℕ}
    _ 0 in
    promise_done _ _ _ _ a.0 a.1 _ refl _ _ e c.fill.ensures
