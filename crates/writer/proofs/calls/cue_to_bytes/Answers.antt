-- `cue_to_bytes` meets its contract.
use mathlib.Core.Path.{refl, ap, ◌∙◌}
use Rattle.scan.proofs.Handed.{handed_on}
use native.Mathlib.Omega.{arith}
use lib.ListN.{length, length-replicate}
use Prim.Native.Nat.{ℕ}
use Rattle.writer.proofs.Accepting.{long, cue_ready}
use Rattle.writer.proofs.CallLaws.{checked, accepted, clear_self}
use Rattle.writer.proofs.Promised.{promise_refused, promise_cue, promise_past}
use Rattle.writer.proofs.calls.cue_to_bytes.Goals as goal

pub get-requires : goal.get-requires
get-requires c =
    let t = checked _ _ _ c.in_ok-check_track.ensures refl in
    let a = accepted _ t in
    omega (arith, (long _ a.0 a.1).head)

pub returns-then-get-index : goal.returns-then-get-index
returns-then-get-index c =
    let t = checked _ _ _ c.in_ok-check_track.ensures refl in
    promise_past _ _ _ _ _ t (omega (arith, c.if-get-index.true, c.get.ensures)) c.refused.ensures c.clear_bytes.ensures

pub fill_cue-requires : goal.fill_cue-requires
fill_cue-requires c =
    let t = checked _ _ _ c.in_ok-check_track.ensures refl in
    let a = accepted _ t in (
      cue_ready _ a.0 a.1 _ (omega (arith, c.if-get-index.false, c.get.ensures)),
      clear_self _
          (length c.args.out.now) c.clear_bytes.ensures,
    )

pub returns-in_err-check_track : goal.returns-in_err-check_track
returns-in_err-check_track c =
    rw (handed_on _ c.from_residual.ensures)
    (promise_refused _ _ _ _ _ (checked _ _ _ c.in_err-check_track.ensures refl) c.clear_bytes.ensures)

pub returns : goal.returns
returns c =
    let t = checked _ _ _ c.in_ok-check_track.ensures refl in
    let e = ap length c.clear_bytes.ensures ∙ length-replicate {A = ℕ} _ 0 in
    promise_cue _ _ _ _ _ t (omega (arith, c.if-get-index.false, c.get.ensures)) _ e c.fill_cue.ensures
