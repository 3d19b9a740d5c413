-- `add_cue` meets its contract: its row, and its times. Assumes nothing.
use native.Mathlib.Omega.{arith}
use native.Mathlib.Numerals.{add-one}
use lib.ListN.{length-set}
use Rattle.records.proofs.Parts.{same_time}
use Rattle.records.proofs.cues.add_cue.Goals as goal

pub bounds-times-n-2 : goal.bounds-times-n-2
bounds-times-n-2 c =
    simp length-set (omega (arith, c.in_ok-m.ensures.0))

pub returns : goal.returns
returns c =
    let x = c.args.x in
    let from = same_time x.start c.struct_told-1.given.0.1 in
    let to = same_time x.end c.struct_told-2-1.given.1.0.1 in
    record { add_post = c.in_ok-m.ensures; times_post = rw (from, to, add-one) }
