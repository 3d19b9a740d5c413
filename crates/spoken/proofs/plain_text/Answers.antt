-- `plain_text` meets its contract, test by test.
use Prim.Native.Nat.{ℕ}
use mathlib.Core.Path.{ap, ◌∙◌}
use native.Mathlib.Omega.{arith}
use lib.ListN.{length, length-replicate}
use Rattle.track.specs.Tables.{cell}
use Rattle.writer.proofs.CallLaws.{clear_self}
use Rattle.writer.proofs.Promised.{answers_met, answers_filled}
use Rattle.spoken.specs.Promise.{short_table, no_cue, of_cue}
use Rattle.spoken.proofs.Promised.{decided_no, decided_yes}
use Rattle.spoken.proofs.plain_text.Goals as goal

pub returns-then-not-are_long : goal.returns-then-not-are_long
returns-then-not-are_long c =
    let n = decided_no _ c.are_long.result c.are_long.ensures c.if-not-are_long.true-raw in
    rw c.refused.ensures (answers_met _ _ _ 1 0 (short_table n) c.clear_bytes.ensures)

pub has_cue-requires : goal.has_cue-requires
has_cue-requires c = decided_yes _ c.are_long.result c.are_long.ensures c.if-not-are_long.false-raw

pub returns-then-not-has_cue : goal.returns-then-not-has_cue
returns-then-not-has_cue c =
    let l = decided_yes _ c.are_long.result c.are_long.ensures c.if-not-are_long.false-raw in
    let n = decided_no _ c.has_cue.result c.has_cue.ensures c.if-not-has_cue.true-raw in
    rw c.refused-then-not-has_cue.ensures (answers_met _ _ _ 17 0 (no_cue l n) c.clear_bytes.ensures)

pub overflow_mul-row : goal.overflow_mul-row
overflow_mul-row c =
    let h = decided_yes _ c.has_cue.result c.has_cue.ensures c.if-not-has_cue.false-raw in
    record { fits = omega (arith, h.row) }

pub overflow_add-row : goal.overflow_add-row
overflow_add-row c =
    let h = decided_yes _ c.has_cue.result c.has_cue.ensures c.if-not-has_cue.false-raw in
    record { fits = omega (arith, h.row) }

pub get-requires : goal.get-requires
get-requires c =
    let l = decided_yes _ c.are_long.result c.are_long.ensures c.if-not-are_long.false-raw in
    let h = decided_yes _ c.has_cue.result c.has_cue.ensures c.if-not-has_cue.false-raw in
    omega (arith, h.row, l.of_cues)

pub overflow_add-row-2 : goal.overflow_add-row-2
overflow_add-row-2 c =
    let h = decided_yes _ c.has_cue.result c.has_cue.ensures c.if-not-has_cue.false-raw in
    record { fits = omega (arith, h.row) }

pub get-requires-2 : goal.get-requires-2
get-requires-2 c =
    let l = decided_yes _ c.are_long.result c.are_long.ensures c.if-not-are_long.false-raw in
    let h = decided_yes _ c.has_cue.result c.has_cue.ensures c.if-not-has_cue.false-raw in
    omega (arith, h.row, l.of_cues)

pub invariant_of-rows : goal.invariant_of-rows
unfolding cell
invariant_of-rows c =
    let l = decided_yes _ c.are_long.result c.are_long.ensures c.if-not-are_long.false-raw in
    let h = decided_yes _ c.has_cue.result c.has_cue.ensures c.if-not-has_cue.false-raw in
    record {
      room = omega (arith, h.rows, l.of_segments, c.get.ensures, c.get-2.ensures);
      full = l.of_texts;
      within = rw (c.get.ensures, c.get-2.ensures) h.within-texts;
    }

pub fill-requires : goal.fill-requires
fill-requires c = clear_self _ (length c.args.out.now) c.clear_bytes.ensures

pub returns : goal.returns
unfolding cell
returns c =
    let l = decided_yes _ c.are_long.result c.are_long.ensures c.if-not-are_long.false-raw in
    let h = decided_yes _ c.has_cue.result c.has_cue.ensures c.if-not-has_cue.false-raw in
    let f = rw (c.get.ensures, c.get-2.ensures) at c.fill.ensures in
    let e = ap length c.clear_bytes.ensures ∙ length-replicate {A = ℕ} _ 0 in
    answers_filled _ _ _ _ _ _ e (of_cue l h) f
