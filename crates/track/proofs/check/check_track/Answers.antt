-- `check_track` meets its contract: the tests in their order, lengths first.
use mathlib.Core.Path.{sym, ◌∙◌}
use native.Mathlib.Omega.{arith}
use lib.Seq.{length-take-le}
use Rattle.track.proofs.Exactly.{promised, check_short, check_none, check_track}
use Rattle.track.proofs.Answers.{limits_low, full-long, track_limits, track_bytes, track_rows, track_cues, track_is}
use Rattle.track.proofs.check.check_track.Goals as goal
use Rattle.track.proofs.check.check_track.Goals.{then-not-bytes_mean-via-then-not-bytes_mean}
use Rattle.track.proofs.check.check_track.Goals.{then-not-bytes_mean-via-else-not-bytes_mean+then-not-rows_mean}
use Rattle.track.proofs.check.check_track.Goals.{then-not-bytes_mean-via-else-not-bytes_mean+else-not-rows_mean+then-not-are_cues}

pub returns-then-not-is_full : goal.returns-then-not-is_full
returns-then-not-is_full c =
    let f = sym c.is_full.ensures ∙ c.if-not-is_full.true in
    promised _ (c.refused.ensures ∙ sym (check_short _ f))

pub within_limits-requires : goal.within_limits-requires
within_limits-requires c = (full-long _ (sym c.is_full.ensures ∙ c.if-not-is_full.false)).head

pub returns-then-not-within_limits : goal.returns-then-not-within_limits
returns-then-not-within_limits c =
    let f = sym c.is_full.ensures ∙ c.if-not-is_full.false in
    let w = sym c.within_limits.ensures ∙ c.if-not-within_limits.true in
    promised _ (c.refused-then-not-within_limits.ensures ∙ sym (check_none _ f (track_limits _ w)))

pub get-requires : goal.get-requires
get-requires c = omega (arith, (full-long _ (sym c.is_full.ensures ∙ c.if-not-is_full.false)).head)

pub slice_bounds-used-end : goal.slice_bounds-used-end
slice_bounds-used-end c =
    let m = full-long _ (sym c.is_full.ensures ∙ c.if-not-is_full.false) in
    let k = limits_low _ (sym c.within_limits.ensures ∙ c.if-not-within_limits.false) in
    sym (length-take-le _ c.args.t.now.strings.now (omega (arith, m.strings, k.strings, c.get.ensures)))

pub get-requires-2 : goal.get-requires-2
get-requires-2 c = omega (arith, (full-long _ (sym c.is_full.ensures ∙ c.if-not-is_full.false)).head)

pub slice_bounds-used-end-2 : goal.slice_bounds-used-end-2
slice_bounds-used-end-2 c =
    let m = full-long _ (sym c.is_full.ensures ∙ c.if-not-is_full.false) in
    let k = limits_low _ (sym c.within_limits.ensures ∙ c.if-not-within_limits.false) in
    sym (length-take-le _ c.args.t.now.texts.now (omega (arith, m.texts, k.texts, c.get-2.ensures)))

pub get-n-requires : goal.get-n-requires
get-n-requires c = omega (arith, (full-long _ (sym c.is_full.ensures ∙ c.if-not-is_full.false)).head)

pub get-most-requires : goal.get-most-requires
get-most-requires c = omega (arith, (full-long _ (sym c.is_full.ensures ∙ c.if-not-is_full.false)).head)

pub bytes_mean-requires : goal.bytes_mean-requires
bytes_mean-requires c = (full-long _ (sym c.is_full.ensures ∙ c.if-not-is_full.false)).head

pub rows_mean-requires : goal.rows_mean-requires
rows_mean-requires c =
    let l = full-long _ (sym c.is_full.ensures ∙ c.if-not-is_full.false) in
    let k = limits_low _ (sym c.within_limits.ensures ∙ c.if-not-within_limits.false) in (
      l.head,
      omega (arith, l.params, k.params),
      omega (arith, l.styles, k.styles),
      omega (arith, l.regions, k.regions),
      omega (arith, l.sizes, k.styles),
      l.extras,
    )

pub are_cues-requires : goal.are_cues-requires
are_cues-requires c =
    let l = full-long _ (sym c.is_full.ensures ∙ c.if-not-is_full.false) in
    let k = limits_low _ (sym c.within_limits.ensures ∙ c.if-not-within_limits.false) in
    (omega (arith, l.cues, k.cues, c.get-n.ensures), l.extras, omega (arith, l.segments, k.segments, c.get-most.ensures))

pub returns-then-not-bytes_mean : goal.returns-then-not-bytes_mean
returns-then-not-bytes_mean c =
    let f = sym c.is_full.ensures ∙ c.if-not-is_full.false in
    let l = sym c.within_limits.ensures ∙ c.if-not-within_limits.false in
    elim c.then-not-bytes_mean.branch [
      | then-not-bytes_mean-via-then-not-bytes_mean w ↦
          let b = rw (c.get.ensures, c.get-2.ensures) at (sym c.bytes_mean.ensures ∙ w.if-not-bytes_mean.true) in
          promised _ (c.refused-then-not-bytes_mean.ensures ∙ sym (check_none _ f (track_bytes _ l b)))
      | then-not-bytes_mean-via-else-not-bytes_mean+then-not-rows_mean w ↦
          let b = rw (c.get.ensures, c.get-2.ensures) at (sym c.bytes_mean.ensures ∙ w.if-not-bytes_mean.false) in
          let p = rw c.get.ensures at (sym w.rows_mean.ensures ∙ w.if-not-rows_mean.true) in
          promised _ (c.refused-then-not-bytes_mean.ensures ∙ sym (check_none _ f (track_rows _ l b p)))
      | then-not-bytes_mean-via-else-not-bytes_mean+else-not-rows_mean+then-not-are_cues w ↦
          let b = rw (c.get.ensures, c.get-2.ensures) at (sym c.bytes_mean.ensures ∙ w.if-not-bytes_mean.false) in
          let p = rw c.get.ensures at (sym w.rows_mean.ensures ∙ w.if-not-rows_mean.false) in
          let q = rw (c.get.ensures, c.get-2.ensures, c.get-n.ensures, c.get-most.ensures) at (sym w.are_cues.ensures ∙ w.if-not-are_cues.true) in
          promised _ (c.refused-then-not-bytes_mean.ensures ∙ sym (check_none _ f (track_cues _ l b p q)))
    ]

pub returns : goal.returns
returns c =
    let f = sym c.is_full.ensures ∙ c.if-not-is_full.false in
    let l = sym c.within_limits.ensures ∙ c.if-not-within_limits.false in
    let b = rw (c.get.ensures, c.get-2.ensures) at (sym c.bytes_mean.ensures ∙ c.if-not-bytes_mean.false) in
    let p = rw c.get.ensures at (sym c.rows_mean.ensures ∙ c.if-not-rows_mean.false) in
    let q = rw (c.get.ensures, c.get-2.ensures, c.get-n.ensures, c.get-most.ensures) at (sym c.are_cues.ensures ∙ c.if-not-are_cues.false) in
    promised _ (sym (check_track _ f (track_is _ l b p q)))
