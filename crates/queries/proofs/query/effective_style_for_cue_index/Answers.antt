-- `effective_style_for_cue_index` meets its contract. Assumes nothing.
use Rattle.scan.proofs.Handed.{handed_on}
use Rattle.track.proofs.Exactly.{checked-is}
use mathlib.Core.Path.{refl, sym, ◌∙◌}
use native.Mathlib.Omega.{arith}
use Rattle.queries.proofs.Handed.{lengths, ready, has_regions, cues_few, cue_spans}
use Rattle.queries.proofs.Promising.{check_taken, check_none_asked, checked-query}
use Rattle.queries.proofs.Asking.{cue_past, cue_refuses, cue_asked}
use Rattle.queries.specs.Promise.{of_cue_of}
use Rattle.queries.proofs.query.effective_style_for_cue_index.Goals as goal

pub get-requires : goal.get-requires
get-requires c =
    let a = check_taken _ _ (check_none_asked _ ∙ (sym (checked-is _ c.check_track.ensures) ∙ c.in_ok-check_track.was)) in
    omega (arith, (lengths _ a.0.full).head)

pub returns-then-get-cue_index : goal.returns-then-get-cue_index
returns-then-get-cue_index c =
    let h = check_none_asked _ ∙ (sym (checked-is _ c.check_track.ensures) ∙ c.in_ok-check_track.was) in
    cue_past _ _ _ h (rw c.get.ensures at c.if-get-cue_index.true) _ c.clear.ensures

pub cue_at-cue-requires : goal.cue_at-cue-requires
cue_at-cue-requires c =
    let a = check_taken _ _ (check_none_asked _ ∙ (sym (checked-is _ c.check_track.ensures) ∙ c.in_ok-check_track.was)) in
    let l = lengths _ a.0.full in
    let f = cues_few _ a.0 in
    (omega (arith, l.cues, f, c.get.ensures, c.if-get-cue_index.false), omega (arith, l.times, f, c.get.ensures, c.if-get-cue_index.false))

pub get-m-requires : goal.get-m-requires
get-m-requires c =
    let a = check_taken _ _ (check_none_asked _ ∙ (sym (checked-is _ c.check_track.ensures) ∙ c.in_ok-check_track.was)) in
    omega (arith, (lengths _ a.0.full).head)

pub get-requires-2 : goal.get-requires-2
get-requires-2 c =
    let a = check_taken _ _ (check_none_asked _ ∙ (sym (checked-is _ c.check_track.ensures) ∙ c.in_ok-check_track.was)) in
    omega (arith, (lengths _ a.0.full).head)

pub returns-in_err-check_track : goal.returns-in_err-check_track
returns-in_err-check_track c =
    rw (handed_on _ c.from_residual.ensures) (checked-query (of_cue_of _) _ _ _ (check_none_asked _ ∙ (sym (checked-is _ c.check_track.ensures) ∙ c.in_err-check_track.was)) _
    c.clear.ensures)

pub returns-in-Err : goal.returns-in-Err
returns-in-Err c =
    let h = check_none_asked _ ∙ (sym (checked-is _ c.check_track.ensures) ∙ c.in_ok-check_track.was) in
    rw c.refused.ensures (cue_refuses _ _ _ h (omega (arith, c.get.ensures, c.if-get-cue_index.false)) _ (rw
    (c.in-Err.is, c.get-m.ensures, c.cue_at-cue.ensures) at c.cue_part.ensures) _ c.clear.ensures)

pub returns : goal.returns
returns c =
    let h = check_none_asked _ ∙ (sym (checked-is _ c.check_track.ensures) ∙ c.in_ok-check_track.was) in
    cue_asked _ _ _ h (omega (arith, c.get.ensures, c.if-get-cue_index.false)) _ (rw (c.in-Ok.is, c.get-m.ensures, c.cue_at-cue.ensures) at
    c.cue_part.ensures) _ _ _ c.clear.ensures c.resolve_over-walked.result _
    (rw (c.get-2.ensures, c.cue_at-cue.ensures) at c.resolve_over-walked.ensures) c.finish.ensures

pub cue_part-requires : goal.cue_part-requires
cue_part-requires c =
    let a = check_taken _ _ (check_none_asked _ ∙ (sym (checked-is _ c.check_track.ensures) ∙ c.in_ok-check_track.was)) in (
      rw c.get-m.ensures (has_regions _ a.0),
      rw c.cue_at-cue.ensures (cue_spans _ a.0 c.args.cue_index (omega
          (arith, c.get.ensures, c.if-get-cue_index.false))).1,
    )

pub invariant_of-named : goal.invariant_of-named
invariant_of-named c =
    let a = check_taken _ _ (check_none_asked _ ∙ (sym (checked-is _ c.check_track.ensures) ∙ c.in_ok-check_track.was)) in
    record { ready = rw c.get-2.ensures (ready _ a.0) }

pub resolve_over-walked-requires : goal.resolve_over-walked-requires
resolve_over-walked-requires c =
    let a = check_taken _ _ (check_none_asked _ ∙ (sym (checked-is _ c.check_track.ensures) ∙ c.in_ok-check_track.was)) in
    let p = rw c.in-Ok.is at c.cue_part.ensures in
    let s = (cue_spans _ a.0 c.args.cue_index (omega (arith, c.get.ensures, c.if-get-cue_index.false))).0 in (
      record { known = omega arith; is = refl; within = p.within.0.within; few = p.within.0.few },
      record { known = omega arith; is = refl; within = rw c.cue_at-cue.ensures s.within; few = rw c.cue_at-cue.ensures s.few },
    )
