use mir.ValLaws as laws
use mir.Syntax.{w64}
use Rattle.meaning.specs.Kinds.{attrs_in}
use native.Mathlib.Omega.{arith}
use Rattle.scan.proofs.Handed.{handed_on}
use Rattle.xml.proofs.RowFacts.{has_rows}
use Rattle.cues.proofs.Cued.{part_small, rows-small, full_of, cue_added}
use Rattle.cues.proofs.cue.add_paragraph.Goals as goal

-- src/cue.rt:113:11
pub add_cue-requires : goal.add_cue-requires
add_cue-requires c =
    let own = has_rows c.args.attrs.now.room c.args.attrs.now.within in (
      c.requires.in-cues,
      c.requires.in_times,
      rw c.unwrap_or.ensures
          (part_small c.value_of-style.result (c.value_of-style.ensures own.0 own.1) c.requires.small),
      rw c.unwrap_or-2.ensures
          (part_small c.value_of-region.result (c.value_of-region.ensures own.0 own.1) c.requires.small),
      (omega (arith, c.requires.after, c.requires.few), omega (arith, c.requires.after, c.requires.few)),
      rows-small c.collect_p_inline_extras-kept.result (c.collect_p_inline_extras-kept.ensures.of_rows own.0 own.1) c.args.attrs.now.many c.collect_p_inline_extras-kept.ensures.count_le_many (omega (arith, c.requires.kept)),
    )

-- src/cue.rt:121:21
pub overflow_add-result : goal.overflow_add-result
overflow_add-result c =
    omega (arith, c.collect_p_inline_extras-kept.ensures.count_le_many, c.requires.kept)

-- src/cue.rt:69:1
pub returns-in_err-n : goal.returns-in_err-n
returns-in_err-n c =
    let none = rw c.in_err-n.was at c.ok_or.ensures.ok_part in
    let full = full_of c.add_cue.result (rw c.in_err-n.was at c.ok_or.ensures.value) none in
    rw (handed_on _ c.from_residual.ensures) (λ l o. ((rw none at c.add_cue.ensures.add_post).0, full))

-- src/cue.rt:69:1
pub returns : goal.returns
returns c =
    λ l o.
    let from = laws.to_z-of_z w64 c.args.when.start (record { sfits = omega arith }) in
    let to = laws.to_z-of_z w64 c.args.when.end (record { sfits = omega arith }) in
    let added = rw c.in_ok-n.was at c.ok_or.ensures.ok_part in
    let row = simp (from, to, c.is_some.ensures, c.unwrap_or.ensures, c.is_some-2.ensures, c.unwrap_or-2.ensures) at (rw added at c.add_cue.ensures.add_post) in
    let times = simp (from, to) at (rw added at c.add_cue.ensures.times_post) in
    rw to
    (cue_added c.args.place c.args.attrs.now.many c.args.when c.args.ws c.args.line c.args.rows (attrs_in c.args.attrs.now.strings.now l) c.value_of-style.result c.value_of-region.result
    c.is_preserve.result c.collect_p_inline_extras-kept.result c.args.cues.now c.add_cue.new.cues c.args.times.now c.add_cue.new.times c.in_ok-n.n (c.value_of-style.ensures l o)
    (c.value_of-region.ensures l o) c.is_preserve.ensures (c.collect_p_inline_extras-kept.ensures.of_rows l o) c.collect_p_inline_extras-kept.ensures.count_le_many row times)
