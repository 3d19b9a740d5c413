use mathlib.Core.Path.{refl, ap, ◌∙◌}
use native.Mathlib.Omega.{arith}
use lib.ListN.{length}
use Rattle.styling.specs.Posts.{name_at}
use Rattle.xml.proofs.RowFacts.{has_rows}
use Rattle.xml.proofs.AttrRows.{row_fits, end_fits}
use Rattle.extras.specs.Kept.{NumberFits}
use Rattle.extras.proofs.Noting.{noted-start, noted-on, noted-all, fits_on, number_fits, long_note, number-below, number-under, none-on}
use Rattle.extras.proofs.extras.first_rows.Goals as goal

pub overflow_add-end : goal.overflow_add-end
overflow_add-end c =
    record { fits = end_fits (has_rows c.args.attrs.now.room c.args.attrs.now.within) _ (omega arith) (omega arith) }

pub loop-k-init : goal.loop-k-init
loop-k-init c =
    let zero = c.requires.1 in
    (refl, λ i g. absurd (g (zero i)), λ l y. noted-start _ y zero, (omega arith, λ i h. zero i))

pub number_at-number-requires : goal.number_at-number-requires
number_at-number-requires c =
    row_fits (has_rows c.args.attrs.now.room c.args.attrs.now.within) (λ l y. (c.loop-k.invariant.2 l y).rest) c.loop-k-test.true

pub past-last-requires : goal.past-last-requires
past-last-requires c =
    number-under c.args.list (name_at c.args.attrs.now.attrs.now c.args.attrs.now.strings.now c.loop-k.k) c.number_at-number.result c.number_at-number.ensures

pub overflow_add-k : goal.overflow_add-k
overflow_add-k c =
    omega (arith, (row_fits (has_rows c.args.attrs.now.room c.args.attrs.now.within) (λ l y. (c.loop-k.invariant.2 l y).rest) c.loop-k-test.true).0)

pub note-requires : goal.note-requires
note-requires c =
    number_fits c.args.list (name_at c.args.attrs.now.attrs.now c.args.attrs.now.strings.now c.loop-k.k) c.loop-k.rows (omega
    (arith, c.loop-k.invariant.0, c.requires.0)) c.number_at-number.result c.number_at-number.ensures

pub loop-k-preserved : goal.loop-k-preserved
loop-k-preserved c =
    let old = c.loop-k.invariant in
    let n = c.number_at-number.ensures in
    let name = name_at c.args.attrs.now.attrs.now c.args.attrs.now.strings.now c.loop-k.k in
    let fit : NumberFits c.loop-k.rows c.number_at-number.result = number_fits c.args.list name c.loop-k.rows (omega
    (arith, old.0, c.requires.0)) c.number_at-number.result n in
    let own = has_rows c.args.attrs.now.room c.args.attrs.now.within in (
      ap length c.note.ensures ∙ (long_note c.loop-k.rows c.number_at-number.result _ ∙ old.0),
      fits_on (old.2 own.0 own.1) c.loop-k-test.true old.1 c.number_at-number.result fit _ c.note.ensures,
      λ l y. noted-on (old.2 l y) c.loop-k-test.true c.number_at-number.result n fit _ c.note.ensures,
      none-on c.args.list c.loop-k.rows c.loop-k.last old.3 c.number_at-number.result
          (number-below c.args.list name c.number_at-number.result n) _ _ c.past-last.ensures _ c.note.ensures,
    )

pub shape_of-rows : goal.shape_of-rows
shape_of-rows c =
    c.loop-k.invariant.0

pub returns : goal.returns
returns c =
    let inv = c.loop-k.invariant in
    record {
      none_from = inv.3;
      rows_fit = inv.1;
      of_rows = λ l y. noted-all (inv.2 l y) c.loop-k-test.false;
    }
