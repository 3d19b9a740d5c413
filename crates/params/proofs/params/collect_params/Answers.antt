use Prim.Native.Nat.{◌*◌}
use mathlib.Core.Path.{refl, ap, ◌∙◌}
use native.Mathlib.Omega.{arith}
use lib.ListN.{length}
use lib.Seq.{length-sets}
use Rattle.xml.proofs.RowFacts.{has_rows}
use Rattle.xml.proofs.AttrRows.{row_fits, end_fits}
use Rattle.params.specs.Rows.{params_at, placed_params}
use Rattle.params.proofs.Adding.{listing_start, listing_on, listing_all, listing_full, value-fits}
use Rattle.params.proofs.params.collect_params.Goals as goal

pub overflow_add-end : goal.overflow_add-end
overflow_add-end c =
    record { fits = end_fits (has_rows c.args.attrs.now.room c.args.attrs.now.within) _ (omega arith) (omega arith) }

pub loop-k-init : goal.loop-k-init
loop-k-init c =
    (refl, omega arith, λ l y. listing_start _ y)

pub add_at-requires : goal.add_at-requires
add_at-requires c =
    let own = has_rows c.args.attrs.now.room c.args.attrs.now.within in (
      row_fits own (λ l y. (c.loop-k.invariant.2 l y).rest) c.loop-k-test.true,
      value-fits (c.loop-k.invariant.2 own.0 own.1) c.loop-k-test.true,
      c.requires.0,
      omega (arith, c.loop-k.invariant.0, c.requires.1),
    )

pub returns-in_err-n : goal.returns-in_err-n
returns-in_err-n c =
    let a = c.in_err-n.ensures in
    rw c.from_residual.ensures (λ l y. listing_full (c.loop-k.invariant.2 l y) c.loop-k-test.true a.0 c.loop-k.invariant.1 _ a.1 a.2)

pub loop-k-preserved : goal.loop-k-preserved
loop-k-preserved c =
    let a = c.in_ok-n.ensures in
    let row = placed_params (params_at c.args.attrs.now.attrs.now c.args.attrs.now.strings.now c.loop-k.k) in (
      ap length a.2 ∙ (length-sets c.loop-k.params (c.loop-k.n * 4) row ∙ c.loop-k.invariant.0),
      a.1 c.loop-k.invariant.1,
      λ l y. listing_on (c.loop-k.invariant.2 l y) c.loop-k-test.true _ a.0 _ a.2,
    )

pub shape_of-params : goal.shape_of-params
shape_of-params c =
    c.loop-k.invariant.0

pub returns : goal.returns
returns c =
    λ l y. let w = listing_all (c.loop-k.invariant.2 l y) c.loop-k-test.false in (w.0, c.loop-k.invariant.1, w.1)
