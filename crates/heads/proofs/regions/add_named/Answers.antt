-- `add_named`: the row that is written is that of the layout.
use native.Mathlib.Omega.{arith}
use Rattle.xml.proofs.RowFacts.{has_rows}
use Rattle.heads.proofs.Cells.{rows-small, placed}
use Rattle.heads.proofs.regions.add_named.Goals as goal

pub add-requires : goal.add-requires
add-requires c =
    let own = has_rows c.args.attrs.now.room c.args.attrs.now.within in
    let x = c.collect_region_attrs-rows.ensures.of_rows own.0 own.1 in (
      c.requires.4,
      (
        (omega (arith, c.requires.5, c.requires.0), omega (arith, c.requires.5, c.requires.0)),
        rows-small c.collect_region_attrs-rows.result x c.args.attrs.now.many c.collect_region_attrs-rows.ensures.count_le_many c.requires.1,
      ),
    )

pub returns : goal.returns
returns c =
    let z = c.args.attrs.now.strings.now in
    record {
      upper_bound = c.collect_region_attrs-rows.ensures.count_le_many;
      of_rows = λ l y.
          placed z _ c.args.id c.args.at c.collect_region_attrs-rows.result c.args.n _ _ _ _ c.requires.5
          (c.collect_region_attrs-rows.ensures.of_rows l y) c.requires.3 c.add.result c.add.ensures;
    }
