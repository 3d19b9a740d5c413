-- `add_named`: the row that is written is that of the layout.
use native.Mathlib.Omega.{arith}
use Rattle.xml.proofs.RowFacts.{has_rows}
use Rattle.heads.proofs.Cells.{rows-small, emptied-small, styled}
use Rattle.heads.proofs.styles.add_named.Goals as goal

pub add_style-requires : goal.add_style-requires
add_style-requires c =
    let own = has_rows c.args.attrs.now.room c.args.attrs.now.within in
    let z = c.args.attrs.now.strings.now in
    let x = c.collect_style_extras-rows.ensures.of_rows own.0 own.1 in (
      c.requires.4,
      c.requires.5,
      (omega (arith, c.requires.6, c.requires.0), omega (arith, c.requires.6, c.requires.0)),
      rw c.or_none-chain.ensures (emptied-small z _ c.chain_of.ensures.len_in_bounds c.requires.0),
      (omega (arith, c.requires.7, c.requires.0), omega (arith, c.requires.7, c.requires.0)),
      rows-small c.collect_style_extras-rows.result x c.args.attrs.now.many c.collect_style_extras-rows.ensures.count_le_many c.requires.1,
    )

pub returns : goal.returns
returns c =
    let z = c.args.attrs.now.strings.now in
    record {
      upper_bound = c.collect_style_extras-rows.ensures.count_le_many;
      of_rows = λ l y.
          styled z _ c.args.name c.chain_of.result c.or_none-chain.result c.args.look c.args.at
          c.collect_style_extras-rows.result
          c.args.n _ _ _ _ _ _ c.requires.6 c.chain_of.ensures.len_in_bounds c.requires.7 (c.chain_of.ensures.of_rows l y) c.or_none-chain.ensures
          (c.collect_style_extras-rows.ensures.of_rows l y) c.requires.3 c.add_style.result c.add_style.ensures.add_post c.add_style.ensures.value_post;
    }
