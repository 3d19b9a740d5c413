-- `collect`: the entries are those of the attributes, and there are no more extras than attributes.
use native.Mathlib.Omega.{arith}
use Rattle.xml.proofs.RowFacts.{has_rows}
use Rattle.meaning.specs.Kinds.{attrs_in}
use Rattle.extras.proofs.Noting.{few_names}
use Rattle.extras.proofs.Keeping.{few_extras, lists_from, all_zero}
use Rattle.extras.proofs.extras.collect.Goals as goal

pub first_rows-end-requires : goal.first_rows-end-requires
first_rows-end-requires c =
    (few_names c.args.list, all_zero 53)

pub keep_all-n-requires : goal.keep_all-n-requires
keep_all-n-requires c =
    let own = has_rows c.args.attrs.now.room c.args.attrs.now.within in
    let z = c.args.attrs.now.strings.now in (
      c.first_rows-end.ensures.rows_fit,
      omega (arith, few_names c.args.list),
      c.first_rows-end.ensures.none_from,
      c.requires.1,
      (attrs_in z own.0, c.first_rows-end.ensures.of_rows own.0 own.1, omega (arith, few_extras c.args.list own.1, c.requires.0)),
    )

pub returns : goal.returns
returns c =
    let own = has_rows c.args.attrs.now.room c.args.attrs.now.within in
    let z = c.args.attrs.now.strings.now in
    let firsts = c.first_rows-end.ensures.of_rows in
    let mine = lists_from _ (c.keep_all-n.ensures (attrs_in z own.0) (firsts own.0 own.1)) c.rows_from.ensures in
    record {
      count_le_many = omega (arith, mine.count, few_extras c.args.list own.1);
      of_rows = λ l y. lists_from _ (c.keep_all-n.ensures (attrs_in z l) (firsts l y)) c.rows_from.ensures;
    }
