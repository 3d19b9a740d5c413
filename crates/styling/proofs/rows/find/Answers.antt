-- `find` answers what `attr` does.
use Rattle.xml.proofs.RowFacts.{has_rows}
use Rattle.meaning.specs.Kinds.{attrs_in}
use Rattle.styling.proofs.Attributes.{value-finds, finds-fit}
use Rattle.styling.proofs.rows.find.Goals as goal

pub returns : goal.returns
returns c =
    let a = c.args.attrs.now in
    let own = has_rows a.room a.within in
    record {
      fits = finds-fit a.strings.now c.args.name.now (attrs_in a.strings.now own.0) c.attr.result
          (rw (c.attr.ensures own.0 own.1) (value-finds _ c.args.name.now own.0 own.1.within));
      of_rows = λ l y. rw (c.attr.ensures l y) (value-finds _ _ l y.within);
    }
