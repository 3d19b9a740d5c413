-- `lang_of`: what `seek` answers.
use Rattle.meaning.specs.Meaning.{lang_of}
use Rattle.xml.proofs.RowFacts.{has_rows}
use Rattle.params.proofs.Seeking.{meets-fits, meets-value}
use Rattle.params.proofs.ids.lang_of.Goals as goal

pub returns : goal.returns
unfolding lang_of
returns c =
    let own = has_rows c.args.attrs.now.room c.args.attrs.now.within in
    record {
      found_fits = meets-fits _ _ _ c.seek.result (c.seek.ensures own.0 own.1);
      of_rows = λ l y. meets-value _ _ _ c.seek.result (c.seek.ensures l y);
    }
