-- `apply_tts_attrs`: the colours, then the size.
use mathlib.Core.Path.{ap, ◌∙◌}
use Rattle.scan.proofs.Handed.{handed_on}
use Rattle.meaning.specs.Answers.{is}
use Rattle.xml.proofs.RowFacts.{has_rows}
use Rattle.styling.proofs.Looks.{look-sized, size-refused, look-backed, back_refused, look-colored, color-refused}
use Rattle.styling.proofs.look.apply_tts_attrs.Goals as goal

pub returns : goal.returns
returns c =
    record {
      look_fits = rw c.look_of.ensures.family_value (c.font_of-font.ensures (has_rows c.args.attrs.now.room c.args.attrs.now.within).0 (has_rows c.args.attrs.now.room c.args.attrs.now.within).1).within;
      of_rows = λ l y. ap is (c.look_of.ensures.of_rows l y ∙ rw ((c.font_of-font.ensures l y).family_is, (c.font_of-font.ensures l y).size_is))
          ∙ (look-sized _ _ _ _ (c.in_ok-size.ensures l y)
          ∙ (look-backed _ _ _ (c.in_ok-back.ensures l y) ∙ look-colored _ _ (c.in_ok-color.ensures l y)));
    }

pub returns-in_err-color : goal.returns-in_err-color
returns-in_err-color c =
    rw (handed_on _ c.from_residual.ensures) (record {
      look_fits = tt;
      of_rows = λ l y. color-refused _ _ (c.in_err-color.ensures l y);
    })

pub returns-in_err-back : goal.returns-in_err-back
returns-in_err-back c =
    rw (handed_on _ c.from_residual-in_err-back.ensures) (record {
      look_fits = tt;
      of_rows = λ l y. back_refused _ _ _ (c.in_err-back.ensures l y) ∙ look-colored _ _ (c.in_ok-color.ensures l y);
    })

pub returns-in_err-size : goal.returns-in_err-size
returns-in_err-size c =
    rw (handed_on _ c.from_residual-in_err-size.ensures) (record {
      look_fits = tt;
      of_rows = λ l y. size-refused _ _ _ _ (c.in_err-size.ensures l y)
          ∙ (look-backed _ _ _ (c.in_ok-back.ensures l y) ∙ look-colored _ _ (c.in_ok-color.ensures l y));
    })
