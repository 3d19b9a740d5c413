-- `any_white_at` answers the width of the white-space character at the place, from the sequence there and its code point.
use mathlib.Core.Path.{sym, ap, ◌∙◌}
use Rattle.utf8.specs.WhiteSpace.{is_white}
use Rattle.utf8.proofs.WhiteLaws.{white_at-none, white_at-other, white_at-white}
use borrow.Author.Rules.{rules}
use native.Mathlib.Omega.{arith}
use Rattle.utf8.proofs.white.any_white_at.Goals as goal
use Rattle.utf8.proofs.white.any_white_at.Goals.{else-width-ne0-via-then-width-ne0+else-is_white, else-width-ne0-via-else-width-ne0}

pub returns-then-is_white : goal.returns-then-is_white
returns-then-is_white c =
    let white = ap is_white (sym c.char_at.ensures) ∙ (sym c.is_white.ensures ∙ c.if-is_white.true) in
    record {
      is = sym (white_at-white c.args.src.now _ _ c.sequence_at-width.ensures.is c.if-width-ne0.true white);
      within_text = search rules;
    }

pub returns-else-width-ne0 : goal.returns-else-width-ne0
returns-else-width-ne0 c =
    record {
      is = elim c.else-width-ne0.branch [
        | else-width-ne0-via-then-width-ne0+else-is_white w ↦
            sym (white_at-other c.args.src.now _ _ c.sequence_at-width.ensures.is
            (ap is_white (sym w.char_at.ensures) ∙ (sym w.is_white.ensures ∙ w.if-is_white.false)))
        | else-width-ne0-via-else-width-ne0 w ↦ sym (white_at-none c.args.src.now _ _ c.sequence_at-width.ensures.is (omega arith))
      ];
      within_text = search rules;
    }
