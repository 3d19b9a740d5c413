-- `put_answer` meets its contract: its parts, one after the other.
use borrow.Author.Rules.{rules}
use Rattle.told.proofs.cells.put_answer.Goals as goal

pub returns : goal.returns
returns c =
    record {
      cells = rw (c.put_rest.ensures, c.put_font.ensures, c.put_colors.ensures, c.put_start.ensures);
      float = search rules;
    }
