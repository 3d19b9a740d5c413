-- `is_underline` is one of the tests.
use borrow.Author.Rules.{rules}
use Rattle.meaning.specs.Styling.{is_underline}
use Rattle.styling.proofs.tests.is_underline.Goals as goal

pub returns : goal.returns
returns c =
    λ l y. c.says.ensures is_underline (λ v r k. search rules) l y
