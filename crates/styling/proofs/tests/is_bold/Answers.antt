-- `is_bold` is one of the tests.
use borrow.Author.Rules.{rules}
use Rattle.meaning.specs.Styling.{is_bold}
use Rattle.styling.proofs.tests.is_bold.Goals as goal

pub returns : goal.returns
returns c =
    λ l y. c.says.ensures is_bold (λ v r k. search rules) l y
