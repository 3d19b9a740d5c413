-- `is_italic` is one of the tests.
use borrow.Author.Rules.{rules}
use Rattle.meaning.specs.Styling.{is_italic}
use Rattle.styling.proofs.tests.is_italic.Goals as goal

pub returns : goal.returns
returns c =
    λ l y. c.says.ensures is_italic (λ v r k. search rules) l y
