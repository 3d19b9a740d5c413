-- `is_strike` is one of the tests.
use borrow.Author.Rules.{rules}
use Rattle.meaning.specs.Styling.{is_strike}
use Rattle.styling.proofs.tests.is_strike.Goals as goal

pub returns : goal.returns
returns c =
    λ l y. c.says.ensures is_strike (λ v r k. search rules) l y
