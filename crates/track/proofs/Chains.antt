-- What a test that the code makes of a call's answer shows of the definition that the answer equals. Assumes nothing.
--     fails, holds    after `if !f(..)`
use mathlib.Core.Path.{◌≡◌, sym, ◌∙◌}
use mathlib.Core.Bool.{Bool, true, false, not}
use borrow.Author.Tests.{not-true, not-false}

module _ {r t : Bool} (e : r ≡ t) where
  pub fails : not r ≡ true → t ≡ false
  fails h = sym e ∙ not-true r h

  pub holds : not r ≡ false → t ≡ true
  holds h = sym e ∙ not-false r h
