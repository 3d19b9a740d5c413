-- `struck`: one word or the other.
use mathlib.Core.Path.{refl, sym, ◌∙◌}
use Rattle.scan.specs.Names.{lower}
use Rattle.track.specs.Layout.{each}
use Rattle.styling.proofs.tests.struck.Goals as goal

pub contains_word-requires : goal.contains_word-requires
unfolding each lower
contains_word-requires c =
    refl

pub contains_word-requires-else-contains_word : goal.contains_word-requires-else-contains_word
unfolding each lower
contains_word-requires-else-contains_word c =
    refl

pub returns-then-contains_word : goal.returns-then-contains_word
returns-then-contains_word c =
    let e = sym c.contains_word.ensures ∙ c.if-contains_word.true in rw (c.contains_word.ensures, e)

pub returns-else-contains_word : goal.returns-else-contains_word
returns-else-contains_word c =
    let e = sym c.contains_word.ensures ∙ c.if-contains_word.false in rw (c.contains_word-else-contains_word.ensures, e)
