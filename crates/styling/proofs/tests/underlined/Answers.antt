-- `underlined`: the word is in small letters.
use mathlib.Core.Path.{refl}
use Rattle.scan.specs.Names.{lower}
use Rattle.track.specs.Layout.{each}
use Rattle.styling.proofs.tests.underlined.Goals as goal

pub contains_word-requires : goal.contains_word-requires
unfolding each lower
contains_word-requires c =
    refl
