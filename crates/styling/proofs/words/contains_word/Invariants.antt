-- `contains_word` meets its contract: the word stands in the value as it stands in what is left from i on.
use mathlib.Core.Path.{◌≡◌}
use lib.ListN.{drop}
use Rattle.scan.specs.Names.{lower}
use Rattle.track.specs.Layout.{each}
use Rattle.meaning.specs.Words.{contains, contains_folded}
use Rattle.styling.proofs.words.contains_word.Given as goal

abbrev pub invariant-loop-i : goal.invariant-loop-i
invariant-loop-i l = contains_folded l.word l.value ≡ contains l.word (each lower (drop l.i l.value))
