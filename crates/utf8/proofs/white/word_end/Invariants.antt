-- `word_end` answers where the word at the place ends. The loop's invariant: it ends where that at `i` does.
use mathlib.Core.Path.{◌≡◌}
use Rattle.utf8.specs.Steps.{word_end_of}
use Rattle.utf8.proofs.white.word_end.Given as goal

abbrev pub invariant-loop-i : goal.invariant-loop-i
invariant-loop-i l = word_end_of l.src l.pos ≡ word_end_of l.src l.i
