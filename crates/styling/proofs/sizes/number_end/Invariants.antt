-- `number_end` meets its contract: the last digit or point of the value is that of its first i bytes.
use mathlib.Core.Path.{◌≡◌}
use lib.ListN.{take}
use Rattle.meaning.specs.Words.{up_to_last}
use Rattle.meaning.specs.Styling.{number_byte}
use Rattle.styling.proofs.sizes.number_end.Given as goal

abbrev pub invariant-loop-i : goal.invariant-loop-i
invariant-loop-i l = (up_to_last number_byte l.value ≡ up_to_last number_byte (take l.i l.value))
