-- `lookup_number` meets its contract: the check finds all but the hexadecimal digits after an x.
use Prim.Native.Nat.{ℕ}
use mathlib.Core.Path.{sym, ap, ◌∙◌}
use mathlib.Core.Bool.{false}
use mathlib.Core.List.{List}
use native.Mathlib.Omega.{arith}
use Rattle.numerals.specs.Numerals.{numeral_of}
use Rattle.numerals.proofs.Numerals.{after-sign}
use Rattle.entities.specs.Reference.{character}
use Rattle.entities.proofs.References.{number-hex}
use Rattle.entities.proofs.reference.lookup_number.Goals as goal

pub returns-in-120 : goal.returns-in-120
returns-in-120 c =
    let s = c.args.rest.now in
    c.char_of.ensures ∙ (ap character (c.read_numeral.ensures ∙ ap (λ (l : List ℕ). numeral_of l 16 0xFFFF_FFFF false) (after-sign s))
    ∙ sym (number-hex s (omega arith) (λ n. omega arith)))
