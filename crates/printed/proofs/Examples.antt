-- Lines of refusals, byte for byte: one table, one computed equation. Assumes nothing.
use Prim.Native.Nat.{ℕ}
use mathlib.Core.Path.{◌≡◌, refl}
use mathlib.Core.List.{List, [], ◌∷◌}
use Rattle.scan.specs.Text.{ascii}
use Rattle.numerals.specs.Written.{padded, decimal_width}
use Rattle.grammar.specs.Words.{Bytes}
use Rattle.printed.specs.Printed.{refusal_line}

pub data Case : Type 0 where
  refusal : (number place : ℕ) → (line : Bytes) → Case

abbrev outcome : Case → Case
outcome (refusal number place line) = refusal number place (refusal_line (record { number = number; place = place }))

abbrev outcomes : List Case → List Case
outcomes [] = []
outcomes (c ∷ l) = outcome c ∷ outcomes l

abbrev pub cases : List Case
cases =
    refusal 8 153 (ascii "8 153\n")  -- `examples/films/malformed.ttml`
    ∷ refusal 12 0 (ascii "12 0\n")
    ∷ refusal 2 0 (ascii "2 0\n")
    ∷ refusal 3 65535 (ascii "3 65535\n")
    ∷ []

pub cases_hold : outcomes cases ≡ cases
unfolding refusal_line padded decimal_width
cases_hold = refl
