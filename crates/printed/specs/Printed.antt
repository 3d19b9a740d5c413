-- What program `recaption` prints (document 01, "Output"). Definitions alone.
use Rattle.std.specs.Prelude.{Option, Some, Result, Ok, Err, ℕ, ◌≡◌}
use Rattle.scan.specs.Posts.{Wrote}
use Rattle.scan.specs.Text.{ascii}
use Rattle.numerals.specs.Written.{padded, decimal_width}
use Rattle.grammar.specs.Words.{Bytes, ◌then◌}
use Rattle.tree.specs.declared.answers.Refusal.{Refusal}

-- a number in decimal digits, without zeros in front
abbrev pub decimal : ℕ → Bytes
decimal n = padded 10 (decimal_width n) n

-- "only the number, a blank, the place and LF"
unfoldable pub refusal_line : Refusal → Bytes
refusal_line r = decimal r.number then ascii " " then decimal r.place then ascii "\n"

-- What is printed are the first bytes of `after`, as many as are told; all others are as in `before`.
--     "writes TTML": the text that was written, which stands in `before`
--     "on a refusal only" the line; or it does not fit, and nothing is changed
abbrev pub Prints : Result ℕ Refusal → (before after : Bytes) → Option ℕ → Type 0
Prints (Ok n) before after w = (w ≡ Some n) × (after ≡ before)
Prints (Err r) before after w = Wrote (refusal_line r) 0 before after w
