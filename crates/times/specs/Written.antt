-- A time written as a clock time, from the Rust's `format_ts`. Definitions alone.
use Rattle.std.specs.Prelude.{ℕ, ◌/◌, ◌%◌, max, List, [], ◌∷◌, ◌++◌, ℤ, pos, negsuc}
use Rattle.numerals.specs.Written.{padded, decimal_width}

-- whole milliseconds, rounded down; a time below zero is raised to zero
unfoldable pub millis : ℤ → ℕ
millis (pos n) = n / 1000
millis (negsuc n) = 0

-- so many digits and the mark after them
unfoldable pub field : ℕ → ℕ → ℕ → List ℕ
field width n mark = padded 10 width n ++ (mark ∷ [])

-- hours have two digits, or as many as they need
unfoldable pub hours_width : ℕ → ℕ
hours_width h = max 2 (decimal_width h)

-- `hh:mm:ss.mmm` of milliseconds
unfoldable pub clock_of_millis : ℕ → List ℕ
unfolding field hours_width
clock_of_millis t =
    field (hours_width (t / 3600000)) (t / 3600000) 58
    ++ field 2 (t / 60000 % 60) 58
    ++ field 2 (t / 1000 % 60) 46
    ++ padded 10 3 (t % 1000)

unfoldable pub clock_text : ℤ → List ℕ
unfolding millis clock_of_millis
clock_text z = clock_of_millis (millis z)
