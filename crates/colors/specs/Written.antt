-- A colour written in hexadecimal, as the Rust's `{:02X}` has it. Definitions alone.
use Rattle.std.specs.Prelude.{ℕ, List, [], ◌∷◌, ◌++◌}
use Rattle.numerals.specs.Written.{padded}
use Rattle.colors.specs.declared.read.Rgba.{Rgba}

abbrev pub hex : ℕ → List ℕ
hex n = padded 16 2 n

-- `#RRGGBB`
unfoldable pub rgb_text : Rgba → List ℕ
rgb_text c = (35 ∷ []) ++ hex c.r ++ hex c.g ++ hex c.b

-- `#RRGGBBAA`
unfoldable pub rgba_text : Rgba → List ℕ
unfolding rgb_text
rgba_text c = rgb_text c ++ hex c.a
