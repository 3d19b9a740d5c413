-- Steps of the program, which contracts of inner functions cite. They need not be believed: `proofs/Names.antt` and `proofs/Reading.antt`
-- show that they make up what `Named` and `Colors` say.
use Rattle.std.specs.Prelude.{Option, Some, None, Result, ℕ, ◌+◌, ◌*◌, ◌≤◌, ◌≡◌, Bool, cond, ◌&&◌, ◌⊎◌, List, eqb, ltb, length, get_or, take}
use Rattle.scan.specs.Bytes.{other, run_end_of}
use Rattle.numerals.specs.Numerals.{digit_of}
use Rattle.colors.specs.declared.read.Rgba.{Rgba}
use Rattle.colors.specs.Named.{rgba}
use Rattle.colors.specs.Colors.{hex_channel, once, twice, color_of, full}
use Rattle.colors.specs.declared.read.ColorError.{ColorError}
use Rattle.numerals.specs.declared.Whole.{Whole}

-- ---- names
-- what stands before the first blank of a row
abbrev pub front : List ℕ → List ℕ
front row = take (run_end_of (other 32) row 0) row

-- the colour of a row of four values
abbrev pub row_color : List ℕ → Rgba
row_color v = rgba (get_or v 0 0) (get_or v 1 0) (get_or v 2 0) (get_or v 3 0)

-- ---- channels
-- a number that is a channel
abbrev pub Small : Option Whole → Type 0
Small (Some w) = w.magnitude ≤ 255
Small None = Unit {0}

-- the text has three channels of the width
pub record Channels (s : List ℕ) (width : ℕ) : Type 0 where
  pub some : 1 ≤ width
  pub few : width ≤ 2
  pub room : 3 * width ≤ length s

-- one digit counts twice, two digits once
abbrev pub copies : ℕ → List ℕ → List ℕ
copies width w = cond (eqb width 1) (twice w) (once w)

-- the channel of the width from a place on, and three of them from the first place on
abbrev pub channel_at : List ℕ → ℕ → ℕ → Result ℕ ColorError
channel_at s at width = hex_channel s at (at + width) (copies width)

abbrev pub hex_channels : List ℕ → ℕ → Result ℕ ColorError → Result Rgba ColorError
hex_channels s width alpha = color_of (channel_at s 0 width) (channel_at s width width) (channel_at s (2 * width) width) alpha

-- the alpha of a text of eight bytes; any other is opaque
abbrev pub alpha_at : List ℕ → Result ℕ ColorError
alpha_at s = cond (eqb (length s) 8) (channel_at s 6 2) full

-- the byte at a place is a hexadecimal digit; the three from a place on are; a text of the length of a colour
abbrev pub hex_at : List ℕ → ℕ → Bool
hex_at s i = ltb (digit_of (get_or s i 0)) 16

abbrev pub three_hex : List ℕ → ℕ → Bool
three_hex s i = hex_at s i && (hex_at s (i + 1) && hex_at s (i + 2))

abbrev pub HexLength : List ℕ → Type 0
HexLength s = (length s ≡ 3) ⊎ (length s ≡ 6) ⊎ (length s ≡ 8)
